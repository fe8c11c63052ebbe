use Rattle.std.proofs.Common.{◌≡◌, ◌∙◌, ◌++◌, ◌∷◌, [], ℕ, List, length, sym, ap, subst}
use Rattle.std.proofs.lemmas.Result.{on_ok_weaker, on_err_weaker}
use Rattle.std.specs.Prelude.{IsTrue}
use Rattle.std.specs.List.{list_all}
use Rattle.asp_bits.specs.Places.{true_places}
use Rattle.asp_defs.specs.declared.ground.GroundRule.{GroundRule}
use Rattle.asp_defs.specs.declared.ground.Lit.{Lit}
use Rattle.asp_defs.specs.Interpretations.{holds}
use Rattle.asp_defs.specs.Lists.{is_empty}
use Rattle.asp_defs.specs.Unfounded.{is_unfounded}
use Rattle.asp_reduct.specs.Bounds.{is_rule_below}
use Rattle.asp_search.specs.Found.{assignment_of}
use Rattle.asp_minimal.specs.Nogoods.{IsNogood}
use Rattle.asp_completion.specs.Levels.{rules_at}
use Rattle.asp_answers.proofs.Below.{rules-below}
use Rattle.asp_answers.proofs.Steps.{candidate-nogood, candidate-agrees, on_ok_of}
use Rattle.asp_answers.proofs.Recording.{learned-self, learned-pushed}
use Rattle.asp_answers.proofs.find.exclude_unfounded.Goals as goal
use Rattle.asp_answers.proofs.find.exclude_unfounded.Goals.{After-as_slice-2}

pub nogood_of_atom-requires-clause-below : goal.nogood_of_atom-requires-clause-below
nogood_of_atom-requires-clause-below c =
    let w = c.args.work.now in
    subst (λ (rs : List GroundRule). IsTrue (list_all (is_rule_below (length w.set)) rs)) (sym c.rules.ensures)
    (rules-below c.args.level.now c.requires.ready w.set c.requires.asked.set_places)

pub nogood_of_atom-requires-clause-unfounded : goal.nogood_of_atom-requires-clause-unfounded
nogood_of_atom-requires-clause-unfounded c =
    ap (λ (rs : List GroundRule). is_unfounded rs (true_places c.args.work.now.set) c.args.unfounded.now) c.rules.ensures
    ∙ c.requires.refuted.unfounded

pub first_of-atom-requires : goal.first_of-atom-requires
first_of-atom-requires c = ap is_empty c.as_slice.ensures ∙ c.requires.refuted.some

pub nogood_of_atom-requires-clause-member : goal.nogood_of_atom-requires-clause-member
nogood_of_atom-requires-clause-member c = ap (λ (xs : List ℕ). holds xs c.first_of-atom.result) (sym c.as_slice.ensures) ∙ c.first_of-atom.ensures

pub nogood_of_atom-requires-clause-outer_length : goal.nogood_of_atom-requires-clause-outer_length
nogood_of_atom-requires-clause-outer_length c = c.requires.asked.places ∙ sym c.requires.asked.set_places

nogood_is : (c : After-as_slice-2) → IsNogood (rules_at c.args.level.now) (true_places c.args.work.now.set) c.args.unfounded.now c.as_slice-2.result.now
nogood_is c =
    subst (λ (ls : List Lit). IsNogood (rules_at c.args.level.now) (true_places c.args.work.now.set) c.args.unfounded.now ls)
    (sym c.as_slice-2.ensures)
    (subst (λ (rs : List GroundRule). IsNogood rs (true_places c.args.work.now.set) c.args.unfounded.now c.in_ok-clause.clause)
    c.rules.ensures c.in_ok-clause.ensures.nogood)

pub exclude-requires-clause-sound : goal.exclude-requires-clause-sound
exclude-requires-clause-sound c =
    candidate-nogood c.args.level.now c.requires.ready c.args.work.now.search.budget c.args.work.now c.requires.asked
    c.requires.candidate c.args.unfounded.now c.as_slice-2.result.now c.requires.refuted
    (nogood_is (goal.at.exclude-requires-clause-sound c).After-as_slice-2)

pub exclude-requires-clause-false_here : goal.exclude-requires-clause-false_here
exclude-requires-clause-false_here c = (nogood_is (goal.at.exclude-requires-clause-false_here c).After-as_slice-2).false_here

pub returns-clause-learned : goal.returns-clause-learned
returns-clause-learned c =
    let l = c.args.level.now in
    let w = c.args.work.now in
    let here = nogood_is (goal.at.returns-clause-learned c).After-as_slice-2 in
    let written : c.as_slice-2.result.now ≡ c.in_ok-clause.clause = c.as_slice-2.ensures in
    let kept : c.exclude.new.work.nogoods ≡ w.nogoods = c.in_ok-exclude.ensures.nogoods in
    learned-pushed l c.push.result w.search c.exclude.new.work.search w.nogoods c.push.new.self c.as_slice-2.result.now
    (assignment_of w.search.trail) (true_places w.set)
    (candidate-agrees l c.requires.ready w.search.budget w c.requires.asked c.requires.candidate) c.requires.candidate.found.clauses
    here.false_here
    (candidate-nogood l c.requires.ready w.search.budget w c.requires.asked c.requires.candidate c.args.unfounded.now
    c.as_slice-2.result.now c.requires.refuted here)
    c.in_ok-exclude.ensures.added
    (on_ok_weaker c.push.result
    (λ more.
    more
    ∙ (ap (λ (ns : List (List Lit)). ns ++ c.in_ok-clause.clause ∷ []) kept
    ∙ ap (λ (ls : List Lit). w.nogoods ++ ls ∷ []) (sym written)))
    c.push.ensures.ok)
    (on_err_weaker c.push.result (λ same. same ∙ kept) c.push.ensures.err)

pub returns-in_err-exclude-clause-learned : goal.returns-in_err-exclude-clause-learned
returns-in_err-exclude-clause-learned c = c.in_err-exclude.ensures.learned

pub returns-in_err-clause-clause-learned : goal.returns-in_err-clause-clause-learned
returns-in_err-clause-clause-learned c = learned-self c.args.level.now c.args.work.now.search c.args.work.now.nogoods

pub returns-clause-fewer : goal.returns-clause-fewer
returns-clause-fewer c = on_ok_of c.push.result c.in_ok-exclude.ensures.fewer
