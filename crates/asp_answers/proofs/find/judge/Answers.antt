use Rattle.std.proofs.Common.{◌≡◌, ◌∙◌, ℕ, true, List, length, sym, ap, subst}
use Rattle.std.specs.Prelude.{IsTrue, Option, MatchOption}
use Rattle.std.specs.List.{list_all}
use Rattle.asp_bits.specs.Places.{true_places}
use Rattle.asp_defs.specs.declared.ground.Bound.{Bound}
use Rattle.asp_defs.specs.declared.ground.Lit.{Lit}
use Rattle.asp_defs.specs.Bounds.{meets_all}
use Rattle.asp_reduct.specs.Bounds.{is_bound_below}
use Rattle.asp_bounds.specs.Denials.{IsBoundsClause}
use Rattle.asp_bounds.proofs.Denying.{bounds-clause-false}
use Rattle.asp_completion.specs.Levels.{bounds_at}
use Rattle.asp_answers.specs.Works.{Asked}
use Rattle.asp_answers.proofs.Below.{bounds-below}
use Rattle.asp_answers.proofs.Steps.{candidate-bound}
use Rattle.asp_answers.proofs.Recording.{learned-self}
use Rattle.asp_answers.proofs.find.judge.Goals as goal
use Rattle.asp_answers.proofs.find.judge.Goals.{After-as_slice}

pub unmet-requires : goal.unmet-requires
unmet-requires c =
    let w = c.args.work.now in
    subst (λ (bs : List Bound). IsTrue (list_all (is_bound_below (length w.set)) bs)) (sym c.bounds.ensures)
    (bounds-below c.args.level.now c.requires.ready w.set c.requires.asked.set_places)

clause_is : (c : After-as_slice) → IsBoundsClause (bounds_at c.args.level.now) (true_places c.args.work.now.set) c.as_slice.result.now
clause_is c =
    subst (λ (ls : List Lit). IsBoundsClause (bounds_at c.args.level.now) (true_places c.args.work.now.set) ls) (sym c.as_slice.ensures)
    (subst (λ (bs : List Bound). IsBoundsClause bs (true_places c.args.work.now.set) c.in-Some.clause) c.bounds.ensures
    (subst (λ (o : Option (List Lit)). MatchOption o (meets_all (true_places c.args.work.now.set) c.bounds.result.now ≡ true)
    (IsBoundsClause c.bounds.result.now (true_places c.args.work.now.set))) c.in-Some.is c.in_ok-found.ensures))

pub exclude-requires-clause-asked : goal.exclude-requires-clause-asked
exclude-requires-clause-asked c =
    let l = c.args.level.now in
    let w = c.args.work.now in
    subst (λ (b : ℕ). Asked l b w.search w.outer w.region w.ordered w.kept.items w.blocked w.set) (sym c.requires.asked.budget_is) c.requires.asked

pub exclude-requires-clause-sound : goal.exclude-requires-clause-sound
exclude-requires-clause-sound c =
    candidate-bound c.args.level.now c.requires.ready c.args.budget c.args.work.now c.requires.asked c.requires.candidate c.as_slice.result.now
    (clause_is (goal.at.exclude-requires-clause-sound c).After-as_slice)

pub exclude-requires-clause-false_here : goal.exclude-requires-clause-false_here
exclude-requires-clause-false_here c =
    bounds-clause-false (bounds_at c.args.level.now) (true_places c.args.work.now.set) c.as_slice.result.now
    (clause_is (goal.at.exclude-requires-clause-false_here c).After-as_slice)

pub returns-in_err-exclude-in-Some-clause-asked : goal.returns-in_err-exclude-in-Some-clause-asked
returns-in_err-exclude-in-Some-clause-asked c = c.exclude.ensures.asked c.args.budget c.requires.asked

pub returns-in_ok-exclude-in-Some-clause-asked : goal.returns-in_ok-exclude-in-Some-clause-asked
returns-in_ok-exclude-in-Some-clause-asked c = c.exclude.ensures.asked c.args.budget c.requires.asked

pub judge_minimal-requires-clause-met : goal.judge_minimal-requires-clause-met
judge_minimal-requires-clause-met c =
    ap (meets_all (true_places c.args.work.now.set)) (sym c.bounds.ensures)
    ∙ subst (λ (o : Option (List Lit)). MatchOption o (meets_all (true_places c.args.work.now.set) c.bounds.result.now ≡ true)
    (IsBoundsClause c.bounds.result.now (true_places c.args.work.now.set))) c.in-None.is c.in_ok-found.ensures

pub returns-in_err-found-clause-learned : goal.returns-in_err-found-clause-learned
returns-in_err-found-clause-learned c = learned-self c.args.level.now c.args.work.now.search c.args.work.now.nogoods
