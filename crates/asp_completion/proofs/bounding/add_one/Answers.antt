use Rattle.std.proofs.Common.{◌≡◌, ◌∙◌, ◌++◌, List, true, map, sym, ap, subst}
use Rattle.std.proofs.lemmas.Result.{on_ok_weaker}
use Rattle.asp_defs.specs.declared.ground.Counted.{Counted}
use Rattle.asp_defs.specs.declared.ground.Lit.{Lit}
use Rattle.asp_defs.specs.Lists.{IsIn}
use Rattle.asp_defs.specs.Interpretations.{holds}
use Rattle.asp_completion.specs.Codes.{literal}
use Rattle.asp_completion.specs.Levels.{upper}
use Rattle.asp_completion.specs.AtOnce.{body_denial}
use Rattle.asp_completion.proofs.BoundSteps.{one_of, one-counted, one-added, denial-inside}
use Rattle.asp_completion.proofs.bounding.add_one.Goals as goal
use Rattle.asp_completion.proofs.bounding.add_one.Goals.{After-as_slice-2}

literals_are : (c : After-as_slice-2) → c.as_slice-2.result.now ≡ body_denial c.args.bound.now ++ one_of c.args.bound.now
literals_are c =
    let b = c.args.bound.now in
    c.as_slice-2.ensures.value
    ∙ (c.in_ok-push_terms.ensures
    ∙ (ap (λ (xs : List Lit). xs ++ map (λ (t : Counted). literal true t.atom) c.as_slice.result.now) c.in_ok-write_denial.ensures
    ∙ ap (λ (ts : List Counted). body_denial b ++ map (λ (t : Counted). literal true t.atom) ts) c.as_slice.ensures))

pub add_clause-requires-clause-inside : goal.add_clause-requires-clause-inside
add_clause-requires-clause-inside c =
    let b = c.args.bound.now in
    let l = c.args.level.now in
    subst (λ (xs : List Lit). (x : Lit) → IsIn x xs → holds (upper l) x.atom ≡ true)
    (sym (literals_are (goal.at.add_clause-requires-clause-inside c).After-as_slice-2))
    (denial-inside l c.requires.ready b c.requires.member (one_of b) (one-counted b))

pub returns : goal.returns
returns c =
    let b = c.args.bound.now in
    on_ok_weaker c.add_clause.result
    (one-added c.args.level.now c.requires.ready b c.requires.member c.args.search.now c.add_clause.new.search c.as_slice-2.result.now
    c.requires.wanted (literals_are (goal.at.returns c).After-as_slice-2) c.requires.rules)
    c.add_clause.ensures.added
