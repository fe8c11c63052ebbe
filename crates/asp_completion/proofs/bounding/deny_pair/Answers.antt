use Rattle.std.proofs.Common.{◌≡◌, ◌∙◌, ◌++◌, ◌∷◌, [], List, true, false, sym, ap, subst, append_assoc}
use Rattle.std.proofs.lemmas.Result.{on_ok_weaker}
use Rattle.asp_defs.specs.declared.ground.Lit.{Lit}
use Rattle.asp_defs.specs.Lists.{IsIn}
use Rattle.asp_defs.specs.Interpretations.{holds}
use Rattle.asp_completion.specs.Codes.{literal}
use Rattle.asp_completion.specs.Levels.{upper}
use Rattle.asp_completion.specs.AtOnce.{body_denial}
use Rattle.asp_completion.proofs.BoundSteps.{pair_of, pair-counted, pair-added, denial-inside}
use Rattle.asp_completion.proofs.bounding.deny_pair.Goals as goal
use Rattle.asp_completion.proofs.bounding.deny_pair.Goals.{After-as_slice}

literals_are : (c : After-as_slice) → c.as_slice.result.now ≡ body_denial c.args.bound.now ++ pair_of c.args.first c.args.second
literals_are c =
    let denial = body_denial c.args.bound.now in
    let one : List Lit = literal false c.args.first ∷ [] in
    let two : List Lit = literal false c.args.second ∷ [] in
    c.as_slice.ensures.value
    ∙ (c.in_ok-push-2.ensures.items
    ∙ (ap (λ (xs : List Lit). xs ++ two) (c.in_ok-push.ensures.items ∙ ap (λ (xs : List Lit). xs ++ one) c.in_ok-write_denial.ensures)
    ∙ append_assoc denial one two))

pub add_clause-requires-clause-inside : goal.add_clause-requires-clause-inside
add_clause-requires-clause-inside c =
    let b = c.args.bound.now in
    let l = c.args.level.now in
    subst (λ (xs : List Lit). (x : Lit) → IsIn x xs → holds (upper l) x.atom ≡ true)
    (sym (literals_are (goal.at.add_clause-requires-clause-inside c).After-as_slice))
    (denial-inside l c.requires.ready b c.requires.member (pair_of c.args.first c.args.second)
    (pair-counted b c.args.first c.args.second c.requires.first c.requires.second))

pub returns : goal.returns
returns c =
    let b = c.args.bound.now in
    on_ok_weaker c.add_clause.result
    (pair-added c.args.level.now c.requires.ready b c.requires.member c.args.first c.args.second c.args.search.now c.add_clause.new.search
    c.as_slice.result.now c.requires.wanted c.requires.first c.requires.second c.if-first-second.false
    (literals_are (goal.at.returns c).After-as_slice) c.requires.rules)
    c.add_clause.ensures.added
