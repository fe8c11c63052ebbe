use Rattle.std.proofs.Common.{◌≡◌, ◌∙◌, ◌*◌, ◌++◌, ℕ, List, sym, ap, subst}
use Rattle.std.proofs.lemmas.Result.{on_ok_weaker}
use Rattle.asp_search.specs.Seen.{AreCodes}
use Rattle.asp_completion.specs.Codes.{codes}
use Rattle.asp_completion.specs.Levels.{upper}
use Rattle.asp_completion.proofs.Places.{codes-below}
use Rattle.asp_completion.proofs.Loops.{adds_to_as}
use Rattle.asp_completion.proofs.clauses.add_clause.Goals as goal
use Rattle.asp_completion.proofs.clauses.add_clause.Goals.{After-as_slice}

clause_is : (c : After-as_slice) → c.as_slice.result.now ≡ codes (upper c.args.level.now) c.args.literals.now
clause_is c =
    c.as_slice.ensures.value
    ∙ (c.in_ok-push_literals.ensures ∙ ap (λ (xs : List ℕ). xs ++ codes (upper c.args.level.now) c.args.literals.now) c.clear.ensures.items)

pub add-requires : goal.add-requires
add-requires c =
    let B = upper c.args.level.now in
    subst (λ (xs : List ℕ). AreCodes (2 * c.args.search.now.atoms) xs) (sym (clause_is c))
    (subst (λ (n : ℕ). AreCodes (2 * n) (codes B c.args.literals.now)) (sym c.requires.atoms)
    (codes-below B c.args.literals.now c.requires.inside))

pub returns-clause-added : goal.returns-clause-added
returns-clause-added c =
    on_ok_weaker c.add.result
    (adds_to_as c.args.search.now c.add.new.self (codes (upper c.args.level.now) c.args.literals.now) c.as_slice.result.now
    (clause_is (goal.at.returns-clause-added c).After-as_slice))
    c.add.ensures.added
