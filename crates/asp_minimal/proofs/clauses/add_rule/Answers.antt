use Rattle.std.proofs.Common.{◌≡◌, ◌*◌, ℕ, List, sym, ◌∙◌, subst}
use Rattle.asp_search.specs.Seen.{AreCodes}
use Rattle.asp_bits.specs.Places.{true_places}
use Rattle.asp_minimal.specs.Demands.{clause_of, allows}
use Rattle.asp_minimal.proofs.Stating.{clause_of-codes, any-bound, demands_from_adds, on_ok}
use Rattle.asp_minimal.proofs.clauses.add_rule.Goals as goal
use Rattle.asp_minimal.proofs.clauses.add_rule.Goals.{After-as_slice}

clause_is : (c : After-as_slice) → c.as_slice.result.now ≡ clause_of c.args.numbers.now c.args.rule.now
clause_is c = c.as_slice.ensures.value ∙ c.in_ok-clause.ensures

pub add-requires : goal.add-requires
add-requires c =
    subst (λ (codes : List ℕ). AreCodes (2 * c.args.search.now.atoms) codes) (sym (clause_is c))
    (clause_of-codes c.args.search.now.atoms c.args.numbers.now c.args.rule.now c.requires.numbers)

pub returns : goal.returns
returns c =
    let I = true_places c.args.set.now in
    let K = true_places c.args.part.now in
    on_ok c.add.result
    (demands_from_adds c.args.search.now c.add.new.self c.as_slice.result.now (λ v. allows I K c.args.numbers.now v c.args.rule.now)
    (any-bound I K c.args.numbers.now c.args.rule.now c.as_slice.result.now (clause_is (goal.at.returns c).After-as_slice) (sym c.binds.ensures ∙ c.if-not-binds.false)))
    c.add.ensures.added
