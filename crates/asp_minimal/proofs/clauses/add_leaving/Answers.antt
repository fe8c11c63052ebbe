use Rattle.std.proofs.Common.{◌≡◌, ◌*◌, ℕ, false, List, sym, ap, ◌∙◌, subst}
use Rattle.std.specs.List.{list_any, flat_map}
use Rattle.std.proofs.lemmas.List.{take_all}
use Rattle.asp_search.specs.Meaning.{truth}
use Rattle.asp_search.specs.Seen.{AreCodes}
use Rattle.asp_minimal.specs.Numbers.{leaves}
use Rattle.asp_minimal.specs.Demands.{literals_of}
use Rattle.asp_minimal.proofs.Stating.{leaving-codes, any-leaving, demands_from_adds, on_ok}
use Rattle.asp_minimal.proofs.clauses.add_leaving.Goals as goal
use Rattle.asp_minimal.proofs.clauses.add_leaving.Goals.{After-as_slice}

-- the clause has the literals of all numbers
clause_is : (c : After-as_slice) → c.as_slice.result.now ≡ flat_map (literals_of false) c.args.numbers.now
clause_is c =
    c.as_slice.ensures.value ∙ c.loop-number.invariant
    ∙ ap (flat_map (literals_of false)) (take_all c.loop-number.number-index c.args.numbers.now c.loop-number-test.false)

pub add-requires : goal.add-requires
add-requires c =
    subst (λ (codes : List ℕ). AreCodes (2 * c.args.search.now.atoms) codes) (sym (clause_is c))
    (leaving-codes c.args.search.now.atoms c.args.numbers.now c.requires.numbers)

pub returns : goal.returns
returns c =
    on_ok c.add.result
    (demands_from_adds c.args.search.now c.add.new.self c.as_slice.result.now (λ v. list_any (leaves v) c.args.numbers.now) (λ v.
    ap (list_any (truth v)) (clause_is (goal.at.returns c).After-as_slice) ∙ any-leaving v c.args.numbers.now))
    c.add.ensures.added
