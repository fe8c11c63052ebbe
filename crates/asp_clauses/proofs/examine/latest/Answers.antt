use Rattle.std.proofs.Common.{ℕ, ◌+◌, ◌<◌, ◌*◌, get_or, sym, subst, arith}
use Rattle.asp_clauses.specs.Records.{row_at}
use Rattle.asp_clauses.specs.Literal.{negated}
use Rattle.asp_clauses.specs.Trail.{IsPlaced}
use Rattle.asp_clauses.specs.Choices.{IsLatest}
use Rattle.asp_clauses.proofs.WatchLemmas.{cell_in_range}
use Rattle.asp_clauses.proofs.ChoiceLemmas.{IsLatest-none}
use Rattle.asp_clauses.proofs.examine.latest.Goals as goal

pub is_false-requires : goal.is_false-requires
is_false-requires c =
    let w = c.args.watches.now in
    let r = cell_in_range w.atoms (row_at w.records c.args.clause) c.args.index (c.requires.store.records c.args.clause c.requires.clause) c.requires.index in
    omega (arith, r, c.cell-literal.ensures, c.requires.atoms)

pub position-requires-clause-code : goal.position-requires-clause-code
position-requires-clause-code c =
    let w = c.args.watches.now in
    let r = cell_in_range w.atoms (row_at w.records c.args.clause) c.args.index (c.requires.store.records c.args.clause c.requires.clause) c.requires.index in
    omega (arith, r, c.cell-literal.ensures, c.requires.atoms)

pub returns-else-is_false : goal.returns-else-is_false
returns-else-is_false c =
    let w = c.args.watches.now in let t = c.args.trail.now in
    let row = row_at w.records c.args.clause in
    let r = cell_in_range w.atoms row c.args.index (c.requires.store.records c.args.clause c.requires.clause) c.requires.index in
    let code : get_or row (3 + c.args.index) 0 < 2 * t.atoms = omega (arith, r, c.requires.atoms) in
    let stands : IsPlaced t.steps (negated (get_or row (3 + c.args.index) 0)) → ⊥ = λ p. c.is_false.ensures.stands c.if-is_false.false (subst (λ (n : ℕ). IsPlaced t.steps (negated n)) (sym c.cell-literal.ensures) p) in
    subst (λ (n : ℕ). IsLatest t (get_or row (3 + c.args.index) 0) (n + 1)) (sym c.len.ensures.value) (IsLatest-none t (get_or row (3 + c.args.index) 0) code stands)
