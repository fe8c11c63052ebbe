use Rattle.std.proofs.Common.{ap, arith, subst, sym}
use Rattle.asp_clauses.specs.Trail.{TrailState, IsValue}
use Rattle.asp_clauses.specs.TrailFields.{steps_of}
use Rattle.asp_clauses.proofs.FewLemmas.{exact_read}
use Rattle.asp_clauses.proofs.trail.Trail.value.Goals as goal

pub returns : goal.returns
returns c =
    let i = c.self.inside in let v = c.self.invariant in
    let atoms = ap (λ (t : TrailState). t.atoms) c.self.view_is in
    let h = c.requires in
    subst (IsValue c.args.self.now.steps c.args.lit) (sym c.told.ensures) (exact_read i.atoms (steps_of i) c.args.self.now.steps i.values.items i.positions.items i.levels.items c.args.lit c.index.result.now v.tables (ap (λ (t : TrailState). t.steps) c.self.view_is) v.values_size (omega (arith, h, atoms)) c.index.ensures)
