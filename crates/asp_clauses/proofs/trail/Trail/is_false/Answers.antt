use Rattle.std.proofs.Common.{ap, arith}
use Rattle.asp_clauses.specs.Trail.{TrailState}
use Rattle.asp_clauses.specs.TrailFields.{steps_of}
use Rattle.asp_clauses.proofs.TableLemmas.{value_read, not_origin}
use Rattle.asp_clauses.proofs.FewLemmas.{stands_read}
use Rattle.asp_clauses.proofs.trail.Trail.is_false.Goals as goal

pub returns-in-Fails-clause-fails : goal.returns-in-Fails-clause-fails
returns-in-Fails-clause-fails c = λ e h.
    let i = c.self.inside in let v = c.self.invariant in
    let atoms = ap (λ (t : TrailState). t.atoms) c.self.view_is in
    (value_read i.atoms (steps_of i) c.args.self.now.steps i.values.items i.positions.items i.levels.items c.args.code c.index.result.now v.tables (ap (λ (t : TrailState). t.steps) c.self.view_is) v.values_size (omega (arith, h, atoms)) c.index.ensures).fails c.in-Fails.is

pub returns-in-Unassigned-clause-other : goal.returns-in-Unassigned-clause-other
returns-in-Unassigned-clause-other c = λ e.
    let i = c.self.inside in let v = c.self.invariant in
    let atoms = ap (λ (t : TrailState). t.atoms) c.self.view_is in
    let n = not_origin i.atoms (steps_of i) i.values.items i.positions.items i.levels.items c.args.code c.index.result.now v.tables v.values_size (omega (arith, c.requires, atoms)) c.index.ensures (λ x. let is = c.in-Unassigned.is in cc) in
    omega (arith, n, atoms)

pub returns-in-Unassigned-clause-stands : goal.returns-in-Unassigned-clause-stands
returns-in-Unassigned-clause-stands c = λ e.
    let i = c.self.inside in let v = c.self.invariant in
    let atoms = ap (λ (t : TrailState). t.atoms) c.self.view_is in
    stands_read i.atoms (steps_of i) c.args.self.now.steps i.values.items i.positions.items i.levels.items c.args.code c.index.result.now v.tables (ap (λ (t : TrailState). t.steps) c.self.view_is) v.values_size (omega (arith, c.requires, atoms)) c.index.ensures (λ x. let is = c.in-Unassigned.is in cc)

pub returns-in-Holds-clause-other : goal.returns-in-Holds-clause-other
returns-in-Holds-clause-other c = λ e.
    let i = c.self.inside in let v = c.self.invariant in
    let atoms = ap (λ (t : TrailState). t.atoms) c.self.view_is in
    let n = not_origin i.atoms (steps_of i) i.values.items i.positions.items i.levels.items c.args.code c.index.result.now v.tables v.values_size (omega (arith, c.requires, atoms)) c.index.ensures (λ x. let is = c.in-Holds.is in cc) in
    omega (arith, n, atoms)

pub returns-in-Holds-clause-stands : goal.returns-in-Holds-clause-stands
returns-in-Holds-clause-stands c = λ e.
    let i = c.self.inside in let v = c.self.invariant in
    let atoms = ap (λ (t : TrailState). t.atoms) c.self.view_is in
    stands_read i.atoms (steps_of i) c.args.self.now.steps i.values.items i.positions.items i.levels.items c.args.code c.index.result.now v.tables (ap (λ (t : TrailState). t.steps) c.self.view_is) v.values_size (omega (arith, c.requires, atoms)) c.index.ensures (λ x. let is = c.in-Holds.is in cc)
