use Rattle.std.proofs.Common.{ap, arith}
use Rattle.asp_clauses.specs.Trail.{TrailState}
use Rattle.asp_clauses.specs.TrailFields.{steps_of}
use Rattle.asp_clauses.proofs.TableLemmas.{true_read, open_read}
use Rattle.asp_clauses.proofs.trail.Trail.is_true.Goals as goal

pub returns-in-Holds-clause-holds : goal.returns-in-Holds-clause-holds
returns-in-Holds-clause-holds c = λ e.
    let i = c.self.inside in let v = c.self.invariant in
    let atoms = ap (λ (t : TrailState). t.atoms) c.self.view_is in
    true_read i.atoms (steps_of i) c.args.self.now.steps i.values.items i.positions.items i.levels.items c.args.code c.index.result.now v.tables (ap (λ (t : TrailState). t.steps) c.self.view_is) v.values_size (omega (arith, c.requires, atoms)) c.index.ensures c.in-Holds.is

pub returns-in-Unassigned-clause-other : goal.returns-in-Unassigned-clause-other
returns-in-Unassigned-clause-other c = λ e h.
    let i = c.self.inside in let v = c.self.invariant in
    let atoms = ap (λ (t : TrailState). t.atoms) c.self.view_is in
    open_read i.atoms (steps_of i) c.args.self.now.steps i.values.items i.positions.items i.levels.items c.args.code c.index.result.now v.tables (ap (λ (t : TrailState). t.steps) c.self.view_is) v.values_size (omega (arith, h, atoms)) c.index.ensures (λ x. let is = c.in-Unassigned.is in cc)

pub returns-in-Fails-clause-other : goal.returns-in-Fails-clause-other
returns-in-Fails-clause-other c = λ e h.
    let i = c.self.inside in let v = c.self.invariant in
    let atoms = ap (λ (t : TrailState). t.atoms) c.self.view_is in
    open_read i.atoms (steps_of i) c.args.self.now.steps i.values.items i.positions.items i.levels.items c.args.code c.index.result.now v.tables (ap (λ (t : TrailState). t.steps) c.self.view_is) v.values_size (omega (arith, h, atoms)) c.index.ensures (λ x. let is = c.in-Fails.is in cc)
