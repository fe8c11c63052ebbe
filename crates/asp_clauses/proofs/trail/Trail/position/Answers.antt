use Rattle.std.proofs.Common.{◌≡◌, ℕ, ◌≤◌, length, sym, ap, arith, subst}
use Rattle.std.proofs.Common.{List}
use Rattle.asp_clauses.specs.declared.trail.Step.{Step}
use Rattle.asp_clauses.specs.Literal.{negated}
use Rattle.asp_clauses.specs.Trail.{TrailState, IsPlaced}
use Rattle.asp_clauses.specs.TrailFields.{steps_of}
use Rattle.asp_clauses.specs.Book.{visit_at}
use Rattle.asp_clauses.proofs.TableLemmas.{position_read, position_only}
use Rattle.asp_clauses.proofs.trail.Trail.position.Goals as goal

pub returns-clause-within : goal.returns-clause-within
returns-clause-within c =
    let i = c.self.inside in let v = c.self.invariant in let now = c.args.self.now in
    let code = c.requires.code in
    let atoms = ap (λ (t : TrailState). t.atoms) c.self.view_is in
    let steps = ap (λ (t : TrailState). t.steps) c.self.view_is in
    let p = position_read i.atoms (steps_of i) i.values.items i.positions.items i.levels.items c.args.code c.index.result.now v.tables v.positions_size (omega (arith, code, atoms))
    (λ h. subst (λ (x : List Step). IsPlaced x (negated c.args.code)) (sym steps) (c.requires.fails (omega (arith, h, atoms)))) c.index.ensures in
    omega (arith, p.0, ap length steps)

pub returns-clause-visit : goal.returns-clause-visit
returns-clause-visit c =
    let i = c.self.inside in let v = c.self.invariant in let now = c.args.self.now in
    let code = c.requires.code in
    let atoms = ap (λ (t : TrailState). t.atoms) c.self.view_is in
    let steps = ap (λ (t : TrailState). t.steps) c.self.view_is in
    let p = position_read i.atoms (steps_of i) i.values.items i.positions.items i.levels.items c.args.code c.index.result.now v.tables v.positions_size (omega (arith, code, atoms))
    (λ h. subst (λ (x : List Step). IsPlaced x (negated c.args.code)) (sym steps) (c.requires.fails (omega (arith, h, atoms)))) c.index.ensures in
    subst (λ (t : TrailState). visit_at t.atoms t.steps c.index.result.now ≡ c.args.code) c.self.view_is p.1

pub returns-clause-only : goal.returns-clause-only
returns-clause-only c =
    let i = c.self.inside in let v = c.self.invariant in
    let code = c.requires.code in
    let atoms = ap (λ (t : TrailState). t.atoms) c.self.view_is in
    subst (λ (t : TrailState). (visit : ℕ) → visit ≤ length t.steps → visit_at t.atoms t.steps visit ≡ c.args.code → visit ≡ c.index.result.now) c.self.view_is
    (position_only i.atoms (steps_of i) i.values.items i.positions.items i.levels.items c.args.code c.index.result.now v.tables v.positions_size (omega (arith, code, atoms)) c.index.ensures)
