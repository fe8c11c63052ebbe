use Rattle.std.proofs.Common.{ℤ, ◌+◌, ◌∙◌, sym, map, arith}
use mir.Syntax.{w32}
use mir.Val.{of_z, to_z}
use Rattle.asp_defs.specs.declared.ground.Const.TheVariants as const
use Rattle.asp_atoms.specs.ConstRefs.{const_of}
use Rattle.asp_ground.specs.Gaps.{IsIntegerAt}
use Rattle.asp_ground.proofs.Gathered.{read_at}
use Rattle.asp_template.proofs.Integers.{told}
use Rattle.asp_ground.proofs.constants.is_behind.Goals as goal

pub returns : goal.returns
returns c known =
    told (λ (z : ℤ). IsIntegerAt (map const_of c.args.found.now) z (c.args.first + c.args.steps)) c.args.value c.ranges.value
    (read_at c.args.found.now (c.args.first + c.args.steps) _ (const.Int (to_z w32 (of_z w32 c.args.value))) c.compare_const_refs.result (omega arith) c.compare_const_refs.ensures (sym c.is_eq.ensures ∙ known))
