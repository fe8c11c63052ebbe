use Rattle.std.proofs.Common.{ℤ, ◌∙◌, sym, ap, map, rules}
use Rattle.asp_defs.specs.declared.ground.Const.TheVariants as const
use Rattle.asp_template.specs.declared.template.Slot.TheVariants.{Rank}
use Rattle.asp_safety.specs.Variables.{term_of}
use Rattle.asp_template.specs.Ranks.{rank_of}
use Rattle.asp_template.specs.Compiled.{slot_of}
use Rattle.asp_template.proofs.Integers.{passed}
use Rattle.asp_template.proofs.compiler.slot_of.Goals as goal

pub returns-in-Int : goal.returns-in-Int
returns-in-Int c =
    ap Rank (passed (λ (x : ℤ). rank_of c.args.constants.now (const.Int x)) c.in-Int.value c.rank_of.result (search rules) c.rank_of.ensures)
    ∙ ap (slot_of c.args.constants.now (map term_of c.args.variables.now)) (sym c.in-Int.is)

pub returns-in-Range : goal.returns-in-Range
returns-in-Range c =
    ap Rank (passed (λ (x : ℤ). rank_of c.args.constants.now (const.Int x)) c.in-Range.low c.rank_of-in-Range.result (search rules) c.rank_of-in-Range.ensures)
    ∙ ap (slot_of c.args.constants.now (map term_of c.args.variables.now)) (sym c.in-Range.is)
