use Rattle.std.proofs.Common.{◌≡◌, map}
use Rattle.asp_defs.specs.declared.ground.Const.TheVariants as const
use Rattle.asp_defs.specs.Constants.{integers_from}
use Rattle.asp_template.specs.Ranks.{rank_of}
use Rattle.asp_template.proofs.facts.interval_ranks.Given as goal

abbrev pub invariant-loop-step : goal.invariant-loop-step
invariant-loop-step l = l.ranks.items ≡ map (λ x. rank_of l.constants (const.Int x)) (integers_from l.low l.step)
