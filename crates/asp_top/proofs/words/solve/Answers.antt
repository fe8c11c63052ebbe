use Rattle.std.proofs.Common.{[], map, string_bytes, refl}
use Rattle.std.specs.Prelude.{None, Ok}
use Rattle.asp_defs.specs.Words.{settings_from}
use Rattle.asp_top.specs.Commands.{served_options}
use Rattle.asp_top.specs.Options.{ReadsAs}
use Rattle.asp_top.proofs.OptionSteps.{no_options, reads_task, reads_within}
use Rattle.asp_top.proofs.words.solve.Goals as goal

pub returns-in-Ok-clause-task : goal.returns-in-Ok-clause-task
returns-in-Ok-clause-task c =
    reads_task (settings_from served_options 2 [] None (map string_bytes c.args.further.now)) c.in-Ok.options c.tuning_of.result
    c.tuning_of.ensures (c.in-Ok.ensures [] (no_options _ refl refl))

pub returns-in-Ok-clause-within : goal.returns-in-Ok-clause-within
returns-in-Ok-clause-within c =
    reads_within (settings_from served_options 2 [] None (map string_bytes c.args.further.now)) c.in-Ok.options c.tuning_of.result
    c.tuning_of.ensures (c.in-Ok.ensures [] (no_options _ refl refl))
