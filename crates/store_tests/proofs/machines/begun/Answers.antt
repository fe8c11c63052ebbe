use Rattle.std.proofs.Common.{◌∙◌, sym, subst}
use Rattle.asp_defs.specs.Games.{IsValid}
use Rattle.store_tests.proofs.Validity.{none_valid}
use Rattle.store_tests.proofs.machines.begun.Goals as goal

pub new-requires-2-clause-valid : goal.new-requires-2-clause-valid
new-requires-2-clause-valid c = subst IsValid (sym (c.in_ok-game.ensures.ok ∙ c.in_ok-no_rules.ensures)) none_valid
