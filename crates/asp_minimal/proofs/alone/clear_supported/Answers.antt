use Rattle.std.proofs.Common.{sym, ◌∙◌}
use Rattle.asp_bits.specs.Places.{true_places}
use Rattle.asp_minimal.proofs.Lone.{clears_nothing, clears_no_first, clears_first}
use Rattle.asp_minimal.proofs.alone.clear_supported.Goals as goal

pub returns-in_default : goal.returns-in_default
returns-in_default c =
    clears_nothing (true_places c.args.set.now) c.args.rule.now c.as_slice.result.now c.args.alone.now c.requires.inside c.as_slice.ensures c.in_default.ensures

pub returns-then-supports_alone : goal.returns-then-supports_alone
returns-then-supports_alone c =
    clears_first (true_places c.args.set.now) c.args.rule.now c.as_slice.result.now c.args.alone.now c.write.new.bits c.in-Some.atom
    c.as_slice.ensures c.in-Some.ensures (sym c.supports_alone.ensures ∙ c.if-supports_alone.true) c.write.ensures

pub returns-else-supports_alone : goal.returns-else-supports_alone
returns-else-supports_alone c =
    clears_no_first (true_places c.args.set.now) c.args.rule.now c.as_slice.result.now c.args.alone.now c.in-Some.atom
    c.as_slice.ensures c.in-Some.ensures (sym c.supports_alone.ensures ∙ c.if-supports_alone.false)
