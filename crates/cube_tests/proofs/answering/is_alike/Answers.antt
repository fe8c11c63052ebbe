use Rattle.std.proofs.Common.{sym, ◌∙◌}
use Rattle.asp_reduct.proofs.Truths.{holds-read}
use Rattle.asp_entry.proofs.Taking.{taken_read}
use Rattle.cube_tests.proofs.answering.is_alike.Goals as goal

pub returns : goal.returns
returns c =
    λ h. taken_read c.args.second.now c.get-one.result c.get-other.result c.args.atom c.get-other.ensures h
    ∙ sym (holds-read c.args.first.now c.args.atom c.get-one.result c.get-one.ensures)
