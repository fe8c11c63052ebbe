use Rattle.std.proofs.Common.{refl}
use Rattle.asp_print.proofs.Writing.{behind, failed, as_held, sent_whole, sent_part}
use Rattle.asp_print.proofs.sets.print_set.Goals as goal

pub returns-in_err-print_braced : goal.returns-in_err-print_braced
returns-in_err-print_braced g c =
    let printed = sent_part _ c.from_residual.ensures.0 (failed _ c.from_residual.ensures.0 (as_held c.new-buffer.ensures refl c.in_err-print_braced.ensures)) in
    record { all = printed.all; prefix = printed.prefix; cause = printed.cause }

pub returns : goal.returns
returns g c =
    let printed = sent_whole _ (behind (as_held c.new-buffer.ensures refl c.in_ok-print_braced.ensures) (as_held refl c.flush.ensures.empty c.flush.ensures.text)) in
    record { all = printed.all; prefix = printed.prefix; cause = printed.cause }
