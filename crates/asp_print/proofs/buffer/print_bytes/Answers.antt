use Rattle.std.proofs.Common.{◌≡◌, ℕ, ap, refl, rules}
use Rattle.arrayvec.specs.ArrayVec.{ArrayVec}
use Rattle.asp_print.proofs.Writing.{behind, cut, failed, as_held}
use Rattle.asp_print.proofs.buffer.print_bytes.Goals as goal

pub returns-in_err-flush : goal.returns-in_err-flush
returns-in_err-flush g c =
    let same : c.try_extend_from_slice.new.self ≡ c.args.buffer.now = search rules in
    failed _ c.from_residual.ensures.0 (cut c.args.bytes.now (as_held (ap (λ (held : ArrayVec ℕ). held.items) same) refl c.in_err-flush.ensures.text))

pub returns : goal.returns
returns g c =
    let same : c.try_extend_from_slice.new.self ≡ c.args.buffer.now = search rules in
    behind (as_held (ap (λ (held : ArrayVec ℕ). held.items) same) refl c.in_ok-flush.ensures.text) c.print_first.ensures
