use Rattle.std.proofs.Common.{◌∙◌, ap, arith, sym}
use Rattle.asp_io.specs.Memory.{SupplyState}
use Rattle.asp_io.proofs.Moving.{copied_out}
use Rattle.asp_io.proofs.memory.supply.Supply.give.Goals as goal

pub returns-clause-bytes : goal.returns-clause-bytes
returns-clause-bytes c =
    let copied = rw c.deref.ensures.value at c.copy_from_slice.ensures.after in
    sym (ap (λ (s : SupplyState). s.left) c.self.view_is)
    ∙ copied_out c.self.inside.bytes.items c.copy_from_slice.new.self _ c.self.inside.given c.min-count.result
    (omega (arith, c.self.invariant.0)) copied
