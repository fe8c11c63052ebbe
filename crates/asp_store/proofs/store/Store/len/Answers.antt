use Rattle.std.proofs.Common.{arith}
use Rattle.asp_store.proofs.Keeping.{few-entries}
use Rattle.asp_store.proofs.store.Store.len.Goals as goal

pub overflow_cast-result : goal.overflow_cast-result
overflow_cast-result c =
    let few = few-entries c.self.inside.entries.items in
    let within = c.self.invariant.within in
    let limit = c.self.invariant.limit in
    let is = c.len.ensures in
    omega (arith, few, within, limit, is)
