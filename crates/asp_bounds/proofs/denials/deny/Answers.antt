use Rattle.std.proofs.lemmas.Result.{on_ok_weaker}
use Rattle.asp_bounds.proofs.Denying.{denial-written}
use Rattle.asp_bounds.proofs.denials.deny.Goals as goal

pub returns : goal.returns
returns c =
    on_ok_weaker c.push_literals-2.result
    (denial-written c.args.term.now c.as_slice.result.now c.as_slice-2.result.now c.args.clause.now.items c.push.new.self.items
    c.push_literals.new.clause.items c.push_literals-2.new.clause.items c.as_slice.ensures c.as_slice-2.ensures
    c.in_ok-push.ensures.items c.in_ok-push_literals.ensures)
    c.push_literals-2.ensures
