use Rattle.std.proofs.Common.{sym, ◌∙◌, arith}
use Rattle.asp_clauses.proofs.ChoiceLemmas.{exchanged, Orders-one, Orders-two}
use Rattle.asp_clauses.proofs.examine.order.Goals as goal

pub returns-then-cell-eq1 : goal.returns-then-cell-eq1
returns-then-cell-eq1 c = Orders-one c.args.watches.now c.choose.new.watches c.args.trail.now c.args.clause c.requires.store c.requires.clause c.requires.some c.choose.ensures (sym c.cell.ensures ∙ c.if-cell-eq1.true)

pub choose-requires-2-clause-store : goal.choose-requires-2-clause-store
choose-requires-2-clause-store c =
    (exchanged c.args.watches.now c.choose.new.watches c.args.clause 0 c.choose.ensures.best.0 c.requires.store c.requires.clause c.requires.some c.choose.ensures.best.2 c.choose.ensures.same c.choose.ensures.best.3).store

pub returns : goal.returns
returns c =
    let w = c.args.watches.now in let one = c.choose.new.watches in
    let x = exchanged w one c.args.clause 0 c.choose.ensures.best.0 c.requires.store c.requires.clause c.requires.some c.choose.ensures.best.2 c.choose.ensures.same c.choose.ensures.best.3 in
    let some = c.requires.some in
    Orders-two w one c.choose-2.new.watches c.args.trail.now c.args.clause c.requires.store c.requires.clause c.requires.some c.choose.ensures (omega (arith, x.size, some, c.cell.ensures, c.if-cell-eq1.false)) c.choose-2.ensures
