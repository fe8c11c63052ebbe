use Rattle.std.proofs.Common.{rules}
use Rattle.asp_turn.proofs.Hands.{some_and, put_in}
use Rattle.asp_turn.proofs.Keeps.{gives_back}
use Rattle.asp_turn.proofs.turn.Turn.give.Goals as goal

pub store-requires : goal.store-requires
store-requires g c = let t = some_and _ _ c.requires.grown in (
  search rules,
  search rules,
  gives_back _ _ _ _ _ c.exchange.new.seat.me c.args.seat.now.place.me.0 c.args.value t.0
      (put_in c.args.seat.now.place.me c.exchange.new.seat.me c.args.value t.0 c.args.seat.now.hand t.1 c.exchange.ensures.3) t.1 t.2 c.requires.world,
)
