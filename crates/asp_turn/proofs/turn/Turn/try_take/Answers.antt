use Rattle.std.proofs.Common.{rules, ap}
use Rattle.asp_turn.proofs.Hands.{headed}
use Rattle.asp_turn.proofs.Keeps.{attempts}
use Rattle.asp_turn.proofs.turn.Turn.try_take.Goals as goal

pub compare_exchange-found-requires : goal.compare_exchange-found-requires
compare_exchange-found-requires g c = (search rules, search rules, attempts _ _ _ _ _ _ c.requires.free)

pub exchange-requires : goal.exchange-requires
exchange-requires g c = let t = c.compare_exchange-found.ensures.2.0 c.if-found-eq0.true in
    (search rules, headed _ _ _ (ap (λ m. m.1) t.1))
