use Rattle.std.proofs.Common.{rules, ap}
use Rattle.asp_turn.proofs.Hands.{waits}
use Rattle.asp_turn.proofs.Keeps.{splits, joins, settles}
use Rattle.asp_turn.proofs.turn.Turn.learn.Goals as goal

pub split_seat-note-requires : goal.split_seat-note-requires
split_seat-note-requires g c = (search rules, search rules, splits _ _ _ _ _)

pub join_seat-requires : goal.join_seat-requires
join_seat-requires g c = let note = c.split_seat-note.ensures.4 in
    (search rules, search rules, search rules, search rules, joins _ _ _ _ _ _ _ (ap (λ m. m.0.taken) note) (ap (λ m. m.0.refused) note) (ap (λ m. m.0.counted) note))

pub load-requires : goal.load-requires
load-requires g c = (search rules, search rules, settles _ _ _ _ _ c.join_seat.new.seat.me (waits c.args.seat.now.place.me.0 c.split_seat-note.result.me.0 _ _ c.join_seat.ensures.2))
