use Rattle.asp_bits.specs.Places.{true_places}
use Rattle.asp_node.specs.Works.{Advances, open_count}
use Rattle.asp_node.proofs.node.region.Given as goal

-- all went on since the beginning, and still fits together
abbrev pub invariant-loop-shelf : goal.invariant-loop-shelf
invariant-loop-shelf g l =
    Advances l.place.game.now l.place.level (g.S.Shelf.state l.initial.shelf) (g.S.Shelf.state l.shelf) (g.M.Moves.state l.initial.moves) (g.M.Moves.state l.moves)
    (g.C.Child.state l.initial.child) (g.C.Child.state l.child)

-- each turn leaves out a move
abbrev pub decreases-loop-shelf : goal.decreases-loop-shelf
decreases-loop-shelf g l = open_count (g.M.Moves.state l.moves) (true_places l.place.outer.now) l.place.region.now
