use Rattle.std.proofs.Common.{false}
use Rattle.std.proofs.lemmas.Result.{err_from_is_err_and}
use Rattle.asp_bits.specs.Places.{true_places}
use Rattle.asp_node.proofs.Steps.{shelf-then, region-earlier}
use Rattle.asp_node.proofs.Advancing.{then, advances-put}
use Rattle.asp_node.proofs.node.region.Goals as goal

pub returns-in_err-end-clause-shelf : goal.returns-in_err-end-clause-shelf
returns-in_err-end-clause-shelf g c =
    shelf-then (g.S.Shelf.state c.args.shelf.now) (g.S.Shelf.state c.loop-shelf.shelf) (g.S.Shelf.state c.try_next.new.shelf) c.loop-shelf.invariant.shelf
    c.try_next.ensures.advances.shelf

pub returns-in-Some-clause-shelf : goal.returns-in-Some-clause-shelf
returns-in-Some-clause-shelf g c =
    shelf-then (g.S.Shelf.state c.args.shelf.now) (g.S.Shelf.state c.loop-shelf.shelf) (g.S.Shelf.state c.try_next.new.shelf) c.loop-shelf.invariant.shelf
    c.try_next.ensures.advances.shelf

pub returns-in-Some-clause-decided : goal.returns-in-Some-clause-decided
returns-in-Some-clause-decided g c at same = c.in_ok-end.ensures.decided at (cc)

pub loop-shelf-preserved : goal.loop-shelf-preserved
loop-shelf-preserved g c =
    let s = g.S.Shelf.state c.loop-shelf.shelf in
    let m = g.M.Moves.state c.args.moves.now in
    let n = g.M.Moves.state c.begin.new.self in
    let a = g.C.Child.state c.args.child.now in
    let b = g.C.Child.state c.loop-shelf.child in
    then c.args.place.now.game.now c.args.place.now.level (g.S.Shelf.state c.args.shelf.now) s (g.S.Shelf.state c.try_next.new.shelf) m n
    (g.M.Moves.state c.try_next.new.moves) a b (g.C.Child.state c.try_next.new.child)
    (advances-put c.args.place.now.game.now c.args.place.now.level (g.S.Shelf.state c.args.shelf.now) s m (g.M.Moves.state c.loop-shelf.moves) n a b
    (true_places c.args.place.now.outer.now) c.args.place.now.region.now false c.loop-shelf.invariant c.in_ok-begin.ensures.begun)
    c.try_next.ensures.advances

pub returns-in_err-end-clause-spent : goal.returns-in_err-end-clause-spent
returns-in_err-end-clause-spent g c unknown same =
    let s = g.S.Shelf.state c.args.shelf.now in
    let t = g.S.Shelf.state c.loop-shelf.shelf in
    let m = g.M.Moves.state c.args.moves.now in
    let n = g.M.Moves.state c.begin.new.self in
    let a = g.C.Child.state c.args.child.now in
    let b = g.C.Child.state c.loop-shelf.child in
    let put = advances-put c.args.place.now.game.now c.args.place.now.level s t m (g.M.Moves.state c.loop-shelf.moves) n a b (true_places c.args.place.now.outer.now)
    c.args.place.now.region.now false c.loop-shelf.invariant c.in_ok-begin.ensures.begun in
    let p = err_from_is_err_and c.from_residual-in_err-end.result c.from_residual-in_err-end.ensures.1 in
    let made = p.1 in
    let given = p.2 in
    region-earlier s t (g.S.Shelf.state c.try_next.new.shelf) m n (g.M.Moves.state c.try_next.new.moves) a b (g.C.Child.state c.try_next.new.child) unknown put.shelf put.moves put.child
    (c.in_err-end.ensures.spent unknown (cc))
