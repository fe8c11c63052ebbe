use Rattle.std.proofs.Common.{ap, inr}
use Rattle.std.specs.Prelude.{Ok}
use Rattle.std.proofs.lemmas.Result.{err_from_is_err_and}
use Rattle.asp_node.proofs.Steps.{shelf-then, store-earlier, rests-still}
use Rattle.asp_team.specs.States.{layer_state}
use Rattle.asp_team.proofs.Layering.{fits, rests-after, region-spent}
use Rattle.asp_team.proofs.layer.answer.Goals as goal

pub region-requires-clause-fit : goal.region-requires-clause-fit
region-requires-clause-fit g c =
    fits c.args.moves.now.moves (g.C.Child.state c.args.child.now) c.args.shelf.now c.args.game.now c.args.level c.requires.layered c.requires.own.0 c.requires.own.1
    c.requires.game c.requires.legal c.requires.rests

pub returns-in_err-end-clause-rests : goal.returns-in_err-end-clause-rests
returns-in_err-end-clause-rests g c =
    rests-after c.args.moves.now.moves c.region.new.moves.moves (g.C.Child.state c.args.child.now) (g.C.Child.state c.region.new.child) c.region.new.shelf c.args.game.now c.args.level
    c.requires.layered c.requires.own.0 c.requires.own.1 c.region.ensures.moves c.region.ensures.child c.region.ensures.fit

pub returns-in_err-end-clause-spent : goal.returns-in_err-end-clause-spent
returns-in_err-end-clause-spent g c unknown same =
    let p = err_from_is_err_and c.from_residual.result c.from_residual.ensures.1 in
    let made = p.1 in
    let given = p.2 in
    region-spent c.args.shelf.now c.region.new.shelf c.args.moves.now.moves c.region.new.moves.moves (g.C.Child.state c.args.child.now) (g.C.Child.state c.region.new.child) unknown
    c.requires.layered (c.in_err-end.ensures.spent unknown (cc))

pub conclude-requires-clause-decided : goal.conclude-requires-clause-decided
conclude-requires-clause-decided g c at same = c.in_ok-end.ensures.decided at (ap (λ end. Ok end) same)

pub returns-clause-shelf : goal.returns-clause-shelf
returns-clause-shelf g c = shelf-then c.args.shelf.now c.region.new.shelf c.conclude.new.shelf c.region.ensures.shelf c.conclude.ensures.goes_on

pub returns-clause-rests : goal.returns-clause-rests
returns-clause-rests g c =
    rests-still c.region.new.shelf c.conclude.new.shelf (layer_state c.region.new.moves.moves (g.C.Child.state c.region.new.child)) c.conclude.ensures.goes_on
    (rests-after c.args.moves.now.moves c.region.new.moves.moves (g.C.Child.state c.args.child.now) (g.C.Child.state c.region.new.child) c.region.new.shelf c.args.game.now c.args.level
    c.requires.layered c.requires.own.0 c.requires.own.1 c.region.ensures.moves c.region.ensures.child c.region.ensures.fit)

pub returns-clause-spent : goal.returns-clause-spent
returns-clause-spent g c unknown same =
    inr (store-earlier c.args.shelf.now c.region.new.shelf c.conclude.new.shelf unknown c.region.ensures.shelf (c.conclude.ensures.spent unknown same))
