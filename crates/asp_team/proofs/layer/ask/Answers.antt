use Rattle.std.proofs.Common.{◌≡◌, ◌∙◌, ℕ, ap, sym, subst, Option, Some}
use Rattle.asp_bits.specs.Places.{true_places}
use Rattle.asp_game.specs.State.{MovesState}
use Rattle.asp_store.specs.Shelves.{IsHolding}
use Rattle.asp_team.specs.States.{over, IsOver, StaysOver}
use Rattle.asp_team.proofs.Passing.{stays-own}
use Rattle.asp_team.proofs.layer.ask.Goals as goal

pub returns-in-None-clause-held : goal.returns-in-None-clause-held
returns-in-None-clause-held g c at same =
    subst (λ (own : Option MovesState). IsHolding c.ask.new.shelf.seen (over own (g.C.Child.state c.args.child.now)).level (true_places c.args.set.now) at) (sym c.in-None.is)
    (c.ask.ensures.held at same)

pub returns-in-Some-clause-stays : goal.returns-in-Some-clause-stays
returns-in-Some-clause-stays g c =
    let m = c.deref_mut.result.now.moves in
    let n = c.answer.new.moves.moves in
    let a = g.C.Child.state c.args.child.now in
    let b = g.C.Child.state c.answer.new.child in
    let own : Some m ≡ c.args.own.now = cc in
    subst (λ (o : Option MovesState). StaysOver o a (Some n) b) own
    (stays-own m n a b (subst (λ (o : Option MovesState). IsOver o a) (sym own) c.requires.over) c.answer.ensures.moves c.answer.ensures.child)

pub returns-in-Some-clause-held : goal.returns-in-Some-clause-held
returns-in-Some-clause-held g c at same =
    let m = c.level.inside.moves.value.moves in
    let a = g.C.Child.state c.args.child.now in
    let own : Some m ≡ c.args.own.now = cc in
    subst (λ (k : ℕ). IsHolding c.answer.new.shelf.seen k (true_places c.args.set.now) at)
    (c.level.invariant.1 ∙ ap (λ (o : Option MovesState). (over o a).level) own) (c.answer.ensures.held at same)
