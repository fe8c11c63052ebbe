use Rattle.std.proofs.Common.{◌≡◌, ◌+◌, ◌∙◌, ℕ, true, refl, sym, subst}
use Rattle.asp_bits.specs.Places.{true_places}
use Rattle.asp_defs.specs.Games.{base, is_subset}
use Rattle.asp_store.specs.Shelves.{IsHolding}
use Rattle.asp_node.proofs.Steps.{ok-same, back_one, rests-still, child-same, shelf-then, ask-earlier}
use Rattle.asp_node.proofs.asking.ask.Goals as goal

pub returns-in-Some-clause-goes_on : goal.returns-in-Some-clause-goes_on
returns-in-Some-clause-goes_on g c = child-same (g.C.Child.state c.args.child.now)

pub returns-in-Some-clause-rests : goal.returns-in-Some-clause-rests
returns-in-Some-clause-rests g c =
    rests-still (g.S.Shelf.state c.args.shelf.now) (g.S.Shelf.state c.look.new.self) (g.C.Child.state c.args.child.now) c.look.ensures.goes_on c.requires.rests

pub returns-in-Some-clause-held : goal.returns-in-Some-clause-held
returns-in-Some-clause-held g c at same =
    subst (λ (k : ℕ). IsHolding (g.S.Shelf.state c.look.new.self).seen (c.args.point.now.level + 1) (true_places c.args.set.now) k) (ok-same _ at same)
    (c.in-Some.ensures.found _ refl)

pub ask-requires-clause-game : goal.ask-requires-clause-game
ask-requires-clause-game g c = c.look.ensures.goes_on.game ∙ c.requires.game

pub ask-requires-clause-rests : goal.ask-requires-clause-rests
ask-requires-clause-rests g c =
    rests-still (g.S.Shelf.state c.args.shelf.now) (g.S.Shelf.state c.look.new.self) (g.C.Child.state c.args.child.now) c.look.ensures.goes_on c.requires.rests

pub ask-requires-clause-set : goal.ask-requires-clause-set
ask-requires-clause-set g c =
    subst (λ (k : ℕ). is_subset (true_places c.args.set.now) (base (g.C.Child.state c.args.child.now).game k) ≡ true)
    (sym (back_one c.args.point.now.level (g.C.Child.state c.args.child.now).level c.requires.level)) c.requires.set

pub returns-clause-shelf : goal.returns-clause-shelf
returns-clause-shelf g c =
    shelf-then (g.S.Shelf.state c.args.shelf.now) (g.S.Shelf.state c.look.new.self) (g.S.Shelf.state c.ask.new.shelf) c.look.ensures.goes_on c.ask.ensures.shelf

pub returns-clause-held : goal.returns-clause-held
returns-clause-held g c at same =
    subst (λ (k : ℕ). IsHolding (g.S.Shelf.state c.ask.new.shelf).seen k (true_places c.args.set.now) at) c.requires.level
    (c.ask.ensures.held at same)

pub returns-clause-spent : goal.returns-clause-spent
returns-clause-spent g c unknown same =
    let old = g.C.Child.state c.args.child.now in
    ask-earlier (g.S.Shelf.state c.args.shelf.now) (g.S.Shelf.state c.look.new.self) (g.S.Shelf.state c.ask.new.shelf) old old (g.C.Child.state c.ask.new.self) unknown
    c.look.ensures.goes_on (child-same old) (c.ask.ensures.spent unknown same)
