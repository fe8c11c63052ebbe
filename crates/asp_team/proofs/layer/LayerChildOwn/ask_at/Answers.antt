use Rattle.std.proofs.Common.{ℕ, ap, sym, subst}
use Rattle.asp_bits.specs.Places.{true_places}
use Rattle.asp_store.specs.Shelves.{IsHolding}
use Rattle.asp_node.specs.Children.{ChildState, ChildGoesOn, RestsOn}
use Rattle.asp_node.specs.Causes.{IsAskSpent}
use Rattle.asp_team.specs.States.{over}
use Rattle.asp_team.proofs.Passing.{own-level, passed-rests-on, passed-goes, passed-rests, passed-spent}
use Rattle.asp_team.proofs.layer.LayerChildOwn.ask_at.Goals as goal

pub returns-then-is_own-clause-held : goal.returns-then-is_own-clause-held
returns-then-is_own-clause-held g c at same =
    let own = c.self.inside.own in
    let a = g.C.Child.state c.self.inside.child in
    subst (λ (k : ℕ). IsHolding c.ask.new.shelf.seen k (true_places c.args.set.now) at)
    (own-level own a c.is_own.result c.args.self.now.level c.args.level c.is_own.ensures c.if-is_own.true (ap (λ (s : ChildState). s.level) c.self.view_is) c.requires.first)
    (c.ask.ensures.held at same)

pub ask_at-requires-clause-rests : goal.ask_at-requires-clause-rests
ask_at-requires-clause-rests g c =
    passed-rests-on c.self.inside.own (g.C.Child.state c.self.inside.child) c.args.shelf.now.seen c.self.invariant
    (subst (λ (s : ChildState). RestsOn c.args.shelf.now.seen s) (sym c.self.view_is) c.requires.rests)

pub returns-clause-goes_on : goal.returns-clause-goes_on
returns-clause-goes_on g c =
    let own = c.self.inside.own in
    let a = g.C.Child.state c.self.inside.child in
    let b = g.C.Child.state c.ask_at.new.self in
    subst (λ (s : ChildState). ChildGoesOn s (over own b)) c.self.view_is (passed-goes own a b c.ask_at.ensures.goes_on)

pub returns-clause-rests : goal.returns-clause-rests
returns-clause-rests g c =
    passed-rests c.self.inside.own (g.C.Child.state c.self.inside.child) (g.C.Child.state c.ask_at.new.self) c.args.shelf.now c.ask_at.new.shelf c.self.invariant
    c.ask_at.ensures.shelf c.ask_at.ensures.goes_on
    (subst (λ (s : ChildState). RestsOn c.args.shelf.now.seen s) (sym c.self.view_is) c.requires.rests)
    c.ask_at.ensures.rests

pub returns-clause-spent : goal.returns-clause-spent
returns-clause-spent g c unknown same =
    let own = c.self.inside.own in
    let a = g.C.Child.state c.self.inside.child in
    let b = g.C.Child.state c.ask_at.new.self in
    subst (λ (s : ChildState). IsAskSpent c.args.shelf.now c.ask_at.new.shelf s (over own b) unknown) c.self.view_is
    (passed-spent own a b c.args.shelf.now c.ask_at.new.shelf unknown c.self.invariant (c.ask_at.ensures.spent unknown same))
