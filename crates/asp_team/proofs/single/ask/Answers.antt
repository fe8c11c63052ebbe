use Rattle.std.proofs.Common.{ℕ, subst}
use Rattle.asp_bits.specs.Places.{true_places}
use Rattle.asp_store.specs.Shelves.{IsHolding}
use Rattle.asp_node.proofs.Steps.{shelf-then, child-same, rests-still, ask-earlier, ok-same}
use Rattle.asp_team.proofs.Teams.{team-goes, work-goes, team-spent}
use Rattle.asp_team.proofs.single.ask.Goals as goal

pub returns-in-Some-clause-work : goal.returns-in-Some-clause-work
returns-in-Some-clause-work c =
    let s = c.args.shelf.now in
    let t = c.look.new.self in
    let a = c.args.layers.now in
    work-goes s t a a c.requires.work c.look.ensures.goes_on (child-same a) (rests-still s t a c.look.ensures.goes_on c.requires.work.rests)

pub returns-in-Some-clause-goes_on : goal.returns-in-Some-clause-goes_on
returns-in-Some-clause-goes_on c =
    let a = c.args.layers.now in
    team-goes c.args.shelf.now c.look.new.self a a c.requires.work c.look.ensures.goes_on (child-same a)

pub returns-in-Some-clause-held : goal.returns-in-Some-clause-held
returns-in-Some-clause-held c at same =
    subst (λ (k : ℕ). IsHolding c.look.new.self.seen c.args.level (true_places c.args.outer.now) k) (ok-same _ at same)
    (c.look.ensures.found _ (cc))

pub ask_at-requires-clause-rests : goal.ask_at-requires-clause-rests
ask_at-requires-clause-rests c =
    rests-still c.args.shelf.now c.look.new.self c.args.layers.now c.look.ensures.goes_on c.requires.work.rests

pub returns-clause-work : goal.returns-clause-work
returns-clause-work c =
    let s = c.args.shelf.now in
    let t = c.look.new.self in
    let v = c.ask_at.new.shelf in
    work-goes s v c.args.layers.now c.ask_at.new.self c.requires.work (shelf-then s t v c.look.ensures.goes_on c.ask_at.ensures.shelf) c.ask_at.ensures.goes_on
    c.ask_at.ensures.rests

pub returns-clause-goes_on : goal.returns-clause-goes_on
returns-clause-goes_on c =
    let s = c.args.shelf.now in
    let t = c.look.new.self in
    let v = c.ask_at.new.shelf in
    team-goes s v c.args.layers.now c.ask_at.new.self c.requires.work (shelf-then s t v c.look.ensures.goes_on c.ask_at.ensures.shelf) c.ask_at.ensures.goes_on

pub returns-clause-spent : goal.returns-clause-spent
returns-clause-spent c unknown same =
    let s = c.args.shelf.now in
    let t = c.look.new.self in
    let v = c.ask_at.new.shelf in
    let a = c.args.layers.now in
    let b = c.ask_at.new.self in
    team-spent s v a b unknown c.requires.work
    (work-goes s v a b c.requires.work (shelf-then s t v c.look.ensures.goes_on c.ask_at.ensures.shelf) c.ask_at.ensures.goes_on c.ask_at.ensures.rests)
    (ask-earlier s t v a a b unknown c.look.ensures.goes_on (child-same a) (c.ask_at.ensures.spent unknown same))
