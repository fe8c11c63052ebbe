use Rattle.std.proofs.Common.{◌<◌, ◌≤◌, ℕ, List, length, ap, arith}
use Rattle.asp_completion.specs.Levels.{game_at, upper}
use Rattle.asp_completion.proofs.LevelFacts.{bases, below, upper-few, upper-atom}
use Rattle.asp_answers.proofs.Reading.{read-init, read-next, read-done}
use Rattle.asp_answers.proofs.find.read.Goals as goal

pub overflow_cast-place : goal.overflow_cast-place
overflow_cast-place c =
    let few : length (upper c.args.level.now) ≤ 262144 = upper-few c.args.level.now c.requires.ready in
    let e = ap (λ (xs : List ℕ). length xs) c.upper-base.ensures in
    let h : c.loop-place.place < length c.upper-base.result.now = omega arith in
    omega (arith, e)

pub value-truth-requires-clause-atom : goal.value-truth-requires-clause-atom
value-truth-requires-clause-atom c =
    let e = ap (λ (xs : List ℕ). length xs) c.upper-base.ensures in
    let h : c.loop-place.place < length c.upper-base.result.now = omega arith in
    let atoms = c.requires.atoms in
    omega (arith, e, atoms)

pub set-requires : goal.set-requires
set-requires c =
    let h : c.loop-place.place < length c.upper-base.result.now = omega arith in
    let low = upper-atom c.args.level.now c.requires.ready c.upper-base.result.now c.loop-place.place c.upper-base.ensures h in
    let places = c.loop-place.invariant.places in
    omega (arith, low, places)

pub loop-place-init : goal.loop-place-init
loop-place-init c =
    read-init (upper c.args.level.now) (length (game_at c.args.level.now).bases.atoms) c.args.search.now.trail c.args.set.now
    c.requires.places c.requires.inside

pub loop-place-preserved : goal.loop-place-preserved
loop-place-preserved c =
    let h : c.loop-place.place < length c.upper-base.result.now = omega arith in
    read-next (upper c.args.level.now) (length (game_at c.args.level.now).bases.atoms) c.args.search.now.trail c.upper-base.result.now
    c.loop-place.set c.set.new.self c.loop-place.place c.value-truth.result ((bases c.args.level.now c.requires.ready).upper)
    (below c.args.level.now c.requires.ready) c.upper-base.ensures h c.value-truth.ensures c.set.ensures c.loop-place.invariant

pub returns : goal.returns
returns c =
    read-done (upper c.args.level.now) (length (game_at c.args.level.now).bases.atoms) c.args.search.now.trail c.upper-base.result.now
    c.loop-place.set c.loop-place.place c.upper-base.ensures (omega arith) c.loop-place.invariant
