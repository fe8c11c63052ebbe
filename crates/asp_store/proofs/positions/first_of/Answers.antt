use Rattle.std.proofs.Common.{◌∙◌, ap}
use Rattle.asp_bits.specs.Places.{true_places}
use Rattle.asp_defs.specs.Entries.{Entry, cube_holds}
use Rattle.asp_reduct.proofs.Finding.{find_more, find_stop}
use Rattle.asp_store.specs.Stores.{holds_there}
use Rattle.asp_store.proofs.Held.{there}
use Rattle.asp_store.proofs.positions.first_of.Goals as goal

pub returns-then-holds : goal.returns-then-holds
returns-then-holds c =
    find_stop (holds_there c.args.entries.now (true_places c.args.set.now)) c.args.positions.now c.loop-at.at-index 0 c.loop-at-test.true c.loop-at.invariant
    (there c.args.entries.now c.args.positions.now c.loop-at.at-index (true_places c.args.set.now) _ _ c.loop-at-test.true c.requires.inside c.index-entries-at.is (c.holds.ensures ∙ ap (λ (e : Entry). cube_holds e.cube (true_places c.args.set.now)) c.entry.view_is) ∙ c.if-holds.true)

pub loop-at-preserved : goal.loop-at-preserved
loop-at-preserved c =
    find_more (holds_there c.args.entries.now (true_places c.args.set.now)) c.args.positions.now c.loop-at.at-index 0 c.loop-at-test.true c.loop-at.invariant
    (there c.args.entries.now c.args.positions.now c.loop-at.at-index (true_places c.args.set.now) _ _ c.loop-at-test.true c.requires.inside c.index-entries-at.is (c.holds.ensures ∙ ap (λ (e : Entry). cube_holds e.cube (true_places c.args.set.now)) c.entry.view_is) ∙ c.if-holds.false)
