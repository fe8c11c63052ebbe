use Rattle.std.proofs.Common.{◌≡◌, ℕ, List, true, length, sym, subst}
use Rattle.asp_bits.specs.Places.{true_places}
use Rattle.asp_defs.specs.declared.ground.Game.{Game}
use Rattle.asp_defs.specs.Entries.{Entry, is_entry}
use Rattle.asp_defs.specs.History.{is_justified}
use Rattle.asp_entry.specs.Cubes.{are_lits_below}
use Rattle.asp_store.specs.Shelves.{IsHolding}
use Rattle.asp_node.specs.Works.{IsWon}
use Rattle.asp_node.proofs.Deciding.{decision, won-below, decision-formed, decision-justified}
use Rattle.asp_node.proofs.node.decide.Goals as goal

pub move_cube-requires-clause-won_below : goal.move_cube-requires-clause-won_below
move_cube-requires-clause-won_below g c =
    subst (λ (e : Entry). are_lits_below (length c.args.set.now) e.cube ≡ true) (sym c.won.view_is)
    (won-below c.args.place.now.game.now c.args.place.now.level (g.S.Shelf.state c.args.shelf.now).seen (true_places c.args.set.now) c.args.won (length c.args.set.now)
    c.requires.place.valid c.requires.legal c.requires.won c.requires.places)

pub add_entry-requires-clause-formed : goal.add_entry-requires-clause-formed
add_entry-requires-clause-formed g c =
    let here = c.args.place.now.game.now in
    let i = c.args.place.now.level in
    let H = (g.S.Shelf.state c.args.shelf.now).seen in
    let M = true_places c.args.place.now.outer.now in
    let N = true_places c.args.set.now in
    let e : Entry = record { level = c.won.inside.level; cube = c.won.inside.cube; verdict = c.won.inside.verdict; seed = c.won.inside.seed } in
    let won : IsWon here i H N e = subst (λ (x : Entry). IsWon here i H N x) (sym c.won.view_is) c.requires.won in
    subst (λ (h : Game). is_entry h (decision i c.in_ok-cube.cube e.verdict c.in_ok-seed.seed) ≡ true) (sym c.requires.game)
    (subst (λ (seed : List ℕ). is_entry here (decision i c.in_ok-cube.cube e.verdict seed) ≡ true) (sym c.in_ok-seed.ensures)
    (decision-formed here i H M N e c.in_ok-cube.cube c.requires.place.first c.requires.place.last c.requires.legal c.requires.place.outer won c.in_ok-cube.ensures))

pub add_entry-requires-clause-justified : goal.add_entry-requires-clause-justified
add_entry-requires-clause-justified g c =
    let here = c.args.place.now.game.now in
    let i = c.args.place.now.level in
    let H = (g.S.Shelf.state c.args.shelf.now).seen in
    let M = true_places c.args.place.now.outer.now in
    let N = true_places c.args.set.now in
    let e : Entry = record { level = c.won.inside.level; cube = c.won.inside.cube; verdict = c.won.inside.verdict; seed = c.won.inside.seed } in
    let won : IsWon here i H N e = subst (λ (x : Entry). IsWon here i H N x) (sym c.won.view_is) c.requires.won in
    subst (λ (h : Game). is_justified h H (decision i c.in_ok-cube.cube e.verdict c.in_ok-seed.seed) ≡ true) (sym c.requires.game)
    (subst (λ (seed : List ℕ). is_justified here H (decision i c.in_ok-cube.cube e.verdict seed) ≡ true) (sym c.in_ok-seed.ensures)
    (decision-justified here i H M N e c.in_ok-cube.cube c.requires.place.valid c.requires.place.first c.requires.place.last won c.in_ok-cube.ensures))

pub returns-clause-held : goal.returns-clause-held
returns-clause-held g c at same =
    subst (λ (seed : List ℕ). IsHolding (g.S.Shelf.state c.add_entry.new.shelf).seen c.args.place.now.level seed at) c.in_ok-seed.ensures
    (c.add_entry.ensures.held at same)
