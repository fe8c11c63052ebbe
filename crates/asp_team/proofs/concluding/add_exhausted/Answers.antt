use Rattle.std.proofs.Common.{◌≡◌, sym, subst, ap, true, not, List, ℕ}
use Rattle.asp_bits.specs.Places.{true_places}
use Rattle.asp_defs.specs.declared.ground.Game.{Game}
use Rattle.asp_defs.specs.Entries.{is_entry}
use Rattle.asp_defs.specs.History.{is_justified}
use Rattle.asp_store.specs.Shelves.{IsHolding}
use Rattle.asp_team.proofs.Judged.{made}
use Rattle.asp_team.proofs.Refuting.{refutation-formed, refutation-justified}
use Rattle.asp_team.proofs.concluding.add_exhausted.Goals as goal

pub add_entry-requires-clause-formed : goal.add_entry-requires-clause-formed
add_entry-requires-clause-formed g c =
    let here = c.args.place.now.game.now in
    let i = c.args.place.now.level in
    let verdict = not c.winning_verdict.result in
    subst (λ (h : Game). is_entry h (made i c.args.cube verdict c.in_ok-seed.seed) ≡ true) (sym c.requires.game)
    (subst (λ (seed : List ℕ). is_entry here (made i c.args.cube verdict seed) ≡ true) (sym c.in_ok-seed.ensures)
    (refutation-formed here i (true_places c.args.place.now.outer.now) (g.S.Shelf.state c.args.shelf.now).seen c.args.cube verdict c.requires.place.first c.requires.place.last
    c.requires.place.outer c.requires.exhausted))

pub add_entry-requires-clause-justified : goal.add_entry-requires-clause-justified
add_entry-requires-clause-justified g c =
    let here = c.args.place.now.game.now in
    let i = c.args.place.now.level in
    let H = (g.S.Shelf.state c.args.shelf.now).seen in
    let verdict = not c.winning_verdict.result in
    subst (λ (h : Game). is_justified h H (made i c.args.cube verdict c.in_ok-seed.seed) ≡ true) (sym c.requires.game)
    (subst (λ (seed : List ℕ). is_justified here H (made i c.args.cube verdict seed) ≡ true) (sym c.in_ok-seed.ensures)
    (refutation-justified here i (true_places c.args.place.now.outer.now) H c.args.cube verdict c.requires.place.first c.requires.place.last (ap not c.winning_verdict.ensures)
    c.requires.exhausted))

pub returns-clause-held : goal.returns-clause-held
returns-clause-held g c at same =
    subst (λ (N : List ℕ). IsHolding (g.S.Shelf.state c.add_entry.new.shelf).seen c.args.place.now.level N at) c.in_ok-seed.ensures
    (c.add_entry.ensures.held at same)
