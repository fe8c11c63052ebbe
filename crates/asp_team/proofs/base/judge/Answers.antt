use Rattle.std.proofs.Common.{◌≡◌, sym, subst, ℕ, ◌+◌, true, List}
use Rattle.asp_bits.specs.Places.{true_places}
use Rattle.asp_defs.specs.declared.ground.Game.{Game}
use Rattle.asp_defs.specs.Games.{level_count}
use Rattle.asp_defs.specs.Entries.{is_entry}
use Rattle.asp_defs.specs.History.{is_justified}
use Rattle.asp_store.specs.Shelves.{IsHolding}
use Rattle.asp_team.proofs.Judged.{made, judgement-formed, judgement-justified}
use Rattle.asp_team.proofs.base.judge.Goals as goal

pub add_entry-requires-clause-formed : goal.add_entry-requires-clause-formed
add_entry-requires-clause-formed g c =
    let here = c.args.game.now in
    let cube = c.in_ok-judged.judged.cube in
    let verdict = c.in_ok-judged.judged.verdict in
    subst (λ (h : Game). is_entry h (made c.level_behind.result cube verdict c.in_ok-seed.seed) ≡ true) (sym c.requires.game)
    (subst (λ (k : ℕ). is_entry here (made k cube verdict c.in_ok-seed.seed) ≡ true) (sym c.level_behind.ensures)
    (subst (λ (seed : List ℕ). is_entry here (made (level_count here + 1) cube verdict seed) ≡ true) (sym c.in_ok-seed.ensures)
    (judgement-formed here (true_places c.args.set.now) cube verdict c.requires.set c.in_ok-judged.ensures)))

pub add_entry-requires-clause-justified : goal.add_entry-requires-clause-justified
add_entry-requires-clause-justified g c =
    let here = c.args.game.now in
    let H = (g.S.Shelf.state c.args.shelf.now).seen in
    let cube = c.in_ok-judged.judged.cube in
    let verdict = c.in_ok-judged.judged.verdict in
    subst (λ (h : Game). is_justified h H (made c.level_behind.result cube verdict c.in_ok-seed.seed) ≡ true) (sym c.requires.game)
    (subst (λ (k : ℕ). is_justified here H (made k cube verdict c.in_ok-seed.seed) ≡ true) (sym c.level_behind.ensures)
    (subst (λ (seed : List ℕ). is_justified here H (made (level_count here + 1) cube verdict seed) ≡ true) (sym c.in_ok-seed.ensures)
    (judgement-justified here H (true_places c.args.set.now) cube verdict c.requires.valid c.in_ok-judged.ensures)))

pub returns-clause-held : goal.returns-clause-held
returns-clause-held g c at same =
    subst (λ (k : ℕ). IsHolding (g.S.Shelf.state c.add_entry.new.shelf).seen k (true_places c.args.set.now) at) c.level_behind.ensures
    (subst (λ (N : List ℕ). IsHolding (g.S.Shelf.state c.add_entry.new.shelf).seen c.level_behind.result N at) c.in_ok-seed.ensures
    (c.add_entry.ensures.held at same))
