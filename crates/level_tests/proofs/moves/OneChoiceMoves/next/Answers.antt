use Rattle.std.proofs.Common.{◌≡◌, sym, ap, ◌∙◌, inl, inr, Bool, true, false, List, [], ◌∷◌, ◌++◌}
use Rattle.asp_bits.specs.Places.{true_places}
use Rattle.asp_game.specs.Questions.{is_open}
use Rattle.level_tests.proofs.First.{IsChosen, first-open, found-same}
use Rattle.level_tests.proofs.moves.OneChoiceMoves.next.Goals.{then-is_open, else-is_open+then-is_open-2, else-is_open+else-is_open-2}
use Rattle.level_tests.proofs.moves.OneChoiceMoves.next.Goals as goal

pub returns-in-Ok-clause-first : goal.returns-in-Ok-clause-first
returns-in-Ok-clause-first c set same ordered =
    let p = is_open c.args.self.now.region (c.args.self.now.kept ++ c.args.self.now.blocked) in
    let chosen : IsChosen p c.in-Some.value = elim c.if-is_open.branch [
      | then-is_open w ↦ inl (cc, sym c.is_open.ensures ∙ w.if-is_open.true)
      | else-is_open+then-is_open-2 w ↦ inr (cc, sym c.is_open.ensures ∙ w.if-is_open.false, sym w.is_open-else-is_open.ensures ∙ w.if-is_open-2.true)
      | else-is_open+else-is_open-2 w ↦ absurd (cc)
    ] in
    let first = first-open p c.in-Some.value chosen in
    record {
      later = first.0;
      first = first.1 ∙ ap (λ (found : List Bool). true_places found ∷ first.0) (sym c.in-Ok.ensures ∙ found-same c.in-Ok.set set same);
    }
