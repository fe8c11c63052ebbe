-- The entry of a level after whose outer moves in a cube every move is refuted.
use Rattle.std.proofs.Common.{◌≡◌, refl, sym, subst, ℕ, zero, suc, ◌+◌, ◌-◌, ◌<◌, ◌≤◌, Bool, true, false, not, List, [], ◌∷◌, length, drop, arith}
use Rattle.std.specs.List.{list_all, list_any}
use Rattle.asp_defs.specs.declared.ground.Game.{Game}
use Rattle.asp_defs.specs.declared.ground.Lit.{Lit}
use Rattle.asp_defs.specs.declared.syntax.Quant.{Quant}
use Rattle.asp_defs.specs.Games.{level_count, base, is_subset}
use Rattle.asp_defs.specs.Values.{moves}
use Rattle.asp_defs.specs.Entries.{Entry, held_moves, is_entry, winning}
use Rattle.asp_defs.specs.History.{agrees, is_held_with, is_justified_at, is_justified}
use Rattle.asp_defs.proofs.Lists.{all_from}
use Rattle.asp_node.specs.Ends.{quant_of, winning_at, IsExhausted}
use Rattle.asp_node.proofs.Formed.{parts_from}
use Rattle.asp_team.proofs.Judged.{made}

pub refutation-formed : (g : Game) (i : ℕ) (M : List ℕ) (seen : List Entry) (cube : List Lit) (verdict : Bool) → 1 ≤ i → i ≤ level_count g
    → is_subset M (base g (i - 1)) ≡ true → IsExhausted g i M [] seen cube → is_entry g (made i cube verdict M) ≡ true
refutation-formed g i M seen cube verdict first last outer x =
    parts_from g (made i cube verdict M) (record {
      first = first;
      last = omega (arith, last);
      atoms = x.atoms;
      stand = x.named;
      seed = outer;
      held = x.held;
    })

-- all moves that are held with the other verdict justify it
by_all : (g : Game) (H : List Entry) (quants : List Quant) (i : ℕ) (K : List ℕ) → 0 < length quants
    → list_all (is_held_with H (i + 1) (not (winning (quant_of quants)))) (moves g i K) ≡ true → is_justified_at g H quants i (not (winning (quant_of quants))) K ≡ true
by_all g H [] i K some held = absurd (omega arith)
by_all g H (q ∷ qs) i K some held = go (winning q) held
  where
    go : (w : Bool) → list_all (is_held_with H (i + 1) (not w)) (moves g i K) ≡ true
        → elim (agrees w (not w)) [
          | true ↦ list_any (is_held_with H (i + 1) (not w)) (moves g i K)
          | false ↦ list_all (is_held_with H (i + 1) (not w)) (moves g i K)
        ] ≡ true
    go true h = h
    go false h = h

left : {A : Type 0} (k : ℕ) (xs : List A) → k < length xs → 0 < length (drop k xs)
left k [] h = absurd (omega arith)
left zero (x ∷ xs) h = omega arith
left (suc k) (x ∷ xs) h = left k xs (omega arith)

pub refutation-justified : (g : Game) (i : ℕ) (M : List ℕ) (seen : List Entry) (cube : List Lit) (verdict : Bool) → 1 ≤ i → i ≤ level_count g
    → verdict ≡ not (winning_at g i) → IsExhausted g i M [] seen cube → is_justified g seen (made i cube verdict M) ≡ true
refutation-justified g i M seen cube verdict first last lost x =
    subst (λ (v : Bool). is_justified g seen (made i cube v M) ≡ true) (sym lost)
    (all_from (is_justified_at g seen (drop (i - 1) g.quants) i (not (winning_at g i))) (held_moves g i cube) (λ K member.
    by_all g seen (drop (i - 1) g.quants) i K (left (i - 1) g.quants (omega (arith, first, last)))
    (all_from (is_held_with seen (i + 1) (not (winning_at g i))) (moves g i K) (λ N is_move.
    x.refuted K member N is_move refl))))
