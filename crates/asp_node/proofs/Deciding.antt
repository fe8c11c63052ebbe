-- The entry of a level that a winning entry of the next one justifies.
use Rattle.std.proofs.Common.{◌≡◌, refl, sym, subst, ℕ, zero, suc, ◌+◌, ◌-◌, ◌<◌, ◌≤◌, inl, inr, Bool, true, false, ◌&&◌, ◌||◌, nat_lt, List, [], ◌∷◌, length, map, drop, arith}
use Rattle.std.specs.Prelude.{◌==◌}
use Rattle.std.specs.List.{list_all, list_any}
use Rattle.std.proofs.lemmas.Bool.{eq-eqb}
use Rattle.asp_defs.specs.declared.ground.Game.{Game}
use Rattle.asp_defs.specs.declared.ground.Lit.{Lit}
use Rattle.asp_defs.specs.declared.syntax.Quant.{Quant}
use Rattle.asp_defs.specs.Lists.{IsIn}
use Rattle.asp_defs.specs.Interpretations.{holds, subsets}
use Rattle.asp_defs.specs.Games.{level_count, base, is_subset, within, ascends, IsValid}
use Rattle.asp_defs.specs.Values.{moves}
use Rattle.asp_defs.specs.Entries.{Entry, cube_holds, held_moves, is_entry, stands_at, stands_from, winning}
use Rattle.asp_defs.specs.History.{agrees, is_held_with, is_justified_at, is_justified, is_legal}
use Rattle.asp_defs.proofs.Lists.{and_true, either, all_from, any_at, any_from, filter_at, map_at, map_from}
use Rattle.asp_defs.proofs.Subsets.{holds_at, subset-member}
use Rattle.asp_defs.proofs.HistoryLaws.{agrees_from}
use Rattle.asp_defs.proofs.CellLaws.{follow-formed}
use Rattle.asp_defs.proofs.SubsetLaws.{subsets_are_listed}
use Rattle.asp_defs.proofs.Irrelevance.{base-up}
use Rattle.asp_entry.specs.Cubes.{are_lits_below}
use Rattle.asp_explain.specs.Cubes.{IsMoveCube}
use Rattle.asp_explain.specs.Resting.{stands_in_literals}
use Rattle.asp_store.proofs.Keeping.{atom-below}
use Rattle.asp_node.specs.Ends.{quant_of}
use Rattle.asp_node.specs.Works.{IsWon}
use Rattle.asp_node.proofs.Formed.{parts_from, stands-here, stands-behind}

-- the entry that is added
abbrev pub decision : ℕ → List Lit → Bool → List ℕ → Entry
decision i cube verdict M = record { level = i; cube = cube; verdict = verdict; seed = M }

-- the atoms of the winning entry's cube are atoms of the game
pub won-below : (g : Game) (i : ℕ) (H : List Entry) (N : List ℕ) (e : Entry) (count : ℕ) → IsValid g → is_legal g H ≡ true → IsWon g i H N e
    → count ≡ length g.bases.atoms → are_lits_below count e.cube ≡ true
won-below g i H N e count valid legal won same =
    subst (λ (k : ℕ). are_lits_below k e.cube ≡ true) (sym same)
    (let f = follow-formed g [] H valid legal e won.member in
    let low = f.last in
    all_from (λ l. nat_lt l.atom (length g.bases.atoms)) e.cube (λ l inside.
    atom-below g (e.level - 1) l.atom valid (omega (arith, low))
    (subset-member (base g (e.level - 1)) (map (λ l. l.atom) e.cube) l.atom f.cube (map_from (λ l. l.atom) e.cube l inside))))

-- an atom of the new cube stands in a rule or bound of the level or of a later one
stand : (g : Game) (i : ℕ) (H : List Entry) (N : List ℕ) (e : Entry) (a : ℕ) → 1 ≤ i → is_legal g H ≡ true → IsWon g i H N e
    → (stands_at g i a || stands_in_literals a e.cube) ≡ true → stands_from g i a ≡ true
stand g i H N e a first legal won h = elim (either (stands_at g i a) (stands_in_literals a e.cube) h) [
  | inl here ↦ stands-here g i a here
  | inr behind ↦
      let found = any_at (λ l. holds (l.atom ∷ []) a) e.cube behind in
      elim (holds_at (found.0.atom ∷ []) a found.2) [
        | inl same ↦
            subst (λ (b : ℕ). stands_from g i b ≡ true) (sym same)
            (stands-behind g H i e found.0 legal first won.member won.level found.1)
        | inr none ↦ absurd none
      ]
]

pub decision-formed : (g : Game) (i : ℕ) (H : List Entry) (M N : List ℕ) (e : Entry) (cube : List Lit) → 1 ≤ i → i ≤ level_count g
    → is_legal g H ≡ true → is_subset M (base g (i - 1)) ≡ true → IsWon g i H N e → IsMoveCube g i M e.cube cube
    → is_entry g (decision i cube e.verdict M) ≡ true
decision-formed g i H M N e cube first last legal outer won c =
    let B = base g (i - 1) in
    let inside : within (map (λ l. l.atom) cube) B ≡ true =
    all_from (holds B) (map (λ l. l.atom) cube) (λ a member.
    let found = map_at (λ l. l.atom) cube a member in
    subst (λ (b : ℕ). holds B b ≡ true) (sym found.2) (c.on_base found.0 found.1)) in
    parts_from g (decision i cube e.verdict M) (record {
      first = first;
      last = omega (arith, last);
      atoms = and_true (ascends (map (λ l. l.atom) cube)) (within (map (λ l. l.atom) cube) B) c.ascend inside;
      stand = all_from (λ l. stands_from g i l.atom) cube (λ l member. stand g i H N e l.atom first legal won (c.stand l member));
      seed = outer;
      held = c.held;
    })

-- the winning entry holds a move with its verdict
pub won-holds : (g : Game) (i : ℕ) (H : List Entry) (N K : List ℕ) (e : Entry) → IsWon g i H N e → cube_holds e.cube K ≡ true → is_held_with H (i + 1) e.verdict K ≡ true
won-holds g i H N K e won holds =
    any_from (λ d. (d.level == i + 1) && (agrees d.verdict e.verdict && cube_holds d.cube K)) H e won.member
    (and_true (e.level == i + 1) (agrees e.verdict e.verdict && cube_holds e.cube K) (eq-eqb e.level (i + 1) won.level)
    (and_true (agrees e.verdict e.verdict) (cube_holds e.cube K) (agrees_from e.verdict e.verdict refl) holds))

-- one move that is held with the winning verdict justifies it
by_one : (g : Game) (H : List Entry) (quants : List Quant) (i : ℕ) (verdict : Bool) (K N : List ℕ) → 0 < length quants → verdict ≡ winning (quant_of quants)
    → IsIn N (moves g i K) → is_held_with H (i + 1) verdict N ≡ true → is_justified_at g H quants i verdict K ≡ true
by_one g H [] i verdict K N some wins member held = absurd (omega arith)
by_one g H (q ∷ qs) i verdict K N some wins member held =
    go (agrees (winning q) verdict) (agrees_from (winning q) verdict (sym wins))
  where
    go : (win : Bool) → win ≡ true
        → elim win [
          | true ↦ list_any (is_held_with H (i + 1) verdict) (moves g i K)
          | false ↦ list_all (is_held_with H (i + 1) verdict) (moves g i K)
        ] ≡ true
    go true same = any_from (is_held_with H (i + 1) verdict) (moves g i K) N member held
    go false same = absurd (cc)

left : {A : Type 0} (k : ℕ) (xs : List A) → k < length xs → 0 < length (drop k xs)
left k [] h = absurd (omega arith)
left zero (x ∷ xs) h = omega arith
left (suc k) (x ∷ xs) h = left k xs (omega arith)

pub decision-justified : (g : Game) (i : ℕ) (H : List Entry) (M N : List ℕ) (e : Entry) (cube : List Lit) → IsValid g → 1 ≤ i → i ≤ level_count g
    → IsWon g i H N e → IsMoveCube g i M e.cube cube → is_justified g H (decision i cube e.verdict M) ≡ true
decision-justified g i H M N e cube valid first last won c =
    all_from (is_justified_at g H (drop (i - 1) g.quants) i e.verdict) (held_moves g i cube) (λ K member.
    let parts = filter_at (cube_holds cube) (subsets (base g (i - 1))) K member in
    let found = c.sound K ((subsets_are_listed (base g (i - 1)) K (base-up g (i - 1) valid)).0 parts.0) parts.1 in
    by_one g H (drop (i - 1) g.quants) i e.verdict K found.move
    (left (i - 1) g.quants (omega (arith, first, last)))
    won.verdict
    found.is_move (won-holds g i H N found.move e won found.held))
