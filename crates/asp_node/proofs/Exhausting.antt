-- A core of the moves that are left exhausts a region: all other moves are held by cubes that entries refute.
use Rattle.std.proofs.Common.{◌≡◌, sym, subst, ℕ, ◌+◌, ◌≤◌, inl, inr, Bool, true, not, ◌&&◌, List, []}
use Rattle.std.specs.Prelude.{◌==◌}
use Rattle.std.specs.List.{list_any}
use Rattle.std.proofs.lemmas.Bool.{eqb-true, eq-eqb}
use Rattle.asp_defs.specs.declared.ground.Game.{Game}
use Rattle.asp_defs.specs.declared.ground.Lit.{Lit}
use Rattle.asp_defs.specs.Lists.{IsIn}
use Rattle.asp_defs.specs.Values.{moves}
use Rattle.asp_defs.specs.Entries.{Entry, cube_holds, stands_at, stands_from}
use Rattle.asp_defs.specs.History.{agrees, is_legal}
use Rattle.asp_defs.proofs.Lists.{and_true, either, true_or_false, not_false, all_at, all_from, any_at, any_from, filter_from, append_at}
use Rattle.asp_defs.proofs.Subsets.{true_is_not_false}
use Rattle.asp_defs.proofs.HistoryLaws.{agrees_from}
use Rattle.asp_game.specs.State.{MovesState, left_out}
use Rattle.asp_game.specs.Questions.{is_outside, is_open, open_moves}
use Rattle.asp_game.specs.Answers.{IsCore, is_named}
use Rattle.asp_node.specs.Ends.{winning_at, is_refuted, RefutingEntry, AreRefuted, IsExhausted}
use Rattle.asp_node.specs.Works.{IsAskedFor}
use Rattle.asp_node.proofs.Formed.{stands-here, stands-behind}

-- what a refuting entry's cube holds is refuted
pub refuting : (g : Game) (i : ℕ) (seen : List Entry) (cube : List Lit) (N : List ℕ) → RefutingEntry g i seen cube → cube_holds cube N ≡ true
    → is_refuted g i seen N ≡ true
refuting g i seen cube N r holds =
    let lost = not (winning_at g i) in
    any_from (λ d. (d.level == i + 1) && (agrees d.verdict lost && cube_holds d.cube N)) seen r.entry r.member
    (and_true (r.entry.level == i + 1) (agrees r.entry.verdict lost && cube_holds r.entry.cube N) (eq-eqb r.entry.level (i + 1) r.level)
    (and_true (agrees r.entry.verdict lost) (cube_holds r.entry.cube N) (agrees_from r.entry.verdict lost r.verdict)
    (subst (λ (c : List Lit). cube_holds c N ≡ true) (sym r.cube) holds)))

-- every cube that is left out is one for good
for_good : (s : MovesState) (cube : List Lit) → s.blocked ≡ [] → IsIn cube (left_out s) → IsIn cube s.kept
for_good s cube none inside = elim (append_at s.kept s.blocked cube inside) [
  | inl kept ↦ kept
  | inr blocked ↦ absurd (subst (λ (cubes : List (List Lit)). IsIn cube cubes) none blocked)
]

named-stands : (s : MovesState) (seen : List Entry) (a : ℕ) → 1 ≤ s.level → is_legal s.game seen ≡ true → AreRefuted s.game s.level seen s.kept → s.blocked ≡ []
    → is_named s a ≡ true → stands_from s.game s.level a ≡ true
named-stands s seen a first legal kept none h =
    let names : List Lit → Bool = λ cube. list_any (λ l. l.atom == a) cube in
    elim (either (stands_at s.game s.level a) (list_any names (left_out s)) h) [
      | inl here ↦ stands-here s.game s.level a here
      | inr behind ↦
          let cube = any_at names (left_out s) behind in
          let r = kept cube.0 (for_good s cube.0 none cube.1) in
          let lit = any_at (λ l. l.atom == a) cube.0 cube.2 in
          subst (λ (b : ℕ). stands_from s.game s.level b ≡ true) (eqb-true lit.0.atom a lit.2)
          (stands-behind s.game seen s.level r.entry lit.0 legal first r.member r.level
          (subst (λ (c : List Lit). IsIn lit.0 c) (sym r.cube) lit.1))
    ]

none_open : (s : MovesState) (seen : List Entry) (K N : List ℕ) → AreRefuted s.game s.level seen s.kept → s.blocked ≡ []
    → open_moves s K ≡ [] → IsIn N (moves s.game s.level K) → cube_holds s.region N ≡ true → is_refuted s.game s.level seen N ≡ true
none_open s seen K N kept none closed is_move in_region = elim (true_or_false (is_refuted s.game s.level seen N)) [
  | inl refuted ↦ refuted
  | inr not_refuted ↦
      let outside : is_outside (left_out s) N ≡ true =
      all_from (λ cube. not (cube_holds cube N)) (left_out s) (λ cube inside. not_false (cube_holds cube N) (elim (true_or_false (cube_holds cube N)) [
        | inl holds ↦ absurd (true_is_not_false (is_refuted s.game s.level seen N) (refuting s.game s.level seen cube N (kept cube (for_good s cube none inside)) holds) not_refuted)
        | inr free ↦ free
      ])) in
      absurd (subst (λ (sets : List (List ℕ)). IsIn N sets) closed
      (filter_from (is_open s.region (left_out s)) (moves s.game s.level K) N is_move
      (and_true (cube_holds s.region N) (is_outside (left_out s) N) in_region outside)))
]

own-exhausted : (s : MovesState) (seen : List Entry) (core : List Lit) → 1 ≤ s.level → is_legal s.game seen ≡ true → AreRefuted s.game s.level seen s.kept → s.blocked ≡ []
    → IsCore s core → IsExhausted s.game s.level s.outer s.region seen core
own-exhausted s seen core first legal kept none c = record {
  atoms = c.atoms;
  named = all_from (λ l. stands_from s.game s.level l.atom) core (λ l inside.
      named-stands s seen l.atom first legal kept none (all_at (λ l. is_named s l.atom) core l c.named inside));
  held = c.part;
  refuted = λ K member N is_move in_region. none_open s seen K N kept none (c.refuted K member) is_move in_region;
}

pub exhausted : (g : Game) (i : ℕ) (M : List ℕ) (region : List Lit) (s : MovesState) (seen : List Entry) (core : List Lit) → 1 ≤ i → is_legal g seen ≡ true
    → s.game ≡ g → s.level ≡ i → AreRefuted g i seen s.kept → IsAskedFor s M region → IsCore s core → IsExhausted g i M region seen core
exhausted g i M region s seen core first legal game level kept asked c =
    subst (λ (h : Game). IsExhausted h i M region seen core) game
    (subst (λ (k : ℕ). IsExhausted s.game k M region seen core) level
    (subst (λ (J : List ℕ). IsExhausted s.game s.level J region seen core) asked.outer
    (subst (λ (R : List Lit). IsExhausted s.game s.level s.outer R seen core) asked.region
    (own-exhausted s seen core
    (subst (λ (k : ℕ). 1 ≤ k) (sym level) first)
    (subst (λ (h : Game). is_legal h seen ≡ true) (sym game) legal)
    (subst (λ (h : Game). AreRefuted h s.level seen s.kept) (sym game) (subst (λ (k : ℕ). AreRefuted g k seen s.kept) (sym level) kept))
    asked.blocked c))))
