-- The codes of what is assumed: each is one of the search's, and no atom stands twice.
use Rattle.std.proofs.Common.{◌≡◌, ℕ, zero, suc, ◌-◌, ◌/◌, ◌<◌, true, false, not, List, [], ◌∷◌, ◌++◌, get_or, refl, sym, ap, ◌∙◌, inl, inr, arith}
use Rattle.std.specs.Prelude.{◌==◌}
use Rattle.std.specs.List.{list_all, list_any}
use Rattle.std.proofs.lemmas.Bool.{eqb-true, eq-eqb}
use Rattle.asp_defs.specs.declared.ground.Game.{Game}
use Rattle.asp_defs.specs.declared.ground.Lit.{Lit}
use Rattle.asp_defs.specs.Lists.{IsIn}
use Rattle.asp_defs.specs.Interpretations.{holds}
use Rattle.asp_defs.specs.Games.{ascends, base}
use Rattle.asp_defs.proofs.Lists.{both, and_true, true_or_false, not_true, not_false, all_at, any_at, any_from, append_at, map_at}
use Rattle.asp_defs.proofs.Subsets.{true_is_not_false, holds_at, holds_from, ascends-tail, ascends-member}
use Rattle.asp_search.specs.State.{AreDifferent}
use Rattle.asp_game.specs.Questions.{is_own_literal, atoms_differ, is_region}
use Rattle.asp_completion.specs.Codes.{rank, code, codes}
use Rattle.asp_answers.specs.Assumptions.{literals_in, assumed_literals}
use Rattle.asp_completion.proofs.Places.{in_at, get_or-rank, half-code}
use Rattle.asp_completion.proofs.Bases.{AreBases}
use Rattle.asp_answers.proofs.Cores.{outer_literal-at}

-- ---- codes of literals

-- two atoms of a base with one place are one atom
same_place : (B : List ℕ) (a b : ℕ) → holds B a ≡ true → holds B b ≡ true → rank B a ≡ rank B b → a ≡ b
same_place B a b h k e =
    sym (get_or-rank B a (holds_at B a h)) ∙ (ap (λ n. get_or B n 0) e ∙ get_or-rank B b (holds_at B b k))

pub codes-different : (B : List ℕ) (lits : List Lit) → ((l : Lit) → IsIn l lits → holds B l.atom ≡ true)
    → atoms_differ lits ≡ true → AreDifferent (codes B lits)
codes-different B [] inside differ i j less h = absurd (omega arith)
codes-different B (l ∷ lits) inside differ i zero less h = absurd (omega arith)
codes-different B (l ∷ lits) inside differ zero (suc j) less h = λ e.
    let parts = both (not (list_any (λ m. m.atom == l.atom) lits)) (atoms_differ lits) differ in
    let found = map_at (code B) lits (get_or (codes B lits) j 0) (in_at (codes B lits) j (omega arith)) in
    let places : rank B l.atom ≡ rank B found.0.atom =
    sym (half-code B l) ∙ (e ∙ (ap (λ c. c / 2) found.2 ∙ half-code B found.0)) in
    let same : l.atom ≡ found.0.atom =
    same_place B l.atom found.0.atom (inside l (inl refl)) (inside found.0 (inr found.1)) places in
    true_is_not_false (list_any (λ m. m.atom == l.atom) lits)
    (any_from (λ m. m.atom == l.atom) lits found.0 found.1 (eq-eqb found.0.atom l.atom (sym same)))
    (not_true (list_any (λ m. m.atom == l.atom) lits) parts.0)
codes-different B (l ∷ lits) inside differ (suc i) (suc j) less h =
    let parts = both (not (list_any (λ m. m.atom == l.atom) lits)) (atoms_differ lits) differ in
    codes-different B lits (λ m k. inside m (inr k)) parts.1 i j (omega arith) (omega arith)

-- ---- what is assumed

pub own-at : (g : Game) (i : ℕ) (region : List Lit) → is_region g i region ≡ true → (l : Lit) → IsIn l region
    → (holds (base g i) l.atom ≡ true) × (holds (base g (i - 1)) l.atom ≡ false)
own-at g i region h l member =
    let parts = both (list_all (is_own_literal g i) region) (atoms_differ region) h in
    let own = both (holds (base g i) l.atom) (not (holds (base g (i - 1)) l.atom)) (all_at (is_own_literal g i) region l parts.0 member) in
    (own.0, not_true (holds (base g (i - 1)) l.atom) own.1)

pub assumed-inside : (g : Game) (i : ℕ) (M : List ℕ) (region : List Lit) → AreBases (base g i) (base g (i - 1))
    → is_region g i region ≡ true → (l : Lit) → IsIn l (assumed_literals (base g (i - 1)) M region)
    → holds (base g i) l.atom ≡ true
assumed-inside g i M region bases h l member =
    elim (append_at (literals_in (base g (i - 1)) M) region l member) [
      | inl low ↦ bases.nested l.atom (holds_from (base g (i - 1)) l.atom ((outer_literal-at (base g (i - 1)) M l low).0))
      | inr own ↦ (own-at g i region h l own).0
    ]

-- the atoms of an ascending list differ, also from those of literals outside it
differ-before : (L M : List ℕ) (region : List Lit) → ascends L ≡ true → atoms_differ region ≡ true
    → ((l : Lit) → IsIn l region → IsIn l.atom L → ⊥) → atoms_differ (literals_in L M ++ region) ≡ true
differ-before [] M region up differ apart = differ
differ-before (a ∷ L) M region up differ apart =
    let rest : List Lit = literals_in L M ++ region in
    and_true (not (list_any (λ m. m.atom == a) rest)) (atoms_differ rest)
    (elim (true_or_false (list_any (λ m. m.atom == a) rest)) [
      | inl again ↦
          let found = any_at (λ (m : Lit). m.atom == a) rest again in
          let same : found.0.atom ≡ a = eqb-true found.0.atom a found.2 in
          elim (append_at (literals_in L M) region found.0 found.1) [
            | inl low ↦
                let later : a < found.0.atom = ascends-member a L found.0.atom up ((outer_literal-at L M found.0 low).0) in
                absurd (omega arith)
            | inr own ↦ absurd (apart found.0 own (inl same))
          ]
      | inr once ↦ not_false (list_any (λ m. m.atom == a) rest) once
    ])
    (differ-before L M region (ascends-tail a L up) differ (λ l i h. apart l i (inr h)))

pub assumed-differ : (g : Game) (i : ℕ) (M : List ℕ) (region : List Lit) → AreBases (base g i) (base g (i - 1))
    → is_region g i region ≡ true → atoms_differ (assumed_literals (base g (i - 1)) M region) ≡ true
assumed-differ g i M region bases h =
    differ-before (base g (i - 1)) M region bases.lower
    ((both (list_all (is_own_literal g i) region) (atoms_differ region) h).1)
    (λ l member low.
    true_is_not_false (holds (base g (i - 1)) l.atom) (holds_from (base g (i - 1)) l.atom low) ((own-at g i region h l member).1))
