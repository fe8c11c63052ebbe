-- Facts about a level of a valid game.
use Rattle.std.proofs.Common.{◌≡◌, ℕ, zero, suc, ◌+◌, ◌-◌, ◌*◌, ◌<◌, ◌≤◌, true, false, List, length, get_or, sym, ap, ◌∙◌, subst, inl, inr, arith}
use Rattle.std.specs.List.{list_all}
use Rattle.std.proofs.lemmas.Bool.{cond-true, cond-false, cases_lt}
use Rattle.std.proofs.lemmas.List.{get_or_read}
use Rattle.asp_defs.specs.declared.ground.GroundRule.{GroundRule}
use Rattle.asp_defs.specs.declared.ground.Lit.{Lit}
use Rattle.asp_defs.specs.Lists.{IsIn}
use Rattle.asp_defs.specs.Interpretations.{holds}
use Rattle.asp_defs.specs.Bounds.{bound_atoms}
use Rattle.asp_defs.specs.Games.{ascends, rule_atoms, within}
use Rattle.asp_defs.proofs.Lists.{all_at}
use Rattle.asp_defs.proofs.Subsets.{holds_at, holds_from}
use Rattle.asp_completion.specs.declared.level.Level.{Level}
use Rattle.asp_completion.specs.Codes.{rank, code}
use Rattle.asp_completion.specs.Levels.{game_at, upper, lower, rules_at, bounds_at, IsLevel}
use Rattle.asp_completion.proofs.Places.{in_at, rank-within}
use Rattle.asp_completion.proofs.Bases.{AreBases, ascends-places, bases-of, atom-below, rules-inside, bounds-inside}
use Rattle.asp_completion.proofs.Loops.{item-in}

-- ---- how many atoms a base has

place-least : (B : List ℕ) (k : ℕ) → ascends B ≡ true → k < length B → k ≤ get_or B k 0
place-least B zero up h = omega arith
place-least B (suc k) up h =
    let before : k ≤ get_or B k 0 = place-least B k up (omega arith) in
    let less : get_or B k 0 < get_or B (suc k) 0 = ascends-places B k (suc k) up (omega arith) h in
    omega arith

-- an ascending list of numbers below a count is no longer than the count
pub few-below : (B : List ℕ) (count : ℕ) → ascends B ≡ true → ((a : ℕ) → holds B a ≡ true → a < count) → length B ≤ count
few-below B count up below = elim (cases_lt 0 (length B)) [
  | inl some ↦
      let k : ℕ = length B - 1 in
      let within : k < length B = omega arith in
      let least : k ≤ get_or B k 0 = place-least B k up within in
      let most : get_or B k 0 < count = below (get_or B k 0) (holds_from B (get_or B k 0) (in_at B k within)) in
      omega arith
  | inr none ↦ omega arith
]

-- ---- a level

module _ (l : Level) (ready : IsLevel l) where
  pub bases : AreBases (upper l) (lower l)
  bases = bases-of (game_at l) l.number ready.valid ready.first ready.last

  pub below : (a : ℕ) → holds (upper l) a ≡ true → a < length (game_at l).bases.atoms
  below a h = atom-below (game_at l) l.number ready.valid ready.first ready.last a h

  pub rules-in : list_all (λ r. within (rule_atoms r) (upper l)) (rules_at l) ≡ true
  rules-in = rules-inside (game_at l) l.number ready.valid ready.first ready.last

  pub bounds-in : list_all (λ b. within (bound_atoms b) (upper l)) (bounds_at l) ≡ true
  bounds-in = bounds-inside (game_at l) l.number ready.valid ready.first ready.last

  pub upper-few : length (upper l) ≤ 262144
  upper-few =
      let most : length (upper l) ≤ length (game_at l).bases.atoms =
      few-below (upper l) (length (game_at l).bases.atoms) bases.upper below in
      let atoms = ready.valid.few_atoms in
      omega arith

  pub lower-few : length (lower l) ≤ 262144
  lower-few =
      let most : length (lower l) ≤ length (game_at l).bases.atoms =
      few-below (lower l) (length (game_at l).bases.atoms) bases.lower (λ a h. below a (bases.nested a h)) in
      let atoms = ready.valid.few_atoms in
      omega arith

  pub rank-few : (a : ℕ) → holds (upper l) a ≡ true → rank (upper l) a < 262144
  rank-few a h =
      let within : rank (upper l) a < length (upper l) = rank-within (upper l) a (holds_at (upper l) a h) in
      let few : length (upper l) ≤ 262144 = upper-few in
      omega arith

  -- what the table has at an atom of the base
  pub rank-read : (a r : ℕ) → holds (upper l) a ≡ true → r ≡ get_or l.ranks.items a r → r ≡ rank (upper l) a
  rank-read a r h e =
      let size = ready.ranks.size in
      let low : a < length (game_at l).bases.atoms = below a h in
      let within : a < length l.ranks.items = omega arith in
      get_or_read l.ranks.items a r within e 0 ∙ ready.ranks.places a h

  -- a rule of the level, and an atom of the base below, as they were read
  pub rule-inside : (rules : List GroundRule) (k : ℕ) (r : GroundRule) → rules ≡ rules_at l → k < length rules
      → r ≡ get_or rules k r → within (rule_atoms r) (upper l) ≡ true
  rule-inside rules k r same h is =
      all_at (λ q. within (rule_atoms q) (upper l)) (rules_at l) r rules-in
      (subst (λ (rs : List GroundRule). IsIn r rs) same (subst (λ (q : GroundRule). IsIn q rules) (sym is) (item-in rules k r h)))

  pub upper-atom : (xs : List ℕ) (k : ℕ) → xs ≡ upper l → k < length xs → get_or xs k 0 < length (game_at l).bases.atoms
  upper-atom xs k same h =
      below (get_or xs k 0)
      (holds_from (upper l) (get_or xs k 0) (subst (λ (ys : List ℕ). IsIn (get_or xs k 0) ys) same (in_at xs k h)))

  pub lower-atom : (xs : List ℕ) (k : ℕ) → xs ≡ lower l → k < length xs
      → (holds (upper l) (get_or xs k 0) ≡ true) × (get_or xs k 0 < length (game_at l).bases.atoms)
  lower-atom xs k same h =
      let low : holds (lower l) (get_or xs k 0) ≡ true =
      holds_from (lower l) (get_or xs k 0) (subst (λ (ys : List ℕ). IsIn (get_or xs k 0) ys) same (in_at xs k h)) in
      let up : holds (upper l) (get_or xs k 0) ≡ true = bases.nested (get_or xs k 0) low in
      (up, below (get_or xs k 0) up)

-- the codes of the two literals of an atom
pub code-true : (B : List ℕ) (l : Lit) (r : ℕ) → r ≡ rank B l.atom → l.positive ≡ true → 2 * r + 1 ≡ code B l
code-true B l r e p =
    ap (λ n. 2 * n + 1) e ∙ sym (cond-true l.positive (2 * rank B l.atom + 1) (2 * rank B l.atom) p)

pub code-false : (B : List ℕ) (l : Lit) (r : ℕ) → r ≡ rank B l.atom → l.positive ≡ false → 2 * r ≡ code B l
code-false B l r e p =
    ap (λ n. 2 * n) e ∙ sym (cond-false l.positive (2 * rank B l.atom + 1) (2 * rank B l.atom) p)
