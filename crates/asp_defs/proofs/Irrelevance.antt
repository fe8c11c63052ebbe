-- The value of an outer move depends alone on the atoms that stand in a rule or bound of its level or of a later one.
use Rattle.std.proofs.Common.{ℕ, suc, zero, ◌+◌, ◌-◌, ◌<◌, ◌≤◌, ◌≡◌, refl, sym, ◌∙◌, subst, inl, inr, Bool, true, not, List, [], ◌∷◌, length, get_or, drop, arith}
use Rattle.std.proofs.lemmas.List.{length-drop}
use Rattle.std.specs.List.{list_any, list_all}
use Rattle.asp_defs.specs.declared.ground.GroundRule.{GroundRule}
use Rattle.asp_defs.specs.declared.ground.Bound.{Bound}
use Rattle.asp_defs.specs.declared.ground.Game.{Game}
use Rattle.asp_defs.specs.declared.syntax.Quant.{Quant}
use Rattle.asp_defs.specs.declared.syntax.Quant.TheVariants.{Exists, Forall}
use Rattle.asp_defs.specs.Lists.{IsIn, is_empty}
use Rattle.asp_defs.specs.Interpretations.{holds, subsets}
use Rattle.asp_defs.specs.Bounds.{bound_atoms}
use Rattle.asp_defs.specs.Games.{level_count, base, rules_of, bounds_of, rule_atoms, ascends, within, nested, IsValid}
use Rattle.asp_defs.specs.Values.{moves, claims, value_from}
use Rattle.asp_defs.specs.Entries.{stands_in_rules, stands_in_bounds, stands_from}
use Rattle.asp_defs.specs.Laws.{ValuesRestOnRulesAndBounds}
use Rattle.asp_defs.proofs.Lists.{both, either, or_left, or_right, all_at, all_from, any_at, any_from}
use Rattle.asp_defs.proofs.Subsets.{holds_at, holds_from, subset-member}
use Rattle.asp_defs.proofs.CellLaws.{valid-base}
use Rattle.asp_defs.proofs.Fixing.{same_test, move-answer, move_from, Swap, swapped, swap-inside, swap-same, swap-answer}
use Rattle.asp_defs.proofs.BoundLaws.{swap-meets}

-- ---- bases

within_next : (lists : List (List ℕ)) (i : ℕ) → nested lists ≡ true → i + 1 < length lists → within (get_or lists i []) (get_or lists (i + 1) []) ≡ true
within_next [] i h low = absurd (omega arith)
within_next (B ∷ []) i h low = absurd (omega arith)
within_next (B ∷ C ∷ more) zero h low = (both (within B C) (nested (C ∷ more)) h).0
within_next (B ∷ C ∷ more) (suc i) h low =
    let next : i + 1 < length (C ∷ more) = omega arith in
    let count : suc (i + 1) ≡ suc i + 1 = omega arith in
    subst (λ (k : ℕ). within (get_or (B ∷ C ∷ more) (suc i) []) (get_or (B ∷ C ∷ more) k []) ≡ true) count
    (within_next (C ∷ more) i ((both (within B C) (nested (C ∷ more)) h).1) next)

-- the base of a level is one of a valid game's ascending bases, and the one below lies within it
pub base-up : (g : Game) (i : ℕ) → IsValid g → ascends (base g i) ≡ true
base-up g i valid = valid-base g.bases.members i valid.ordered_bases

pub base-next : (g : Game) (i : ℕ) → IsValid g → 1 ≤ i → i ≤ level_count g + 1 → (a : ℕ) → IsIn a (base g (i - 1)) → IsIn a (base g i)
base-next g i valid first last a member =
    let count : length g.bases.members ≡ level_count g + 2 = valid.base_lists in
    let low : i - 1 + 1 < length g.bases.members = omega (arith, first, last, count) in
    let back : i - 1 + 1 ≡ i = omega (arith, first) in
    let inside : within (base g (i - 1)) (base g (i - 1 + 1)) ≡ true = within_next g.bases.members (i - 1) valid.nested_bases low in
    subst (λ (k : ℕ). IsIn a (base g k)) back (holds_at (base g (i - 1 + 1)) a (all_at (holds (base g (i - 1 + 1))) (base g (i - 1)) a inside member))

-- ---- atoms that stand in rules and bounds

-- what one of the lists from a place on passes, where a member of the list at the place does
any_behind : {A : Type 0} (p : A → Bool) (lists : List (List A)) (k : ℕ) (x : A) → IsIn x (get_or lists k []) → p x ≡ true → list_any (list_any p) (drop k lists) ≡ true
any_behind p [] k x member passes = absurd member
any_behind p (xs ∷ lists) zero x member passes = any_from (list_any p) (xs ∷ lists) xs (inl refl) (any_from p xs x member passes)
any_behind p (xs ∷ lists) (suc k) x member passes = any_behind p lists k x member passes

-- an atom of a rule or bound of a level stands in one from that level on
pub stands-rule : (g : Game) (i : ℕ) (r : GroundRule) (a : ℕ) → IsIn r (rules_of g i) → IsIn a (rule_atoms r) → stands_from g i a ≡ true
stands-rule g i r a member inside =
    or_left (list_any (stands_in_rules a) (drop (i - 1) g.rules)) (list_any (stands_in_bounds a) (drop (i - 1) g.bounds))
    (any_behind (λ r. holds (rule_atoms r) a) g.rules (i - 1) r member (holds_from (rule_atoms r) a inside))

pub stands-bound : (g : Game) (i : ℕ) (b : Bound) (a : ℕ) → IsIn b (bounds_of g i) → IsIn a (bound_atoms b) → stands_from g i a ≡ true
stands-bound g i b a member inside =
    or_right (list_any (stands_in_rules a) (drop (i - 1) g.rules)) (list_any (stands_in_bounds a) (drop (i - 1) g.bounds))
    (any_behind (λ b. holds (bound_atoms b) a) g.bounds (i - 1) b member (holds_from (bound_atoms b) a inside))

-- an atom that stands in a rule or bound from the next level on does so from this level on
any_drop : {A : Type 0} (p : A → Bool) (xs : List A) (k : ℕ) → list_any p (drop (k + 1) xs) ≡ true → list_any p (drop k xs) ≡ true
any_drop p [] zero h = h
any_drop p [] (suc k) h =
    let count : suc k + 1 ≡ suc (suc k) = omega arith
    in subst (λ (n : ℕ). list_any p (drop n []) ≡ true) count h
any_drop p (x ∷ xs) zero h = or_right (p x) (list_any p xs) h
any_drop p (x ∷ xs) (suc k) h =
    let count : suc k + 1 ≡ suc (k + 1) = omega arith
    in any_drop p xs k (subst (λ (n : ℕ). list_any p (drop n (x ∷ xs)) ≡ true) count h)

pub stands-next : (g : Game) (i : ℕ) (a : ℕ) → 1 ≤ i → stands_from g (i + 1) a ≡ true → stands_from g i a ≡ true
stands-next g i a first h =
    let count : i + 1 - 1 ≡ i - 1 + 1 = omega (arith, first) in
    let rules = list_any (stands_in_rules a) (drop (i - 1) g.rules) in
    let bounds = list_any (stands_in_bounds a) (drop (i - 1) g.bounds) in
    elim (either (list_any (stands_in_rules a) (drop (i + 1 - 1) g.rules)) (list_any (stands_in_bounds a) (drop (i + 1 - 1) g.bounds)) h) [
      | inl one ↦
          or_left rules bounds
          (any_drop (stands_in_rules a) g.rules (i - 1) (subst (λ (k : ℕ). list_any (stands_in_rules a) (drop k g.rules) ≡ true) count one))
      | inr one ↦
          or_right rules bounds
          (any_drop (stands_in_bounds a) g.bounds (i - 1) (subst (λ (k : ℕ). list_any (stands_in_bounds a) (drop k g.bounds) ≡ true) count one))
    ]

-- ---- values

-- two interpretations agree on the atoms that stand in a rule or bound from a level on
abbrev pub AgreeFrom : Game → ℕ → List ℕ → List ℕ → Type 0
AgreeFrom g i I J = (a : ℕ) → stands_from g i a ≡ true → holds I a ≡ holds J a

-- for each move after an outer move there is one after another outer move that agrees with it
pub record Partner (g : Game) (i : ℕ) (M' N : List ℕ) : Type 0 where
  pub move : List ℕ
  pub is_move : IsIn move (moves g i M')
  pub agrees : AgreeFrom g i N move

pub partner : (g : Game) (i : ℕ) (M M' N : List ℕ) → IsValid g → 1 ≤ i → i ≤ level_count g + 1 → IsIn M (subsets (base g (i - 1))) → IsIn M' (subsets (base g (i - 1))) → AgreeFrom g i M M' → IsIn N (moves g i M) → Partner g i M' N
partner g i M M' N valid first last inside inside' same move =
    let B = base g (i - 1) in
    let parts = move-answer g i M N move in
    let s : Swap (rules_of g i) B (base g i) M M' N = record {
      up = base-up g i valid;
      nested = base-next g i valid first last;
      first_inside = λ a. subset-member B M a inside;
      second_inside = λ a. subset-member B M' a inside';
      agree = λ r member a at_rule lower. same a (stands-rule g i r a member at_rule);
      within = parts.0;
      answer = parts.1;
    } in
    record {
      move = swapped B (base g i) M' N;
      is_move = move_from g i M' (swapped B (base g i) M' N) (swap-inside B (base g i) M' N) (swap-answer (rules_of g i) B (base g i) M M' N s)
          (swap-meets (rules_of g i) B (base g i) M M' N (bounds_of g i) s (λ b member a at_bound lower. same a (stands-bound g i b a member at_bound)) parts.2);
      agrees = λ a stands. swap-same (rules_of g i) B (base g i) M M' N s a (λ lower. same a stands);
    }

pub some_move : (sets : List (List ℕ)) → not (is_empty sets) ≡ true → (N : List ℕ) × IsIn N sets
some_move [] h = absurd (cc)
some_move (N ∷ sets) h = (N, inl refl)

pub some_move_from : (sets : List (List ℕ)) (N : List ℕ) → IsIn N sets → not (is_empty sets) ≡ true
some_move_from [] N i = absurd i
some_move_from (K ∷ sets) N i = refl

-- a quantifier claims the same of two lists of moves where each move of either has one of the other that passes as it does
claims-alike : (q : Quant) (test : List ℕ → Bool) (sets sets' : List (List ℕ)) → ((N : List ℕ) → IsIn N sets → (K : List ℕ) × IsIn K sets' × (test N ≡ test K)) → ((N : List ℕ) → IsIn N sets' → (K : List ℕ) × IsIn K sets × (test N ≡ test K)) → claims q test sets ≡ claims q test sets'
claims-alike Exists test sets sets' there back =
    same_test (list_any test sets) (list_any test sets')
    (λ h. let found = any_at test sets h in let k = there found.0 found.1 in any_from test sets' k.0 k.1 (sym k.2 ∙ found.2))
    (λ h. let found = any_at test sets' h in let k = back found.0 found.1 in any_from test sets k.0 k.1 (sym k.2 ∙ found.2))
claims-alike Forall test sets sets' there back =
    same_test (list_all test sets) (list_all test sets')
    (λ h. all_from test sets' (λ N i. let k = back N i in k.2 ∙ all_at test sets k.0 h k.1))
    (λ h. all_from test sets (λ N i. let k = there N i in k.2 ∙ all_at test sets' k.0 h k.1))

agree-next : (g : Game) (i : ℕ) (I J : List ℕ) → 1 ≤ i → AgreeFrom g i I J → AgreeFrom g (i + 1) I J
agree-next g i I J first same a stands = same a (stands-next g i a first stands)

agree-back : (g : Game) (i : ℕ) (I J : List ℕ) → AgreeFrom g i I J → AgreeFrom g i J I
agree-back g i I J same a stands = sym (same a stands)

-- what is known of the level behind: outer moves that agree on the atoms that stand in rules or bounds from there on have one
-- value
abbrev AlikeBehind : Game → List Quant → ℕ → Type 0
AlikeBehind g qs i =
    (M M' : List ℕ) → IsIn M (subsets (base g (i - 1))) → IsIn M' (subsets (base g (i - 1))) → AgreeFrom g i M M' → value_from g qs i M ≡ value_from g qs i M'

nothing_behind : (g : Game) (i : ℕ) → IsValid g → 1 ≤ i → i ≤ level_count g + 1 → AlikeBehind g [] i
nothing_behind g i valid first last M M' inside inside' same =
    same_test (not (is_empty (moves g i M))) (not (is_empty (moves g i M')))
    (λ h.
    let found = some_move (moves g i M) h in
    let p = partner g i M M' found.0 valid first last inside inside' same found.1 in
    some_move_from (moves g i M') p.move p.is_move)
    (λ h.
    let found = some_move (moves g i M') h in
    let p = partner g i M' M found.0 valid first last inside' inside (agree-back g i M M' same) found.1 in
    some_move_from (moves g i M) p.move p.is_move)

one_more_level : (g : Game) (q : Quant) (qs : List Quant) (i : ℕ) → IsValid g → 1 ≤ i → i ≤ level_count g + 1 → AlikeBehind g qs (i + 1) → AlikeBehind g (q ∷ qs) i
one_more_level g q qs i valid first last behind M M' inside inside' same =
    claims-alike q (value_from g qs (i + 1)) (moves g i M) (moves g i M') (there M M' inside inside' same) (there M' M inside' inside (agree-back g i M M' same))
  where
    back : i + 1 - 1 ≡ i
    back = omega arith

    below : (K N : List ℕ) → IsIn N (moves g i K) → IsIn N (subsets (base g (i + 1 - 1)))
    below K N move = subst (λ (k : ℕ). IsIn N (subsets (base g k))) (sym back) ((move-answer g i K N move).0)

    there : (K K' : List ℕ) → IsIn K (subsets (base g (i - 1))) → IsIn K' (subsets (base g (i - 1))) → AgreeFrom g i K K' → (N : List ℕ) → IsIn N (moves g i K) → (N' : List ℕ) × IsIn N' (moves g i K') × (value_from g qs (i + 1) N ≡ value_from g qs (i + 1) N')
    there K K' inside inside' same N move =
        let p = partner g i K K' N valid first last inside inside' same move in
        (p.move, p.is_move, behind N p.move (below K N move) (below K' p.move p.is_move) (agree-next g i N p.move first p.agrees))

value_from-alike : (g : Game) (qs : List Quant) (i : ℕ) → IsValid g → 1 ≤ i → i + length qs ≡ level_count g + 1 → AlikeBehind g qs i
value_from-alike g [] i valid first count = nothing_behind g i valid first (omega (arith, count))
value_from-alike g (q ∷ qs) i valid first count =
    one_more_level g q qs i valid first (omega (arith, count)) (value_from-alike g qs (i + 1) valid (omega arith) (omega (arith, count)))

-- outer moves that agree on the atoms that stand in a rule or bound of their level or a later one have the same value
pub values_rest_on_rules_and_bounds : ValuesRestOnRulesAndBounds
values_rest_on_rules_and_bounds g i M M' valid first last inside inside' same =
    let long : length (drop (i - 1) g.quants) ≡ length g.quants - (i - 1) = length-drop (i - 1) g.quants in
    value_from-alike g (drop (i - 1) g.quants) i valid first (omega (arith, long, first, last)) M M' inside inside' same
