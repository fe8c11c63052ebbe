-- Members of interpretations and of their subsets.
use Rattle.std.proofs.Common.{ℕ, ◌<◌, ◌≡◌, refl, sym, ◌∙◌, ap, subst, inl, inr, Bool, true, false, not, cond, ◌⊎◌, List, [], ◌∷◌, map, arith, nat_lt}
use Rattle.std.proofs.lemmas.Bool.{eqb-true, eq-eqb, ltb-true}
use Rattle.std.specs.Prelude.{◌==◌}
use Rattle.std.specs.List.{list_all, filter}
use Rattle.asp_defs.specs.declared.ground.GroundRule.{GroundRule}
use Rattle.asp_defs.specs.Lists.{IsIn}
use Rattle.asp_defs.specs.Interpretations.{holds, subsets, same, proper_subsets}
use Rattle.asp_defs.specs.Games.{ascends}
use Rattle.asp_defs.proofs.Lists.{both, and_true, true_or_false, not_true, not_false, all_at, all_from, any_at, any_from, filter_from, append_at, append_left, append_right, map_at, map_from}

pub true_is_not_false : (a : Bool) → a ≡ true → a ≡ false → ⊥
true_is_not_false true p q = cc
true_is_not_false false p q = cc

-- an atom holds in an interpretation exactly where it is a member
pub holds_at : (I : List ℕ) (a : ℕ) → holds I a ≡ true → IsIn a I
holds_at I a h =
    let found = any_at (λ b. b == a) I h in
    subst (λ (x : ℕ). IsIn x I) (eqb-true found.0 a found.2) found.1

pub holds_from : (I : List ℕ) (a : ℕ) → IsIn a I → holds I a ≡ true
holds_from I a i = any_from (λ b. b == a) I a i (eq-eqb a a refl)

-- a subset of a set with one more member lacks that member or begins with it
pub subset_at : (b : ℕ) (I J : List ℕ) → IsIn J (subsets (b ∷ I)) → IsIn J (subsets I) ⊎ ((K : List ℕ) × IsIn K (subsets I) × (J ≡ b ∷ K))
subset_at b I J i = elim (append_at (subsets I) (map (λ K. b ∷ K) (subsets I)) J i) [
  | inl h ↦ inl h
  | inr h ↦ inr (map_at (λ K. b ∷ K) (subsets I) J h)
]

-- a member of a subset is a member of the set
pub subset-member : (I J : List ℕ) (a : ℕ) → IsIn J (subsets I) → IsIn a J → IsIn a I
subset-member [] J a (inl e) h = subst (λ (K : List ℕ). IsIn a K) e h
subset-member [] J a (inr i) h = absurd i
subset-member (b ∷ I) J a i h = elim (subset_at b I J i) [
  | inl inside ↦ inr (subset-member I J a inside h)
  | inr begins ↦ elim (subst (λ (K : List ℕ). IsIn a K) begins.2 h) [
    | inl e ↦ inl e
    | inr more ↦ inr (subset-member I begins.0 a begins.1 more)
  ]
]

pub subset-holds : (I J : List ℕ) (a : ℕ) → IsIn J (subsets I) → holds J a ≡ true → holds I a ≡ true
subset-holds I J a i h = holds_from I a (subset-member I J a i (holds_at J a h))

-- a negative body that is false of a set is false of its subsets
pub neg_out-subset : (I J : List ℕ) (r : GroundRule) → IsIn J (subsets I) → list_all (λ a. not (holds I a)) r.neg ≡ true → list_all (λ a. not (holds J a)) r.neg ≡ true
neg_out-subset I J r i h =
    all_from (λ a. not (holds J a)) r.neg (λ a member.
    elim (true_or_false (holds J a)) [
      | inl inside ↦
          absurd (true_is_not_false _ (subset-holds I J a i inside) (not_true _ (all_at (λ a. not (holds I a)) r.neg a h member)))
      | inr outside ↦ not_false _ outside
    ])

-- a positive body that is true in a subset is true in the set
pub pos_in-subset : (I J : List ℕ) (r : GroundRule) → IsIn J (subsets I) → list_all (holds J) r.pos ≡ true → list_all (holds I) r.pos ≡ true
pos_in-subset I J r i h = all_from (holds I) r.pos (λ a member. subset-holds I J a i (all_at (holds J) r.pos a h member))

-- what passes a test is a subset
pub filter-subset : (p : ℕ → Bool) (I : List ℕ) → IsIn (filter p I) (subsets I)
filter-subset p [] = inl refl
filter-subset p (b ∷ I) = elim (true_or_false (p b)) [
  | inl passes ↦
      subst (λ (t : Bool). IsIn (cond t (b ∷ filter p I) (filter p I)) (subsets (b ∷ I))) (sym passes)
      (append_right (subsets I) (map (λ K. b ∷ K) (subsets I)) (b ∷ filter p I) (map_from (λ K. b ∷ K) (subsets I) (filter p I) (filter-subset p I)))
  | inr fails ↦
      subst (λ (t : Bool). IsIn (cond t (b ∷ filter p I) (filter p I)) (subsets (b ∷ I))) (sym fails)
      (append_left (subsets I) (map (λ K. b ∷ K) (subsets I)) (filter p I) (filter-subset p I))
]

-- the members of an interpretation that are not in another
abbrev pub without : List ℕ → List ℕ → List ℕ
without I U = filter (λ a. not (holds U a)) I

-- `same` decides equality
pub same_at : (I J : List ℕ) → same I J ≡ true → I ≡ J
same_at [] [] h = refl
same_at (a ∷ I) (b ∷ J) h =
    let parts = both (a == b) (same I J) h in
    rw (eqb-true a b parts.0, same_at I J parts.1) refl
same_at [] (b ∷ J) h = absurd (cc)
same_at (a ∷ I) [] h = absurd (cc)

pub same_from : (I : List ℕ) → same I I ≡ true
same_from [] = refl
same_from (a ∷ I) = and_true (a == a) (same I I) (eq-eqb a a refl) (same_from I)

-- the members behind the first of an ascending list are greater
pub ascends-tail : (b : ℕ) (I : List ℕ) → ascends (b ∷ I) ≡ true → ascends I ≡ true
ascends-tail b [] h = refl
ascends-tail b (c ∷ I) h = (both (nat_lt b c) (ascends (c ∷ I)) h).1

pub ascends-member : (b : ℕ) (I : List ℕ) (x : ℕ) → ascends (b ∷ I) ≡ true → IsIn x I → b < x
ascends-member b [] x h i = absurd i
ascends-member b (c ∷ I) x h (inl e) =
    let first : b < c = ltb-true b c ((both (nat_lt b c) (ascends (c ∷ I)) h).0) in omega arith
ascends-member b (c ∷ I) x h (inr i) =
    let parts = both (nat_lt b c) (ascends (c ∷ I)) h in
    let first : b < c = ltb-true b c parts.0 in
    let more : c < x = ascends-member c I x parts.1 i in
    omega arith

-- a subset that has every member is the set
pub subset_full : (I J : List ℕ) → ascends I ≡ true → IsIn J (subsets I) → ((a : ℕ) → IsIn a I → IsIn a J) → J ≡ I
subset_full [] J h (inl e) all = e
subset_full [] J h (inr i) all = absurd i
subset_full (b ∷ I) J h i all = elim (subset_at b I J i) [
  | inl inside ↦
      let again : b < b = ascends-member b I b h (subset-member I J b inside (all b (inl refl))) in absurd (omega arith)
  | inr begins ↦
      begins.2 ∙ ap (λ (K : List ℕ). b ∷ K) (subset_full I begins.0 (ascends-tail b I h) begins.1 (λ a member.
      elim (subst (λ (K : List ℕ). IsIn a K) begins.2 (all a (inr member))) [
        | inl e ↦ let above : b < a = ascends-member b I a h member in absurd (omega arith)
        | inr more ↦ more
      ]))
]

-- a subset that lacks a member is a proper one
pub proper_from : (I J : List ℕ) (a : ℕ) → IsIn J (subsets I) → IsIn a I → (IsIn a J → ⊥) → IsIn J (proper_subsets I)
proper_from I J a i member lacks =
    filter_from (λ K. not (same K I)) (subsets I) J i
    (elim (true_or_false (same J I)) [
      | inl equal ↦ absurd (lacks (subst (λ (K : List ℕ). IsIn a K) (sym (same_at J I equal)) member))
      | inr other ↦ not_false _ other
    ])
