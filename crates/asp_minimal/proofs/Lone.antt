-- Atoms that no rule supports alone.
use Rattle.std.proofs.Common.{ℕ, ◌+◌, ◌<◌, ◌≤◌, ◌≡◌, refl, sym, ◌∙◌, ap, subst, inl, inr, Bool, true, false, not, ◌&&◌, List, [], ◌∷◌, length, get_or, take, Option, None, Some, arith}
use Rattle.std.specs.Prelude.{MatchOption}
use Rattle.std.specs.List.{list_any, list_all, find, slice_get}
use Rattle.std.proofs.lemmas.Bool.{cases_lt, cases_eq}
use Rattle.std.proofs.lemmas.List.{get_or_past, take_all}
use Rattle.std.proofs.lemmas.List.Folds.{list_all_more}
use Rattle.asp_bits.specs.Places.{true_places}
use Rattle.asp_reduct.proofs.Truths.{holds-true_places, holds-read}
use Rattle.asp_reduct.proofs.Finding.{found_at, none_found}
use Rattle.asp_defs.specs.declared.ground.GroundRule.{GroundRule}
use Rattle.asp_defs.specs.Lists.{IsIn}
use Rattle.asp_defs.specs.Interpretations.{holds}
use Rattle.asp_defs.specs.Unfounded.{supports, is_unfounded}
use Rattle.asp_defs.proofs.Lists.{both, and_true, true_or_false, not_true, not_false, all_at, any_at, any_from}
use Rattle.asp_defs.proofs.Subsets.{true_is_not_false, holds_at, holds_from}
use Rattle.asp_defs.proofs.FoundedLaws.{supports_at, closed_at}
use Rattle.asp_minimal.specs.Numbers.{written}
use Rattle.asp_minimal.specs.Choices.{Refutes}
use Rattle.asp_minimal.specs.Alone.{supports_where_headed, Clears, AreAlone}
use Rattle.asp_minimal.proofs.Choosing.{false_from}
use Rattle.asp_minimal.proofs.Verdicts.{bound-holds, bound_at, bound_from}

-- the one atom of a set
one_atom : (a b : ℕ) → holds (a ∷ []) b ≡ true → b ≡ a
one_atom a b h = elim (holds_at (a ∷ []) b h) [ inl e ↦ e | inr none ↦ absurd none ]

-- a rule supports no atom alone but the first true one of its head
supported_is_first : (I : List ℕ) (r : GroundRule) (atoms : List ℕ) (f a : ℕ) → atoms ≡ r.head → Some f ≡ find (holds I) atoms
    → supports I (a ∷ []) r ≡ true → f ≡ a
supported_is_first I r atoms f a is found supported =
    let at = found_at (holds I) atoms f found in
    one_atom a f (closed_at I (a ∷ []) r f (supports_at I (a ∷ []) r supported).closed (subst (λ (xs : List ℕ). IsIn f xs) is at.0) at.1)

-- that one it supports where the rest of the definition holds
first_supported : (I : List ℕ) (r : GroundRule) (atoms : List ℕ) (f : ℕ) → atoms ≡ r.head → Some f ≡ find (holds I) atoms
    → supports I (f ∷ []) r ≡ supports_where_headed I f r
first_supported I r atoms f is found =
    let at = found_at (holds I) atoms f found in
    let headed : list_any (holds (f ∷ [])) r.head ≡ true =
    any_from (holds (f ∷ [])) r.head f (subst (λ (xs : List ℕ). IsIn f xs) is at.0) (holds_from (f ∷ []) f (inl refl)) in
    ap (λ b. b && supports_where_headed I f r) headed

-- and none where no atom of its head is true
none_supported : (I : List ℕ) (r : GroundRule) (atoms : List ℕ) (a : ℕ) → atoms ≡ r.head → None ≡ find (holds I) atoms → holds I a ≡ true
    → supports I (a ∷ []) r ≡ false
none_supported I r atoms a is none there = false_from (supports I (a ∷ []) r) (λ supported.
    let hit = any_at (holds (a ∷ [])) r.head (supports_at I (a ∷ []) r supported).head in
    let false_there : holds I hit.0 ≡ false =
    not_true _ (all_at (λ b. not (holds I b)) r.head hit.0 (subst (λ (xs : List ℕ). list_all (λ b. not (holds I b)) xs ≡ true) is (none_found (holds I) atoms none)) hit.1) in
    true_is_not_false _ (subst (λ (b : ℕ). holds I b ≡ true) (sym (one_atom a hit.0 hit.2)) there) false_there)

-- what isn't supported alone stays as it is
kept : (b s : Bool) → (b ≡ true → s ≡ false) → b ≡ (b && not s)
kept true s h = sym (ap not (h refl))
kept false s h = refl

-- nothing is cleared
pub clears_nothing : (I : List ℕ) (r : GroundRule) (atoms : List ℕ) (alone : List Bool) → ((a : ℕ) → holds (true_places alone) a ≡ true → holds I a ≡ true)
    → atoms ≡ r.head → None ≡ find (holds I) atoms → Clears I r alone alone
clears_nothing I r atoms alone inside is none = record {
  stay = λ a. kept (holds (true_places alone) a) (supports I (a ∷ []) r) (λ h. none_supported I r atoms a is none (inside a h));
}

pub clears_no_first : (I : List ℕ) (r : GroundRule) (atoms : List ℕ) (alone : List Bool) (f : ℕ)
    → atoms ≡ r.head → Some f ≡ find (holds I) atoms → supports_where_headed I f r ≡ false → Clears I r alone alone
clears_no_first I r atoms alone f is found fails = record {
  stay = λ a. kept (holds (true_places alone) a) (supports I (a ∷ []) r) (λ h.
      false_from (supports I (a ∷ []) r) (λ supported.
      true_is_not_false _
      (subst (λ (b : ℕ). supports I (b ∷ []) r ≡ true) (sym (supported_is_first I r atoms f a is found supported)) supported)
      (first_supported I r atoms f is found ∙ fails)));
}

-- the first true atom of the head is cleared
pub clears_first : (I : List ℕ) (r : GroundRule) (atoms : List ℕ) (old new : List Bool) (f : ℕ)
    → atoms ≡ r.head → Some f ≡ find (holds I) atoms → supports_where_headed I f r ≡ true → new ≡ written false old (f ∷ []) → Clears I r old new
clears_first I r atoms old new f is found passes new_is = record {
  stay = λ a.
      ap (λ (bits : List Bool). holds (true_places bits) a) new_is
      ∙ bound-holds old (f ∷ []) a
      ∙ ap (λ t. holds (true_places old) a && not t) (same a);
}
  where
    same : (a : ℕ) → holds (f ∷ []) a ≡ supports I (a ∷ []) r
    same a = elim (true_or_false (holds (f ∷ []) a)) [
      | inl h ↦
          h ∙ sym (subst (λ (b : ℕ). supports I (b ∷ []) r ≡ true) (sym (one_atom f a h)) (first_supported I r atoms f is found ∙ passes))
      | inr h ↦
          h ∙ sym (false_from (supports I (a ∷ []) r) (λ supported.
          true_is_not_false _ (holds_from (f ∷ []) a (inl (sym (supported_is_first I r atoms f a is found supported)))) h))
    ]

-- ---- all rules

without_rules : (b : Bool) → b ≡ (b && true)
without_rules true = refl
without_rules false = refl

pub alone_start : (I : List ℕ) (part alone : List Bool) → alone ≡ part → AreAlone [] I part alone
alone_start I part alone is = record {
  is = λ a. ap (λ (bits : List Bool). holds (true_places bits) a) is ∙ without_rules (holds (true_places part) a);
}

-- what is alone is one of the part
pub alone_inside : (G : List GroundRule) (I : List ℕ) (part alone : List Bool) → AreAlone G I part alone → ((a : ℕ) → holds (true_places part) a ≡ true → holds I a ≡ true)
    → (a : ℕ) → holds (true_places alone) a ≡ true → holds I a ≡ true
alone_inside G I part alone left inside a h =
    inside a ((both (holds (true_places part) a) (is_unfounded G I (a ∷ [])) (sym (left.is a) ∙ h)).0)

three : (a b c : Bool) → ((a && b) && c) ≡ (a && (b && c))
three true b c = refl
three false b c = refl

-- one more rule
pub alone_more : (G : List GroundRule) (I : List ℕ) (i : ℕ) (r : GroundRule) (part old new : List Bool) → i < length G → r ≡ get_or G i r
    → AreAlone (take i G) I part old → Clears I r old new → AreAlone (take (i + 1) G) I part new
alone_more G I i r part old new within is left clears = record {
  is = λ a.
      let test : GroundRule → Bool = λ q. not (supports I (a ∷ []) q) in
      clears.stay a
      ∙ ap (λ b. b && test r) (left.is a)
      ∙ three (holds (true_places part) a) (list_all test (take i G)) (test r)
      ∙ ap (λ b. holds (true_places part) a && b)
      (ap (λ (q : GroundRule). list_all test (take i G) && test q) is ∙ sym (list_all_more test G i r within));
}

-- the first true place of what is left
pub alone_found : (G : List GroundRule) (I : List ℕ) (i : ℕ) (part alone : List Bool) (o : Option ℕ) → length G ≤ i → AreAlone (take i G) I part alone
    → MatchOption o ((a : ℕ) → holds (true_places alone) a ≡ false) (λ a. holds (true_places alone) a ≡ true)
    → MatchOption o ((a : ℕ) → holds (true_places part) a ≡ true → is_unfounded G I (a ∷ []) ≡ false)
    (λ a. (holds (true_places part) a ≡ true) × (is_unfounded G I (a ∷ []) ≡ true))
alone_found G I i part alone None h left none = λ a there.
    ap (λ (rs : List GroundRule). is_unfounded rs I (a ∷ [])) (sym (take_all i G h))
    ∙ ap (λ b. b && is_unfounded (take i G) I (a ∷ [])) (sym there) ∙ sym (left.is a) ∙ none a
alone_found G I i part alone (Some a) h left found =
    let parts = both (holds (true_places part) a) (is_unfounded (take i G) I (a ∷ [])) (sym (left.is a) ∙ found)
    in (parts.0, ap (λ (rs : List GroundRule). is_unfounded rs I (a ∷ [])) (sym (take_all i G h)) ∙ parts.1)

-- ---- places

-- a place that was read
pub place_true : (bits : List Bool) (a : ℕ) (b : Bool) → slice_get bits a ≡ Some b → b ≡ true → holds (true_places bits) a ≡ true
place_true bits a b read is = holds-read bits a b read ∙ is

-- none so far, and one more
pub none_before : (bits : List Bool) (k : ℕ) (b : Bool) → ((a : ℕ) → a < k → holds (true_places bits) a ≡ false) → slice_get bits k ≡ Some b → b ≡ false
    → (a : ℕ) → a < k + 1 → holds (true_places bits) a ≡ false
none_before bits k b before read is a h = elim (cases_eq a k) [
  | inl e ↦ subst (λ (n : ℕ). holds (true_places bits) n ≡ false) (sym e) (holds-read bits k b read ∙ is)
  | inr other ↦ before a (omega arith)
]

pub none_at_all : (bits : List Bool) (k : ℕ) → length bits ≤ k → ((a : ℕ) → a < k → holds (true_places bits) a ≡ false) → (a : ℕ) → holds (true_places bits) a ≡ false
none_at_all bits k h before a = elim (cases_lt a k) [
  | inl less ↦ before a less
  | inr past ↦ holds-true_places bits a ∙ get_or_past bits a false (omega arith)
]

-- ---- what it means for an interpretation

pub alone_refutes : (G : List GroundRule) (free : List ℕ) (values part : List Bool) (a : ℕ) → part ≡ written false values free
    → (holds (true_places part) a ≡ true) × (is_unfounded G (true_places values) (a ∷ []) ≡ true) → Refutes G free (true_places values) (a ∷ [])
alone_refutes G free values part a part_is h =
    let at = bound_at values free a (subst (λ (p : List Bool). holds (true_places p) a ≡ true) part_is h.0) in
    record {
      some = refl;
      ordered = refl;
      inside = and_true (holds (true_places values) a) true at.0 refl;
      bound = and_true (not (holds free a)) true (not_false _ at.1) refl;
      unfounded = h.1;
    }

-- where each atom of the part is supported alone, none refutes alone
pub none_alone : (G : List GroundRule) (free : List ℕ) (values part : List Bool) (a : ℕ) → part ≡ written false values free
    → ((b : ℕ) → holds (true_places part) b ≡ true → is_unfounded G (true_places values) (b ∷ []) ≡ false)
    → Refutes G free (true_places values) (a ∷ []) → ⊥
none_alone G free values part a part_is none h =
    let inside : holds (true_places values) a ≡ true = (both (holds (true_places values) a) true h.inside).0 in
    let bound : holds free a ≡ false = not_true _ ((both (not (holds free a)) true h.bound).0) in
    true_is_not_false _ h.unfounded
    (none a (subst (λ (p : List Bool). holds (true_places p) a ≡ true) (sym part_is) (bound_from values free a inside bound)))

-- a part has true atoms alone
pub part_inside : (values part : List Bool) (free : List ℕ) → part ≡ written false values free → (a : ℕ) → holds (true_places part) a ≡ true → holds (true_places values) a ≡ true
part_inside values part free part_is a h = (bound_at values free a (subst (λ (p : List Bool). holds (true_places p) a ≡ true) part_is h)).0
