-- Atoms that are founded one after another.
use Rattle.std.proofs.Common.{◌≡◌, ◌≢◌, refl, sym, ap, ◌∙◌, subst, ℕ, ◌<◌, inl, inr, Bool, true, false, not, ◌&&◌, ◌||◌, List, [], ◌∷◌, ◌++◌, length, get_or, set, nat_lt, nat_eq, Option, Some, None, arith}
use Rattle.std.specs.Prelude.{slice_set, IfSome}
use Rattle.std.specs.List.{list_all, list_any, find, slice_get}
use Rattle.std.proofs.lemmas.Bool.{cases_eq, ltb-true}
use Rattle.std.proofs.lemmas.List.{length-set, get_or-set_same, get_or-set_other}
use Rattle.asp_bits.specs.Places.{true_places}
use Rattle.asp_reduct.specs.Bounds.{is_rule_below}
use Rattle.asp_reduct.proofs.Truths.{holds-read, holds-true_places, get_or-member}
use Rattle.asp_reduct.proofs.Finding.{found_at}
use Rattle.asp_defs.specs.declared.ground.GroundRule.{GroundRule}
use Rattle.asp_defs.specs.Lists.{IsIn}
use Rattle.asp_defs.specs.Interpretations.{holds}
use Rattle.asp_defs.specs.Truth.{body_true}
use Rattle.asp_defs.specs.Unfounded.{supports, is_unfounded}
use Rattle.asp_defs.specs.Games.{rule_atoms}
use Rattle.asp_defs.proofs.Lists.{both, and_true, true_or_false, not_true, not_false, all_at, all_from, any_at, any_from, append_left}
use Rattle.asp_defs.proofs.Subsets.{true_is_not_false, holds_at, holds_from}
use Rattle.asp_defs.proofs.FoundedLaws.{supports_from}
use Rattle.asp_least.specs.Founding.{IsOnlyTrue, IsLeftHead, Founds, AreLeft, FoundsMore}

-- ---- heads

-- whether a place is true and another than a given one, from what was read there
pub other-read : (values : List Bool) (a b : ℕ) (x : Bool) → slice_get values b ≡ Some x → x ≡ true
    → not (nat_eq a b) ≡ (holds (true_places values) b && not (holds (a ∷ []) b))
other-read values a b x read is =
    ap not (alone (nat_eq a b)) ∙ sym (ap (λ t. t && not (holds (a ∷ []) b)) (holds-read values b x read ∙ is))
  where
    alone : (t : Bool) → t ≡ t || false
    alone true = refl
    alone false = refl

-- the first true one, where no other is
pub only-true : (I atoms : List ℕ) (a : ℕ) → Some a ≡ find (holds I) atoms → list_all (λ b. not (holds I b && not (holds (a ∷ []) b))) atoms ≡ true
    → IsOnlyTrue I atoms a
only-true I atoms a is none =
    let here = found_at (holds I) atoms a is in
    record {
      member = here.0;
      inside = here.1;
      alone = λ b i inside.
          elim (true_or_false (holds (a ∷ []) b)) [
            | inl same ↦ elim (holds_at (a ∷ []) b same) [ inl e ↦ e | inr never ↦ absurd never ]
            | inr differs ↦
                absurd (true_is_not_false _
                (and_true (holds I b) (not (holds (a ∷ []) b)) inside (not_false _ differs))
                (not_true _ (all_at (λ c. not (holds I c && not (holds (a ∷ []) c))) atoms b none i)))
          ];
    }

pub left-head : (I L : List ℕ) (r : GroundRule) (head : List ℕ) (a : ℕ) → head ≡ r.head → body_true I r ≡ true → IsOnlyTrue I head a → holds L a ≡ true
    → IsLeftHead I L r a
left-head I L r head a head_is body only there = record {
  body = body;
  only = subst (λ (xs : List ℕ). IsOnlyTrue I xs a) head_is only;
  left_one = there;
}

-- ---- rules that found an atom

pub founds-from : (I L : List ℕ) (r : GroundRule) (pos : List ℕ) (found : Option ℕ) → pos ≡ r.pos → list_any (holds L) pos ≡ false
    → IfSome found (IsLeftHead I L r) → IfSome found (Founds I L r)
founds-from I L r pos None pos_is none head = head
founds-from I L r pos (Some a) pos_is none head = record {
  head = head;
  apart = λ b i.
      elim (true_or_false (holds L b)) [
        | inl there ↦ absurd (true_is_not_false _ (any_from (holds L) pos b (subst (λ (xs : List ℕ). IsIn b xs) (sym pos_is) i) there) none)
        | inr gone ↦ gone
      ];
}

-- such a rule supports a set that has the atom and none but atoms that are left
founds-supports : (I L U : List ℕ) (r : GroundRule) (a : ℕ) → Founds I L r a → holds U a ≡ true → ((b : ℕ) → holds U b ≡ true → holds L b ≡ true)
    → supports I U r ≡ true
founds-supports I L U r a f inside left_ones =
    let body = both (list_all (holds I) r.pos) (list_all (λ b. not (holds I b)) r.neg) f.head.body in
    supports_from I U r (record {
      head = any_from (holds U) r.head a f.head.only.member inside;
      pos = body.0;
      neg = body.1;
      free = all_from (λ b. not (holds U b)) r.pos (λ b i.
          elim (true_or_false (holds U b)) [
            | inl within ↦ absurd (true_is_not_false _ (left_ones b within) (f.apart b i))
            | inr outside ↦ not_false _ outside
          ]);
      closed = all_from (λ b. not (holds I b && not (holds U b))) r.head (λ b i.
          elim (true_or_false (holds I b && not (holds U b))) [
            | inl free ↦
                let parts = both (holds I b) (not (holds U b)) free in
                absurd (true_is_not_false _ (subst (λ (c : ℕ). holds U c ≡ true) (sym (f.head.only.alone b i parts.0)) inside) (not_true _ parts.1))
            | inr closed ↦ not_false _ closed
          ]);
    })

not-unfounded : (G : List GroundRule) (I U : List ℕ) (r : GroundRule) → IsIn r G → supports I U r ≡ true → is_unfounded G I U ≡ false
not-unfounded G I U r member s = elim (true_or_false (is_unfounded G I U)) [
  | inl unfounded ↦ absurd (true_is_not_false _ s (not_true _ (all_at (λ q. not (supports I U q)) G r unfounded member)))
  | inr founded ↦ founded
]

-- ---- what is left

at-other : (left : List Bool) (a b : ℕ) → b ≢ a → holds (true_places (set left a false)) b ≡ holds (true_places left) b
at-other left a b other = holds-true_places (set left a false) b ∙ get_or-set_other left a b false false other ∙ sym (holds-true_places left b)

at-same : (left : List Bool) (a : ℕ) → a < length left → holds (true_places (set left a false)) a ≡ false
at-same left a h = holds-true_places (set left a false) a ∙ get_or-set_same left a false false h

-- at first all of the part is
pub left-first : (G : List GroundRule) (I : List ℕ) (part left : List Bool) → left ≡ part → AreLeft G I part left
left-first G I part left is = record {
  as_many = ap length is;
  inside = λ a h. sym (ap (λ v. holds (true_places v) a) is) ∙ h;
  founded = λ U within a inside gone. absurd (true_is_not_false _ (within a inside) (sym (ap (λ v. holds (true_places v) a) is) ∙ gone));
}

-- a set with an atom that isn't left any more
founded-more : (G : List GroundRule) (I : List ℕ) (part left : List Bool) (r : GroundRule) (a : ℕ) → IsIn r G → Founds I (true_places left) r a
    → AreLeft G I part left → (U : List ℕ) → ((b : ℕ) → holds U b ≡ true → holds (true_places part) b ≡ true) → (b : ℕ) → holds U b ≡ true
    → holds (true_places (set left a false)) b ≡ false → is_unfounded G I U ≡ false
founded-more G I part left r a member f before U within b inside gone =
    elim (true_or_false (list_any (λ c. not (holds (true_places left) c)) U)) [
      | inl some ↦
          let hit = any_at (λ c. not (holds (true_places left) c)) U some in
          before.founded U within hit.0 (holds_from U hit.0 hit.1) (not_true _ hit.2)
      | inr none ↦
          let all : (c : ℕ) → holds U c ≡ true → holds (true_places left) c ≡ true = λ c u.
          elim (true_or_false (holds (true_places left) c)) [
            | inl there ↦ there
            | inr lacks ↦ absurd (true_is_not_false _ (any_from (λ d. not (holds (true_places left) d)) U c (holds_at U c u) (not_false _ lacks)) none)
          ] in
          let same : b ≡ a = elim (cases_eq b a) [
            | inl e ↦ e
            | inr other ↦ absurd (true_is_not_false _ (all b inside) (sym (at-other left a b other) ∙ gone))
          ] in
          not-unfounded G I U r member (founds-supports I (true_places left) U r a f (subst (λ (c : ℕ). holds U c ≡ true) same inside) all)
    ]

left-less : (G : List GroundRule) (I : List ℕ) (part left now : List Bool) (r : GroundRule) (a : ℕ) → IsIn r G → a < length left
    → Founds I (true_places left) r a → now ≡ slice_set left a false → AreLeft G I part left → AreLeft G I part now
left-less G I part left now r a member low f is before = record {
  as_many = ap length is ∙ length-set left a false ∙ before.as_many;
  inside = λ b h.
      let there : holds (true_places (set left a false)) b ≡ true = sym (ap (λ v. holds (true_places v) b) is) ∙ h in
      elim (cases_eq b a) [
        | inl e ↦ absurd (true_is_not_false _ (subst (λ (c : ℕ). holds (true_places (set left a false)) c ≡ true) e there) (at-same left a low))
        | inr other ↦ before.inside b (sym (at-other left a b other) ∙ there)
      ];
  founded = λ U within b inside gone.
      founded-more G I part left r a member f before U within b inside (sym (ap (λ v. holds (true_places v) b) is) ∙ gone);
}

-- ---- steps

pub more-rule : (I : List ℕ) (r : GroundRule) (a : ℕ) (left now : List Bool) → a < length left → Founds I (true_places left) r a
    → now ≡ slice_set left a false → FoundsMore I (r ∷ []) left now
more-rule I r a left now low f is = record {
  as_many = ap length is ∙ length-set left a false;
  keeps = λ G part within before. left-less G I part left now r a (within r (inl refl)) low f is before;
}

pub more-none : (I : List ℕ) (rules : List GroundRule) (left : List Bool) → FoundsMore I rules left left
more-none I rules left = record { as_many = refl; keeps = λ G part within before. before }

pub more-then : (I : List ℕ) (rules : List GroundRule) (first second third : List Bool) → FoundsMore I rules first second → FoundsMore I rules second third
    → FoundsMore I rules first third
more-then I rules first second third one two = record {
  as_many = two.as_many ∙ one.as_many;
  keeps = λ G part within before. two.keeps G part within (one.keeps G part within before);
}

-- what one of the rules founds
pub more-of : (I : List ℕ) (rules : List GroundRule) (r : GroundRule) (left now : List Bool) → IsIn r rules → FoundsMore I (r ∷ []) left now
    → FoundsMore I rules left now
more-of I rules r left now member step = record {
  as_many = step.as_many;
  keeps = λ G part within before.
      step.keeps G part (λ q i. elim i [ inl e ↦ subst (λ (p : GroundRule). IsIn p G) (sym e) (within r member) | inr never ↦ absurd never ]) before;
}

-- all that rules founded, where all of the part was left
pub left-all : (I : List ℕ) (rules : List GroundRule) (part left now : List Bool) → left ≡ part → FoundsMore I rules left now → AreLeft rules I part now
left-all I rules part left now is more = more.keeps rules part (λ r i. i) (left-first rules I part left is)

-- ---- places

-- a rule by its place
pub read-rule : (rules : List GroundRule) (place : ℕ) (r : GroundRule) → place < length rules → r ≡ get_or rules place r → IsIn r rules
read-rule rules place r h is = subst (λ (q : GroundRule). IsIn q rules) (sym is) (get_or-member rules place r h)

pub place-below : (rules : List GroundRule) (place count : ℕ) (r : GroundRule) → list_all (is_rule_below count) rules ≡ true → place < length rules
    → r ≡ get_or rules place r → is_rule_below count r ≡ true
place-below rules place count r below h is = all_at (is_rule_below count) rules r below (read-rule rules place r h is)

pub founds-low : (I L : List ℕ) (r : GroundRule) (a count k : ℕ) → is_rule_below count r ≡ true → Founds I L r a → k ≡ count → a < k
founds-low I L r a count k below f same =
    let low : a < count =
    ltb-true a count (all_at (λ b. nat_lt b count) (rule_atoms r) a below (append_left r.head (r.pos ++ r.neg) a f.head.only.member)) in
    omega (arith, low, same)
