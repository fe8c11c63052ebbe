-- Atoms that are founded one after another.
use Rattle.std.proofs.Common.{◌≡◌, refl, sym, ap, ◌∙◌, subst, ℕ, ◌<◌, inl, inr, ◌⊎◌, Bool, true, false, not, ◌&&◌, ◌||◌, eqb, List, [], ◌∷◌, ◌++◌, length, get_or, nat_lt, nat_eq, Option, Some, None, arith}
use Rattle.std.specs.Prelude.{slice_set, IfSome}
use Rattle.std.specs.List.{list_all, list_any, find, slice_get}
use Rattle.std.proofs.lemmas.Bool.{ltb-true}
use Rattle.std.proofs.lemmas.List.{length-set}
use Rattle.asp_bits.specs.Places.{true_places}
use Rattle.asp_reduct.specs.Bounds.{is_rule_below}
use Rattle.asp_reduct.proofs.Truths.{holds-read, get_or-member}
use Rattle.asp_reduct.proofs.Finding.{found_at, all_pass}
use Rattle.asp_defs.specs.declared.ground.GroundRule.{GroundRule}
use Rattle.asp_defs.specs.Lists.{IsIn}
use Rattle.asp_defs.specs.Interpretations.{holds}
use Rattle.asp_defs.specs.Truth.{body_true}
use Rattle.asp_defs.specs.Unfounded.{supports}
use Rattle.asp_defs.specs.Games.{rule_atoms}
use Rattle.asp_defs.proofs.Lists.{both, and_true, either, true_or_false, not_true, not_false, all_at, all_from, any_at, any_from, append_left}
use Rattle.asp_defs.proofs.Subsets.{true_is_not_false, holds_at, holds_from}
use Rattle.asp_defs.proofs.FoundedLaws.{supports_from}
use Rattle.asp_explain.specs.Resting.{are_known}
use Rattle.asp_explain.specs.Achieving.{MarksAtoms}
use Rattle.asp_explain.specs.Founding.{AreFounded, IsOnlyHead, Founds, FoundsMore}
use Rattle.asp_entry.proofs.Marking.{holds-set, same_number}
use Rattle.asp_explain.proofs.Marking.{all-grow, single-at}

-- ---- rules that found an atom

-- a rule that founds an atom of a set without founded ones supports the set
founds-supports : (N D U : List ℕ) (r : GroundRule) (a : ℕ) → Founds N D r a → holds U a ≡ true → ((b : ℕ) → IsIn b U → holds D b ≡ false) → supports N U r ≡ true
founds-supports N D U r a f inside apart =
    let body = both (list_all (holds N) r.pos) (list_all (λ b. not (holds N b)) r.neg) f.body in
    supports_from N U r (record {
      head = any_from (holds U) r.head a f.only.head inside;
      pos = body.0;
      neg = body.1;
      free = all_from (λ b. not (holds U b)) r.pos (λ b i.
          elim (true_or_false (holds U b)) [
            | inl within ↦ absurd (true_is_not_false _ (f.pos b i) (apart b (holds_at U b within)))
            | inr outside ↦ not_false _ outside
          ]);
      closed = all_from (λ b. not (holds N b && not (holds U b))) r.head (λ b i.
          elim (true_or_false (holds N b && not (holds U b))) [
            | inl free ↦
                let parts = both (holds N b) (not (holds U b)) free in
                let same : IsIn b (a ∷ []) = holds_at (a ∷ []) b (f.only.alone b i parts.0) in
                elim same [
                  | inl e ↦ absurd (true_is_not_false _ (subst (λ (c : ℕ). holds U c ≡ true) (sym e) inside) (not_true _ parts.1))
                  | inr never ↦ absurd never
                ]
            | inr closed ↦ not_false _ closed
          ]);
    })

founds-keeps : (G : List GroundRule) (B N : List ℕ) (C D E F : List ℕ) (r : GroundRule) (a : ℕ) → IsIn r G → Founds N D r a → are_known B E (rule_atoms r) ≡ true
    → ((b : ℕ) → holds C b ≡ true → holds E b ≡ true) → ((b : ℕ) → holds F b ≡ true → (holds D b ≡ true) ⊎ (b ≡ a)) → AreFounded G B C N D → AreFounded G B E N F
founds-keeps G B N C D E F r a member f known grows new before u U inside own some = elim (true_or_false (list_any (holds D) (u ∷ U))) [
  | inl early ↦
      let s = before u U inside own early in
      record { rule = s.rule; member = s.member; supports_it = s.supports_it; known = all-grow B C E (rule_atoms s.rule) grows s.known }
  | inr none ↦
      let apart : (b : ℕ) → IsIn b (u ∷ U) → holds D b ≡ false = λ b i.
      elim (true_or_false (holds D b)) [
        | inl within ↦ absurd (true_is_not_false _ (any_from (holds D) (u ∷ U) b i within) none)
        | inr outside ↦ outside
      ] in
      let hit = any_at (holds F) (u ∷ U) some in
      let at : holds (u ∷ U) a ≡ true = elim (new hit.0 hit.2) [
        | inl old ↦ absurd (true_is_not_false _ old (apart hit.0 hit.1))
        | inr same ↦ subst (λ (b : ℕ). holds (u ∷ U) b ≡ true) same (holds_from (u ∷ U) hit.0 hit.1)
      ] in
      record { rule = r; member = member; supports_it = founds-supports N D (u ∷ U) r a f at apart; known = known }
]

-- what is founded stays so with more atoms known
pub founded-grows : (G : List GroundRule) (B C E N D : List ℕ) → ((b : ℕ) → holds C b ≡ true → holds E b ≡ true) → AreFounded G B C N D → AreFounded G B E N D
founded-grows G B C E N D grows before u U inside own some =
    let s = before u U inside own some in
    record { rule = s.rule; member = s.member; supports_it = s.supports_it; known = all-grow B C E (rule_atoms s.rule) grows s.known }

-- at first the outer atoms are founded, and no set of own atoms has one
pub founded-first : (G : List GroundRule) (B C N D : List ℕ) → D ≡ B → AreFounded G B C N D
founded-first G B C N D same u U inside own some =
    let hit = any_at (holds D) (u ∷ U) some in
    absurd (true_is_not_false _ (sym (ap (λ xs. holds xs hit.0) same) ∙ hit.2) (own hit.0 hit.1))

-- ---- steps

stands-self : (r : GroundRule) (a : ℕ) → IsIn a (rule_atoms r) → list_any (λ q. holds (rule_atoms q) a) (r ∷ []) ≡ true
stands-self r a i = any_from (λ q. holds (rule_atoms q) a) (r ∷ []) r (inl refl) (holds_from (rule_atoms r) a i)

pub more_rule : (B N : List ℕ) (r : GroundRule) (a : ℕ) (marks founded marks' founded' : List Bool) → a < length founded → Founds N (true_places founded) r a
    → MarksAtoms B (rule_atoms r) marks marks' → founded' ≡ slice_set founded a true → FoundsMore B N (r ∷ []) marks founded marks' founded'
more_rule B N r a marks founded marks' founded' low f done is = record {
  marks_some = record {
    as_many = done.as_many;
    grows = done.grows;
    added = λ b h. elim (done.added b h) [
      | inl old ↦ inl old
      | inr new ↦ inr (new.0, stands-self r b (single-at (rule_atoms r) b new.1))
    ];
  };
  as_many = ap length is ∙ length-set founded a true;
  keeps = λ G within before.
      founds-keeps G B N (true_places marks) (true_places founded) (true_places marks') (true_places founded') r a (within r (inl refl)) f done.passes done.grows
      (λ b h. elim (either (eqb a b) (holds (true_places founded) b) (sym (holds-set founded a b low) ∙ (sym (ap (λ v. holds (true_places v) b) is) ∙ h))) [
        | inl e ↦ inr (sym (same_number a b e))
        | inr old ↦ inl old
      ]) before;
}

pub more_none : (B N : List ℕ) (rules : List GroundRule) (marks founded : List Bool) → FoundsMore B N rules marks founded marks founded
more_none B N rules marks founded = record {
  marks_some = record { as_many = refl; grows = λ a h. h; added = λ a h. inl h };
  as_many = refl;
  keeps = λ G within before. before;
}

pub more_then : (B N : List ℕ) (rules : List GroundRule) (m f m1 f1 m2 f2 : List Bool) → FoundsMore B N rules m f m1 f1 → FoundsMore B N rules m1 f1 m2 f2 → FoundsMore B N rules m f m2 f2
more_then B N rules m f m1 f1 m2 f2 first second = record {
  marks_some = record {
    as_many = second.marks_some.as_many ∙ first.marks_some.as_many;
    grows = λ a h. second.marks_some.grows a (first.marks_some.grows a h);
    added = λ a h. elim (second.marks_some.added a h) [ inl early ↦ first.marks_some.added a early | inr new ↦ inr new ];
  };
  as_many = second.as_many ∙ first.as_many;
  keeps = λ G within before. second.keeps G within (first.keeps G within before);
}

-- what one of the rules founds
pub more_of : (B N : List ℕ) (rules : List GroundRule) (r : GroundRule) (m f m1 f1 : List Bool) → IsIn r rules → FoundsMore B N (r ∷ []) m f m1 f1 → FoundsMore B N rules m f m1 f1
more_of B N rules r m f m1 f1 member step = record {
  marks_some = record {
    as_many = step.marks_some.as_many;
    grows = step.marks_some.grows;
    added = λ a h. elim (step.marks_some.added a h) [
      | inl old ↦ inl old
      | inr new ↦
          let found = any_at (λ q. holds (rule_atoms q) a) (r ∷ []) new.1 in
          inr (
            new.0,
            elim found.1 [
              | inl e ↦ any_from (λ q. holds (rule_atoms q) a) rules found.0 (subst (λ (q : GroundRule). IsIn q rules) (sym e) member) found.2
              | inr never ↦ absurd never
            ],
          )
    ];
  };
  as_many = step.as_many;
  keeps = λ G within before. step.keeps G (λ q i. elim i [ inl e ↦ subst (λ (p : GroundRule). IsIn p G) (sym e) (within r member) | inr never ↦ absurd never ]) before;
}

-- ---- an atom that a rule founds

pub only-head : (N D : List ℕ) (r : GroundRule) (head other : List ℕ) (a : ℕ) → head ≡ r.head → other ≡ r.head → Some a ≡ find (holds N) head → holds D a ≡ false
    → list_all (λ b. not (holds N b && not (holds (a ∷ []) b))) other ≡ true → IsOnlyHead N D r a
only-head N D r head other a head_is other_is is new alone =
    let here = found_at (holds N) head a is in
    record {
      head = subst (λ (xs : List ℕ). IsIn a xs) head_is here.0;
      inside = here.1;
      new = new;
      alone = λ b i inside.
          elim (true_or_false (holds (a ∷ []) b)) [
            | inl same ↦ same
            | inr differs ↦
                absurd (true_is_not_false _
                (and_true (holds N b) (not (holds (a ∷ []) b)) inside (not_false _ differs))
                (not_true _ (all_at (λ c. not (holds N c && not (holds (a ∷ []) c))) other b alone (subst (λ (xs : List ℕ). IsIn b xs) (sym other_is) i))))
          ];
    }

pub founds-from : (N D : List ℕ) (r : GroundRule) (pos : List ℕ) (found : Option ℕ) → body_true N r ≡ true → pos ≡ r.pos → None ≡ find (λ b. not (holds D b)) pos
    → IfSome found (IsOnlyHead N D r) → IfSome found (Founds N D r)
founds-from N D r pos None body pos_is none only = only
founds-from N D r pos (Some a) body pos_is none only = record {
  body = body;
  pos = λ b i. all_at (holds D) r.pos b (subst (λ (xs : List ℕ). list_all (holds D) xs ≡ true) pos_is (all_pass (holds D) pos none)) i;
  only = only;
}

-- whether a place is true and another than a given one, from what was read there
pub other-read : (values : List Bool) (a b : ℕ) (x : Bool) → slice_get values b ≡ Some x → x ≡ true → not (nat_eq a b) ≡ (holds (true_places values) b && not (holds (a ∷ []) b))
other-read values a b x read is = ap not (alone (nat_eq a b)) ∙ sym (ap (λ t. t && not (holds (a ∷ []) b)) (holds-read values b x read ∙ is))
  where
    alone : (t : Bool) → t ≡ t || false
    alone true = refl
    alone false = refl

-- a rule by its place
pub read_rule : (rules : List GroundRule) (place : ℕ) (r : GroundRule) → place < length rules → r ≡ get_or rules place r → IsIn r rules
read_rule rules place r h is = subst (λ (q : GroundRule). IsIn q rules) (sym is) (get_or-member rules place r h)

pub founds-below : (N D : List ℕ) (r : GroundRule) (a count : ℕ) → is_rule_below count r ≡ true → Founds N D r a → a < count
founds-below N D r a count below f = ltb-true a count (all_at (λ b. nat_lt b count) (rule_atoms r) a below (append_left r.head (r.pos ++ r.neg) a f.only.head))

pub only-below : (N : List ℕ) (r : GroundRule) (head : List ℕ) (a count k : ℕ) → head ≡ r.head → Some a ≡ find (holds N) head → is_rule_below count r ≡ true → k ≡ count → a < k
only-below N r head a count k head_is is below same =
    let here : IsIn a r.head = subst (λ (xs : List ℕ). IsIn a xs) head_is ((found_at (holds N) head a is).0) in
    let low : a < count = ltb-true a count (all_at (λ b. nat_lt b count) (rule_atoms r) a below (append_left r.head (r.pos ++ r.neg) a here)) in
    omega (arith, low, same)

pub founds-low : (N D : List ℕ) (r : GroundRule) (a count k : ℕ) → is_rule_below count r ≡ true → Founds N D r a → k ≡ count → a < k
founds-low N D r a count k below f same =
    let low : a < count = founds-below N D r a count below f in
    omega (arith, low, same)

pub place-below : (rules : List GroundRule) (place count : ℕ) (r : GroundRule) → list_all (is_rule_below count) rules ≡ true → place < length rules → r ≡ get_or rules place r → is_rule_below count r ≡ true
place-below rules place count r below h is = all_at (is_rule_below count) rules r below (read_rule rules place r h is)
