-- What is known of atoms, and what marking them achieves.
use Rattle.std.proofs.Common.{◌≡◌, refl, sym, ap, ◌∙◌, subst, ℕ, ◌+◌, ◌<◌, ◌≤◌, inl, inr, Bool, true, false, not, ◌&&◌, ◌||◌, List, [], ◌∷◌, ◌++◌, length, get_or, take, Some}
use Rattle.std.specs.Bool.{beq}
use Rattle.std.specs.List.{list_all, list_any, slice_get}
use Rattle.std.proofs.lemmas.List.{take_more, take_all}
use Rattle.asp_bits.specs.Places.{true_places}
use Rattle.asp_reduct.proofs.Truths.{holds-read}
use Rattle.asp_defs.specs.declared.ground.GroundRule.{GroundRule}
use Rattle.asp_defs.specs.declared.ground.Bound.{Bound}
use Rattle.asp_defs.specs.declared.ground.Counted.{Counted}
use Rattle.asp_defs.specs.declared.ground.Lit.{Lit}
use Rattle.asp_defs.specs.Lists.{IsIn}
use Rattle.asp_defs.specs.Interpretations.{holds}
use Rattle.asp_defs.specs.History.{agrees}
use Rattle.asp_defs.specs.Bounds.{term_atoms, bound_atoms}
use Rattle.asp_defs.specs.Games.{rule_atoms}
use Rattle.asp_defs.proofs.Lists.{both, and_true, either, or_left, or_right, true_or_false, not_false, all_at, all_from, any_at, any_from, append_at, append_left, append_right}
use Rattle.asp_defs.proofs.Subsets.{holds_at, holds_from}
use Rattle.asp_explain.specs.Resting.{is_known, are_known, has_known, is_blocked, is_safe, is_kept, may_support, is_settled}
use Rattle.asp_entry.specs.Marks.{Marks}
use Rattle.asp_entry.proofs.Taking.{beq_agrees}
use Rattle.asp_explain.specs.Achieving.{MarksFew, MarksRules, Achieves, MarksAtoms, MarksLiterals, SatisfiesRules}

-- ---- what was read

pub known-read : (outer marks : List Bool) (a : ℕ) (lower marked : Bool) → slice_get outer a ≡ Some lower → slice_get marks a ≡ Some marked
    → (not lower || marked) ≡ is_known (true_places outer) (true_places marks) a
known-read outer marks a lower marked ho hm =
    ap (λ t. not t || marked) (sym (holds-read outer a lower ho))
    ∙ ap (λ t. not (holds (true_places outer) a) || t) (sym (holds-read marks a marked hm))

pub known_as-read : (values : List Bool) (B C : List ℕ) (a : ℕ) (truth v known : Bool) → slice_get values a ≡ Some v → known ≡ is_known B C a
    → (beq v truth && known) ≡ (agrees truth (holds (true_places values) a) && is_known B C a)
known_as-read values B C a truth v known hv hk =
    ap (λ t. t && known) (beq_agrees v truth)
    ∙ (ap (λ t. agrees truth t && known) (sym (holds-read values a v hv))
    ∙ ap (λ t. agrees truth (holds (true_places values) a) && t) hk)

pub true_one-read : (values outer : List Bool) (a : ℕ) (lower v place : Bool) → slice_get values a ≡ Some v → slice_get outer a ≡ Some place
    → (v && beq place lower) ≡ (holds (true_places values) a && agrees lower (holds (true_places outer) a))
true_one-read values outer a lower v place hv hp =
    ap (λ t. v && t) (beq_agrees place lower)
    ∙ (ap (λ t. t && agrees lower place) (sym (holds-read values a v hv))
    ∙ ap (λ t. holds (true_places values) a && agrees lower t) (sym (holds-read outer a place hp)))

-- ---- what achieves

-- a test that passes with more atoms where it does with fewer
abbrev pub Growing : {A : Type 0} → (List ℕ → A → Bool) → Type 0
Growing {A} test = (C D : List ℕ) (x : A) → ((a : ℕ) → holds C a ≡ true → holds D a ≡ true) → test C x ≡ true → test D x ≡ true

pub achieves_none : {A : Type 0} (test : List ℕ → A → Bool) (atoms : A → List ℕ) (B : List ℕ) (before now : List Bool) → now ≡ before → Achieves test atoms B [] before now
achieves_none test atoms B before now same = record {
  as_many = ap length same;
  grows = λ a h. subst (λ (v : List Bool). holds (true_places v) a ≡ true) (sym same) h;
  added = λ a h. inl (subst (λ (v : List Bool). holds (true_places v) a ≡ true) same h);
  passes = refl;
}

pub achieves_then : {A : Type 0} (test : List ℕ → A → Bool) (atoms : A → List ℕ) (B : List ℕ) (xs ys : List A) (before middle now : List Bool) → Growing test
    → Achieves test atoms B xs before middle → Achieves test atoms B ys middle now → Achieves test atoms B (xs ++ ys) before now
achieves_then test atoms B xs ys before middle now growing first second = record {
  as_many = second.as_many ∙ first.as_many;
  grows = λ a h. second.grows a (first.grows a h);
  added = λ a h. elim (second.added a h) [
    | inl early ↦ elim (first.added a early) [
      | inl old ↦ inl old
      | inr new ↦
          let found = any_at (λ x. holds (atoms x) a) xs new.1 in
          inr (new.0, any_from (λ x. holds (atoms x) a) (xs ++ ys) found.0 (append_left xs ys found.0 found.1) found.2)
    ]
    | inr new ↦
        let found = any_at (λ x. holds (atoms x) a) ys new.1 in
        inr (new.0, any_from (λ x. holds (atoms x) a) (xs ++ ys) found.0 (append_right xs ys found.0 found.1) found.2)
  ];
  passes = all_from (test (true_places now)) (xs ++ ys) (λ x i.
      elim (append_at xs ys x i) [
        | inl j ↦ growing (true_places middle) (true_places now) x second.grows (all_at (test (true_places middle)) xs x first.passes j)
        | inr j ↦ all_at (test (true_places now)) ys x second.passes j
      ]);
}

-- one more item of a list
pub achieves_more : {A : Type 0} (test : List ℕ → A → Bool) (atoms : A → List ℕ) (B : List ℕ) (items : List A) (i : ℕ) (d x : A) (before middle now : List Bool) → Growing test
    → i < length items → x ≡ get_or items i d → Achieves test atoms B (take i items) before middle → Achieves test atoms B (x ∷ []) middle now
    → Achieves test atoms B (take (i + 1) items) before now
achieves_more {A} test atoms B items i d x before middle now growing h is first second =
    subst (λ (xs : List A). Achieves test atoms B xs before now) (sym (take_more items i d h ∙ ap (λ y. take i items ++ (y ∷ [])) (sym is)))
    (achieves_then test atoms B (take i items) (x ∷ []) before middle now growing first second)

-- the items up to the end are all
pub achieves_all : {A : Type 0} (test : List ℕ → A → Bool) (atoms : A → List ℕ) (B : List ℕ) (items : List A) (i : ℕ) (before now : List Bool) → length items ≤ i
    → Achieves test atoms B (take i items) before now → Achieves test atoms B items before now
achieves_all {A} test atoms B items i before now h done = subst (λ (xs : List A). Achieves test atoms B xs before now) (take_all i items h) done

-- the same marks seen as those of other items
pub recast : {A D : Type 0} (test : List ℕ → A → Bool) (atoms : A → List ℕ) (other : List ℕ → D → Bool) (places : D → List ℕ) (B : List ℕ) (xs : List A) (ys : List D)
    (before now : List Bool) → ((a : ℕ) → list_any (λ x. holds (atoms x) a) xs ≡ true → list_any (λ y. holds (places y) a) ys ≡ true)
    → list_all (other (true_places now)) ys ≡ true → Achieves test atoms B xs before now → Achieves other places B ys before now
recast test atoms other places B xs ys before now stands passes done = record {
  as_many = done.as_many;
  grows = done.grows;
  added = λ a h. elim (done.added a h) [ inl old ↦ inl old | inr new ↦ inr (new.0, stands a new.1) ];
  passes = passes;
}

-- nothing was marked, and a test passes
pub nothing_new : {A : Type 0} (test : List ℕ → A → Bool) (atoms : A → List ℕ) (B : List ℕ) (x : A) (before now : List Bool) → now ≡ before → test (true_places before) x ≡ true
    → Achieves test atoms B (x ∷ []) before now
nothing_new test atoms B x before now same passes = record {
  as_many = ap length same;
  grows = λ a h. subst (λ (v : List Bool). holds (true_places v) a ≡ true) (sym same) h;
  added = λ a h. inl (subst (λ (v : List Bool). holds (true_places v) a ≡ true) same h);
  passes = and_true (test (true_places now) x) true (subst (λ (v : List Bool). test (true_places v) x ≡ true) (sym same) passes) refl;
}

-- ---- tests that grow

pub known-grows : (B : List ℕ) → Growing (is_known B)
known-grows B C D a more h = elim (either (not (holds B a)) (holds C a) h) [
  | inl own ↦ or_left (not (holds B a)) (holds D a) own
  | inr fixed ↦ or_right (not (holds B a)) (holds D a) (more a fixed)
]

pub literal-grows : (B : List ℕ) → Growing {A = Lit} (λ C l. is_known B C l.atom)
literal-grows B C D l more h = known-grows B C D l.atom more h

pub all-grow : (B : List ℕ) → Growing {A = List ℕ} (λ C atoms. are_known B C atoms)
all-grow B C D atoms more h = all_from (is_known B D) atoms (λ a i. known-grows B C D a more (all_at (is_known B C) atoms a h i))

pub term-grows : (B : List ℕ) → Growing {A = Counted} (λ C c. are_known B C (term_atoms c))
term-grows B C D c more h = all-grow B C D (term_atoms c) more h

has-grows : (B N : List ℕ) (truth : Bool) → Growing {A = List ℕ} (λ C atoms. has_known B C N truth atoms)
has-grows B N truth C D atoms more h =
    let found = any_at (λ a. agrees truth (holds N a) && is_known B C a) atoms h in
    let parts = both (agrees truth (holds N found.0)) (is_known B C found.0) found.2 in
    any_from (λ a. agrees truth (holds N a) && is_known B D a) atoms found.0 found.1
    (and_true (agrees truth (holds N found.0)) (is_known B D found.0) parts.0 (known-grows B C D found.0 more parts.1))

blocked-grows : (B N pos neg C D : List ℕ) → ((a : ℕ) → holds C a ≡ true → holds D a ≡ true) → is_blocked B C N pos neg ≡ true → is_blocked B D N pos neg ≡ true
blocked-grows B N pos neg C D more h = elim (either (has_known B C N false pos) (has_known B C N true neg) h) [
  | inl p ↦ or_left (has_known B D N false pos) (has_known B D N true neg) (has-grows B N false C D pos more p)
  | inr n ↦ or_right (has_known B D N false pos) (has_known B D N true neg) (has-grows B N true C D neg more n)
]

pub safe-grows : (B N : List ℕ) → Growing {A = GroundRule} (λ C r. is_safe B C N r)
safe-grows B N C D r more h =
    let rest = has_known B D N true r.head || is_blocked B D N r.pos r.neg in
    elim (either r.choice (has_known B C N true r.head || is_blocked B C N r.pos r.neg) h) [
      | inl choice ↦ or_left r.choice rest choice
      | inr plain ↦ or_right r.choice rest (elim (either (has_known B C N true r.head) (is_blocked B C N r.pos r.neg) plain) [
        | inl head ↦ or_left (has_known B D N true r.head) (is_blocked B D N r.pos r.neg) (has-grows B N true C D r.head more head)
        | inr body ↦ or_right (has_known B D N true r.head) (is_blocked B D N r.pos r.neg) (blocked-grows B N r.pos r.neg C D more body)
      ])
    ]

pub settled-grows : (B D N : List ℕ) → Growing {A = GroundRule} (λ C r. is_settled B D C N r)
settled-grows B D N C E r more h = elim (either (not (may_support D N r)) (are_known B C (rule_atoms r)) h) [
  | inl never ↦ or_left (not (may_support D N r)) (are_known B E (rule_atoms r)) never
  | inr known ↦ or_right (not (may_support D N r)) (are_known B E (rule_atoms r)) (all-grow B C E (rule_atoms r) more known)
]

pub kept-grows : (B N : List ℕ) → Growing {A = Bound} (λ C b. is_kept B C N b)
kept-grows B N C D b more h = elim (either (is_blocked B C N b.pos b.neg) (are_known B C (bound_atoms b)) h) [
  | inl body ↦ or_left (is_blocked B D N b.pos b.neg) (are_known B D (bound_atoms b)) (blocked-grows B N b.pos b.neg C D more body)
  | inr known ↦ or_right (is_blocked B D N b.pos b.neg) (are_known B D (bound_atoms b)) (all-grow B C D (bound_atoms b) more known)
]

-- ---- marks of atoms

-- an atom of single ones is a member
pub single-at : (atoms : List ℕ) (a : ℕ) → list_any (λ x. holds (x ∷ []) a) atoms ≡ true → IsIn a atoms
single-at atoms a h =
    let found = any_at (λ x. holds (x ∷ []) a) atoms h in
    elim (holds_at (found.0 ∷ []) a found.2) [
      | inl e ↦ subst (λ (b : ℕ). IsIn b atoms) (sym e) found.1
      | inr never ↦ absurd never
    ]

pub single-from : (atoms : List ℕ) (a : ℕ) → IsIn a atoms → list_any (λ x. holds (x ∷ []) a) atoms ≡ true
single-from atoms a i = any_from (λ x. holds (x ∷ []) a) atoms a i (holds_from (a ∷ []) a (inl refl))

pub marks-atoms : (B : List ℕ) {atoms : List ℕ} {before now : List Bool} → Marks (holds B) atoms before now → MarksAtoms B atoms before now
marks-atoms B {atoms} {before} {now} m = record {
  as_many = m.as_many;
  grows = λ a h. m.each a ∙ or_left (holds (true_places before) a) (holds B a && holds atoms a) h;
  added = λ a h. elim (either (holds (true_places before) a) (holds B a && holds atoms a) (sym (m.each a) ∙ h)) [
    | inl old ↦ inl old
    | inr new ↦ let parts = both (holds B a) (holds atoms a) new in inr (parts.0, single-from atoms a (holds_at atoms a parts.1))
  ];
  passes = all_from (is_known B (true_places now)) atoms (λ a i.
      elim (true_or_false (holds B a)) [
        | inl lower ↦
            or_right (not (holds B a)) (holds (true_places now) a)
            (m.each a
            ∙ or_right (holds (true_places before) a) (holds B a && holds atoms a) (and_true (holds B a) (holds atoms a) lower (holds_from atoms a i)))
        | inr own ↦ or_left (not (holds B a)) (holds (true_places now) a) (not_false _ own)
      ]);
}

-- marks of a list of atoms are those of an item with them
pub of_item : {D : Type 0} (other : List ℕ → D → Bool) (places : D → List ℕ) (B : List ℕ) (atoms : List ℕ) (y : D) (before now : List Bool)
    → ((a : ℕ) → IsIn a atoms → IsIn a (places y)) → other (true_places now) y ≡ true → MarksAtoms B atoms before now → Achieves other places B (y ∷ []) before now
of_item other places B atoms y before now inside passes done =
    recast (is_known B) (λ a. a ∷ []) other places B atoms (y ∷ []) before now
    (λ a h. or_left (holds (places y) a) false (holds_from (places y) a (inside a (single-at atoms a h))))
    (and_true (other (true_places now) y) true passes refl) done

-- ---- literals

-- the marks of a literal's atom are those of the literal
pub literal-marked : (B : List ℕ) (l : Lit) (before now : List Bool) → MarksAtoms B (l.atom ∷ []) before now → MarksLiterals B (l ∷ []) before now
literal-marked B l before now done =
    of_item (λ C l. is_known B C l.atom) (λ l. l.atom ∷ []) B (l.atom ∷ []) l before now (λ a i. i)
    ((both (is_known B (true_places now) l.atom) true done.passes).0) done

-- ---- a few of the atoms

pub few_marked : (B : List ℕ) (a : ℕ) (before now : List Bool) → MarksAtoms B (a ∷ []) before now → MarksFew B (a ∷ []) before now
few_marked B a before now done =
    recast (is_known B) (λ b. b ∷ []) (λ C b. true) (λ b. b ∷ []) B (a ∷ []) (a ∷ []) before now (λ b h. h) refl done

pub few_rule : (B : List ℕ) (r : GroundRule) (head pos neg : List ℕ) (before first second now : List Bool) → head ≡ r.head → pos ≡ r.pos → neg ≡ r.neg
    → MarksFew B head before first → MarksFew B pos first second → MarksFew B neg second now → MarksRules B (r ∷ []) before now
few_rule B r head pos neg before first second now head_is pos_is neg_is at_head at_pos at_neg =
    let done : MarksFew B (rule_atoms r) before now =
    achieves_then (λ C a. true) (λ a. a ∷ []) B r.head (r.pos ++ r.neg) before first now (λ C D x more h. refl)
    (subst (λ (xs : List ℕ). MarksFew B xs before first) head_is at_head)
    (achieves_then (λ C a. true) (λ a. a ∷ []) B r.pos r.neg first second now (λ C D x more h. refl)
    (subst (λ (xs : List ℕ). MarksFew B xs first second) pos_is at_pos)
    (subst (λ (xs : List ℕ). MarksFew B xs second now) neg_is at_neg)) in
    recast (λ C a. true) (λ a. a ∷ []) (λ C q. true) rule_atoms B (rule_atoms r) (r ∷ []) before now
    (λ a h. or_left (holds (rule_atoms r) a) false (holds_from (rule_atoms r) a (single-at (rule_atoms r) a h))) refl done

-- ---- atoms of some of the rules

pub few_none : (B : List ℕ) (rules : List GroundRule) (marks : List Bool) → MarksRules B rules marks marks
few_none B rules marks = record {
  as_many = refl;
  grows = λ a h. h;
  added = λ a h. inl h;
  passes = all_from (λ r. true) rules (λ r i. refl);
}

pub few_then : (B : List ℕ) (rules : List GroundRule) (before middle now : List Bool) → MarksRules B rules before middle → MarksRules B rules middle now → MarksRules B rules before now
few_then B rules before middle now first second = record {
  as_many = second.as_many ∙ first.as_many;
  grows = λ a h. second.grows a (first.grows a h);
  added = λ a h. elim (second.added a h) [ inl early ↦ first.added a early | inr new ↦ inr new ];
  passes = second.passes;
}

-- what satisfies one of the rules is of the rules
pub few_of : (B N : List ℕ) (rules : List GroundRule) (r : GroundRule) (before now : List Bool) → IsIn r rules → SatisfiesRules B N (r ∷ []) before now → MarksRules B rules before now
few_of B N rules r before now member done = record {
  as_many = done.as_many;
  grows = done.grows;
  added = λ a h. elim (done.added a h) [
    | inl old ↦ inl old
    | inr new ↦
        let found = any_at (λ q. holds (rule_atoms q) a) (r ∷ []) new.1 in
        inr (
          new.0,
          elim found.1 [
            | inl e ↦ any_from (λ q. holds (rule_atoms q) a) rules found.0 (subst (λ (q : GroundRule). IsIn q rules) (sym e) member) found.2
            | inr never ↦ absurd never
          ],
        )
  ];
  passes = all_from (λ q. true) rules (λ q i. refl);
}

-- all rules are satisfied in the end, whatever was marked before
pub satisfied_after : (B N : List ℕ) (rules : List GroundRule) (before first second now : List Bool) → MarksRules B rules before first → MarksRules B rules first second
    → SatisfiesRules B N rules second now → SatisfiesRules B N rules before now
satisfied_after B N rules before first second now some more done = record {
  as_many = done.as_many ∙ (more.as_many ∙ some.as_many);
  grows = λ a h. done.grows a (more.grows a (some.grows a h));
  added = λ a h. elim (done.added a h) [
    | inl late ↦ elim (more.added a late) [ inl early ↦ some.added a early | inr new ↦ inr new ]
    | inr new ↦ inr new
  ];
  passes = done.passes;
}
