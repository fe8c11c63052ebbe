-- What is marked for rules and bounds.
use Rattle.std.proofs.Common.{◌≡◌, refl, sym, ◌∙◌, subst, ℕ, ◌<◌, inl, inr, ◌⊎◌, Bool, true, false, not, ◌&&◌, ◌||◌, List, [], ◌∷◌, ◌++◌, nat_lt, Option, Some, None}
use Rattle.std.specs.List.{list_all, list_any, find, flat_map}
use Rattle.std.proofs.lemmas.Bool.{ltb-true}
use Rattle.asp_bits.specs.Places.{true_places}
use Rattle.asp_reduct.specs.Bounds.{are_below, is_rule_below, is_term_below, is_bound_below}
use Rattle.asp_reduct.proofs.Truths.{none-any}
use Rattle.asp_reduct.proofs.Finding.{found_at, none_found, all_pass}
use Rattle.asp_defs.specs.declared.ground.GroundRule.{GroundRule}
use Rattle.asp_defs.specs.declared.ground.Bound.{Bound}
use Rattle.asp_defs.specs.declared.ground.Counted.{Counted}
use Rattle.asp_defs.specs.Lists.{IsIn}
use Rattle.asp_defs.specs.Interpretations.{holds}
use Rattle.asp_defs.specs.Truth.{body_true, satisfies, is_model}
use Rattle.asp_defs.specs.Bounds.{term_atoms, bound_atoms}
use Rattle.asp_defs.specs.Games.{rule_atoms}
use Rattle.asp_defs.proofs.Lists.{both, and_true, or_left, or_right, not_true, not_false, all_at, all_from, any_at, any_from, append_at, append_left, append_right, flat_map_from}
use Rattle.asp_defs.proofs.Subsets.{holds_at}
use Rattle.asp_entry.specs.Taken.{IsTaken}
use Rattle.asp_entry.proofs.Taking.{taken_below, below_none}
use Rattle.asp_explain.specs.Resting.{is_known, are_known, has_known, is_blocked, is_safe, is_kept, may_support, is_settled}
use Rattle.asp_explain.specs.Achieving.{MarksAtoms, MarksTerms, SettlesRules, SatisfiesRules, KeepsBounds, IsFalseAtom, IsWitness}
use Rattle.asp_explain.proofs.Marking.{known-grows, achieves_then, recast, nothing_new, of_item, single-from}

-- ---- rules

pub rule_marked : (B : List ℕ) (r : GroundRule) (head pos neg : List ℕ) (before first second now : List Bool) → head ≡ r.head → pos ≡ r.pos → neg ≡ r.neg
    → MarksAtoms B head before first → MarksAtoms B pos first second → MarksAtoms B neg second now → MarksAtoms B (rule_atoms r) before now
rule_marked B r head pos neg before first second now head_is pos_is neg_is at_head at_pos at_neg =
    achieves_then (is_known B) (λ a. a ∷ []) B r.head (r.pos ++ r.neg) before first now (known-grows B)
    (subst (λ (xs : List ℕ). MarksAtoms B xs before first) head_is at_head)
    (achieves_then (is_known B) (λ a. a ∷ []) B r.pos r.neg first second now (known-grows B)
    (subst (λ (xs : List ℕ). MarksAtoms B xs first second) pos_is at_pos)
    (subst (λ (xs : List ℕ). MarksAtoms B xs second now) neg_is at_neg))

pub rule_settled : (B D N : List ℕ) (r : GroundRule) (before now : List Bool) → MarksAtoms B (rule_atoms r) before now → SettlesRules B D N (r ∷ []) before now
rule_settled B D N r before now done =
    of_item (λ C r. is_settled B D C N r) rule_atoms B (rule_atoms r) r before now (λ a i. i)
    (or_right (not (may_support D N r)) (are_known B (true_places now) (rule_atoms r)) done.passes) done

pub rule_passed : (B D N : List ℕ) (r : GroundRule) (before now : List Bool) → now ≡ before → may_support D N r ≡ false → SettlesRules B D N (r ∷ []) before now
rule_passed B D N r before now same never =
    nothing_new (λ C r. is_settled B D C N r) rule_atoms B r before now same
    (or_left (not (may_support D N r)) (are_known B (true_places before) (rule_atoms r)) (not_false _ never))

-- ---- false literals and witnesses

pub false_found : (N pos neg : List ℕ) (a : ℕ) (found : Option ℕ) → Some a ≡ find (λ b. not (holds N b)) pos → found ≡ Some a → IsFalseAtom N pos neg found
false_found N pos neg a found is at = record {
  one = λ b e.
      let here = found_at (λ c. not (holds N c)) pos b (sym e ∙ (at ∙ is)) in
      inl (here.0, not_true (holds N b) here.1);
  none = λ e. let never : Some a ≡ None = sym at ∙ e in absurd (cc);
}

pub false_second : (N pos neg : List ℕ) (found : Option ℕ) → None ≡ find (λ b. not (holds N b)) pos → found ≡ find (holds N) neg → IsFalseAtom N pos neg found
false_second N pos neg found first second = record {
  one = λ b e. inr (found_at (holds N) neg b (sym e ∙ second));
  none = λ e. and_true (list_all (holds N) pos) (list_all (λ b. not (holds N b)) neg) (all_pass (holds N) pos first) (none_found (holds N) neg (sym e ∙ second));
}

choice_alone : (c b h : Bool) → b ≡ true → h ≡ false → c || (not b || h) ≡ c
choice_alone true b h body head = refl
choice_alone false true h body head = head
choice_alone false false h body head = absurd (cc)

-- of the head and both parts of the body one was taken, where there is any
witness_of : (N : List ℕ) (r : GroundRule) (of_head of_pos now : Option ℕ) → IsTaken N true r.head None of_head → IsTaken N false r.pos of_head of_pos → IsTaken N true r.neg of_pos now → IsWitness N r now
witness_of N r of_head of_pos now first second third = record {
  one = λ a e. elim (third.one a e) [
    | inl late ↦ elim (second.one a late) [
      | inl early ↦ elim (first.one a early) [ inl never ↦ absurd (cc) | inr head ↦ inl head ]
      | inr p ↦ inr (inl p)
    ]
    | inr n ↦ inr (inr n)
  ];
  none = λ e.
      let neg = third.none e in
      let pos = second.none neg.0 in
      let head = first.none pos.0 in
      choice_alone r.choice (body_true N r) (list_any (holds N) r.head)
      (and_true (list_all (holds N) r.pos) (list_all (λ a. not (holds N a)) r.neg)
      (all_from (holds N) r.pos pos.1)
      (all_from (λ a. not (holds N a)) r.neg (λ a i. not_false (holds N a) (neg.1 a i))))
      (not_true (list_any (holds N) r.head) (none-any N r.head ∙ all_from (λ a. not (holds N a)) r.head (λ a i. not_false (holds N a) (head.1 a i))));
}

pub witness_taken : (N : List ℕ) (r : GroundRule) (head pos neg : List ℕ) (of_head of_pos now : Option ℕ) → head ≡ r.head → pos ≡ r.pos → neg ≡ r.neg
    → IsTaken N true head None of_head → IsTaken N false pos of_head of_pos → IsTaken N true neg of_pos now → IsWitness N r now
witness_taken N r head pos neg of_head of_pos now head_is pos_is neg_is first second third =
    witness_of N r of_head of_pos now
    (subst (λ (xs : List ℕ). IsTaken N true xs None of_head) head_is first)
    (subst (λ (xs : List ℕ). IsTaken N false xs of_head of_pos) pos_is second)
    (subst (λ (xs : List ℕ). IsTaken N true xs of_pos now) neg_is third)

-- what is taken of the head, and of the positive body, is below a count where the rule is
pub head_low : (N : List ℕ) (r : GroundRule) (head : List ℕ) (count kept : ℕ) (now : Option ℕ) → head ≡ r.head → is_rule_below count r ≡ true → kept ≡ count
    → IsTaken N true head None now → (a : ℕ) → now ≡ Some a → a < kept
head_low N r head count kept now head_is below same taken =
    taken_below N true head count kept None now same (below_none kept)
    (subst (λ (xs : List ℕ). are_below count xs ≡ true) (sym head_is)
    (all_from (λ b. nat_lt b count) r.head (λ b i. all_at (λ d. nat_lt d count) (rule_atoms r) b below (append_left r.head (r.pos ++ r.neg) b i)))) taken

pub pos_low : (N : List ℕ) (r : GroundRule) (head pos : List ℕ) (count kept : ℕ) (middle now : Option ℕ) → head ≡ r.head → pos ≡ r.pos → is_rule_below count r ≡ true → kept ≡ count
    → IsTaken N true head None middle → IsTaken N false pos middle now → (a : ℕ) → now ≡ Some a → a < kept
pos_low N r head pos count kept middle now head_is pos_is below same first second =
    taken_below N false pos count kept middle now same (head_low N r head count kept middle head_is below same first)
    (subst (λ (xs : List ℕ). are_below count xs ≡ true) (sym pos_is)
    (all_from (λ b. nat_lt b count) r.pos (λ b i.
    all_at (λ d. nat_lt d count) (rule_atoms r) b below (append_right r.head (r.pos ++ r.neg) b (append_left r.pos r.neg b i))))) second

witness-inside : (N : List ℕ) (r : GroundRule) (a : ℕ) → IsWitness N r (Some a) → IsIn a (rule_atoms r)
witness-inside N r a w = elim (w.one a refl) [
  | inl head ↦ append_left r.head (r.pos ++ r.neg) a head.0
  | inr body ↦ append_right r.head (r.pos ++ r.neg) a (elim body [
    | inl p ↦ append_left r.pos r.neg a p.0
    | inr n ↦ append_right r.pos r.neg a n.0
  ])
]

pub witness-below : (N : List ℕ) (r : GroundRule) (a count : ℕ) → is_rule_below count r ≡ true → IsWitness N r (Some a) → a < count
witness-below N r a count below w = ltb-true a count (all_at (λ b. nat_lt b count) (rule_atoms r) a below (witness-inside N r a w))

known-false : (B C N atoms : List ℕ) (a : ℕ) → IsIn a atoms → holds N a ≡ false → is_known B C a ≡ true → has_known B C N false atoms ≡ true
known-false B C N atoms a i is known =
    any_from (λ b. not (holds N b) && is_known B C b) atoms a i (and_true (not (holds N a)) (is_known B C a) (not_false _ is) known)

known-true : (B C N atoms : List ℕ) (a : ℕ) → IsIn a atoms → holds N a ≡ true → is_known B C a ≡ true → has_known B C N true atoms ≡ true
known-true B C N atoms a i is known =
    any_from (λ b. holds N b && is_known B C b) atoms a i (and_true (holds N a) (is_known B C a) is known)

blocked-by : (B C N pos neg : List ℕ) (a : ℕ) → (IsIn a pos × (holds N a ≡ false)) ⊎ (IsIn a neg × (holds N a ≡ true)) → is_known B C a ≡ true → is_blocked B C N pos neg ≡ true
blocked-by B C N pos neg a (inl p) known = or_left (has_known B C N false pos) (has_known B C N true neg) (known-false B C N pos a p.0 p.1 known)
blocked-by B C N pos neg a (inr n) known = or_right (has_known B C N false pos) (has_known B C N true neg) (known-true B C N neg a n.0 n.1 known)

safe-by : (B C N : List ℕ) (r : GroundRule) (a : ℕ) → IsWitness N r (Some a) → is_known B C a ≡ true → is_safe B C N r ≡ true
safe-by B C N r a w known =
    or_right r.choice (has_known B C N true r.head || is_blocked B C N r.pos r.neg)
    (elim (w.one a refl) [
      | inl head ↦ or_left (has_known B C N true r.head) (is_blocked B C N r.pos r.neg) (known-true B C N r.head a head.0 head.1 known)
      | inr body ↦ or_right (has_known B C N true r.head) (is_blocked B C N r.pos r.neg) (blocked-by B C N r.pos r.neg a body known)
    ])

pub rule_safe : (B N : List ℕ) (r : GroundRule) (before now : List Bool) → now ≡ before → is_safe B (true_places before) N r ≡ true → SatisfiesRules B N (r ∷ []) before now
rule_safe B N r before now same safe = nothing_new (λ C r. is_safe B C N r) rule_atoms B r before now same safe

pub rule_satisfied : (B N : List ℕ) (r : GroundRule) (a : ℕ) (before now : List Bool) → IsWitness N r (Some a) → MarksAtoms B (a ∷ []) before now → SatisfiesRules B N (r ∷ []) before now
rule_satisfied B N r a before now w done =
    of_item (λ C r. is_safe B C N r) rule_atoms B (a ∷ []) r before now
    (λ b i. elim i [ inl e ↦ subst (λ (d : ℕ). IsIn d (rule_atoms r)) (sym e) (witness-inside N r a w) | inr never ↦ absurd never ])
    (safe-by B (true_places now) N r a w ((both (is_known B (true_places now) a) true done.passes).0)) done

pub rule_chosen : (B N : List ℕ) (r : GroundRule) (before now : List Bool) → now ≡ before → IsWitness N r None → satisfies N r ≡ true → SatisfiesRules B N (r ∷ []) before now
rule_chosen B N r before now same w satisfied =
    rule_safe B N r before now same
    (or_left r.choice (has_known B (true_places before) N true r.head || is_blocked B (true_places before) N r.pos r.neg) (sym (w.none refl) ∙ satisfied))

-- a rule of a model is satisfied
pub satisfied-at : (N : List ℕ) (rules : List GroundRule) (r : GroundRule) → is_model N rules ≡ true → IsIn r rules → satisfies N r ≡ true
satisfied-at N rules r model i = all_at (satisfies N) rules r model i

-- ---- bounds

pub term_marked : (B : List ℕ) (c : Counted) (pos neg : List ℕ) (before first second now : List Bool) → pos ≡ c.pos → neg ≡ c.neg
    → MarksAtoms B (c.atom ∷ []) before first → MarksAtoms B pos first second → MarksAtoms B neg second now → MarksTerms B (c ∷ []) before now
term_marked B c pos neg before first second now pos_is neg_is at_atom at_pos at_neg =
    let done : MarksAtoms B (term_atoms c) before now =
    achieves_then (is_known B) (λ a. a ∷ []) B (c.atom ∷ []) (c.pos ++ c.neg) before first now (known-grows B) at_atom
    (achieves_then (is_known B) (λ a. a ∷ []) B c.pos c.neg first second now (known-grows B)
    (subst (λ (xs : List ℕ). MarksAtoms B xs first second) pos_is at_pos)
    (subst (λ (xs : List ℕ). MarksAtoms B xs second now) neg_is at_neg)) in
    of_item (λ C c. are_known B C (term_atoms c)) term_atoms B (term_atoms c) c before now (λ a i. i) done.passes done

all-flat : (p : ℕ → Bool) (terms : List Counted) → list_all (λ c. list_all p (term_atoms c)) terms ≡ true → list_all p (flat_map term_atoms terms) ≡ true
all-flat p [] h = refl
all-flat p (c ∷ terms) h =
    let parts = both (list_all p (term_atoms c)) (list_all (λ c. list_all p (term_atoms c)) terms) h in
    let rest = all-flat p terms parts.1 in
    all_from p (term_atoms c ++ flat_map term_atoms terms) (λ a i.
    elim (append_at (term_atoms c) (flat_map term_atoms terms) a i) [
      | inl j ↦ all_at p (term_atoms c) a parts.0 j
      | inr j ↦ all_at p (flat_map term_atoms terms) a rest j
    ])

terms_flat : (B : List ℕ) (terms : List Counted) (before now : List Bool) → MarksTerms B terms before now → MarksAtoms B (flat_map term_atoms terms) before now
terms_flat B terms before now done =
    recast (λ C c. are_known B C (term_atoms c)) term_atoms (is_known B) (λ a. a ∷ []) B terms (flat_map term_atoms terms) before now
    (λ a h.
    let found = any_at (λ c. holds (term_atoms c) a) terms h in
    single-from (flat_map term_atoms terms) a (flat_map_from term_atoms terms found.0 a found.1 (holds_at (term_atoms found.0) a found.2)))
    (all-flat (is_known B (true_places now)) terms done.passes) done

pub bound_marked : (B : List ℕ) (b : Bound) (pos neg : List ℕ) (terms : List Counted) (before first second now : List Bool) → pos ≡ b.pos → neg ≡ b.neg → terms ≡ b.counted
    → MarksAtoms B pos before first → MarksAtoms B neg first second → MarksTerms B terms second now → MarksAtoms B (bound_atoms b) before now
bound_marked B b pos neg terms before first second now pos_is neg_is terms_are at_pos at_neg at_terms =
    achieves_then (is_known B) (λ a. a ∷ []) B b.pos (b.neg ++ flat_map term_atoms b.counted) before first now (known-grows B)
    (subst (λ (xs : List ℕ). MarksAtoms B xs before first) pos_is at_pos)
    (achieves_then (is_known B) (λ a. a ∷ []) B b.neg (flat_map term_atoms b.counted) first second now (known-grows B)
    (subst (λ (xs : List ℕ). MarksAtoms B xs first second) neg_is at_neg)
    (terms_flat B b.counted second now (subst (λ (cs : List Counted). MarksTerms B cs second now) terms_are at_terms)))

pub bound_blocked : (B N : List ℕ) (b : Bound) (pos neg : List ℕ) (before now : List Bool) → pos ≡ b.pos → neg ≡ b.neg → now ≡ before
    → is_blocked B (true_places before) N pos neg ≡ true → KeepsBounds B N (b ∷ []) before now
bound_blocked B N b pos neg before now pos_is neg_is same h =
    nothing_new (λ C b. is_kept B C N b) bound_atoms B b before now same
    (or_left (is_blocked B (true_places before) N b.pos b.neg) (are_known B (true_places before) (bound_atoms b))
    (subst (λ (xs : List ℕ). is_blocked B (true_places before) N b.pos xs ≡ true) neg_is
    (subst (λ (xs : List ℕ). is_blocked B (true_places before) N xs neg ≡ true) pos_is h)))

false-inside : (N : List ℕ) (b : Bound) (a : ℕ) → IsFalseAtom N b.pos b.neg (Some a) → IsIn a (bound_atoms b)
false-inside N b a w = elim (w.one a refl) [
  | inl p ↦ append_left b.pos (b.neg ++ flat_map term_atoms b.counted) a p.0
  | inr n ↦ append_right b.pos (b.neg ++ flat_map term_atoms b.counted) a (append_left b.neg (flat_map term_atoms b.counted) a n.0)
]

at_body : (N : List ℕ) (b : Bound) (pos neg : List ℕ) (found : Option ℕ) → pos ≡ b.pos → neg ≡ b.neg → IsFalseAtom N pos neg found → IsFalseAtom N b.pos b.neg found
at_body N b pos neg found pos_is neg_is w =
    subst (λ (xs : List ℕ). IsFalseAtom N b.pos xs found) neg_is (subst (λ (xs : List ℕ). IsFalseAtom N xs neg found) pos_is w)

pub false-below : (N : List ℕ) (b : Bound) (pos neg : List ℕ) (a count : ℕ) → pos ≡ b.pos → neg ≡ b.neg → is_bound_below count b ≡ true → IsFalseAtom N pos neg (Some a) → a < count
false-below N b pos neg a count pos_is neg_is below w =
    ltb-true a count (all_at (λ d. nat_lt d count) (bound_atoms b) a below (false-inside N b a (at_body N b pos neg (Some a) pos_is neg_is w)))

pub bound_failed : (B N : List ℕ) (b : Bound) (pos neg : List ℕ) (a : ℕ) (before now : List Bool) → pos ≡ b.pos → neg ≡ b.neg → IsFalseAtom N pos neg (Some a)
    → MarksAtoms B (a ∷ []) before now → KeepsBounds B N (b ∷ []) before now
bound_failed B N b pos neg a before now pos_is neg_is w done =
    let here = at_body N b pos neg (Some a) pos_is neg_is w in
    of_item (λ C b. is_kept B C N b) bound_atoms B (a ∷ []) b before now
    (λ d i. elim i [ inl e ↦ subst (λ (x : ℕ). IsIn x (bound_atoms b)) (sym e) (false-inside N b a here) | inr never ↦ absurd never ])
    (or_left (is_blocked B (true_places now) N b.pos b.neg) (are_known B (true_places now) (bound_atoms b))
    (blocked-by B (true_places now) N b.pos b.neg a (here.one a refl) ((both (is_known B (true_places now) a) true done.passes).0)))
    done

pub bound_known : (B N : List ℕ) (b : Bound) (before now : List Bool) → MarksAtoms B (bound_atoms b) before now → KeepsBounds B N (b ∷ []) before now
bound_known B N b before now done =
    of_item (λ C b. is_kept B C N b) bound_atoms B (bound_atoms b) b before now (λ a i. i)
    (or_right (is_blocked B (true_places now) N b.pos b.neg) (are_known B (true_places now) (bound_atoms b)) done.passes) done

-- the counted terms of a bound are below a count where the bound is
pub terms_below : (count : ℕ) (b : Bound) (terms : List Counted) → terms ≡ b.counted → is_bound_below count b ≡ true → list_all (is_term_below count) terms ≡ true
terms_below count b terms terms_are below =
    subst (λ (cs : List Counted). list_all (is_term_below count) cs ≡ true) (sym terms_are)
    (all_from (is_term_below count) b.counted (λ c i.
    all_from (λ a. nat_lt a count) (term_atoms c) (λ a j.
    all_at (λ d. nat_lt d count) (bound_atoms b) a below
    (append_right b.pos (b.neg ++ flat_map term_atoms b.counted) a
    (append_right b.neg (flat_map term_atoms b.counted) a (flat_map_from term_atoms b.counted c a i j))))))
