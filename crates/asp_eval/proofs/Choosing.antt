-- Which atom of false literals is taken, and when chosen atoms cover bodies.
use Rattle.std.proofs.Common.{◌≡◌, refl, sym, ap, ◌∙◌, subst, ℕ, ◌+◌, ◌<◌, inl, inr, ◌⊎◌, Bool, true, false, not, ◌&&◌, ◌||◌, eqb, nat_lt, List, [], ◌∷◌, ◌++◌, length, get_or, take, replicate, Option, Some, None, arith}
use Rattle.std.specs.Prelude.{MatchOption, slice_set}
use Rattle.std.specs.List.{list_all, list_any}
use Rattle.std.proofs.lemmas.Bool.{ltb-true, eq-eqb}
use Rattle.std.proofs.lemmas.List.{length-set, length-replicate, take_more}
use Rattle.std.proofs.lemmas.List.Folds.{list_any-append}
use Rattle.asp_bits.specs.Places.{true_places}
use Rattle.asp_reduct.specs.Bounds.{are_below}
use Rattle.asp_defs.specs.declared.ground.GroundRule.{GroundRule}
use Rattle.asp_defs.specs.Lists.{IsIn}
use Rattle.asp_defs.specs.Interpretations.{holds}
use Rattle.asp_defs.specs.Truth.{body_true}
use Rattle.asp_defs.specs.History.{agrees}
use Rattle.asp_defs.specs.Games.{rule_atoms}
use Rattle.asp_defs.proofs.Lists.{both, and_true, either, or_left, or_right, true_or_false, not_true, not_false, all_at, all_from, any_at, any_from, append_at, append_left, append_right}
use Rattle.asp_defs.proofs.Subsets.{true_is_not_false, holds_at, holds_from}
use Rattle.asp_eval.specs.Covers.{has_chosen, is_covered, is_false_in}
use Rattle.asp_eval.specs.Covering.{IsWithin, IsPart, CoversRule, Covers, IsThinned, IsCovering}
use Rattle.asp_entry.specs.Taken.{IsTaken}
use Rattle.asp_entry.proofs.Marking.{holds-set, same_number, blank, true-within}

-- the positive body is a part of the rule
pub pos_below : (r : GroundRule) (atoms : List ℕ) (count : ℕ) → atoms ≡ r.pos → are_below count (rule_atoms r) ≡ true → are_below count atoms ≡ true
pos_below r atoms count is below =
    subst (λ (xs : List ℕ). are_below count xs ≡ true) (sym is)
    (all_from (λ b. nat_lt b count) r.pos (λ b i.
    all_at (λ c. nat_lt c count) (rule_atoms r) b below (append_right r.head (r.pos ++ r.neg) b (append_left r.pos r.neg b i))))

-- of both parts of a body a false literal's atom is taken, where there is any
false_taken_of : (I : List ℕ) (r : GroundRule) (middle now : Option ℕ) → IsTaken I false r.pos None middle → IsTaken I true r.neg middle now → MatchOption now (body_true I r ≡ true) (λ a. is_false_in I r a ≡ true)
false_taken_of I r middle None first second =
    let late = second.none refl in
    let early = first.none late.0 in
    and_true (list_all (holds I) r.pos) (list_all (λ a. not (holds I a)) r.neg)
    (all_from (holds I) r.pos early.1)
    (all_from (λ a. not (holds I a)) r.neg (λ a i. not_false (holds I a) (late.1 a i)))
false_taken_of I r middle (Some a) first second =
    let pos = holds r.pos a && not (holds I a) in
    let neg = holds r.neg a && holds I a in
    elim (second.one a refl) [
      | inl earlier ↦ elim (first.one a earlier) [
        | inl never ↦ absurd (cc)
        | inr here ↦ or_left pos neg (and_true (holds r.pos a) (not (holds I a)) (holds_from r.pos a here.0) (not_false (holds I a) here.1))
      ]
      | inr here ↦ or_right pos neg (and_true (holds r.neg a) (holds I a) (holds_from r.neg a here.0) here.1)
    ]

pub false_taken : (I : List ℕ) (r : GroundRule) (pos neg : List ℕ) (middle now : Option ℕ) → pos ≡ r.pos → neg ≡ r.neg → IsTaken I false pos None middle → IsTaken I true neg middle now
    → MatchOption now (body_true I r ≡ true) (λ a. is_false_in I r a ≡ true)
false_taken I r pos neg middle now pos_is neg_is first second =
    false_taken_of I r middle now
    (subst (λ (xs : List ℕ). IsTaken I false xs None middle) pos_is first)
    (subst (λ (xs : List ℕ). IsTaken I true xs middle now) neg_is second)

-- ---- false literals

-- the atom of a false literal stands in the positive body or in the negative one
false_at : (I : List ℕ) (r : GroundRule) (a : ℕ) → is_false_in I r a ≡ true → (IsIn a r.pos × (holds I a ≡ false)) ⊎ (IsIn a r.neg × (holds I a ≡ true))
false_at I r a h = elim (either (holds r.pos a && not (holds I a)) (holds r.neg a && holds I a) h) [
  | inl e ↦ let parts = both (holds r.pos a) (not (holds I a)) e in inl (holds_at r.pos a parts.0, not_true (holds I a) parts.1)
  | inr e ↦ let parts = both (holds r.neg a) (holds I a) e in inr (holds_at r.neg a parts.0, parts.1)
]

body-member : (r : GroundRule) (a : ℕ) → IsIn a r.pos ⊎ IsIn a r.neg → IsIn a (rule_atoms r)
body-member r a (inl i) = append_right r.head (r.pos ++ r.neg) a (append_left r.pos r.neg a i)
body-member r a (inr i) = append_right r.head (r.pos ++ r.neg) a (append_right r.pos r.neg a i)

false-member : (I : List ℕ) (r : GroundRule) (a : ℕ) → is_false_in I r a ≡ true → IsIn a (rule_atoms r)
false-member I r a h = elim (false_at I r a h) [
  | inl p ↦ body-member r a (inl p.0)
  | inr n ↦ body-member r a (inr n.0)
]

pub false_below : (I : List ℕ) (r : GroundRule) (a count : ℕ) → are_below count (rule_atoms r) ≡ true → is_false_in I r a ≡ true → a < count
false_below I r a count below h = ltb-true a count (all_at (λ b. nat_lt b count) (rule_atoms r) a below (false-member I r a h))

-- ---- bodies that are covered

-- a false literal whose atom is chosen covers the body
chosen-covers : (B C I : List ℕ) (r : GroundRule) (a : ℕ) → is_false_in I r a ≡ true → holds C a ≡ true → is_covered B C I r ≡ true
chosen-covers B C I r a h c =
    or_right (list_any (λ b. not (holds B b)) r.pos) (has_chosen C I false r.pos || has_chosen C I true r.neg)
    (elim (false_at I r a h) [
      | inl p ↦
          or_left (has_chosen C I false r.pos) (has_chosen C I true r.neg)
          (any_from (λ b. agrees false (holds I b) && holds C b) r.pos a p.0 (and_true (not (holds I a)) (holds C a) (not_false (holds I a) p.1) c))
      | inr n ↦
          or_right (has_chosen C I false r.pos) (has_chosen C I true r.neg)
          (any_from (λ b. agrees true (holds I b) && holds C b) r.neg a n.0 (and_true (holds I a) (holds C a) n.1 c))
    ])

chosen-grows : (C D I : List ℕ) (truth : Bool) (atoms : List ℕ) → IsWithin C D → has_chosen C I truth atoms ≡ true → has_chosen D I truth atoms ≡ true
chosen-grows C D I truth atoms grows h =
    let found = any_at (λ a. agrees truth (holds I a) && holds C a) atoms h in
    let parts = both (agrees truth (holds I found.0)) (holds C found.0) found.2 in
    any_from (λ a. agrees truth (holds I a) && holds D a) atoms found.0 found.1
    (and_true (agrees truth (holds I found.0)) (holds D found.0) parts.0 (grows found.0 parts.1))

-- more chosen atoms cover no less
pub covered-grows : (B C D I : List ℕ) (r : GroundRule) → IsWithin C D → is_covered B C I r ≡ true → is_covered B D I r ≡ true
covered-grows B C D I r grows h =
    let inner = list_any (λ b. not (holds B b)) r.pos in
    elim (either inner (has_chosen C I false r.pos || has_chosen C I true r.neg) h) [
      | inl e ↦ or_left inner (has_chosen D I false r.pos || has_chosen D I true r.neg) e
      | inr e ↦
          or_right inner (has_chosen D I false r.pos || has_chosen D I true r.neg)
          (elim (either (has_chosen C I false r.pos) (has_chosen C I true r.neg) e) [
            | inl p ↦ or_left (has_chosen D I false r.pos) (has_chosen D I true r.neg) (chosen-grows C D I false r.pos grows p)
            | inr n ↦ or_right (has_chosen D I false r.pos) (has_chosen D I true r.neg) (chosen-grows C D I true r.neg grows n)
          ])
    ]

-- where no atom of the positive body is inner, the atom of a false literal is an outer one
false-outer : (B C I : List ℕ) (r : GroundRule) (a : ℕ) → IsWithin I B → is_covered B C I r ≡ false → is_false_in I r a ≡ true → holds B a ≡ true
false-outer B C I r a inside uncovered h = elim (false_at I r a h) [
  | inl p ↦ elim (true_or_false (holds B a)) [
    | inl e ↦ e
    | inr e ↦
        absurd (true_is_not_false (is_covered B C I r)
        (or_left (list_any (λ b. not (holds B b)) r.pos) (has_chosen C I false r.pos || has_chosen C I true r.neg)
        (any_from (λ b. not (holds B b)) r.pos a p.0 (not_false (holds B a) e)))
        uncovered)
  ]
  | inr n ↦ inside a n.1
]

-- ---- atoms that are added

pub covers_by : (B I : List ℕ) (r : GroundRule) (atom count : ℕ) (before now : List Bool) → length before ≡ count → are_below count (rule_atoms r) ≡ true → IsWithin I B
    → is_covered B (true_places before) I r ≡ false → is_false_in I r atom ≡ true → now ≡ slice_set before atom true → CoversRule B I r before now
covers_by B I r atom count before now as_many below inside uncovered h is =
    let low : atom < length before = omega (arith, false_below I r atom count below h, as_many) in
    let each : (a : ℕ) → holds (true_places now) a ≡ (eqb atom a || holds (true_places before) a) =
    λ a. ap (λ values. holds (true_places values) a) is ∙ holds-set before atom a low in
    record {
      as_many = ap length is ∙ length-set before atom true;
      grows = λ a i. each a ∙ or_right (eqb atom a) (holds (true_places before) a) i;
      covered = chosen-covers B (true_places now) I r atom h (each atom ∙ or_left (eqb atom atom) (holds (true_places before) atom) (eq-eqb atom atom refl));
      added = λ a i. elim (either (eqb atom a) (holds (true_places before) a) (sym (each a) ∙ i)) [
        | inl e ↦
            inr (subst (λ (b : ℕ). (holds B b ≡ true) × (holds (rule_atoms r) b ≡ true)) (same_number atom a e)
            (false-outer B (true_places before) I r atom inside uncovered h, holds_from (rule_atoms r) atom (false-member I r atom h)))
        | inr e ↦ inl e
      ];
    }

-- one more rule
pub covers_more : (B I : List ℕ) (rules : List GroundRule) (i : ℕ) (r : GroundRule) (before middle now : List Bool) → i < length rules → r ≡ get_or rules i r
    → Covers B I (take i rules) before middle → CoversRule B I r middle now → Covers B I (take (i + 1) rules) before now
covers_more B I rules i r before middle now h is first second =
    let list_is : take i rules ++ r ∷ [] ≡ take (i + 1) rules = ap (λ q. take i rules ++ q ∷ []) is ∙ sym (take_more rules i r h) in
    let test : GroundRule → ℕ → Bool = λ q a. holds (rule_atoms q) a in
    subst (λ (xs : List GroundRule). Covers B I xs before now) list_is
    (record {
      as_many = second.as_many ∙ first.as_many;
      grows = λ a j. second.grows a (first.grows a j);
      covered = all_from (is_covered B (true_places now) I) (take i rules ++ r ∷ []) (λ q j.
          elim (append_at (take i rules) (r ∷ []) q j) [
            | inl k ↦ covered-grows B (true_places middle) (true_places now) I q second.grows (all_at (is_covered B (true_places middle) I) (take i rules) q first.covered k)
            | inr (inl e) ↦ subst (λ (p : GroundRule). is_covered B (true_places now) I p ≡ true) (sym e) second.covered
            | inr (inr never) ↦ absurd never
          ]);
      added = λ a j. elim (second.added a j) [
        | inl old ↦ elim (first.added a old) [
          | inl older ↦ inl older
          | inr new ↦
              inr (
                new.0,
                list_any-append (λ q. test q a) (take i rules) (r ∷ [])
                    ∙ or_left (list_any (λ q. test q a) (take i rules)) (list_any (λ q. test q a) (r ∷ [])) new.1,
              )
        ]
        | inr new ↦
            inr (
              new.0,
              list_any-append (λ q. test q a) (take i rules) (r ∷ [])
                  ∙ or_right (list_any (λ q. test q a) (take i rules)) (list_any (λ q. test q a) (r ∷ []))
                  (or_left (test r a) false new.1),
            )
      ];
    })

-- a chosen atom more is still a part of the chosen ones
pub part_none : (chosen : List Bool) (count n : ℕ) (values : List Bool) → values ≡ replicate n false → n ≡ count → IsPart chosen count values
part_none chosen count n values is same = record {
  as_many = ap length is ∙ (length-replicate n false ∙ same);
  within = λ a i. absurd (true_is_not_false (holds (true_places values) a) i (ap (λ vs. holds (true_places vs) a) is ∙ blank n a));
}

pub part_with : (chosen : List Bool) (count a : ℕ) (values now : List Bool) → length chosen ≡ count → IsPart chosen count values → holds (true_places chosen) a ≡ true
    → now ≡ slice_set values a true → IsPart chosen count now
part_with chosen count a values now as_many part h is =
    let low : a < length values = omega (arith, true-within chosen a h, as_many, part.as_many) in
    record {
      as_many = ap length is ∙ (length-set values a true ∙ part.as_many);
      within = λ b i.
          elim (either (eqb a b) (holds (true_places values) b) (sym (ap (λ vs. holds (true_places vs) b) is ∙ holds-set values a b low) ∙ i)) [
            | inl e ↦ subst (λ (x : ℕ). holds (true_places chosen) x ≡ true) (same_number a b e) h
            | inr old ↦ part.within b old
          ];
    }

pub part_low : (chosen : List Bool) (count a : ℕ) (values : List Bool) → length chosen ≡ count → IsPart chosen count values → holds (true_places chosen) a ≡ true → a < length values
part_low chosen count a values as_many part h = omega (arith, true-within chosen a h, as_many, part.as_many)

-- chosen from nothing, thinned, and chosen again
pub covering_is : (B I : List ℕ) (rules : List GroundRule) (count n : ℕ) (none chosen thinned now : List Bool) → none ≡ replicate n false
    → Covers B I rules none chosen → IsThinned B rules chosen count thinned → Covers B I rules thinned now → IsCovering B I rules count now
covering_is B I rules count n none chosen thinned now none_is first middle second =
    let from : (a : ℕ) → holds (true_places now) a ≡ true → (holds B a ≡ true) × (list_any (λ r. holds (rule_atoms r) a) rules ≡ true) = λ a i.
    elim (second.added a i) [
      | inl old ↦ elim (middle.atoms a old) [
        | inl older ↦ elim (first.added a older) [
          | inl never ↦
              absurd (true_is_not_false (holds (true_places none) a) never (ap (λ values. holds (true_places values) a) none_is ∙ blank n a))
          | inr new ↦ new
        ]
        | inr new ↦ new
      ]
      | inr new ↦ new
    ] in
    record {
      as_many = second.as_many ∙ middle.as_many;
      covered = second.covered;
      atoms = record { outer = λ a i. (from a i).0; stand = λ a i. (from a i).1 };
    }
