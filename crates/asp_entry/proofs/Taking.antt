-- Which atom is taken of those with a truth.
use Rattle.std.proofs.Common.{◌≡◌, refl, sym, ap, ◌∙◌, subst, ℕ, zero, suc, ◌+◌, ◌<◌, inl, inr, ◌⊎◌, Bool, true, false, not, ◌&&◌, nat_lt, List, [], ◌∷◌, ◌++◌, length, get_or, take, Option, Some, None, arith}
use Rattle.std.specs.Bool.{beq}
use Rattle.std.specs.List.{slice_get}
use Rattle.std.proofs.lemmas.Bool.{ltb-true}
use Rattle.std.proofs.lemmas.List.{take_more}
use Rattle.asp_bits.specs.Places.{true_places}
use Rattle.asp_reduct.proofs.Truths.{holds-read}
use Rattle.asp_reduct.specs.Bounds.{are_below}
use Rattle.asp_defs.specs.Lists.{IsIn}
use Rattle.asp_defs.specs.Interpretations.{holds}
use Rattle.asp_defs.specs.History.{agrees}
use Rattle.asp_defs.proofs.Lists.{all_at, all_from, append_at, append_left, append_right}
use Rattle.asp_entry.specs.Taken.{IsTaken}

-- ---- truth values

pub beq_agrees : (v truth : Bool) → beq v truth ≡ agrees truth v
beq_agrees true true = refl
beq_agrees true false = refl
beq_agrees false true = refl
beq_agrees false false = refl

pub agrees_is : (truth v : Bool) → agrees truth v ≡ true → v ≡ truth
agrees_is true v h = h
agrees_is false true h = absurd (cc)
agrees_is false false h = refl

pub agrees_not : (truth v : Bool) → agrees truth v ≡ false → v ≡ not truth
agrees_not true v h = h
agrees_not false true h = refl
agrees_not false false h = absurd (cc)

-- whether an atom is chosen with a truth, from what was read at its place
pub chosen-read : (values chosen : List Bool) (a : ℕ) (truth v picked : Bool) → slice_get values a ≡ Some v → slice_get chosen a ≡ Some picked
    → (beq v truth && picked) ≡ (agrees truth (holds (true_places values) a) && holds (true_places chosen) a)
chosen-read values chosen a truth v picked hv hp =
    ap (λ t. t && picked) (beq_agrees v truth)
    ∙ (ap (λ t. agrees truth t && picked) (sym (holds-read values a v hv))
    ∙ ap (λ t. agrees truth (holds (true_places values) a) && t) (sym (holds-read chosen a picked hp)))

-- ---- members

pub take_member : {A : Type 0} (xs : List A) (i : ℕ) (x : A) → IsIn x (take i xs) → IsIn x xs
take_member [] zero x h = absurd h
take_member [] (suc i) x h = absurd h
take_member (y ∷ xs) zero x h = absurd h
take_member (y ∷ xs) (suc i) x (inl e) = inl e
take_member (y ∷ xs) (suc i) x (inr h) = inr (take_member xs i x h)

-- ---- what is taken

-- one atom of this truth
pub took : (I : List ℕ) (truth : Bool) (atom r : ℕ) (before now : Option ℕ) → holds I atom ≡ truth → (r ≡ atom) ⊎ (before ≡ Some r) → now ≡ Some r → IsTaken I truth (atom ∷ []) before now
took I truth atom r before now is (inl e) now_is = record {
  one = λ a h. let same : a ≡ r = cc in inr (inl (same ∙ e), subst (λ (b : ℕ). holds I b ≡ truth) (sym (same ∙ e)) is);
  none = λ h. absurd (cc);
}
took I truth atom r before now is (inr e) now_is = record {
  one = λ a h. inl (e ∙ (sym now_is ∙ h));
  none = λ h. absurd (cc);
}

-- one atom of the other truth
pub passed_by : (I : List ℕ) (truth : Bool) (atom : ℕ) (before now : Option ℕ) → holds I atom ≡ not truth → now ≡ before → IsTaken I truth (atom ∷ []) before now
passed_by I truth atom before now is now_is = record {
  one = λ a h. inl (sym now_is ∙ h);
  none = λ h. (sym now_is ∙ h, λ a i. elim i [ inl e ↦ subst (λ (b : ℕ). holds I b ≡ not truth) (sym e) is | inr never ↦ absurd never ]);
}

-- which of both it was is seen at what was read
pub taken_read : (values : List Bool) (truth v : Bool) (atom : ℕ) → slice_get values atom ≡ Some v → beq v truth ≡ true → holds (true_places values) atom ≡ truth
taken_read values truth v atom read h = holds-read values atom v read ∙ agrees_is truth v (sym (beq_agrees v truth) ∙ h)

pub passed_read : (values : List Bool) (truth v : Bool) (atom : ℕ) → slice_get values atom ≡ Some v → beq v truth ≡ false → holds (true_places values) atom ≡ not truth
passed_read values truth v atom read h = holds-read values atom v read ∙ agrees_not truth v (sym (beq_agrees v truth) ∙ h)

taken_then : (I : List ℕ) (truth : Bool) (xs ys : List ℕ) (before middle now : Option ℕ) → IsTaken I truth xs before middle → IsTaken I truth ys middle now → IsTaken I truth (xs ++ ys) before now
taken_then I truth xs ys before middle now first second = record {
  one = λ a h. elim (second.one a h) [
    | inl earlier ↦ elim (first.one a earlier) [
      | inl old ↦ inl old
      | inr here ↦ inr (append_left xs ys a here.0, here.1)
    ]
    | inr here ↦ inr (append_right xs ys a here.0, here.1)
  ];
  none = λ h.
      let late = second.none h in
      let early = first.none late.0 in
      (early.0, λ a i. elim (append_at xs ys a i) [ inl j ↦ early.1 a j | inr j ↦ late.1 a j ]);
}

-- one more atom of a list
pub taken_more : (I : List ℕ) (truth : Bool) (atoms : List ℕ) (i d : ℕ) (before middle now : Option ℕ) → i < length atoms → IsTaken I truth (take i atoms) before middle → IsTaken I truth (get_or atoms i d ∷ []) middle now → IsTaken I truth (take (i + 1) atoms) before now
taken_more I truth atoms i d before middle now h first second =
    subst (λ (xs : List ℕ). IsTaken I truth xs before now) (sym (take_more atoms i d h))
    (taken_then I truth (take i atoms) (get_or atoms i d ∷ []) before middle now first second)

-- what is taken is below a count where all are
pub taken_below : (I : List ℕ) (truth : Bool) (atoms : List ℕ) (count kept : ℕ) (before now : Option ℕ) → kept ≡ count → ((a : ℕ) → before ≡ Some a → a < kept) → are_below count atoms ≡ true
    → IsTaken I truth atoms before now → (a : ℕ) → now ≡ Some a → a < kept
taken_below I truth atoms count kept before now as_many low below taken a h = elim (taken.one a h) [
  | inl old ↦ low a old
  | inr here ↦ omega (arith, ltb-true a count (all_at (λ b. nat_lt b count) atoms a below here.0), as_many)
]

-- of a list so far too
pub taken_below_so_far : (I : List ℕ) (truth : Bool) (atoms : List ℕ) (i count kept : ℕ) (before now : Option ℕ) → kept ≡ count → ((a : ℕ) → before ≡ Some a → a < kept) → are_below count atoms ≡ true
    → IsTaken I truth (take i atoms) before now → (a : ℕ) → now ≡ Some a → a < kept
taken_below_so_far I truth atoms i count kept before now as_many low below taken =
    taken_below I truth (take i atoms) count kept before now as_many low
    (all_from (λ b. nat_lt b count) (take i atoms) (λ b j. all_at (λ c. nat_lt c count) atoms b below (take_member atoms i b j))) taken

pub below_none : (count : ℕ) (a : ℕ) → None ≡ Some a → a < count
below_none count a h = absurd (cc)
