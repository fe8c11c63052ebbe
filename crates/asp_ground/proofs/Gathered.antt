-- Constants that are gathered in their order.
use Rattle.std.proofs.Common.{ℕ, ℤ, zero, suc, ◌≡◌, ◌<◌, ◌≤◌, ◌+◌, refl, sym, ◌∙◌, ap, subst, inl, inr, Bool, true, Result, Ok, Err, List, [], ◌∷◌, ◌++◌, map, take, drop, length, get_or, arith}
use Rattle.std.specs.Prelude.{pos, ◌+ℤ◌, if◌then◌else◌, nat_lt}
use Rattle.std.specs.List.{fold, insert}
use Rattle.std.specs.List.Sorted.{IsBinarySearchResult, IsSearchInRange}
use Rattle.std.specs.Ordering.{is_eq}
use Rattle.std.specs.declared.cmp.Ordering.{Ordering}
use Rattle.std.specs.declared.cmp.Ordering.TheVariants.{Less, Equal, Greater}
use Rattle.std.proofs.lemmas.Bool.{lt-ltb}
use Rattle.std.proofs.lemmas.Cmp.{tied_itself}
use Rattle.std.proofs.lemmas.List.{get_or-map, length-map, map-append}
use Rattle.std.proofs.lemmas.List.Sums.{fold-append}
use Rattle.std.proofs.lemmas.List.Sorted.{searchable_from_sorted}
use Rattle.asp_defs.specs.declared.ground.Const.{Const}
use Rattle.asp_defs.specs.declared.ground.Const.TheVariants as const
use Rattle.asp_defs.specs.Lists.{IsIn}
use Rattle.asp_defs.specs.Constants.{const_cmp, with_member, integers_from}
use Rattle.asp_defs.proofs.Lists.{true_or_false}
use Rattle.asp_atoms.specs.declared.const_refs.ConstRef.{ConstRef}
use Rattle.asp_atoms.specs.declared.const_refs.ConstRef.TheVariants.{Int}
use Rattle.asp_atoms.specs.Ascending.{Ascends}
use Rattle.asp_atoms.specs.ConstRefs.{const_of}
use Rattle.asp_atoms.proofs.Orders.{const_lawful}
use Rattle.asp_atoms.proofs.Ascending.{turned, turned_back, ascends_with}
use Rattle.asp_atoms.proofs.Positions.{ascends_at, sorted, stands}
use Rattle.asp_atoms.proofs.Settled.{is_equal}
use Rattle.asp_atoms.proofs.Integers.{integers_more}
use Rattle.asp_ground.specs.Gaps.{IsAt, Gap, IsPlace, HasAll}
use Rattle.asp_ground.specs.Counts.{with_constant, Gathers}

-- ---- a search that reads copies

abbrev some_ref : ConstRef
some_ref = Int (pos 0)

-- what a search answers is the place of a constant
pub placed : (xs : List ConstRef) → Ascends const_cmp (map const_of xs) → (c : Const) (r : Result ℕ ℕ) → IsSearchInRange r (length xs) → IsBinarySearchResult (λ y. const_cmp (const_of y) c) xs r → IsPlace (map const_of xs) c r
placed xs up c (Ok i) range found =
    let long = length-map xs const_of in record {
      inside = omega (arith, range, long);
      is = λ d. get_or-map const_of xs i some_ref d range ∙ const_lawful.exact (const_of (get_or xs i some_ref)) c (found some_ref);
    }
placed xs up c (Err i) range found =
    let long = length-map xs const_of in
    let parts = found (searchable_from_sorted const_lawful.total const_of xs c (sorted const_lawful const_of xs up)) in record {
      within = omega (arith, range, long);
      below = λ k d h.
          subst (λ (x : Const). const_cmp c x ≡ Greater) (sym (get_or-map const_of xs k some_ref d (omega (arith, h, range))))
          (turned_back const_lawful (const_of (get_or xs k some_ref)) c (parts.0 k some_ref (omega arith) h));
      above = λ k d h l.
          let inside : k < length xs = omega (arith, l, long) in
          subst (λ (x : Const). const_cmp c x ≡ Less) (sym (get_or-map const_of xs k some_ref d inside))
          (turned const_lawful (const_of (get_or xs k some_ref)) c (parts.1 k some_ref h inside));
    }

-- a constant that is read at a place and compares as equal stands there
pub read_at : (xs : List ConstRef) (place : ℕ) (d : ConstRef) (c : Const) (r : Ordering) → place < length xs → r ≡ const_cmp (const_of (get_or xs place d)) c → is_eq r ≡ true → IsAt (map const_of xs) c place
read_at xs place d c r h e same =
    let long = length-map xs const_of in record {
      inside = omega (arith, h, long);
      is = λ x. get_or-map const_of xs place d x h ∙ const_lawful.exact (const_of (get_or xs place d)) c (sym e ∙ is_equal r same);
    }

-- ---- a constant that is put to others

abbrev chosen : {A : Type 0} → Ordering → A → A → List A → List A → List A
chosen o x y ys rest = elim o [
  | Less ↦ x ∷ y ∷ ys
  | Equal ↦ y ∷ ys
  | Greater ↦ y ∷ rest
]

with_gap : (c : Const) (ys : List Const) (place : ℕ) → place ≤ length ys → ((k : ℕ) (d : Const) → k < place → const_cmp c (get_or ys k d) ≡ Greater) → ((k : ℕ) (d : Const) → place ≤ k → k < length ys → const_cmp c (get_or ys k d) ≡ Less) → with_member const_cmp c ys ≡ take place ys ++ c ∷ drop place ys
with_gap c [] zero h below above = refl
with_gap c [] (suc place) h below above = absurd (omega arith)
with_gap c (y ∷ ys) zero h below above =
    ap (λ o. chosen o c y ys (with_member const_cmp c ys)) (above zero c (omega arith) (omega arith))
with_gap c (y ∷ ys) (suc place) h below above =
    ap (λ o. chosen o c y ys (with_member const_cmp c ys)) (below zero c (omega arith))
    ∙ ap (λ zs. y ∷ zs) (with_gap c ys place (omega arith) (λ k d l. below (suc k) d (omega arith)) (λ k d l m. above (suc k) d (omega arith) (omega arith)))

with_there : (c : Const) (ys : List Const) (place : ℕ) (d : Const) → place < length ys → ((k : ℕ) → k < place → const_cmp c (get_or ys k d) ≡ Greater) → const_cmp c (get_or ys place d) ≡ Equal → with_member const_cmp c ys ≡ ys
with_there c [] place d h below e = absurd (omega arith)
with_there c (y ∷ ys) zero d h below e = ap (λ o. chosen o c y ys (with_member const_cmp c ys)) e
with_there c (y ∷ ys) (suc place) d h below e =
    ap (λ o. chosen o c y ys (with_member const_cmp c ys)) (below zero (omega arith))
    ∙ ap (λ zs. y ∷ zs) (with_there c ys place d (omega arith) (λ k l. below (suc k) (omega arith)) e)

map_insert : (xs : List ConstRef) (place : ℕ) (constant : ConstRef) → map const_of (take place xs ++ constant ∷ drop place xs) ≡ take place (map const_of xs) ++ const_of constant ∷ drop place (map const_of xs)
map_insert [] zero constant = refl
map_insert [] (suc place) constant = refl
map_insert (x ∷ xs) zero constant = refl
map_insert (x ∷ xs) (suc place) constant = ap (λ cs. const_of x ∷ cs) (map_insert xs place constant)

abbrev pub roomed : Bool → List Const → Const → List Const
roomed room found c = if room then with_member const_cmp c found else found

pub with_constant_ascends : (found : List Const) (c : Const) → Ascends const_cmp found → Ascends const_cmp (with_constant found c)
with_constant_ascends found c up = elim (true_or_false (nat_lt (length found) 4097)) [
  | inl e ↦ subst (λ (b : Bool). Ascends const_cmp (roomed b found c)) (sym e) (ascends_with const_lawful c found up)
  | inr e ↦ subst (λ (b : Bool). Ascends const_cmp (roomed b found c)) (sym e) up
]

pub inserted : (xs ys : List ConstRef) (constant : ConstRef) (place : ℕ) → Ascends const_cmp (map const_of xs) → Gap (map const_of xs) (const_of constant) place → length xs < 4097 → ys ≡ insert xs place constant → Gathers (map const_of xs) (map const_of ys) (const_of constant ∷ [])
inserted xs ys constant place up gap room is =
    let long = length-map xs const_of in
    let added : map const_of ys ≡ with_constant (map const_of xs) (const_of constant) =
    ap (map const_of) is
    ∙ (map_insert xs place constant
    ∙ (sym (with_gap (const_of constant) (map const_of xs) place gap.within gap.below gap.above)
    ∙ ap (λ b. roomed b (map const_of xs) (const_of constant)) (sym (lt-ltb (length (map const_of xs)) 4097 (omega (arith, long, room)))))) in
    record { added = added; ascending = subst (λ (cs : List Const). Ascends const_cmp cs) (sym added) (with_constant_ascends (map const_of xs) (const_of constant) up) }

either_way : (xs : List Const) (c : Const) → with_member const_cmp c xs ≡ xs → with_constant xs c ≡ xs
either_way xs c same = elim (true_or_false (nat_lt (length xs) 4097)) [
  | inl e ↦ ap (λ b. roomed b xs c) e ∙ same
  | inr e ↦ ap (λ b. roomed b xs c) e
]

there_at : (xs : List Const) (c : Const) (place : ℕ) → Ascends const_cmp xs → place < length xs → get_or xs place c ≡ c → with_member const_cmp c xs ≡ xs
there_at xs c place up h is =
    with_there c xs place c h
    (λ k l. subst (λ (x : Const). const_cmp x (get_or xs k c) ≡ Greater) is (turned_back const_lawful (get_or xs k c) (get_or xs place c) (ascends_at const_cmp xs up k place c l h)))
    (subst (λ (x : Const). const_cmp c x ≡ Equal) (sym is) (tied_itself const_lawful.total c))

pub there : (xs : List Const) (c : Const) → Ascends const_cmp xs → IsIn c xs → Gathers xs xs (c ∷ [])
there xs c up i =
    let found = stands xs c i in
    record { added = sym (either_way xs c (there_at xs c found.at up found.below (found.is c))); ascending = up }

-- the same from its place
pub there_already : (xs : List Const) (c : Const) (place : ℕ) → Ascends const_cmp xs → IsAt xs c place → Gathers xs xs (c ∷ [])
there_already xs c place up found =
    record { added = sym (either_way xs c (there_at xs c place up found.inside (found.is c))); ascending = up }

-- ---- constants that two calls gather

pub none : (old : List Const) → Ascends const_cmp old → Gathers old old []
none old up = record { added = refl; ascending = up }

pub gathers_two : (old middle new : List Const) (xs ys : List Const) → Gathers old middle xs → Gathers middle new ys → Gathers old new (xs ++ ys)
gathers_two old middle new xs ys first second = record {
  added = second.added ∙ (ap (λ cs. fold with_constant cs ys) first.added ∙ sym (fold-append with_constant old xs ys));
  ascending = second.ascending;
}

-- constants that are there already
pub all_there : (old xs : List Const) → Ascends const_cmp old → HasAll old xs → Gathers old old xs
all_there old [] up has = none old up
all_there old (x ∷ xs) up has =
    gathers_two old old old (x ∷ []) xs (there old x up (has x (inl refl))) (all_there old xs up (λ c i. has c (inr i)))

pub gathers_integer : (old now next : List Const) (low : ℤ) (step : ℕ) (x : ℤ) → Gathers old now (map const.Int (integers_from low step)) → Gathers now next (const.Int x ∷ []) → x ≡ low +ℤ pos step → Gathers old next (map const.Int (integers_from low (step + 1)))
gathers_integer old now next low step x so_far added is =
    subst (λ (cs : List Const). Gathers old next cs)
    (ap (λ (y : ℤ). map const.Int (integers_from low step) ++ const.Int y ∷ []) is
    ∙ sym (ap (map const.Int) (integers_more low step) ∙ map-append const.Int (integers_from low step) ((low +ℤ pos step) ∷ [])))
    (gathers_two old now next (map const.Int (integers_from low step)) (const.Int x ∷ []) so_far added)
