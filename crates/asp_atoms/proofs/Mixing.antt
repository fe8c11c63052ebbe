-- Constants as integers and symbols: what is distinct among them.
use Rattle.std.proofs.Common.{ℕ, ◌≡◌, refl, sym, ◌∙◌, ap, subst, inl, inr, List, [], ◌∷◌, ◌++◌, map, append-nil, ℤ, arith}
use Rattle.std.specs.List.{flat_map}
use Rattle.std.specs.Ordering.{nat_cmp, int_cmp}
use Rattle.std.specs.declared.cmp.Ordering.TheVariants.{Less}
use Rattle.std.specs.Cmp.Lexicographic.{slice_cmp}
use Rattle.std.proofs.lemmas.Int.{ints}
use Rattle.std.proofs.lemmas.List.Concat.{flat_map-append}
use Rattle.asp_defs.specs.declared.ground.Const.{Const}
use Rattle.asp_defs.specs.declared.ground.Const.TheVariants as const
use Rattle.asp_defs.specs.declared.syntax.Term.{Term}
use Rattle.asp_defs.specs.declared.syntax.Term.TheVariants.{Int, Sym, Var, Anon, Range}
use Rattle.asp_defs.specs.declared.syntax.Rule.{Rule}
use Rattle.asp_defs.specs.Lists.{IsIn}
use Rattle.asp_defs.specs.Constants.{const_cmp, distinct, integers_from, interval_length, interval, term_constants, rule_constants}
use Rattle.asp_defs.proofs.Lists.{append_at, append_left, append_right, map_at, map_from}
use Rattle.asp_atoms.specs.declared.intervals.Interval.{Interval}
use Rattle.asp_atoms.specs.Ascending.{Ascends}
use Rattle.asp_walk.specs.Written.{rule_terms}
use Rattle.asp_atoms.specs.Universes.{integers, integers_of, term_intervals, term_symbols, as_constants}
use Rattle.asp_atoms.proofs.Orders.{int_lawful, bytes_lawful, const_lawful}
use Rattle.asp_atoms.proofs.Ascending.{SameMembers, ascends_distinct, ascends_append, ascends_map, distinct_is, in_distinct, distinct_from}
use Rattle.asp_atoms.proofs.Integers.{ends}
use Rattle.asp_walk.proofs.Reading.{rules_constants_are}

-- ---- members of integers and symbols

data Kind (zs : List ℤ) (names : List (List ℕ)) (c : Const) : Type 0 where
  OneInt : (z : ℤ) → IsIn z zs → c ≡ const.Int z → Kind zs names c
  OneSym : (s : List ℕ) → IsIn s names → c ≡ const.Sym s → Kind zs names c

kind : (zs : List ℤ) (names : List (List ℕ)) (c : Const) → IsIn c (as_constants zs names) → Kind zs names c
kind zs names c i = elim (append_at (map const.Int zs) (map const.Sym names) c i) [
  | inl j ↦ let found = map_at const.Int zs c j in OneInt found.0 found.1 found.2
  | inr j ↦ let found = map_at const.Sym names c j in OneSym found.0 found.1 found.2
]

of_kind : (zs : List ℤ) (names : List (List ℕ)) (c : Const) → Kind zs names c → IsIn c (as_constants zs names)
of_kind zs names c (OneInt z i e) =
    append_left (map const.Int zs) (map const.Sym names) c
    (subst (λ d. IsIn d (map const.Int zs)) (sym e) (map_from const.Int zs z i))
of_kind zs names c (OneSym s i e) =
    append_right (map const.Int zs) (map const.Sym names) c
    (subst (λ d. IsIn d (map const.Sym names)) (sym e) (map_from const.Sym names s i))

same_refl : (xs ys : List Const) → xs ≡ ys → SameMembers xs ys
same_refl xs ys e = record { whole = λ c i. subst (λ l. IsIn c l) e i; within = λ c i. subst (λ l. IsIn c l) (sym e) i }

-- two lists in a row
same_rows : (xs ys : List Const) (zs us : List ℤ) (names more : List (List ℕ)) → SameMembers xs (as_constants zs names) → SameMembers ys (as_constants us more) → SameMembers (xs ++ ys) (as_constants (zs ++ us) (names ++ more))
same_rows xs ys zs us names more first second = record {
  whole = λ c i. elim (append_at xs ys c i) [
    | inl j ↦ of_kind (zs ++ us) (names ++ more) c (left c (kind zs names c (first.whole c j)))
    | inr j ↦ of_kind (zs ++ us) (names ++ more) c (right c (kind us more c (second.whole c j)))
  ];
  within = λ c i. back c (kind (zs ++ us) (names ++ more) c i);
}
  where
    left : (c : Const) → Kind zs names c → Kind (zs ++ us) (names ++ more) c
    left c (OneInt z i e) = OneInt z (append_left zs us z i) e
    left c (OneSym s i e) = OneSym s (append_left names more s i) e

    right : (c : Const) → Kind us more c → Kind (zs ++ us) (names ++ more) c
    right c (OneInt z i e) = OneInt z (append_right zs us z i) e
    right c (OneSym s i e) = OneSym s (append_right names more s i) e

    back : (c : Const) → Kind (zs ++ us) (names ++ more) c → IsIn c (xs ++ ys)
    back c (OneInt z i e) = elim (append_at zs us z i) [
      | inl j ↦ append_left xs ys c (first.within c (of_kind zs names c (OneInt z j e)))
      | inr j ↦ append_right xs ys c (second.within c (of_kind us more c (OneInt z j e)))
    ]
    back c (OneSym s i e) = elim (append_at names more s i) [
      | inl j ↦ append_left xs ys c (first.within c (of_kind zs names c (OneSym s j e)))
      | inr j ↦ append_right xs ys c (second.within c (of_kind us more c (OneSym s j e)))
    ]

-- ---- the constants of terms

one_integer : (x : ℤ) → interval x x ≡ x ∷ []
one_integer x =
    let e = ends x x (omega (arith, ints)) in
    let one : interval_length x x ≡ 1 = omega (arith, ints, e) in
    ap (integers_from x) one

term_is : (t : Term) → term_constants t ≡ as_constants (integers_of (term_intervals t)) (term_symbols t)
term_is (Int x) = sym (ap (λ zs. as_constants (zs ++ []) []) (one_integer x))
term_is (Sym s) = refl
term_is (Var v) = refl
term_is (Anon k) = refl
term_is (Range low high) =
    sym (append-nil (map const.Int (interval low high ++ [])) ∙ ap (map const.Int) (append-nil (interval low high)))

terms_are : (ts : List Term) → SameMembers (flat_map term_constants ts) (as_constants (integers_of (flat_map term_intervals ts)) (flat_map term_symbols ts))
terms_are [] = same_refl [] [] refl
terms_are (t ∷ ts) =
    let parts : integers_of (term_intervals t ++ flat_map term_intervals ts) ≡ integers_of (term_intervals t) ++ integers_of (flat_map term_intervals ts) =
    flat_map-append integers (term_intervals t) (flat_map term_intervals ts) in
    subst (λ zs. SameMembers (term_constants t ++ flat_map term_constants ts) (as_constants zs (term_symbols t ++ flat_map term_symbols ts))) (sym parts)
    (same_rows (term_constants t) (flat_map term_constants ts) (integers_of (term_intervals t)) (integers_of (flat_map term_intervals ts)) (term_symbols t) (flat_map term_symbols ts)
    (same_refl (term_constants t) (as_constants (integers_of (term_intervals t)) (term_symbols t)) (term_is t)) (terms_are ts))

-- ---- distinct constants

apart : (zs : List ℤ) (names : List (List ℕ)) (a b : Const) → IsIn a (map const.Int zs) → IsIn b (map const.Sym names) → const_cmp a b ≡ Less
apart zs names a b i j =
    let x = map_at const.Int zs a i in
    let s = map_at const.Sym names b j in
    ap (λ c. const_cmp c b) x.2 ∙ ap (const_cmp (const.Int x.0)) s.2

ascends_constants : (zs : List ℤ) (names : List (List ℕ)) → Ascends int_cmp zs → Ascends (slice_cmp nat_cmp) names → Ascends const_cmp (as_constants zs names)
ascends_constants zs names up rise =
    ascends_append const_lawful (map const.Int zs) (map const.Sym names)
    (ascends_map int_cmp const_cmp const.Int zs (λ x y i j h. h) up)
    (ascends_map (slice_cmp nat_cmp) const_cmp const.Sym names (λ x y i j h. h) rise)
    (apart zs names)

distinct_kinds : (zs : List ℤ) (names : List (List ℕ)) (c : Const) → Kind zs names c → Kind (distinct int_cmp zs) (distinct (slice_cmp nat_cmp) names) c
distinct_kinds zs names c (OneInt z i e) = OneInt z (distinct_from int_lawful zs z i) e
distinct_kinds zs names c (OneSym s i e) = OneSym s (distinct_from bytes_lawful names s i) e

kinds_distinct : (zs : List ℤ) (names : List (List ℕ)) (c : Const) → Kind (distinct int_cmp zs) (distinct (slice_cmp nat_cmp) names) c → Kind zs names c
kinds_distinct zs names c (OneInt z i e) = OneInt z (in_distinct int_lawful zs z i) e
kinds_distinct zs names c (OneSym s i e) = OneSym s (in_distinct bytes_lawful names s i) e

mixed : (xs : List Const) (zs : List ℤ) (names : List (List ℕ)) → SameMembers xs (as_constants zs names) → as_constants (distinct int_cmp zs) (distinct (slice_cmp nat_cmp) names) ≡ distinct const_cmp xs
mixed xs zs names same =
    distinct_is const_lawful xs (as_constants (distinct int_cmp zs) (distinct (slice_cmp nat_cmp) names))
    (ascends_constants (distinct int_cmp zs) (distinct (slice_cmp nat_cmp) names) (ascends_distinct int_lawful zs) (ascends_distinct bytes_lawful names))
    (record {
      whole = λ c i. of_kind (distinct int_cmp zs) (distinct (slice_cmp nat_cmp) names) c (distinct_kinds zs names c (kind zs names c (same.whole c i)));
      within = λ c i. same.within c (of_kind zs names c (kinds_distinct zs names c (kind (distinct int_cmp zs) (distinct (slice_cmp nat_cmp) names) c i)));
    })

-- constants with those of further rules, their integers and symbols each for themselves
pub joined : (before : List Interval) (names : List (List ℕ)) (rules : List Rule) (zs : List ℤ) (symbols : List (List ℕ)) → zs ≡ distinct int_cmp (integers_of (before ++ flat_map term_intervals (flat_map rule_terms rules))) → symbols ≡ distinct (slice_cmp nat_cmp) (names ++ flat_map term_symbols (flat_map rule_terms rules)) → as_constants zs symbols ≡ distinct const_cmp (as_constants (integers_of before) names ++ flat_map rule_constants rules)
joined before names rules zs symbols integral symbolic =
    let ts = flat_map rule_terms rules in
    let parts : integers_of (before ++ flat_map term_intervals ts) ≡ integers_of before ++ integers_of (flat_map term_intervals ts) = flat_map-append integers before (flat_map term_intervals ts) in
    let same : SameMembers (as_constants (integers_of before) names ++ flat_map term_constants ts) (as_constants (integers_of before ++ integers_of (flat_map term_intervals ts)) (names ++ flat_map term_symbols ts)) =
    same_rows (as_constants (integers_of before) names) (flat_map term_constants ts) (integers_of before) (integers_of (flat_map term_intervals ts)) names (flat_map term_symbols ts)
    (same_refl (as_constants (integers_of before) names) (as_constants (integers_of before) names) refl) (terms_are ts) in
    ap (λ l. as_constants l symbols) (integral ∙ ap (distinct int_cmp) parts)
    ∙ (ap (as_constants (distinct int_cmp (integers_of before ++ integers_of (flat_map term_intervals ts)))) symbolic
    ∙ (mixed (as_constants (integers_of before) names ++ flat_map term_constants ts) (integers_of before ++ integers_of (flat_map term_intervals ts)) (names ++ flat_map term_symbols ts) same
    ∙ ap (λ l. distinct const_cmp (as_constants (integers_of before) names ++ l)) (rules_constants_are rules)))
