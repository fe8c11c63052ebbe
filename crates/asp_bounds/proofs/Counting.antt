-- Which terms of a bound count in an interpretation, and which atoms are counted.
use Rattle.std.proofs.Common.{ℕ, ◌<◌, ◌≡◌, refl, sym, ◌∙◌, ap, subst, inl, inr, Bool, true, false, not, ◌&&◌, ◌==◌, None, Some, Option, is_some, List, ◌++◌, nat_lt, MatchOption}
use Rattle.std.specs.List.{list_any, list_all, find, flat_map}
use Rattle.std.proofs.lemmas.Bool.{ltb-true, eqb-true, eq-eqb}
use Rattle.std.proofs.lemmas.List.Folds.{list_all-append}
use Rattle.asp_defs.specs.declared.ground.Bound.{Bound}
use Rattle.asp_defs.specs.declared.ground.Counted.{Counted}
use Rattle.asp_defs.specs.declared.ground.Lit.{Lit}
use Rattle.asp_defs.specs.Bounds.{counts, counted_atoms, term_atoms, bound_atoms}
use Rattle.asp_defs.specs.Interpretations.{holds}
use Rattle.asp_defs.specs.Lists.{IsIn}
use Rattle.asp_defs.specs.Truth.{literals_true}
use Rattle.asp_defs.proofs.Lists.{both, and_true, not_true, all_at, all_from, any_at, any_from, filter_at, filter_from, append_left, append_right, flat_map_from}
use Rattle.asp_defs.proofs.Subsets.{true_is_not_false, holds_at, holds_from}
use Rattle.asp_reduct.specs.Bounds.{are_below, is_term_below, is_bound_below}
use Rattle.asp_reduct.proofs.Truths.{none-any}
use Rattle.asp_reduct.proofs.Finding.{found_at, none_found, all_pass}
use Rattle.asp_bounds.specs.Terms.{literal, is_counted, IsReason}

pub false_from : (b : Bool) → (b ≡ true → ⊥) → b ≡ false
false_from true h = absurd (h refl)
false_from false h = refl

-- a literal that an atom is false, where that is false
pub denied_false : (b : Bool) → not b ≡ false → b ≡ true
denied_false true h = refl
denied_false false h = absurd (cc)

-- ---- atoms below a count

below-append : (n : ℕ) (xs ys : List ℕ) → are_below n (xs ++ ys) ≡ true → (are_below n xs ≡ true) × (are_below n ys ≡ true)
below-append n xs ys h = both (are_below n xs) (are_below n ys) (sym (list_all-append (λ a. nat_lt a n) xs ys) ∙ h)

pub term-atom : (n : ℕ) (c : Counted) → is_term_below n c ≡ true → c.atom < n
term-atom n c h = ltb-true c.atom n ((both (nat_lt c.atom n) (are_below n (c.pos ++ c.neg)) h).0)

pub term-pos : (n : ℕ) (c : Counted) (xs : List ℕ) → xs ≡ c.pos → is_term_below n c ≡ true → are_below n xs ≡ true
term-pos n c xs e h = ap (are_below n) e ∙ (below-append n c.pos c.neg ((both (nat_lt c.atom n) (are_below n (c.pos ++ c.neg)) h).1)).0

pub term-neg : (n : ℕ) (c : Counted) (xs : List ℕ) → xs ≡ c.neg → is_term_below n c ≡ true → are_below n xs ≡ true
term-neg n c xs e h = ap (are_below n) e ∙ (below-append n c.pos c.neg ((both (nat_lt c.atom n) (are_below n (c.pos ++ c.neg)) h).1)).1

pub bound-pos : (n : ℕ) (b : Bound) (xs : List ℕ) → xs ≡ b.pos → is_bound_below n b ≡ true → are_below n xs ≡ true
bound-pos n b xs e h = ap (are_below n) e ∙ (below-append n b.pos (b.neg ++ flat_map term_atoms b.counted) h).0

pub bound-neg : (n : ℕ) (b : Bound) (xs : List ℕ) → xs ≡ b.neg → is_bound_below n b ≡ true → are_below n xs ≡ true
bound-neg n b xs e h =
    ap (are_below n) e
    ∙ (below-append n b.neg (flat_map term_atoms b.counted) ((below-append n b.pos (b.neg ++ flat_map term_atoms b.counted) h).1)).0

pub bound-term : (n : ℕ) (b : Bound) (c : Counted) → IsIn c b.counted → is_bound_below n b ≡ true → is_term_below n c ≡ true
bound-term n b c member h =
    let rest = (below-append n b.neg (flat_map term_atoms b.counted) ((below-append n b.pos (b.neg ++ flat_map term_atoms b.counted) h).1)).1 in
    all_from (λ a. nat_lt a n) (term_atoms c) (λ a i.
    all_at (λ x. nat_lt x n) (flat_map term_atoms b.counted) a rest (flat_map_from term_atoms b.counted c a member i))

-- ---- atoms of a bound

pub pos-inside : (b : Bound) (a : ℕ) → IsIn a b.pos → IsIn a (bound_atoms b)
pos-inside b a i = append_left b.pos (b.neg ++ flat_map term_atoms b.counted) a i

pub neg-inside : (b : Bound) (a : ℕ) → IsIn a b.neg → IsIn a (bound_atoms b)
neg-inside b a i =
    append_right b.pos (b.neg ++ flat_map term_atoms b.counted) a (append_left b.neg (flat_map term_atoms b.counted) a i)

pub term-inside : (b : Bound) (c : Counted) (a : ℕ) → IsIn c b.counted → IsIn a (term_atoms c) → IsIn a (bound_atoms b)
term-inside b c a member i =
    append_right b.pos (b.neg ++ flat_map term_atoms b.counted) a
    (append_right b.neg (flat_map term_atoms b.counted) a (flat_map_from term_atoms b.counted c a member i))

-- ---- terms that count

pub record CountedParts (N : List ℕ) (c : Counted) : Type 0 where
  pub atom : holds N c.atom ≡ true
  pub pos_true : list_all (holds N) c.pos ≡ true
  pub neg_false : list_all (λ a. not (holds N a)) c.neg ≡ true

pub counted_at : (N : List ℕ) (c : Counted) → is_counted N c ≡ true → CountedParts N c
counted_at N c h =
    let one = both (holds N c.atom) (literals_true N c.pos c.neg) h in
    let two = both (list_all (holds N) c.pos) (list_all (λ a. not (holds N a)) c.neg) one.1 in
    record { atom = one.0; pos_true = two.0; neg_false = two.1 }

pub counted_from : (N : List ℕ) (c : Counted) → holds N c.atom ≡ true → list_all (holds N) c.pos ≡ true
    → list_all (λ a. not (holds N a)) c.neg ≡ true → is_counted N c ≡ true
counted_from N c atom p n =
    and_true (holds N c.atom) (literals_true N c.pos c.neg) atom
    (and_true (list_all (holds N) c.pos) (list_all (λ a. not (holds N a)) c.neg) p n)

pub reason-atom : (I : List ℕ) (c : Counted) → holds I c.atom ≡ false → IsReason I c (literal true c.atom)
reason-atom I c h = record {
  false_here = h;
  atom = inl refl;
  stops = λ N f. false_from (is_counted N c) (λ t. true_is_not_false (holds N c.atom) ((counted_at N c t).atom) f);
}

pub reason-pos : (I : List ℕ) (c : Counted) (xs : List ℕ) (a : ℕ) → xs ≡ c.pos → Some a ≡ find (λ b. not (holds I b)) xs
    → IsReason I c (literal true a)
reason-pos I c xs a e h =
    let found = found_at (λ b. not (holds I b)) xs a h in
    let member : IsIn a c.pos = subst (λ (ys : List ℕ). IsIn a ys) e found.0 in
    record {
      false_here = not_true (holds I a) found.1;
      atom = inr (append_left c.pos c.neg a member);
      stops = λ N f.
          false_from (is_counted N c) (λ t. true_is_not_false (holds N a) (all_at (holds N) c.pos a ((counted_at N c t).pos_true) member) f);
    }

pub reason-neg : (I : List ℕ) (c : Counted) (xs : List ℕ) (a : ℕ) → xs ≡ c.neg → Some a ≡ find (holds I) xs
    → IsReason I c (literal false a)
reason-neg I c xs a e h =
    let found = found_at (holds I) xs a h in
    let member : IsIn a c.neg = subst (λ (ys : List ℕ). IsIn a ys) e found.0 in
    record {
      false_here = ap not found.1;
      atom = inr (append_right c.pos c.neg a member);
      stops = λ N f.
          false_from (is_counted N c) (λ t.
          true_is_not_false (holds N a) (denied_false (holds N a) f)
          (not_true (holds N a) (all_at (λ b. not (holds N b)) c.neg a ((counted_at N c t).neg_false) member)));
    }

pub counted_without : (I : List ℕ) (c : Counted) (ps ns : List ℕ) → holds I c.atom ≡ true → ps ≡ c.pos → ns ≡ c.neg
    → None ≡ find (λ b. not (holds I b)) ps → None ≡ find (holds I) ns → is_counted I c ≡ true
counted_without I c ps ns atom ps_is ns_is no_false no_true =
    counted_from I c atom (ap (list_all (holds I)) (sym ps_is) ∙ all_pass (holds I) ps no_false)
    (ap (list_all (λ a. not (holds I a))) (sym ns_is) ∙ none_found (holds I) ns no_true)

pub counted-is : (I : List ℕ) (c : Counted) (r : Option Lit) (t : Bool) → MatchOption r (is_counted I c ≡ true) (IsReason I c)
    → is_some r ≡ not t → t ≡ is_counted I c
counted-is I c None true h e = sym h
counted-is I c None false h e = absurd (cc)
counted-is I c (Some l) true h e = absurd (cc)
counted-is I c (Some l) false h e = sym (h.stops I h.false_here)

-- ---- bodies

none_is : {X : Type 0} (o : Option X) (t : Bool) → is_some o ≡ not t → t ≡ true → None ≡ o
none_is None t e h = refl
none_is (Some x) t e h = absurd (cc)

pub body-then : (I : List ℕ) (b : Bound) (ps ns : List ℕ) (found : Option ℕ) (t any : Bool) → ps ≡ b.pos → ns ≡ b.neg
    → found ≡ find (λ a. not (holds I a)) ps → is_some found ≡ not t → t ≡ true → any ≡ list_any (holds I) ns
    → not any ≡ literals_true I b.pos b.neg
body-then I b ps ns found t any ps_is ns_is is e h any_is =
    ap not (any_is ∙ ap (list_any (holds I)) ns_is) ∙ (none-any I b.neg
    ∙ ap (λ s. s && list_all (λ a. not (holds I a)) b.neg)
    (sym (ap (list_all (holds I)) (sym ps_is) ∙ all_pass (holds I) ps (none_is found t e h ∙ is))))

pub body-else : (I : List ℕ) (b : Bound) (ps : List ℕ) (found : Option ℕ) (t : Bool) → ps ≡ b.pos
    → found ≡ find (λ a. not (holds I a)) ps → is_some found ≡ not t → t ≡ false → t ≡ literals_true I b.pos b.neg
body-else I b ps None t ps_is is e h = absurd (cc)
body-else I b ps (Some a) t ps_is is e h =
    let found = found_at (λ x. not (holds I x)) ps a is in
    h ∙ sym (false_from (literals_true I b.pos b.neg) (λ s.
    true_is_not_false (holds I a)
    (all_at (holds I) b.pos a ((both (list_all (holds I) b.pos) (list_all (λ x. not (holds I x)) b.neg) s).0)
    (subst (λ (ys : List ℕ). IsIn a ys) ps_is found.0))
    (not_true (holds I a) found.1)))

-- ---- counted atoms

pub in_counted_from : (N : List ℕ) (b : Bound) (c : Counted) → IsIn c b.counted → is_counted N c ≡ true → IsIn c.atom (counted_atoms N b)
in_counted_from N b c member h =
    let parts = both (holds N c.atom) (literals_true N c.pos c.neg) h in
    filter_from (λ a. list_any (counts N a) b.counted) N c.atom (holds_at N c.atom parts.0)
    (any_from (counts N c.atom) b.counted c member
    (and_true (c.atom == c.atom) (literals_true N c.pos c.neg) (eq-eqb c.atom c.atom refl) parts.1))

pub record Counting (N : List ℕ) (b : Bound) (a : ℕ) : Type 0 where
  pub term : Counted
  pub member : IsIn term b.counted
  pub its_atom : term.atom ≡ a
  pub does : is_counted N term ≡ true

pub in_counted_at : (N : List ℕ) (b : Bound) (a : ℕ) → IsIn a (counted_atoms N b) → Counting N b a
in_counted_at N b a i =
    let found = filter_at (λ x. list_any (counts N x) b.counted) N a i in
    let term = any_at (counts N a) b.counted found.1 in
    let parts = both (term.0.atom == a) (literals_true N term.0.pos term.0.neg) term.2 in
    let same : term.0.atom ≡ a = eqb-true term.0.atom a parts.0 in
    record {
      term = term.0;
      member = term.1;
      its_atom = same;
      does = and_true (holds N term.0.atom) (literals_true N term.0.pos term.0.neg) (ap (holds N) same ∙ holds_from N a found.0) parts.1;
    }
