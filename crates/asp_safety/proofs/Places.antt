-- An index of links: how it grows, and how the links from a variable are followed by it.
use Rattle.std.proofs.Common.{ℕ, zero, suc, ◌≡◌, ◌⊎◌, ◌+◌, ◌<◌, ◌≤◌, refl, sym, ◌∙◌, ap, subst, inl, inr, Bool, true, false, cond, List, [], ◌∷◌, ◌++◌, length, get_or, drop, Option, Some, None, arith, length-append}
use Rattle.std.specs.Prelude.{IfSome}
use Rattle.std.specs.Map.{lookup}
use Rattle.std.proofs.lemmas.Bool.{cases_lt}
use Rattle.asp_defs.specs.declared.syntax.Term.{Term}
use Rattle.asp_defs.specs.Lists.{IsIn}
use Rattle.asp_defs.specs.Instances.{same_variable}
use Rattle.asp_defs.proofs.Lists.{true_or_false}
use Rattle.asp_defs.proofs.TextRefutations.{clash}
use Rattle.asp_safety.specs.declared.variable.Variable.{Variable}
use Rattle.asp_safety.specs.contracts.variable.VariablePartialEq.TheImpl.{eq-value}
use Rattle.std.proofs.lemmas.List.{length-map, get_or_default}
use Rattle.asp_safety.specs.declared.bindings.Link.{Link}
use Rattle.asp_safety.specs.Bindings.{link_of, links_of}
use Rattle.asp_safety.specs.Variables.{term_of}
use Rattle.asp_safety.specs.Closure.{Settles, Follows}
use Rattle.asp_safety.specs.Index.{reach, nowhere, link_at, source, IsLast, last_of, IsIndexOf}
use Rattle.asp_defs.proofs.SafetyLaws.{equal}
use Rattle.asp_safety.proofs.Members.{itself}
use Rattle.asp_safety.proofs.Sets.{eq_is}
use Rattle.asp_safety.proofs.Spreading.{follows_none, follows_more}
use Rattle.asp_walk.proofs.Lists.{get_is_in}

-- a look-up by `==` is one by terms
pub lookup_is : (entries : List (Variable × ℕ)) (v : Variable) → lookup ((eq-value).it v) entries ≡ last_of entries (term_of v)
lookup_is [] v = refl
lookup_is (e ∷ entries) v =
    ap (λ b. cond b (Some e.1) (lookup ((eq-value).it v) entries)) (eq_is v e.0)
    ∙ ap (λ o. cond (same_variable (term_of v) (term_of e.0)) (Some e.1) o) (lookup_is entries v)

-- ---- the index grows

get_front : {A : Type 0} (xs : List A) (y : A) (k : ℕ) (d : A) → k < length xs → get_or (xs ++ y ∷ []) k d ≡ get_or xs k d
get_front [] y k d h = absurd (omega arith)
get_front (x ∷ xs) y zero d h = refl
get_front (x ∷ xs) y (suc k) d h = get_front xs y k d (omega arith)

pub get_seam : {A : Type 0} (xs : List A) (y d : A) → get_or (xs ++ y ∷ []) (length xs) d ≡ y
get_seam [] y d = refl
get_seam (x ∷ xs) y d = get_seam xs y d

-- the link behind the first ones is from the variable
last_new : (links : List (Term × Term)) (i : ℕ) (u : Term) → source links i ≡ u → IsLast links (i + 1) u (Some i)
last_new links i u e = record {
  below = omega arith;
  behind = λ k h j same. absurd (omega arith);
  from = e;
}

-- the link behind the first ones is from another variable
last_kept : (links : List (Term × Term)) (i : ℕ) (u : Term) (at : Option ℕ) → (source links i ≡ u → ⊥) → IsLast links i u at → IsLast links (i + 1) u at
last_kept links i u at other old = record {
  below = let b = old.below in omega arith;
  behind = λ k h j same. elim (cases_lt k i) [
    | inl lower ↦ old.behind k h lower same
    | inr higher ↦ let e : k ≡ i = omega arith in other (subst (λ n. source links n ≡ u) e same)
  ];
  from = old.from;
}

pub index_none : (links : List (Term × Term)) → IsIndexOf links 0 [] []
index_none links = record {
  whole = refl;
  last = λ v. record { below = omega arith; behind = λ k h j same. absurd (omega arith); from = tt };
  before = λ k h. absurd (omega arith);
}

pub index_more : (links : List (Term × Term)) (i : ℕ) (entries more : List (Variable × ℕ)) (previous : List (Option ℕ)) (v : Variable) (at : Option ℕ) → IsIndexOf links i entries previous → source links i ≡ term_of v → at ≡ lookup ((eq-value).it v) entries → ((q : Variable) → lookup ((eq-value).it q) more ≡ cond ((eq-value).it v q) (Some i) (lookup ((eq-value).it q) entries)) → IsIndexOf links (i + 1) more (previous ++ at ∷ [])
index_more links i entries more previous v at index here was updates = record {
  whole = let long = length-append previous (at ∷ []) in let old = index.whole in omega arith;
  last = λ q. go q (true_or_false (same_variable (term_of v) (term_of q)));
  before = λ k h. elim (cases_lt k i) [
    | inl lower ↦
        subst (λ o. IsLast links k (source links k) o)
        (sym (get_front previous at k None (let w = index.whole in omega arith))) (index.before k lower)
    | inr higher ↦
        let e : k ≡ i = omega arith in
        subst (λ n. IsLast links n (source links n) (get_or (previous ++ at ∷ []) n None)) (sym e) seam
  ];
}
  where
    now : (q : Variable) (b : Bool) → same_variable (term_of v) (term_of q) ≡ b → last_of more (term_of q) ≡ cond b (Some i) (last_of entries (term_of q))
    now q b e =
        sym (lookup_is more q)
        ∙ (updates q
        ∙ (ap (λ c. cond c (Some i) (lookup ((eq-value).it q) entries)) (eq_is v q ∙ e)
        ∙ ap (λ o. cond b (Some i) o) (lookup_is entries q)))

    go : (q : Variable) → (same_variable (term_of v) (term_of q) ≡ true) ⊎ (same_variable (term_of v) (term_of q) ≡ false) → IsLast links (i + 1) (term_of q) (last_of more (term_of q))
    go q (inl e) =
        subst (λ o. IsLast links (i + 1) (term_of q) o) (sym (now q true e))
        (last_new links i (term_of q) (here ∙ equal (term_of v) (term_of q) e))
    go q (inr e) =
        subst (λ o. IsLast links (i + 1) (term_of q) o) (sym (now q false e))
        (last_kept links i (term_of q) (last_of entries (term_of q))
        (λ same. clash (sym e ∙ subst (λ w. same_variable w (term_of q) ≡ true) (sym same ∙ here) (itself q)))
        (index.last q))

    seam : IsLast links i (source links i) (get_or (previous ++ at ∷ []) i None)
    seam =
        subst (λ n. IsLast links i (source links i) (get_or (previous ++ at ∷ []) n None)) index.whole
        (subst (λ o. IsLast links i (source links i) o) (sym (get_seam previous at None))
        (subst (λ u. IsLast links i u at) (sym here) (subst (λ o. IsLast links i (term_of v) o) (sym (was ∙ lookup_is entries v)) (index.last v))))

-- ---- the links from a variable

-- a member behind a place stands at one
in_drop : {A : Type 0} (xs : List A) (b : ℕ) (x d : A) → IsIn x (drop b xs) → (k : ℕ) × (b ≤ k) × (k < length xs) × (get_or xs k d ≡ x)
in_drop [] zero x d i = absurd i
in_drop [] (suc b) x d i = absurd i
in_drop (y ∷ xs) zero x d (inl e) = (0, omega arith, omega arith, sym e)
in_drop (y ∷ xs) zero x d (inr i) =
    let found = in_drop xs zero x d i in (suc found.0, omega arith, (let h = found.2 in omega arith), found.3)
in_drop (y ∷ xs) (suc b) x d i =
    let found = in_drop xs b x d i in (suc found.0, (let h = found.1 in omega arith), (let h = found.2 in omega arith), found.3)

drop_in : {A : Type 0} (xs : List A) (b k : ℕ) (d : A) → b ≤ k → k < length xs → IsIn (get_or xs k d) (drop b xs)
drop_in [] b k d h l = absurd (omega arith)
drop_in (x ∷ xs) zero k d h l = get_is_in (x ∷ xs) k d l
drop_in (x ∷ xs) (suc b) zero d h l = absurd (omega arith)
drop_in (x ∷ xs) (suc b) (suc k) d h l = drop_in xs b k d (omega arith) (omega arith)

pub follows_start : (links : List (Term × Term)) (u : Term) (S Q : List Term) (at : Option ℕ) → IsLast links (length links) u at → Follows links (drop (reach at) links) u S S Q Q
follows_start links u S Q at last =
    follows_none links (drop (reach at) links) u S Q
    (λ v i. let found = in_drop links (reach at) (u, v) nowhere i in
    last.behind found.0 found.1 found.2 (ap (λ (l : Term × Term). l.0) found.3))

pub follows_place : (links : List (Term × Term)) (u : Term) (place : ℕ) (before : Option ℕ) (S T V Q R W : List Term) → place < length links → source links place ≡ u → IsLast links place (source links place) before → same_variable (link_at links place).1 (link_at links place).1 ≡ true → Follows links (drop (place + 1) links) u S T Q R → Settles (link_at links place).1 T V R W → Follows links (drop (reach before) links) u S V Q W
follows_place links u place before S T V Q R W h from last same f s =
    follows_more links (drop (place + 1) links) (drop (reach before) links) (link_at links place) u S T V Q R W f
    (get_is_in links place nowhere h) same from new s
  where
    at : (v : Term) (k : ℕ) → reach before ≤ k → k < length links → link_at links k ≡ (u, v) → (k < place) ⊎ (place ≤ k) → IsIn (u, v) (drop (place + 1) links) ⊎ (v ≡ (link_at links place).1)
    at v k low high e (inl lower) =
        absurd (last.behind k low lower (ap (λ (l : Term × Term). l.0) e ∙ sym from))
    at v k low high e (inr higher) = elim (cases_lt place k) [
      | inl above ↦
          inl (subst (λ (l : Term × Term). IsIn l (drop (place + 1) links)) e (drop_in links (place + 1) k nowhere (omega arith) high))
      | inr below ↦
          let here : place ≡ k = omega arith in
          inr (sym (ap (λ n. (link_at links n).1) here ∙ ap (λ (l : Term × Term). l.1) e))
    ]

    new : (v : Term) → IsIn (u, v) (drop (reach before) links) → IsIn (u, v) (drop (place + 1) links) ⊎ (v ≡ (link_at links place).1)
    new v i =
        let found = in_drop links (reach before) (u, v) nowhere i in
        at v found.0 found.1 found.2 found.3 (cases_lt found.0 place)

-- ---- the links of the checker

get_map : (ls : List Link) (i : ℕ) (d : Link) → i < length ls → link_at (links_of ls) i ≡ link_of (get_or ls i d)
get_map [] i d h = absurd (omega arith)
get_map (l ∷ ls) zero d h = refl
get_map (l ∷ ls) (suc i) d h = get_map ls i d (omega arith)

pub index_step : (ls : List Link) (i : ℕ) (d : Link) → i < length ls → (entries more : List (Variable × ℕ)) (previous : List (Option ℕ)) (at : Option ℕ) → IsIndexOf (links_of ls) i entries previous → at ≡ lookup ((eq-value).it (get_or ls i d).from) entries → ((q : Variable) → lookup ((eq-value).it q) more ≡ cond ((eq-value).it (get_or ls i d).from q) (Some i) (lookup ((eq-value).it q) entries)) → IsIndexOf (links_of ls) (i + 1) more (previous ++ at ∷ [])
index_step ls i d h entries more previous at index was updates =
    index_more (links_of ls) i entries more previous (get_or ls i d).from at index (ap (λ (l : Term × Term). l.0) (get_map ls i d h)) was updates

-- the links from a variable are followed up to a place
pub record Following (links : List (Term × Term)) (u : Term) (at : Option ℕ) (S T Q R : List Term) : Type 0 where
  pub within : reach at ≤ length links
  pub from : IfSome at (λ place. source links place ≡ u)
  pub follows : Follows links (drop (reach at) links) u S T Q R

pub following_start : (links : List (Term × Term)) (u : Term) (S Q : List Term) (at : Option ℕ) → IsLast links (length links) u at → Following links u at S S Q Q
following_start links u S Q at last = record {
  within = last.below;
  from = last.from;
  follows = follows_start links u S Q at last;
}

from_same : (links : List (Term × Term)) (u w : Term) (at : Option ℕ) → w ≡ u → IfSome at (λ place. source links place ≡ w) → IfSome at (λ place. source links place ≡ u)
from_same links u w None e h = h
from_same links u w (Some place) e h = h ∙ e

pub following_more : (ls : List Link) (u : Term) (place : ℕ) (d : Link) (at before : Option ℕ) (S T V Q R W : List Term) → at ≡ Some place → Following (links_of ls) u at S T Q R → IsLast (links_of ls) place (source (links_of ls) place) before → Settles (term_of (get_or ls place d).to) T V R W → Following (links_of ls) u before S V Q W
following_more ls u place d at before S T V Q R W here f last s = record {
  within = let b = last.below in let w = within in omega arith;
  from = from_same (links_of ls) u (source (links_of ls) place) before from last.from;
  follows =
      follows_place (links_of ls) u place before S T V Q R W within from last
      (subst (λ w. same_variable w w ≡ true) (sym target) (itself (get_or ls place d).to))
      (subst (λ o. Follows (links_of ls) (drop (reach o) (links_of ls)) u S T Q R) here f.follows)
      (subst (λ w. Settles w T V R W) (sym target) s);
}
  where
    within : place < length (links_of ls)
    within = let w : reach (Some place) ≤ length (links_of ls) = subst (λ o. reach o ≤ length (links_of ls)) here f.within in omega arith

    from : source (links_of ls) place ≡ u
    from = subst (λ o. IfSome o (λ p. source (links_of ls) p ≡ u)) here f.from

    target : (link_at (links_of ls) place).1 ≡ term_of (get_or ls place d).to
    target = ap (λ (l : Term × Term). l.1) (get_map ls place d (let w = within in let m = length-map ls link_of in omega arith))

pub following_end : (links : List (Term × Term)) (u : Term) (at : Option ℕ) (S T Q R : List Term) → at ≡ None → Following links u at S T Q R → Follows links links u S T Q R
following_end links u at S T Q R none f = subst (λ o. Follows links (drop (reach o) links) u S T Q R) none f.follows

-- the place before one that is followed
pub before_at : (ls : List Link) (u : Term) (place : ℕ) (at before : Option ℕ) (S T Q R : List Term) (entries : List (Variable × ℕ)) (previous : List (Option ℕ)) → at ≡ Some place → Following (links_of ls) u at S T Q R → IsIndexOf (links_of ls) (length ls) entries previous → before ≡ get_or previous place before → IsLast (links_of ls) place (source (links_of ls) place) before
before_at ls u place at before S T Q R entries previous here f index e =
    subst (λ o. IsLast (links_of ls) place (source (links_of ls) place) o)
    (sym (e ∙ get_or_default previous place before None (let w = index.whole in let i = inside in omega arith))) (index.before place inside)
  where
    inside : place < length ls
    inside =
        let w : reach (Some place) ≤ length (links_of ls) = subst (λ o. reach o ≤ length (links_of ls)) here f.within in
        let m = length-map ls link_of in omega arith
