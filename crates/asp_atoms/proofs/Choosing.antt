-- A level's predicates are those of the last level that are written in it.
use Rattle.std.proofs.Common.{ℕ, ◌≡◌, ◌+◌, ◌^◌, ◌<◌, refl, sym, ◌∙◌, ap, subst, inl, inr, Bool, true, false, cond, List, [], ◌∷◌, ◌++◌, map, length, get_or, ltb, Some, None, is_some}
use Rattle.std.specs.List.{flat_map, filter}
use Rattle.std.specs.Ordering.{is_eq}
use Rattle.std.specs.declared.cmp.Ordering.{Ordering}
use Rattle.std.proofs.lemmas.Bool.{lt-ltb, ltb-true}
use Rattle.std.proofs.lemmas.List.{map-append}
use Rattle.std.proofs.lemmas.List.Sums.{passes_at_first}
use Rattle.asp_defs.specs.declared.ground.Const.{Const}
use Rattle.asp_defs.specs.Lists.{IsIn}
use Rattle.asp_defs.specs.Constants.{const_cmp}
use Rattle.asp_defs.specs.Bases.{Predicate, predicate_cmp, predicate_atoms, atom_number}
use Rattle.asp_defs.proofs.Lists.{filter_at, filter_from, map_at, map_from}
use Rattle.asp_walk.proofs.Lists.{get_is_in}
use Rattle.asp_atoms.specs.declared.vocabularies.NumberedPredicate.{NumberedPredicate}
use Rattle.asp_atoms.specs.Ascending.{AllAbove, Ascends, place_in}
use Rattle.asp_atoms.specs.Vocabularies.{const_rank, unnumbered, numbered_from}
use Rattle.asp_atoms.specs.Members.{is_predicate_of, predicate_numbers, level_numbers}
use Rattle.asp_atoms.proofs.Orders.{predicate_lawful}
use Rattle.asp_atoms.proofs.Ascending.{above_at, above_from, unique}
use Rattle.asp_atoms.proofs.Positions.{place_below}
use Rattle.asp_atoms.proofs.Settled.{is_equal}
use Rattle.asp_atoms.proofs.Numbering.{predicate_is}

-- ---- whether a predicate is one of a list

abbrev if_below : Bool → ℕ → Bool
if_below b k = is_some (cond b (Some k) None)

among : (ps : List Predicate) (q : Predicate) → Ascends predicate_cmp ps → IsIn q ps → is_predicate_of ps q ≡ true
among ps q up i =
    let at = place_in predicate_cmp ps q in
    let h : at < length ps = place_below predicate_lawful ps up q i in
    ap (λ b. if_below b at) (lt-ltb at (length ps) h)

below_so : (b : Bool) (k : ℕ) → if_below b k ≡ true → b ≡ true
below_so true k e = refl
below_so false k e = absurd (cc)

one_among : (ps : List Predicate) (q : Predicate) → is_predicate_of ps q ≡ true → IsIn q ps
one_among ps q e =
    let at = place_in predicate_cmp ps q in
    let h : at < length ps = ltb-true at (length ps) (below_so (ltb at (length ps)) at e) in
    let same : is_eq (predicate_cmp q (get_or ps at q)) ≡ true = passes_at_first (λ p. is_eq (predicate_cmp q p)) ps q h in
    let is : q ≡ get_or ps at q = predicate_lawful.exact q (get_or ps at q) (is_equal (predicate_cmp q (get_or ps at q)) same) in
    subst (λ p. IsIn p ps) (sym is) (get_is_in ps at q h)

-- ---- what is chosen ascends

chosen_above : {A B : Type 0} (R : B → B → Ordering) (f : A → B) (p : A → Bool) (y : B) (xs : List A) → AllAbove R y (map f xs) → AllAbove R y (map f (filter p xs))
chosen_above R f p y xs h = above_from R y (map f (filter p xs)) (λ z i.
    let found = map_at f (filter p xs) z i in
    let there = filter_at p xs found.0 found.1 in
    above_at R y (map f xs) h z (subst (λ w. IsIn w (map f xs)) (sym found.2) (map_from f xs found.0 there.0)))

chosen_step : {A B : Type 0} (R : B → B → Ordering) (f : A → B) (p : A → Bool) (x : A) (xs : List A) (b : Bool) → AllAbove R (f x) (map f xs) → Ascends R (map f (filter p xs)) → Ascends R (map f (cond b (x ∷ filter p xs) (filter p xs)))
chosen_step R f p x xs true above rest = (chosen_above R f p (f x) xs above, rest)
chosen_step R f p x xs false above rest = rest

chosen_ascend : {A B : Type 0} (R : B → B → Ordering) (f : A → B) (p : A → Bool) (xs : List A) → Ascends R (map f xs) → Ascends R (map f (filter p xs))
chosen_ascend R f p [] up = tt
chosen_ascend R f p (x ∷ xs) up = chosen_step R f p x xs (p x) up.0 (chosen_ascend R f p xs up.1)

-- ---- numbered predicates

pub unnumbered_all : (size first : ℕ) (qs : List Predicate) → map unnumbered (numbered_from size first qs) ≡ qs
unnumbered_all size first [] = refl
unnumbered_all size first (q ∷ qs) = ap (λ ps. q ∷ ps) (unnumbered_all size (first + size ^ q.arity) qs)

abbrev is_chosen : List Predicate → NumberedPredicate → Bool
is_chosen ps n = is_predicate_of ps (unnumbered n)

abbrev chosen : List Predicate → List NumberedPredicate → List NumberedPredicate
chosen ps ns = filter (is_chosen ps) ns

chosen_are : (ns : List NumberedPredicate) (qs ps : List Predicate) → map unnumbered ns ≡ qs → Ascends predicate_cmp qs → Ascends predicate_cmp ps → ((p : Predicate) → IsIn p ps → IsIn p qs) → map unnumbered (chosen ps ns) ≡ ps
chosen_are ns qs ps all up rise wider =
    unique predicate_lawful (map unnumbered (chosen ps ns)) ps
    (chosen_ascend predicate_cmp unnumbered (is_chosen ps) ns (subst (Ascends predicate_cmp) (sym all) up)) rise
    (record {
      whole = λ p i.
          let found = map_at unnumbered (chosen ps ns) p i in
          let there = filter_at (is_chosen ps) ns found.0 found.1 in
          subst (λ r. IsIn r ps) (sym found.2) (one_among ps (unnumbered found.0) there.1);
      within = λ p i.
          let m : IsIn p (map unnumbered ns) = subst (λ l. IsIn p l) (sym all) (wider p i) in
          let found = map_at unnumbered ns p m in
          let passes : is_chosen ps found.0 ≡ true = subst (λ r. is_predicate_of ps r ≡ true) found.2 (among ps p rise i) in
          subst (λ r. IsIn r (map unnumbered (chosen ps ns))) (sym found.2)
          (map_from unnumbered (chosen ps ns) found.0 (filter_from (is_chosen ps) ns found.0 found.1 passes));
    })

-- ---- the numbers of a level's atoms

pub flat_map_agrees : {A B : Type 0} (f g : A → List B) (xs : List A) → ((x : A) → IsIn x xs → f x ≡ g x) → flat_map f xs ≡ flat_map g xs
flat_map_agrees f g [] h = refl
flat_map_agrees f g (x ∷ xs) h =
    ap (λ l. l ++ flat_map f xs) (h x (inl refl)) ∙ ap (λ l. g x ++ l) (flat_map_agrees f g xs (λ z i. h z (inr i)))

number_all : {A B C D : Type 0} (number : C → D) (atoms : B → List C) (f : A → B) (xs : List A) → flat_map (λ x. map number (atoms (f x))) xs ≡ map number (flat_map atoms (map f xs))
number_all number atoms f [] = refl
number_all number atoms f (x ∷ xs) =
    ap (λ l. map number (atoms (f x)) ++ l) (number_all number atoms f xs)
    ∙ sym (map-append number (atoms (f x)) (flat_map atoms (map f xs)))

pub level_is : (U V : List Const) (qs ps : List Predicate) → Ascends const_cmp U → Ascends predicate_cmp qs → Ascends predicate_cmp ps → ((x : Const) → IsIn x V → IsIn x U) → ((p : Predicate) → IsIn p ps → IsIn p qs) → level_numbers (length U) (numbered_from (length U) 0 qs) (map (const_rank U) V) ps ≡ map (atom_number (flat_map (predicate_atoms U) qs)) (flat_map (predicate_atoms V) ps)
level_is U V qs ps up rise ascending constants predicates =
    let ns = numbered_from (length U) 0 qs in
    let number = atom_number (flat_map (predicate_atoms U) qs) in
    flat_map_agrees (predicate_numbers (length U) (map (const_rank U) V)) (λ n. map number (predicate_atoms V (unnumbered n))) (chosen ps ns)
    (λ n i. sym (predicate_is U V qs up rise constants n ((filter_at (is_chosen ps) ns n i).0)))
    ∙ (number_all number (predicate_atoms V) unnumbered (chosen ps ns)
    ∙ ap (λ l. map number (flat_map (predicate_atoms V) l)) (chosen_are ns qs ps (unnumbered_all (length U) 0 qs) rise ascending predicates))
