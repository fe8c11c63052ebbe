-- One walk through ascending predicates, and beside it through those that may be their negations, finds the predicates
-- whose negations are there.
use Rattle.std.proofs.Common.{ℕ, ◌≡◌, ◌⊎◌, ◌<◌, ◌≤◌, ◌+◌, refl, sym, ◌∙◌, ap, inl, inr, Bool, false, ◌||◌, cond, List, [], ◌∷◌, ◌++◌, length, get_or, drop, append_assoc, append-nil}
use Rattle.std.specs.List.{list_any, filter}
use Rattle.std.specs.Ordering.{is_eq}
use Rattle.std.specs.declared.cmp.Ordering.{Ordering}
use Rattle.std.specs.declared.cmp.Ordering.TheVariants.{Less, Equal, Greater}
use Rattle.std.proofs.lemmas.List.{drop_more, drop_all, map-append}
use Rattle.asp_defs.specs.Lists.{IsIn}
use Rattle.asp_defs.specs.Bases.{Predicate, predicate_cmp}
use Rattle.asp_defs.specs.Consistency.{negated, has_predicate, contradicted}
use Rattle.asp_defs.proofs.Lists.{true_or_false, any_at}
use Rattle.asp_defs.proofs.TextRefutations.{clash}
use Rattle.asp_atoms.specs.declared.signatures.Signature.{Signature}
use Rattle.asp_atoms.specs.Ascending.{AllAbove, Ascends}
use Rattle.asp_atoms.specs.Signatures.{predicate_of, predicates_of}
use Rattle.asp_atoms.proofs.Orders.{predicate_lawful}
use Rattle.asp_atoms.proofs.Ascending.{above_at, turned, turned_back}
use Rattle.asp_ground.specs.Walks.{walked}

-- ---- negations in order

-- negations compare as the predicates do
negated_same : (p q : Predicate) → predicate_cmp (negated p) (negated q) ≡ predicate_cmp p q
negated_same p q = refl

not_equal : (o : Ordering) → (o ≡ Less) ⊎ (o ≡ Greater) → is_eq o ≡ false
not_equal o (inl e) = ap is_eq e
not_equal o (inr e) = ap is_eq e

any_false : {A : Type 0} (test : A → Bool) (xs : List A) → ((x : A) → IsIn x xs → test x ≡ false) → list_any test xs ≡ false
any_false test xs h = elim (true_or_false (list_any test xs)) [
  | inl some ↦ let found = any_at test xs some in clash (sym (h found.0 found.1) ∙ found.2)
  | inr none ↦ none
]

filter_agrees : {A : Type 0} (f g : A → Bool) (xs : List A) → ((x : A) → IsIn x xs → f x ≡ g x) → filter f xs ≡ filter g xs
filter_agrees f g [] h = refl
filter_agrees f g (x ∷ xs) h =
    ap (λ t. cond t (x ∷ filter f xs) (filter f xs)) (h x (inl refl))
    ∙ ap (λ ys. cond (g x) (x ∷ ys) ys) (filter_agrees f g xs (λ y i. h y (inr i)))

-- the test of a walk
abbrev negation_in : List Predicate → Predicate → Bool
negation_in others q = has_predicate others (negated q)

-- what is below the first of ascending predicates is none of them
none_below : (v o : Predicate) (os : List Predicate) → predicate_cmp v o ≡ Less → AllAbove predicate_cmp o os → has_predicate (o ∷ os) v ≡ false
none_below v o os less above = any_false (λ r. is_eq (predicate_cmp v r)) (o ∷ os) (λ r i. not_equal (predicate_cmp v r) (inl (below r i)))
  where
    below : (r : Predicate) → IsIn r (o ∷ os) → predicate_cmp v r ≡ Less
    below r (inl e) = ap (predicate_cmp v) e ∙ less
    below r (inr i) = predicate_lawful.total.trans v o r less (above_at predicate_cmp o os above r i)

-- where the negation of a predicate is above another, so are those of the predicates above it
passes : (p o : Predicate) (ps os : List Predicate) → predicate_cmp (negated p) o ≡ Greater → AllAbove predicate_cmp p ps → (q : Predicate) → IsIn q (p ∷ ps) → negation_in (o ∷ os) q ≡ negation_in os q
passes p o ps os greater above q i = ap (λ t. t || negation_in os q) (not_equal (predicate_cmp (negated q) o) (inr (higher q i)))
  where
    higher : (q : Predicate) → IsIn q (p ∷ ps) → predicate_cmp (negated q) o ≡ Greater
    higher q (inl e) = ap (λ r. predicate_cmp (negated r) o) e ∙ greater
    higher q (inr j) =
        turned_back predicate_lawful o (negated q)
        (predicate_lawful.total.trans o (negated p) (negated q) (turned predicate_lawful (negated p) o greater)
        (negated_same p q ∙ above_at predicate_cmp p ps above q j))

-- ---- the walk

abbrev one_step : Ordering → Predicate → List Predicate → Predicate → List Predicate → List Predicate
one_step order p ps q qs = elim order [
  | Less ↦ walked ps (q ∷ qs)
  | Equal ↦ p ∷ walked ps (q ∷ qs)
  | Greater ↦ walked (p ∷ ps) qs
]

step : (p : Predicate) (ps : List Predicate) (o : Predicate) (os : List Predicate) (order : Ordering) → predicate_cmp (negated p) o ≡ order → AllAbove predicate_cmp p ps → AllAbove predicate_cmp o os → walked ps (o ∷ os) ≡ filter (negation_in (o ∷ os)) ps → walked (p ∷ ps) os ≡ filter (negation_in os) (p ∷ ps) → walked (p ∷ ps) (o ∷ os) ≡ filter (negation_in (o ∷ os)) (p ∷ ps)
step p ps o os Less e above over rest other =
    ap (λ order. one_step order p ps o os) e
    ∙ (rest ∙ sym (ap (λ t. cond t (p ∷ filter (negation_in (o ∷ os)) ps) (filter (negation_in (o ∷ os)) ps)) (none_below (negated p) o os e over)))
step p ps o os Equal e above over rest other =
    ap (λ order. one_step order p ps o os) e
    ∙ (ap (λ found. p ∷ found) rest
    ∙ sym (ap (λ t. cond (t || negation_in os p) (p ∷ filter (negation_in (o ∷ os)) ps) (filter (negation_in (o ∷ os)) ps)) (ap is_eq e)))
step p ps o os Greater e above over rest other =
    ap (λ order. one_step order p ps o os) e
    ∙ (other ∙ sym (filter_agrees (negation_in (o ∷ os)) (negation_in os) (p ∷ ps) (λ q i. passes p o ps os e above q i)))

none_found : (ps : List Predicate) → filter (negation_in []) ps ≡ []
none_found [] = refl
none_found (p ∷ ps) = none_found ps

pub walked_none : (ps : List Predicate) → walked ps [] ≡ []
walked_none [] = refl
walked_none (p ∷ ps) = refl

walked_is : (ps os : List Predicate) → Ascends predicate_cmp ps → Ascends predicate_cmp os → walked ps os ≡ filter (negation_in os) ps
walked_is [] os up over = refl
walked_is (p ∷ ps) [] up over = sym (none_found (p ∷ ps))
walked_is (p ∷ ps) (o ∷ os) up over =
    step p ps o os (predicate_cmp (negated p) o) refl up.0 over.0 (walked_is ps (o ∷ os) up.1 over) (walked_is (p ∷ ps) os up over.1)

pub contradicted_is : (ps : List Predicate) → Ascends predicate_cmp ps → walked ps ps ≡ contradicted ps
contradicted_is ps up = walked_is ps ps up up

-- ---- as the code walks

-- what was found and what the rest of the walk finds are what the walk finds
abbrev pub Walks : List Signature → List Signature → ℕ → ℕ → Type 0
Walks found signatures at other =
    predicates_of found ++ walked (predicates_of (drop at signatures)) (predicates_of (drop other signatures))
    ≡ walked (predicates_of signatures) (predicates_of signatures)

module _ (found signatures : List Signature) (at other : ℕ) (one two : Signature) (here : at < length signatures)
    (there : other < length signatures) (one_is : one ≡ get_or signatures at one) (two_is : two ≡ get_or signatures other two)
    (walks : Walks found signatures at other) where
  first : predicates_of (drop at signatures) ≡ predicate_of one ∷ predicates_of (drop (at + 1) signatures)
  first =
      ap predicates_of (drop_more signatures at one here)
      ∙ ap (λ s. predicate_of s ∷ predicates_of (drop (at + 1) signatures)) (sym one_is)

  second : predicates_of (drop other signatures) ≡ predicate_of two ∷ predicates_of (drop (other + 1) signatures)
  second =
      ap predicates_of (drop_more signatures other two there)
      ∙ ap (λ s. predicate_of s ∷ predicates_of (drop (other + 1) signatures)) (sym two_is)

  now : predicates_of found ++ one_step (predicate_cmp (negated (predicate_of one)) (predicate_of two)) (predicate_of one) (predicates_of (drop (at + 1) signatures)) (predicate_of two) (predicates_of (drop (other + 1) signatures)) ≡ walked (predicates_of signatures) (predicates_of signatures)
  now =
      ap (λ qs. predicates_of found ++ walked (predicate_of one ∷ predicates_of (drop (at + 1) signatures)) qs) (sym second)
      ∙ (ap (λ qs. predicates_of found ++ walked qs (predicates_of (drop other signatures))) (sym first) ∙ walks)

  stepped : (order : Ordering) → predicate_cmp (negated (predicate_of one)) (predicate_of two) ≡ order → predicates_of found ++ one_step order (predicate_of one) (predicates_of (drop (at + 1) signatures)) (predicate_of two) (predicates_of (drop (other + 1) signatures)) ≡ walked (predicates_of signatures) (predicates_of signatures)
  stepped order e =
      ap (λ o. predicates_of found ++ one_step o (predicate_of one) (predicates_of (drop (at + 1) signatures)) (predicate_of two) (predicates_of (drop (other + 1) signatures))) (sym e)
      ∙ now

  pub walks_less : predicate_cmp (negated (predicate_of one)) (predicate_of two) ≡ Less → Walks found signatures (at + 1) other
  walks_less e =
      ap (λ qs. predicates_of found ++ walked (predicates_of (drop (at + 1) signatures)) qs) second ∙ stepped Less e

  pub walks_greater : predicate_cmp (negated (predicate_of one)) (predicate_of two) ≡ Greater → Walks found signatures at (other + 1)
  walks_greater e =
      ap (λ qs. predicates_of found ++ walked qs (predicates_of (drop (other + 1) signatures))) first ∙ stepped Greater e

  pub walks_equal : (longer : List Signature) → longer ≡ found ++ one ∷ [] → predicate_cmp (negated (predicate_of one)) (predicate_of two) ≡ Equal → Walks longer signatures (at + 1) other
  walks_equal longer is e =
      ap (λ fs. predicates_of fs ++ walked (predicates_of (drop (at + 1) signatures)) (predicates_of (drop other signatures))) is
      ∙ (ap (λ fs. fs ++ walked (predicates_of (drop (at + 1) signatures)) (predicates_of (drop other signatures))) (map-append predicate_of found (one ∷ []))
      ∙ (append_assoc (predicates_of found) (predicate_of one ∷ []) (walked (predicates_of (drop (at + 1) signatures)) (predicates_of (drop other signatures)))
      ∙ (ap (λ qs. predicates_of found ++ (predicate_of one ∷ walked (predicates_of (drop (at + 1) signatures)) qs)) second
      ∙ stepped Equal e)))

-- nothing is left where either list is at its end
pub walk_ends : (found signatures : List Signature) (at other : ℕ) → (length signatures ≤ at) ⊎ (length signatures ≤ other) → Walks found signatures at other → predicates_of found ≡ walked (predicates_of signatures) (predicates_of signatures)
walk_ends found signatures at other (inl past) walks =
    sym (append-nil (predicates_of found))
    ∙ (ap (λ xs. predicates_of found ++ walked (predicates_of xs) (predicates_of (drop other signatures))) (sym (drop_all at signatures past)) ∙ walks)
walk_ends found signatures at other (inr past) walks =
    sym (append-nil (predicates_of found))
    ∙ (ap (λ qs. predicates_of found ++ qs) (sym (walked_none (predicates_of (drop at signatures))))
    ∙ (ap (λ xs. predicates_of found ++ walked (predicates_of (drop at signatures)) (predicates_of xs)) (sym (drop_all other signatures past)) ∙ walks))
