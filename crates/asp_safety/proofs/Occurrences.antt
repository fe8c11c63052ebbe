-- The variables of a list, each once, where the list is longer by one.
use Rattle.std.proofs.Common.{◌≡◌, ◌⊎◌, refl, sym, ◌∙◌, ap, subst, inl, inr, Bool, true, false, not, cond, List, [], ◌∷◌, ◌++◌, append-nil, length, ◌≤◌, arith}
use Rattle.std.specs.Prelude.{if◌then◌else◌, ◌||◌}
use Rattle.std.specs.List.{filter}
use Rattle.std.proofs.lemmas.List.Elements.{filter-append}
use Rattle.asp_defs.specs.declared.syntax.Term.{Term}
use Rattle.asp_defs.specs.Instances.{same_variable, first_occurrences}
use Rattle.asp_defs.specs.Safety.{is_variable_of}
use Rattle.asp_defs.proofs.Lists.{true_or_false}
use Rattle.asp_defs.proofs.SafetyLaws.{equal}
use Rattle.asp_safety.proofs.Members.{same_truth}

abbrev longer : Bool → List Term → Term → List Term
longer b vs v = if b then vs else vs ++ v ∷ []

abbrev pub others : Term → List Term → List Term
others x ws = filter (λ w. not (same_variable x w)) ws

pub same_back : (v w : Term) → same_variable v w ≡ true → same_variable w v ≡ true
same_back v w h =
    let e = equal v w h in
    subst (λ z. same_variable z v ≡ true) e (subst (λ z. same_variable v z ≡ true) (sym e) h)

same_sym : (v w : Term) → same_variable v w ≡ same_variable w v
same_sym v w = same_truth (same_variable v w) (same_variable w v) (same_back v w) (same_back w v)

or_true : (b : Bool) → b || true ≡ true
or_true true = refl
or_true false = refl

or_false : (b : Bool) → b || false ≡ b
or_false true = refl
or_false false = refl

pub occurrences_more : (vs : List Term) (v : Term) → first_occurrences (vs ++ v ∷ []) ≡ (if is_variable_of vs v then first_occurrences vs else first_occurrences vs ++ v ∷ [])
occurrences_more [] v = refl
occurrences_more (x ∷ vs) v = ap (λ ws. x ∷ others x ws) (occurrences_more vs v) ∙ old (true_or_false (is_variable_of vs v))
  where
    -- the variable is the first one, or it isn't
    first : (is_variable_of vs v ≡ false) → (same_variable v x ≡ true) ⊎ (same_variable v x ≡ false) → x ∷ others x (first_occurrences vs ++ v ∷ []) ≡ longer (is_variable_of (x ∷ vs) v) (x ∷ others x (first_occurrences vs)) v
    first h (inl e) =
        ap (λ ws. x ∷ ws) (filter-append (λ w. not (same_variable x w)) (first_occurrences vs) (v ∷ [])
        ∙ (ap (λ b. others x (first_occurrences vs) ++ cond (not b) (v ∷ []) []) (same_sym x v ∙ e) ∙ append-nil (others x (first_occurrences vs))))
        ∙ ap (λ b. longer (b || is_variable_of vs v) (x ∷ others x (first_occurrences vs)) v) (sym e)
    first h (inr e) =
        ap (λ ws. x ∷ ws) (filter-append (λ w. not (same_variable x w)) (first_occurrences vs) (v ∷ [])
        ∙ ap (λ b. others x (first_occurrences vs) ++ cond (not b) (v ∷ []) []) (same_sym x v ∙ e))
        ∙ (ap (λ b. longer b (x ∷ others x (first_occurrences vs)) v) (sym h)
        ∙ ap (λ b. longer (b || is_variable_of vs v) (x ∷ others x (first_occurrences vs)) v) (sym e))

    old : (is_variable_of vs v ≡ true) ⊎ (is_variable_of vs v ≡ false) → x ∷ others x (longer (is_variable_of vs v) (first_occurrences vs) v) ≡ longer (is_variable_of (x ∷ vs) v) (x ∷ others x (first_occurrences vs)) v
    old (inl h) =
        ap (λ b. x ∷ others x (longer b (first_occurrences vs) v)) h
        ∙ (ap (λ b. longer b (x ∷ others x (first_occurrences vs)) v) (sym (or_true (same_variable v x)))
        ∙ ap (λ b. longer (same_variable v x || b) (x ∷ others x (first_occurrences vs)) v) (sym h))
    old (inr h) =
        ap (λ b. x ∷ others x (longer b (first_occurrences vs) v)) h ∙ first h (true_or_false (same_variable v x))

-- no more variables than are written
shorter : (b : Bool) (v : Term) (vs ws : List Term) → length vs ≤ length ws → length (cond b (v ∷ vs) vs) ≤ length (v ∷ ws)
shorter true v vs ws h = omega arith
shorter false v vs ws h = omega arith

pub others_few : (x : Term) (vs : List Term) → length (others x vs) ≤ length vs
others_few x [] = omega arith
others_few x (v ∷ vs) = shorter (not (same_variable x v)) v (others x vs) vs (others_few x vs)

pub occurrences_few : (vs : List Term) → length (first_occurrences vs) ≤ length vs
occurrences_few [] = omega arith
occurrences_few (x ∷ vs) =
    let fewer = others_few x (first_occurrences vs) in
    let rest = occurrences_few vs in omega arith
