-- Sets of variables: what they have, and a variable that is put to one.
use Rattle.std.proofs.Common.{◌≡◌, ◌⊎◌, refl, sym, ◌∙◌, ap, subst, inl, inr, Bool, true, false, not, cond, List, [], ◌∷◌, ◌++◌}
use Rattle.std.specs.Prelude.{◌||◌}
use Rattle.std.specs.List.{list_any}
use Rattle.asp_defs.specs.declared.syntax.Term.{Term}
use Rattle.asp_defs.specs.Lists.{IsIn}
use Rattle.asp_defs.specs.Instances.{same_variable}
use Rattle.asp_defs.specs.Safety.{is_variable_of}
use Rattle.asp_defs.proofs.Lists.{true_or_false, not_true, map_at}
use Rattle.asp_safety.specs.declared.variable.Variable.{Variable}
use Rattle.asp_safety.specs.declared.variable.Variable.TheVariants as variants
use Rattle.asp_safety.specs.contracts.variable.VariablePartialEq.TheImpl.{eq-value}
use Rattle.asp_safety.specs.Variables.{term_of, terms_of}
use Rattle.asp_safety.specs.Closure.{Within, Settles}
use Rattle.asp_defs.proofs.SafetyLaws.{equal}
use Rattle.asp_safety.proofs.Members.{itself, member_at, member_from}

-- `==` as a test of variables
abbrev eq : Variable → Variable → Bool
eq = (eq-value).it

pub eq_is : (v w : Variable) → (eq-value).it v w ≡ same_variable (term_of v) (term_of w)
eq_is (variants.Named n) (variants.Named m) = refl
eq_is (variants.Named n) (variants.Anon k) = refl
eq_is (variants.Anon j) (variants.Named m) = refl
eq_is (variants.Anon j) (variants.Anon k) = refl

pub contains_is : (keys : List Variable) (v : Variable) → list_any ((eq-value).it v) keys ≡ is_variable_of (terms_of keys) (term_of v)
contains_is [] v = refl
contains_is (k ∷ keys) v =
    ap (λ b. b || list_any (eq v) keys) (eq_is v k)
    ∙ ap (λ b. same_variable (term_of v) (term_of k) || b) (contains_is keys v)

-- a set with one variable more, as `insert` says it
abbrev Adds : List Variable → List Variable → Variable → Type 0
Adds keys more v = (q : Variable) → list_any (eq q) more ≡ cond (eq v q) true (list_any (eq q) keys)

has_at : (keys : List Variable) (q : Variable) → list_any (eq q) keys ≡ true → IsIn (term_of q) (terms_of keys)
has_at keys q h = member_at (terms_of keys) (term_of q) (sym (contains_is keys q) ∙ h)

has_from : (keys : List Variable) (q : Variable) → IsIn (term_of q) (terms_of keys) → list_any (eq q) keys ≡ true
has_from keys q i = contains_is keys q ∙ member_from (terms_of keys) (term_of q) (itself q) i

adds_kept : (keys more : List Variable) (v : Variable) → Adds keys more v → Within (terms_of keys) (terms_of more)
adds_kept keys more v adds u i =
    let found = map_at term_of keys u i in
    let there : IsIn (term_of found.0) (terms_of keys) = subst (λ w. IsIn w (terms_of keys)) found.2 i in
    subst (λ w. IsIn w (terms_of more)) (sym found.2) (has_at more found.0 (go found.0 (has_from keys found.0 there) (true_or_false (eq v found.0))))
  where
    go : (q : Variable) → list_any (eq q) keys ≡ true → (eq v q ≡ true) ⊎ (eq v q ≡ false) → list_any (eq q) more ≡ true
    go q h (inl e) = adds q ∙ ap (λ b. cond b true (list_any (eq q) keys)) e
    go q h (inr e) = adds q ∙ (ap (λ b. cond b true (list_any (eq q) keys)) e ∙ h)

adds_there : (keys more : List Variable) (v : Variable) → Adds keys more v → IsIn (term_of v) (terms_of more)
adds_there keys more v adds =
    has_at more v (adds v ∙ ap (λ b. cond b true (list_any (eq v) keys)) (eq_is v v ∙ itself v))

adds_only : (keys more : List Variable) (v : Variable) → Adds keys more v → (u : Term) → IsIn u (terms_of more) → IsIn u (terms_of keys) ⊎ (u ≡ term_of v)
adds_only keys more v adds u i =
    let found = map_at term_of more u i in
    let there : IsIn (term_of found.0) (terms_of more) = subst (λ w. IsIn w (terms_of more)) found.2 i in
    elim (go found.0 (has_from more found.0 there) (true_or_false (eq v found.0))) [
      | inl h ↦ inl (subst (λ w. IsIn w (terms_of keys)) (sym found.2) h)
      | inr e ↦ inr (found.2 ∙ e)
    ]
  where
    go : (q : Variable) → list_any (eq q) more ≡ true → (eq v q ≡ true) ⊎ (eq v q ≡ false) → IsIn (term_of q) (terms_of keys) ⊎ (term_of q ≡ term_of v)
    go q h (inl e) = inr (sym (equal (term_of v) (term_of q) (sym (eq_is v q) ∙ e)))
    go q h (inr e) = inl (has_at keys q (sym (ap (λ b. cond b true (list_any (eq q) keys)) e) ∙ (sym (adds q) ∙ h)))

abbrev chosen : Bool → List Term → Term → List Term
chosen b queue v = cond b queue (queue ++ v ∷ [])

pub settles_new : (keys more : List Variable) (v : Variable) (queue : List Term) → ((q : Variable) → list_any ((eq-value).it q) more ≡ cond ((eq-value).it v q) true (list_any ((eq-value).it q) keys)) → not (list_any ((eq-value).it v) keys) ≡ true → Settles (term_of v) (terms_of keys) (terms_of more) queue (queue ++ term_of v ∷ [])
settles_new keys more v queue adds new = record {
  kept = adds_kept keys more v adds;
  there = adds_there keys more v adds;
  only = adds_only keys more v adds;
  queued = ap (λ b. chosen b queue (term_of v)) (sym (sym (contains_is keys v) ∙ not_true (list_any (eq v) keys) new));
}

pub settles_old : (keys : List Variable) (v : Variable) (queue : List Term) → list_any ((eq-value).it v) keys ≡ true → Settles (term_of v) (terms_of keys) (terms_of keys) queue queue
settles_old keys v queue old = record {
  kept = λ u i. i;
  there = has_at keys v old;
  only = λ u i. inl i;
  queued = ap (λ b. chosen b queue (term_of v)) (sym (sym (contains_is keys v) ∙ old));
}
