-- Equal rules, and tests of lists with the same members.
use Rattle.std.proofs.Common.{◌≡◌, ◌<◌, ℕ, zero, suc, Bool, true, ◌&&◌, eqb, List, [], ◌∷◌, length, get_or, refl, ap, ◌∙◌, subst, arith}
use Rattle.std.specs.Prelude.{Contains}
use Rattle.std.specs.Bool.{beq}
use Rattle.std.specs.List.{list_all}
use Rattle.std.specs.Cmp.{IsEquivalence, booleans_Decides}
use Rattle.std.proofs.lemmas.Bool.{eqb-true, eq-eqb, and_parts, and_from}
use Rattle.asp_plain.specs.declared.masks.MaskedRule.{MaskedRule}
use Rattle.asp_plain.specs.Masks.{HaveSameMembers}
use Rattle.asp_plain.proofs.Atoms.{same_test}

abbrev pub same_rule : MaskedRule → MaskedRule → Bool
same_rule x y =
    eqb x.positive y.positive && (eqb x.negative y.negative && (eqb x.head y.head && beq x.choice y.choice))

abbrev rule : ℕ → ℕ → ℕ → Bool → MaskedRule
rule positive negative head choice = record { positive = positive; negative = negative; head = head; choice = choice }

pub same_rule-true : (x y : MaskedRule) → same_rule x y ≡ true → x ≡ y
same_rule-true x y h =
    let all = and_parts (eqb x.positive y.positive) (eqb x.negative y.negative && (eqb x.head y.head && beq x.choice y.choice)) h in
    let most = and_parts (eqb x.negative y.negative) (eqb x.head y.head && beq x.choice y.choice) all.1 in
    let last = and_parts (eqb x.head y.head) (beq x.choice y.choice) most.1 in
    ap (λ t. rule t x.negative x.head x.choice) (eqb-true x.positive y.positive all.0)
    ∙ ap (λ t. rule y.positive t x.head x.choice) (eqb-true x.negative y.negative most.0)
    ∙ ap (λ t. rule y.positive y.negative t x.choice) (eqb-true x.head y.head last.0)
    ∙ ap (λ t. rule y.positive y.negative y.head t) ((booleans_Decides x.choice y.choice).0 last.1)

same_rule-refl : (x : MaskedRule) → same_rule x x ≡ true
same_rule-refl x =
    and_from (eqb x.positive x.positive) (eqb x.negative x.negative && (eqb x.head x.head && beq x.choice x.choice))
    (eq-eqb x.positive x.positive refl)
    (and_from (eqb x.negative x.negative) (eqb x.head x.head && beq x.choice x.choice) (eq-eqb x.negative x.negative refl)
    (and_from (eqb x.head x.head) (beq x.choice x.choice) (eq-eqb x.head x.head refl) ((booleans_Decides x.choice x.choice).1 refl)))

pub same_rule-equivalence : IsEquivalence same_rule
same_rule-equivalence = record {
  refl = same_rule-refl;
  symm = λ x y. same_test (same_rule x y) (same_rule y x) (turned x y) (turned y x);
  congr = λ x y z h. ap (λ r. same_rule r z) (same_rule-true x y h);
}
  where
    turned : (x y : MaskedRule) → same_rule x y ≡ true → same_rule y x ≡ true
    turned x y h = subst (λ r. same_rule r x ≡ true) (same_rule-true x y h) (same_rule-refl x)

-- a test of all members, at one of them
all_at : {X : Type 0} (f : X → Bool) (xs : List X) (x : X) (k : ℕ) → list_all f xs ≡ true → k < length xs
    → get_or xs k x ≡ x → f x ≡ true
all_at f [] x k h lt e = absurd (omega arith)
all_at f (y ∷ ys) x zero h lt e = subst (λ z. f z ≡ true) e (and_parts (f y) (list_all f ys) h).0
all_at f (y ∷ ys) x (suc k) h lt e =
    all_at f ys x k (and_parts (f y) (list_all f ys) h).1 (omega arith) e

-- a test that passes at each member
all_members : {X : Type 0} (f : X → Bool) (xs : List X) → ((x : X) → Contains xs x → f x ≡ true) → list_all f xs ≡ true
all_members f [] h = refl
all_members f (y ∷ ys) h =
    and_from (f y) (list_all f ys) (h y (0, omega arith, refl))
    (all_members f ys (λ x member. h x (suc member.0, omega (arith, member.1), member.2)))

-- a test of all members is the same for lists with the same members
pub all-members : {X : Type 0} (f : X → Bool) (xs ys : List X) → HaveSameMembers xs ys → list_all f xs ≡ list_all f ys
all-members f xs ys members =
    same_test (list_all f xs) (list_all f ys)
    (λ h. all_members f ys (λ x member.
    let there = members.whole x member in all_at f xs x there.0 h there.1 there.2))
    (λ h. all_members f xs (λ x member.
    let there = members.within x member in all_at f ys x there.0 h there.1 there.2))
