-- Clauses of bounds at once: what a bound that is met says of its atoms, and what a clause with the literals against a body says.
use Rattle.std.proofs.Common.{◌≡◌, ℕ, zero, suc, ◌≤◌, Bool, true, false, not, List, [], ◌∷◌, ◌++◌, map, length, refl, sym, ◌∙◌, subst, inl, inr, arith}
use Rattle.std.proofs.lemmas.Int.{ints}
use Rattle.std.specs.Prelude.{◌==◌, ◌&&◌, ℤ, Option, None, Some}
use Rattle.std.specs.List.{list_all, list_any}
use Rattle.std.proofs.lemmas.Bool.{eqb-true, eq-eqb}
use Rattle.std.proofs.lemmas.List.Folds.{list_any-append}
use Rattle.asp_defs.specs.declared.ground.Bound.{Bound}
use Rattle.asp_defs.specs.declared.ground.Counted.{Counted}
use Rattle.asp_defs.specs.declared.ground.Lit.{Lit}
use Rattle.asp_defs.specs.Lists.{IsIn}
use Rattle.asp_defs.specs.Interpretations.{holds}
use Rattle.asp_defs.specs.Truth.{literals_true}
use Rattle.asp_defs.specs.Bounds.{counts, counted_atoms, is_at_least, is_at_most, meets}
use Rattle.asp_defs.specs.Entries.{lit_true}
use Rattle.asp_defs.proofs.Lists.{both, and_true, either, or_left, or_right, true_or_false, not_true, not_false, all_at, all_from, any_at, any_from, filter_at, filter_from, append_at, append_left, append_right, map_at, map_from}
use Rattle.asp_defs.proofs.Subsets.{true_is_not_false, holds_at, holds_from}
use Rattle.asp_completion.specs.Codes.{literal, is_met}
use Rattle.asp_completion.specs.AtOnce.{atoms_of, is_free, is_plain, wants_one, wants_no_two, body_denial, HasOne, AreNotBoth}

-- ---- numbers

fewer_at_most : (high : Option ℤ) (m n : ℕ) → m ≤ n → is_at_most high n ≡ true → is_at_most high m ≡ true
fewer_at_most None m n le h = refl
fewer_at_most (Some high) m n le h = grind (arith, ints)

-- ---- a bound that is met, where its body is true

met-ends : (N : List ℕ) (b : Bound) → meets N b ≡ true → literals_true N b.pos b.neg ≡ true
    → (is_at_least b.low (length (counted_atoms N b)) ≡ true) × (is_at_most b.high (length (counted_atoms N b)) ≡ true)
met-ends N b met body =
    let least : Bool = is_at_least b.low (length (counted_atoms N b)) in
    let most : Bool = is_at_most b.high (length (counted_atoms N b)) in
    elim (either (not (literals_true N b.pos b.neg)) (least && most) met) [
      | inl out ↦ absurd (true_is_not_false (literals_true N b.pos b.neg) body (not_true (literals_true N b.pos b.neg) out))
      | inr inside ↦ both least most inside
    ]

-- a member of a list that isn't empty
some-member : (xs : List ℕ) → (length xs ≡ 0 → ⊥) → (a : ℕ) × IsIn a xs
some-member [] h = absurd (h refl)
some-member (x ∷ xs) h = (x, inl refl)

pub has-one : (N : List ℕ) (b : Bound) → wants_one b ≡ true → meets N b ≡ true → HasOne b N
has-one N b wanted met body =
    let least = (met-ends N b met body).0 in
    let more = (both (is_plain b) (not (is_at_least b.low 0)) wanted).1 in
    let none : is_at_least b.low 0 ≡ false = not_true (is_at_least b.low 0) more in
    let found = some-member (counted_atoms N b) (λ e.
    true_is_not_false (is_at_least b.low 0) (subst (λ (n : ℕ). is_at_least b.low n ≡ true) e least) none) in
    let a : ℕ = found.0 in
    let passed = filter_at (λ x. list_any (counts N x) b.counted) N a found.1 in
    let term = any_at (counts N a) b.counted passed.1 in
    let same : term.0.atom ≡ a = eqb-true term.0.atom a ((both (term.0.atom == a) (literals_true N term.0.pos term.0.neg) term.2).0) in
    any_from (holds N) (atoms_of b.counted) a
    (subst (λ (x : ℕ). IsIn x (atoms_of b.counted)) same (map_from (λ (c : Counted). c.atom) b.counted term.0 term.1))
    (holds_from N a passed.0)

-- two members of a list of at most one item are the same
one-member : (xs : List ℕ) (a b : ℕ) → length xs ≤ 1 → IsIn a xs → IsIn b xs → a ≡ b
one-member [] a b few i j = absurd i
one-member (x ∷ []) a b few (inl e) (inl f) = e ∙ sym f
one-member (x ∷ []) a b few (inr i) j = absurd i
one-member (x ∷ []) a b few (inl e) (inr j) = absurd j
one-member (x ∷ y ∷ ys) a b few i j = absurd (omega arith)

no-items : (xs : List ℕ) → (length xs == 0) ≡ true → xs ≡ []
no-items [] e = refl
no-items (x ∷ xs) e = absurd (let h : suc (length xs) ≡ 0 = eqb-true (suc (length xs)) 0 e in omega arith)

free-true : (N : List ℕ) (c : Counted) → is_free c ≡ true → literals_true N c.pos c.neg ≡ true
free-true N c free =
    let parts = both (length c.pos == 0) (length c.neg == 0) free in
    subst (λ (xs : List ℕ). literals_true N xs c.neg ≡ true) (sym (no-items c.pos parts.0))
    (subst (λ (xs : List ℕ). literals_true N [] xs ≡ true) (sym (no-items c.neg parts.1)) refl)

counted-in : (N : List ℕ) (b : Bound) (a : ℕ) → is_plain b ≡ true → IsIn a (atoms_of b.counted) → holds N a ≡ true → IsIn a (counted_atoms N b)
counted-in N b a plain i held =
    let found = map_at (λ (c : Counted). c.atom) b.counted a i in
    let free = free-true N found.0 (all_at is_free b.counted found.0 plain found.1) in
    filter_from (λ x. list_any (counts N x) b.counted) N a (holds_at N a held)
    (any_from (counts N a) b.counted found.0 found.1
    (and_true (found.0.atom == a) (literals_true N found.0.pos found.0.neg) (eq-eqb found.0.atom a (sym found.2)) free))

pub no-two : (N : List ℕ) (b : Bound) (c d : ℕ) → wants_no_two b ≡ true → meets N b ≡ true → IsIn c (atoms_of b.counted)
    → IsIn d (atoms_of b.counted) → AreNotBoth b c d N
no-two N b c d wanted met i j body one two =
    let most = (met-ends N b met body).1 in
    let parts = both (is_plain b) (not (is_at_most b.high 2)) wanted in
    let many : is_at_most b.high 2 ≡ false = not_true (is_at_most b.high 2) parts.1 in
    let few : length (counted_atoms N b) ≤ 1 =
    at_most_one (length (counted_atoms N b)) (λ h. true_is_not_false (is_at_most b.high 2) (fewer_at_most b.high 2 (length (counted_atoms N b)) h most) many) in
    one-member (counted_atoms N b) c d few (counted-in N b c parts.0 i one) (counted-in N b d parts.0 j two)
  where
    at_most_one : (n : ℕ) → (2 ≤ n → ⊥) → n ≤ 1
    at_most_one zero h = omega arith
    at_most_one (suc zero) h = omega arith
    at_most_one (suc (suc n)) h = absurd (h (omega arith))

-- ---- the literals against a body

pub denial-from : (N : List ℕ) (b : Bound) (rest : List Lit) → (literals_true N b.pos b.neg ≡ true → is_met N rest ≡ true)
    → is_met N (body_denial b ++ rest) ≡ true
denial-from N b rest h =
    list_any-append (lit_true N) (body_denial b) rest ∙ elim (true_or_false (is_met N (body_denial b))) [
      | inl met ↦ or_left (is_met N (body_denial b)) (is_met N rest) met
      | inr unmet ↦ or_right (is_met N (body_denial b)) (is_met N rest) (h (body-from-unmet unmet))
    ]
  where
    out : (x : Lit) → is_met N (body_denial b) ≡ false → IsIn x (body_denial b) → lit_true N x ≡ true → ⊥
    out x unmet i held = true_is_not_false (is_met N (body_denial b)) (any_from (lit_true N) (body_denial b) x i held) unmet

    body-from-unmet : is_met N (body_denial b) ≡ false → literals_true N b.pos b.neg ≡ true
    body-from-unmet unmet =
        and_true (list_all (holds N) b.pos) (list_all (λ a. not (holds N a)) b.neg)
        (all_from (holds N) b.pos (λ a i.
        elim (true_or_false (holds N a)) [
          | inl held ↦ held
          | inr no_one ↦
              absurd (out (literal false a) unmet (append_left (map (literal false) b.pos) (map (literal true) b.neg) (literal false a) (map_from (literal false) b.pos a i))
              (not_false (holds N a) no_one))
        ]))
        (all_from (λ a. not (holds N a)) b.neg (λ a i.
        elim (true_or_false (holds N a)) [
          | inl held ↦
              absurd (out (literal true a) unmet (append_right (map (literal false) b.pos) (map (literal true) b.neg) (literal true a) (map_from (literal true) b.neg a i)) held)
          | inr no_one ↦ not_false (holds N a) no_one
        ]))

pub denial-at : (N : List ℕ) (b : Bound) (rest : List Lit) → is_met N (body_denial b ++ rest) ≡ true → literals_true N b.pos b.neg ≡ true
    → is_met N rest ≡ true
denial-at N b rest met body =
    elim (either (is_met N (body_denial b)) (is_met N rest) (sym (list_any-append (lit_true N) (body_denial b) rest) ∙ met)) [
      | inr held ↦ held
      | inl denied ↦
          let found = any_at (lit_true N) (body_denial b) denied in
          let parts = both (list_all (holds N) b.pos) (list_all (λ a. not (holds N a)) b.neg) body in
          absurd (elim (append_at (map (literal false) b.pos) (map (literal true) b.neg) found.0 found.1) [
            | inl h ↦
                let a = map_at (literal false) b.pos found.0 h in
                true_is_not_false (holds N a.0) (all_at (holds N) b.pos a.0 parts.0 a.1)
                (not_true (holds N a.0) (subst (λ (x : Lit). lit_true N x ≡ true) a.2 found.2))
            | inr h ↦
                let a = map_at (literal true) b.neg found.0 h in
                true_is_not_false (holds N a.0) (subst (λ (x : Lit). lit_true N x ≡ true) a.2 found.2)
                (not_true (holds N a.0) (all_at (λ x. not (holds N x)) b.neg a.0 parts.1 a.1))
          ])
    ]
