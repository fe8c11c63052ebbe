-- Different numbers below a bound are at most as many as the bound.
use Rattle.std.proofs.Common.{◌≡◌, ◌≢◌, ℕ, zero, suc, ◌+◌, ◌*◌, ◌/◌, ◌<◌, ◌≤◌, Bool, true, false, ◌||◌, eqb, List, [], ◌∷◌, length, get_or, map, refl, sym, ◌∙◌, ap, arith, inl, inr, subst}
use Rattle.std.specs.List.{list_any}
use Rattle.std.proofs.lemmas.List.{get_or-map, length-map, get_or_default}
use Rattle.std.proofs.lemmas.Bool.{cases_Bool, cases_order}
use Rattle.std.proofs.Common.{Option}
use Rattle.std.proofs.lemmas.Bool.Decides.{nat_tests}
use Rattle.std.proofs.lemmas.Map.Steps.{length-le_from_distinct_below}
use Rattle.std.proofs.lemmas.Map.Keys.{IsDistinct-from_apart}
use Rattle.asp_clauses.specs.declared.trail.Truth.{Truth}
use Rattle.asp_clauses.specs.declared.trail.Truth.TheVariants.{Unassigned, Holds, Fails}
use Rattle.asp_clauses.specs.declared.trail.Step.{Step}
use Rattle.asp_clauses.specs.Trail.{no_step, literal_at, IsUnassigned, IsPlaced, IsValue}
use Rattle.asp_clauses.specs.Literal.{negated}
use Rattle.asp_clauses.proofs.LiteralLemmas.{negated-half, negated-≢}
use Rattle.asp_clauses.specs.Tables.{Tells, AreTables, told}
use Rattle.asp_clauses.proofs.TableLemmas.{value_read, not_origin}
use Rattle.std.proofs.Common.{Some, None}

below_any : (xs : List ℕ) (n q : ℕ) → ((i : ℕ) → i < length xs → get_or xs i 0 < n) → list_any (eqb q) xs ≡ true → q < n
below_any [] n q h e = cc
below_any (x ∷ xs) n q h e = elim (cases_Bool (eqb q x)) [
  | inl t ↦ let b = h 0 (omega arith) in let s : q ≡ x = grind (arith, nat_tests) in omega arith
  | inr f ↦ below_any xs n q (λ i l. h (suc i) (omega arith)) (sym (ap (λ (b : Bool). b || list_any (eqb q) xs) f) ∙ e)
]

apart : (x y : ℕ) → x ≢ y → eqb x y ≡ false
apart x y h = grind (arith, nat_tests)

pub distinct_few : (xs : List ℕ) (n : ℕ) → ((i : ℕ) → i < length xs → get_or xs i 0 < n) → ((i j : ℕ) → i < j → j < length xs → get_or xs i 0 ≢ get_or xs j 0) → length xs ≤ n
distinct_few xs n below distinct = length-le_from_distinct_below xs n
    (IsDistinct-from_apart eqb xs (λ i j d ij h.
    apart (get_or xs i d) (get_or xs j d) (λ e. distinct i j ij h (get_or_default xs i 0 d (omega arith) ∙ e ∙ get_or_default xs j d 0 h))))
    (λ q e. below_any xs n q below e)

atom_at : (steps : List Step) (i : ℕ) → i < length steps → get_or (map (λ (s : Step). s.literal / 2) steps) i 0 ≡ literal_at steps i / 2
atom_at steps i h = get_or-map (λ (s : Step). s.literal / 2) steps i no_step 0 h

-- where an atom is unassigned, there are fewer steps than atoms
pub unassigned_few : (atoms : ℕ) (steps : List Step) (literal : ℕ) → ((place : ℕ) → place < length steps → literal_at steps place < 2 * atoms) → ((p q : ℕ) → p < q → q < length steps → literal_at steps p / 2 ≢ literal_at steps q / 2) → literal < 2 * atoms → IsUnassigned steps literal → length steps < atoms
unassigned_few atoms steps literal codes distinct code un =
    let xs = map (λ (s : Step). s.literal / 2) steps in
    let len : length xs ≡ length steps = length-map steps (λ (s : Step). s.literal / 2) in
    let few = distinct_few ((literal / 2) ∷ xs) atoms
    (λ i h. below literal steps atoms codes code i (omega (arith, len, h)))
    (λ i j ij h. different literal steps distinct un i j ij (omega (arith, len, h))) in
    omega (arith, few, len)
  where
    below : (literal : ℕ) (steps : List Step) (atoms : ℕ) → ((place : ℕ) → place < length steps → literal_at steps place < 2 * atoms) → literal < 2 * atoms → (i : ℕ) → i < length steps + 1 → get_or ((literal / 2) ∷ map (λ (s : Step). s.literal / 2) steps) i 0 < atoms
    below literal steps atoms codes code zero h = omega arith
    below literal steps atoms codes code (suc i) h = let e = atom_at steps i (omega arith) in let c = codes i (omega arith) in omega (arith, e, c)

    different : (literal : ℕ) (steps : List Step) → ((p q : ℕ) → p < q → q < length steps → literal_at steps p / 2 ≢ literal_at steps q / 2) → IsUnassigned steps literal → (i j : ℕ) → i < j → j < length steps + 1 →
        get_or ((literal / 2) ∷ map (λ (s : Step). s.literal / 2) steps) i 0 ≢ get_or ((literal / 2) ∷ map (λ (s : Step). s.literal / 2) steps) j 0
    different literal steps distinct un i zero ij h e = absurd (omega arith)
    different literal steps distinct un zero (suc j) ij h e = un j (omega arith) (sym (e ∙ atom_at steps j (omega arith)))
    different literal steps distinct un (suc i) (suc j) ij h e = distinct i j (omega arith) (omega arith) (sym (atom_at steps i (omega arith)) ∙ e ∙ atom_at steps j (omega arith))

pub steps_few : (atoms : ℕ) (steps : List Step) → ((place : ℕ) → place < length steps → literal_at steps place < 2 * atoms) → ((p q : ℕ) → p < q → q < length steps → literal_at steps p / 2 ≢ literal_at steps q / 2) → length steps ≤ atoms
steps_few atoms steps codes distinct =
    let xs = map (λ (s : Step). s.literal / 2) steps in
    let len : length xs ≡ length steps = length-map steps (λ (s : Step). s.literal / 2) in
    let few = distinct_few xs atoms
    (λ i h. let e = atom_at steps i (omega (arith, len)) in let c = codes i (omega (arith, len)) in omega (arith, e, c))
    (λ i j ij h e. distinct i j ij (omega (arith, len)) (sym (atom_at steps i (omega (arith, len))) ∙ e ∙ atom_at steps j (omega (arith, len)))) in
    omega (arith, few, len)

-- no atom twice, as the tables show
pub tables_distinct : (atoms : ℕ) (steps : List Step) (truths : List Truth) (places depths : List ℕ) → AreTables atoms steps truths places depths → (p q : ℕ) → p < q → q < length steps → literal_at steps p / 2 ≢ literal_at steps q / 2
tables_distinct atoms steps truths places depths t p q pq h e =
    let a = t.positions p (omega arith) in let b = t.positions q h in
    let same = ap (λ (x : ℕ). get_or places x 0) e in
    omega (arith, a, b, same)

-- no literal is true and false
pub not_both : (steps : List Step) (literal : ℕ) → ((p q : ℕ) → p < q → q < length steps → literal_at steps p / 2 ≢ literal_at steps q / 2) → IsPlaced steps literal → IsPlaced steps (negated literal) → ⊥
not_both steps literal d a b =
    let same : literal_at steps a.0 / 2 ≡ literal_at steps b.0 / 2 = ap (λ (x : ℕ). x / 2) a.2 ∙ sym (negated-half literal) ∙ sym (ap (λ (x : ℕ). x / 2) b.2) in
    elim (cases_order a.0 b.0) [
      | inl e ↦ negated-≢ literal (sym b.2 ∙ sym (ap (literal_at steps) e) ∙ a.2)
      | inr differ ↦ elim differ [ inl lt ↦ d a.0 b.0 lt b.1 same | inr gt ↦ d b.0 a.0 gt a.1 (sym same) ]
    ]

-- an unassigned atom has no placed literal
pub not_placed : (steps : List Step) (literal other : ℕ) → IsUnassigned steps literal → other / 2 ≡ literal / 2 → IsPlaced steps other → ⊥
not_placed steps literal other u e p = u p.0 p.1 (ap (λ (x : ℕ). x / 2) p.2 ∙ e)

-- a literal whose value isn't false has no false literal in the trail
pub stands_read : (atoms : ℕ) (steps now : List Step) (truths : List Truth) (places depths : List ℕ) (code : ℕ) (r : Truth) → AreTables atoms steps truths places depths → steps ≡ now → length truths ≡ 2 * atoms + 1 → code ≤ 2 * atoms → r ≡ get_or truths code r → (r ≡ Fails → ⊥) → IsPlaced now (negated code) → ⊥
stands_read atoms steps now truths places depths code r t e l h read no_false =
    let lt = not_origin atoms steps truths places depths code r t l h read no_false in
    let d = tables_distinct atoms steps truths places depths t in
    go r (value_read atoms steps now truths places depths code r t e l lt read) (subst (λ (x : List Step). (p q : ℕ) → p < q → q < length x → literal_at x p / 2 ≢ literal_at x q / 2) e d) no_false
  where
    go : (r : Truth) → Tells now code r → ((p q : ℕ) → p < q → q < length now → literal_at now p / 2 ≢ literal_at now q / 2) → (r ≡ Fails → ⊥) → IsPlaced now (negated code) → ⊥
    go Unassigned v d n = not_placed now code (negated code) (v.unassigned refl) (negated-half code)
    go Holds v d n = not_both now code d (v.holds refl)
    go Fails v d n = λ p. n refl

none_some : (b : Bool) → (let none : Option Bool = None in none) ≡ Some b → ⊥
none_some b e = cc

true_false : (let yes : Option Bool = Some true in yes) ≡ Some false → ⊥
true_false e = cc

-- no two values tell the same: a value is none exactly where the atom is unassigned
value_tells : (steps : List Step) (literal : ℕ) (r : Truth) → ((p q : ℕ) → p < q → q < length steps → literal_at steps p / 2 ≢ literal_at steps q / 2) → Tells steps literal r → IsValue steps literal (told r)
value_tells steps literal Unassigned d v = record {
  unassigned = (λ e. v.unassigned refl, λ u. refl);
  holds = (λ e. absurd (none_some true e), λ p. absurd (not_placed steps literal literal (v.unassigned refl) refl p));
  fails = (λ e. absurd (none_some false e), λ p. absurd (not_placed steps literal (negated literal) (v.unassigned refl) (negated-half literal) p));
}
value_tells steps literal Holds d v = record {
  unassigned = (λ e. absurd (none_some true (sym e)), λ u. absurd (not_placed steps literal literal u refl (v.holds refl)));
  holds = (λ e. v.holds refl, λ p. refl);
  fails = (λ e. absurd (true_false e), λ p. absurd (not_both steps literal d (v.holds refl) p));
}
value_tells steps literal Fails d v = record {
  unassigned = (λ e. absurd (none_some false (sym e)), λ u. absurd (not_placed steps literal (negated literal) u (negated-half literal) (v.fails refl)));
  holds = (λ e. absurd (true_false (sym e)), λ p. absurd (not_both steps literal d p (v.fails refl)));
  fails = (λ e. v.fails refl, λ p. refl);
}

-- a read of a value, exactly
pub exact_read : (atoms : ℕ) (steps now : List Step) (truths : List Truth) (places depths : List ℕ) (code : ℕ) (r : Truth) → AreTables atoms steps truths places depths → steps ≡ now → length truths ≡ 2 * atoms + 1 → code < 2 * atoms → r ≡ get_or truths code r → IsValue now code (told r)
exact_read atoms steps now truths places depths code r t e l h read =
    let d = tables_distinct atoms steps truths places depths t in
    value_tells now code r (subst (λ (x : List Step). (p q : ℕ) → p < q → q < length x → literal_at x p / 2 ≢ literal_at x q / 2) e d)
    (value_read atoms steps now truths places depths code r t e l h read)
