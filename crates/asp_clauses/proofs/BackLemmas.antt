-- Tables of a trail that goes back to its first steps.
use Rattle.std.proofs.Common.{◌≡◌, ◌≢◌, ℕ, ◌+◌, ◌*◌, ◌/◌, ◌<◌, ◌≤◌, List, length, get_or, take, refl, sym, ◌∙◌, ap, arith, inl, inr, subst}
use Rattle.std.proofs.lemmas.List.{take-take, length-take-le}
use Rattle.std.proofs.lemmas.Bool.{cases_lt}
use Rattle.std.proofs.lemmas.Bool.{cases_order}
use Rattle.asp_clauses.specs.declared.trail.Truth.{Truth}
use Rattle.asp_clauses.specs.declared.trail.Truth.TheVariants.{Unassigned, Holds, Fails}
use Rattle.asp_clauses.specs.declared.trail.Step.{Step}
use Rattle.asp_clauses.specs.Literal.{negated}
use Rattle.asp_clauses.specs.Trail.{literal_at, decisions, IsPlaced}
use Rattle.asp_clauses.specs.Tables.{Tells, AreTables}
use Rattle.asp_clauses.specs.Moves.{IsCleared}
use Rattle.asp_clauses.proofs.LiteralLemmas.{negated-half, negated-negated}
use Rattle.asp_clauses.proofs.StepsLemmas.{step_at-take}
use Rattle.asp_clauses.proofs.FewLemmas.{tables_distinct}

-- what the values are after the steps from n on were taken back
pub record TakenBack (steps : List Step) (n : ℕ) (truths now : List Truth) : Type 0 where
  pub within : n ≤ length steps
  pub gone : (place : ℕ) → n ≤ place → place < length steps → IsCleared now (literal_at steps place)
  pub kept : (code : ℕ) → ((place : ℕ) → n ≤ place → place < length steps → literal_at steps place / 2 ≢ code / 2) → get_or now code Unassigned ≡ get_or truths code Unassigned

literal_at-take : (steps : List Step) (n place : ℕ) → place < n → literal_at (take n steps) place ≡ literal_at steps place
literal_at-take steps n place h = ap (λ (s : Step). s.literal) (step_at-take steps n place h)

placed_before : (steps : List Step) (n place literal : ℕ) → n ≤ length steps → place < n → literal_at steps place ≡ literal → IsPlaced (take n steps) literal
placed_before steps n place literal w lt e = (place, let l = length-take-le n steps w in omega (arith, l), literal_at-take steps n place lt ∙ e)

-- an atom that stands at one place stands at no other
only_there : (steps : List Step) (atom place other : ℕ) → ((p q : ℕ) → p < q → q < length steps → literal_at steps p / 2 ≢ literal_at steps q / 2) → place < length steps → other < length steps → literal_at steps place / 2 ≡ atom → literal_at steps other / 2 ≡ atom → place ≡ other
only_there steps atom place other d a b e f = elim (cases_order place other) [
  | inl same ↦ same
  | inr differ ↦ elim differ [
    | inl lt ↦ absurd (d place other lt b (e ∙ sym f))
    | inr gt ↦ absurd (d other place gt a (f ∙ sym e))
  ]
]

value_back : (atoms : ℕ) (steps : List Step) (truths now : List Truth) (places depths : List ℕ) (n code : ℕ) → AreTables atoms steps truths places depths → TakenBack steps n truths now → code < 2 * atoms → (r : Truth) → r ≡ get_or truths code Unassigned → Tells (take n steps) code (get_or now code Unassigned)
value_back atoms steps truths now places depths n code t b h Unassigned e =
    let l = length-take-le n steps b.within in
    let un = (t.values code h).unassigned (sym e) in
    let is : get_or now code Unassigned ≡ Unassigned = b.kept code (λ p x y. un p y) ∙ sym e in
    record {
      unassigned = λ w place lt x. un place (omega (arith, lt, l, b.within)) (sym (ap (λ (y : ℕ). y / 2) (literal_at-take steps n place (omega (arith, lt, l)))) ∙ x);
      holds = λ w. let v = sym is ∙ w in cc;
      fails = λ w. let v = sym is ∙ w in cc;
    }
value_back atoms steps truths now places depths n code t b h Holds e =
    let l = length-take-le n steps b.within in
    let d = tables_distinct atoms steps truths places depths t in
    let p = (t.values code h).holds (sym e) in
    let half : literal_at steps p.0 / 2 ≡ code / 2 = ap (λ (x : ℕ). x / 2) p.2 in
    elim (cases_lt p.0 n) [
      | inl lt ↦
          let is : get_or now code Unassigned ≡ Holds = b.kept code (λ q x y z. let same = only_there steps (code / 2) q p.0 d y p.1 z half in absurd (omega (arith, same, x, lt))) ∙ sym e in
          record {
            unassigned = λ w. let v = sym is ∙ w in cc;
            holds = λ w. placed_before steps n p.0 code b.within lt p.2;
            fails = λ w. let v = sym is ∙ w in cc;
          }
      | inr ge ↦
          let is : get_or now code Unassigned ≡ Unassigned = sym (ap (λ (x : ℕ). get_or now x Unassigned) p.2) ∙ (b.gone p.0 ge p.1).itself in
          record {
            unassigned = λ w place lt x.
                let inside : place < length steps = omega (arith, lt, l, b.within) in
                let same = only_there steps (code / 2) place p.0 d inside p.1 (sym (ap (λ (y : ℕ). y / 2) (literal_at-take steps n place (omega (arith, lt, l)))) ∙ x) half in
                absurd (omega (arith, same, lt, l, ge));
            holds = λ w. let v = sym is ∙ w in cc;
            fails = λ w. let v = sym is ∙ w in cc;
          }
    ]
value_back atoms steps truths now places depths n code t b h Fails e =
    let l = length-take-le n steps b.within in
    let d = tables_distinct atoms steps truths places depths t in
    let p = (t.values code h).fails (sym e) in
    let half : literal_at steps p.0 / 2 ≡ code / 2 = ap (λ (x : ℕ). x / 2) p.2 ∙ negated-half code in
    elim (cases_lt p.0 n) [
      | inl lt ↦
          let is : get_or now code Unassigned ≡ Fails = b.kept code (λ q x y z. let same = only_there steps (code / 2) q p.0 d y p.1 z half in absurd (omega (arith, same, x, lt))) ∙ sym e in
          record {
            unassigned = λ w. let v = sym is ∙ w in cc;
            holds = λ w. let v = sym is ∙ w in cc;
            fails = λ w. placed_before steps n p.0 (negated code) b.within lt p.2;
          }
      | inr ge ↦
          let back : negated (literal_at steps p.0) ≡ code = ap negated p.2 ∙ negated-negated code in
          let is : get_or now code Unassigned ≡ Unassigned = sym (ap (λ (x : ℕ). get_or now x Unassigned) back) ∙ (b.gone p.0 ge p.1).negation in
          record {
            unassigned = λ w place lt x.
                let inside : place < length steps = omega (arith, lt, l, b.within) in
                let same = only_there steps (code / 2) place p.0 d inside p.1 (sym (ap (λ (y : ℕ). y / 2) (literal_at-take steps n place (omega (arith, lt, l)))) ∙ x) half in
                absurd (omega (arith, same, lt, l, ge));
            holds = λ w. let v = sym is ∙ w in cc;
            fails = λ w. let v = sym is ∙ w in cc;
          }
    ]

pub AreTables-back : (atoms : ℕ) (steps : List Step) (truths now : List Truth) (places depths : List ℕ) (n : ℕ) → AreTables atoms steps truths places depths → TakenBack steps n truths now → AreTables atoms (take n steps) now places depths
AreTables-back atoms steps truths now places depths n t b =
    let l = length-take-le n steps b.within in
    let within = b.within in
    record {
      codes = λ place h. subst (λ (x : ℕ). x < 2 * atoms) (sym (literal_at-take steps n place (omega (arith, l)))) (t.codes place (omega (arith, l)));
      values = λ code h. value_back atoms steps truths now places depths n code t b h (get_or truths code Unassigned) refl;
      origin_value = b.kept (2 * atoms) (λ place x y e. let c = t.codes place y in absurd (omega (arith, c, e))) ∙ t.origin_value;
      positions = λ place h. ap (λ (x : ℕ). get_or places (x / 2) 0) (literal_at-take steps n place (omega (arith, l))) ∙ t.positions place (omega (arith, l));
      origin_position = t.origin_position;
      levels = λ place h. ap (λ (x : ℕ). get_or depths (x / 2) 0) (literal_at-take steps n place (omega (arith, l))) ∙ t.levels place (omega (arith, l))
          ∙ sym (ap decisions (take-take (place + 1) n steps (omega (arith, l))));
    }

-- as the body takes them back, from the array that begins with the steps
pub taken_back : (items : List Step) (len n : ℕ) (truths now : List Truth) → n ≤ len → len ≤ length items →
    ((place : ℕ) → n ≤ place → place < len → IsCleared now (literal_at items place)) →
    ((code : ℕ) → ((place : ℕ) → n ≤ place → place < len → literal_at items place / 2 ≢ code / 2) → get_or now code Unassigned ≡ get_or truths code Unassigned) →
    TakenBack (take len items) n truths now
taken_back items len n truths now a b gone kept =
    let l = length-take-le len items b in
    record {
      within = omega (arith, l);
      gone = λ place x y. subst (IsCleared now) (sym (literal_at-take items len place (omega (arith, l)))) (gone place x (omega (arith, l)));
      kept = λ code o. kept code (λ place x y e. o place x (omega (arith, l)) (ap (λ (z : ℕ). z / 2) (literal_at-take items len place y) ∙ e));
    }
