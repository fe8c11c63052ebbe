-- Tables and marks of a trail, where one more literal is placed.
use Rattle.std.proofs.Common.{◌≡◌, ◌≢◌, ℕ, zero, suc, ◌+◌, ◌-◌, ◌*◌, ◌/◌, ◌<◌, ◌≤◌, ◌⊎◌, Bool, true, false, cond, List, [], ◌∷◌, ◌++◌, length, get_or, set, take, refl, sym, ◌∙◌, ap, arith, inl, inr, subst, length-set, add-one, not, lit≤}
use Rattle.std.proofs.lemmas.List.{length_push, get_or_append_left, get_or_push, take-append-le, take_all, get_or-set_same, get_or-set_other, get_or_read, take_more_set, take-set-le, set_past, get_or_past}
use Rattle.std.proofs.lemmas.Bool.{cases_lt, cases_Bool, cases_eq}
use Rattle.std.specs.Int.{from_bool}
use Rattle.asp_clauses.specs.declared.trail.Truth.{Truth}
use Rattle.asp_clauses.specs.declared.trail.Truth.TheVariants.{Unassigned, Holds, Fails}
use Rattle.asp_clauses.specs.declared.trail.Step.{Step}
use Rattle.asp_clauses.specs.declared.trail.Mark.{Mark}
use Rattle.asp_clauses.specs.Literal.{negated}
use Rattle.asp_clauses.specs.Trail.{step_at, literal_at, no_mark, mark_at, is_decision, decisions, IsPlaced, IsUnassigned}
use Rattle.asp_clauses.specs.Tables.{Tells, AreTables, IsMark, AreMarks}
use Rattle.asp_clauses.specs.Book.{visit_at}
use Rattle.asp_clauses.specs.Moves.{IsCleared, IsOutside}
use Rattle.asp_clauses.proofs.LiteralLemmas.{negated-half, same_half, negated-negated, negated-≢, negated-lt}
use Rattle.asp_clauses.proofs.StepsLemmas.{place_cases, step_at-push, step_at-last, IsPlaced-push, IsPlaced-last, IsUnassigned-push, decisions-push_yes, decisions-push_no}

-- the values after a literal became true
abbrev pub assigned : List Truth → ℕ → List Truth
assigned truths literal = set (set truths literal Holds) (negated literal) Fails

assigned_itself : (truths : List Truth) (literal : ℕ) → literal < length truths → get_or (assigned truths literal) literal Unassigned ≡ Holds
assigned_itself truths literal h =
    let ne : literal ≢ negated literal = λ e. negated-≢ literal (sym e) in
    get_or-set_other (set truths literal Holds) (negated literal) literal Fails Unassigned ne ∙ get_or-set_same truths literal Holds Unassigned h

assigned_negation : (truths : List Truth) (literal : ℕ) → negated literal < length truths → get_or (assigned truths literal) (negated literal) Unassigned ≡ Fails
assigned_negation truths literal h = get_or-set_same (set truths literal Holds) (negated literal) Fails Unassigned (let l = length-set truths literal Holds in omega (arith, l))

pub assigned_others : (truths : List Truth) (literal code : ℕ) → code / 2 ≢ literal / 2 → get_or (assigned truths literal) code Unassigned ≡ get_or truths code Unassigned
assigned_others truths literal code h =
    let one : code ≢ negated literal = λ e. h (ap (λ (x : ℕ). x / 2) e ∙ negated-half literal) in
    let two : code ≢ literal = λ e. h (ap (λ (x : ℕ). x / 2) e) in
    get_or-set_other (set truths literal Holds) (negated literal) code Fails Unassigned one ∙ get_or-set_other truths literal code Holds Unassigned two

value_pushed : (steps : List Step) (step : Step) (truths : List Truth) → step.literal < length truths → negated step.literal < length truths → (code : ℕ) → Tells steps code (get_or truths code Unassigned) → Tells (steps ++ step ∷ []) code (get_or (assigned truths step.literal) code Unassigned)
value_pushed steps step truths h g code v = elim (cases_eq (code / 2) (step.literal / 2)) [
  | inl same ↦ elim (same_half code step.literal same) [
    | inl is ↦
        let now : get_or (assigned truths step.literal) code Unassigned ≡ Holds = ap (λ (x : ℕ). get_or (assigned truths step.literal) x Unassigned) is ∙ assigned_itself truths step.literal h in
        record {
          unassigned = λ e. let w = sym e ∙ now in cc;
          holds = λ e. subst (λ (x : ℕ). IsPlaced (steps ++ step ∷ []) x) (sym is) (IsPlaced-last steps step);
          fails = λ e. let w = sym e ∙ now in cc;
        }
    | inr is ↦
        let now : get_or (assigned truths step.literal) code Unassigned ≡ Fails = ap (λ (x : ℕ). get_or (assigned truths step.literal) x Unassigned) is ∙ assigned_negation truths step.literal g in
        let back : step.literal ≡ negated code = sym (ap negated is ∙ negated-negated step.literal) in
        record {
          unassigned = λ e. let w = sym e ∙ now in cc;
          holds = λ e. let w = sym e ∙ now in cc;
          fails = λ e. subst (λ (x : ℕ). IsPlaced (steps ++ step ∷ []) x) back (IsPlaced-last steps step);
        }
  ]
  | inr other ↦
      let now = assigned_others truths step.literal code other in
      record {
        unassigned = λ e. IsUnassigned-push steps step code (v.unassigned (sym now ∙ e)) (λ x. other (sym x));
        holds = λ e. IsPlaced-push steps step code (v.holds (sym now ∙ e));
        fails = λ e. IsPlaced-push steps step (negated code) (v.fails (sym now ∙ e));
      }
]

-- the tables after a placement
pub AreTables-push : (atoms : ℕ) (steps : List Step) (truths : List Truth) (places depths : List ℕ) (step : Step) (depth : ℕ) →
    AreTables atoms steps truths places depths → step.literal < 2 * atoms → IsUnassigned steps step.literal →
    length truths ≡ 2 * atoms + 1 → length places ≡ atoms + 1 → length depths ≡ atoms → depth ≡ decisions (steps ++ step ∷ []) →
    AreTables atoms (steps ++ step ∷ []) (assigned truths step.literal) (set places (step.literal / 2) (length steps + 1)) (set depths (step.literal / 2) depth)
AreTables-push atoms steps truths places depths step depth t code un lt lp ld dep =
    let literal = step.literal in
    let neg = negated-lt literal atoms code in
    let half : literal / 2 < atoms = omega arith in
    record {
      codes = λ place h. elim (place_cases steps step place h) [
        | inl lt ↦ subst (λ (s : Step). s.literal < 2 * atoms) (sym (step_at-push steps step place lt)) (t.codes place lt)
        | inr eq ↦ subst (λ (s : Step). s.literal < 2 * atoms) (sym (step_at-last steps step place eq)) code
      ];
      values = λ c h. value_pushed steps step truths (omega arith) (omega (arith, neg)) c (t.values c h);
      origin_value = assigned_others truths literal (2 * atoms) (omega arith) ∙ t.origin_value;
      positions = λ place h. elim (place_cases steps step place h) [
        | inl lt ↦
            ap (λ (s : Step). get_or (set places (literal / 2) (length steps + 1)) (s.literal / 2) 0) (step_at-push steps step place lt)
            ∙ get_or-set_other places (literal / 2) (literal_at steps place / 2) (length steps + 1) 0 (un place lt) ∙ t.positions place lt
        | inr eq ↦
            ap (λ (s : Step). get_or (set places (literal / 2) (length steps + 1)) (s.literal / 2) 0) (step_at-last steps step place eq)
            ∙ get_or-set_same places (literal / 2) (length steps + 1) 0 (omega arith) ∙ ap (λ (n : ℕ). n + 1) (sym eq)
      ];
      origin_position = let ne : atoms ≢ literal / 2 = omega arith in get_or-set_other places (literal / 2) atoms (length steps + 1) 0 ne ∙ t.origin_position;
      levels = λ place h. elim (place_cases steps step place h) [
        | inl lt ↦
            ap (λ (s : Step). get_or (set depths (literal / 2) depth) (s.literal / 2) 0) (step_at-push steps step place lt)
            ∙ get_or-set_other depths (literal / 2) (literal_at steps place / 2) depth 0 (un place lt) ∙ t.levels place lt
            ∙ sym (ap decisions (take-append-le (place + 1) steps (step ∷ []) (omega arith)))
        | inr eq ↦
            ap (λ (s : Step). get_or (set depths (literal / 2) depth) (s.literal / 2) 0) (step_at-last steps step place eq)
            ∙ get_or-set_same depths (literal / 2) depth 0 (omega arith) ∙ dep
            ∙ sym (ap decisions (take_all (place + 1) (steps ++ step ∷ []) (let l = length_push steps step in omega (arith, l, eq))))
      ];
    }

pub IsMark-push : (steps : List Step) (step : Step) (level : ℕ) (mark : Mark) → IsMark steps level mark → IsMark (steps ++ step ∷ []) level mark
IsMark-push steps step level mark m = record {
  within = let l = length_push steps step in omega (arith, l, m.within);
  decision = ap is_decision (step_at-push steps step mark.start m.within) ∙ m.decision;
  before = ap decisions (take-append-le mark.start steps (step ∷ []) (omega (arith, m.within))) ∙ m.before;
  visits = m.visits;
}

-- the marks after an implied literal
pub AreMarks-implied : (steps : List Step) (marks : List Mark) (head : ℕ) (step : Step) → AreMarks steps marks head → is_decision step ≡ false → AreMarks (steps ++ step ∷ []) marks head
AreMarks-implied steps marks head step m d = record {
  as_many = m.as_many ∙ sym (decisions-push_no steps step d);
  each = λ level h. IsMark-push steps step level (mark_at marks level) (m.each level h);
  ordered = m.ordered;
  last = m.last;
  visits = let l = length_push steps step in omega (arith, l, m.visits);
}

-- a level of the longer list of marks
pub level_cases : (marks : List Mark) (mark : Mark) (level : ℕ) → level < length (marks ++ mark ∷ []) → (level < length marks) ⊎ (level ≡ length marks)
level_cases marks mark level h = let l = length_push marks mark in elim (cases_lt level (length marks)) [ inl a ↦ inl a | inr b ↦ inr (omega (arith, l)) ]

pub mark_at-push : (marks : List Mark) (mark : Mark) (level : ℕ) → level < length marks → mark_at (marks ++ mark ∷ []) level ≡ mark_at marks level
mark_at-push marks mark level h = get_or_append_left marks (mark ∷ []) no_mark level h

pub mark_at-last : (marks : List Mark) (mark : Mark) (level : ℕ) → level ≡ length marks → mark_at (marks ++ mark ∷ []) level ≡ mark
mark_at-last marks mark level e = get_or_push marks mark no_mark level (sym e)

-- the mark of a decision that is placed
abbrev pub mark_here : List Step → ℕ → Mark
mark_here steps head = record { start = length steps; head = head }

pub AreMarks-decided : (steps : List Step) (marks : List Mark) (head : ℕ) (step : Step) → AreMarks steps marks head → is_decision step ≡ true → AreMarks (steps ++ step ∷ []) (marks ++ mark_here steps head ∷ []) head
AreMarks-decided steps marks head step m d =
    let new = mark_here steps head in
    let l = length_push steps step in
    let here : IsMark (steps ++ step ∷ []) (length marks) new = record {
      within = omega (arith, l);
      decision = ap is_decision (step_at-last steps step (length steps) refl) ∙ d;
      before = ap decisions (take-append-le (length steps) steps (step ∷ []) (omega arith) ∙ take_all (length steps) steps (omega arith)) ∙ sym m.as_many;
      visits = m.visits;
    } in
    record {
      as_many = length_push marks new ∙ ap (λ (n : ℕ). n + 1) m.as_many ∙ sym (decisions-push_yes steps step d);
      each = λ level h. elim (level_cases marks new level h) [
        | inl lt ↦ subst (IsMark (steps ++ step ∷ []) level) (sym (mark_at-push marks new level lt)) (IsMark-push steps step level (mark_at marks level) (m.each level lt))
        | inr eq ↦ subst (IsMark (steps ++ step ∷ []) level) (sym (mark_at-last marks new level eq)) (subst (λ (n : ℕ). IsMark (steps ++ step ∷ []) n new) (sym eq) here)
      ];
      ordered = λ i j ij h. elim (level_cases marks new j h) [
        | inl lt ↦ subst (λ (x : Mark). x.head ≤ (mark_at (marks ++ new ∷ []) j).head) (sym (mark_at-push marks new i (omega arith)))
            (subst (λ (x : Mark). (mark_at marks i).head ≤ x.head) (sym (mark_at-push marks new j lt)) (m.ordered i j ij lt))
        | inr eq ↦ subst (λ (x : Mark). (mark_at (marks ++ new ∷ []) i).head ≤ x.head) (sym (mark_at-last marks new j eq))
            (elim (level_cases marks new i (omega arith)) [
              | inl lt ↦ subst (λ (x : Mark). x.head ≤ head) (sym (mark_at-push marks new i lt)) (m.last i lt)
              | inr same ↦ subst (λ (x : Mark). x.head ≤ head) (sym (mark_at-last marks new i same)) (omega arith)
            ])
      ];
      last = λ level h. elim (level_cases marks new level h) [
        | inl lt ↦ subst (λ (x : Mark). x.head ≤ head) (sym (mark_at-push marks new level lt)) (m.last level lt)
        | inr eq ↦ subst (λ (x : Mark). x.head ≤ head) (sym (mark_at-last marks new level eq)) (omega arith)
      ];
      visits = omega (arith, l, m.visits);
    }

-- a read of a value
pub value_read : (atoms : ℕ) (steps now : List Step) (truths : List Truth) (places depths : List ℕ) (code : ℕ) (r : Truth) → AreTables atoms steps truths places depths → steps ≡ now → length truths ≡ 2 * atoms + 1 → code < 2 * atoms → r ≡ get_or truths code r → Tells now code r
value_read atoms steps now truths places depths code r t e l h read =
    subst (λ (x : List Step). Tells x code r) e (subst (Tells steps code) (sym (get_or_read truths code r (omega arith) read Unassigned)) (t.values code h))

-- a read of a position
pub position_read : (atoms : ℕ) (steps : List Step) (truths : List Truth) (places depths : List ℕ) (code r : ℕ) → AreTables atoms steps truths places depths → length places ≡ atoms + 1 → code ≤ 2 * atoms → (code < 2 * atoms → IsPlaced steps (negated code)) → r ≡ get_or places (code / 2) r → (r ≤ length steps) × (visit_at atoms steps r ≡ code)
position_read atoms steps truths places depths code r t l h fails read =
    let same : r ≡ get_or places (code / 2) 0 = get_or_read places (code / 2) r (omega arith) read 0 in
    elim (cases_lt code (2 * atoms)) [
      | inl lt ↦
          let p = fails lt in
          let half : literal_at steps p.0 / 2 ≡ code / 2 = ap (λ (x : ℕ). x / 2) p.2 ∙ negated-half code in
          let is : r ≡ suc p.0 = same ∙ sym (ap (λ (x : ℕ). get_or places x 0) half) ∙ t.positions p.0 p.1 ∙ add-one p.0 in
          (omega (arith, p.1, is), subst (λ (x : ℕ). visit_at atoms steps x ≡ code) (sym is) (ap negated p.2 ∙ negated-negated code))
      | inr ge ↦
          let half : code / 2 ≡ atoms = omega arith in
          let is : r ≡ 0 = same ∙ ap (λ (x : ℕ). get_or places x 0) half ∙ t.origin_position in
          (omega (arith, is), subst (λ (x : ℕ). visit_at atoms steps x ≡ code) (sym is) (omega arith))
    ]

-- the next visit
pub next_read : (atoms : ℕ) (steps : List Step) (head : ℕ) (s : Step) (code : ℕ) → 0 < head → head ≤ length steps → s ≡ step_at steps (head - 1) → code ≡ negated s.literal → code ≡ visit_at atoms steps head
next_read atoms steps head s code some h read e =
    let one : head ≡ suc (head - 1) = omega arith in
    e ∙ ap (λ (x : Step). negated x.literal) read ∙ sym (ap (visit_at atoms steps) one)

-- the steps and marks that the fields hold after a placement
pub steps_after : (steps : List Step) (len : ℕ) (step : Step) → len < length steps → take (len + 1) (set steps len step) ≡ take len steps ++ step ∷ []
steps_after steps len step h = take_more_set steps len step h

pub marks_after : (marks : List Mark) (decided more : ℕ) (mark : Mark) (step : Step) → decided < length marks → more ≡ from_bool (is_decision step) →
    take (decided + more) (set marks decided mark) ≡ cond (is_decision step) (take decided marks ++ mark ∷ []) (take decided marks)
marks_after marks decided more mark step h e = elim (cases_Bool (is_decision step)) [
  | inl t ↦
      let one : more ≡ 1 = e ∙ ap from_bool t in
      ap (λ (n : ℕ). take (decided + n) (set marks decided mark)) one ∙ take_more_set marks decided mark h
      ∙ sym (ap (λ (b : Bool). cond b (take decided marks ++ mark ∷ []) (take decided marks)) t)
  | inr f ↦
      let none : decided + more ≡ decided = omega (arith, e ∙ ap from_bool f) in
      ap (λ (n : ℕ). take n (set marks decided mark)) none ∙ take-set-le decided marks decided mark (omega arith)
      ∙ sym (ap (λ (b : Bool). cond b (take decided marks ++ mark ∷ []) (take decided marks)) f)
]

pub AreMarks-after : (steps : List Step) (marks : List Mark) (head : ℕ) (step : Step) → AreMarks steps marks head → AreMarks (steps ++ step ∷ []) (cond (is_decision step) (marks ++ mark_here steps head ∷ []) marks) head
AreMarks-after steps marks head step m = elim (cases_Bool (is_decision step)) [
  | inl t ↦ subst (λ (b : Bool). AreMarks (steps ++ step ∷ []) (cond b (marks ++ mark_here steps head ∷ []) marks) head) (sym t) (AreMarks-decided steps marks head step m t)
  | inr f ↦ subst (λ (b : Bool). AreMarks (steps ++ step ∷ []) (cond b (marks ++ mark_here steps head ∷ []) marks) head) (sym f) (AreMarks-implied steps marks head step m f)
]

-- how many decisions there are after a placement
pub decisions_after : (steps : List Step) (marks : List Mark) (head : ℕ) (step : Step) (decided more : ℕ) → AreMarks steps marks head → length marks ≡ decided → more ≡ from_bool (is_decision step) → decided + more ≡ decisions (steps ++ step ∷ [])
decisions_after steps marks head step decided more m l e = elim (cases_Bool (is_decision step)) [
  | inl t ↦ let p = decisions-push_yes steps step t in omega (arith, p, l, m.as_many, e ∙ ap from_bool t)
  | inr f ↦ let p = decisions-push_no steps step f in omega (arith, p, l, m.as_many, e ∙ ap from_bool f)
]

pub not_back : (a b : Bool) → a ≡ not b → b ≡ not a
not_back a true e = sym (ap not e)
not_back a false e = sym (ap not e)

pub from_bool-le : (b : Bool) → from_bool b ≤ 1
from_bool-le true = lit≤ tt
from_bool-le false = lit≤ tt

-- the values after a literal was taken back
abbrev pub cleared : List Truth → ℕ → List Truth
cleared truths literal = set (set truths literal Unassigned) (negated literal) Unassigned

none_stays : (truths : List Truth) (i j : ℕ) → get_or truths j Unassigned ≡ Unassigned → get_or (set truths i Unassigned) j Unassigned ≡ Unassigned
none_stays truths i j e = elim (cases_eq j i) [
  | inl same ↦ elim (cases_lt i (length truths)) [
    | inl lt ↦ ap (λ (x : ℕ). get_or (set truths i Unassigned) x Unassigned) same ∙ get_or-set_same truths i Unassigned Unassigned lt
    | inr ge ↦ ap (λ (x : List Truth). get_or x j Unassigned) (set_past truths i Unassigned ge) ∙ e
  ]
  | inr ne ↦ get_or-set_other truths i j Unassigned Unassigned ne ∙ e
]

none_here : (truths : List Truth) (i : ℕ) → get_or (set truths i Unassigned) i Unassigned ≡ Unassigned
none_here truths i = elim (cases_lt i (length truths)) [
  | inl lt ↦ get_or-set_same truths i Unassigned Unassigned lt
  | inr ge ↦ get_or_past (set truths i Unassigned) i Unassigned (let l = length-set truths i Unassigned in omega (arith, l))
]

pub IsCleared-stays : (truths : List Truth) (literal other : ℕ) → IsCleared truths other → IsCleared (cleared truths literal) other
IsCleared-stays truths literal other c = record {
  itself = none_stays (set truths literal Unassigned) (negated literal) other (none_stays truths literal other c.itself);
  negation = none_stays (set truths literal Unassigned) (negated literal) (negated other) (none_stays truths literal (negated other) c.negation);
}

pub IsCleared-here : (truths : List Truth) (literal : ℕ) → IsCleared (cleared truths literal) literal
IsCleared-here truths literal = record {
  itself = none_stays (set truths literal Unassigned) (negated literal) literal (none_here truths literal);
  negation = none_here (set truths literal Unassigned) (negated literal);
}

pub cleared_others : (truths : List Truth) (literal code : ℕ) → literal / 2 ≢ code / 2 → get_or (cleared truths literal) code Unassigned ≡ get_or truths code Unassigned
cleared_others truths literal code h =
    let one : code ≢ negated literal = λ e. h (sym (ap (λ (x : ℕ). x / 2) e ∙ negated-half literal)) in
    let two : code ≢ literal = λ e. h (sym (ap (λ (x : ℕ). x / 2) e)) in
    get_or-set_other (set truths literal Unassigned) (negated literal) code Unassigned Unassigned one ∙ get_or-set_other truths literal code Unassigned Unassigned two

-- the loop that clears: its facts, and one more step
pub record ClearedTo (steps : List Step) (before now : List Truth) (from to : ℕ) : Type 0 where
  pub gone : (place : ℕ) → from ≤ place → place < to → IsCleared now (literal_at steps place)
  pub kept : (code : ℕ) → IsOutside steps from to code → get_or now code Unassigned ≡ get_or before code Unassigned

pub ClearedTo-none : (steps : List Step) (before : List Truth) (from : ℕ) → ClearedTo steps before before from from
ClearedTo-none steps before from = record { gone = λ place a b. absurd (omega arith); kept = λ code o. refl }

pub ClearedTo-more : (steps : List Step) (before now : List Truth) (from to : ℕ) → from ≤ to → ClearedTo steps before now from to → ClearedTo steps before (cleared now (literal_at steps to)) from (to + 1)
ClearedTo-more steps before now from to h c = record {
  gone = λ place a b. elim (cases_lt place to) [
    | inl lt ↦ IsCleared-stays now (literal_at steps to) (literal_at steps place) (c.gone place a lt)
    | inr ge ↦ let same : place ≡ to = omega arith in subst (λ (x : ℕ). IsCleared (cleared now (literal_at steps to)) (literal_at steps x)) (sym same) (IsCleared-here now (literal_at steps to))
  ];
  kept = λ code o. cleared_others now (literal_at steps to) code (o to h (omega arith)) ∙ c.kept code (λ place a b. o place a (omega arith));
}

-- what else a value tells
pub true_read : (atoms : ℕ) (steps now : List Step) (truths : List Truth) (places depths : List ℕ) (code : ℕ) (r : Truth) → AreTables atoms steps truths places depths → steps ≡ now → length truths ≡ 2 * atoms + 1 → code ≤ 2 * atoms → r ≡ get_or truths code r → r ≡ Holds → IsPlaced now code
true_read atoms steps now truths places depths code r t e l h read is = elim (cases_lt code (2 * atoms)) [
  | inl lt ↦ (value_read atoms steps now truths places depths code r t e l lt read).holds is
  | inr ge ↦
      let end_is : code ≡ 2 * atoms = omega arith in
      let v : r ≡ Fails = get_or_read truths code r (omega arith) read Unassigned ∙ ap (λ (x : ℕ). get_or truths x Unassigned) end_is ∙ t.origin_value in
      let w = sym is ∙ v in cc
]

pub open_read : (atoms : ℕ) (steps now : List Step) (truths : List Truth) (places depths : List ℕ) (code : ℕ) (r : Truth) → AreTables atoms steps truths places depths → steps ≡ now → length truths ≡ 2 * atoms + 1 → code < 2 * atoms → r ≡ get_or truths code r → (r ≡ Holds → ⊥) → IsUnassigned now code ⊎ IsPlaced now (negated code)
open_read atoms steps now truths places depths code r t e l h read no_true = go r (value_read atoms steps now truths places depths code r t e l h read) no_true
  where
    go : (r : Truth) → Tells now code r → (r ≡ Holds → ⊥) → IsUnassigned now code ⊎ IsPlaced now (negated code)
    go Unassigned v n = inl (v.unassigned refl)
    go Holds v n = absurd (n refl)
    go Fails v n = inr (v.fails refl)

pub not_origin : (atoms : ℕ) (steps : List Step) (truths : List Truth) (places depths : List ℕ) (code : ℕ) (r : Truth) → AreTables atoms steps truths places depths → length truths ≡ 2 * atoms + 1 → code ≤ 2 * atoms → r ≡ get_or truths code r → (r ≡ Fails → ⊥) → code < 2 * atoms
not_origin atoms steps truths places depths code r t l h read no_false = elim (cases_lt code (2 * atoms)) [
  | inl lt ↦ lt
  | inr ge ↦
      let end_is : code ≡ 2 * atoms = omega arith in
      absurd (no_false (get_or_read truths code r (omega arith) read Unassigned ∙ ap (λ (x : ℕ). get_or truths x Unassigned) end_is ∙ t.origin_value))
]

-- the position of a literal is its only visit
pub position_only : (atoms : ℕ) (steps : List Step) (truths : List Truth) (places depths : List ℕ) (code r : ℕ) → AreTables atoms steps truths places depths → length places ≡ atoms + 1 → code ≤ 2 * atoms → r ≡ get_or places (code / 2) r → (visit : ℕ) → visit ≤ length steps → visit_at atoms steps visit ≡ code → visit ≡ r
position_only atoms steps truths places depths code r t l h read zero v e =
    let same : r ≡ get_or places (code / 2) 0 = get_or_read places (code / 2) r (omega arith) read 0 in
    let half : code / 2 ≡ atoms = omega (arith, e) in
    sym (same ∙ ap (λ (x : ℕ). get_or places x 0) half ∙ t.origin_position)
position_only atoms steps truths places depths code r t l h read (suc place) v e =
    let same : r ≡ get_or places (code / 2) 0 = get_or_read places (code / 2) r (omega arith) read 0 in
    let half : literal_at steps place / 2 ≡ code / 2 = sym (negated-half (literal_at steps place)) ∙ ap (λ (x : ℕ). x / 2) e in
    sym (same ∙ sym (ap (λ (x : ℕ). get_or places x 0) half) ∙ t.positions place (omega arith) ∙ add-one place)
