-- A trail whose reasons got other numbers.
use Rattle.std.proofs.Common.{◌≡◌, ℕ, zero, suc, ◌+◌, ◌-◌, ◌*◌, ◌/◌, ◌^◌, ◌<◌, ◌≤◌, Bool, true, false, cond, List, [], ◌∷◌, ◌++◌, length, get_or, take, map, set, refl, sym, ◌∙◌, ap, arith, inl, inr, subst, length-set, Option, Some, None, option_map, is_none, zero-add}
use Rattle.std.proofs.Math.ListN.{get_or-map}
use Rattle.std.proofs.lemmas.List.{take-map, length-map, take_more, take_more_set, map-append, get_or-set_same, get_or-set_other, length-take-le, get_or-take}
use Rattle.std.proofs.lemmas.Bool.{cases_eq}
use Rattle.std.proofs.lemmas.List.Sums.{sum_by-append}
use Rattle.asp_clauses.specs.declared.trail.Truth.{Truth}
use Rattle.asp_clauses.specs.declared.trail.Truth.TheVariants.{Unassigned}
use Rattle.asp_clauses.specs.declared.trail.Step.{Step}
use Rattle.asp_clauses.specs.declared.trail.Mark.{Mark}
use Rattle.asp_clauses.specs.Literal.{negated}
use Rattle.asp_clauses.specs.Trail.{TrailState, no_step, step_at, literal_at, mark_at, is_decision, decisions, digit, number, IsPlaced, IsUnassigned, Implies, IsLawful, clause_at}
use Rattle.asp_clauses.specs.Tables.{Tells, AreTables, AreMarks}
use Rattle.asp_clauses.specs.Book.{BookState, visit_at, first_watch, second_watch, IsGuarded, IsWatched, AllWatched, Goes}
use Rattle.asp_clauses.specs.Kept.{kept, new_number, mark_of, renamed, renumbered, IsReason, MarksReasons}
use Rattle.asp_clauses.proofs.KeptLemmas.{from_old, from_before, IsAtNew, at_new, new_number-le-kept}

pub step_at-renamed : (g : ℕ → ℕ) (steps : List Step) (place : ℕ) → step_at (map (renamed g) steps) place ≡ renamed g (step_at steps place)
step_at-renamed g steps place = get_or-map (renamed g) steps place no_step

pub literal_at-renamed : (g : ℕ → ℕ) (steps : List Step) (place : ℕ) → literal_at (map (renamed g) steps) place ≡ literal_at steps place
literal_at-renamed g steps place = ap (λ (s : Step). s.literal) (step_at-renamed g steps place)

is_none-mapped : (g : ℕ → ℕ) (reason : Option ℕ) → is_none (option_map g reason) ≡ is_none reason
is_none-mapped g None = refl
is_none-mapped g (Some clause) = refl

pub is_decision-renamed : (g : ℕ → ℕ) (step : Step) → is_decision (renamed g step) ≡ is_decision step
is_decision-renamed g step = is_none-mapped g step.reason

decisions-cons : (step : Step) (later : List Step) → decisions (step ∷ later) ≡ cond {A = ℕ} (is_decision step) 1 0 + decisions later
decisions-cons step later =
    sum_by-append (λ (x : Step). cond (is_decision x) 1 0) (step ∷ []) later ∙ ap (λ (n : ℕ). n + decisions later) (zero-add (cond {A = ℕ} (is_decision step) 1 0))

pub decisions-renamed : (g : ℕ → ℕ) (steps : List Step) → decisions (map (renamed g) steps) ≡ decisions steps
decisions-renamed g [] = refl
decisions-renamed g (step ∷ later) =
    decisions-cons (renamed g step) (map (renamed g) later)
    ∙ ap (λ (b : Bool). cond {A = ℕ} b 1 0 + decisions (map (renamed g) later)) (is_decision-renamed g step)
    ∙ ap (λ (n : ℕ). cond {A = ℕ} (is_decision step) 1 0 + n) (decisions-renamed g later)
    ∙ sym (decisions-cons step later)

pub decisions-take-renamed : (g : ℕ → ℕ) (steps : List Step) (n : ℕ) → decisions (take n (map (renamed g) steps)) ≡ decisions (take n steps)
decisions-take-renamed g steps n = ap decisions (take-map (renamed g) n steps) ∙ decisions-renamed g (take n steps)

pub number-renamed : (g : ℕ → ℕ) (atoms : ℕ) (steps : List Step) → number atoms (map (renamed g) steps) ≡ number atoms steps
unfolding number
number-renamed g atoms [] = refl
number-renamed g atoms (step ∷ later) =
    ap (λ (b : Bool). cond {A = ℕ} b 1 2 * 3 ^ (atoms - 1) + number (atoms - 1) (map (renamed g) later)) (is_decision-renamed g step)
    ∙ ap (λ (n : ℕ). digit step * 3 ^ (atoms - 1) + n) (number-renamed g (atoms - 1) later)

pub IsPlaced-renamed : (g : ℕ → ℕ) (steps : List Step) (literal : ℕ) → IsPlaced steps literal → IsPlaced (map (renamed g) steps) literal
IsPlaced-renamed g steps literal p = (p.0, let l = length-map steps (renamed g) in let w = p.1 in omega (arith, l, w), literal_at-renamed g steps p.0 ∙ p.2)

pub IsPlaced-before : (g : ℕ → ℕ) (steps : List Step) (literal : ℕ) → IsPlaced (map (renamed g) steps) literal → IsPlaced steps literal
IsPlaced-before g steps literal p = (p.0, let l = length-map steps (renamed g) in let w = p.1 in omega (arith, l, w), sym (literal_at-renamed g steps p.0) ∙ p.2)

pub IsUnassigned-renamed : (g : ℕ → ℕ) (steps : List Step) (literal : ℕ) → IsUnassigned steps literal → IsUnassigned (map (renamed g) steps) literal
IsUnassigned-renamed g steps literal u place h e = u place (let l = length-map steps (renamed g) in omega (arith, l, h)) (sym (ap (λ (n : ℕ). n / 2) (literal_at-renamed g steps place)) ∙ e)

pub visit_at-renamed : (g : ℕ → ℕ) (atoms : ℕ) (steps : List Step) (visit : ℕ) → visit_at atoms (map (renamed g) steps) visit ≡ visit_at atoms steps visit
visit_at-renamed g atoms steps zero = refl
visit_at-renamed g atoms steps (suc place) = ap negated (literal_at-renamed g steps place)

pub Implies-renamed : (g : ℕ → ℕ) (steps : List Step) (clause : List ℕ) (literal : ℕ) → Implies steps clause literal → Implies (map (renamed g) steps) clause literal
Implies-renamed g steps clause literal i = record { has = i.has; others_fail = λ other c ne. IsPlaced-renamed g steps (negated other) (i.others_fail other c ne) }

-- tables and marks don't look at the numbers of reasons
Tells-renamed : (g : ℕ → ℕ) (steps : List Step) (literal : ℕ) (value : Truth) → Tells steps literal value → Tells (map (renamed g) steps) literal value
Tells-renamed g steps literal value t = record {
  unassigned = λ e. IsUnassigned-renamed g steps literal (t.unassigned e);
  holds = λ e. IsPlaced-renamed g steps literal (t.holds e);
  fails = λ e. IsPlaced-renamed g steps (negated literal) (t.fails e);
}

pub AreTables-renamed : (g : ℕ → ℕ) (atoms : ℕ) (steps : List Step) (truths : List Truth) (places depths : List ℕ) → AreTables atoms steps truths places depths → AreTables atoms (map (renamed g) steps) truths places depths
AreTables-renamed g atoms steps truths places depths t =
    let len = length-map steps (renamed g) in
    record {
      codes = λ place h. subst (λ (n : ℕ). n < 2 * atoms) (sym (literal_at-renamed g steps place)) (t.codes place (omega (arith, len, h)));
      values = λ code h. Tells-renamed g steps code (get_or truths code Unassigned) (t.values code h);
      origin_value = t.origin_value;
      positions = λ place h. ap (λ (n : ℕ). get_or places (n / 2) 0) (literal_at-renamed g steps place) ∙ t.positions place (omega (arith, len, h));
      origin_position = t.origin_position;
      levels = λ place h. ap (λ (n : ℕ). get_or depths (n / 2) 0) (literal_at-renamed g steps place) ∙ t.levels place (omega (arith, len, h)) ∙ sym (decisions-take-renamed g steps (place + 1));
    }

pub AreMarks-renamed : (g : ℕ → ℕ) (steps : List Step) (marks : List Mark) (head : ℕ) → AreMarks steps marks head → AreMarks (map (renamed g) steps) marks head
AreMarks-renamed g steps marks head m =
    let len = length-map steps (renamed g) in
    record {
      as_many = m.as_many ∙ sym (decisions-renamed g steps);
      each = λ level h.
          let k = m.each level h in
          record {
            within = let w = k.within in omega (arith, len, w);
            decision = ap is_decision (step_at-renamed g steps (mark_at marks level).start) ∙ is_decision-renamed g (step_at steps (mark_at marks level).start) ∙ k.decision;
            before = decisions-take-renamed g steps (mark_at marks level).start ∙ k.before;
            visits = k.visits;
          };
      ordered = m.ordered;
      last = m.last;
      visits = let v = m.visits in omega (arith, len, v);
    }

-- ---- the book's clauses after some went
-- what becomes of book and trail
pub record Removes (old new : BookState) (marks : List Bool) (steps : List Step) : Type 0 where
  pub atoms : new.atoms ≡ old.atoms
  pub clauses : new.clauses ≡ kept marks old.clauses
  pub watched : new.watched ≡ new_number marks old.watched
  pub as_many : length marks ≡ length old.clauses
  pub reasons : (clause : ℕ) → IsReason steps clause → mark_of marks clause ≡ true

mapped_reason : (g : ℕ → ℕ) (reason : Option ℕ) (number : ℕ) → option_map g reason ≡ Some number → (old : ℕ) × (reason ≡ Some old) × (g old ≡ number)
mapped_reason g None number e = cc
mapped_reason g (Some clause) number e = (clause, refl, cc)

IsLawful-removed : (old new : BookState) (marks : List Bool) (atoms : ℕ) (steps : List Step) → Removes old new marks steps → IsLawful atoms old.clauses steps → IsLawful atoms new.clauses (map (renumbered marks) steps)
IsLawful-removed old new marks atoms steps r l =
    let g = new_number marks in
    let len = length-map steps (renamed g) in
    record {
      in_range = λ place h. subst (λ (n : ℕ). n < 2 * atoms) (sym (literal_at-renamed g steps place)) (l.in_range place (omega (arith, len, h)));
      distinct = λ p q pq h e. l.distinct p q pq (omega (arith, len, h)) (sym (ap (λ (n : ℕ). n / 2) (literal_at-renamed g steps p)) ∙ e ∙ ap (λ (n : ℕ). n / 2) (literal_at-renamed g steps q));
      reasoned = λ place h number e.
          let in_old : place < length steps = omega (arith, len, h) in
          let m = mapped_reason g (step_at steps place).reason number (sym (ap (λ (s : Step). s.reason) (step_at-renamed g steps place)) ∙ e) in
          let was = l.reasoned place in_old m.0 m.1 in
          let stays = r.reasons m.0 (place, in_old, m.1) in
          let many = r.as_many in
          let n : IsAtNew marks old.clauses m.0 [] = at_new marks old.clauses m.0 [] (let w = was.0 in omega (arith, w, many)) was.0 stays in
          let is : clause_at new.clauses number ≡ clause_at old.clauses m.0 = ap (λ (x : List (List ℕ)). clause_at x number) r.clauses ∙ ap (clause_at (kept marks old.clauses)) (sym m.2) ∙ n.is in
          let literal = literal_at steps place in (
            subst (λ (x : List (List ℕ)). number < length x) (sym r.clauses) (let w = n.within in let e2 = m.2 in omega (arith, w, e2)),
            subst (λ (x : List Step). Implies x (clause_at new.clauses number) (literal_at (map (renamed g) steps) place)) (sym (take-map (renamed g) place steps))
                (subst (λ (x : ℕ). Implies (map (renamed g) (take place steps)) (clause_at new.clauses number) x) (sym (literal_at-renamed g steps place))
                (subst (λ (x : List ℕ). Implies (map (renamed g) (take place steps)) x literal) (sym is) (Implies-renamed g (take place steps) (clause_at old.clauses m.0) literal was.1))),
          );
    }

IsGuarded-renamed : (g : ℕ → ℕ) (atoms : ℕ) (steps : List Step) (head watch other : ℕ) → IsGuarded atoms steps head watch other → IsGuarded atoms (map (renamed g) steps) head watch other
IsGuarded-renamed g atoms steps head watch other w visit lt e = IsPlaced-renamed g steps other (w visit lt (sym (visit_at-renamed g atoms steps visit) ∙ e))

AllWatched-removed : (old new : BookState) (marks : List Bool) (all steps : List Step) (head : ℕ) → Removes old new marks all → old.watched ≤ length old.clauses → AllWatched old steps head → AllWatched new (map (renumbered marks) steps) head
AllWatched-removed old new marks all steps head r few w clause lt =
    let g = new_number marks in
    let watched = r.watched in
    let before : clause < new_number marks old.watched = omega (arith, lt, watched) in
    let n = new_number-le-kept marks old.clauses old.watched r.as_many few in
    let f = from_old marks old.clauses clause [] (omega (arith, before, n)) in
    let is : clause_at new.clauses clause ≡ clause_at old.clauses f.at = ap (λ (x : List (List ℕ)). clause_at x clause) r.clauses ∙ f.is in
    let i = w f.at (from_before marks old.clauses clause old.watched [] f before) in
    let c = clause_at old.clauses f.at in
    let done : IsWatched old.atoms (map (renamed g) steps) head c = record {
      first = IsGuarded-renamed g old.atoms steps head (first_watch old.atoms c) (second_watch old.atoms c) i.first;
      second = IsGuarded-renamed g old.atoms steps head (second_watch old.atoms c) (first_watch old.atoms c) i.second;
    } in
    subst (λ (x : ℕ). IsWatched x (map (renamed g) steps) head (clause_at new.clauses clause)) (sym r.atoms)
    (subst (IsWatched old.atoms (map (renamed g) steps) head) (sym is) done)

pub Goes-removed : (old new : BookState) (marks : List Bool) (trail : TrailState) → Removes old new marks trail.steps → old.watched ≤ length old.clauses → Goes old trail → Goes new (record trail { steps = map (renumbered marks) trail.steps })
Goes-removed old new marks trail r few g =
    let name = new_number marks in
    record {
      same_atoms = r.atoms ∙ g.same_atoms;
      lawful = IsLawful-removed old new marks trail.atoms trail.steps r g.lawful;
      counted = let c = g.counted in let n = number-renamed name trail.atoms trail.steps in omega (arith, c, n);
      bounded = g.bounded;
      marks = AreMarks-renamed name trail.steps trail.marks trail.head g.marks;
      watches = record {
        now = AllWatched-removed old new marks trail.steps trail.steps trail.head r few g.watches.now;
        back = λ level h.
            let start = (mark_at trail.marks level).start in
            subst (λ (x : List Step). AllWatched new x (mark_at trail.marks level).head) (sym (take-map (renamed name) start trail.steps))
            (AllWatched-removed old new marks trail.steps (take start trail.steps) (mark_at trail.marks level).head r few (g.watches.back level h));
      };
    }

-- ---- the steps get the numbers that stand in the records
pub record IsRelabelling (g : ℕ → ℕ) (steps0 steps : List Step) (done : ℕ) : Type 0 where
  pub as_many : length steps ≡ length steps0
  pub so_far : take done steps ≡ map (renamed g) (take done steps0)
  pub later : (place : ℕ) → done ≤ place → step_at steps place ≡ step_at steps0 place

pub IsRelabelling-none : (g : ℕ → ℕ) (steps : List Step) → IsRelabelling g steps steps 0
IsRelabelling-none g steps = record { as_many = refl; so_far = refl; later = λ place h. refl }

relabelled_more : (g : ℕ → ℕ) (steps0 : List Step) (done : ℕ) → done < length steps0 → map (renamed g) (take (done + 1) steps0) ≡ map (renamed g) (take done steps0) ++ renamed g (step_at steps0 done) ∷ []
relabelled_more g steps0 done h = ap (map (renamed g)) (take_more steps0 done no_step h) ∙ map-append (renamed g) (take done steps0) (step_at steps0 done ∷ [])

pub IsRelabelling-set : (g : ℕ → ℕ) (steps0 steps : List Step) (done : ℕ) (step : Step) → IsRelabelling g steps0 steps done → done < length steps0 → step ≡ renamed g (step_at steps done) → IsRelabelling g steps0 (set steps done step) (done + 1)
IsRelabelling-set g steps0 steps done step i h e =
    let many = i.as_many in
    record {
      as_many = length-set steps done step ∙ i.as_many;
      so_far = take_more_set steps done step (omega (arith, many, h)) ∙ ap (λ (x : List Step). x ++ step ∷ []) i.so_far
          ∙ ap (λ (s : Step). map (renamed g) (take done steps0) ++ s ∷ []) (e ∙ ap (renamed g) (i.later done (omega arith))) ∙ sym (relabelled_more g steps0 done h);
      later = λ place l. get_or-set_other steps done place step no_step (omega (arith, l)) ∙ i.later place (omega arith);
    }

-- a decision has no number to change
pub renamed_decision : (g : ℕ → ℕ) (step : Step) → step.reason ≡ None → renamed g step ≡ step
renamed_decision g step e = ap (λ (r : Option ℕ). let s : Step = record { literal = step.literal; reason = option_map g r } in s) e ∙ sym (ap (λ (r : Option ℕ). let s : Step = record { literal = step.literal; reason = r } in s) e)

pub IsRelabelling-same : (g : ℕ → ℕ) (steps0 steps : List Step) (done : ℕ) → IsRelabelling g steps0 steps done → done < length steps0 → (step_at steps done).reason ≡ None → IsRelabelling g steps0 steps (done + 1)
IsRelabelling-same g steps0 steps done i h e =
    let many = i.as_many in
    record {
      as_many = i.as_many;
      so_far = take_more steps done no_step (omega (arith, many, h)) ∙ ap (λ (x : List Step). x ++ step_at steps done ∷ []) i.so_far
          ∙ ap (λ (s : Step). map (renamed g) (take done steps0) ++ s ∷ []) (sym (renamed_decision g (step_at steps done) e) ∙ ap (renamed g) (i.later done (omega arith))) ∙ sym (relabelled_more g steps0 done h);
      later = λ place l. i.later place (omega arith);
    }

-- ---- the marks of reasons
pub MarksReasons-none : (steps : List Step) (marks : List Bool) → MarksReasons steps 0 marks marks
MarksReasons-none steps marks = record { as_many = refl; stays = λ clause e. e; reasons = λ place clause h e. absurd (omega arith); only = λ clause e. inl e }

pub MarksReasons-set : (steps : List Step) (done clause : ℕ) (old now : List Bool) → MarksReasons steps done old now → done < length steps → (step_at steps done).reason ≡ Some clause → clause < length now → MarksReasons steps (done + 1) old (set now clause true)
MarksReasons-set steps done clause old now m h e l =
    let here : mark_of (set now clause true) clause ≡ true = get_or-set_same now clause true false l in
    record {
      as_many = length-set now clause true ∙ m.as_many;
      stays = λ c s. elim (cases_eq c clause) [
        | inl eq ↦ ap (mark_of (set now clause true)) eq ∙ here
        | inr ne ↦ get_or-set_other now clause c true false ne ∙ m.stays c s
      ];
      reasons = λ place c lt s. elim (cases_eq c clause) [
        | inl eq ↦ ap (mark_of (set now clause true)) eq ∙ here
        | inr ne ↦ get_or-set_other now clause c true false ne ∙ (elim (cases_eq place done) [
          | inl same ↦ let q : Some c ≡ Some clause = sym s ∙ ap (λ (p : ℕ). (step_at steps p).reason) same ∙ e in absurd (ne cc)
          | inr other ↦ m.reasons place c (omega (arith, lt, other)) s
        ])
      ];
      only = λ c s. elim (cases_eq c clause) [
        | inl eq ↦ inr (done, h, e ∙ ap Some (sym eq))
        | inr ne ↦ m.only c (sym (get_or-set_other now clause c true false ne) ∙ s)
      ];
    }

pub MarksReasons-same : (steps : List Step) (done : ℕ) (old now : List Bool) → MarksReasons steps done old now → (step_at steps done).reason ≡ None → MarksReasons steps (done + 1) old now
MarksReasons-same steps done old now m e = record {
  as_many = m.as_many;
  stays = m.stays;
  reasons = λ place c lt s. elim (cases_eq place done) [
    | inl same ↦ let q : Some c ≡ None = sym s ∙ ap (λ (p : ℕ). (step_at steps p).reason) same ∙ e in cc
    | inr other ↦ m.reasons place c (omega (arith, lt, other)) s
  ];
  only = m.only;
}

-- a reason among the first steps
pub reason_in : (steps : List Step) (len place clause : ℕ) → len ≤ length steps → place < len → (step_at steps place).reason ≡ Some clause → IsReason (take len steps) clause
reason_in steps len place clause h l e = (place, let n = length-take-le len steps h in omega (arith, n, l), ap (λ (s : Step). s.reason) (get_or-take len steps place no_step l) ∙ e)

pub MarksReasons-step : (steps : List Step) (len done clause : ℕ) (old now : List Bool) → MarksReasons (take len steps) done old now → len ≤ length steps → done < len → (step_at steps done).reason ≡ Some clause → clause < length now → MarksReasons (take len steps) (done + 1) old (set now clause true)
MarksReasons-step steps len done clause old now m h l e w =
    MarksReasons-set (take len steps) done clause old now m (let n = length-take-le len steps h in omega (arith, n, l)) (ap (λ (s : Step). s.reason) (get_or-take len steps done no_step l) ∙ e) w

pub MarksReasons-pass : (steps : List Step) (len done : ℕ) (old now : List Bool) → MarksReasons (take len steps) done old now → done < len → (step_at steps done).reason ≡ None → MarksReasons (take len steps) (done + 1) old now
MarksReasons-pass steps len done old now m l e = MarksReasons-same (take len steps) done old now m (ap (λ (s : Step). s.reason) (get_or-take len steps done no_step l) ∙ e)
