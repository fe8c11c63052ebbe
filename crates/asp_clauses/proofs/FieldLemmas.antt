-- The fields of a trail, where a literal is placed.
use Rattle.std.proofs.Common.{◌≡◌, ℕ, ◌*◌, ◌<◌, ◌≤◌, List, length, take, sym, ◌∙◌, ap, arith, subst}
use Rattle.std.proofs.lemmas.List.{length-take-le, get_or_read, get_or-take, take-take, with_items_is}
use Rattle.std.specs.Vec.{with_items}
use Rattle.asp_clauses.specs.Moves.{lowered}
use Rattle.std.specs.List.{slice_index_or}
use Rattle.asp_clauses.specs.declared.trail.Mark.{Mark}
use Rattle.asp_clauses.specs.declared.trail.Step.{Step}
use Rattle.asp_clauses.specs.declared.trail.Trail.TheInside.{Inside}
use Rattle.asp_clauses.specs.Literal.{negated}
use Rattle.asp_clauses.specs.Trail.{TrailState, IsUnassigned, decisions, mark_at, no_mark, back_to}
use Rattle.asp_clauses.proofs.StepsLemmas.{back_to-take, decisions-le-length}
use Rattle.asp_clauses.specs.TrailFields.{steps_of, marks_of, state_of, IsSound}
use Rattle.asp_clauses.proofs.LiteralLemmas.{negated-lt}
use Rattle.asp_clauses.proofs.FewLemmas.{unassigned_few, tables_distinct}

-- how long the lists in a trail are
pub length_steps : (t : Inside) → IsSound t → length (steps_of t) ≡ t.len
length_steps t v = length-take-le t.len t.steps (omega (arith, v.len, v.steps_size))

pub length_marks : (t : Inside) → IsSound t → length (marks_of t) ≡ t.decisions
length_marks t v = length-take-le t.decisions t.marks.items (omega (arith, v.len, v.decided, v.marks_size))

pub record PlaceFacts (t : Inside) (step : Step) : Type 0 where
  pub code : step.literal < 2 * t.atoms
  pub negation : negated step.literal < 2 * t.atoms
  pub unassigned : IsUnassigned (steps_of t) step.literal
  pub few : t.len < t.atoms

pub place_facts : (t : Inside) (now : TrailState) (step : Step) → IsSound t → state_of t ≡ now → step.literal < 2 * now.atoms → IsUnassigned now.steps step.literal → PlaceFacts t step
place_facts t now step v is code un =
    let atoms = ap (λ (s : TrailState). s.atoms) is in
    let steps = ap (λ (s : TrailState). s.steps) is in
    let in_range : step.literal < 2 * t.atoms = omega (arith, code, atoms) in
    let free = subst (λ (x : List Step). IsUnassigned x step.literal) (sym steps) un in
    let few = unassigned_few t.atoms (steps_of t) step.literal v.tables.codes (tables_distinct t.atoms (steps_of t) t.values.items t.positions.items t.levels.items v.tables) in_range free in
    record { code = in_range; negation = negated-lt step.literal t.atoms in_range; unassigned = free; few = omega (arith, few, length_steps t v) }

-- where a trail goes back to
pub record BackFacts (t : Inside) (level : ℕ) (mark : Mark) : Type 0 where
  pub marked : level < length (marks_of t)
  pub is : mark ≡ mark_at (marks_of t) level
  pub within : mark.start < t.len
  pub steps : take mark.start t.steps ≡ take (mark_at (marks_of t) level).start (steps_of t)
  pub back : take mark.start t.steps ≡ back_to level (steps_of t)
  pub marks : take level t.marks.items ≡ take level (marks_of t)
  pub few : level < t.decisions
  pub fewer : level ≤ mark.start

pub back_facts : (t : Inside) (now : TrailState) (level : ℕ) (mark : Mark) → IsSound t → state_of t ≡ now → level < decisions now.steps → mark ≡ slice_index_or t.marks.items level mark → BackFacts t level mark
back_facts t now level mark v is h read =
    let steps = ap (λ (s : TrailState). s.steps) is in
    let here : level < decisions (steps_of t) = subst (λ (x : List Step). level < decisions x) (sym steps) h in
    let marked : level < length (marks_of t) = omega (arith, here, v.marks.as_many) in
    let few : level < t.decisions = omega (arith, marked, length_marks t v) in
    let at : mark ≡ mark_at (marks_of t) level = get_or_read t.marks.items level mark (omega (arith, few, v.decided, v.len, v.marks_size)) read no_mark ∙ sym (get_or-take t.decisions t.marks.items level no_mark few) in
    let m = v.marks.each level marked in
    let start = ap (λ (x : Mark). x.start) at in
    let within : mark.start < t.len = omega (arith, m.within, start, length_steps t v) in
    let parts : take mark.start t.steps ≡ take (mark_at (marks_of t) level).start (steps_of t) =
    sym (take-take mark.start t.len t.steps (omega (arith, within))) ∙ ap (λ (n : ℕ). take n (steps_of t)) start in
    let counted = decisions-le-length (take (mark_at (marks_of t) level).start (steps_of t)) in
    let short = length-take-le (mark_at (marks_of t) level).start (steps_of t) (omega (arith, m.within)) in
    record {
      marked = marked;
      is = at;
      within = within;
      steps = parts;
      back = parts ∙ sym (back_to-take level (steps_of t) (mark_at (marks_of t) level).start m.within m.decision m.before);
      marks = sym (take-take level t.decisions t.marks.items (omega (arith, few)));
      few = few;
      fewer = omega (arith, counted, short, m.before, start);
    }

-- the marks after they were lowered
pub record LowerFacts (t : Inside) (new : List Mark) (visit : ℕ) : Type 0 where
  pub size : length new ≡ t.marks.len
  pub items : (with_items t.marks new).items ≡ new
  pub as_many : length (take t.decisions new) ≡ length (marks_of t)
  pub low : (level : ℕ) → level < length (marks_of t) → mark_at (take t.decisions new) level ≡ lowered visit (mark_at (marks_of t) level)

pub lower_facts : (t : Inside) (new : List Mark) (visit : ℕ) → IsSound t → length new ≡ t.marks.len → ((level : ℕ) → level < t.decisions → mark_at new level ≡ lowered visit (mark_at t.marks.items level)) → LowerFacts t new visit
lower_facts t new visit v size low =
    let few : t.decisions ≤ length new = omega (arith, size, t.marks.ok, v.marks_size, v.len, v.decided) in
    let old = length_marks t v in
    record {
      size = size;
      items = with_items_is t.marks new size;
      as_many = length-take-le t.decisions new few ∙ sym old;
      low = λ level h.
          let lt : level < t.decisions = omega (arith, h, old) in
          get_or-take t.decisions new level no_mark lt ∙ low level lt ∙ ap (lowered visit) (sym (get_or-take t.decisions t.marks.items level no_mark lt));
    }
