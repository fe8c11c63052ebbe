use Rattle.std.proofs.Common.{◌≡◌, List, length, take, sym, ◌∙◌, ap, arith, subst, refl}
use Rattle.std.specs.Vec.{with_items}
use Rattle.asp_clauses.specs.declared.trail.Mark.{Mark}
use Rattle.asp_clauses.specs.Trail.{TrailState, mark_at}
use Rattle.asp_clauses.specs.TrailFields.{steps_of, marks_of, state_of}
use Rattle.asp_clauses.specs.Tables.{AreMarks}
use Rattle.asp_clauses.specs.Moves.{Lowers, lowered}
use Rattle.asp_clauses.proofs.FieldLemmas.{lower_facts}
use Rattle.asp_clauses.proofs.MarkLemmas.{AreMarks-lowered}
use Rattle.asp_clauses.proofs.trail.Trail.lower.Goals as goal

pub invariant_of-self : goal.invariant_of-self
invariant_of-self c =
    let i = c.self.inside in let v = c.self.invariant in
    let f = lower_facts i c.lower_marks.new.marks c.args.visit v (omega (arith, c.lower_marks.auto.marks, c.deref_mut.ensures.len)) (λ level h. c.lower_marks.ensures level h ∙ ap (λ (x : List Mark). lowered c.args.visit (mark_at x level)) c.deref_mut.ensures.value) in
    record {
      few_atoms = v.few_atoms;
      steps_size = v.steps_size;
      values_size = v.values_size;
      positions_size = v.positions_size;
      levels_size = v.levels_size;
      marks_size = ap length f.items ∙ omega (arith, f.size, i.marks.ok, v.marks_size);
      len = v.len;
      decided = v.decided;
      affordable = v.affordable;
      tables = v.tables;
      marks = subst (λ (x : List Mark). AreMarks (steps_of i) (take i.decisions x) i.head) (sym f.items) (AreMarks-lowered (steps_of i) (marks_of i) (take i.decisions c.lower_marks.new.marks) i.head c.args.visit v.marks f.as_many f.low);
    }

pub returns : goal.returns
returns c =
    let i = c.self.inside in let v = c.self.invariant in
    let new = c.lower_marks.new.marks in
    let f = lower_facts i new c.args.visit v (omega (arith, c.lower_marks.auto.marks, c.deref_mut.ensures.len)) (λ level h. c.lower_marks.ensures level h ∙ ap (λ (x : List Mark). lowered c.args.visit (mark_at x level)) c.deref_mut.ensures.value) in
    let is : (with_items i.marks new).items ≡ new = f.items in
    let after : TrailState = record (state_of i) { marks = take i.decisions (with_items i.marks new).items } in
    subst (λ (t : TrailState). Lowers t after c.args.visit) c.self.view_is
    (subst (λ (x : List Mark). Lowers (state_of i) (record (state_of i) { marks = take i.decisions x }) c.args.visit) (sym is) (record {
      others = refl;
      as_many = f.as_many;
      low = f.low;
    }))
