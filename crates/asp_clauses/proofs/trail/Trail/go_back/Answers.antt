use Rattle.std.proofs.Common.{◌≡◌, ℕ, List, length, take, get_or, sym, ◌∙◌, ap, arith, subst}
use Rattle.std.proofs.lemmas.List.{take-take, with_items_is}
use Rattle.std.specs.Vec.{with_items}
use Rattle.asp_clauses.specs.declared.trail.Truth.{Truth}
use Rattle.asp_clauses.specs.declared.trail.Truth.TheVariants.{Unassigned}
use Rattle.asp_clauses.specs.declared.trail.Step.{Step}
use Rattle.asp_clauses.specs.declared.trail.Mark.{Mark}
use Rattle.asp_clauses.specs.Trail.{TrailState, mark_at, back_to}
use Rattle.asp_clauses.specs.TrailFields.{steps_of, marks_of, state_of}
use Rattle.asp_clauses.specs.Tables.{AreTables, AreMarks}
use Rattle.asp_clauses.specs.Moves.{gone_back}
use Rattle.asp_clauses.proofs.FieldLemmas.{back_facts}
use Rattle.asp_clauses.proofs.BackLemmas.{TakenBack, AreTables-back, taken_back}
use Rattle.asp_clauses.proofs.GoesLemmas.{AreMarks-back}
use Rattle.asp_clauses.proofs.trail.Trail.go_back.Goals as goal

pub invariant_of-self : goal.invariant_of-self
invariant_of-self c =
    let i = c.self.inside in let v = c.self.invariant in
    let mark = c.index-mark.result.now in
    let f = back_facts i c.args.self.now c.args.level mark v c.self.view_is c.requires c.index-mark.ensures in
    let items = i.steps in
    let now = c.clear_values.new.values in
    let len_now : length now ≡ i.values.len = omega (arith, c.clear_values.auto.values, c.deref_mut.ensures.len) in
    let vals : (with_items i.values now).items ≡ now = with_items_is i.values now len_now in
    let tb : TakenBack (steps_of i) mark.start i.values.items now = taken_back items i.len mark.start i.values.items now (omega (arith, f.within)) (omega (arith, v.len, v.steps_size))
    c.clear_values.ensures.cleared
    (λ code o. c.clear_values.ensures.others code o ∙ ap (λ (x : List Truth). get_or x code Unassigned) c.deref_mut.ensures.value) in
    let table = AreTables-back i.atoms (steps_of i) i.values.items now i.positions.items i.levels.items mark.start v.tables tb in
    let marks = AreMarks-back (state_of i) c.args.level v.marks f.marked in
    record {
      few_atoms = v.few_atoms;
      steps_size = v.steps_size;
      values_size = omega (arith, ap length vals, len_now, i.values.ok, v.values_size);
      positions_size = v.positions_size;
      levels_size = v.levels_size;
      marks_size = v.marks_size;
      len = omega (arith, f.within, v.len);
      decided = f.fewer;
      affordable = v.affordable;
      tables = subst (λ (x : List Truth). AreTables i.atoms (take mark.start items) x i.positions.items i.levels.items) (sym vals)
          (subst (λ (x : List Step). AreTables i.atoms x now i.positions.items i.levels.items) (take-take mark.start i.len items (omega (arith, f.within))) table);
      marks = subst (λ (x : List Step). AreMarks x (take c.args.level i.marks.items) mark.head) (sym f.steps)
          (subst (λ (x : List Mark). AreMarks (take (mark_at (marks_of i) c.args.level).start (steps_of i)) x mark.head) (sym f.marks)
          (subst (λ (x : Mark). AreMarks (take (mark_at (marks_of i) c.args.level).start (steps_of i)) (take c.args.level (marks_of i)) x.head) (sym f.is) marks));
    }

pub returns : goal.returns
returns c =
    let i = c.self.inside in let v = c.self.invariant in
    let mark = c.index-mark.result.now in
    let f = back_facts i c.args.self.now c.args.level mark v c.self.view_is c.requires c.index-mark.ensures in
    let state : List Step → List Mark → ℕ → TrailState = λ s m h. record { atoms = i.atoms; budget = i.budget; count = i.count; steps = s; marks = m; head = h } in
    ap (λ (s : List Step). state s (take c.args.level i.marks.items) mark.head) f.back
    ∙ ap (λ (m : List Mark). state (back_to c.args.level (steps_of i)) m mark.head) f.marks
    ∙ ap (λ (m : Mark). state (back_to c.args.level (steps_of i)) (take c.args.level (marks_of i)) m.head) f.is
    ∙ ap (λ (t : TrailState). gone_back t c.args.level) c.self.view_is
