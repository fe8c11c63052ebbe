use Rattle.std.proofs.Common.{◌≡◌, List, [], length, get_or, sym, ◌∙◌, ap, arith, subst, refl}
use Rattle.std.proofs.lemmas.List.{with_items_is}
use Rattle.std.specs.Vec.{with_items}
use Rattle.asp_clauses.specs.declared.trail.Truth.{Truth}
use Rattle.asp_clauses.specs.declared.trail.Truth.TheVariants.{Unassigned}
use Rattle.asp_clauses.specs.Trail.{TrailState}
use Rattle.asp_clauses.specs.TrailFields.{steps_of}
use Rattle.asp_clauses.specs.Tables.{AreTables}
use Rattle.asp_clauses.proofs.BackLemmas.{TakenBack, AreTables-back, taken_back}
use Rattle.asp_clauses.proofs.GoesLemmas.{Goes-empty, AreMarks-empty}
use Rattle.asp_clauses.proofs.trail.Trail.reset.Goals as goal

pub invariant_of-self : goal.invariant_of-self
invariant_of-self c =
    let i = c.self.inside in let v = c.self.invariant in
    let items = i.steps in
    let now = c.clear_values.new.values in
    let len_now : length now ≡ i.values.len = omega (arith, c.clear_values.auto.values, c.deref_mut.ensures.len) in
    let vals : (with_items i.values now).items ≡ now = with_items_is i.values now len_now in
    let tb : TakenBack (steps_of i) 0 i.values.items now = taken_back items i.len 0 i.values.items now (omega arith) (omega (arith, v.len, v.steps_size))
    c.clear_values.ensures.cleared
    (λ code o. c.clear_values.ensures.others code o ∙ ap (λ (x : List Truth). get_or x code Unassigned) c.deref_mut.ensures.value) in
    let table = AreTables-back i.atoms (steps_of i) i.values.items now i.positions.items i.levels.items 0 v.tables tb in
    record {
      few_atoms = v.few_atoms;
      steps_size = v.steps_size;
      values_size = omega (arith, ap length vals, len_now, i.values.ok, v.values_size);
      positions_size = v.positions_size;
      levels_size = v.levels_size;
      marks_size = v.marks_size;
      len = omega arith;
      decided = omega arith;
      affordable = omega arith;
      tables = subst (λ (x : List Truth). AreTables i.atoms [] x i.positions.items i.levels.items) (sym vals) table;
      marks = AreMarks-empty;
    }

pub returns-clause-goes : goal.returns-clause-goes
returns-clause-goes c = λ book same. Goes-empty book _ (same ∙ sym (ap (λ (t : TrailState). t.atoms) c.self.view_is)) refl refl refl refl
