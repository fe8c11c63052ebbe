use Rattle.std.proofs.Common.{◌≡◌, ℕ, ◌+◌, ◌/◌, List, [], ◌∷◌, ◌++◌, length, take, set, sym, ◌∙◌, ap, arith, subst, length-set, cond}
use Rattle.std.specs.Int.{from_bool}
use Rattle.std.specs.Option.{is_some}
use Rattle.asp_clauses.specs.declared.trail.Truth.{Truth}
use Rattle.asp_clauses.specs.declared.trail.Truth.TheVariants.{Holds, Fails}
use Rattle.asp_clauses.specs.declared.trail.Step.{Step}
use Rattle.asp_clauses.specs.declared.trail.Mark.{Mark}
use Rattle.asp_clauses.specs.Trail.{TrailState, is_decision}
use Rattle.asp_clauses.specs.TrailFields.{steps_of, marks_of}
use Rattle.asp_clauses.specs.Tables.{AreTables, AreMarks}
use Rattle.asp_clauses.specs.Moves.{placed}
use Rattle.asp_clauses.proofs.TableLemmas.{steps_after, marks_after, AreMarks-after, decisions_after, AreTables-push, assigned, mark_here, not_back, from_bool-le}
use Rattle.asp_clauses.proofs.FieldLemmas.{length_steps, length_marks, place_facts}
use Rattle.asp_clauses.proofs.trail.Trail.place.Goals as goal

pub index_mut-requires : goal.index_mut-requires
index_mut-requires c =
    let i = c.self.inside in let v = c.self.invariant in
    let f = place_facts i c.args.self.now c.args.step v c.self.view_is c.requires.code c.requires.unassigned in
    omega (arith, f.few, v.decided, v.marks_size, i.marks.ok)

pub index_mut-requires-3 : goal.index_mut-requires-3
index_mut-requires-3 c =
    let i = c.self.inside in let v = c.self.invariant in
    let f = place_facts i c.args.self.now c.args.step v c.self.view_is c.requires.code c.requires.unassigned in
    omega (arith, f.negation, c.negation.ensures, v.values_size, i.values.ok)

pub set-requires-clause-place : goal.set-requires-clause-place
set-requires-clause-place c =
    let i = c.self.inside in let v = c.self.invariant in
    let f = place_facts i c.args.self.now c.args.step v c.self.view_is c.requires.code c.requires.unassigned in
    omega (arith, f.few, v.steps_size)

pub invariant_of-self : goal.invariant_of-self
invariant_of-self c =
    let i = c.self.inside in let v = c.self.invariant in
    let step = c.args.step in let now = c.args.self.now in
    let f = place_facts i now step v c.self.view_is c.requires.code c.requires.unassigned in
    let len = length_steps i v in
    let decided = length_marks i v in
    let mark : Mark = record { start = i.len; head = i.head } in
    let here : mark ≡ mark_here (steps_of i) i.head = ap (λ (n : ℕ). let m : Mark = record { start = n; head = i.head } in m) (sym len) in
    let more : c.from.result ≡ from_bool (is_decision step) = c.from.ensures ∙ ap from_bool (not_back (is_some step.reason) c.is_none.result c.is_none.ensures) in
    let steps = ap (take (i.len + 1)) c.set.ensures ∙ steps_after i.steps i.len step (omega (arith, f.few, v.steps_size)) in
    let marks = marks_after i.marks.items i.decisions c.from.result mark step (omega (arith, f.few, v.decided, v.marks_size)) more in
    let total = decisions_after (steps_of i) (marks_of i) i.head step i.decisions c.from.result v.marks decided more in
    let truths : set (set i.values.items step.literal Holds) c.negation.result Fails ≡ assigned i.values.items step.literal = ap (λ (n : ℕ). set (set i.values.items step.literal Holds) n Fails) c.negation.ensures in
    let lengths = ap length c.set.ensures ∙ length-set i.steps i.len step in
    record {
      few_atoms = v.few_atoms;
      steps_size = lengths ∙ v.steps_size;
      values_size = length-set (set i.values.items step.literal Holds) c.negation.result Fails ∙ length-set i.values.items step.literal Holds ∙ v.values_size;
      positions_size = length-set i.positions.items (step.literal / 2) (i.len + 1) ∙ v.positions_size;
      levels_size = length-set i.levels.items (step.literal / 2) (i.decisions + c.from.result) ∙ v.levels_size;
      marks_size = length-set i.marks.items i.decisions mark ∙ v.marks_size;
      len = omega (arith, f.few);
      decided = omega (arith, v.decided, more, from_bool-le (is_decision step));
      affordable = omega (arith, c.requires.unspent, ap (λ (t : TrailState). t.count) c.self.view_is, ap (λ (t : TrailState). t.budget) c.self.view_is);
      tables =
          let table = AreTables-push i.atoms (steps_of i) i.values.items i.positions.items i.levels.items step (i.decisions + c.from.result) v.tables f.code f.unassigned v.values_size v.positions_size v.levels_size total in
          let depths = set i.levels.items (step.literal / 2) (i.decisions + c.from.result) in
          subst (λ (x : List Step). AreTables i.atoms x (set (set i.values.items step.literal Holds) c.negation.result Fails) (set i.positions.items (step.literal / 2) (i.len + 1)) depths) (sym steps)
          (subst (λ (x : List Truth). AreTables i.atoms (steps_of i ++ step ∷ []) x (set i.positions.items (step.literal / 2) (i.len + 1)) depths) (sym truths)
          (subst (λ (n : ℕ). AreTables i.atoms (steps_of i ++ step ∷ []) (assigned i.values.items step.literal) (set i.positions.items (step.literal / 2) (n + 1)) depths) len table));
      marks = subst (λ (x : List Step). AreMarks x (take (i.decisions + c.from.result) (set i.marks.items i.decisions mark)) i.head) (sym steps)
          (subst (λ (x : List Mark). AreMarks (steps_of i ++ step ∷ []) x i.head) (sym marks)
          (subst (λ (m : Mark). AreMarks (steps_of i ++ step ∷ []) (cond (is_decision step) (marks_of i ++ m ∷ []) (marks_of i)) i.head) (sym here)
          (AreMarks-after (steps_of i) (marks_of i) i.head step v.marks)));
    }

pub returns : goal.returns
returns c =
    let i = c.self.inside in let v = c.self.invariant in
    let step = c.args.step in let now = c.args.self.now in
    let f = place_facts i now step v c.self.view_is c.requires.code c.requires.unassigned in
    let len = length_steps i v in
    let mark : Mark = record { start = i.len; head = i.head } in
    let here : mark ≡ mark_here (steps_of i) i.head = ap (λ (n : ℕ). let m : Mark = record { start = n; head = i.head } in m) (sym len) in
    let more : c.from.result ≡ from_bool (is_decision step) = c.from.ensures ∙ ap from_bool (not_back (is_some step.reason) c.is_none.result c.is_none.ensures) in
    let steps = ap (take (i.len + 1)) c.set.ensures ∙ steps_after i.steps i.len step (omega (arith, f.few, v.steps_size)) in
    let marks = marks_after i.marks.items i.decisions c.from.result mark step (omega (arith, f.few, v.decided, v.marks_size)) more in
    let state : List Step → List Mark → TrailState = λ s m. record { atoms = i.atoms; budget = i.budget; count = i.count + 1; steps = s; marks = m; head = i.head } in
    ap (λ (s : List Step). state s (take (i.decisions + c.from.result) (set i.marks.items i.decisions mark))) steps
    ∙ ap (state (steps_of i ++ step ∷ [])) (marks ∙ ap (λ (m : Mark). cond (is_decision step) (marks_of i ++ m ∷ []) (marks_of i)) here)
    ∙ ap (λ (t : TrailState). placed t step) c.self.view_is
