use Rattle.std.proofs.Common.{ℕ, ◌<◌, List, length, map, sym, ◌∙◌, ap, subst}
use Rattle.asp_clauses.specs.declared.trail.Step.{Step}
use Rattle.asp_clauses.specs.Records.{end}
use Rattle.asp_clauses.specs.Trail.{TrailState}
use Rattle.asp_clauses.specs.TrailFields.{steps_of, marks_of, state_of}
use Rattle.asp_clauses.specs.Tables.{AreTables, AreMarks}
use Rattle.asp_clauses.specs.Kept.{relabelled, number_in, IsReason}
use Rattle.asp_clauses.proofs.RenamedLemmas.{AreTables-renamed, AreMarks-renamed}
use Rattle.asp_clauses.proofs.trail.Trail.renumber.Goals as goal

pub relabel-requires-clause-reasons : goal.relabel-requires-clause-reasons
relabel-requires-clause-reasons c =
    subst (λ (x : List Step). (clause : ℕ) → IsReason x clause → clause < length c.args.records.now) (sym (ap (λ (t : TrailState). t.steps) c.self.view_is)) c.requires.reasons

pub relabel-requires-clause-numbers : goal.relabel-requires-clause-numbers
relabel-requires-clause-numbers c =
    subst (λ (x : List Step). (clause : ℕ) → IsReason x clause → number_in c.args.records.now clause < end) (sym (ap (λ (t : TrailState). t.steps) c.self.view_is)) c.requires.numbers

pub invariant_of-self : goal.invariant_of-self
invariant_of-self c =
    let i = c.self.inside in let v = c.self.invariant in
    let rows = c.args.records.now in
    let steps = c.relabel.ensures.steps in
    record {
      few_atoms = v.few_atoms;
      steps_size = c.relabel.ensures.as_many ∙ v.steps_size;
      values_size = v.values_size;
      positions_size = v.positions_size;
      levels_size = v.levels_size;
      marks_size = v.marks_size;
      len = v.len;
      decided = v.decided;
      affordable = v.affordable;
      tables = subst (λ (x : List Step). AreTables i.atoms x i.values.items i.positions.items i.levels.items) (sym steps) (AreTables-renamed (number_in rows) i.atoms (steps_of i) i.values.items i.positions.items i.levels.items v.tables);
      marks = subst (λ (x : List Step). AreMarks x (marks_of i) i.head) (sym steps) (AreMarks-renamed (number_in rows) (steps_of i) (marks_of i) i.head v.marks);
    }

pub returns : goal.returns
returns c =
    let i = c.self.inside in
    let rows = c.args.records.now in
    ap (λ (x : List Step). let t : TrailState = record (state_of i) { steps = x } in t) c.relabel.ensures.steps
    ∙ ap (λ (t : TrailState). let u : TrailState = record t { steps = map (relabelled rows) t.steps } in u) c.self.view_is
