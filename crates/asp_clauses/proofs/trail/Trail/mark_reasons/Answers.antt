use Rattle.std.proofs.Common.{ℕ, ◌<◌, List, length, sym, ◌∙◌, ap, subst}
use Rattle.asp_clauses.specs.declared.trail.Step.{Step}
use Rattle.asp_clauses.specs.Trail.{TrailState}
use Rattle.asp_clauses.specs.Kept.{IsReason, MarksReasons}
use Rattle.asp_clauses.proofs.FieldLemmas.{length_steps}
use Rattle.asp_clauses.proofs.trail.Trail.mark_reasons.Goals as goal

pub returns : goal.returns
returns c =
    let i = c.self.inside in let v = c.self.invariant in
    let steps = ap (λ (t : TrailState). t.steps) c.self.view_is in
    let e = steps in
    let len = sym (length_steps i v) ∙ ap length steps in
    subst (λ (n : ℕ). MarksReasons c.args.self.now.steps n c.args.stays.now c.mark_reasons.new.stays) len
    (subst (λ (x : List Step). MarksReasons x i.len c.args.stays.now c.mark_reasons.new.stays) e c.mark_reasons.ensures)

pub mark_reasons-requires-clause-reasons : goal.mark_reasons-requires-clause-reasons
mark_reasons-requires-clause-reasons c =
    let i = c.self.inside in
    let e = ap (λ (t : TrailState). t.steps) c.self.view_is in
    subst (λ (x : List Step). (clause : ℕ) → IsReason x clause → clause < length c.args.stays.now) (sym e) c.requires
