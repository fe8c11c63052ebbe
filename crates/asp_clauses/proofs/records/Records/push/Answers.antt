use Rattle.std.proofs.Common.{List, ◌++◌, ◌∙◌, ap, sym, length}
use Rattle.asp_clauses.specs.declared.records.Node.{Node}
use Rattle.asp_clauses.specs.Records.{tops_of}
use Rattle.asp_clauses.proofs.RecordLemmas.{length-records_of}
use Rattle.asp_clauses.proofs.NodeLemmas.{pushed_nodes}
use Rattle.asp_clauses.proofs.records.Records.push.Goals as goal

pub invariant_of-self-in-Ok : goal.invariant_of-self-in-Ok
invariant_of-self-in-Ok c =
    let i = c.self.inside in
    (pushed_nodes i.nodes.items c.extend_from_slice.new.self.items i.rows c.push.new.self c.args.self.now c.args.origin c.args.literals.now c.self.invariant c.self.view_is (c.in_ok-extend_from_slice.ensures.items ∙ ap (λ (x : List Node). i.nodes.items ++ x) c.new_nodes.ensures) c.in-Ok.ensures.ok.1).0

pub returns-in-Ok-clause-ok : goal.returns-in-Ok-clause-ok
returns-in-Ok-clause-ok c =
    let i = c.self.inside in (
      c.in-Ok.ensures.ok.0 ∙ sym (length-records_of (tops_of i.nodes.items) i.rows c.self.invariant.topped.as_many) ∙ ap length c.self.view_is,
      (pushed_nodes i.nodes.items c.extend_from_slice.new.self.items i.rows c.push.new.self c.args.self.now c.args.origin c.args.literals.now c.self.invariant c.self.view_is (c.in_ok-extend_from_slice.ensures.items ∙ ap (λ (x : List Node). i.nodes.items ++ x) c.new_nodes.ensures) c.in-Ok.ensures.ok.1).1,
    )
