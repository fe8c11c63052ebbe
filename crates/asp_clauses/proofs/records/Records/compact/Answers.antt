use Rattle.std.proofs.Common.{arith, ◌∙◌, List, length, ap, map}
use Rattle.asp_clauses.specs.declared.records.Node.{Node}
use Rattle.asp_clauses.specs.Records.{has_number, tops_of}
use Rattle.asp_clauses.specs.Kept.{kept, from_on}
use Rattle.asp_clauses.proofs.RecordLemmas.{length-records_of}
use Rattle.asp_clauses.proofs.NodeLemmas.{compacted_nodes}
use Rattle.asp_clauses.proofs.records.Records.compact.Goals as goal

pub compact-requires-clause-nodes : goal.compact-requires-clause-nodes
compact-requires-clause-nodes c = ap length c.as_slice.ensures.value ∙ c.self.invariant.as_many

pub compact-requires-clause-from : goal.compact-requires-clause-from
compact-requires-clause-from c =
    let i = c.self.inside in let l = length-records_of (tops_of i.nodes.items) i.rows c.self.invariant.topped.as_many in let e = ap length c.self.view_is in
    omega (arith, l, e, c.requires)

pub keep_nodes-requires-clause-even : goal.keep_nodes-requires-clause-even
keep_nodes-requires-clause-even c = let a = c.self.invariant.as_many in let t = c.self.invariant.topped.as_many in omega (arith, a, t)

pub keep_nodes-requires-clause-from : goal.keep_nodes-requires-clause-from
keep_nodes-requires-clause-from c =
    let i = c.self.inside in let l = length-records_of (tops_of i.nodes.items) i.rows c.self.invariant.topped.as_many in let e = ap length c.self.view_is in
    let t = c.self.invariant.topped.as_many in
    omega (arith, l, e, c.requires, t)

pub invariant_of-self : goal.invariant_of-self
invariant_of-self c =
    let i = c.self.inside in
    (compacted_nodes c.args.from i.nodes.items c.keep_nodes.new.nodes.items i.rows c.compact.new.self c.args.self.now c.self.invariant c.self.view_is c.keep_nodes.ensures.even c.keep_nodes.ensures.kept
    (c.compact.ensures ∙ ap (λ (x : List Node). kept (from_on c.args.from (map has_number (tops_of x))) i.rows) c.as_slice.ensures.value)).0

pub returns : goal.returns
returns c =
    let i = c.self.inside in
    (compacted_nodes c.args.from i.nodes.items c.keep_nodes.new.nodes.items i.rows c.compact.new.self c.args.self.now c.self.invariant c.self.view_is c.keep_nodes.ensures.even c.keep_nodes.ensures.kept
    (c.compact.ensures ∙ ap (λ (x : List Node). kept (from_on c.args.from (map has_number (tops_of x))) i.rows) c.as_slice.ensures.value)).1
