use Rattle.asp_clauses.proofs.NodeLemmas.{no_nodes}
use Rattle.asp_clauses.proofs.records.Records.new.Goals as goal

pub invariant_of-result : goal.invariant_of-result
invariant_of-result c = (no_nodes c.new-2.result.items c.in_ok-new.field-0 c.new-2.ensures.items c.in_ok-new.ensures).0

pub returns : goal.returns
returns c = (no_nodes c.new-2.result.items c.in_ok-new.field-0 c.new-2.ensures.items c.in_ok-new.ensures).1
