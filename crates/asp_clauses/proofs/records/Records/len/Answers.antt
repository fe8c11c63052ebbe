use Rattle.std.proofs.Common.{◌∙◌, length, ap, sym}
use Rattle.asp_clauses.specs.Records.{tops_of}
use Rattle.asp_clauses.proofs.RecordLemmas.{length-records_of}
use Rattle.asp_clauses.proofs.records.Records.len.Goals as goal

pub returns-clause-value : goal.returns-clause-value
returns-clause-value c = let i = c.self.inside in c.len.ensures.value ∙ sym (length-records_of (tops_of i.nodes.items) i.rows c.self.invariant.topped.as_many) ∙ ap length c.self.view_is
