use Rattle.std.proofs.Common.{◌≤◌, map}
use Rattle.asp_clauses.specs.Records.{has_number, tops_of}
use Rattle.asp_clauses.specs.Kept.{from_on}
use Rattle.asp_clauses.proofs.CompactLemmas.{IsCompacting}
use Rattle.asp_clauses.proofs.rows.compact_rows.Given as goal

abbrev pub invariant-loop-row : goal.invariant-loop-row
invariant-loop-row l = IsCompacting l.fn.words.items l.fn.starts.items (from_on l.from (map has_number (tops_of l.nodes))) l.words.items l.starts.items l.row l.count l.end × (l.from ≤ l.row)
