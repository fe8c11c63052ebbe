use Rattle.std.proofs.Common.{◌≡◌, ◌≤◌, map, length}
use Rattle.asp_clauses.specs.Records.{no_top, has_number, tops_of}
use Rattle.asp_clauses.specs.Kept.{from_on}
use Rattle.asp_clauses.proofs.KeepLemmas.{IsKeeping}
use Rattle.asp_clauses.proofs.records.keep_nodes.Given as goal

abbrev pub invariant-loop-clause : goal.invariant-loop-clause
invariant-loop-clause l =
    IsKeeping no_top (from_on l.from (map has_number (tops_of l.fn.nodes.items))) (tops_of l.fn.nodes.items) (tops_of l.nodes.items) l.clause l.count
    × (length l.nodes.items ≡ length l.fn.nodes.items) × (l.from ≤ l.clause) × (l.count ≤ l.clause) × (l.clause ≤ length (tops_of l.fn.nodes.items))
