use Rattle.std.proofs.Common.{◌≡◌, take, codes, Ok}
use Rattle.std.specs.List.{join_by}
use Rattle.asp_io.specs.declared.fault.Failed.{Failed}
use Rattle.asp_defs.specs.Sets.{ground_atom_text}
use Rattle.asp_print.specs.Members.{members}
use Rattle.asp_print.specs.Written.{Writes}
use Rattle.asp_print.proofs.Members.{has_some}
use Rattle.asp_print.proofs.sets.print_members.Given as goal

-- the atoms of the first places, and whether there are any
abbrev pub invariant-loop-place : goal.invariant-loop-place
invariant-loop-place g l = record {
  led : l.is_led ≡ has_some l.atoms (take l.place l.set);
  text : Writes {T = Unit {0}} {E = Failed} (g.K.Sink.taken l.fn.sink) (g.K.Sink.taken l.sink) l.fn.buffer.items l.buffer.items (g.K.Sink.faults l.fn.sink) (g.K.Sink.faults l.sink) (Ok tt) (join_by ground_atom_text (codes ", ") (members l.atoms (take l.place l.set)));
}
