use Rattle.std.proofs.Common.{take, map, Ok}
use Rattle.asp_bits.specs.Places.{true_places}
use Rattle.asp_io.specs.declared.fault.Failed.{Failed}
use Rattle.asp_defs.specs.Sets.{set_lines}
use Rattle.asp_print.specs.Written.{Writes}
use Rattle.asp_print.proofs.sets.print_lines.Given as goal

-- the lines of the sets so far
abbrev pub invariant-loop-set : goal.invariant-loop-set
invariant-loop-set g l =
    Writes {T = Unit {0}} {E = Failed} (g.K.Sink.taken l.fn.sink) (g.K.Sink.taken l.sink) l.fn.buffer.items l.buffer.items (g.K.Sink.faults l.fn.sink) (g.K.Sink.faults l.sink) (Ok tt) (set_lines l.bases (map true_places (take l.set-index l.sets)))
