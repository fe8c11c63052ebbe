use Rattle.std.proofs.Common.{◌++◌, take, Ok}
use Rattle.std.specs.List.{flat_map}
use Rattle.asp_io.specs.declared.fault.Failed.{Failed}
use Rattle.asp_print.specs.Written.{Writes}
use Rattle.asp_print.proofs.pieces.print_led.Given as goal

abbrev pub invariant-loop-part : goal.invariant-loop-part
invariant-loop-part g l =
    Writes {T = Unit {0}} {E = Failed} (g.K.Sink.taken l.fn.sink) (g.K.Sink.taken l.sink) l.fn.buffer.items l.buffer.items (g.K.Sink.faults l.fn.sink) (g.K.Sink.faults l.sink) (Ok tt) (flat_map (λ part. l.lead ++ g.T.Printed.text part) (take l.part-index l.parts))
