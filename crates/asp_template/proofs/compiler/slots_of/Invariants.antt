use Rattle.std.proofs.Common.{◌≡◌, map, take}
use Rattle.asp_safety.specs.Variables.{term_of}
use Rattle.asp_template.specs.Compiled.{slot_of}
use Rattle.asp_template.proofs.compiler.slots_of.Given as goal

abbrev pub invariant-loop-term : goal.invariant-loop-term
invariant-loop-term l =
    l.slots.items ≡ map (slot_of l.constants (map term_of l.variables)) (take l.term-index l.terms)
