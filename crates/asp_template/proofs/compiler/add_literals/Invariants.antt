use Rattle.std.proofs.Common.{◌≡◌, map, take}
use Rattle.std.specs.List.{fold}
use Rattle.asp_safety.specs.Variables.{term_of}
use Rattle.asp_template.specs.Compiled.{with_literal}
use Rattle.asp_template.proofs.compiler.add_literals.Given as goal

abbrev pub invariant-loop-literal : goal.invariant-loop-literal
invariant-loop-literal l =
    l.template ≡ fold (with_literal l.vocabulary (map term_of l.variables)) l.fn.template (take l.literal-index l.literals)
