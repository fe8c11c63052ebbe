use Rattle.std.proofs.Common.{◌≡◌, map, take}
use Rattle.asp_safety.specs.Variables.{term_of}
use Rattle.asp_template.specs.Compiled.{atom_template}
use Rattle.asp_template.proofs.compiler.atom_templates.Given as goal

abbrev pub invariant-loop-atom : goal.invariant-loop-atom
invariant-loop-atom l =
    l.templates.items ≡ map (atom_template l.vocabulary (map term_of l.variables)) (take l.atom-index l.atoms)
