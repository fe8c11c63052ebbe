use Rattle.std.proofs.Common.{◌∙◌, List, ap}
use Rattle.std.specs.List.{flat_map}
use Rattle.asp_defs.specs.declared.syntax.Literal.{Literal}
use Rattle.asp_defs.specs.Instances.{term_variables}
use Rattle.asp_walk.specs.Written.{literal_terms}
use Rattle.asp_walk.proofs.Reading.{atoms_variables_are, atoms_terms_are}
use Rattle.asp_walk.proofs.terms.Terms.of_atoms.Goals as goal

pub returns : goal.returns
returns c = record {
  terms =
      c.of_walk.ensures ∙ (ap (λ (ls : List Literal). flat_map literal_terms ls) c.of_atoms.ensures ∙ atoms_terms_are c.args.atoms.now);
  variables =
      ap (flat_map term_variables) (c.of_walk.ensures ∙ ap (λ (ls : List Literal). flat_map literal_terms ls) c.of_atoms.ensures)
      ∙ atoms_variables_are c.args.atoms.now;
}
