use Rattle.std.proofs.Common.{◌∙◌, ◌++◌, List, ap}
use Rattle.std.specs.List.{flat_map}
use Rattle.asp_defs.specs.declared.syntax.Term.{Term}
use Rattle.asp_defs.specs.declared.syntax.Literal.{Literal}
use Rattle.asp_defs.specs.Instances.{term_variables}
use Rattle.asp_walk.specs.Written.{literal_terms}
use Rattle.asp_walk.proofs.Reading.{element_variables_are}
use Rattle.asp_walk.proofs.terms.Terms.of_element.Goals as goal

pub returns : goal.returns
returns c = record {
  terms =
      ap (λ (ts : List Term). ts ++ flat_map literal_terms c.of_literals.result) c.as_slice.ensures
      ∙ ap (λ (ls : List Literal). c.args.element.now.atom.args ++ flat_map literal_terms ls) (c.of_literals.ensures ∙ c.as_slice-2.ensures);
  variables =
      ap (λ (ts : List Term). flat_map term_variables (ts ++ flat_map literal_terms c.of_literals.result)) c.as_slice.ensures
      ∙ (ap (λ (ls : List Literal). flat_map term_variables (c.args.element.now.atom.args ++ flat_map literal_terms ls)) (c.of_literals.ensures ∙ c.as_slice-2.ensures)
      ∙ element_variables_are c.args.element.now.atom c.args.element.now.cond);
}
