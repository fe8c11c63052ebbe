use Rattle.std.proofs.Common.{◌≡◌, ◌++◌, take}
use Rattle.std.specs.List.{flat_map}
use Rattle.asp_safety.specs.Variables.{terms_of}
use Rattle.asp_safety.specs.Bindings.{bound_alone, links_of, literal_links}
use Rattle.asp_safety.proofs.bindings.add_bindings.Given as goal

abbrev pub invariant-loop-literal : goal.invariant-loop-literal
invariant-loop-literal l = record {
  bound : terms_of l.bound.items ≡ terms_of l.fn.bound.items ++ flat_map bound_alone (take l.literal-index l.literals);
  links : links_of l.links.items ≡ links_of l.fn.links.items ++ flat_map literal_links (take l.literal-index l.literals);
}
