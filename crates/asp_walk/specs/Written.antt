-- What is written in a rule, in the order of the text: a list of literals, with each atom of the head as a positive one
-- (of this project). All definitions are transparent.
use Rattle.std.specs.Prelude.{List, [], ◌∷◌, ◌++◌, map}
use Rattle.std.specs.List.{flat_map}
use Rattle.asp_defs.specs.declared.syntax.Term.{Term}
use Rattle.asp_defs.specs.declared.syntax.Atom.{Atom}
use Rattle.asp_defs.specs.declared.syntax.Literal.{Literal}
use Rattle.asp_defs.specs.declared.syntax.Literal.TheVariants.{Pos, Neg, Cmp}
use Rattle.asp_defs.specs.declared.syntax.Element.{Element}
use Rattle.asp_defs.specs.declared.syntax.Head.{Head}
use Rattle.asp_defs.specs.declared.syntax.Head.TheVariants.{Disj, Choice}
use Rattle.asp_defs.specs.declared.syntax.Rule.{Rule}
use Rattle.asp_walk.specs.declared.walk.Written.{Written}
use Rattle.asp_walk.specs.declared.walk.Written.TheVariants as written

-- the literals of the atoms of a disjunction, of an element, of the elements of a choice, of a head and of a rule
abbrev pub atoms_written : List Atom → List Literal
atoms_written = map Pos

abbrev pub element_written : Element → List Literal
element_written e = Pos e.atom ∷ e.cond

abbrev pub elements_written : List Element → List Literal
elements_written = flat_map element_written

abbrev pub head_written : Head → List Literal
head_written (Disj atoms) = atoms_written atoms
head_written (Choice low elements high) = elements_written elements

abbrev pub rule_written : Rule → List Literal
rule_written r = head_written r.head ++ r.body

-- the terms of a literal: the arguments of its atom, or the two sides of a comparison
abbrev pub literal_terms : Literal → List Term
literal_terms (Pos a) = a.args
literal_terms (Neg a) = a.args
literal_terms (Cmp x op y) = x ∷ y ∷ []

-- the terms of a rule
abbrev pub rule_terms : Rule → List Term
rule_terms r = flat_map literal_terms (rule_written r)

-- what the walk gives, without where it lies in memory
abbrev pub literal_of : Written → Literal
literal_of (written.Atom a) = Pos a.now
literal_of (written.Literal l) = l.now
