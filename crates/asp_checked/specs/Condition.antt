-- What a checked program has to look like: that of every text does.
use Rattle.std.specs.Prelude.{Bool, true, false, not, ◌&&◌, IsTrue, if◌then◌else◌, [], ◌∷◌}
use Rattle.std.specs.List.{list_all}
use Rattle.asp_defs.specs.declared.syntax.Term.{Term}
use Rattle.asp_defs.specs.declared.syntax.Term.TheVariants.{Int, Sym, Var, Anon, Range}
use Rattle.asp_defs.specs.declared.syntax.Atom.{Atom}
use Rattle.asp_defs.specs.declared.syntax.Literal.{Literal}
use Rattle.asp_defs.specs.declared.syntax.Literal.TheVariants.{Pos, Neg, Cmp}
use Rattle.asp_defs.specs.declared.syntax.Element.{Element}
use Rattle.asp_defs.specs.declared.syntax.Head.{Head}
use Rattle.asp_defs.specs.declared.syntax.Head.TheVariants.{Disj, Choice}
use Rattle.asp_defs.specs.declared.syntax.Rule.{Rule}
use Rattle.asp_defs.specs.declared.syntax.Program.{Program}
use Rattle.asp_defs.specs.Lists.{is_empty}
use Rattle.asp_defs.specs.Safety.{all_rules}

-- whether a term, an atom, a literal, an element, a head and a rule are without intervals
abbrev pub is_single : Term → Bool
is_single (Int x) = true
is_single (Sym s) = true
is_single (Var v) = true
is_single (Anon k) = true
is_single (Range low high) = false

abbrev pub is_single_atom : Atom → Bool
is_single_atom a = list_all is_single a.args

abbrev pub is_single_literal : Literal → Bool
is_single_literal (Pos a) = is_single_atom a
is_single_literal (Neg a) = is_single_atom a
is_single_literal (Cmp x op y) = is_single x && is_single y

abbrev pub is_single_element : Element → Bool
is_single_element e = is_single_atom e.atom && list_all is_single_literal e.cond

abbrev pub is_single_head : Head → Bool
is_single_head (Disj atoms) = list_all is_single_atom atoms
is_single_head (Choice low elements high) = list_all is_single_element elements

-- whether a head is that of a fact: one atom of a disjunction
abbrev pub is_fact_head : Head → Bool
is_fact_head (Disj []) = false
is_fact_head (Disj (a ∷ [])) = true
is_fact_head (Disj (a ∷ b ∷ more)) = false
is_fact_head (Choice low elements high) = false

abbrev pub is_fact : Rule → Bool
is_fact r = is_fact_head r.head && is_empty r.body

-- whether intervals stand in a rule only where it is a fact, as arguments of its one atom
abbrev pub has_intervals_in_facts : Rule → Bool
has_intervals_in_facts r = if is_fact r then true else is_single_head r.head && list_all is_single_literal r.body

-- a program with a level, whose intervals stand in facts alone
pub record IsCheckable (p : Program) : Type 0 where
  pub levels : IsTrue (not (is_empty p.levels))
  pub intervals : IsTrue (list_all has_intervals_in_facts (all_rules p))
