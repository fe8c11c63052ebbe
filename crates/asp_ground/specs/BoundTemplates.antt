-- The ground bounds of a choice with a bound, by templates (of this project). All definitions are transparent.
use Rattle.std.specs.Prelude.{ℕ, ℤ, ◌-◌, if◌then◌else◌, false, List, [], ◌∷◌, ◌++◌, map, length, replicate, get_or, Option}
use Rattle.std.specs.List.{flat_map, list_all, enumerate_from}
use Rattle.asp_defs.specs.declared.ground.Counted.{Counted}
use Rattle.asp_defs.specs.declared.ground.Bound.{Bound}
use Rattle.asp_defs.specs.declared.syntax.Literal.{Literal}
use Rattle.asp_defs.specs.declared.syntax.Element.{Element}
use Rattle.asp_defs.specs.declared.syntax.Head.{Head}
use Rattle.asp_defs.specs.declared.syntax.Head.TheVariants.{Disj, Choice}
use Rattle.asp_defs.specs.declared.syntax.Rule.{Rule}
use Rattle.asp_defs.specs.declared.syntax.Program.{Program}
use Rattle.asp_defs.specs.Constants.{level_rules}
use Rattle.asp_defs.specs.Bases.{product}
use Rattle.asp_defs.specs.Instances.{has_bound}
use Rattle.asp_atoms.specs.declared.vocabularies.Vocabulary.{Vocabulary}
use Rattle.asp_ground.specs.declared.bound_template.ElementTemplate.{ElementTemplate}
use Rattle.asp_ground.specs.declared.bound_template.BoundTemplate.{BoundTemplate}
use Rattle.asp_template.specs.Ranks.{capped}
use Rattle.asp_template.specs.Variables.{disjunctive_variables, found_variables}
use Rattle.asp_template.specs.Templates.{number_at, is_true}
use Rattle.asp_template.specs.Compiled.{atom_template, compiled}

-- the counted term of an element under ranks of the body's variables and its own: none where a comparison is false
abbrev pub term_at : ℕ → ElementTemplate → List ℕ → List Counted
term_at size e ranks =
    if list_all (is_true ranks) e.cond.comparisons
    then record {
      atom = number_at size ranks e.atom;
      pos = map (number_at size ranks) e.cond.pos;
      neg = map (number_at size ranks) e.cond.neg;
    } ∷ []
    else []

-- the counted terms of an element under ranks of the body's variables, where its own run through a universe
abbrev pub terms_at : ℕ → List ℕ → List ℕ → ElementTemplate → List Counted
terms_at size universe ranks e = flat_map (λ own. term_at size e (ranks ++ own)) (product (replicate e.own universe))

-- the ground bound under ranks of the body's variables: none where a comparison is false
abbrev pub bound_at : ℕ → List ℕ → BoundTemplate → List ℕ → List Bound
bound_at size universe b ranks =
    if list_all (is_true ranks) b.body.comparisons
    then record {
      pos = map (number_at size ranks) b.body.pos;
      neg = map (number_at size ranks) b.body.neg;
      low = b.low;
      high = b.high;
      counted = flat_map (terms_at size universe ranks) b.elements;
    } ∷ []
    else []

-- the ground bounds where each of so many variables of the body runs through a universe, the last one fastest
abbrev pub bounds_over : ℕ → List ℕ → BoundTemplate → ℕ → List Bound
bounds_over size universe b count = flat_map (bound_at size universe b) (product (replicate count universe))

-- the templates of an element and of a bound
abbrev pub element_template : Vocabulary → List Literal → Element → ElementTemplate
element_template v body e = record {
  own = length (found_variables body e) - length (disjunctive_variables [] body);
  atom = atom_template v (found_variables body e) e.atom;
  cond = compiled v (found_variables body e) false [] e.cond;
}

abbrev pub bound_template : Vocabulary → Option ℤ → List Element → Option ℤ → List Literal → BoundTemplate
bound_template v low elements high body = record {
  body = compiled v (disjunctive_variables [] body) false [] body;
  low = low;
  high = high;
  elements = map (element_template v body) elements;
}

-- the ground bounds of a head with a body, of a rule, of a level, and of all levels
abbrev pub choice_bounds : Vocabulary → List ℕ → Option ℤ → List Element → Option ℤ → List Literal → List Bound
choice_bounds v ranks low elements high body =
    bounds_over (capped (length v.constants)) ranks (bound_template v low elements high body) (length (disjunctive_variables [] body))

abbrev pub head_bounds_by : Vocabulary → List ℕ → Head → List Literal → List Bound
head_bounds_by v ranks (Disj atoms) body = []
head_bounds_by v ranks (Choice low elements high) body =
    if has_bound (Choice low elements high) then choice_bounds v ranks low elements high body else []

abbrev pub compiled_bounds : Vocabulary → List ℕ → Rule → List Bound
compiled_bounds v ranks r = head_bounds_by v ranks r.head r.body

abbrev pub level_bounds_by : Vocabulary → (ℕ × List Rule) → List Bound
level_bounds_by v level = flat_map (compiled_bounds v (get_or v.universes level.0 [])) level.1

abbrev pub compiled_level_bounds : Vocabulary → Program → List (List Bound)
compiled_level_bounds v p = map (level_bounds_by v) (enumerate_from 1 (level_rules p))
