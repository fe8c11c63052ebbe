-- Instances of rules over a universe, and the ground rules that they give (of this project; Amendola, Ricca and
-- Truszczynski 2019 instantiate over the Herbrand universe). All definitions are transparent.
use Rattle.std.specs.Prelude.{ℕ, ◌+◌, ◌^◌, ◌==◌, if◌then◌else◌, Bool, true, false, not, ◌||◌, is_some, List, [], ◌∷◌, ◌++◌, map, length, get_or, replicate}
use Rattle.std.specs.List.{flat_map, filter, list_all, position_or_len, sum_by}
use Rattle.std.specs.Ordering.{is_eq, is_ne, is_lt, is_le, is_gt, is_ge}
use Rattle.std.specs.declared.cmp.Ordering.{Ordering}
use Rattle.std.specs.Str.{bytes_eq}
use Rattle.asp_defs.specs.declared.ground.Const.{Const}
use Rattle.asp_defs.specs.declared.ground.Const.TheVariants as const
use Rattle.asp_defs.specs.declared.ground.GroundAtom.{GroundAtom}
use Rattle.asp_defs.specs.declared.ground.GroundRule.{GroundRule}
use Rattle.asp_defs.specs.declared.syntax.Op.{Op}
use Rattle.asp_defs.specs.declared.syntax.Op.TheVariants.{Eq, Ne, Lt, Le, Gt, Ge}
use Rattle.asp_defs.specs.declared.syntax.Term.{Term}
use Rattle.asp_defs.specs.declared.syntax.Term.TheVariants.{Int, Sym, Var, Anon, Range}
use Rattle.asp_defs.specs.declared.syntax.Atom.{Atom}
use Rattle.asp_defs.specs.declared.syntax.Literal.{Literal}
use Rattle.asp_defs.specs.declared.syntax.Literal.TheVariants.{Pos, Neg, Cmp}
use Rattle.asp_defs.specs.declared.syntax.Element.{Element}
use Rattle.asp_defs.specs.declared.syntax.Head.{Head}
use Rattle.asp_defs.specs.declared.syntax.Head.TheVariants.{Disj, Choice}
use Rattle.asp_defs.specs.declared.syntax.Rule.{Rule}
use Rattle.asp_defs.specs.Constants.{const_cmp, interval}
use Rattle.asp_defs.specs.Bases.{product, atom_number}

-- whether two terms are the same variable
abbrev pub same_variable : Term → Term → Bool
same_variable (Var v) (Var w) = bytes_eq v w
same_variable (Anon j) (Anon k) = j == k
same_variable t u = false

-- the variable that a term is, if it is one
abbrev pub term_variables : Term → List Term
term_variables (Int x) = []
term_variables (Sym s) = []
term_variables (Var v) = Var v ∷ []
term_variables (Anon k) = Anon k ∷ []
term_variables (Range low high) = []

abbrev pub atom_variables : Atom → List Term
atom_variables a = flat_map term_variables a.args

abbrev pub literal_variables : Literal → List Term
literal_variables (Pos a) = atom_variables a
literal_variables (Neg a) = atom_variables a
literal_variables (Cmp x op y) = term_variables x ++ term_variables y

-- the variables of a list in the order of their first occurrence, each once
abbrev pub first_occurrences : List Term → List Term
first_occurrences [] = []
first_occurrences (v ∷ vs) = v ∷ filter (λ w. not (same_variable v w)) (first_occurrences vs)

-- a rule that is instantiated as one: a disjunctive rule or a fact without intervals, or one element of a choice with
-- the rule's body, the element's condition behind it; its variables come in the order of the text
pub record Schema : Type 0 where
  pub choice : Bool
  pub heads : List Atom
  pub body : List Literal
  pub variables : List Term

-- what may stand at an argument: each integer of an interval, or the term itself
abbrev pub term_choices : Term → List Term
term_choices (Int x) = Int x ∷ []
term_choices (Sym s) = Sym s ∷ []
term_choices (Var v) = Var v ∷ []
term_choices (Anon k) = Anon k ∷ []
term_choices (Range low high) = map Int (interval low high)

-- the atoms without intervals for which an atom with intervals stands
abbrev pub spread : Atom → List Atom
spread a = map (λ args. record { name = a.name; args = args }) (product (map term_choices a.args))

abbrev pub disjunctive_schema : List Atom → List Literal → Schema
disjunctive_schema atoms body = record {
  choice = false;
  heads = atoms;
  body = body;
  variables = first_occurrences (flat_map atom_variables atoms ++ flat_map literal_variables body);
}

abbrev pub element_schema : List Literal → Element → Schema
element_schema body e = record {
  choice = true;
  heads = e.atom ∷ [];
  body = body ++ e.cond;
  variables = first_occurrences
      (atom_variables e.atom ++ (flat_map literal_variables e.cond ++ flat_map literal_variables body));
}

-- the schemas of a head and a body; a fact with intervals stands for one fact per combination of integers
abbrev pub head_schemas : Head → List Literal → List Schema
head_schemas (Disj (a ∷ [])) [] = map (λ b. disjunctive_schema (b ∷ []) []) (spread a)
head_schemas (Disj atoms) body = disjunctive_schema atoms body ∷ []
head_schemas (Choice low elements high) body = map (element_schema body) elements

abbrev pub schemas : Rule → List Schema
schemas r = head_schemas r.head r.body

-- the constant that stands for a term, where the variables have these values in their order
abbrev pub term_value : List Term → List Const → Term → Const
term_value variables values (Int x) = const.Int x
term_value variables values (Sym s) = const.Sym s
term_value variables values (Var v) =
    get_or values (position_or_len (same_variable (Var v)) variables) (const.Sym [])
term_value variables values (Anon k) =
    get_or values (position_or_len (same_variable (Anon k)) variables) (const.Sym [])
term_value variables values (Range low high) = const.Int low

abbrev pub atom_instance : List Term → List Const → Atom → GroundAtom
atom_instance variables values a = record { name = a.name; args = map (term_value variables values) a.args }

-- whether an operator holds of two constants that compare so
abbrev pub op_holds : Op → Ordering → Bool
op_holds Eq order = is_eq order
op_holds Ne order = is_ne order
op_holds Lt order = is_lt order
op_holds Le order = is_le order
op_holds Gt order = is_gt order
op_holds Ge order = is_ge order

-- whether a literal's instance is no false comparison
abbrev pub comparison_true : List Term → List Const → Literal → Bool
comparison_true variables values (Pos a) = true
comparison_true variables values (Neg a) = true
comparison_true variables values (Cmp x op y) =
    op_holds op (const_cmp (term_value variables values x) (term_value variables values y))

abbrev pub pos_atoms : Literal → List Atom
pos_atoms (Pos a) = a ∷ []
pos_atoms (Neg a) = []
pos_atoms (Cmp x op y) = []

abbrev pub neg_atoms : Literal → List Atom
neg_atoms (Pos a) = []
neg_atoms (Neg a) = a ∷ []
neg_atoms (Cmp x op y) = []

-- the ground rule of a schema under values of its variables: nothing where a comparison is false
abbrev pub instance : List GroundAtom → Schema → List Const → List GroundRule
instance atoms s values =
    let number = λ (a : Atom). atom_number atoms (atom_instance s.variables values a)
    in if list_all (comparison_true s.variables values) s.body
    then record {
      choice = s.choice;
      head = map number s.heads;
      pos = map number (flat_map pos_atoms s.body);
      neg = map number (flat_map neg_atoms s.body);
    } ∷ []
    else []

-- the values of a schema's variables over a universe, the last variable running fastest
abbrev pub assignments : List Const → Schema → List (List Const)
assignments U s = product (replicate (length s.variables) U)

-- the ground rules of a rule over a universe
abbrev pub rule_instances : List GroundAtom → List Const → Rule → List GroundRule
rule_instances atoms U r = flat_map (λ s. flat_map (instance atoms s) (assignments U s)) (schemas r)

-- the variables of a body in the order of the text
abbrev pub body_variables : List Literal → List Term
body_variables body = first_occurrences (flat_map literal_variables body)

-- whether a head has a bound
abbrev pub has_bound : Head → Bool
has_bound (Disj atoms) = false
has_bound (Choice low elements high) = is_some low || is_some high

-- how many ground bounds a rule has over a universe, before comparisons are looked at
abbrev pub bound_count : ℕ → Rule → ℕ
bound_count size r = if has_bound r.head then size ^ length (body_variables r.body) else 0

-- how many instances a rule has over a universe, before comparisons are looked at, its ground bounds among them
abbrev pub instance_count : ℕ → Rule → ℕ
instance_count size r = sum_by (λ s. size ^ length s.variables) (schemas r) + bound_count size r
