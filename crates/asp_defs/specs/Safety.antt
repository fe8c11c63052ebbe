-- Safety: which variables of a rule are bound by positive body atoms and equations (the usual notion of answer set
-- programming, in this project's form for choices). All definitions are transparent.
use Rattle.std.specs.Prelude.{ℕ, zero, suc, if◌then◌else◌, Bool, not, List, [], ◌∷◌, ◌++◌, length, min, Option, None, Some}
use Rattle.std.specs.List.{flat_map, filter, find, list_any, list_all}
use Rattle.asp_defs.specs.declared.faults.Var.{Var as ShownVariable}
use Rattle.asp_defs.specs.declared.faults.Var.TheVariants as var
use Rattle.asp_defs.specs.declared.syntax.Op.TheVariants.{Eq, Ne, Lt, Le, Gt, Ge}
use Rattle.asp_defs.specs.declared.syntax.Term.{Term}
use Rattle.asp_defs.specs.declared.syntax.Term.TheVariants.{Int, Sym, Var, Anon, Range}
use Rattle.asp_defs.specs.declared.syntax.Literal.{Literal}
use Rattle.asp_defs.specs.declared.syntax.Literal.TheVariants.{Pos, Neg, Cmp}
use Rattle.asp_defs.specs.declared.syntax.Element.{Element}
use Rattle.asp_defs.specs.declared.syntax.Head.{Head}
use Rattle.asp_defs.specs.declared.syntax.Head.TheVariants.{Disj, Choice}
use Rattle.asp_defs.specs.declared.syntax.Rule.{Rule}
use Rattle.asp_defs.specs.declared.syntax.Program.{Program}
use Rattle.asp_defs.specs.Constants.{level_rules}
use Rattle.asp_defs.specs.Instances.{same_variable, atom_variables, literal_variables, term_variables}

-- the variables of an element, a head and a rule, in the order in which they are written
abbrev pub element_variables : Element → List Term
element_variables e = atom_variables e.atom ++ flat_map literal_variables e.cond

abbrev pub head_variables : Head → List Term
head_variables (Disj atoms) = flat_map atom_variables atoms
head_variables (Choice low elements high) = flat_map element_variables elements

abbrev pub rule_variables : Rule → List Term
rule_variables r = head_variables r.head ++ flat_map literal_variables r.body

-- whether a variable is one of a list
abbrev pub is_variable_of : List Term → Term → Bool
is_variable_of vs v = list_any (same_variable v) vs

-- the variables of a positive body atom
abbrev pub bound_by_atom : Literal → List Term
bound_by_atom (Pos a) = atom_variables a
bound_by_atom (Neg a) = []
bound_by_atom (Cmp x op y) = []

-- whether a term is a constant or one of these variables
abbrev pub is_settled : List Term → Term → Bool
is_settled safe t = list_all (is_variable_of safe) (term_variables t)

-- a variable that is equated with a constant or one of these variables
abbrev pub settled_by : List Term → Term → Term → List Term
settled_by safe v t = if is_settled safe t then term_variables v else []

abbrev pub bound_by_equation : List Term → Literal → List Term
bound_by_equation safe (Pos a) = []
bound_by_equation safe (Neg a) = []
bound_by_equation safe (Cmp x Eq y) = settled_by safe x y ++ settled_by safe y x
bound_by_equation safe (Cmp x Ne y) = []
bound_by_equation safe (Cmp x Lt y) = []
bound_by_equation safe (Cmp x Le y) = []
bound_by_equation safe (Cmp x Gt y) = []
bound_by_equation safe (Cmp x Ge y) = []

-- the variables that a body binds by its atoms and by chains of so many equations
abbrev pub safe_by : ℕ → List Literal → List Term
safe_by zero body = flat_map bound_by_atom body
safe_by (suc chain) body =
    flat_map bound_by_atom body ++ flat_map (bound_by_equation (safe_by chain body)) body

-- the safe variables of a body: the least set with those of its positive atoms and those that an equation equates with a
-- constant or a safe variable; no chain of equations is longer than the body
abbrev pub safe_variables : List Literal → List Term
safe_variables body = safe_by (length body) body

-- the variables of a list that a body doesn't bind
abbrev pub unbound : List Literal → List Term → List Term
unbound body vs = let safe = safe_variables body in filter (λ v. not (is_variable_of safe v)) vs

-- the unsafe variables of a head: those of an atom that the body doesn't bind, and those of an element that the body and
-- the element's condition together don't bind
abbrev pub head_unsafe : List Literal → Head → List Term
head_unsafe body (Disj atoms) = unbound body (flat_map atom_variables atoms)
head_unsafe body (Choice low elements high) =
    flat_map (λ (e : Element). unbound (body ++ e.cond) (element_variables e)) elements

-- the unsafe variables of a rule: those of its head, and those of the body that the body doesn't bind
abbrev pub rule_unsafe : Rule → List Term
rule_unsafe r = head_unsafe r.body r.head ++ unbound r.body (flat_map literal_variables r.body)

-- the variable as refusals show it
abbrev pub shown_variable : Term → ShownVariable
shown_variable (Int x) = var.Anon
shown_variable (Sym s) = var.Anon
shown_variable (Var v) = var.Named v
shown_variable (Anon k) = var.Anon
shown_variable (Range low high) = var.Anon

-- the unsafe variable of a rule that is written first, wherever in the rule it is unsafe
abbrev pub first_unsafe : Rule → Option Term
first_unsafe r = find (is_variable_of (rule_unsafe r)) (rule_variables r)

-- a rule's number as refusals show it
abbrev pub shown_number : ℕ → ℕ
shown_number n = min n 4294967295

-- the first unsafe rule of rules that are numbered from one on, and its first unsafe variable
abbrev pub first_unsafe_from : ℕ → List Rule → Option (ℕ × ShownVariable)
first_unsafe_from number [] = None
first_unsafe_from number (r ∷ rules) = elim (first_unsafe r) [
  | None ↦ first_unsafe_from (suc number) rules
  | Some v ↦ Some (shown_number number, shown_variable v)
]

-- the rules of a program through its levels and its constraint part
abbrev pub all_rules : Program → List Rule
all_rules p = flat_map (λ rules. rules) (level_rules p)

-- the first unsafe rule of a program and its first unsafe variable, where the program isn't safe
abbrev pub unsafe_in : Program → Option (ℕ × ShownVariable)
unsafe_in p = first_unsafe_from 1 (all_rules p)
