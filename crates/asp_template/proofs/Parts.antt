-- Records by their fields, and the terms of a rule as they are written.
use Rattle.std.proofs.Common.{ℕ, suc, ◌≡◌, List, ◌++◌, arith}
use Rattle.std.specs.List.{flat_map}
use Rattle.asp_defs.specs.declared.ground.Const.{Const}
use Rattle.asp_defs.specs.declared.ground.GroundAtom.{GroundAtom}
use Rattle.asp_defs.specs.declared.ground.GroundRule.{GroundRule}
use Rattle.asp_defs.specs.declared.syntax.Term.{Term}
use Rattle.asp_defs.specs.declared.syntax.Atom.{Atom}
use Rattle.asp_defs.specs.declared.syntax.Literal.{Literal}
use Rattle.asp_defs.specs.declared.syntax.Element.{Element}
use Rattle.asp_defs.specs.declared.syntax.Head.{Head}
use Rattle.asp_defs.specs.declared.syntax.Rule.{Rule}
use Rattle.asp_defs.specs.Bases.{Predicate}
use Rattle.asp_defs.specs.Instances.{Schema, atom_variables, literal_variables, instance, assignments}

abbrev pub make_predicate : List ℕ → ℕ → Predicate
make_predicate name arity = record { name = name; arity = arity }

abbrev pub make_rule : Head → List Literal → Rule
make_rule head body = record { head = head; body = body }

abbrev pub with_args : Atom → List Term → Atom
with_args a args = record { name = a.name; args = args }

-- the variables of a disjunctive rule and of an element with a body, as they are written
abbrev pub disjunctive_written : List Atom → List Literal → List Term
disjunctive_written atoms body = flat_map atom_variables atoms ++ flat_map literal_variables body

abbrev pub element_written : List Literal → Element → List Term
element_written body e = atom_variables e.atom ++ (flat_map literal_variables e.cond ++ flat_map literal_variables body)

-- all instances of a schema over a universe
abbrev pub all_instances : List GroundAtom → List Const → Schema → List GroundRule
all_instances atoms U s = flat_map (instance atoms s) (assignments U s)

-- lengths that aren't those of a fact's parts
pub suc_is_not : (n : ℕ) → suc n ≡ 0 → ⊥
suc_is_not n e = absurd (omega arith)

pub more_is_not : (n : ℕ) → suc (suc n) ≡ 1 → ⊥
more_is_not n e = absurd (omega arith)
