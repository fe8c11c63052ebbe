-- What is known of a rule's terms, atoms and literals, and of the vocabulary that it is compiled with.
use Rattle.std.specs.Prelude.{ℕ, ◌≡◌, ◌+◌, ◌<◌, ◌≤◌, List, map, length}
use Rattle.std.specs.List.{position_or_len}
use Rattle.asp_defs.specs.declared.ground.Const.{Const}
use Rattle.asp_defs.specs.declared.ground.Const.TheVariants as const
use Rattle.asp_defs.specs.declared.ground.GroundAtom.{GroundAtom}
use Rattle.asp_defs.specs.declared.syntax.Term.{Term}
use Rattle.asp_defs.specs.declared.syntax.Term.TheVariants.{Int, Sym, Var, Anon, Range}
use Rattle.asp_defs.specs.declared.syntax.Atom.{Atom}
use Rattle.asp_defs.specs.declared.syntax.Literal.{Literal}
use Rattle.asp_defs.specs.declared.syntax.Literal.TheVariants.{Pos, Neg, Cmp}
use Rattle.asp_defs.specs.Lists.{IsIn}
use Rattle.asp_defs.specs.Bases.{atom_predicate, atom_number}
use Rattle.asp_defs.specs.Instances.{Schema, same_variable}
use Rattle.asp_atoms.specs.declared.vocabularies.NumberedPredicate.{NumberedPredicate}
use Rattle.asp_atoms.specs.declared.vocabularies.Vocabulary.{Vocabulary}
use Rattle.asp_atoms.specs.Vocabularies.{const_rank, unnumbered}
use Rattle.asp_template.specs.Ranks.{IsOrdered}
use Rattle.asp_template.proofs.Digits.{read}

abbrev pub make_ground : List ℕ → List Const → GroundAtom
make_ground name args = record { name = name; args = args }

-- a vocabulary with which the numbers of atoms are reckoned
pub record Numbers (atoms : List GroundAtom) (v : Vocabulary) : Type 0 where
  pub ordered : IsOrdered v
  pub few : length v.constants ≤ 4294967295
  pub small : length atoms ≤ 4294967295
  pub numbers : (q : NumberedPredicate) (args : List Const) → IsIn q v.predicates → length args ≡ q.arity → ((c : Const) → IsIn c args → IsIn c v.constants) → atom_number atoms (make_ground q.name args) ≡ q.first + read (length v.constants) 0 (map (const_rank v.constants) args)

-- a term is a constant of the vocabulary or one of the variables
abbrev pub KnownTerm : Vocabulary → List Term → Term → Type 0
KnownTerm v variables (Int x) = IsIn (const.Int x) v.constants
KnownTerm v variables (Sym s) = IsIn (const.Sym s) v.constants
KnownTerm v variables (Var w) = position_or_len (same_variable (Var w)) variables < length variables
KnownTerm v variables (Anon k) = position_or_len (same_variable (Anon k)) variables < length variables
KnownTerm v variables (Range low high) = ⊥

pub record KnownAtom (v : Vocabulary) (variables : List Term) (a : Atom) : Type 0 where
  pub predicate : IsIn (atom_predicate a) (map unnumbered v.predicates)
  pub terms : (t : Term) → IsIn t a.args → KnownTerm v variables t

abbrev pub KnownLiteral : Vocabulary → List Term → Literal → Type 0
KnownLiteral v variables (Pos a) = KnownAtom v variables a
KnownLiteral v variables (Neg a) = KnownAtom v variables a
KnownLiteral v variables (Cmp x op y) = KnownTerm v variables x × KnownTerm v variables y

pub record KnownSchema (v : Vocabulary) (s : Schema) : Type 0 where
  pub heads : (a : Atom) → IsIn a s.heads → KnownAtom v s.variables a
  pub body : (l : Literal) → IsIn l s.body → KnownLiteral v s.variables l
