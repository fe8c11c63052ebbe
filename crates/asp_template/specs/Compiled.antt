-- The templates of a rule, and the instances that they give (of this project). All definitions are transparent.
use Rattle.std.specs.Prelude.{ℕ, if◌then◌else◌, Bool, false, ◌&&◌, ◌==◌, List, [], ◌∷◌, ◌++◌, map, length, get_or, replicate}
use Rattle.std.specs.List.{flat_map, position_or_len}
use Rattle.asp_defs.specs.declared.ground.Const.{Const}
use Rattle.asp_defs.specs.declared.ground.Const.TheVariants as const
use Rattle.asp_defs.specs.declared.ground.GroundRule.{GroundRule}
use Rattle.asp_defs.specs.declared.syntax.Op.{Op}
use Rattle.asp_defs.specs.declared.syntax.Term.{Term}
use Rattle.asp_defs.specs.declared.syntax.Term.TheVariants.{Int, Sym, Var, Anon, Range}
use Rattle.asp_defs.specs.declared.syntax.Atom.{Atom}
use Rattle.asp_defs.specs.declared.syntax.Literal.{Literal}
use Rattle.asp_defs.specs.declared.syntax.Literal.TheVariants.{Pos, Neg, Cmp}
use Rattle.asp_defs.specs.declared.syntax.Head.{Head}
use Rattle.asp_defs.specs.declared.syntax.Head.TheVariants.{Disj, Choice}
use Rattle.asp_defs.specs.declared.syntax.Rule.{Rule}
use Rattle.asp_defs.specs.Constants.{interval}
use Rattle.asp_defs.specs.Bases.{atom_predicate}
use Rattle.asp_defs.specs.Instances.{Schema, same_variable, pos_atoms, neg_atoms}
use Rattle.asp_defs.specs.Lists.{numbers_from}
use Rattle.asp_atoms.specs.declared.vocabularies.Vocabulary.{Vocabulary}
use Rattle.asp_template.specs.declared.template.Slot.{Slot}
use Rattle.asp_template.specs.declared.template.Slot.TheVariants.{Rank, Variable}
use Rattle.asp_template.specs.declared.template.AtomTemplate.{AtomTemplate}
use Rattle.asp_template.specs.declared.template.Comparison.{Comparison}
use Rattle.asp_template.specs.declared.template.Template.{Template}
use Rattle.asp_template.specs.Ranks.{capped, rank_of, first_of}
use Rattle.asp_template.specs.Variables.{found_disjunctive, found_element}
use Rattle.asp_template.specs.Templates.{instances_over}

-- a term: the rank of a constant or the place of a variable; an interval counts as its first integer
abbrev pub slot_of : List Const → List Term → Term → Slot
slot_of constants variables (Int x) = Rank (rank_of constants (const.Int x))
slot_of constants variables (Sym s) = Rank (rank_of constants (const.Sym s))
slot_of constants variables (Var v) = Variable (position_or_len (same_variable (Var v)) variables)
slot_of constants variables (Anon k) = Variable (position_or_len (same_variable (Anon k)) variables)
slot_of constants variables (Range low high) = Rank (rank_of constants (const.Int low))

abbrev pub atom_template : Vocabulary → List Term → Atom → AtomTemplate
atom_template v variables a = record {
  first = first_of v.predicates (atom_predicate a);
  slots = map (slot_of v.constants variables) a.args;
}

abbrev pub comparison : List Const → List Term → Term → Op → Term → Comparison
comparison constants variables x op y =
    record { left = slot_of constants variables x; op = op; right = slot_of constants variables y }

abbrev pub comparisons_of : List Const → List Term → Literal → List Comparison
comparisons_of constants variables (Pos a) = []
comparisons_of constants variables (Neg a) = []
comparisons_of constants variables (Cmp x op y) = comparison constants variables x op y ∷ []

-- the template of a head and of literals, and one with a literal more
abbrev pub compiled : Vocabulary → List Term → Bool → List AtomTemplate → List Literal → Template
compiled v variables choice heads literals = record {
  choice = choice;
  heads = heads;
  comparisons = flat_map (comparisons_of v.constants variables) literals;
  pos = map (atom_template v variables) (flat_map pos_atoms literals);
  neg = map (atom_template v variables) (flat_map neg_atoms literals);
}

abbrev pub with_literal : Vocabulary → List Term → Template → Literal → Template
with_literal v variables t (Pos a) = record {
  choice = t.choice;
  heads = t.heads;
  comparisons = t.comparisons;
  pos = t.pos ++ atom_template v variables a ∷ [];
  neg = t.neg;
}
with_literal v variables t (Neg a) = record {
  choice = t.choice;
  heads = t.heads;
  comparisons = t.comparisons;
  pos = t.pos;
  neg = t.neg ++ atom_template v variables a ∷ [];
}
with_literal v variables t (Cmp x op y) = record {
  choice = t.choice;
  heads = t.heads;
  comparisons = t.comparisons ++ comparison v.constants variables x op y ∷ [];
  pos = t.pos;
  neg = t.neg;
}

abbrev pub template_of : Vocabulary → Schema → Template
template_of v s = compiled v s.variables s.choice (map (atom_template v s.variables) s.heads) s.body

-- the instances of a schema, each of whose variables runs through the same ranks
abbrev pub schema_instances : Vocabulary → List ℕ → Schema → List GroundRule
schema_instances v ranks s =
    instances_over (capped (length v.constants)) (template_of v s) (replicate (length s.variables) ranks)

-- the ranks that an argument of a fact stands for
abbrev pub argument_ranks : List Const → Term → List ℕ
argument_ranks constants (Int x) = rank_of constants (const.Int x) ∷ []
argument_ranks constants (Sym s) = rank_of constants (const.Sym s) ∷ []
argument_ranks constants (Var v) = []
argument_ranks constants (Anon k) = []
argument_ranks constants (Range low high) = map (λ x. rank_of constants (const.Int x)) (interval low high)

-- a fact whose arguments run through ranks
abbrev pub fact_template : Vocabulary → Atom → Template
fact_template v a = record {
  choice = false;
  heads = record {
    first = first_of v.predicates (atom_predicate a);
    slots = map Variable (numbers_from 0 (length a.args));
  } ∷ [];
  comparisons = [];
  pos = [];
  neg = [];
}

abbrev pub fact_instances : Vocabulary → Atom → List GroundRule
fact_instances v a =
    instances_over (capped (length v.constants)) (fact_template v a) (map (argument_ranks v.constants) a.args)

-- whether a head and a body are those of a fact
abbrev pub is_fact : List Atom → List Literal → Bool
is_fact atoms body = (length atoms == 1) && (length body == 0)

abbrev pub no_atom : Atom
no_atom = record { name = []; args = [] }

-- the instances of a disjunctive rule and of any rule
abbrev pub disjunctive_instances : Vocabulary → List ℕ → List Atom → List Literal → List GroundRule
disjunctive_instances v ranks atoms body =
    if is_fact atoms body
    then fact_instances v (get_or atoms 0 no_atom)
    else schema_instances v ranks (found_disjunctive atoms body)

abbrev pub head_instances : Vocabulary → List ℕ → Head → List Literal → List GroundRule
head_instances v ranks (Disj atoms) body = disjunctive_instances v ranks atoms body
head_instances v ranks (Choice low elements high) body = flat_map (λ e. schema_instances v ranks (found_element body e)) elements

abbrev pub compiled_instances : Vocabulary → List ℕ → Rule → List GroundRule
compiled_instances v ranks r = head_instances v ranks r.head r.body
