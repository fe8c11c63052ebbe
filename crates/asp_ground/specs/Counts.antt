-- How many constants and instances there are, counted from the front of a program on (of this project). All definitions
-- are transparent.
use Rattle.std.specs.Prelude.{ℕ, ◌+◌, ◌*◌, ◌^◌, ◌≡◌, nat_lt, if◌then◌else◌, List, [], ◌∷◌, length, get_or}
use Rattle.std.specs.List.{flat_map, fold, sum_by}
use Rattle.asp_defs.specs.declared.faults.Which.TheVariants as which
use Rattle.asp_defs.specs.declared.ground.Const.{Const}
use Rattle.asp_defs.specs.declared.syntax.Term.{Term}
use Rattle.asp_defs.specs.declared.syntax.Term.TheVariants.{Int, Sym, Var, Anon, Range}
use Rattle.asp_defs.specs.declared.syntax.Atom.{Atom}
use Rattle.asp_defs.specs.declared.syntax.Literal.{Literal}
use Rattle.asp_defs.specs.declared.syntax.Head.{Head}
use Rattle.asp_defs.specs.declared.syntax.Head.TheVariants.{Disj, Choice}
use Rattle.asp_defs.specs.declared.syntax.Rule.{Rule}
use Rattle.asp_defs.specs.Constants.{const_cmp, with_member, interval_length, rule_constants}
use Rattle.asp_defs.specs.Instances.{has_bound}
use Rattle.asp_defs.specs.Limits.{limit}
use Rattle.asp_atoms.specs.Ascending.{Ascends}
use Rattle.asp_template.specs.Variables.{disjunctive_variables, element_variables}
use Rattle.asp_template.specs.Compiled.{is_fact, no_atom}

-- constants in their order with one more, where there is room: for one more than a program with bases has at most
abbrev pub with_constant : List Const → Const → List Const
with_constant found c = if nat_lt (length found) (limit which.Constants + 1) then with_member const_cmp c found else found

-- constants with further ones
pub record Gathers (old new constants : List Const) : Type 0 where
  pub added : new ≡ fold with_constant old constants
  pub ascending : Ascends const_cmp new

-- for how many terms an argument stands, and for how many facts a fact
abbrev pub choice_count : Term → ℕ
choice_count (Int x) = 1
choice_count (Sym s) = 1
choice_count (Var v) = 1
choice_count (Anon k) = 1
choice_count (Range low high) = interval_length low high

abbrev pub fact_count : Atom → ℕ
fact_count a = fold (λ n t. n * choice_count t) 1 a.args

-- how many instances a rule has over so many constants, its ground bounds among them: those have the variables of the body,
-- as a constraint with that body has
abbrev pub head_count : ℕ → Head → List Literal → ℕ
head_count size (Disj atoms) body =
    if is_fact atoms body then fact_count (get_or atoms 0 no_atom) else size ^ length (disjunctive_variables atoms body)
head_count size (Choice low elements high) body =
    sum_by (λ e. size ^ length (element_variables body e)) elements
    + (if has_bound (Choice low elements high) then size ^ length (disjunctive_variables [] body) else 0)

abbrev pub rule_count : ℕ → Rule → ℕ
rule_count size r = head_count size r.head r.body

-- how many instances a level has, where the levels have universes of these ranks
abbrev pub level_count : List (List ℕ) → (ℕ × List Rule) → ℕ
level_count universes level = sum_by (rule_count (length (get_or universes level.0 []))) level.1

-- how many instances levels have, where these constants were found before them
abbrev pub counted_from : List Const → List (List Rule) → ℕ
counted_from found [] = 0
counted_from found (rules ∷ more) =
    let now = fold with_constant found (flat_map rule_constants rules)
    in sum_by (rule_count (length now)) rules + counted_from now more
