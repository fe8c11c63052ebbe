-- The game of a checked program is that of its compiled rules.
use Rattle.std.proofs.Common.{ℕ, suc, ◌≡◌, ◌⊎◌, ◌<◌, ◌≤◌, ◌+◌, refl, sym, ◌∙◌, ap, subst, inl, inr, Bool, Option, Some, None, List, [], ◌∷◌, ◌++◌, map, take, length, get_or, arith, zero-add, min}
use Rattle.std.specs.Prelude.{if◌then◌else◌, IsTrue, is_none, is_some}
use Rattle.std.specs.List.{flat_map, enumerate_from}
use Rattle.std.specs.Option.{option_or}
use Rattle.std.proofs.lemmas.Bool.{cases_lt, lt-ltb}
use Rattle.std.proofs.lemmas.List.{get_or-map, take_all, map-id}
use Rattle.asp_defs.specs.declared.faults.Which.{Which}
use Rattle.asp_defs.specs.declared.faults.Which.TheVariants as which
use Rattle.asp_defs.specs.declared.faults.SizeFault.{SizeFault}
use Rattle.asp_defs.specs.declared.faults.SizeFault.TheVariants as fault
use Rattle.asp_defs.specs.declared.faults.Var.{Var as ShownVariable}
use Rattle.asp_defs.specs.declared.ground.Const.{Const}
use Rattle.asp_defs.specs.declared.syntax.Term.{Term}
use Rattle.asp_defs.specs.declared.syntax.Rule.{Rule}
use Rattle.asp_defs.specs.declared.syntax.Program.{Program}
use Rattle.asp_defs.specs.Lists.{IsIn, numbers_from}
use Rattle.asp_defs.specs.Constants.{rule_constants, level_rules, rules_to, universe}
use Rattle.asp_defs.specs.Bases.{Predicate, predicate_cmp, rule_predicates, predicates, base_atoms, last_level}
use Rattle.asp_defs.specs.declared.syntax.Head.TheVariants.{Disj}
use Rattle.asp_defs.specs.Instances.{rule_instances}
use Rattle.asp_defs.specs.BoundInstances.{rule_bounds}
use Rattle.asp_defs.specs.Consistency.{consistency_constraint, consistency_constraints}
use Rattle.asp_defs.specs.Games.{level_ground, level_bounds, game_of}
use Rattle.asp_defs.specs.Safety.{all_rules, first_unsafe, first_unsafe_from, unsafe_in, shown_number, shown_variable}
use Rattle.asp_defs.specs.Limits.{past_limit, most_shown, variable_count, most_arguments, most_literals, most_variables}
use Rattle.asp_defs.specs.Sizes.{constant_total, atom_total, instance_total, game_too_large}
use Rattle.asp_defs.specs.Checks.{safety_refusal, check_refusal, is_checked}
use Rattle.asp_defs.proofs.Lists.{all_at, append_at, map_at, map_from}
use Rattle.asp_defs.proofs.TextRefutations.{clash}
use Rattle.asp_checked.specs.Condition.{IsCheckable, has_intervals_in_facts}
use Rattle.asp_walk.proofs.Lists.{flat_at, flat_from}
use Rattle.asp_atoms.specs.Ascending.{Ascends}
use Rattle.asp_atoms.specs.Vocabularies.{const_rank, vocabulary_of}
use Rattle.asp_atoms.specs.Answers.{base_too_large, IsBaseRefusal}
use Rattle.asp_atoms.proofs.Orders.{const_lawful, predicate_lawful}
use Rattle.asp_atoms.proofs.Ascending.{ascends_distinct, in_distinct, distinct_from}
use Rattle.asp_atoms.proofs.Assembling.{number_reads}
use Rattle.asp_atoms.proofs.Choosing.{unnumbered_all}
use Rattle.asp_atoms.proofs.Counting.{levels_long, not_large, no_one, unmapped, within_limit, first_none, second_none, limit_kept, max_member, short_predicates}
use Rattle.asp_atoms.proofs.Gathering.{few_constants, few_atoms}
use Rattle.asp_atoms.proofs.Levels.{get_number, length_numbers}
use Rattle.asp_template.specs.Ranks.{IsOrdered}
use Rattle.asp_ground.specs.Faults.{IsGameRefusal, IsInstanceFault}
use Rattle.asp_template.specs.Compiled.{compiled_instances}
use Rattle.asp_ground.specs.Levels.{level_instances, compiled_levels}
use Rattle.asp_ground.proofs.Members.{in_take}
use Rattle.asp_atoms.proofs.Choosing.{flat_map_agrees}
use Rattle.asp_atoms.proofs.Numbering.{map_agrees, map_map}
use Rattle.asp_template.proofs.Known.{Numbers}
use Rattle.asp_template.proofs.Numbers.{const_at, Stands, stands}
use Rattle.asp_ground.specs.BoundTemplates.{compiled_bounds, level_bounds_by, compiled_level_bounds}
use Rattle.asp_template.proofs.RuleInstances.{KnownParts, KnownRule, Ranked, plain_is, rule_is}
use Rattle.asp_ground.proofs.ConsistencyRules.{no_constant, constrains, body_single, Comes, comes, few_variables as few_variables_of}
use Rattle.asp_ground.proofs.BoundInstances.{bounds_are}

-- ---- the vocabulary ascends

pub vocabulary_is_ordered : (p : Program) → IsOrdered (vocabulary_of p)
vocabulary_is_ordered p = record {
  constants = ascends_distinct const_lawful (flat_map rule_constants (rules_to p (last_level p)));
  predicates = subst (λ (qs : List Predicate). Ascends predicate_cmp qs) (sym (unnumbered_all (length (vocabulary_of p).constants) 0 (predicates p (last_level p))))
      (ascends_distinct predicate_lawful (flat_map rule_predicates (rules_to p (last_level p))));
}

-- ---- limits

abbrev limited : Bool → Which → ℕ → Option (Which × ℕ)
limited past w count = if past then Some (w, min count most_shown) else None

some_is_none : {A : Type 0} (x : A) → Some x ≡ None → ⊥
some_is_none x e = clash (ap is_none e)

-- a count that is cut off above the limit passes it as the whole one does
pub past_cut : (count shown : ℕ) → shown ≡ min count most_shown → past_limit which.Instances shown ≡ past_limit which.Instances count
past_cut count shown e = elim (cases_lt 4000000 count) [
  | inl past ↦
      let same : min shown most_shown ≡ min count most_shown = omega (arith, e) in
      ap (λ b. limited b which.Instances shown) (lt-ltb 4000000 shown (omega (arith, e, past)))
      ∙ (ap (λ n. Some (which.Instances, n)) same ∙ sym (ap (λ b. limited b which.Instances count) (lt-ltb 4000000 count past)))
  | inr within ↦
      limit_kept which.Instances shown (omega (arith, e, within)) ∙ sym (limit_kept which.Instances count within)
]

-- a game that keeps the limits has bases that keep theirs, and few instances
without_third : {A : Type 0} (a b c : Option A) → option_or a (option_or b c) ≡ None → option_or a b ≡ None
without_third None b c e = first_none b c e
without_third (Some x) b c e = e

third_alone : {A : Type 0} (a b c d : Option A) → option_or a b ≡ None → option_or a (option_or b c) ≡ d → c ≡ d
third_alone None None c d e f = f
third_alone None (Some x) c d e f = clash (ap is_none e)
third_alone (Some x) b c d e f = clash (ap is_none e)

pub few_in_bases : (p : Program) → game_too_large p ≡ None → base_too_large p ≡ None
few_in_bases p e =
    without_third (past_limit which.Constants (constant_total p)) (past_limit which.Atoms (atom_total p)) (past_limit which.Instances (instance_total p)) e

pub few_instances : (p : Program) → game_too_large p ≡ None → past_limit which.Instances (instance_total p) ≡ None
few_instances p e = second_none (past_limit which.Atoms (atom_total p)) _ (second_none (past_limit which.Constants (constant_total p)) _ e)

-- where the bases keep their limits, it is for its instances that a game is refused
pub instance_fault : (p : Program) (fault : SizeFault) → base_too_large p ≡ None → IsGameRefusal p fault → IsInstanceFault p fault
instance_fault p (fault.TooLarge found count) e h =
    third_alone (past_limit which.Constants (constant_total p)) (past_limit which.Atoms (atom_total p)) (past_limit which.Instances (instance_total p)) (Some (found, count)) e h
instance_fault p fault.NoMemory e h = tt

-- a refusal of the bases is one of the game
with_second : {A : Type 0} (a b c : Option A) (x : A) → option_or a b ≡ Some x → option_or a (option_or b c) ≡ Some x
with_second None None c x e = clash (ap is_some e)
with_second None (Some y) c x e = e
with_second (Some y) b c x e = e

pub base_refusal : (p : Program) (fault : SizeFault) → IsBaseRefusal p fault → IsGameRefusal p fault
base_refusal p (fault.TooLarge found count) h =
    with_second (past_limit which.Constants (constant_total p)) (past_limit which.Atoms (atom_total p)) (past_limit which.Instances (instance_total p)) (found, count) h
base_refusal p fault.NoMemory h = tt

-- and so is one of the instances
with_third : {A : Type 0} (a b c d : Option A) → option_or a b ≡ None → c ≡ d → option_or a (option_or b c) ≡ d
with_third None None c d e f = f
with_third None (Some x) c d e f = clash (ap is_none e)
with_third (Some x) b c d e f = clash (ap is_none e)

pub game_by_instances : (p : Program) (found : Option (Which × ℕ)) → base_too_large p ≡ None → past_limit which.Instances (instance_total p) ≡ found → game_too_large p ≡ found
game_by_instances p found e f =
    with_third (past_limit which.Constants (constant_total p)) (past_limit which.Atoms (atom_total p)) (past_limit which.Instances (instance_total p)) found e f

record Small (p : Program) : Type 0 where
  constants : length (vocabulary_of p).constants ≤ 4294967295
  atoms : length (base_atoms p (last_level p)) ≤ 4294967295

small : (p : Program) → base_too_large p ≡ None → Small p
small p e =
    let few = few_constants p e in
    let more = few_atoms p e in
    record { constants = omega (arith, few); atoms = omega (arith, more) }

numbers_of : (p : Program) → base_too_large p ≡ None → Numbers (base_atoms p (last_level p)) (vocabulary_of p)
numbers_of p e =
    let s = small p e in
    record { ordered = vocabulary_is_ordered p; few = s.constants; small = s.atoms; numbers = λ q args i same known. number_reads p q i args same known }

-- ---- the rules of a checked program

all_levels : (p : Program) → rules_to p (last_level p) ≡ all_rules p
all_levels p =
    let count = levels_long p in
    ap (flat_map (λ (rules : List Rule). rules)) (take_all (last_level p) (level_rules p) (omega (arith, count)))

pub constant_known : (p : Program) (r : Rule) (c : Const) → IsIn r (all_rules p) → IsIn c (rule_constants r) → IsIn c (universe p (last_level p))
constant_known p r c i j =
    distinct_from const_lawful (flat_map rule_constants (rules_to p (last_level p))) c
    (subst (λ (rules : List Rule). IsIn c (flat_map rule_constants rules)) (sym (all_levels p)) (flat_from rule_constants (all_rules p) r c i j))

predicate_known : (p : Program) (r : Rule) (q : Predicate) → IsIn r (all_rules p) → IsIn q (rule_predicates r) → IsIn q (predicates p (last_level p))
predicate_known p r q i j =
    distinct_from predicate_lawful (flat_map rule_predicates (rules_to p (last_level p))) q
    (subst (λ (rules : List Rule). IsIn q (flat_map rule_predicates rules)) (sym (all_levels p)) (flat_from rule_predicates (all_rules p) r q i j))

-- each rule of a safe list is safe
abbrev found_first : ℕ → List Rule → Option Term → Option (ℕ × ShownVariable)
found_first n rules o = elim o [ None ↦ first_unsafe_from (suc n) rules | Some v ↦ Some (shown_number n, shown_variable v) ]

safe_first : (n : ℕ) (x : Rule) (rules : List Rule) (r : Rule) (o : Option Term) → first_unsafe x ≡ o → first_unsafe_from n (x ∷ rules) ≡ None → IsIn r (x ∷ rules) → (first_unsafe_from (suc n) rules ≡ None → IsIn r rules → first_unsafe r ≡ None) → first_unsafe r ≡ None
safe_first n x rules r None e h (inl same) behind = subst (λ (y : Rule). first_unsafe y ≡ None) (sym same) e
safe_first n x rules r None e h (inr i) behind = behind (sym (ap (found_first n rules) e) ∙ h) i
safe_first n x rules r (Some v) e h i behind =
    let shown : ℕ × ShownVariable = (shown_number n, shown_variable v) in
    absurd (some_is_none shown (sym (ap (found_first n rules) e) ∙ h))

safe_each : (n : ℕ) (rules : List Rule) → first_unsafe_from n rules ≡ None → (r : Rule) → IsIn r rules → first_unsafe r ≡ None
safe_each n [] h r i = absurd i
safe_each n (x ∷ rules) h r i =
    safe_first n x rules r (first_unsafe x) refl h i (λ k j. safe_each (suc n) rules k r j)

none_unsafe : (p : Program) → IsTrue (is_checked p) → unsafe_in p ≡ None
none_unsafe p checked = unmapped _ (unsafe_in p) (first_none (safety_refusal p) _ (no_one (check_refusal p) checked))

-- no rule has more variables than the limit allows
few_variables : (p : Program) → IsTrue (is_checked p) → (r : Rule) → IsIn r (all_rules p) → variable_count r ≤ 16
few_variables p checked r i =
    let few : past_limit which.Variables (most_variables p) ≡ None =
    second_none (past_limit which.Literals (most_literals p)) _
    (second_none (past_limit which.Arguments (most_arguments p)) _ (second_none (past_limit which.Levels (length p.levels)) _ (not_large p checked))) in
    let most : most_variables p ≤ 16 = within_limit which.Variables (most_variables p) few in
    let here : variable_count r ≤ most_variables p = max_member 0 (map variable_count (all_rules p)) (variable_count r) (map_from variable_count (all_rules p) r i) in
    omega (arith, most, here)

pub rule_known : (p : Program) → IsTrue (is_checked p) → IsCheckable p → (r : Rule) → IsIn r (all_rules p) → KnownRule (vocabulary_of p) r.head r.body
rule_known p checked checkable r i = record {
  constants = λ c j. constant_known p r c i j;
  predicates = λ q j.
      subst (λ (qs : List Predicate). IsIn q qs) (sym (unnumbered_all (length (vocabulary_of p).constants) 0 (predicates p (last_level p))))
      (predicate_known p r q i j);
  intervals = all_at has_intervals_in_facts (all_rules p) r checkable.intervals i;
  safe = safe_each 1 (all_rules p) (none_unsafe p checked) r i;
  few = few_variables p checked r i;
}

-- ---- universes

pub universe_at : (p : Program) (i : ℕ) → i < last_level p + 1 → get_or (vocabulary_of p).universes i [] ≡ map (const_rank (vocabulary_of p).constants) (universe p i)
universe_at p i h =
    let count = length_numbers 0 (last_level p + 1) in
    get_or-map (λ j. map (const_rank (vocabulary_of p).constants) (universe p j)) (numbers_from 0 (last_level p + 1)) i 0 [] (omega (arith, count))
    ∙ ap (λ j. map (const_rank (vocabulary_of p).constants) (universe p j)) (get_number 0 (last_level p + 1) i 0 h ∙ zero-add i)

rule_to : (p : Program) (i : ℕ) (r : Rule) → IsIn r (rules_to p i) → IsIn r (all_rules p)
rule_to p i r h =
    let found = flat_at (λ (rules : List Rule). rules) (take i (level_rules p)) r h in
    flat_from (λ (rules : List Rule). rules) (level_rules p) found.0 r (in_take i (level_rules p) found.0 found.1) found.2

member_known : (p : Program) (i : ℕ) (c : Const) → IsIn c (universe p i) → IsIn c (vocabulary_of p).constants
member_known p i c h =
    let written = in_distinct const_lawful (flat_map rule_constants (rules_to p i)) c h in
    let found = flat_at rule_constants (rules_to p i) c written in
    constant_known p found.0 c (rule_to p i found.0 found.1) found.2

member_stands : (p : Program) (i : ℕ) (c : Const) → IsIn c (universe p i) → Stands (vocabulary_of p).constants c
member_stands p i c h = stands (vocabulary_of p).constants c (vocabulary_is_ordered p).constants (member_known p i c h)

ranked_at : (p : Program) (i : ℕ) → i < last_level p + 1 → Ranked (vocabulary_of p) (universe p i) (get_or (vocabulary_of p).universes i [])
ranked_at p i h = record {
  same = sym (ap (map (const_at (vocabulary_of p).constants)) (universe_at p i h)
      ∙ (map_map (const_at (vocabulary_of p).constants) (const_rank (vocabulary_of p).constants) (universe p i)
      ∙ (map_agrees (λ c. const_at (vocabulary_of p).constants (const_rank (vocabulary_of p).constants c)) (λ c. c) (universe p i) (λ c j. (member_stands p i c j).here)
      ∙ map-id (universe p i))));
  below = λ rank j.
      let found = map_at (const_rank (vocabulary_of p).constants) (universe p i) rank (subst (λ (rs : List ℕ). IsIn rank rs) (universe_at p i h) j) in
      subst (λ n. n < length (vocabulary_of p).constants) (sym found.2) (member_stands p i found.0 found.1).inside;
}

-- ---- levels

pub record Placed (k : ℕ) (levels : List (List Rule)) (level : ℕ × List Rule) : Type 0 where
  pub low : k ≤ level.0
  pub high : level.0 < k + length levels
  pub member : IsIn level.1 levels

pub placed : (k : ℕ) (levels : List (List Rule)) (level : ℕ × List Rule) → IsIn level (enumerate_from k levels) → Placed k levels level
placed k [] level i = absurd i
placed k (rules ∷ levels) level (inl e) =
    let number : level.0 ≡ k = ap (λ (l : ℕ × List Rule). l.0) e in
    record { low = omega (arith, number); high = omega (arith, number); member = inl (ap (λ (l : ℕ × List Rule). l.1) e) }
placed k (rules ∷ levels) level (inr i) =
    let rest = placed (k + 1) levels level i in
    let low = rest.low in
    let high = rest.high in
    record { low = omega (arith, low); high = omega (arith, high); member = inr rest.member }

-- a predicate of a level is one of the vocabulary's
pub level_predicate : (p : Program) (i : ℕ) (q : Predicate) → IsIn q (predicates p i) → IsIn q (predicates p (last_level p))
level_predicate p i q h =
    let found = flat_at rule_predicates (rules_to p i) q (in_distinct predicate_lawful (flat_map rule_predicates (rules_to p i)) q h) in
    predicate_known p found.0 q (rule_to p i found.0 found.1) found.2

constraint_known : (p : Program) (i : ℕ) (r : Rule) (c : Comes p i r) → KnownParts (vocabulary_of p) (Disj []) (consistency_constraint c.of).body
constraint_known p i r c = record {
  constants = λ x k. absurd (subst (λ (cs : List Const). IsIn x cs) (no_constant c.of) k);
  predicates = λ q k.
      subst (λ (qs : List Predicate). IsIn q qs) (sym (unnumbered_all (length (vocabulary_of p).constants) 0 (predicates p (last_level p))))
      (level_predicate p i q (elim (constrains c.of q k) [
        | inl e ↦ subst (λ s. IsIn s (predicates p i)) (sym e) c.here
        | inr e ↦ subst (λ s. IsIn s (predicates p i)) (sym e) c.negation
      ]));
  single = (refl, body_single c.of);
}

-- a consistency constraint of a level has the instances of its template
constraint_is : (p : Program) (i : ℕ) (r : Rule) → IsTrue (is_checked p) → base_too_large p ≡ None → i < last_level p + 1 → IsIn r (consistency_constraints p i) → rule_instances (base_atoms p (last_level p)) (universe p i) r ≡ compiled_instances (vocabulary_of p) (get_or (vocabulary_of p).universes i []) r
constraint_is p i r checked e within j =
    let c = comes p i r j in
    let few = few_variables_of c.of in
    let short = short_predicates p checked c.of (level_predicate p i c.of c.here) in
    subst (λ s. rule_instances (base_atoms p (last_level p)) (universe p i) s ≡ compiled_instances (vocabulary_of p) (get_or (vocabulary_of p).universes i []) s) (sym c.is)
    (plain_is (base_atoms p (last_level p)) (vocabulary_of p) (universe p i) (get_or (vocabulary_of p).universes i []) [] (consistency_constraint c.of).body
    (numbers_of p e) (ranked_at p i within) (constraint_known p i r c) (omega (arith, few, short)))

level_is : (p : Program) (level : ℕ × List Rule) → IsTrue (is_checked p) → IsCheckable p → base_too_large p ≡ None → IsIn level (enumerate_from 1 (level_rules p)) → level_instances (vocabulary_of p) p level ≡ level_ground p level
level_is p level checked checkable e i =
    let place = placed 1 (level_rules p) level i in
    let count = levels_long p in
    let high = place.high in
    let within : level.0 < last_level p + 1 = omega (arith, count, high) in
    flat_map_agrees (compiled_instances (vocabulary_of p) (get_or (vocabulary_of p).universes level.0 [])) (rule_instances (base_atoms p (last_level p)) (universe p level.0)) (level.1 ++ consistency_constraints p level.0)
    (λ r j. sym (either within place.member r (append_at level.1 (consistency_constraints p level.0) r j)))
  where
    either : level.0 < last_level p + 1 → IsIn level.1 (level_rules p) → (r : Rule) → IsIn r level.1 ⊎ IsIn r (consistency_constraints p level.0) → rule_instances (base_atoms p (last_level p)) (universe p level.0) r ≡ compiled_instances (vocabulary_of p) (get_or (vocabulary_of p).universes level.0 []) r
    either within member r (inl k) =
        rule_is (base_atoms p (last_level p)) (vocabulary_of p) (universe p level.0) (get_or (vocabulary_of p).universes level.0 []) r (numbers_of p e) (ranked_at p level.0 within)
        (rule_known p checked checkable r (flat_from (λ (rules : List Rule). rules) (level_rules p) level.1 r member k))
    either within member r (inr k) = constraint_is p level.0 r checked e within k

bounds_level_is : (p : Program) (level : ℕ × List Rule) → IsTrue (is_checked p) → IsCheckable p → base_too_large p ≡ None → IsIn level (enumerate_from 1 (level_rules p)) → level_bounds_by (vocabulary_of p) level ≡ level_bounds p level
bounds_level_is p level checked checkable e i =
    let place = placed 1 (level_rules p) level i in
    let count = levels_long p in
    let high = place.high in
    let within : level.0 < last_level p + 1 = omega (arith, count, high) in
    flat_map_agrees (compiled_bounds (vocabulary_of p) (get_or (vocabulary_of p).universes level.0 [])) (rule_bounds (base_atoms p (last_level p)) (universe p level.0)) level.1
    (λ r j. sym (bounds_are (base_atoms p (last_level p)) (vocabulary_of p) (numbers_of p e) (universe p level.0) (get_or (vocabulary_of p).universes level.0 []) (ranked_at p level.0 within) r
    (rule_known p checked checkable r (flat_from (λ (rules : List Rule). rules) (level_rules p) level.1 r place.member j))))

pub level_bounds_are : (p : Program) → IsTrue (is_checked p) → IsCheckable p → base_too_large p ≡ None → compiled_level_bounds (vocabulary_of p) p ≡ (game_of p).bounds
level_bounds_are p checked checkable e =
    map_agrees (level_bounds_by (vocabulary_of p)) (level_bounds p) (enumerate_from 1 (level_rules p)) (λ level i. bounds_level_is p level checked checkable e i)

pub levels_are : (p : Program) → IsTrue (is_checked p) → IsCheckable p → base_too_large p ≡ None → compiled_levels (vocabulary_of p) p ≡ (game_of p).rules
levels_are p checked checkable e =
    map_agrees (level_instances (vocabulary_of p) p) (level_ground p) (enumerate_from 1 (level_rules p)) (λ level i. level_is p level checked checkable e i)
