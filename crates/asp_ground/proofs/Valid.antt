-- The game of a program that passes all checks and keeps the limits is valid.
use Rattle.std.proofs.Common.{ℕ, ◌≡◌, ◌+◌, ◌-◌, ◌≤◌, sym, ◌∙◌, ap, true, not, None, List, [], ◌∷◌, length, arith}
use Rattle.std.specs.Prelude.{IsTrue, nat_lt}
use Rattle.std.specs.List.{list_all}
use Rattle.std.specs.Option.{option_or}
use Rattle.std.proofs.lemmas.List.{length-map}
use Rattle.asp_defs.specs.declared.faults.Which.{Which}
use Rattle.asp_defs.specs.declared.faults.Which.TheVariants as which
use Rattle.asp_defs.specs.declared.syntax.Part.{Part}
use Rattle.asp_defs.specs.declared.syntax.Program.{Program}
use Rattle.asp_defs.specs.Lists.{is_empty}
use Rattle.asp_defs.specs.Bases.{base_atoms, last_level}
use Rattle.asp_defs.specs.Safety.{all_rules}
use Rattle.asp_defs.specs.ConstraintPart.{level_rule_count, headed_in}
use Rattle.asp_defs.specs.Limits.{past_limit, most_arguments, most_literals, most_variables, too_large_in}
use Rattle.asp_defs.specs.Sizes.{constant_total, atom_total, instance_total, game_too_large}
use Rattle.asp_defs.specs.Checks.{HeadedRule, PastLimit, safety_refusal, form_refusal, size_refusal, is_checked}
use Rattle.asp_defs.specs.Bounds.{bound_atoms}
use Rattle.asp_defs.specs.Games.{game_of, level_count, level_ground, level_bounds, base, rules_of, bounds_of, within, rule_atoms, is_constraint, IsValid}
use Rattle.asp_defs.proofs.Lists.{all_at}
use Rattle.asp_defs.proofs.TextRefutations.{clash}
use Rattle.asp_checked.specs.Condition.{IsCheckable, has_intervals_in_facts}
use Rattle.asp_atoms.proofs.Assembling.{base_atoms_ascend}
use Rattle.asp_atoms.proofs.Counting.{within_limit, first_none, second_none, unmapped, no_one}
use Rattle.asp_ground.proofs.BaseAtoms.{base_numbers, bases_ascend, bases_nested, bases_long, base_at, first_empty, last_long, last_below}
use Rattle.asp_ground.proofs.LevelRules.{rules_long, bounds_long, written_rules, level_at, bounds_at, level_within, level_bounds_within, levels_formed, level_constraints, level_unbounded, last_rules, none_headed}

-- ---- what the checks and the limits say

no_refusal : (p : Program) → IsTrue (is_checked p) → option_or (form_refusal p) (size_refusal p) ≡ None
no_refusal p checked =
    second_none (safety_refusal p) (option_or (form_refusal p) (size_refusal p))
    (no_one (option_or (safety_refusal p) (option_or (form_refusal p) (size_refusal p))) checked)

few : (p : Program) → IsTrue (is_checked p) → length p.levels ≤ 16
few p checked =
    let found = unmapped (λ (f : Which × ℕ). PastLimit f.0 f.1) (too_large_in p) (second_none (form_refusal p) (size_refusal p) (no_refusal p checked)) in
    within_limit which.Levels (length p.levels)
    (first_none (past_limit which.Levels (length p.levels)) (option_or (past_limit which.Arguments (most_arguments p)) (option_or (past_limit which.Literals (most_literals p)) (past_limit which.Variables (most_variables p)))) found)

no_headed : (p : Program) → IsTrue (is_checked p) → headed_in p ≡ None
no_headed p checked = unmapped HeadedRule (headed_in p) (first_none (form_refusal p) (size_refusal p) (no_refusal p checked))

few_atoms : (p : Program) → game_too_large p ≡ None → atom_total p ≤ 262144
few_atoms p small =
    within_limit which.Atoms (atom_total p)
    (first_none (past_limit which.Atoms (atom_total p)) (past_limit which.Instances (instance_total p))
    (second_none (past_limit which.Constants (constant_total p)) (option_or (past_limit which.Atoms (atom_total p)) (past_limit which.Instances (instance_total p))) small))

some_level : (levels : List Part) → not (is_empty levels) ≡ true → 1 ≤ length levels
some_level [] h = clash h
some_level (part ∷ levels) h = omega arith

-- ---- the game

levels_counted : (p : Program) → level_count (game_of p) ≡ length p.levels
levels_counted p = length-map p.levels (λ (part : Part). part.quant)

last_is : (p : Program) → level_count (game_of p) + 1 ≡ last_level p
last_is p = ap (λ n. n + 1) (levels_counted p)

last_base_is : (p : Program) → base (game_of p) (level_count (game_of p) + 1) ≡ base_numbers p (last_level p)
last_base_is p = ap (base (game_of p)) (last_is p) ∙ base_at p (last_level p) (omega arith)

rules_at : (p : Program) (i : ℕ) → 1 ≤ i → i ≤ last_level p → rules_of (game_of p) i ≡ level_ground p (i, written_rules p i)
rules_at p i low high = level_at p i low high

all_within : (p : Program) → IsCheckable p → (i : ℕ) → 1 ≤ i → i ≤ last_level p → list_all (λ r. within (rule_atoms r) (base (game_of p) i)) (rules_of (game_of p) i) ≡ true
all_within p checkable i low high =
    ap (λ rules. list_all (λ r. within (rule_atoms r) (base (game_of p) i)) rules) (rules_at p i low high)
    ∙ (ap (λ B. list_all (λ r. within (rule_atoms r) B) (level_ground p (i, written_rules p i))) (base_at p i high)
    ∙ level_within p (λ r m. all_at has_intervals_in_facts (all_rules p) r checkable.intervals m) i low high)

bounds_within : (p : Program) → IsCheckable p → (i : ℕ) → 1 ≤ i → i ≤ last_level p → list_all (λ b. within (bound_atoms b) (base (game_of p) i)) (bounds_of (game_of p) i) ≡ true
bounds_within p checkable i low high =
    ap (λ bounds. list_all (λ b. within (bound_atoms b) (base (game_of p) i)) bounds) (bounds_at p i low high)
    ∙ (ap (λ B. list_all (λ b. within (bound_atoms b) B) (level_bounds p (i, written_rules p i))) (base_at p i high)
    ∙ level_bounds_within p (λ r m. all_at has_intervals_in_facts (all_rules p) r checkable.intervals m) i low high)

last_unbounded : (p : Program) → IsTrue (is_checked p) → bounds_of (game_of p) (level_count (game_of p) + 1) ≡ []
last_unbounded p checked =
    ap (bounds_of (game_of p)) (last_is p)
    ∙ (bounds_at p (last_level p) (omega arith) (omega arith)
    ∙ (ap (λ rules. level_bounds p (last_level p, rules)) (last_rules p)
    ∙ level_unbounded p (none_headed (level_rule_count p + 1) p.cons (no_headed p checked)) (last_level p)))

last_constraints : (p : Program) → IsTrue (is_checked p) → list_all is_constraint (rules_of (game_of p) (level_count (game_of p) + 1)) ≡ true
last_constraints p checked =
    ap (λ n. list_all is_constraint (rules_of (game_of p) n)) (last_is p)
    ∙ (ap (list_all is_constraint) (rules_at p (last_level p) (omega arith) (omega arith))
    ∙ (ap (λ rules. list_all is_constraint (level_ground p (last_level p, rules))) (last_rules p)
    ∙ level_constraints p (none_headed (level_rule_count p + 1) p.cons (no_headed p checked)) (last_level p)))

pub text_game_is_valid : (p : Program) → IsTrue (is_checked p) → IsCheckable p → game_too_large p ≡ None → IsValid (game_of p)
text_game_is_valid p checked checkable small =
    let counted = levels_counted p in
    let last = last_is p in
    let bases = bases_long p in
    let rules = rules_long p in
    let one = some_level p.levels checkable.levels in
    let most = few p checked in
    record {
      some_levels = omega (arith, counted, one);
      few_levels = omega (arith, counted, most);
      few_atoms = few_atoms p small;
      rule_lists = rules ∙ sym last;
      bound_lists = bounds_long p ∙ sym last;
      base_lists = omega (arith, bases, last);
      ordered_atoms = base_atoms_ascend p (last_level p);
      ordered_bases = bases_ascend p;
      nested_bases = bases_nested p;
      first_base = base_at p 0 (omega arith) ∙ first_empty p;
      last_base = ap length (last_base_is p) ∙ last_long p;
      last_within = ap (list_all (λ a. nat_lt a (length (base_atoms p (last_level p))))) (last_base_is p) ∙ last_below p;
      rules_within = λ i low high. all_within p checkable i low (omega (arith, last, high));
      bounds_within = λ i low high. bounds_within p checkable i low (omega (arith, last, high));
      choices = λ i. levels_formed p (i - 1);
      constraints = last_constraints p checked;
      unbounded = last_unbounded p checked;
    }
