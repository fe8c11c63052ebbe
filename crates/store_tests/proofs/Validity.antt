-- The two games are valid, and the entries are formed and justified.
use Rattle.std.proofs.Common.{◌≡◌, refl, sym, subst, ℕ, zero, suc, ◌-◌, ◌≤◌, true, List, [], get_or, arith}
use Rattle.std.specs.List.{list_all}
use Rattle.asp_defs.specs.declared.ground.Game.{Game}
use Rattle.asp_defs.specs.Bounds.{bound_atoms}
use Rattle.asp_defs.specs.Games.{IsValid, within, rule_atoms, is_formed}
use Rattle.asp_defs.specs.Entries.{Entry, is_entry}
use Rattle.asp_defs.specs.History.{is_justified}
use Rattle.store_tests.specs.declared.named.Named.{Named}
use Rattle.store_tests.specs.declared.named.Named.TheVariants.{WithoutA, WithoutB, Neither, OnlyB, Both}
use Rattle.store_tests.specs.Games.{two_choices, no_rules}
use Rattle.store_tests.specs.Entries.{entry_of}

-- what holds of a level by its number from 0 holds by its number from 1
by_number : (P : ℕ → ℕ → Type 0) → ((k : ℕ) → P (suc k) k) → (i : ℕ) → 1 ≤ i → P i (i - 1)
by_number P each zero low = absurd (omega (arith, low))
by_number P each (suc k) low = let same : k ≡ suc k - 1 = omega arith in subst (P (suc k)) same (each k)

two_within : (k : ℕ) → list_all (λ r. within (rule_atoms r) (get_or two_choices.bases.members (suc k) [])) (get_or two_choices.rules k []) ≡ true
two_within zero = refl
two_within (suc zero) = refl
two_within (suc (suc k)) = refl

two_bounds : (k : ℕ) → list_all (λ b. within (bound_atoms b) (get_or two_choices.bases.members (suc k) [])) (get_or two_choices.bounds k []) ≡ true
two_bounds zero = refl
two_bounds (suc zero) = refl
two_bounds (suc (suc k)) = refl

two_formed : (k : ℕ) → list_all is_formed (get_or two_choices.rules k []) ≡ true
two_formed zero = refl
two_formed (suc zero) = refl
two_formed (suc (suc k)) = refl

pub two_valid : IsValid two_choices
two_valid = record {
  some_levels = omega arith;
  few_levels = omega arith;
  few_atoms = omega arith;
  rule_lists = refl;
  bound_lists = refl;
  base_lists = refl;
  ordered_atoms = refl;
  ordered_bases = refl;
  nested_bases = refl;
  first_base = refl;
  last_base = refl;
  last_within = refl;
  rules_within = λ i low high. by_number (λ i k. list_all (λ r. within (rule_atoms r) (get_or two_choices.bases.members i [])) (get_or two_choices.rules k []) ≡ true) two_within i low;
  bounds_within = λ i low high. by_number (λ i k. list_all (λ b. within (bound_atoms b) (get_or two_choices.bases.members i [])) (get_or two_choices.bounds k []) ≡ true) two_bounds i low;
  choices = λ i. two_formed (i - 1);
  constraints = refl;
  unbounded = refl;
}

none_within : (k : ℕ) → list_all (λ r. within (rule_atoms r) (get_or no_rules.bases.members (suc k) [])) (get_or no_rules.rules k []) ≡ true
none_within zero = refl
none_within (suc zero) = refl
none_within (suc (suc k)) = refl

none_bounds : (k : ℕ) → list_all (λ b. within (bound_atoms b) (get_or no_rules.bases.members (suc k) [])) (get_or no_rules.bounds k []) ≡ true
none_bounds zero = refl
none_bounds (suc zero) = refl
none_bounds (suc (suc k)) = refl

none_formed : (k : ℕ) → list_all is_formed (get_or no_rules.rules k []) ≡ true
none_formed zero = refl
none_formed (suc zero) = refl
none_formed (suc (suc k)) = refl

pub none_valid : IsValid no_rules
none_valid = record {
  some_levels = omega arith;
  few_levels = omega arith;
  few_atoms = omega arith;
  rule_lists = refl;
  bound_lists = refl;
  base_lists = refl;
  ordered_atoms = refl;
  ordered_bases = refl;
  nested_bases = refl;
  first_base = refl;
  last_base = refl;
  last_within = refl;
  rules_within = λ i low high. by_number (λ i k. list_all (λ r. within (rule_atoms r) (get_or no_rules.bases.members i [])) (get_or no_rules.rules k []) ≡ true) none_within i low;
  bounds_within = λ i low high. by_number (λ i k. list_all (λ b. within (bound_atoms b) (get_or no_rules.bases.members i [])) (get_or no_rules.bounds k []) ≡ true) none_bounds i low;
  choices = λ i. none_formed (i - 1);
  constraints = refl;
  unbounded = refl;
}

-- ---- entries

pub formed : (g : Game) (n : Named) → g ≡ two_choices → is_entry g (entry_of n) ≡ true
formed g n is = subst (λ (g : Game). is_entry g (entry_of n) ≡ true) (sym is) (known n)
  where
    known : (n : Named) → is_entry two_choices (entry_of n) ≡ true
    known WithoutA = refl
    known WithoutB = refl
    known Neither = refl
    known OnlyB = refl
    known Both = refl

pub justified : (g : Game) (H : List Entry) (n : Named) → g ≡ two_choices → is_justified g H (entry_of n) ≡ true
justified g H n is = subst (λ (g : Game). is_justified g H (entry_of n) ≡ true) (sym is) (known n)
  where
    known : (n : Named) → is_justified two_choices H (entry_of n) ≡ true
    known WithoutA = refl
    known WithoutB = refl
    known Neither = refl
    known OnlyB = refl
    known Both = refl
