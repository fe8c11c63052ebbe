-- The ground rules and bounds of a program's levels: where they stand in the game, that their atoms stand in their level's
-- base, and their form.
use Rattle.std.proofs.Common.{ℕ, zero, suc, ◌≡◌, ◌+◌, ◌-◌, ◌<◌, ◌≤◌, ◌⊎◌, refl, ◌∙◌, ap, inl, inr, Bool, true, false, List, [], ◌∷◌, ◌++◌, map, take, length, get_or, arith, Option, Some, None}
use Rattle.std.specs.Prelude.{is_none}
use Rattle.std.specs.List.{flat_map, list_all, enumerate_from}
use Rattle.std.proofs.lemmas.List.{length-map, get_or-map}
use Rattle.std.proofs.lemmas.List.FromFn.{length-enumerate_from, get_or-enumerate_from}
use Rattle.asp_defs.specs.declared.ground.Const.{Const}
use Rattle.asp_defs.specs.declared.ground.GroundAtom.{GroundAtom}
use Rattle.asp_defs.specs.declared.ground.GroundRule.{GroundRule}
use Rattle.asp_defs.specs.declared.syntax.Rule.{Rule}
use Rattle.asp_defs.specs.declared.syntax.Part.{Part}
use Rattle.asp_defs.specs.declared.syntax.Program.{Program}
use Rattle.asp_defs.specs.Lists.{IsIn}
use Rattle.asp_defs.specs.Constants.{universe, rule_constants, level_rules, rules_to}
use Rattle.asp_defs.specs.Bases.{predicates, rule_predicates, base_atoms, last_level}
use Rattle.asp_defs.specs.Instances.{schemas, instance, assignments, rule_instances}
use Rattle.asp_defs.specs.ConstraintPart.{is_constraint as is_constraint_rule, first_headed_from}
use Rattle.asp_defs.specs.BoundInstances.{rule_bounds}
use Rattle.asp_defs.specs.Consistency.{consistency_constraints}
use Rattle.asp_defs.specs.Bounds.{bound_atoms}
use Rattle.asp_defs.specs.Games.{level_ground, level_bounds, within, rule_atoms, is_formed, is_constraint}
use Rattle.asp_defs.specs.Safety.{shown_number}
use Rattle.asp_defs.proofs.Lists.{all_from, map_at, append_at}
use Rattle.asp_defs.proofs.TextRefutations.{clash}
use Rattle.asp_checked.specs.Condition.{has_intervals_in_facts}
use Rattle.asp_walk.proofs.Lists.{flat_at, flat_from, get_is_in}
use Rattle.asp_safety.proofs.Places.{get_seam}
use Rattle.asp_atoms.proofs.Orders.{const_lawful, predicate_lawful}
use Rattle.asp_atoms.proofs.Ascending.{distinct_from}
use Rattle.asp_atoms.proofs.Counting.{levels_long}
use Rattle.asp_ground.proofs.BaseAtoms.{base_numbers}
use Rattle.asp_ground.proofs.SchemaAtoms.{instance_is, instance_within}
use Rattle.asp_ground.proofs.ConsistencyRules.{consistency_written, consistency_single, consistency_constrains}
use Rattle.asp_ground.proofs.BoundAtoms.{bound_within, no_bounds}
use Rattle.asp_ground.proofs.RuleSchemas.{Written, schema_known, instance_formed, instance_constraint}

-- ---- levels

pub rules_long : (p : Program) → length (map (level_ground p) (enumerate_from 1 (level_rules p))) ≡ last_level p
rules_long p =
    length-map (enumerate_from 1 (level_rules p)) (level_ground p)
    ∙ (length-enumerate_from 1 (level_rules p) ∙ levels_long p)

-- the rules of a level as they are written, from level 1 on
abbrev pub written_rules : Program → ℕ → List Rule
written_rules p i = get_or (level_rules p) (i - 1) []

-- what is made of each level, at a level's place
made_at : {A : Type 0} (f : ℕ × List Rule → List A) (p : Program) (i : ℕ) → 1 ≤ i → i ≤ last_level p → get_or (map f (enumerate_from 1 (level_rules p))) (i - 1) [] ≡ f (i, written_rules p i)
made_at f p i low high =
    let long = levels_long p in
    let many = length-enumerate_from 1 (level_rules p) in
    let here : i - 1 < length (level_rules p) = omega (arith, long, low, high) in
    let there : i - 1 < length (enumerate_from 1 (level_rules p)) = omega (arith, many, here) in
    let number : 1 + (i - 1) ≡ i = omega (arith, low) in
    get_or-map f (enumerate_from 1 (level_rules p)) (i - 1) (0, []) [] there
    ∙ (ap f (get_or-enumerate_from 1 (level_rules p) (i - 1) (0, []) here)
    ∙ ap (λ n. f (n, written_rules p i)) number)

pub level_at : (p : Program) (i : ℕ) → 1 ≤ i → i ≤ last_level p → get_or (map (level_ground p) (enumerate_from 1 (level_rules p))) (i - 1) [] ≡ level_ground p (i, written_rules p i)
level_at p i low high = made_at (level_ground p) p i low high

pub bounds_at : (p : Program) (i : ℕ) → 1 ≤ i → i ≤ last_level p → get_or (map (level_bounds p) (enumerate_from 1 (level_rules p))) (i - 1) [] ≡ level_bounds p (i, written_rules p i)
bounds_at p i low high = made_at (level_bounds p) p i low high

pub bounds_long : (p : Program) → length (map (level_bounds p) (enumerate_from 1 (level_rules p))) ≡ last_level p
bounds_long p =
    length-map (enumerate_from 1 (level_rules p)) (level_bounds p)
    ∙ (length-enumerate_from 1 (level_rules p) ∙ levels_long p)

take_in : {A : Type 0} (xs : List A) (k n : ℕ) (d : A) → k < n → k < length xs → IsIn (get_or xs k d) (take n xs)
take_in [] k n d h g = absurd (omega arith)
take_in (x ∷ xs) k zero d h g = absurd (omega arith)
take_in (x ∷ xs) zero (suc n) d h g = inl refl
take_in (x ∷ xs) (suc k) (suc n) d h g = inr (take_in xs k n d (omega arith) (omega arith))

rule_to : (p : Program) (i : ℕ) → 1 ≤ i → i ≤ last_level p → (r : Rule) → IsIn r (written_rules p i) → IsIn r (rules_to p i)
rule_to p i low high r m =
    let long = levels_long p in
    flat_from (λ (rules : List Rule). rules) (take i (level_rules p)) (written_rules p i) r
    (take_in (level_rules p) (i - 1) i [] (omega (arith, low)) (omega (arith, long, low, high))) m

-- a rule of a level is one of the program's
pub rule_of_program : (p : Program) (i : ℕ) → 1 ≤ i → i ≤ last_level p → (r : Rule) → IsIn r (written_rules p i) → IsIn r (flat_map (λ (rules : List Rule). rules) (level_rules p))
rule_of_program p i low high r m =
    let long = levels_long p in
    flat_from (λ (rules : List Rule). rules) (level_rules p) (written_rules p i) r
    (get_is_in (level_rules p) (i - 1) [] (omega (arith, long, low, high))) m

written_in : (p : Program) (i : ℕ) (r : Rule) → IsIn r (rules_to p i) → Written (universe p i) (predicates p i) (rule_constants r) (rule_predicates r)
written_in p i r m = record {
  constants = λ c j. distinct_from const_lawful (flat_map rule_constants (rules_to p i)) c (flat_from rule_constants (rules_to p i) r c m j);
  predicates = λ q j. distinct_from predicate_lawful (flat_map rule_predicates (rules_to p i)) q (flat_from rule_predicates (rules_to p i) r q m j);
}

-- ---- what holds of each rule of a level

rule_within : (p : Program) (i : ℕ) (r : Rule) → Written (universe p i) (predicates p i) (rule_constants r) (rule_predicates r) → has_intervals_in_facts r ≡ true → (g : GroundRule) → IsIn g (rule_instances (base_atoms p (last_level p)) (universe p i) r) → within (rule_atoms g) (base_numbers p i) ≡ true
rule_within p i r written single g j =
    let s = flat_at (λ s. flat_map (instance (base_atoms p (last_level p)) s) (assignments (universe p i) s)) (schemas r) g j in
    let values = flat_at (instance (base_atoms p (last_level p)) s.0) (assignments (universe p i) s.0) g s.2 in
    instance_within p i s.0 values.0 values.1
    (schema_known (universe p i) (predicates p i) r.head r.body written single s.0 s.1) g values.2

rule_formed : (atoms : List GroundAtom) (U : List Const) (r : Rule) (g : GroundRule) → IsIn g (rule_instances atoms U r) → is_formed g ≡ true
rule_formed atoms U r g j =
    let s = flat_at (λ s. flat_map (instance atoms s) (assignments U s)) (schemas r) g j in
    let values = flat_at (instance atoms s.0) (assignments U s.0) g s.2 in
    ap is_formed (instance_is atoms s.0 values.0 g values.2) ∙ instance_formed atoms r.head r.body s.0 values.0 s.1

rule_constraint : (atoms : List GroundAtom) (U : List Const) (r : Rule) → is_constraint_rule r ≡ true → (g : GroundRule) → IsIn g (rule_instances atoms U r) → is_constraint g ≡ true
rule_constraint atoms U r h g j =
    let s = flat_at (λ s. flat_map (instance atoms s) (assignments U s)) (schemas r) g j in
    let values = flat_at (instance atoms s.0) (assignments U s.0) g s.2 in
    ap is_constraint (instance_is atoms s.0 values.0 g values.2) ∙ instance_constraint atoms r.head r.body s.0 values.0 h s.1

-- ---- levels of ground rules

pub level_within : (p : Program) → ((r : Rule) → IsIn r (flat_map (λ (rules : List Rule). rules) (level_rules p)) → has_intervals_in_facts r ≡ true) → (i : ℕ) → 1 ≤ i → i ≤ last_level p → list_all (λ g. within (rule_atoms g) (base_numbers p i)) (level_ground p (i, written_rules p i)) ≡ true
level_within p single i low high = all_from (λ g. within (rule_atoms g) (base_numbers p i)) (level_ground p (i, written_rules p i)) (λ g j.
    let r = flat_at (rule_instances (base_atoms p (last_level p)) (universe p i)) (written_rules p i ++ consistency_constraints p i) g j in
    elim (append_at (written_rules p i) (consistency_constraints p i) r.0 r.1) [
      | inl k ↦ rule_within p i r.0 (written_in p i r.0 (rule_to p i low high r.0 k)) (single r.0 (rule_of_program p i low high r.0 k)) g r.2
      | inr k ↦ rule_within p i r.0 (consistency_written p i r.0 k) (consistency_single p i r.0 k) g r.2
    ])

-- the bounds of a level stand over its base too
pub level_bounds_within : (p : Program) → ((r : Rule) → IsIn r (flat_map (λ (rules : List Rule). rules) (level_rules p)) → has_intervals_in_facts r ≡ true) → (i : ℕ) → 1 ≤ i → i ≤ last_level p → list_all (λ b. within (bound_atoms b) (base_numbers p i)) (level_bounds p (i, written_rules p i)) ≡ true
level_bounds_within p single i low high = all_from (λ b. within (bound_atoms b) (base_numbers p i)) (level_bounds p (i, written_rules p i)) (λ b j.
    let r = flat_at (rule_bounds (base_atoms p (last_level p)) (universe p i)) (written_rules p i) b j in
    bound_within p i r.0.head r.0.body (written_in p i r.0 (rule_to p i low high r.0 r.1)) (single r.0 (rule_of_program p i low high r.0 r.1)) b r.2)

level_formed : (p : Program) (level : ℕ × List Rule) → list_all is_formed (level_ground p level) ≡ true
level_formed p level = all_from is_formed (level_ground p level) (λ g j.
    let r = flat_at (rule_instances (base_atoms p (last_level p)) (universe p level.0)) (level.1 ++ consistency_constraints p level.0) g j in
    rule_formed (base_atoms p (last_level p)) (universe p level.0) r.0 g r.2)

-- what stands at a place of a list, or behind its end
at_place : {A : Type 0} (xs : List A) (k : ℕ) (d : A) → IsIn (get_or xs k d) xs ⊎ (get_or xs k d ≡ d)
at_place [] k d = inr refl
at_place (x ∷ xs) zero d = inl (inl refl)
at_place (x ∷ xs) (suc k) d = elim (at_place xs k d) [ inl i ↦ inl (inr i) | inr e ↦ inr e ]

pub levels_formed : (p : Program) (k : ℕ) → list_all is_formed (get_or (map (level_ground p) (enumerate_from 1 (level_rules p))) k []) ≡ true
levels_formed p k = elim (at_place (map (level_ground p) (enumerate_from 1 (level_rules p))) k []) [
  | inl i ↦
      let level = map_at (level_ground p) (enumerate_from 1 (level_rules p)) (get_or (map (level_ground p) (enumerate_from 1 (level_rules p))) k []) i in
      ap (list_all is_formed) level.2 ∙ level_formed p level.0
  | inr e ↦ ap (list_all is_formed) e
]

-- ---- the constraint part

pub level_constraints : (p : Program) → ((r : Rule) → IsIn r p.cons → is_constraint_rule r ≡ true) → (i : ℕ) → list_all is_constraint (level_ground p (i, p.cons)) ≡ true
level_constraints p h i = all_from is_constraint (level_ground p (i, p.cons)) (λ g j.
    let r = flat_at (rule_instances (base_atoms p (last_level p)) (universe p i)) (p.cons ++ consistency_constraints p i) g j in
    elim (append_at p.cons (consistency_constraints p i) r.0 r.1) [
      | inl k ↦ rule_constraint (base_atoms p (last_level p)) (universe p i) r.0 (h r.0 k) g r.2
      | inr k ↦ rule_constraint (base_atoms p (last_level p)) (universe p i) r.0 (consistency_constrains p i r.0 k) g r.2
    ])

none_joined : {A B : Type 0} (f : A → List B) (xs : List A) → ((x : A) → IsIn x xs → f x ≡ []) → flat_map f xs ≡ []
none_joined f [] h = refl
none_joined f (x ∷ xs) h = ap (λ ys. ys ++ flat_map f xs) (h x (inl refl)) ∙ none_joined f xs (λ y i. h y (inr i))

pub level_unbounded : (p : Program) → ((r : Rule) → IsIn r p.cons → is_constraint_rule r ≡ true) → (i : ℕ) → level_bounds p (i, p.cons) ≡ []
level_unbounded p h i =
    none_joined (rule_bounds (base_atoms p (last_level p)) (universe p i)) p.cons (λ r m.
    no_bounds (base_atoms p (last_level p)) (universe p i) r.head r.body (h r m))

pub last_rules : (p : Program) → written_rules p (last_level p) ≡ p.cons
last_rules p =
    let long = length-map p.levels (λ (part : Part). part.rules) in
    let place : last_level p - 1 ≡ length (map (λ (part : Part). part.rules) p.levels) = omega (arith, long) in
    ap (λ k. get_or (level_rules p) k []) place ∙ get_seam (map (λ (part : Part). part.rules) p.levels) p.cons []

-- a list with no headed rule has constraints alone
abbrev headed_first : Bool → ℕ → List Rule → Option ℕ
headed_first b number rules = elim b [ true ↦ first_headed_from (suc number) rules | false ↦ Some (shown_number number) ]

headed_step : (b : Bool) (number : ℕ) (rules : List Rule) → headed_first b number rules ≡ None → (b ≡ true) × (first_headed_from (suc number) rules ≡ None)
headed_step true number rules e = (refl, e)
headed_step false number rules e = clash (ap is_none e)

pub none_headed : (number : ℕ) (rules : List Rule) → first_headed_from number rules ≡ None → (r : Rule) → IsIn r rules → is_constraint_rule r ≡ true
none_headed number [] e r i = absurd i
none_headed number (x ∷ rules) e r (inl same) = ap is_constraint_rule same ∙ (headed_step (is_constraint_rule x) number rules e).0
none_headed number (x ∷ rules) e r (inr i) = none_headed (suc number) rules (headed_step (is_constraint_rule x) number rules e).1 r i
