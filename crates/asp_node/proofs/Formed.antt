-- The parts of a formed entry, and formed entries of a legal history.
use Rattle.std.proofs.Common.{◌≡◌, sym, subst, ℕ, ◌+◌, ◌-◌, ◌≤◌, inl, inr, true, ◌&&◌, List, [], ◌∷◌, ◌++◌, map, nat_le}
use Rattle.std.specs.List.{list_all}
use Rattle.std.proofs.lemmas.Bool.{le-leb, leb-true}
use Rattle.asp_defs.specs.declared.ground.Game.{Game}
use Rattle.asp_defs.specs.declared.ground.Lit.{Lit}
use Rattle.asp_defs.specs.Lists.{IsIn}
use Rattle.asp_defs.specs.Interpretations.{holds}
use Rattle.asp_defs.specs.Games.{level_count, base, rules_of, bounds_of, is_subset, rule_atoms}
use Rattle.asp_defs.specs.Bounds.{bound_atoms}
use Rattle.asp_defs.specs.Entries.{Entry, cube_holds, is_entry, stands_at, stands_from, stands_in_rules, stands_in_bounds}
use Rattle.asp_defs.specs.History.{may_follow, is_legal}
use Rattle.asp_defs.proofs.Lists.{both, and_true, either, all_at, any_at}
use Rattle.asp_defs.proofs.Subsets.{holds_at}
use Rattle.asp_defs.proofs.HistoryLaws.{follows_at}
use Rattle.asp_defs.proofs.Irrelevance.{stands-rule, stands-bound, stands-next}

pub record Parts (g : Game) (e : Entry) : Type 0 where
  pub first : 1 ≤ e.level
  pub last : e.level ≤ level_count g + 1
  pub atoms : is_subset (map (λ l. l.atom) e.cube) (base g (e.level - 1)) ≡ true
  pub stand : list_all (λ l. stands_from g e.level l.atom) e.cube ≡ true
  pub seed : is_subset e.seed (base g (e.level - 1)) ≡ true
  pub held : cube_holds e.cube e.seed ≡ true

pub parts_at : (g : Game) (e : Entry) → is_entry g e ≡ true → Parts g e
parts_at g e h =
    let B = base g (e.level - 1) in
    let one = both (nat_le 1 e.level && nat_le e.level (level_count g + 1)) ((is_subset (map (λ l. l.atom) e.cube) B && list_all (λ l. stands_from g e.level l.atom) e.cube) && (is_subset e.seed B && cube_holds e.cube e.seed)) h in
    let levels = both (nat_le 1 e.level) (nat_le e.level (level_count g + 1)) one.0 in
    let two = both (is_subset (map (λ l. l.atom) e.cube) B && list_all (λ l. stands_from g e.level l.atom) e.cube) (is_subset e.seed B && cube_holds e.cube e.seed) one.1 in
    let cubes = both (is_subset (map (λ l. l.atom) e.cube) B) (list_all (λ l. stands_from g e.level l.atom) e.cube) two.0 in
    let seeds = both (is_subset e.seed B) (cube_holds e.cube e.seed) two.1 in
    record {
      first = leb-true 1 e.level levels.0;
      last = leb-true e.level (level_count g + 1) levels.1;
      atoms = cubes.0;
      stand = cubes.1;
      seed = seeds.0;
      held = seeds.1;
    }

pub parts_from : (g : Game) (e : Entry) → Parts g e → is_entry g e ≡ true
parts_from g e p =
    let B = base g (e.level - 1) in
    and_true (nat_le 1 e.level && nat_le e.level (level_count g + 1)) ((is_subset (map (λ l. l.atom) e.cube) B && list_all (λ l. stands_from g e.level l.atom) e.cube) && (is_subset e.seed B && cube_holds e.cube e.seed))
    (and_true (nat_le 1 e.level) (nat_le e.level (level_count g + 1)) (le-leb 1 e.level p.first) (le-leb e.level (level_count g + 1) p.last))
    (and_true (is_subset (map (λ l. l.atom) e.cube) B && list_all (λ l. stands_from g e.level l.atom) e.cube) (is_subset e.seed B && cube_holds e.cube e.seed)
    (and_true (is_subset (map (λ l. l.atom) e.cube) B) (list_all (λ l. stands_from g e.level l.atom) e.cube) p.atoms p.stand)
    (and_true (is_subset e.seed B) (cube_holds e.cube e.seed) p.seed p.held))

-- each entry of a legal history is formed
follow-entry : (g : Game) (before more : List Entry) → may_follow g before more ≡ true → (e : Entry) → IsIn e more → is_entry g e ≡ true
follow-entry g before [] h e i = absurd i
follow-entry g before (d ∷ more) h e (inl same) =
    subst (λ (x : Entry). is_entry g x ≡ true) (sym same) ((follows_at g before d more h).formed)
follow-entry g before (d ∷ more) h e (inr i) =
    follow-entry g (before ++ (d ∷ [])) more ((follows_at g before d more h).rest) e i

pub legal-parts : (g : Game) (H : List Entry) → is_legal g H ≡ true → (e : Entry) → IsIn e H → Parts g e
legal-parts g H legal e i = parts_at g e (follow-entry g [] H legal e i)

-- an atom that stands in a rule or bound of a level stands in one of that level or a later one
pub stands-here : (g : Game) (i a : ℕ) → stands_at g i a ≡ true → stands_from g i a ≡ true
stands-here g i a h = elim (either (stands_in_rules a (rules_of g i)) (stands_in_bounds a (bounds_of g i)) h) [
  | inl in_rules ↦
      let found = any_at (λ r. holds (rule_atoms r) a) (rules_of g i) in_rules in
      stands-rule g i found.0 a found.1 (holds_at (rule_atoms found.0) a found.2)
  | inr in_bounds ↦
      let found = any_at (λ b. holds (bound_atoms b) a) (bounds_of g i) in_bounds in
      stands-bound g i found.0 a found.1 (holds_at (bound_atoms found.0) a found.2)
]

-- the atoms of the cube of a legal history's entry of the next level stand in a rule or bound of this level or a later one
pub stands-behind : (g : Game) (H : List Entry) (i : ℕ) (e : Entry) (l : Lit) → is_legal g H ≡ true → 1 ≤ i → IsIn e H → e.level ≡ i + 1 → IsIn l e.cube
    → stands_from g i l.atom ≡ true
stands-behind g H i e l legal first member level inside =
    stands-next g i l.atom first
    (subst (λ (k : ℕ). stands_from g k l.atom ≡ true) level
    (all_at (λ l. stands_from g e.level l.atom) e.cube l ((legal-parts g H legal e member).stand) inside))
