-- Atoms whose truth decides constraints. An interpretation is the ascending list of its true atoms; B has the outer atoms,
-- and all others are false. All definitions are transparent.
use Rattle.std.specs.Prelude.{ℕ, ◌+◌, ◌≡◌, Bool, true, false, not, ◌&&◌, ◌||◌, List, ◌++◌, length}
use Rattle.std.specs.List.{list_any}
use Rattle.asp_bits.specs.Places.{true_places}
use Rattle.asp_defs.specs.declared.ground.GroundRule.{GroundRule}
use Rattle.asp_defs.specs.declared.ground.Game.{Game}
use Rattle.asp_defs.specs.declared.ground.Lit.{Lit}
use Rattle.asp_defs.specs.Lists.{IsIn}
use Rattle.asp_defs.specs.Interpretations.{holds}
use Rattle.asp_defs.specs.Games.{base, level_count, rule_atoms, is_subset}
use Rattle.asp_defs.specs.Values.{value}
use Rattle.asp_defs.specs.Entries.{cube_holds, stands_at}
use Rattle.asp_entry.specs.Cubes.{lits_ascend}
use Rattle.asp_defs.specs.History.{agrees}

-- the marks are the atoms of a body that are in B
pub record IsOuterBody (B : List ℕ) (r : GroundRule) (count : ℕ) (values : List Bool) : Type 0 where
  pub as_many : length values ≡ count
  pub each : (a : ℕ) → holds (true_places values) a ≡ (holds B a && holds (r.pos ++ r.neg) a)

-- whether an atom's literal in a body is false
abbrev pub is_false_in : List ℕ → GroundRule → ℕ → Bool
is_false_in I r a = (holds r.pos a && not (holds I a)) || (holds r.neg a && holds I a)

-- whether one of the atoms is chosen and has this truth
abbrev pub has_chosen : List ℕ → List ℕ → Bool → List ℕ → Bool
has_chosen C I truth atoms = list_any (λ a. agrees truth (holds I a) && holds C a) atoms

-- whether a body is false in each interpretation over B that agrees with I on the chosen atoms C: an atom of the positive body
-- is none of B, or a literal is false in I and its atom is chosen
abbrev pub is_covered : List ℕ → List ℕ → List ℕ → GroundRule → Bool
is_covered B C I r =
    list_any (λ a. not (holds B a)) r.pos || (has_chosen C I false r.pos || has_chosen C I true r.neg)

-- the atoms C are in B and stand in the rules
pub record AreRuleAtoms (B C : List ℕ) (rules : List GroundRule) : Type 0 where
  pub outer : (a : ℕ) → holds C a ≡ true → holds B a ≡ true
  pub stand : (a : ℕ) → holds C a ≡ true → list_any (λ r. holds (rule_atoms r) a) rules ≡ true

-- a verdict with literals, whose atoms ascend, that hold the move and moves of that verdict alone
pub record IsJudgement (g : Game) (I : List ℕ) (verdict : Bool) (lits : List Lit) : Type 0 where
  pub right : value g (level_count g + 1) I ≡ verdict
  pub ascend : lits_ascend lits ≡ true
  pub on_base : (l : Lit) → IsIn l lits → holds (base g (level_count g)) l.atom ≡ true
  pub stand : (l : Lit) → IsIn l lits → stands_at g (level_count g + 1) l.atom ≡ true
  pub held : cube_holds lits I ≡ true
  pub sound : (M : List ℕ) → is_subset M (base g (level_count g)) ≡ true → cube_holds lits M ≡ true
      → value g (level_count g + 1) M ≡ verdict
