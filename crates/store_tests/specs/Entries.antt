-- Entries of the two games. All definitions are transparent.
use Rattle.std.specs.Prelude.{ℕ, Bool, true, false, List, [], ◌∷◌}
use Rattle.asp_defs.specs.declared.ground.Lit.{Lit}
use Rattle.asp_defs.specs.Entries.{Entry}
use Rattle.store_tests.specs.declared.named.Named.{Named}
use Rattle.store_tests.specs.declared.named.Named.TheVariants.{WithoutA, WithoutB, Neither, OnlyB, Both}

abbrev pub lit_of : ℕ → Bool → Lit
lit_of atom positive = record { atom = atom; positive = positive }

abbrev pub of_constraints : List Lit → Bool → List ℕ → Entry
of_constraints cube verdict seed = record { level = 2; cube = cube; verdict = verdict; seed = seed }

abbrev pub entry_of : Named → Entry
entry_of WithoutA = of_constraints (lit_of 0 false ∷ []) true []
entry_of WithoutB = of_constraints (lit_of 1 false ∷ []) true (0 ∷ [])
entry_of Neither = of_constraints (lit_of 0 false ∷ lit_of 1 false ∷ []) true []
entry_of OnlyB = of_constraints (lit_of 0 false ∷ []) true (1 ∷ [])
entry_of Both = of_constraints (lit_of 0 true ∷ lit_of 1 true ∷ []) false (0 ∷ 1 ∷ [])

abbrev pub level_true : ℕ → Entry
level_true level = record { level = level; cube = []; verdict = true; seed = [] }
