-- What the regions of a base are. All definitions are transparent.
use Rattle.std.specs.Prelude.{ℕ, ◌≡◌, Bool, true, List, length, map, Option, IfSome}
use Rattle.std.specs.List.{filter, flat_map}
use Rattle.asp_defs.specs.declared.ground.Lit.{Lit}
use Rattle.asp_defs.specs.Lists.{IsIn}
use Rattle.asp_defs.specs.Interpretations.{subsets}
use Rattle.asp_defs.specs.Games.{ascends, is_subset}
use Rattle.asp_defs.specs.Entries.{cube_holds}
use Rattle.asp_defs.specs.Pages.{comes_after}
use Rattle.asp_pages.specs.Regions.{regions_of, count_of}

-- of the subsets of a base that pass a test, those of the regions in a row are those that come after the set, or all, in order
abbrev pub RegionsPart : Type 0
RegionsPart =
    (B : List ℕ) (after : Option (List ℕ)) (split : ℕ) (test : List ℕ → Bool)
    → ascends B ≡ true → IfSome after (λ I. is_subset I B ≡ true)
    → flat_map (λ region. filter (cube_holds region) (filter test (subsets B))) (regions_of B after split)
    ≡ filter (comes_after after) (filter test (subsets B))

-- there are as many as the count says
abbrev pub RegionsAreCounted : Type 0
RegionsAreCounted =
    (B : List ℕ) (after : Option (List ℕ)) (split : ℕ) → length (regions_of B after split) ≡ count_of B after split

-- the atoms of a region ascend and are the base's
abbrev pub RegionsAreOnBase : Type 0
RegionsAreOnBase =
    (B : List ℕ) (after : Option (List ℕ)) (split : ℕ) (region : List Lit)
    → ascends B ≡ true → IsIn region (regions_of B after split) → is_subset (map (λ l. l.atom) region) B ≡ true
