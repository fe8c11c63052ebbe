-- Bases whose sets are read from their texts. All definitions are transparent.
use Rattle.std.specs.Prelude.{ℕ, ◌<◌, ◌^◌, ◌==◌, Bool, not, nat_lt, IsTrue, List, [], length, get_or}
use Rattle.std.specs.List.{list_all}
use Rattle.asp_defs.specs.declared.ground.Bases.{Bases}
use Rattle.asp_defs.specs.Games.{ascends}
use Rattle.asp_defs.specs.Sets.{ground_atom_text}

-- whether no blank stands in a text
abbrev pub is_solid : List ℕ → Bool
is_solid text = list_all (λ b. not (b == 32)) text

-- no blank stands in the text of an atom, so that blanks part the atoms of a set; the first level's numbers ascend, each
-- is that of an atom, and the atoms can be counted by 32 bits
pub record AreReadable (bases : Bases) : Type 0 where
  pub solid : IsTrue (list_all (λ a. is_solid (ground_atom_text a)) bases.atoms)
  pub ascending : IsTrue (ascends (get_or bases.members 1 []))
  pub within : IsTrue (list_all (λ k. nat_lt k (length bases.atoms)) (get_or bases.members 1 []))
  pub few : length bases.atoms < 2 ^ 32
