-- Bounds of choices over numbered atoms: when an interpretation meets one (of this project, in the form of the cardinality
-- bounds that ASP systems share). All definitions are transparent.
use Rattle.std.specs.Prelude.{ℕ, ℤ, pos, int_lt, Bool, true, not, ◌==◌, ◌&&◌, ◌||◌, List, ◌∷◌, ◌++◌, length, Option, None, Some}
use Rattle.std.specs.List.{list_any, list_all, filter, flat_map}
use Rattle.asp_defs.specs.declared.ground.Counted.{Counted}
use Rattle.asp_defs.specs.declared.ground.Bound.{Bound}
use Rattle.asp_defs.specs.Truth.{literals_true}

-- whether a counted term has an atom and a condition that is true
abbrev pub counts : List ℕ → ℕ → Counted → Bool
counts I a c = (c.atom == a) && literals_true I c.pos c.neg

-- the true atoms that a bound counts: each once, in however many of its terms it stands
abbrev pub counted_atoms : List ℕ → Bound → List ℕ
counted_atoms I b = filter (λ a. list_any (counts I a) b.counted) I

-- whether a number is at least the lower bound and at most the upper one, where each is there
abbrev pub is_at_least : Option ℤ → ℕ → Bool
is_at_least None count = true
is_at_least (Some low) count = not (int_lt (pos count) low)

abbrev pub is_at_most : Option ℤ → ℕ → Bool
is_at_most None count = true
is_at_most (Some high) count = not (int_lt high (pos count))

-- whether an interpretation meets a bound: its body is false, or as many atoms are counted as the bound allows
abbrev pub meets : List ℕ → Bound → Bool
meets I b =
    not (literals_true I b.pos b.neg)
    || (is_at_least b.low (length (counted_atoms I b)) && is_at_most b.high (length (counted_atoms I b)))

abbrev pub meets_all : List ℕ → List Bound → Bool
meets_all I bounds = list_all (meets I) bounds

-- the atoms of a counted term and of a bound
abbrev pub term_atoms : Counted → List ℕ
term_atoms c = c.atom ∷ (c.pos ++ c.neg)

abbrev pub bound_atoms : Bound → List ℕ
bound_atoms b = b.pos ++ (b.neg ++ flat_map term_atoms b.counted)
