use Rattle.std.specs.Prelude.{ℕ, ◌+◌, ◌-◌, ◌%◌, ◌==◌, if◌then◌else◌}

-- the other literal of the same atom
unfoldable pub negated : ℕ → ℕ
negated literal = if literal % 2 == 0 then literal + 1 else literal - 1

-- how many atoms a book, a trail or a search can be over
abbrev pub most_atoms : ℕ
most_atoms = 262144
