-- The text that `demo` makes of a number of nodes (of this project). All definitions are transparent.
use Rattle.std.specs.Prelude.{ℕ, ◌+◌, ◌-◌, ◌*◌, ◌%◌, List, ◌++◌, codes, decimal}
use Rattle.std.specs.List.{flat_map}
use Rattle.asp_defs.specs.Lists.{numbers_from}
use Rattle.asp_defs.specs.Lines.{line}

-- the line of a node's edge
abbrev pub edge_line : ℕ → ℕ → List ℕ
edge_line n i = line (codes "edge(" ++ decimal i ++ codes "," ++ decimal (1 + (i * i + 1) % n) ++ codes ").")

-- the text for n nodes: an edge of each node but the last, a set of nodes to choose, and each edge to pick or to skip,
-- where a picked edge begins in the set
abbrev pub demo_text : ℕ → List ℕ
demo_text n =
    line (codes "%@exists")
    ++ line (codes "node(1.." ++ decimal n ++ codes ").")
    ++ flat_map (edge_line n) (numbers_from 1 (n - 1))
    ++ line (codes "{in(X) : node(X)}.")
    ++ line (codes "%@forall")
    ++ line (codes "pick(X,Y) | skip(X,Y) :- edge(X,Y).")
    ++ line (codes "%@constraint")
    ++ line (codes ":- pick(X,Y), not in(X).")
