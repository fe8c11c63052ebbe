-- The interpretations of a base that satisfy the clauses of a search. All definitions are transparent.
use Rattle.std.specs.Prelude.{ℕ, Bool, List, length, get_or}
use Rattle.std.specs.List.{list_all, list_any, filter}
use Rattle.asp_defs.specs.Interpretations.{holds, subsets}
use Rattle.asp_search.specs.Meaning.{truth}

-- whether an assignment satisfies all clauses
abbrev pub meets : (ℕ → Bool) → List (List ℕ) → Bool
meets v clauses = list_all (λ clause. list_any (truth v) clause) clauses

-- how many interpretations do, each as an assignment to the places of the base
abbrev pub candidates_left : List ℕ → List (List ℕ) → ℕ
candidates_left B clauses = length (filter (λ N. meets (λ k. holds N (get_or B k 0)) clauses) (subsets B))
