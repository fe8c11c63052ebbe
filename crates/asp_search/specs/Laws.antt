-- The kept clauses stand for the added ones, so that what is said of the kept clauses holds of the added ones.
use Rattle.std.specs.Prelude.{ℕ, Bool, List, [], ◌∷◌, ◌++◌}
use Rattle.asp_search.specs.Meaning.{SatisfiesAll, AddsClause, SameMeaning}
use Rattle.asp_search.specs.Cores.{IsCore}

-- where the kept clauses stand for the added ones, they do so after a further clause is added
abbrev pub StandAfterAdd : Type 0
StandAfterAdd =
    (added old new : List (List ℕ)) (clause : List ℕ)
    → SameMeaning added old → AddsClause old new clause → SameMeaning (added ++ clause ∷ []) new

-- and after a search
abbrev pub StandAfterSearch : Type 0
StandAfterSearch =
    (added old new : List (List ℕ)) → SameMeaning added old → SameMeaning old new → SameMeaning added new

-- what satisfies the kept clauses satisfies the added ones
abbrev pub SatisfyAdded : Type 0
SatisfyAdded =
    (added kept : List (List ℕ)) (v : ℕ → Bool) → SameMeaning added kept → SatisfiesAll v kept → SatisfiesAll v added

-- a core of the kept clauses is one of the added clauses: they refute it, and each of its atoms stands in one of them
abbrev pub AreCoresOfAdded : Type 0
AreCoresOfAdded =
    (added kept : List (List ℕ)) (assumed core : List ℕ)
    → SameMeaning added kept → IsCore kept assumed core → IsCore added assumed core
