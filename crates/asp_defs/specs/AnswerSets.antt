-- Answer sets of a ground program over a base (Gelfond and Lifschitz 1991), with bounds of choices beside the rules. All
-- definitions are transparent.
use Rattle.std.specs.Prelude.{ℕ, Bool, not, ◌&&◌, List}
use Rattle.std.specs.List.{list_all, filter}
use Rattle.asp_defs.specs.declared.ground.GroundRule.{GroundRule}
use Rattle.asp_defs.specs.declared.ground.Bound.{Bound}
use Rattle.asp_defs.specs.Interpretations.{subsets, proper_subsets}
use Rattle.asp_defs.specs.Truth.{is_model}
use Rattle.asp_defs.specs.Reduct.{reduct}
use Rattle.asp_defs.specs.Bounds.{meets_all}

-- whether an interpretation is an answer set of rules: it is a model of its reduct, and no proper subset of it is one of
-- that same reduct
abbrev pub is_answer_set : List GroundRule → List ℕ → Bool
is_answer_set G I =
    is_model I (reduct G I) && list_all (λ J. not (is_model J (reduct G I))) (proper_subsets I)

-- whether it is one of rules with bounds: one of the rules that meets every bound
abbrev pub is_bounded_answer_set : List GroundRule → List Bound → List ℕ → Bool
is_bounded_answer_set G bounds I = is_answer_set G I && meets_all I bounds

-- the answer sets of rules with bounds over a base, in the order of the base's subsets
abbrev pub answer_sets : List GroundRule → List Bound → List ℕ → List (List ℕ)
answer_sets G bounds B = filter (is_bounded_answer_set G bounds) (subsets B)
