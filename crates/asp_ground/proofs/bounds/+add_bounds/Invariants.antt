use Rattle.std.proofs.Common.{◌≡◌, ◌+◌, ◌-◌, ◌++◌, [], ◌∷◌, take, drop, length}
use Rattle.std.specs.List.{flat_map}
use Rattle.asp_defs.specs.Bases.{product}
use Rattle.asp_template.specs.Domains.{domains_of}
use Rattle.asp_ground.specs.BoundTemplates.{bound_at}
use Rattle.asp_ground.proofs.bounds.+add_bounds.Given as goal

abbrev pub decreases-add_bounds : goal.decreases-add_bounds
decreases-add_bounds l = length (domains_of l.domains) - l.given

abbrev pub invariant-loop-rank : goal.invariant-loop-rank
invariant-loop-rank l =
    (l.out ≡ l.fn.out ++ flat_map (λ rank. flat_map (λ rest. bound_at l.size l.universe l.bound ((take l.given l.fn.ranks ++ rank ∷ []) ++ rest)) (product (drop (l.given + 1) (domains_of l.domains)))) (take l.rank-index l.domain))
    × (take l.given l.ranks ≡ take l.given l.fn.ranks)
