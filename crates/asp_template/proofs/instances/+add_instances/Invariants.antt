use Rattle.std.proofs.Common.{◌≡◌, ◌+◌, ◌-◌, ◌++◌, [], ◌∷◌, take, drop, length}
use Rattle.std.specs.List.{flat_map}
use Rattle.asp_defs.specs.Bases.{product}
use Rattle.asp_template.specs.Domains.{domains_of}
use Rattle.asp_template.specs.Templates.{instance_at}
use Rattle.asp_template.proofs.instances.+add_instances.Given as goal

abbrev pub decreases-add_instances : goal.decreases-add_instances
decreases-add_instances l = length (domains_of l.domains) - l.given

abbrev pub invariant-loop-rank : goal.invariant-loop-rank
invariant-loop-rank l =
    (l.out ≡ l.fn.out ++ flat_map (λ rank. flat_map (λ rest. instance_at l.size l.template ((take l.given l.fn.ranks ++ rank ∷ []) ++ rest)) (product (drop (l.given + 1) (domains_of l.domains)))) (take l.rank-index l.domain))
    × (take l.given l.ranks ≡ take l.given l.fn.ranks)
