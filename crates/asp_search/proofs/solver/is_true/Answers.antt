use Rattle.std.proofs.Common.{◌≡◌, true, Bool, Some, ap}
use Rattle.asp_search.proofs.solver.is_true.Goals as goal

pub returns-in-Some : goal.returns-in-Some
returns-in-Some c =
    let holds = c.in-Some.ensures.holds in
    (λ t. holds.0 (ap (λ (b : Bool). Some b) t), λ p. let e = holds.1 p in let is : c.in-Some.value ≡ true = cc in is)
