use Rattle.std.proofs.Common.{◌≡◌, List, [], ◌∷◌, ◌++◌, Option, Some, sym, ap, subst, ◌∙◌}
use Rattle.atomic_table.specs.Table.{opening}
use Rattle.asp_turn.specs.Rule.{Running}
use Rattle.asp_turn.specs.Steps.{seated}
use Rattle.asp_turn.proofs.Keeps.{opens}
use Rattle.asp_turn.proofs.turn.Turn.new.Goals as goal

pub new-requires : goal.new-requires
new-requires g c =
    let items : c.push.new.self.items ≡ Some c.args.value ∷ [] = c.in_ok-push.ensures.items ∙ ap (λ (xs : List (Option g.row.V.Denot)). xs ++ Some c.args.value ∷ []) c.new-slots.ensures.items in
    let same : c.of-about.result.value ≡ c.args.value = c.of-about.ensures in
    let world = g.V.Kept.world in
    let story = g.V.Kept.story in
    subst (λ (z : List (Option g.row.V.Denot) × g.row.V.Denot). Running world story (world z.1) (opening (0 ∷ []) z.0 (seated (Some (world z.1)) (story z.1)))) (λ i. (sym items i, sym same i))
    (opens world story c.args.value)
