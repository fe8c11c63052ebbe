use Rattle.std.proofs.Common.{◌≡◌, ℕ, List, length, arith, ap, subst}
use Rattle.std.specs.List.{Contains}
use Rattle.asp_search.specs.Seen.{SeenSet}
use Rattle.asp_search.proofs.SeenTables.{IsTable-insert}
use Rattle.asp_search.proofs.seen.Seen.insert.Goals as goal

pub invariant_of-self-2 : goal.invariant_of-self-2
invariant_of-self-2 c =
    let codes : length c.self.inside.table.items ≡ c.args.self.now.codes = ap (λ (s : SeenSet). s.codes) c.self.view_is in
    let listed : c.self.inside.listed.items ≡ c.args.self.now.marked = ap (λ (s : SeenSet). s.marked) c.self.view_is in
    rw c.in_ok-push.ensures.items
    (IsTable-insert c.self.inside.table.items c.self.inside.listed.items c.args.literal (omega (arith, codes, c.requires.code)) (λ h. c.requires.fresh (subst (λ (l : List ℕ). Contains l c.args.literal) listed h)) c.self.invariant)
