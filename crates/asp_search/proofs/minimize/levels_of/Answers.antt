use Rattle.std.proofs.Common.{◌/◌, ℕ, List, get_or, ap, subst}
use Rattle.std.specs.List.{Contains}
use Rattle.asp_clauses.proofs.ReorderLemmas.{Contains-at}
use Rattle.asp_search.proofs.minimize.levels_of.Goals as goal

pub level-requires : goal.level-requires
level-requires c =
    let items = c.as_slice-literal-items.result.now in
    let literal = get_or items c.loop-literal.literal-index 0 in
    let m = c.requires.marked literal (subst (λ (l : List ℕ). Contains l literal) c.as_slice-literal-items.ensures.marked (Contains-at items c.loop-literal.literal-index c.loop-literal-test.true)) in
    (m.place, (m.within, ap (λ (l : ℕ). l / 2) m.is))
