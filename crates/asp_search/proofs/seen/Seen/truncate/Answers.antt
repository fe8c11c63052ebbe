use Rattle.std.proofs.Common.{◌≤◌, ℕ, List, [], ◌∷◌, take, length, ap, sym, ◌∙◌, false, arith}
use Rattle.std.proofs.lemmas.List.{length-set, length_push, take-append-le}
use Rattle.asp_search.proofs.SeenTables.{IsTable-pop}
use Rattle.asp_search.proofs.seen.Seen.truncate.Goals as goal

pub loop-self-preserved : goal.loop-self-preserved
loop-self-preserved c =
    let rest = c.pop.new.self.items in
    let popped = c.in-Some.ensures.items in
    let fits : c.args.count ≤ length rest = omega (arith, c.loop-self-test.true, c.len.ensures, ap (λ (l : List ℕ). length l) popped, length_push rest c.in-Some.literal) in (
      length-set c.loop-self.self-inside.table.items c.in-Some.literal false ∙ c.loop-self.invariant.0,
      IsTable-pop c.loop-self.self-inside.table.items rest c.in-Some.literal (rw popped at c.loop-self.invariant.1),
      sym (take-append-le c.args.count rest (c.in-Some.literal ∷ []) fits) ∙ (ap (λ (l : List ℕ). take c.args.count l) (sym popped) ∙ c.loop-self.invariant.2),
    )
