use Rattle.std.proofs.Common.{refl, sym, ap, subst, List, []}
use Rattle.asp_defs.specs.declared.ground.Lit.{Lit}
use Rattle.asp_game.specs.State.{MovesState}
use Rattle.asp_game.specs.Answers.{IsCore}
use Rattle.level_tests.proofs.Fewer.{fewer_open, core-alike}
use Rattle.level_tests.proofs.moves.exhaust.Goals as goal

pub returns-in-Core : goal.returns-in-Core
returns-in-Core g c =
    let s = g.M.Moves.state c.loop-moves.moves in
    let same = ap (λ (t : MovesState). t.blocked) c.in_ok-next.ensures.goes_on.question in
    subst (λ (cubes : List (List Lit)). IsCore (record (g.M.Moves.state c.args.moves.now) { blocked = cubes }) c.in-Core.core) (sym same)
    (core-alike (g.M.Moves.state c.args.moves.now) s c.in-Core.core c.loop-moves.invariant (c.in_ok-next.ensures.core c.in-Core.core (cc)))

pub loop-moves-smaller-in_ok-block-in-Found : goal.loop-moves-smaller-in_ok-block-in-Found
loop-moves-smaller-in_ok-block-in-Found g c =
    fewer_open (g.M.Moves.state c.loop-moves.moves) (g.M.Moves.state c.next.new.self) (g.M.Moves.state c.block.new.self)
    c.in-Found.field-0 [] c.in_ok-next.ensures.goes_on (c.in_ok-next.ensures.found c.in-Found.field-0 (cc)) refl
    c.in_ok-block-in-Found.ensures.blocked
