use Rattle.std.proofs.Common.{◌∷◌, ◌++◌, ◌∙◌, sym, ap, List, map, arith}
use Rattle.asp_defs.specs.declared.ground.Const.{Const}
use Rattle.asp_atoms.proofs.Loops.{flat_more}
use Rattle.asp_atoms.proofs.tuples.longer.Goals as goal

pub loop-constant-preserved : goal.loop-constant-preserved
loop-constant-preserved c =
    c.in_ok-add_longer.ensures
    ∙ (ap (λ (l : List (List Const)). l ++ map (λ tuple. c.constant-item.result ∷ tuple) c.args.tuples.now) c.loop-constant.invariant
    ∙ sym (flat_more (λ (x : Const). map (λ tuple. x ∷ tuple) c.args.tuples.now) c.args.constants.now c.loop-constant.constant-index c.constant-item.result c.constant-item.result (omega arith) c.constant-item.is))
