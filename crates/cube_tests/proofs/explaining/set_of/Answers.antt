use Rattle.std.proofs.Common.{ap, ◌∙◌, false, length}
use Rattle.std.proofs.lemmas.List.{length-replicate}
use Rattle.cube_tests.proofs.explaining.set_of.Goals as goal

pub loop-atom-init : goal.loop-atom-init
loop-atom-init c = ap length c.in-Ok.ensures ∙ (length-replicate _ false ∙ c.len.ensures)
