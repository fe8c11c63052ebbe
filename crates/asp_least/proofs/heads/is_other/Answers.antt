use Rattle.std.proofs.Common.{not, ◌&&◌, ◌∷◌, [], sym, ap, ◌∙◌}
use Rattle.asp_defs.specs.Interpretations.{holds}
use Rattle.asp_reduct.proofs.Truths.{holds-read}
use Rattle.asp_least.proofs.FoundedAtoms.{other-read}
use Rattle.asp_least.proofs.heads.is_other.Goals as goal

pub returns-then-inside : goal.returns-then-inside
returns-then-inside c = other-read c.args.set.now c.args.atom c.args.other c.get-inside.result c.get-inside.ensures c.if-inside.true

pub returns-else-inside : goal.returns-else-inside
returns-else-inside c =
    c.if-inside.false
    ∙ sym (ap (λ t. t && not (holds (c.args.atom ∷ []) c.args.other)) (holds-read c.args.set.now c.args.other c.get-inside.result c.get-inside.ensures ∙ c.if-inside.false))
