use Rattle.std.proofs.Common.{◌∙◌, List, ap}
use Rattle.asp_defs.specs.declared.syntax.Quant.{Quant}
use Rattle.asp_plain.specs.declared.masks.Level.{Level}
use Rattle.asp_plain.specs.Levels.{masked_value}
use Rattle.asp_plain.proofs.Coherence.{coherent_is}
use Rattle.asp_plain.proofs.coherent.Goals as goal

pub returns : goal.returns
returns c =
    c.value.ensures
    ∙ ap (λ (quants : List Quant). masked_value quants c.as_slice-2.result.now 0) c.as_slice.ensures
    ∙ ap (λ (levels : List Level). masked_value c.args.game.now.quants levels 0) c.as_slice-2.ensures.value
    ∙ coherent_is c.args.game.now c.in_ok-levels.levels.items c.requires.valid c.in_ok-levels.ensures.masked
    c.in_ok-levels.ensures.number
