use Rattle.std.proofs.Common.{ℕ, List, sym, subst}
use Rattle.std.specs.Prelude.{Option, IfSome}
use Rattle.asp_check.proofs.Checkable.{text_is_checkable}
use Rattle.asp_defs.specs.declared.syntax.Program.{Program}
use Rattle.asp_defs.specs.Grammar.{IsText}
use Rattle.game_tests.proofs.Readable.{text_from}
use Rattle.game_tests.proofs.sets.checked_text.Goals as goal

pub check-requires : goal.check-requires
check-requires c = text_is_checkable c.as_bytes-bytes.result.now c.in-Ok.program c.in-Ok.ensures.text

pub returns : goal.returns
returns c =
    subst (λ (o : Option Program). IfSome o (λ q. (bs : List ℕ) × IsText bs q)) (sym c.ok.ensures.value)
    (text_from c.check.result c.as_bytes-bytes.result.now c.in-Ok.program c.in-Ok.ensures.text c.check.ensures.program)
