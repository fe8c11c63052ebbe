use Rattle.std.proofs.Common.{◌≡◌, ◌≢◌, ◌∙◌, sym, subst}
use Rattle.std.specs.Prelude.{Result, Ok, Err, IfOk, IfErr}
use Rattle.asp_defs.specs.declared.syntax.Program.{Program}
use Rattle.asp_defs.specs.declared.faults.TextFault.{TextFault}
use Rattle.asp_defs.specs.declared.faults.TextFault.TheVariants.{NoMemory}
use Rattle.asp_read.proofs.Verdicts.{some_tokens}
use Rattle.asp_read.proofs.text.parse.Goals as goal

pub returns : goal.returns
returns c =
    let same = some_tokens c.args.bytes.now c.args.tokens.now (sym c.is_empty.ensures ∙ c.if-is_empty.false) ∙ c.in_ok-builder.ensures.built in
    record {
      program = subst (λ (a : Result Program TextFault). IfOk c.finish.result (λ p. a ≡ Ok p)) (sym same) c.finish.ensures.whole;
      refusal = subst (λ (a : Result Program TextFault). IfErr c.finish.result (λ fault. fault ≢ NoMemory → a ≡ Err fault)) (sym same) c.finish.ensures.open;
    }
