use Rattle.std.proofs.Common.{arith, length}
use Rattle.asp_lex.specs.declared.tokens.Tok.TheVariants.{Directive}
use Rattle.asp_lex.proofs.Slices.{slice_at}
use Rattle.asp_read.proofs.Lengths.{few}
use Rattle.asp_read.proofs.text.build.Goals as goal

pub text_of-text-requires-clause-begins : goal.text_of-text-requires-clause-begins
text_of-text-requires-clause-begins c =
    let stands = slice_at 0 (length c.args.bytes.now) c.args.tokens.now c.loop-token.token-index
    (record { kind = Directive; from = 0; to = 0 }) c.requires.sliced c.loop-token-test.true in
    omega (arith, stands.0)

pub text_of-text-requires-clause-ends : goal.text_of-text-requires-clause-ends
text_of-text-requires-clause-ends c =
    (slice_at 0 (length c.args.bytes.now) c.args.tokens.now c.loop-token.token-index
    (record { kind = Directive; from = 0; to = 0 }) c.requires.sliced c.loop-token-test.true).1

pub advance-requires : goal.advance-requires
advance-requires c =
    let short = few 0 (length c.args.bytes.now) c.args.tokens.now c.requires.sliced in
    omega (arith, short, c.requires.long, c.loop-token.invariant.counted)
