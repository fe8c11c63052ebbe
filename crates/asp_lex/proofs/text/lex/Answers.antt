use Rattle.std.proofs.Common.{◌+◌, sym, subst}
use Rattle.asp_lex.proofs.Texts.{Lexed, lexed_none, lexed_more}
use Rattle.asp_lex.proofs.text.lex.Goals as goal

pub loop-first-init : goal.loop-first-init
loop-first-init c = lexed_none c.args.bytes.now c.new-tokens.result.items c.new-tokens.ensures.items

pub loop-first-preserved : goal.loop-first-preserved
loop-first-preserved c =
    let piece = c.first_piece-piece.result in
    subst (λ rest. Lexed c.args.bytes.now (c.loop-first.at + piece.len) rest c.add.new.tokens.items) (sym c.split_at.ensures.back)
    (lexed_more c.args.bytes.now c.loop-first.at c.loop-first.rest.now c.loop-first.tokens.items c.in-Some.first.now c.in-Some.behind.now piece c.in_ok-token_at.field-0 c.add.new.tokens.items c.loop-first.invariant c.in-Some.ensures.cases.0 c.first_piece-piece.ensures (sym c.in_ok-token_at.ensures) c.in_ok-add.ensures)
