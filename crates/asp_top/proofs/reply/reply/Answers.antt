use Rattle.std.proofs.Common.{subst}
use Rattle.asp_top.specs.Replies.{IsRefusedSo}
use Rattle.asp_top.proofs.reply.reply.Goals as goal

pub returns-in-Err-Text : goal.returns-in-Err-Text
returns-in-Err-Text c =
    rw c.in-Err-Text.line-is
    (subst (IsRefusedSo c.args.bytes.items) c.in-Err-Text.field-0-is c.in-Err-Text.ensures.refused)
