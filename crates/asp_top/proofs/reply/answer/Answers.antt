use Rattle.asp_defs.specs.Runs.{most_read}
use Rattle.asp_top.proofs.Taken.{taken_first, rest_left, taken_of_text, right_of_all}
use Rattle.asp_top.proofs.reply.answer.Goals as goal

pub returns-clause-right : goal.returns-clause-right
returns-clause-right g c =
    λ bytes told.
    right_of_all bytes c.in_ok-bytes.bytes.items
    (taken_first _ _ most_read c.in_ok-bytes.bytes.items bytes (taken_of_text _ _ _ _ c.limit.ensures c.in_ok-bytes.ensures.bytes) told)
    c.args.command c.in_ok-reply.field-0 c.in_ok-reply.ensures

pub returns-clause-all_read : goal.returns-clause-all_read
returns-clause-all_read g c =
    λ bytes told.
    rest_left _ _ most_read c.in_ok-bytes.bytes.items bytes (taken_of_text _ _ _ _ c.limit.ensures c.in_ok-bytes.ensures.bytes) told

pub returns-clause-right_of_some : goal.returns-clause-right_of_some
returns-clause-right_of_some g c = (c.in_ok-bytes.bytes.items, c.in_ok-reply.ensures)
