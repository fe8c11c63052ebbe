use Rattle.asp_grammar.specs.Machine.{text_answer}
use Rattle.asp_read.proofs.Verdicts.{Agrees, agrees_at, text_at, refused_at, only_at, first_at}
use Rattle.asp_read.proofs.text.read.Goals as goal
use Rattle.asp_read.proofs.text.read.Goals.{After-parse}

agrees : (c : After-parse) → Agrees (text_answer c.args.bytes.now) c.parse.result
agrees c =
    agrees_at c.args.bytes.now c.in_ok-tokens.tokens.items c.as_slice.result.now c.parse.result
    c.in_ok-tokens.ensures.tokens c.as_slice.ensures.value c.parse.ensures.program c.parse.ensures.refusal

pub returns-clause-text : goal.returns-clause-text
returns-clause-text c =
    text_at c.args.bytes.now c.parse.result (agrees (goal.at.returns-clause-text c).After-parse)

pub returns-clause-refused : goal.returns-clause-refused
returns-clause-refused c =
    refused_at c.args.bytes.now c.parse.result (agrees (goal.at.returns-clause-refused c).After-parse)

pub returns-clause-only : goal.returns-clause-only
returns-clause-only c =
    only_at c.args.bytes.now c.parse.result (agrees (goal.at.returns-clause-only c).After-parse)

pub returns-clause-first : goal.returns-clause-first
returns-clause-first c =
    first_at c.args.bytes.now c.parse.result (agrees (goal.at.returns-clause-first c).After-parse)
