use Rattle.std.proofs.Common.{◌≡◌, ◌≤◌, map, drop}
use Rattle.asp_lex.specs.Slices.{placed}
use Rattle.asp_grammar.specs.Machine as machine
use Rattle.asp_read.proofs.text.build.Given as goal

abbrev pub invariant-loop-token : goal.invariant-loop-token
invariant-loop-token l = record {
  answers : machine.answer_from l.builder (map (placed l.bytes) (drop l.token-index l.tokens)) ≡ machine.answer_from machine.start (map (placed l.bytes) l.tokens);
  counted : l.builder.tree.anonymous ≤ l.token-index;
}
