use Rattle.std.proofs.Common.{◌∙◌, arith}
use Rattle.asp_template.specs.Compiled.{argument_ranks}
use Rattle.asp_template.proofs.Steps.{maps_item, maps_all}
use Rattle.asp_template.proofs.facts.all_argument_ranks.Goals as goal

pub loop-term-preserved : goal.loop-term-preserved
loop-term-preserved c =
    maps_item (argument_ranks c.args.constants.now) c.args.terms.now c.loop-term.term-index c.term-item.result c.loop-term.ranks.items c.push.new.self.items c.from_vec.result
    (omega arith) c.term-item.is c.loop-term.invariant c.in_ok-push.ensures.items (c.from_vec.ensures ∙ c.in_ok-argument_ranks.ensures)

pub returns : goal.returns
returns c =
    maps_all (argument_ranks c.args.constants.now) c.args.terms.now c.loop-term.term-index c.loop-term.ranks.items c.from_vec-2.result
    (omega arith) c.from_vec-2.ensures c.loop-term.invariant
