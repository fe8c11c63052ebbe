use Rattle.asp_reduct.proofs.Truths.{get_or-member}
use Rattle.std.proofs.Common.{sym, subst}
use Rattle.asp_defs.specs.declared.ground.Counted.{Counted}
use Rattle.asp_defs.specs.Lists.{IsIn}
use Rattle.asp_bounds.proofs.terms.repeated.Goals as goal

pub counts-requires : goal.counts-requires
counts-requires c =
    c.requires c.term-item.result
    (subst (λ (x : Counted). IsIn x c.args.terms.now) (sym c.term-item.is)
    (get_or-member c.args.terms.now c.loop-term.term-index c.term-item.result c.loop-term-test.true))
