use Rattle.std.proofs.Common.{List, [], subst, ap}
use Rattle.asp_defs.specs.declared.syntax.Term.{Term}
use Rattle.asp_safety.specs.Variables.{term_of, terms_of}
use Rattle.asp_safety.specs.Closure.{Settles}
use Rattle.asp_safety.proofs.closure.reached.Goals as goal

pub returns : goal.returns
returns c =
    c.in_ok-reach.ensures (term_of c.args.start)
    (subst (λ (vs : List Term). Settles (term_of c.args.start) vs (terms_of c.settle.new.safe.keys) [] (terms_of c.settle.new.queue.items)) (ap terms_of c.new-safe.ensures.empty)
    (subst (λ (q : List Term). Settles (term_of c.args.start) (terms_of c.new-safe.result.keys) (terms_of c.settle.new.safe.keys) q (terms_of c.settle.new.queue.items)) (ap terms_of c.new-queue.ensures.items)
    c.in_ok-settle.ensures))
    (ap terms_of c.new-out.ensures.items)
