use Rattle.std.proofs.Common.{◌+◌, ℕ, List, [], Option, sym, subst, arith}
use Rattle.asp_safety.specs.declared.variable.Variable.{Variable}
use Rattle.asp_safety.specs.Bindings.{links_of}
use Rattle.asp_safety.specs.Index.{IsIndexOf}
use Rattle.asp_safety.proofs.Places.{index_none, index_step}
use Rattle.asp_safety.proofs.index.index_of.Goals as goal

pub loop-place-init : goal.loop-place-init
loop-place-init c =
    subst (λ (es : List (Variable × ℕ)). IsIndexOf (links_of c.args.links.now) 0 es c.new-previous.result.items) (sym c.new-last.ensures.empty)
    (subst (λ (ps : List (Option ℕ)). IsIndexOf (links_of c.args.links.now) 0 [] ps) (sym c.new-previous.ensures.items) (index_none (links_of c.args.links.now)))

pub loop-place-preserved : goal.loop-place-preserved
loop-place-preserved c =
    subst (λ (ps : List (Option ℕ)). IsIndexOf (links_of c.args.links.now) (c.loop-place.place + 1) c.insert.new.self.entries ps) (sym c.in_ok-push.ensures.items)
    (index_step c.args.links.now c.loop-place.place _ (omega arith) c.loop-place.last.entries c.insert.new.self.entries c.loop-place.previous.items c.in_ok-before.before
    c.loop-place.invariant c.in_ok-before.ensures.old c.in_ok-before.ensures.updates.0)
