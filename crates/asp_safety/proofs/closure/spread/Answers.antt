use Rattle.std.proofs.Common.{sym, arith, ◌≡◌, ◌++◌, ◌∷◌, [], List, ◌∙◌, ap, subst}
use Rattle.std.proofs.lemmas.List.{map-append}
use Rattle.asp_defs.specs.declared.syntax.Term.{Term}
use Rattle.asp_safety.specs.Variables.{term_of, terms_of}
use Rattle.asp_safety.specs.Bindings.{links_of}
use Rattle.std.proofs.lemmas.Bool.{eqb-true}
use Rattle.asp_safety.proofs.Steps.{none_left}
use Rattle.asp_safety.proofs.Spreading.{Spreading, spreading_start, spreading_more, spreading_end, least_without_links}
use Rattle.asp_safety.proofs.closure.spread.Goals as goal

pub loop-from-init : goal.loop-from-init
loop-from-init c bound gathered =
    spreading_start bound (links_of c.args.links.now) (terms_of c.args.safe.now.keys) (terms_of c.args.queue.now.items) gathered

pub loop-from-preserved : goal.loop-from-preserved
loop-from-preserved c bound gathered =
    let popped : terms_of c.loop-from.queue.items ≡ terms_of c.pop.new.self.items ++ term_of c.in-Some.from ∷ [] =
    ap terms_of c.in-Some.ensures.items ∙ map-append term_of c.pop.new.self.items (c.in-Some.from ∷ []) in
    spreading_more bound (links_of c.args.links.now) (term_of c.in-Some.from) (terms_of c.loop-from.safe.keys) (terms_of c.follow.new.safe.keys)
    (terms_of c.pop.new.self.items) (terms_of c.follow.new.queue.items)
    (subst (λ (q : List Term). Spreading bound (links_of c.args.links.now) (terms_of c.loop-from.safe.keys) q) popped (c.loop-from.invariant bound gathered))
    c.in_ok-follow.ensures

pub returns : goal.returns
returns c bound gathered =
    let empty : terms_of c.loop-from.queue.items ≡ [] = ap terms_of (none_left c.loop-from.queue.items (omega (arith, c.loop-from.queue.ok, c.in_default.ensures.cases.0))) in
    spreading_end bound (links_of c.args.links.now) (terms_of c.loop-from.safe.keys)
    (subst (λ (q : List Term). Spreading bound (links_of c.args.links.now) (terms_of c.loop-from.safe.keys) q) empty (c.loop-from.invariant bound gathered))

pub returns-then-is_empty : goal.returns-then-is_empty
returns-then-is_empty c bound gathered =
    let nothing : c.args.links.now ≡ [] = none_left c.args.links.now (eqb-true _ 0 (sym c.is_empty.ensures ∙ c.if-is_empty.true)) in
    least_without_links bound (links_of c.args.links.now) (terms_of c.args.safe.now.keys) (terms_of c.args.queue.now.items) gathered (ap links_of nothing)
