use Rattle.std.proofs.Common.{sym, arith, refl, ◌≡◌, ◌++◌, ◌∷◌, [], List, ◌∙◌, ap, subst}
use Rattle.std.proofs.lemmas.List.{map-append}
use Rattle.asp_defs.specs.declared.syntax.Term.{Term}
use Rattle.asp_safety.specs.Variables.{term_of, terms_of}
use Rattle.asp_safety.specs.Bindings.{links_of}
use Rattle.asp_safety.proofs.Steps.{none_left}
use Rattle.asp_safety.proofs.Spreading.{Reaching, reaching_start, reaching_more, reaching_end}
use Rattle.asp_safety.proofs.closure.reach.Goals as goal

pub loop-from-init : goal.loop-from-init
loop-from-init c start settled empty =
    reaching_start start (links_of c.args.links.now) [] (terms_of c.args.safe.now.keys) [] (terms_of c.args.queue.now.items) (terms_of c.args.out.now.items)
    refl refl empty settled

pub loop-from-preserved : goal.loop-from-preserved
loop-from-preserved c start settled empty =
    let popped : terms_of c.loop-from.queue.items ≡ terms_of c.pop.new.self.items ++ term_of c.in-Some.from ∷ [] =
    ap terms_of c.in-Some.ensures.items ∙ map-append term_of c.pop.new.self.items (c.in-Some.from ∷ []) in
    let taken : terms_of c.push.new.self.items ≡ terms_of c.loop-from.out.items ++ term_of c.in-Some.from ∷ [] =
    ap terms_of c.in_ok-push.ensures.items ∙ map-append term_of c.loop-from.out.items (c.in-Some.from ∷ []) in
    subst (λ (k : List Term). Reaching (start ∷ []) (links_of c.args.links.now) (terms_of c.follow.new.safe.keys) (terms_of c.follow.new.queue.items) k) (sym taken)
    (reaching_more (start ∷ []) (links_of c.args.links.now) (term_of c.in-Some.from) (terms_of c.loop-from.safe.keys) (terms_of c.follow.new.safe.keys)
    (terms_of c.pop.new.self.items) (terms_of c.follow.new.queue.items) (terms_of c.loop-from.out.items)
    (subst (λ (q : List Term). Reaching (start ∷ []) (links_of c.args.links.now) (terms_of c.loop-from.safe.keys) q (terms_of c.loop-from.out.items)) popped (c.loop-from.invariant start settled empty))
    c.in_ok-follow.ensures)

pub returns : goal.returns
returns c start settled empty =
    let none : terms_of c.loop-from.queue.items ≡ [] = ap terms_of (none_left c.loop-from.queue.items (omega (arith, c.loop-from.queue.ok, c.in_default.ensures.cases.0))) in
    reaching_end (start ∷ []) (links_of c.args.links.now) (terms_of c.loop-from.safe.keys) (terms_of c.loop-from.out.items)
    (subst (λ (q : List Term). Reaching (start ∷ []) (links_of c.args.links.now) (terms_of c.loop-from.safe.keys) q (terms_of c.loop-from.out.items)) none (c.loop-from.invariant start settled empty))
