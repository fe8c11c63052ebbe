use Rattle.std.proofs.Common.{refl, ◌≡◌, ◌++◌, ◌∷◌, [], List, Bool, sym, ◌∙◌, ap, subst, not, true, false}
use Rattle.std.specs.Bool.{OnFalse}
use Rattle.std.proofs.lemmas.List.{map-append}
use Rattle.asp_defs.specs.declared.syntax.Term.{Term}
use Rattle.asp_safety.specs.Variables.{term_of, terms_of}
use Rattle.asp_safety.specs.Closure.{Settles}
use Rattle.asp_safety.proofs.Sets.{settles_new, settles_old}
use Rattle.asp_safety.proofs.closure.settle.Goals as goal

pub returns-in_ok-push : goal.returns-in_ok-push
returns-in_ok-push c =
    let longer : terms_of c.push.new.self.items ≡ terms_of c.args.queue.now.items ++ term_of c.args.variable ∷ [] =
    ap terms_of c.in_ok-push.ensures.items ∙ map-append term_of c.args.queue.now.items (c.args.variable ∷ []) in
    subst (λ (q : List Term). Settles (term_of c.args.variable) (terms_of c.args.safe.now.keys) (terms_of c.insert.new.self.keys) (terms_of c.args.queue.now.items) q) (sym longer)
    (settles_new c.args.safe.now.keys c.insert.new.self.keys c.args.variable (terms_of c.args.queue.now.items)
    (c.in_ok-insert.ensures.updates.0) (sym c.in_ok-insert.ensures.added ∙ c.if-branch.true))

pub returns-else-branch : goal.returns-else-branch
returns-else-branch c =
    let same : c.insert.new.self.keys ≡ c.args.safe.now.keys =
    subst (λ (b : Bool). OnFalse b (c.insert.new.self.keys ≡ c.args.safe.now.keys)) c.if-branch.false c.in_ok-insert.ensures.unchanged in
    subst (λ keys. Settles (term_of c.args.variable) (terms_of c.args.safe.now.keys) (terms_of keys) (terms_of c.args.queue.now.items) (terms_of c.args.queue.now.items)) (sym same)
    (settles_old c.args.safe.now.keys c.args.variable (terms_of c.args.queue.now.items) (was _ (sym c.in_ok-insert.ensures.added ∙ c.if-branch.false)))
  where
    was : (b : Bool) → not b ≡ false → b ≡ true
    was true e = refl
    was false e = absurd (cc)
