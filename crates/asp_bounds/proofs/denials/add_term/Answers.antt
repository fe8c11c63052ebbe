use Rattle.std.proofs.Common.{◌∙◌, inl, inr, refl, sym}
use Rattle.std.proofs.lemmas.Result.{on_ok_weaker}
use Rattle.asp_bounds.proofs.denials.add_term.Goals as goal

pub returns-then-not-is_wanted : goal.returns-then-not-is_wanted
returns-then-not-is_wanted c = inl (sym c.is_wanted.ensures ∙ c.if-not-is_wanted.true, refl, refl)

pub returns : goal.returns
returns c =
    on_ok_weaker c.deny.result (λ is. inr (sym c.is_wanted.ensures ∙ c.if-not-is_wanted.false, is, c.set.ensures)) c.deny.ensures
