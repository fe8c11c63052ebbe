use Rattle.std.proofs.Common.{refl, inr, None, arith}
use Rattle.asp_search.proofs.Stepping.{Stays-kept, Stays-decided, DecidesAssumed-decided, IsOrderly-decided}
use Rattle.asp_search.proofs.Deciding.{IsCursor-past}
use Rattle.asp_search.proofs.steps.place.Goals as goal

pub returns-in-Ok-clause-stays : goal.returns-in-Ok-clause-stays
returns-in-Ok-clause-stays c =
    let old = c.args.solver.now in
    Stays-decided old _ (record { literal = c.args.literal; reason = None }) c.requires.ready c.in-Ok.ensures.placed (c.in-Ok.ensures.goes old.book c.requires.ready.fitted.goes) refl refl refl refl refl refl
    (DecidesAssumed-decided old.assumed.items old.trail.steps (record { literal = c.args.literal; reason = None }) (inr c.requires.all) c.requires.ready.assumed)
    (IsCursor-past old.assumed.items old.trail.steps (record { literal = c.args.literal; reason = None }) old.cursor old.held c.requires.cursor c.requires.ready.cursor)
    (IsOrderly-decided old.assumed.items old.trail.steps (record { literal = c.args.literal; reason = None }) old.front old.in_order (λ ordered. inr (c.requires.first ordered)) c.requires.ready.order)
    refl (omega (arith, c.saturating_add-solver.ensures)) refl

pub returns-in-Err-clause-stays : goal.returns-in-Err-clause-stays
returns-in-Err-clause-stays c =
    Stays-kept c.args.solver.now _ c.requires.ready refl c.in-Err.ensures.unchanged refl refl refl refl refl refl refl refl c.requires.ready.unmarked c.insert.ensures.atoms refl refl
