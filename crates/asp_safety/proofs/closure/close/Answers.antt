use Rattle.asp_safety.proofs.closure.close.Goals as goal

pub returns : goal.returns
returns c = c.in_ok-spread.ensures _ c.in_ok-settle_all.ensures
