use Rattle.std.proofs.lemmas.Result.{on_ok_weaker}
use Rattle.asp_completion.specs.Levels.{upper, lower, rules_at}
use Rattle.asp_completion.specs.Completions.{AreSupported, IsCompleted}
use Rattle.asp_completion.proofs.Headed.{completes-as, completed-from, completed-at}
use Rattle.asp_completion.proofs.completing.add_completion.Goals as goal

pub returns : goal.returns
returns c =
    let l = c.args.level.now in
    on_ok_weaker c.add_atoms.result
    (completes-as l (AreSupported l (upper l)) (IsCompleted (lower l) (upper l) (rules_at l)) c.args.search.now c.add_atoms.new.search
    (λ N. completed-from l N) (λ N. completed-at l N))
    c.add_atoms.ensures
