use Rattle.std.proofs.Common.{◌∙◌, ℕ, ap}
use Rattle.asp_defs.specs.declared.ground.Game.{Game}
use Rattle.asp_answers.specs.AnswersState.{unasked}
use Rattle.asp_answers.proofs.AskedFacts.{settled-unasked, unasked-state}
use Rattle.asp_answers.proofs.Recording.{learned-none}
use Rattle.asp_answers.proofs.answers.Answers.new.Goals as goal

pub invariant_of-result : goal.invariant_of-result
invariant_of-result c = record {
  level = c.in_ok-level.ensures.ready;
  settled = settled-unasked c.in_ok-level.level c.args.budget c.in_ok-work.work c.in_ok-work.ensures.serves c.in_ok-work.ensures.last;
  recorded = learned-none c.in_ok-level.level c.in_ok-work.work c.in_ok-work.ensures.nogoods;
}

pub returns : goal.returns
returns c =
    let e = c.in_ok-work.ensures in
    unasked-state c.in_ok-level.level c.args.budget c.in_ok-work.work e.kept e.outer e.region e.ordered e.blocked e.last
    ∙ (ap (λ (g : Game). unasked g c.in_ok-level.level.number c.args.budget) c.in_ok-level.ensures.game
    ∙ ap (λ (i : ℕ). unasked c.args.game.value i c.args.budget) c.in_ok-level.ensures.number)
