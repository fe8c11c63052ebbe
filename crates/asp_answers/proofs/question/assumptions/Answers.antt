use Rattle.asp_bits.specs.Places.{true_places}
use Rattle.asp_completion.specs.Levels.{game_at, upper, lower}
use Rattle.asp_answers.proofs.Assumed.{own-at}
use Rattle.asp_answers.proofs.Loops.{assumed-codes}
use Rattle.asp_answers.proofs.question.assumptions.Goals as goal

pub push_literals-requires-clause-inside : goal.push_literals-requires-clause-inside
push_literals-requires-clause-inside c = λ l i.
    (own-at (game_at c.args.level.now) c.args.level.now.number c.args.region.now c.requires.region l i).0

pub returns : goal.returns
returns c =
    assumed-codes (upper c.args.level.now) (lower c.args.level.now) (true_places c.args.outer.now) c.args.region.now
    c.new-assumed.result.items c.push_outer.new.assumed.items c.push_literals.new.clause.items c.new-assumed.ensures.items
    c.in_ok-push_outer.ensures c.in_ok-push_literals.ensures
