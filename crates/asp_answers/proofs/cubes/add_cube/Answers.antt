use Rattle.std.proofs.Common.{◌≡◌, ◌∙◌, List, map, subst}
use Rattle.std.proofs.lemmas.Result.{on_ok_weaker}
use Rattle.asp_defs.specs.declared.ground.Lit.{Lit}
use Rattle.asp_defs.specs.Lists.{IsIn}
use Rattle.asp_completion.specs.Codes.{codes, opposite}
use Rattle.asp_completion.specs.Levels.{upper}
use Rattle.asp_completion.specs.Meanings.{AddsTo}
use Rattle.asp_answers.proofs.Steps.{opposites-inside}
use Rattle.asp_answers.proofs.cubes.add_cube.Goals as goal
use Rattle.asp_answers.proofs.cubes.add_cube.Goals.{After-as_slice}

others_are : (c : After-as_slice) → c.as_slice.result.now ≡ map opposite c.args.cube.now
others_are c = c.as_slice.ensures.value ∙ c.in_ok-others.ensures

pub add_literals-requires-clause-inside : goal.add_literals-requires-clause-inside
add_literals-requires-clause-inside c = λ m i.
    opposites-inside (upper c.args.level.now) c.args.cube.now c.requires.inside m
    (subst (λ (ls : List Lit). IsIn m ls) (others_are (goal.at.add_literals-requires-clause-inside c).After-as_slice) i)

pub returns-clause-added : goal.returns-clause-added
returns-clause-added c =
    on_ok_weaker c.add_literals.result
    (λ adds.
    subst (λ (ls : List Lit). AddsTo c.args.search.now c.add_literals.new.search (codes (upper c.args.level.now) ls))
    (others_are (goal.at.returns-clause-added c).After-as_slice) adds)
    c.add_literals.ensures.added
