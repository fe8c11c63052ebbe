use Rattle.std.proofs.Common.{◌≡◌, ◌∙◌, ◌++◌, ◌∷◌, [], List, map, ap, subst}
use Rattle.std.proofs.lemmas.Result.{on_ok_weaker}
use Rattle.asp_defs.specs.declared.ground.Lit.{Lit}
use Rattle.asp_defs.specs.Lists.{IsIn}
use Rattle.asp_completion.specs.Codes.{codes, opposite}
use Rattle.asp_completion.specs.Levels.{upper}
use Rattle.asp_completion.specs.Meanings.{AddsLooselyTo}
use Rattle.asp_answers.proofs.Steps.{asked-blocked, opposites-inside, serves-asked, serves-same, serves-loosely}
use Rattle.asp_answers.proofs.Recording.{learned-self, learned-same, learned-loosely}
use Rattle.asp_answers.proofs.cubes.block_cube.Goals as goal
use Rattle.asp_answers.proofs.cubes.block_cube.Goals.{After-as_slice}

others_are : (c : After-as_slice) → c.as_slice.result.now ≡ map opposite c.args.cube.now
others_are c = c.as_slice.ensures.value ∙ c.in_ok-others.ensures

pub add_loosely-requires-clause-inside : goal.add_loosely-requires-clause-inside
add_loosely-requires-clause-inside c = λ m i.
    opposites-inside (upper c.args.level.now) c.args.cube.now c.requires.inside m
    (subst (λ (ls : List Lit). IsIn m ls) (others_are (goal.at.add_loosely-requires-clause-inside c).After-as_slice) i)

pub returns-clause-asked : goal.returns-clause-asked
returns-clause-asked c =
    let l = c.args.level.now in
    let w = c.args.work.now in
    on_ok_weaker c.push.result
    (λ more.
    asked-blocked l c.requires.ready c.args.budget w c.requires.asked c.add_loosely.new.search c.push.new.self c.args.cube.now
    c.requires.inside
    (subst (λ (ls : List Lit). AddsLooselyTo w.search c.add_loosely.new.search (codes (upper l) ls))
    (others_are (goal.at.returns-clause-asked c).After-as_slice) c.in_ok-add_loosely.ensures.added)
    (more ∙ ap (λ (kept : List Lit). w.blocked ++ kept ∷ []) c.in_ok-kept.ensures))
    c.push.ensures.ok

pub returns-clause-more : goal.returns-clause-more
returns-clause-more c =
    on_ok_weaker c.push.result
    (λ more. more ∙ ap (λ (kept : List Lit). c.args.work.now.blocked ++ kept ∷ []) c.in_ok-kept.ensures) c.push.ensures.ok

pub returns-clause-serves : goal.returns-clause-serves
returns-clause-serves c =
    let l = c.args.level.now in
    let w = c.args.work.now in
    serves-loosely l c.args.budget w.kept.items w.search c.add_loosely.new.search (codes (upper l) c.as_slice.result.now) c.in_ok-add_loosely.ensures.added
    (serves-asked l c.args.budget w c.requires.asked)

pub returns-in_err-kept-clause-serves : goal.returns-in_err-kept-clause-serves
returns-in_err-kept-clause-serves c = serves-asked c.args.level.now c.args.budget c.args.work.now c.requires.asked

pub returns-in_err-others-clause-serves : goal.returns-in_err-others-clause-serves
returns-in_err-others-clause-serves c = serves-asked c.args.level.now c.args.budget c.args.work.now c.requires.asked

pub returns-in_err-add_loosely-clause-serves : goal.returns-in_err-add_loosely-clause-serves
returns-in_err-add_loosely-clause-serves c =
    serves-same c.args.level.now c.args.budget c.args.work.now.kept.items c.args.work.now.search c.add_loosely.new.search c.in_err-add_loosely.ensures.unchanged
    (serves-asked c.args.level.now c.args.budget c.args.work.now c.requires.asked)

pub returns-in_err-kept-clause-learned : goal.returns-in_err-kept-clause-learned
returns-in_err-kept-clause-learned c = learned-self c.args.level.now c.args.work.now.search c.args.work.now.nogoods

pub returns-in_err-others-clause-learned : goal.returns-in_err-others-clause-learned
returns-in_err-others-clause-learned c = learned-self c.args.level.now c.args.work.now.search c.args.work.now.nogoods

pub returns-in_err-add_loosely-clause-learned : goal.returns-in_err-add_loosely-clause-learned
returns-in_err-add_loosely-clause-learned c =
    learned-same c.args.level.now c.args.work.now.search c.add_loosely.new.search c.args.work.now.nogoods c.in_err-add_loosely.ensures.unchanged

pub returns-clause-learned : goal.returns-clause-learned
returns-clause-learned c =
    learned-loosely c.args.level.now c.args.work.now.search c.add_loosely.new.search (codes (upper c.args.level.now) c.as_slice.result.now)
    c.args.work.now.nogoods c.in_ok-add_loosely.ensures.added
