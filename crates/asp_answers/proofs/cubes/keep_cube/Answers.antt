use Rattle.std.proofs.Common.{map, refl, ap, arith}
use Rattle.asp_search.specs.State.{SearchState}
use Rattle.asp_completion.specs.Codes.{codes, opposite}
use Rattle.asp_completion.specs.Levels.{upper}
use Rattle.asp_answers.proofs.Recording.{learned-self, learned-same, learned-added}
use Rattle.asp_answers.proofs.Steps.{settled-kept, settled-same, pushed-more}
use Rattle.asp_answers.proofs.cubes.keep_cube.Goals as goal

pub add_cube-requires-clause-atoms : goal.add_cube-requires-clause-atoms
add_cube-requires-clause-atoms c = c.requires.settled.serves.atoms

pub returns-clause-more : goal.returns-clause-more
returns-clause-more c =
    pushed-more c.push-pushed.result c.args.work.now.kept.items c.reserve.new.self.items c.push-pushed.new.self.items c.in_ok-kept.kept
    c.args.cube.now c.reserve.ensures.items c.in_ok-kept.ensures c.push-pushed.ensures.items
    (c.push-pushed.ensures.succeeds (omega (arith, c.in_ok-reserve.ensures.ok)))

pub returns-clause-settled : goal.returns-clause-settled
returns-clause-settled c =
    settled-kept c.args.level.now c.requires.ready c.args.budget c.args.work.now c.add_cube.new.search c.push-pushed.new.self.items
    c.args.cube.now c.requires.inside c.in_ok-add_cube.ensures.added
    (pushed-more c.push-pushed.result c.args.work.now.kept.items c.reserve.new.self.items c.push-pushed.new.self.items c.in_ok-kept.kept
    c.args.cube.now c.reserve.ensures.items c.in_ok-kept.ensures c.push-pushed.ensures.items
    (c.push-pushed.ensures.succeeds (omega (arith, c.in_ok-reserve.ensures.ok))))
    c.requires.settled

pub returns-in_err-reserve-clause-settled : goal.returns-in_err-reserve-clause-settled
returns-in_err-reserve-clause-settled c =
    settled-same c.args.level.now c.args.budget c.args.work.now c.args.work.now.search c.reserve.new.self.items refl c.reserve.ensures.items
    c.requires.settled

pub returns-in_err-add_cube-clause-settled : goal.returns-in_err-add_cube-clause-settled
returns-in_err-add_cube-clause-settled c =
    settled-same c.args.level.now c.args.budget c.args.work.now c.add_cube.new.search c.reserve.new.self.items
    c.in_err-add_cube.ensures.unchanged c.reserve.ensures.items c.requires.settled

pub returns-in_err-add_cube-clause-placed : goal.returns-in_err-add_cube-clause-placed
returns-in_err-add_cube-clause-placed c = ap (λ (s : SearchState). s.count) c.in_err-add_cube.ensures.unchanged

pub returns-clause-placed : goal.returns-clause-placed
returns-clause-placed c = c.in_ok-add_cube.ensures.added.count

pub returns-in_err-kept-clause-learned : goal.returns-in_err-kept-clause-learned
returns-in_err-kept-clause-learned c = learned-self c.args.level.now c.args.work.now.search c.args.work.now.nogoods

pub returns-in_err-reserve-clause-learned : goal.returns-in_err-reserve-clause-learned
returns-in_err-reserve-clause-learned c = learned-self c.args.level.now c.args.work.now.search c.args.work.now.nogoods

pub returns-in_err-add_cube-clause-learned : goal.returns-in_err-add_cube-clause-learned
returns-in_err-add_cube-clause-learned c =
    learned-same c.args.level.now c.args.work.now.search c.add_cube.new.search c.args.work.now.nogoods c.in_err-add_cube.ensures.unchanged

pub returns-clause-learned : goal.returns-clause-learned
returns-clause-learned c =
    learned-added c.args.level.now c.args.work.now.search c.add_cube.new.search (codes (upper c.args.level.now) (map opposite c.args.cube.now))
    c.args.work.now.nogoods c.in_ok-add_cube.ensures.added
