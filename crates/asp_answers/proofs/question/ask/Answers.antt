use Rattle.std.proofs.Common.{ℕ, List, refl, ap}
use Rattle.asp_bits.specs.Places.{true_places}
use Rattle.asp_search.specs.State.{SearchState}
use Rattle.asp_completion.specs.Codes.{codes}
use Rattle.asp_answers.specs.Assumptions.{assumed_literals}
use Rattle.asp_completion.specs.Levels.{upper, lower}
use Rattle.asp_answers.specs.Works.{IsPrepared}
use Rattle.asp_answers.proofs.Steps.{prepared-again, asked-new}
use Rattle.asp_answers.proofs.Recording.{learned-self, learned-same, learned-begun}
use Rattle.asp_answers.proofs.question.ask.Goals as goal

pub begin_under-requires-clause-atoms : goal.begin_under-requires-clause-atoms
begin_under-requires-clause-atoms c = c.requires.serves.atoms

pub returns-clause-asked : goal.returns-clause-asked
returns-clause-asked c =
    let l = c.args.level.now in
    let assumed : List ℕ = codes (upper l) (assumed_literals (lower l) (true_places c.args.outer.now) c.args.region.now) in
    let ready : IsPrepared l c.args.budget c.args.work.now.kept.items c.begin_under.new.search c.args.outer.now c.args.region.now =
    prepared-again l c.args.budget c.args.work.now.kept.items c.args.outer.now c.args.region.now c.args.work.now.search c.begin_under.new.search assumed
    c.requires.serves c.in_ok-begin_under.ensures.begun refl in
    asked-new l c.args.budget c.atoms.result c.args.outer.now c.in_ok-own_outer.own_outer c.in_ok-set.set c.args.region.now
    c.in_ok-own_region.own_region c.args.ordered c.args.work.now.kept.items c.new-blocked.result c.begin_under.new.search ready c.requires.places c.requires.outer
    c.requires.region c.in_ok-own_outer.ensures c.in_ok-own_region.ensures c.new-blocked.ensures c.in_ok-set.ensures c.atoms.ensures

pub returns-clause-outer : goal.returns-clause-outer
returns-clause-outer c = c.in_ok-own_outer.ensures

pub returns-clause-region : goal.returns-clause-region
returns-clause-region c = c.in_ok-own_region.ensures

pub returns-clause-blocked : goal.returns-clause-blocked
returns-clause-blocked c = c.new-blocked.ensures

pub returns-clause-placed : goal.returns-clause-placed
returns-clause-placed c = ap (λ (s : SearchState). s.count) c.in_ok-begin_under.ensures.begun

pub returns-clause-trail : goal.returns-clause-trail
returns-clause-trail c = ap (λ (s : SearchState). s.trail) c.in_ok-begin_under.ensures.begun

pub returns-clause-checked : goal.returns-clause-checked
returns-clause-checked c = c.in_ok-check.ensures.count

pub returns-in_err-check-clause-learned : goal.returns-in_err-check-clause-learned
returns-in_err-check-clause-learned c = learned-self c.args.level.now c.args.work.now.search c.args.work.now.nogoods

pub returns-in_err-set-clause-learned : goal.returns-in_err-set-clause-learned
returns-in_err-set-clause-learned c = learned-self c.args.level.now c.args.work.now.search c.args.work.now.nogoods

pub returns-in_err-own_outer-clause-learned : goal.returns-in_err-own_outer-clause-learned
returns-in_err-own_outer-clause-learned c = learned-self c.args.level.now c.args.work.now.search c.args.work.now.nogoods

pub returns-in_err-own_region-clause-learned : goal.returns-in_err-own_region-clause-learned
returns-in_err-own_region-clause-learned c = learned-self c.args.level.now c.args.work.now.search c.args.work.now.nogoods

pub returns-in_err-begin_under-clause-learned : goal.returns-in_err-begin_under-clause-learned
returns-in_err-begin_under-clause-learned c =
    learned-same c.args.level.now c.args.work.now.search c.begin_under.new.search c.args.work.now.nogoods c.in_err-begin_under.ensures.unchanged

pub returns-clause-learned : goal.returns-clause-learned
returns-clause-learned c =
    learned-begun c.args.level.now c.args.work.now.search c.begin_under.new.search (codes (upper c.args.level.now) (assumed_literals (lower c.args.level.now) (true_places c.args.outer.now) c.args.region.now))
    c.args.work.now.nogoods
    c.args.work.now.nogoods c.in_ok-begin_under.ensures.begun refl
