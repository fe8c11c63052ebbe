use Rattle.std.proofs.Common.{◌≡◌, sym, ap, subst}
use Rattle.std.proofs.lemmas.Result.{on_ok_weaker}
use Rattle.asp_search.specs.State.{SearchState}
use Rattle.asp_completion.specs.Codes.{codes}
use Rattle.asp_completion.specs.Levels.{upper}
use Rattle.asp_completion.specs.Meanings.{AddsTo}
use Rattle.asp_answers.specs.Works.{Asked}
use Rattle.asp_answers.proofs.Steps.{candidate-fewer, asked-added, either_way}
use Rattle.asp_answers.proofs.Recording.{learned-same, learned-added}
use Rattle.asp_answers.proofs.find.exclude.Goals as goal

pub add_literals-requires-clause-inside : goal.add_literals-requires-clause-inside
add_literals-requires-clause-inside c = c.requires.sound.atoms

pub returns-clause-asked : goal.returns-clause-asked
returns-clause-asked c = λ budget asked.
    let l = c.args.level.now in
    let w = c.args.work.now in
    either_way c.add_literals.result
    (λ (adds : AddsTo w.search c.add_literals.new.search (codes (upper l) c.args.clause.now)).
    asked-added l c.requires.ready budget w asked c.add_literals.new.search c.args.clause.now c.requires.sound adds)
    (λ (same : c.add_literals.new.search ≡ w.search).
    subst (λ (s : SearchState). Asked l budget s w.outer w.region w.ordered w.kept.items w.blocked w.set) (sym same) asked)
    c.add_literals.ensures.added c.add_literals.ensures.unchanged

pub returns-clause-fewer : goal.returns-clause-fewer
returns-clause-fewer c =
    let w = c.args.work.now in
    on_ok_weaker c.add_literals.result
    (candidate-fewer c.args.level.now c.requires.ready w.search.budget w c.requires.asked c.requires.candidate
    c.add_literals.new.search c.args.clause.now c.requires.sound c.requires.false_here)
    c.add_literals.ensures.added

pub returns-clause-placed : goal.returns-clause-placed
returns-clause-placed c =
    let w = c.args.work.now in
    either_way c.add_literals.result
    (λ (adds : AddsTo w.search c.add_literals.new.search (codes (upper c.args.level.now) c.args.clause.now)). adds.count)
    (λ (same : c.add_literals.new.search ≡ w.search). ap (λ (s : SearchState). s.count) same)
    c.add_literals.ensures.added c.add_literals.ensures.unchanged

pub returns-clause-learned : goal.returns-clause-learned
returns-clause-learned c =
    let l = c.args.level.now in
    let w = c.args.work.now in
    either_way c.add_literals.result
    (λ (adds : AddsTo w.search c.add_literals.new.search (codes (upper l) c.args.clause.now)).
    learned-added l w.search c.add_literals.new.search (codes (upper l) c.args.clause.now) w.nogoods adds)
    (λ (same : c.add_literals.new.search ≡ w.search). learned-same l w.search c.add_literals.new.search w.nogoods same)
    c.add_literals.ensures.added c.add_literals.ensures.unchanged
