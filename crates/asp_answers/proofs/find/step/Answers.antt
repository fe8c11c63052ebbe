use Rattle.std.proofs.Common.{◌≡◌, ◌∙◌, ◌*◌, ℕ, Bool, List, length, refl, sym, ap, subst, arith}
use Rattle.std.specs.Prelude.{Ok, Err}
use Rattle.asp_bits.specs.Places.{true_places}
use Rattle.asp_defs.specs.declared.faults.Kind.TheVariants.{Search}
use Rattle.asp_defs.specs.declared.faults.Unknown.{Unknown}
use Rattle.asp_defs.specs.declared.ground.Lit.{Lit}
use Rattle.asp_search.specs.Cores.{IsCore as IsSearchCore}
use Rattle.asp_search.specs.Seen.{AreCodes}
use Rattle.asp_game.specs.State.{MovesState}
use Rattle.asp_game.specs.Answers.{IsFound, IsFirst, IsCore}
use Rattle.asp_answers.specs.declared.work.Work.{Work}
use Rattle.asp_answers.specs.Assumptions.{outer_part}
use Rattle.asp_completion.specs.Levels.{upper, lower}
use Rattle.asp_answers.specs.Works.{Spends, IsAsked, IsCandidate, question_of, unknown_of}
use Rattle.asp_answers.proofs.Measure.{candidates-same}
use Rattle.asp_answers.proofs.Loops.{core-codes}
use Rattle.asp_answers.proofs.Steps.{asked-moved, candidate-first, work-core, keeps-then, question-kept, assumed-codes-below, spent-search}
use Rattle.asp_answers.proofs.Recording.{learned-then}
use Rattle.asp_answers.proofs.find.step.Goals as goal
use Rattle.asp_answers.proofs.find.step.Goals.{After-run}

-- the work after the run
asked_after : (c : After-run) → IsAsked c.args.level.now c.args.budget c.run.new.work
asked_after c = c.run.ensures.asked c.args.level.now c.args.budget c.requires.ready c.requires.asked

pub run-requires-clause-begun : goal.run-requires-clause-begun
run-requires-clause-begun c = c.requires.asked.begun

pub run-requires-clause-same : goal.run-requires-clause-same
run-requires-clause-same c = c.requires.asked.same_order

pub read-requires-clause-atoms : goal.read-requires-clause-atoms
read-requires-clause-atoms c = (asked_after (goal.at.read-requires-clause-atoms c).After-run).atoms

pub read-requires-clause-found : goal.read-requires-clause-found
read-requires-clause-found c = (c.in-Ok-Found.ensures.ran.found (ap (λ o. Ok o) c.in-Ok-Found.field-0-is)).1

pub read-requires-clause-places : goal.read-requires-clause-places
read-requires-clause-places c = (asked_after (goal.at.read-requires-clause-places c).After-run).set_places

pub read-requires-clause-inside : goal.read-requires-clause-inside
read-requires-clause-inside c = (asked_after (goal.at.read-requires-clause-inside c).After-run).set_inside

pub judge-requires-clause-asked : goal.judge-requires-clause-asked
judge-requires-clause-asked c =
    let a = asked_after (goal.at.judge-requires-clause-asked c).After-run in
    asked-moved c.args.level.now c.requires.ready c.args.budget c.run.new.work a c.run.new.work.search c.run.new.work.kept.items c.run.new.work.blocked
    c.read.new.set a.atoms a.budget_is a.begun a.same_order refl a.means a.firm c.read.ensures.places c.read.ensures.inside

pub judge-requires-clause-candidate : goal.judge-requires-clause-candidate
judge-requires-clause-candidate c = record {
  found = (c.in-Ok-Found.ensures.ran.found (ap (λ o. Ok o) c.in-Ok-Found.field-0-is)).0;
  read = c.read.ensures;
}

pub returns-in-Ok-Found-clause-asked : goal.returns-in-Ok-Found-clause-asked
returns-in-Ok-Found-clause-asked c = c.judge.ensures.asked

pub returns-in-Ok-Found-clause-kept : goal.returns-in-Ok-Found-clause-kept
returns-in-Ok-Found-clause-kept c =
    keeps-then c.args.work.now c.run.new.work c.judge.new.work c.run.ensures.kept c.judge.ensures.kept

pub returns-in-Ok-Found-clause-found : goal.returns-in-Ok-Found-clause-found
returns-in-Ok-Found-clause-found c = λ set e.
    let found = c.judge.ensures.found set e in (
      found.0,
      subst (λ (q : MovesState). IsFound q set)
          (question-kept c.args.level.now c.args.budget c.args.work.now c.run.new.work c.run.ensures.kept) found.1,
    )

pub returns-in-Ok-Found-clause-first : goal.returns-in-Ok-Found-clause-first
returns-in-Ok-Found-clause-first c = λ set e ordered.
    let l = c.args.level.now in
    let a = asked_after (goal.at.returns-in-Ok-Found-clause-first c).After-run in
    let w : Work = record c.run.new.work { set = c.read.new.set } in
    let asked : IsAsked l c.args.budget w =
    asked-moved l c.requires.ready c.args.budget c.run.new.work a c.run.new.work.search c.run.new.work.kept.items c.run.new.work.blocked
    c.read.new.set a.atoms a.budget_is a.begun a.same_order refl a.means a.firm c.read.ensures.places c.read.ensures.inside in
    let candidate : IsCandidate l w = record {
      found = (c.in-Ok-Found.ensures.ran.found (ap (λ o. Ok o) c.in-Ok-Found.field-0-is)).0;
      read = c.read.ensures;
    } in
    let found = c.judge.ensures.found set e in
    let same : set ≡ c.read.new.set = found.0 ∙ c.judge.ensures.same in
    let first : IsFirst (question_of l c.args.budget w) c.read.new.set =
    candidate-first l c.requires.ready c.args.budget w asked candidate
    (c.in-Ok-Found.ensures.least (ap (λ o. Ok o) c.in-Ok-Found.field-0-is) ordered)
    (subst (λ (x : List Bool). IsFound (question_of l c.args.budget w) x) same found.1) in
    subst (λ (q : MovesState). IsFirst q set) (question-kept l c.args.budget c.args.work.now c.run.new.work c.run.ensures.kept)
    (subst (λ (x : List Bool). IsFirst (question_of l c.args.budget w) x) (sym same) first)

pub returns-in-Ok-Found-clause-core : goal.returns-in-Ok-Found-clause-core
returns-in-Ok-Found-clause-core c = λ core e. absurd (c.judge.ensures.no_core core e)

pub returns-in-Ok-Found-clause-fewer : goal.returns-in-Ok-Found-clause-fewer
returns-in-Ok-Found-clause-fewer c = λ e.
    let less = c.judge.ensures.fewer e in
    let before = candidates-same (upper c.args.level.now) c.args.work.now.search.clauses c.run.new.work.search.clauses c.in-Ok-Found.ensures.ran.same in
    omega (arith, less, before)

pub outer_part-requires-clause-places : goal.outer_part-requires-clause-places
outer_part-requires-clause-places c = (asked_after (goal.at.outer_part-requires-clause-places c).After-run).places

pub outer_part-requires-clause-codes : goal.outer_part-requires-clause-codes
outer_part-requires-clause-codes c =
    let l = c.args.level.now in
    let w = c.args.work.now in
    let core = c.in-Ok-Core.core in
    let is_core : IsSearchCore w.search.clauses w.search.assumed core =
    c.in-Ok-Core.ensures.ran.core core (ap (λ o. Ok o) c.in-Ok-Core.field-0-is) in
    subst (λ (xs : List ℕ). AreCodes (2 * length (upper l)) xs) (sym c.as_slice.ensures)
    (core-codes w.search.clauses w.search.assumed core (2 * length (upper l)) is_core
    (assumed-codes-below l c.requires.ready c.args.budget w c.requires.asked))

pub returns-in_err-part-in-Ok-Core-clause-asked : goal.returns-in_err-part-in-Ok-Core-clause-asked
returns-in_err-part-in-Ok-Core-clause-asked c = asked_after (goal.at.returns-in_err-part-in-Ok-Core-clause-asked c).After-run

pub returns-in_ok-part-in-Ok-Core-clause-asked : goal.returns-in_ok-part-in-Ok-Core-clause-asked
returns-in_ok-part-in-Ok-Core-clause-asked c = asked_after (goal.at.returns-in_ok-part-in-Ok-Core-clause-asked c).After-run

pub returns-in_ok-part-in-Ok-Core-clause-core : goal.returns-in_ok-part-in-Ok-Core-clause-core
returns-in_ok-part-in-Ok-Core-clause-core c = λ part e.
    let l = c.args.level.now in
    let w = c.args.work.now in
    let core = c.in-Ok-Core.core in
    let is_core : IsSearchCore w.search.clauses w.search.assumed core =
    c.in-Ok-Core.ensures.ran.core core (ap (λ o. Ok o) c.in-Ok-Core.field-0-is) in
    let same : c.in_ok-part-in-Ok-Core.part ≡ part = cc in
    let is : outer_part (upper l) (lower l) (true_places w.outer) core ≡ part =
    sym (c.in_ok-part-in-Ok-Core.ensures
    ∙ (ap (λ (xs : List ℕ). outer_part (upper l) (lower l) (true_places c.run.new.work.outer) xs) c.as_slice.ensures
    ∙ ap (λ (o : List Bool). outer_part (upper l) (lower l) (true_places o) core) c.in-Ok-Core.ensures.kept.same_outer)) ∙ same in
    subst (λ (p : List Lit). IsCore (question_of l c.args.budget w) p) is
    (work-core l c.requires.ready c.args.budget w c.requires.asked w.search.clauses w.search.assumed core refl refl is_core)

pub returns-in-Err-Spent-clause-asked : goal.returns-in-Err-Spent-clause-asked
returns-in-Err-Spent-clause-asked c = asked_after (goal.at.returns-in-Err-Spent-clause-asked c).After-run

pub returns-in-Err-NoMemory-clause-asked : goal.returns-in-Err-NoMemory-clause-asked
returns-in-Err-NoMemory-clause-asked c = asked_after (goal.at.returns-in-Err-NoMemory-clause-asked c).After-run

pub returns-in-Err-Spent-clause-spent : goal.returns-in-Err-Spent-clause-spent
returns-in-Err-Spent-clause-spent c = λ unknown e.
    let l = c.args.level.now in
    let a = asked_after (goal.at.returns-in-Err-Spent-clause-spent c).After-run in
    let s = c.in-Err-Spent.ensures.ran.spent (ap (λ f. Err f) c.in-Err-Spent.field-0-is) in
    let same : unknown_of l c.args.budget Search ≡ unknown = cc in
    subst (λ (u : Unknown). Spends l c.args.budget c.run.new.work.search c.run.new.work.check u) same
    (spent-search l c.args.budget c.run.new.work.search c.run.new.work.check a.atoms a.budget_is s.0 s.1)

pub returns-in-Ok-Found-clause-placed : goal.returns-in-Ok-Found-clause-placed
returns-in-Ok-Found-clause-placed c =
    let before = c.in-Ok-Found.ensures.ran.count in
    let after = c.judge.ensures.placed in
    omega (arith, before, after)

pub returns-in-Ok-Found-clause-learned : goal.returns-in-Ok-Found-clause-learned
returns-in-Ok-Found-clause-learned c =
    learned-then c.args.level.now c.args.work.now.search c.run.new.work.search c.judge.new.work.search c.args.work.now.nogoods
    c.run.new.work.nogoods c.judge.new.work.nogoods (c.in-Ok-Found.ensures.learned c.args.level.now) c.judge.ensures.learned

pub returns-in_err-part-in-Ok-Core-clause-learned : goal.returns-in_err-part-in-Ok-Core-clause-learned
returns-in_err-part-in-Ok-Core-clause-learned c = c.in-Ok-Core.ensures.learned c.args.level.now

pub returns-in_ok-part-in-Ok-Core-clause-learned : goal.returns-in_ok-part-in-Ok-Core-clause-learned
returns-in_ok-part-in-Ok-Core-clause-learned c = c.in-Ok-Core.ensures.learned c.args.level.now

pub returns-in-Err-Spent-clause-learned : goal.returns-in-Err-Spent-clause-learned
returns-in-Err-Spent-clause-learned c = c.in-Err-Spent.ensures.learned c.args.level.now

pub returns-in-Err-NoMemory-clause-learned : goal.returns-in-Err-NoMemory-clause-learned
returns-in-Err-NoMemory-clause-learned c = c.in-Err-NoMemory.ensures.learned c.args.level.now
