use Rattle.std.proofs.Common.{◌≡◌, ◌∙◌, ◌<◌, ◌≤◌, sym, ap, subst}
use Rattle.std.specs.Prelude.{Result}
use Rattle.asp_defs.specs.declared.faults.Give.{Give}
use Rattle.asp_defs.specs.declared.faults.Unknown.{Unknown}
use Rattle.asp_defs.specs.Unknowns.{enough_placements}
use Rattle.asp_game.specs.declared.step.Step.{Step}
use Rattle.asp_game.specs.Answers.{IsFound, IsFirst, IsCore, KindRose}
use Rattle.asp_answers.specs.declared.work.Counts.{Counts}
use Rattle.asp_answers.specs.AnswersState.{AnswersState, moves_at}
use Rattle.asp_answers.specs.Causes.{counts_with, counts_after}
use Rattle.asp_answers.specs.Works.{last_with, last_of}
use Rattle.asp_answers.proofs.AskedFacts.{at-question-found, at-question-first, at-question-core, spent-fewer, spent-cause, next-state, rose-after}
use Rattle.asp_answers.specs.Recorded.{Grows}
use Rattle.asp_answers.proofs.answers.AnswersMoves.next.Goals as goal

pub next_answer-answer-requires-clause-asked : goal.next_answer-answer-requires-clause-asked
next_answer-answer-requires-clause-asked c = λ e.
    let i = c.self.inside in
    c.requires (sym (ap (λ (st : AnswersState). st.moves.last) c.self.view_is) ∙ ap (last_with i.level i.budget i.work.set) e)

pub invariant_of-self : goal.invariant_of-self
invariant_of-self c = record {
  level = c.self.invariant.level;
  settled = c.next_answer-answer.ensures.settled;
  recorded = c.next_answer-answer.ensures.learned.recorded c.self.invariant.recorded;
}

pub returns-clause-found : goal.returns-clause-found
returns-clause-found c = λ set e.
    let i = c.self.inside in
    subst (λ (st : AnswersState). IsFound st.moves set) c.self.view_is
    (at-question-found i.level i.budget i.searches i.checks i.work set (c.next_answer-answer.ensures.found set e))

pub returns-clause-first : goal.returns-clause-first
returns-clause-first c = λ set e ordered.
    let i = c.self.inside in
    subst (λ (st : AnswersState). IsFirst st.moves set) c.self.view_is
    (at-question-first i.level i.budget i.searches i.checks i.work set
    (c.next_answer-answer.ensures.first set e (ap (λ (st : AnswersState). st.moves.ordered) c.self.view_is ∙ ordered)))

pub returns-clause-core : goal.returns-clause-core
returns-clause-core c = λ core e.
    let i = c.self.inside in
    subst (λ (st : AnswersState). IsCore st.moves core) c.self.view_is
    (at-question-core i.level i.budget i.searches i.checks i.work core (c.next_answer-answer.ensures.core core e))

pub returns-clause-again : goal.returns-clause-again
returns-clause-again c = λ give e.
    c.next_answer-answer.ensures.again give (ap (λ (st : AnswersState). st.moves.last) c.self.view_is ∙ e)

pub returns-clause-cause : goal.returns-clause-cause
returns-clause-cause c = λ unknown e.
    let i = c.self.inside in
    spent-cause i.level i.budget c.counted-counts.result.searches c.counted-counts.result.checks c.next_answer-answer.new.work unknown
    (c.next_answer-answer.ensures.spent unknown e)

pub returns-clause-goes_on : goal.returns-clause-goes_on
returns-clause-goes_on c =
    let i = c.self.inside in
    let work = c.next_answer-answer.new.work in
    let later = c.counted-counts.result.searches in
    let more = c.counted-counts.result.checks in
    record {
      question = subst (λ (st : AnswersState). moves_at i.level i.budget later more work
          ≡ record st.moves { last = last_of i.level i.budget work; searches = later; checks = more }) c.self.view_is
          (next-state i.level i.budget i.searches i.checks later more i.work work c.next_answer-answer.ensures.outer
          c.next_answer-answer.ensures.region c.next_answer-answer.ensures.ordered c.next_answer-answer.ensures.kept
          c.next_answer-answer.ensures.blocked);
      searches = subst (λ (st : AnswersState). st.moves.searches ≤ later) c.self.view_is c.counted-counts.ensures.searches;
      checks = subst (λ (st : AnswersState). st.moves.checks ≤ more) c.self.view_is c.counted-counts.ensures.checks;
    }

pub returns-clause-spent : goal.returns-clause-spent
returns-clause-spent c = λ unknown e.
    let i = c.self.inside in
    let work = c.next_answer-answer.new.work in
    let fewer = spent-fewer i.level i.budget work unknown (c.next_answer-answer.ensures.spent unknown e) in
    let counts : c.counted-counts.result ≡ counts_with unknown.kind i.searches i.checks =
    c.counted-counts.ensures.counts ∙ ap (λ (a : Result Step Give). counts_after a i.searches i.checks) e in
    record {
      level = ap (λ (u : Unknown). u.level) fewer.is ∙ ap (λ (st : AnswersState). st.moves.level) c.self.view_is;
      budget = ap (λ (u : Unknown). u.budget) fewer.is ∙ ap (λ (st : AnswersState). st.moves.budget) c.self.view_is;
      few = subst (λ (st : AnswersState). st.moves.budget < enough_placements st.moves.game st.moves.level) c.self.view_is fewer.few;
      rose = subst (λ (st : AnswersState). KindRose unknown.kind st.moves
          (moves_at i.level i.budget c.counted-counts.result.searches c.counted-counts.result.checks work)) c.self.view_is
          (subst (λ (cs : Counts). KindRose unknown.kind (moves_at i.level i.budget i.searches i.checks i.work)
          (moves_at i.level i.budget cs.searches cs.checks work)) (sym counts)
          (rose-after i.level i.budget i.searches i.checks i.work work unknown fewer.searched));
    }

pub returns-clause-searches : goal.returns-clause-searches
returns-clause-searches c =
    ap (λ (cs : Counts). cs.searches) c.counted-counts.ensures.counts
    ∙ ap (λ (st : AnswersState). (counts_after c.next_answer-answer.result st.moves.searches st.moves.checks).searches) c.self.view_is

pub returns-clause-checks : goal.returns-clause-checks
returns-clause-checks c =
    ap (λ (cs : Counts). cs.checks) c.counted-counts.ensures.counts
    ∙ ap (λ (st : AnswersState). (counts_after c.next_answer-answer.result st.moves.searches st.moves.checks).checks) c.self.view_is

pub returns-clause-placed : goal.returns-clause-placed
returns-clause-placed c =
    subst (λ (st : AnswersState). st.placed ≤ c.next_answer-answer.new.work.search.count) c.self.view_is c.next_answer-answer.ensures.placed

pub returns-clause-grows : goal.returns-clause-grows
returns-clause-grows c =
    subst (λ (st : AnswersState). Grows st.nogoods c.next_answer-answer.new.work.nogoods) c.self.view_is c.next_answer-answer.ensures.learned.grows
