use Rattle.std.proofs.Common.{◌≡◌, ◌∙◌, length, sym, ap, subst}
use Rattle.std.proofs.lemmas.Result.{on_ok_weaker, on_err_weaker}
use Rattle.asp_bits.specs.Places.{true_places}
use Rattle.asp_game.specs.State.{asked}
use Rattle.asp_game.specs.Questions.{is_outer, is_region}
use Rattle.asp_answers.specs.AnswersState.{AnswersState, moves_at, state_at}
use Rattle.asp_answers.specs.Recorded.{Grows}
use Rattle.asp_answers.specs.declared.work.Work.{Work}
use Rattle.asp_answers.proofs.AskedFacts.{settled-again, begun-again}
use Rattle.asp_answers.proofs.answers.AnswersMoves.begin.Goals as goal

pub ask-requires-clause-serves : goal.ask-requires-clause-serves
ask-requires-clause-serves c = c.self.invariant.settled.serves

pub ask-requires-clause-places : goal.ask-requires-clause-places
ask-requires-clause-places c =
    c.requires.places ∙ ap (λ (st : AnswersState). length st.moves.game.bases.atoms) (sym c.self.view_is)

pub ask-requires-clause-outer : goal.ask-requires-clause-outer
ask-requires-clause-outer c =
    ap (λ (st : AnswersState). is_outer st.moves.game st.moves.level (true_places c.args.outer.now)) c.self.view_is ∙ c.requires.outer

pub ask-requires-clause-region : goal.ask-requires-clause-region
ask-requires-clause-region c =
    ap (λ (st : AnswersState). is_region st.moves.game st.moves.level c.args.region.now) c.self.view_is ∙ c.requires.region

pub invariant_of-self : goal.invariant_of-self
invariant_of-self c = record {
  level = c.self.invariant.level;
  settled = settled-again c.self.inside.level c.self.inside.budget c.ask.result c.self.inside.work c.ask.new.work c.ask.ensures.asked
      c.ask.ensures.last c.ask.ensures.unchanged c.self.invariant.settled;
  recorded = c.ask.ensures.learned.recorded c.self.invariant.recorded;
}

pub returns-clause-begun : goal.returns-clause-begun
returns-clause-begun c =
    let i = c.self.inside in
    on_ok_weaker c.ask.result
    (λ e.
    subst (λ (st : AnswersState). moves_at i.level i.budget i.searches i.checks c.ask.new.work
    ≡ asked st.moves (true_places c.args.outer.now) c.args.region.now c.args.ordered) c.self.view_is (e i.searches i.checks))
    (begun-again i.level i.budget c.ask.result i.work c.ask.new.work c.args.outer.now c.args.region.now c.args.ordered
    c.ask.ensures.outer c.ask.ensures.region c.ask.ensures.blocked c.ask.ensures.last c.ask.ensures.ordered c.ask.ensures.kept)

pub returns-clause-placed : goal.returns-clause-placed
returns-clause-placed c = c.ask.ensures.placed

pub returns-clause-trail : goal.returns-clause-trail
returns-clause-trail c = c.ask.ensures.trail

pub returns-clause-checked : goal.returns-clause-checked
returns-clause-checked c = c.ask.ensures.checked

pub returns-clause-unchanged : goal.returns-clause-unchanged
returns-clause-unchanged c =
    let i = c.self.inside in
    on_err_weaker c.ask.result
    (λ same.
    ap (λ (w : Work). moves_at i.level i.budget i.searches i.checks w) same ∙ ap (λ (st : AnswersState). st.moves) c.self.view_is)
    c.ask.ensures.unchanged

pub returns-clause-whole : goal.returns-clause-whole
returns-clause-whole c =
    let i = c.self.inside in
    on_err_weaker c.ask.result
    (λ same. ap (λ (w : Work). state_at i.level i.budget i.searches i.checks w) same ∙ c.self.view_is) c.ask.ensures.unchanged

pub returns-clause-grows : goal.returns-clause-grows
returns-clause-grows c =
    subst (λ (st : AnswersState). Grows st.nogoods c.ask.new.work.nogoods) c.self.view_is c.ask.ensures.learned.grows
