use Rattle.std.proofs.Common.{◌≡◌, ◌∙◌, true, sym, ap, subst}
use Rattle.std.specs.List.{list_all}
use Rattle.std.proofs.lemmas.Result.{on_ok_weaker, on_err_weaker}
use Rattle.asp_defs.specs.declared.ground.Lit.{Lit}
use Rattle.asp_defs.specs.Interpretations.{holds}
use Rattle.asp_defs.specs.Games.{base}
use Rattle.asp_defs.proofs.Lists.{all_at}
use Rattle.asp_game.specs.State.{MovesState, with_kept, without_cube}
use Rattle.asp_completion.specs.Levels.{upper}
use Rattle.asp_answers.specs.AnswersState.{AnswersState, moves_at}
use Rattle.asp_answers.specs.Recorded.{Grows}
use Rattle.asp_answers.proofs.answers.AnswersMoves.keep.Goals as goal

pub keep_work-requires-clause-inside : goal.keep_work-requires-clause-inside
keep_work-requires-clause-inside c = λ m h.
    all_at (λ (l : Lit). holds (upper c.self.inside.level) l.atom) c.args.cube.now m
    (subst (λ (st : AnswersState). list_all (λ l. holds (base st.moves.game st.moves.level) l.atom) c.args.cube.now ≡ true)
    (sym c.self.view_is) c.requires) h

pub invariant_of-self : goal.invariant_of-self
invariant_of-self c = record {
  level = c.self.invariant.level;
  settled = c.keep_work.ensures.settled;
  recorded = c.keep_work.ensures.learned.recorded c.self.invariant.recorded;
}

pub returns-clause-kept : goal.returns-clause-kept
returns-clause-kept c =
    let i = c.self.inside in
    on_ok_weaker c.keep_work.result
    (λ e.
    subst (λ (st : AnswersState). moves_at i.level i.budget i.searches i.checks c.keep_work.new.work ≡ with_kept st.moves c.args.cube.now)
    c.self.view_is
    (ap (λ (m : MovesState). record m { searches = i.searches; checks = i.checks }) e))
    c.keep_work.ensures.kept

pub returns-clause-no_memory : goal.returns-clause-no_memory
returns-clause-no_memory c =
    let i = c.self.inside in
    on_err_weaker c.keep_work.result
    (λ e.
    subst (λ (st : AnswersState). moves_at i.level i.budget i.searches i.checks c.keep_work.new.work ≡ without_cube st.moves)
    c.self.view_is
    (ap (λ (m : MovesState). record m { searches = i.searches; checks = i.checks }) e))
    c.keep_work.ensures.no_memory

pub returns-clause-placed : goal.returns-clause-placed
returns-clause-placed c = c.keep_work.ensures.placed ∙ ap (λ (st : AnswersState). st.placed) c.self.view_is

pub returns-clause-grows : goal.returns-clause-grows
returns-clause-grows c =
    subst (λ (st : AnswersState). Grows st.nogoods c.keep_work.new.work.nogoods) c.self.view_is c.keep_work.ensures.learned.grows
