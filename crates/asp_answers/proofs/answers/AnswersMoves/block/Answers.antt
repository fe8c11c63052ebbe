use Rattle.std.proofs.Common.{◌≡◌, ◌∙◌, true, sym, ap, subst}
use Rattle.std.specs.List.{list_all}
use Rattle.std.proofs.lemmas.Result.{on_ok_weaker, on_err_weaker}
use Rattle.asp_defs.specs.declared.ground.Lit.{Lit}
use Rattle.asp_defs.specs.Interpretations.{holds}
use Rattle.asp_defs.specs.Games.{base}
use Rattle.asp_defs.proofs.Lists.{all_at}
use Rattle.asp_game.specs.State.{MovesState, with_blocked, without_memory}
use Rattle.asp_completion.specs.Levels.{upper}
use Rattle.asp_answers.specs.AnswersState.{AnswersState, moves_at}
use Rattle.asp_answers.specs.Recorded.{Grows}
use Rattle.asp_answers.proofs.AskedFacts.{blockable-found, blockable-asked}
use Rattle.asp_answers.proofs.answers.AnswersMoves.block.Goals as goal

pub block_work-requires-clause-asked : goal.block_work-requires-clause-asked
block_work-requires-clause-asked c =
    let i = c.self.inside in
    blockable-asked i.level i.budget i.work c.args.cube.now c.self.invariant.settled (record {
      set = c.requires.set;
      found = ap (λ (st : AnswersState). st.moves.last) c.self.view_is ∙ c.requires.found;
      inside = c.requires.inside;
      atoms = subst (λ (st : AnswersState). list_all (λ l. holds (base st.moves.game st.moves.level) l.atom) c.args.cube.now ≡ true)
          (sym c.self.view_is) c.requires.atoms;
    })

pub block_work-requires-clause-found : goal.block_work-requires-clause-found
block_work-requires-clause-found c =
    let i = c.self.inside in
    blockable-found i.level i.budget i.work c.args.cube.now (record {
      set = c.requires.set;
      found = ap (λ (st : AnswersState). st.moves.last) c.self.view_is ∙ c.requires.found;
      inside = c.requires.inside;
      atoms = subst (λ (st : AnswersState). list_all (λ l. holds (base st.moves.game st.moves.level) l.atom) c.args.cube.now ≡ true)
          (sym c.self.view_is) c.requires.atoms;
    })

pub block_work-requires-clause-inside : goal.block_work-requires-clause-inside
block_work-requires-clause-inside c = λ m h.
    all_at (λ (l : Lit). holds (upper c.self.inside.level) l.atom) c.args.cube.now m
    (subst (λ (st : AnswersState). list_all (λ l. holds (base st.moves.game st.moves.level) l.atom) c.args.cube.now ≡ true)
    (sym c.self.view_is) c.requires.atoms) h

pub invariant_of-self : goal.invariant_of-self
invariant_of-self c = record {
  level = c.self.invariant.level;
  settled = c.block_work.ensures.settled;
  recorded = c.block_work.ensures.learned.recorded c.self.invariant.recorded;
}

pub returns-clause-blocked : goal.returns-clause-blocked
returns-clause-blocked c =
    let i = c.self.inside in
    on_ok_weaker c.block_work.result
    (λ e.
    subst (λ (st : AnswersState). moves_at i.level i.budget i.searches i.checks c.block_work.new.work ≡ with_blocked st.moves c.args.cube.now)
    c.self.view_is
    (ap (λ (m : MovesState). record m { searches = i.searches; checks = i.checks }) e))
    c.block_work.ensures.blocked

pub returns-clause-no_memory : goal.returns-clause-no_memory
returns-clause-no_memory c =
    let i = c.self.inside in
    on_err_weaker c.block_work.result
    (λ e.
    subst (λ (st : AnswersState). moves_at i.level i.budget i.searches i.checks c.block_work.new.work ≡ without_memory st.moves)
    c.self.view_is
    (ap (λ (m : MovesState). record m { searches = i.searches; checks = i.checks }) e))
    c.block_work.ensures.no_memory

pub returns-clause-placed : goal.returns-clause-placed
returns-clause-placed c = c.block_work.ensures.placed ∙ ap (λ (st : AnswersState). st.placed) c.self.view_is

pub returns-clause-grows : goal.returns-clause-grows
returns-clause-grows c =
    subst (λ (st : AnswersState). Grows st.nogoods c.block_work.new.work.nogoods) c.self.view_is c.block_work.ensures.learned.grows
