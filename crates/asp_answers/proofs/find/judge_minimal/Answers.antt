use Rattle.std.proofs.Common.{◌≡◌, ◌∙◌, ◌≤◌, ℕ, true, Bool, List, length, refl, sym, ap, subst, arith}
use Rattle.std.specs.Prelude.{IsTrue, Ok, Err}
use Rattle.std.specs.List.{list_all}
use Rattle.asp_bits.specs.Places.{true_places}
use Rattle.asp_defs.specs.declared.faults.Give.{Give}
use Rattle.asp_defs.specs.declared.faults.Give.TheVariants as gives
use Rattle.asp_defs.specs.declared.faults.Kind.TheVariants.{Minimal}
use Rattle.asp_defs.specs.declared.ground.GroundRule.{GroundRule}
use Rattle.asp_defs.specs.AnswerSets.{is_answer_set}
use Rattle.asp_defs.specs.Truth.{is_model}
use Rattle.asp_reduct.specs.Bounds.{is_rule_below}
use Rattle.asp_minimal.specs.Choices.{with_choices, bound_atoms, Refutes}
use Rattle.asp_game.specs.Answers.{IsFound}
use Rattle.asp_completion.specs.Levels.{upper, lower, rules_at}
use Rattle.asp_answers.specs.Works.{Asked, question_of, unknown_of}
use Rattle.asp_answers.proofs.Below.{rules-below}
use Rattle.asp_answers.proofs.Steps.{candidate-model, candidate-move, spent-check, bound-small}
use Rattle.asp_answers.proofs.Recording.{learned-self}
use Rattle.asp_answers.proofs.find.judge_minimal.Goals as goal

pub minimal-requires-clause-below : goal.minimal-requires-clause-below
minimal-requires-clause-below c =
    let w = c.args.work.now in
    subst (λ (rs : List GroundRule). IsTrue (list_all (is_rule_below (length w.set)) rs)) (sym c.rules.ensures)
    (rules-below c.args.level.now c.requires.ready w.set c.requires.asked.set_places)

pub minimal-requires-clause-model : goal.minimal-requires-clause-model
minimal-requires-clause-model c =
    let w = c.args.work.now in
    ap (λ (rs : List GroundRule). is_model (true_places w.set) rs) c.rules.ensures
    ∙ candidate-model c.args.level.now c.requires.ready c.args.budget w c.requires.asked c.requires.candidate

pub minimal-requires-clause-fresh : goal.minimal-requires-clause-fresh
minimal-requires-clause-fresh c =
    let fresh = c.in_ok-check.ensures in
    record {
      atoms_are = fresh.atoms_are
          ∙ (c.count_bound-bound.ensures.is
          ∙ ap (λ (xs : List ℕ). length (bound_atoms xs (true_places c.args.work.now.set))) (sym c.lower.ensures));
      few = fresh.few;
      budget_is = refl;
      count = fresh.count;
      clauses = fresh.clauses;
      firm = fresh.firm;
      assumed = fresh.assumed;
      trail = fresh.trail;
      ordered = fresh.ordered;
      stage = fresh.stage;
      decisions = fresh.decisions;
      conflicts = fresh.conflicts;
    }

pub returns-in_ok-set-in-Ok-Yes-clause-found : goal.returns-in_ok-set-in-Ok-Yes-clause-found
returns-in_ok-set-in-Ok-Yes-clause-found c = λ set e.
    let l = c.args.level.now in
    let w = c.args.work.now in
    let J = true_places w.set in
    let minimal = c.in-Ok-Yes.ensures.yes (ap (λ o. Ok o) c.in-Ok-Yes.field-0-is) in
    let chosen : is_answer_set (with_choices (rules_at l) (lower l)) J ≡ true =
    ap (λ (rs : List GroundRule). is_answer_set (with_choices rs (lower l)) J) (sym c.rules.ensures)
    ∙ (ap (λ (xs : List ℕ). is_answer_set (with_choices c.rules.result.now xs) J) (sym c.lower.ensures) ∙ minimal) in
    let same : c.in_ok-set-in-Ok-Yes.set ≡ set = cc in
    let is : w.set ≡ set = sym c.in_ok-set-in-Ok-Yes.ensures ∙ same in (
      sym is,
      subst (λ (s : List Bool). IsFound (question_of l c.args.budget w) s) is
          (candidate-move l c.requires.ready c.args.budget w c.requires.asked c.requires.candidate chosen c.requires.met),
    )

pub exclude_unfounded-requires-clause-asked : goal.exclude_unfounded-requires-clause-asked
exclude_unfounded-requires-clause-asked c =
    let l = c.args.level.now in
    let w = c.args.work.now in
    subst (λ (b : ℕ). Asked l b w.search w.outer w.region w.ordered w.kept.items w.blocked w.set) (sym c.requires.asked.budget_is) c.requires.asked

pub exclude_unfounded-requires-clause-refuted : goal.exclude_unfounded-requires-clause-refuted
exclude_unfounded-requires-clause-refuted c =
    let l = c.args.level.now in
    let J = true_places c.args.work.now.set in
    let u = c.in-Ok-No.unfounded in
    let refutes = c.in-Ok-No.ensures.unfounded u (ap (λ o. Ok o) c.in-Ok-No.field-0-is) in
    subst (λ (xs : List ℕ). Refutes (rules_at l) xs J u) c.lower.ensures
    (subst (λ (rs : List GroundRule). Refutes rs c.lower.result.now J u) c.rules.ensures refutes)

pub returns-in_err-exclude_unfounded-in-Ok-No-clause-asked : goal.returns-in_err-exclude_unfounded-in-Ok-No-clause-asked
returns-in_err-exclude_unfounded-in-Ok-No-clause-asked c = c.exclude_unfounded.ensures.asked c.args.budget c.requires.asked

pub returns-in_ok-exclude_unfounded-in-Ok-No-clause-asked : goal.returns-in_ok-exclude_unfounded-in-Ok-No-clause-asked
returns-in_ok-exclude_unfounded-in-Ok-No-clause-asked c = c.exclude_unfounded.ensures.asked c.args.budget c.requires.asked

pub returns-in-Err-clause-spent : goal.returns-in-Err-clause-spent
returns-in-Err-clause-spent c = λ unknown e.
    let l = c.args.level.now in
    let w = c.args.work.now in
    let same : c.in-Err.give ≡ gives.Spent unknown = cc in
    let s = c.in-Err.ensures.spent unknown (ap (λ (g : Give). Err g) same) in
    let budget = c.in_ok-check.ensures.budget_is in
    let small : length (bound_atoms c.lower.result.now (true_places w.set)) ≤ length (upper l) =
    subst (λ (xs : List ℕ). length (bound_atoms xs (true_places w.set)) ≤ length (upper l)) (sym c.lower.ensures)
    (bound-small l c.requires.ready w.set c.requires.asked.set_inside) in
    spent-check l c.args.budget (length (bound_atoms c.lower.result.now (true_places w.set))) w.search c.minimal.new.search unknown
    (s.0 ∙ ap (λ (b : ℕ). unknown_of l b Minimal) budget)
    (λ a h. c.requires.candidate.found.total a (omega (arith, c.requires.asked.atoms)))
    (s.1 ∙ budget) (omega (arith, s.4, budget)) small

pub returns-in_err-check-clause-learned : goal.returns-in_err-check-clause-learned
returns-in_err-check-clause-learned c = learned-self c.args.level.now c.args.work.now.search c.args.work.now.nogoods

pub returns-in_err-set-in-Ok-Yes-clause-learned : goal.returns-in_err-set-in-Ok-Yes-clause-learned
returns-in_err-set-in-Ok-Yes-clause-learned c = learned-self c.args.level.now c.args.work.now.search c.args.work.now.nogoods

pub returns-in_ok-set-in-Ok-Yes-clause-learned : goal.returns-in_ok-set-in-Ok-Yes-clause-learned
returns-in_ok-set-in-Ok-Yes-clause-learned c = learned-self c.args.level.now c.args.work.now.search c.args.work.now.nogoods

pub returns-in-Err-clause-learned : goal.returns-in-Err-clause-learned
returns-in-Err-clause-learned c = learned-self c.args.level.now c.args.work.now.search c.args.work.now.nogoods
