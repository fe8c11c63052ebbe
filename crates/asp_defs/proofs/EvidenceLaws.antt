-- What evidence shows is right, and a verdict has evidence.
use Rattle.std.proofs.Common.{ℕ, ◌-◌, ◌≡◌, refl, sym, ap, subst, inl, inr, Bool, true, false, ◌&&◌, List, [], ◌∷◌, ◌++◌, append-nil}
use Rattle.std.specs.Prelude.{◌==◌, Some}
use Rattle.std.proofs.lemmas.Bool.{eqb-true, eq-eqb}
use Rattle.asp_defs.specs.declared.ground.Game.{Game}
use Rattle.asp_defs.specs.declared.syntax.Program.{Program}
use Rattle.asp_defs.specs.Lists.{IsIn}
use Rattle.asp_defs.specs.Interpretations.{subsets}
use Rattle.asp_defs.specs.Games.{game_of, base, IsValid}
use Rattle.asp_defs.specs.Values.{is_coherent}
use Rattle.asp_defs.specs.Entries.{Entry, cube_holds}
use Rattle.asp_defs.specs.History.{agrees, has_verdict, is_held_with, is_legal}
use Rattle.asp_defs.specs.Words.{Tuning, SolveTask}
use Rattle.asp_defs.specs.Sets.{verdict_line}
use Rattle.asp_defs.specs.Runs.{Ending, verdict_code}
use Rattle.asp_defs.specs.Shown.{Evidence, VerdictClaim}
use Rattle.asp_defs.specs.Laws.{ShownVerdictsAreRight, ShownSetsAreRight, VerdictsHaveEvidence}
use Rattle.asp_defs.proofs.Lists.{both, and_true, any_at, any_from, append_right}
use Rattle.asp_defs.proofs.HistoryLaws.{agrees_from, held-value, legal_is_sound}
use Rattle.asp_defs.proofs.CellLaws.{Formed, follow-formed}
use Rattle.asp_defs.proofs.ShownLaws.{values_are_shown}

-- ---- what is shown is right

-- the one subset of nothing
only_nothing : (I : List ℕ) → IsIn I (subsets []) → I ≡ []
only_nothing I (inl same) = same
only_nothing I (inr other) = absurd other

-- an entry of level 1 of a legal history holds the empty move
holds_nothing : (g : Game) (e : Entry) → IsValid g → Formed g e → e.level ≡ 1 → cube_holds e.cube [] ≡ true
holds_nothing g e valid f first =
    let lies : IsIn e.seed (subsets (base g 0)) = subst (λ (l : ℕ). IsIn e.seed (subsets (base g (l - 1)))) first f.seed in
    let none : e.seed ≡ [] = only_nothing e.seed (subst (λ (B : List ℕ). IsIn e.seed (subsets B)) valid.first_base lies) in
    subst (λ (I : List ℕ). cube_holds e.cube I ≡ true) none f.holds_seed

verdict-held : (g : Game) (H : List Entry) (verdict : Bool) → IsValid g → is_legal g H ≡ true → has_verdict H verdict ≡ true → is_held_with H 1 verdict [] ≡ true
verdict-held g H verdict valid legal has =
    let found = any_at (λ e. (e.level == 1) && agrees e.verdict verdict) H has in
    let e = found.0 in
    let parts = both (e.level == 1) (agrees e.verdict verdict) found.2 in
    let first : e.level ≡ 1 = eqb-true e.level 1 parts.0 in
    let holds_it : cube_holds e.cube [] ≡ true = holds_nothing g e valid (follow-formed g [] H valid legal e found.1) first in
    any_from (λ e. (e.level == 1) && (agrees e.verdict verdict && cube_holds e.cube [])) H e found.1
    (and_true (e.level == 1) (agrees e.verdict verdict && cube_holds e.cube []) parts.0
    (and_true (agrees e.verdict verdict) (cube_holds e.cube []) parts.1 holds_it))

pub shown_verdicts_are_right : ShownVerdictsAreRight
shown_verdicts_are_right used verdict valid h =
    let g = used.game in
    let parts = both (is_legal g used.history) (has_verdict used.history verdict) h in
    let root : IsIn [] (subsets (base g 0)) = subst (λ (B : List ℕ). IsIn [] (subsets B)) (sym valid.first_base) (inl refl) in
    held-value g used.history 1 verdict [] (legal_is_sound g used.history parts.0) root
    (verdict-held g used.history verdict valid parts.0 parts.1)

pub shown_sets_are_right : ShownSetsAreRight
shown_sets_are_right used N inside h =
    let parts = both (is_legal used.game used.history) (is_held_with used.history 2 true N) h in
    held-value used.game used.history 2 true N (legal_is_sound used.game used.history parts.0) inside parts.1

-- ---- a verdict has evidence

-- an entry of level 1 at the end of a history is one of it
ends_with : (H : List Entry) (e : Entry) (verdict : Bool) → e.level ≡ 1 → e.verdict ≡ verdict → has_verdict (H ++ (e ∷ [])) verdict ≡ true
ends_with H e verdict first same =
    any_from (λ e. (e.level == 1) && agrees e.verdict verdict) (H ++ (e ∷ [])) e (append_right H (e ∷ []) e (inl refl))
    (and_true (e.level == 1) (agrees e.verdict verdict) (eq-eqb e.level 1 first) (agrees_from e.verdict verdict same))

abbrev with_output : ℕ → List ℕ → Ending
with_output code output = record { code = code; output = output }

abbrev evidence_of : Tuning → Program → List Entry → Evidence
evidence_of tuning p H = record {
  game = game_of p;
  budget = tuning.budget;
  allowed = tuning.cells;
  history = H;
  searches = [];
  checks = [];
  refusals = [];
}

pub verdicts_have_evidence : VerdictsHaveEvidence
verdicts_have_evidence words bytes tuning p asked text valid =
    let g = game_of p in
    let verdict = is_coherent g in
    let history = values_are_shown g valid in
    let H = history.0 ++ (history.1 ∷ []) in (
      evidence_of tuning p H,
      record {
        task = SolveTask tuning false;
        program = p;
        claim = VerdictClaim verdict;
        asked = asked;
        accepted = text;
        same_game = refl;
        same_budget = refl;
        same_cells = refl;
        legal = history.2;
        said =
            ap (λ (output : List ℕ). Some (with_output (verdict_code verdict) output)) (append-nil (verdict_line verdict));
        shown = and_true (is_legal g H) (has_verdict H verdict) history.2 (ends_with history.0 history.1 verdict history.3 history.4);
      },
    )
