-- A broken constraint that is looked for among the rules so far.
use Rattle.std.proofs.Common.{◌≡◌, refl, sym, ap, ◌∙◌, subst, ℕ, ◌+◌, ◌<◌, ◌⊎◌, inl, inr, true, false, not, List, [], length, take, Option, Some, None, arith}
use Rattle.std.specs.Prelude.{MatchOption}
use Rattle.std.specs.List.{list_all}
use Rattle.std.proofs.lemmas.Bool.{and_from}
use Rattle.std.proofs.lemmas.List.{take_all}
use Rattle.std.proofs.lemmas.List.Folds.{list_all_more}
use Rattle.asp_defs.specs.declared.ground.GroundRule.{GroundRule}
use Rattle.asp_defs.specs.Truth.{body_true}
use Rattle.asp_eval.specs.declared.broken.Broken.{Broken}
use Rattle.asp_eval.specs.Broken.{rule_at, IsBroken, AreUnbroken, Weighs}

-- what was found among the rules so far
pub record FoundSo (I : List ℕ) (rules : List GroundRule) (i : ℕ) (found : Option Broken) : Type 0 where
  pub one : (b : Broken) → found ≡ Some b → IsBroken I rules b.rule
  pub none : found ≡ None → AreUnbroken I (take i rules)

-- one more place
pub found_more : (I : List ℕ) (rules : List GroundRule) (i : ℕ) (before now : Option Broken) → i < length rules → FoundSo I rules i before → Weighs I rules i before now → FoundSo I rules (i + 1) now
found_more I rules i before now h so_far step = record {
  one = λ b e. elim (step.one b e) [
    | inl old ↦ so_far.one b old
    | inr here ↦ subst (λ (k : ℕ). IsBroken I rules k) (sym here.0) (record { inside = h; broken = here.1 })
  ];
  none = λ e.
      let parts = step.none e in
      list_all_more (λ r. not (body_true I r)) rules i (record { choice = true; head = []; pos = []; neg = [] }) h
      ∙ and_from (list_all (λ r. not (body_true I r)) (take i rules)) (not (body_true I (rule_at rules i))) (so_far.none parts.0) (ap not parts.1);
}

pub found_all : (I : List ℕ) (rules : List GroundRule) (i : ℕ) (found : Option Broken) → length rules ≡ i → FoundSo I rules i found → MatchOption found (AreUnbroken I rules) (λ b. IsBroken I rules b.rule)
found_all I rules i None h so_far = subst (λ (rs : List GroundRule). AreUnbroken I rs) (take_all i rules (omega (arith, h))) (so_far.none refl)
found_all I rules i (Some b) h so_far = so_far.one b refl

-- the body at a place is false, or it is true and one of both was taken
pub passed_by : (I : List ℕ) (rules : List GroundRule) (place : ℕ) (before now : Option Broken) → body_true I (rule_at rules place) ≡ false → now ≡ before → Weighs I rules place before now
passed_by I rules place before now h is = record {
  one = λ b e. inl (sym is ∙ e);
  none = λ e. (sym is ∙ e, h);
}

pub took : (I : List ℕ) (rules : List GroundRule) (place : ℕ) (next b : Broken) (before now : Option Broken) → body_true I (rule_at rules place) ≡ true → next.rule ≡ place → (b ≡ next) ⊎ (before ≡ Some b) → now ≡ Some b → Weighs I rules place before now
took I rules place next b before now h at (inl e) is = record {
  one = λ c k. let same : c ≡ b = cc in inr (ap (λ (x : Broken). x.rule) (same ∙ e) ∙ at, h);
  none = λ k. absurd (cc);
}
took I rules place next b before now h at (inr e) is = record {
  one = λ c k. inl (e ∙ (sym is ∙ k));
  none = λ k. absurd (cc);
}
