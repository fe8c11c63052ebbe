-- Behind the last level an outer move is its own only move, and it is one where it breaks no constraint: an atom that the
-- constraint part alone has is unfounded.
use Rattle.std.proofs.Common.{ℕ, ◌+◌, ◌-◌, ◌≤◌, ◌≡◌, refl, sym, ◌∙◌, ap, subst, inl, inr, Bool, true, not, List, [], ◌∷◌, ◌++◌, drop, arith}
use Rattle.std.proofs.lemmas.List.{drop_all}
use Rattle.std.specs.List.{list_any, list_all}
use Rattle.asp_defs.specs.declared.ground.GroundRule.{GroundRule}
use Rattle.asp_defs.specs.declared.ground.Bound.{Bound}
use Rattle.asp_defs.specs.declared.ground.Game.{Game}
use Rattle.asp_defs.specs.declared.syntax.Quant.{Quant}
use Rattle.asp_defs.specs.Lists.{IsIn, is_empty}
use Rattle.asp_defs.specs.Interpretations.{holds, subsets}
use Rattle.asp_defs.specs.Truth.{satisfies, is_model}
use Rattle.asp_defs.specs.Bounds.{meets_all}
use Rattle.asp_defs.specs.AnswerSets.{is_answer_set}
use Rattle.asp_defs.specs.Unfounded.{supports}
use Rattle.asp_defs.specs.Games.{level_count, base, rules_of, bounds_of, ascends, is_constraint, IsValid}
use Rattle.asp_defs.specs.Values.{fact, fix, moves, value_from}
use Rattle.asp_defs.specs.Laws.{ConstraintsDecide}
use Rattle.asp_defs.proofs.Lists.{both, true_or_false, not_false, all_at, all_from, append_at, append_left, append_right}
use Rattle.asp_defs.proofs.Subsets.{true_is_not_false, holds_at, holds_from, subset-member, subset_full}
use Rattle.asp_defs.proofs.AnswerSetLaws.{answer_set-satisfies}
use Rattle.asp_defs.proofs.FoundedLaws.{supports_at, all_false, founded_from_minimal, answer_set_from_founded}
use Rattle.asp_defs.proofs.CellLaws.{subset_from}
use Rattle.asp_defs.proofs.Fixing.{same_test, subset-ascends, Fixes, is_fact, is_denial, fixes_at, fact_from, fact-says, fact-says_from, denial-says_from, fact-supports, supported, answer-agrees, move-answer, move_from}
use Rattle.asp_defs.proofs.Irrelevance.{base-up, base-next, some_move, some_move_from}

-- a member alone is a subset
single-subset : (I : List ℕ) (a : ℕ) → ascends I ≡ true → IsIn a I → IsIn (a ∷ []) (subsets I)
single-subset I a up i = subset_from I (a ∷ []) up refl (λ b j. elim j [ inl same ↦ subst (λ (c : ℕ). IsIn c I) (sym same) i | inr none ↦ absurd none ])

empty_has_none : (heads : List ℕ) (p : ℕ → Bool) → is_empty heads ≡ true → list_any p heads ≡ true → ⊥
empty_has_none [] p none h = cc
empty_has_none (a ∷ heads) p none h = cc

-- a rule that supports an atom, of constraints and of rules that fix an outer move, is the fact of it
supports-fact : (C : List GroundRule) (B M N : List ℕ) (a : ℕ) (r : GroundRule) → list_all is_constraint C ≡ true → IsIn r (C ++ fix B M) → list_any (holds (a ∷ [])) r.head ≡ true → IsIn a M
supports-fact C B M N a r plain member head = elim (append_at C (fix B M) r member) [
  | inl constraint ↦
      absurd (empty_has_none r.head (holds (a ∷ [])) ((both (not r.choice) (is_empty r.head) (all_at is_constraint C r plain constraint)).1) head)
  | inr fixing ↦ go (fixes_at B M r fixing)
]
  where
    go : Fixes B M r → IsIn a M
    go (is_fact b inside same) =
        let hit : holds (a ∷ []) b ≡ true = fact-says (holds (a ∷ []) b) (subst (λ (q : GroundRule). list_any (holds (a ∷ [])) q.head ≡ true) same head) in
        elim (holds_at (a ∷ []) b hit) [ inl is_it ↦ subst (λ (c : ℕ). IsIn c M) is_it inside | inr none ↦ absurd none ]
    go (is_denial b lower outside same) =
        absurd (true_is_not_false _ (subst (λ (q : GroundRule). list_any (holds (a ∷ [])) q.head ≡ true) same head) refl)

-- each atom of an answer set of constraints with an outer move fixed is one of that move
answer-inside : (C : List GroundRule) (B M N : List ℕ) (a : ℕ) → list_all is_constraint C ≡ true → ascends N ≡ true → is_answer_set (C ++ fix B M) N ≡ true → IsIn a N → IsIn a M
answer-inside C B M N a plain up answer i =
    let found = all_false (λ r. not (supports N (a ∷ []) r)) (C ++ fix B M) (founded_from_minimal (C ++ fix B M) N a [] answer (single-subset N a up i)) in
    let support : supports N (a ∷ []) found.0 ≡ true = elim (true_or_false (supports N (a ∷ []) found.0)) [
      | inl it_does ↦ it_does
      | inr fails ↦ absurd (true_is_not_false _ (not_false _ fails) found.2)
    ] in
    supports-fact C B M N a found.0 plain found.1 ((supports_at N (a ∷ []) found.0 support).head)

-- so it is that move
answer-is_move : (C : List GroundRule) (B M N : List ℕ) → list_all is_constraint C ≡ true → ascends M ≡ true → ascends N ≡ true → ((a : ℕ) → IsIn a M → IsIn a B) → is_answer_set (C ++ fix B M) N ≡ true → M ≡ N
answer-is_move C B M N plain upM upN inside answer =
    subset_full N M upN
    (subset_from N M upN upM (λ a i. holds_at N a (answer-agrees C B M N answer a (inside a i) ∙ holds_from M a i)))
    (λ a i. answer-inside C B M N a plain upN answer i)

-- and it is an answer set where it breaks no constraint
move-is_answer : (C : List GroundRule) (B M : List ℕ) → ascends M ≡ true → is_model M C ≡ true → is_answer_set (C ++ fix B M) M ≡ true
move-is_answer C B M up model =
    answer_set_from_founded (C ++ fix B M) M up
    (all_from (satisfies M) (C ++ fix B M) (λ r i.
    elim (append_at C (fix B M) r i) [
      | inl constraint ↦ all_at (satisfies M) C r model constraint
      | inr fixing ↦ elim (fixes_at B M r fixing) [
        | is_fact a inside same ↦ rw same (fact-says_from (holds M a) (holds_from M a inside))
        | is_denial a lower outside same ↦ rw same (denial-says_from (holds M a) outside)
      ]
    ]))
    (λ u U i.
    supported (C ++ fix B M) M (u ∷ U) (fact u) (append_right C (fix B M) (fact u) (fact_from B M u (subset-member M (u ∷ U) u i (inl refl))))
    (fact-supports M (u ∷ U) u (holds_from (u ∷ U) u (inl refl))))

-- a level of constraints without bounds
constraint-moves : (g : Game) (i : ℕ) (M : List ℕ) → IsValid g → 1 ≤ i → i ≤ level_count g + 1 → list_all is_constraint (rules_of g i) ≡ true → bounds_of g i ≡ [] → IsIn M (subsets (base g (i - 1))) → not (is_empty (moves g i M)) ≡ is_model M (rules_of g i)
constraint-moves g i M valid first last plain unbounded inside =
    let C = rules_of g i in
    let B = base g (i - 1) in
    let upM : ascends M ≡ true = subset-ascends B M (base-up g (i - 1) valid) inside in
    same_test (not (is_empty (moves g i M))) (is_model M C)
    (λ h.
    let found = some_move (moves g i M) h in
    let N = found.0 in
    let parts = move-answer g i M N found.1 in
    let upN : ascends N ≡ true = subset-ascends (base g i) N (base-up g i valid) parts.0 in
    let same : M ≡ N = answer-is_move C B M N plain upM upN (λ a. subset-member B M a inside) parts.1 in
    let model : is_model N (C ++ fix B M) ≡ true = answer_set-satisfies (C ++ fix B M) N parts.1 in
    all_from (satisfies M) C (λ r j.
    subst (λ (I : List ℕ). satisfies I r ≡ true) (sym same) (all_at (satisfies N) (C ++ fix B M) r model (append_left C (fix B M) r j))))
    (λ model.
    let upper : IsIn M (subsets (base g i)) =
    subset_from (base g i) M (base-up g i valid) upM (λ a j. base-next g i valid first last a (subset-member B M a inside j)) in
    some_move_from (moves g i M) M (move_from g i M M upper (move-is_answer C B M upM model) (subst (λ (bounds : List Bound). meets_all M bounds ≡ true) (sym unbounded) refl)))

pub constraints_decide : ConstraintsDecide
constraints_decide g M valid inside =
    let n = level_count g in
    let back : n + 1 - 1 ≡ n = omega arith in
    let none : drop (n + 1 - 1) g.quants ≡ [] = ap (λ (k : ℕ). drop k g.quants) back ∙ drop_all n g.quants (omega arith) in
    let lower : IsIn M (subsets (base g (n + 1 - 1))) = subst (λ (k : ℕ). IsIn M (subsets (base g k))) (sym back) inside in
    ap (λ (quants : List Quant). value_from g quants (n + 1) M) none
    ∙ constraint-moves g (n + 1) M valid (omega arith) (omega arith) valid.constraints valid.unbounded lower
