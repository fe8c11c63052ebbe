-- Unfounded sets of rules with free choices, and what they refute.
use Rattle.std.proofs.Common.{ℕ, ◌≡◌, refl, sym, ◌∙◌, ap, subst, inl, inr, Bool, true, false, not, ◌&&◌, ◌⊎◌, List, [], ◌∷◌, map}
use Rattle.std.specs.List.{filter}
use Rattle.asp_defs.specs.declared.ground.GroundRule.{GroundRule}
use Rattle.asp_defs.specs.Lists.{IsIn, is_empty}
use Rattle.asp_defs.specs.Interpretations.{holds, subsets}
use Rattle.asp_defs.specs.Truth.{satisfies, is_model}
use Rattle.asp_defs.specs.AnswerSets.{is_answer_set}
use Rattle.asp_defs.specs.Unfounded.{supports, is_unfounded}
use Rattle.asp_defs.proofs.Lists.{both, or_left, true_or_false, not_true, not_false, all_at, all_from, any_at, any_from, filter_at, filter_from, append_at, append_left, append_right, map_at, map_from}
use Rattle.asp_defs.proofs.Subsets.{true_is_not_false, holds_at, holds_from, filter-subset}
use Rattle.asp_defs.proofs.FoundedLaws.{Support, supports_at, supports_from, closed_at, founded_from_minimal}
use Rattle.asp_minimal.specs.Choices.{free_choice, with_choices, is_apart}

-- a rule of a program with free choices is one of the program or a choice on one of the atoms
pub with_choices_at : (G : List GroundRule) (F : List ℕ) (r : GroundRule) → IsIn r (with_choices G F) → IsIn r G ⊎ ((a : ℕ) × IsIn a F × (r ≡ free_choice a))
with_choices_at G F r i = elim (append_at G (map free_choice F) r i) [ inl h ↦ inl h | inr h ↦ inr (map_at free_choice F r h) ]

-- a model of the program is one with free choices
pub model-with_choices : (G : List GroundRule) (F I : List ℕ) → is_model I G ≡ true → is_model I (with_choices G F) ≡ true
model-with_choices G F I model = all_from (satisfies I) (with_choices G F) (λ r i.
    elim (with_choices_at G F r i) [
      | inl h ↦ all_at (satisfies I) G r model h
      | inr h ↦ subst (λ (q : GroundRule). satisfies I q ≡ true) (sym h.2) refl
    ])

-- what the set's atoms are decides whether a rule supports it
pub support-same : (I U V : List ℕ) (r : GroundRule) → ((a : ℕ) → holds U a ≡ holds V a) → Support I U r → Support I V r
support-same I U V r same s =
    let hit = any_at (holds U) r.head s.head in
    record {
      head = any_from (holds V) r.head hit.0 hit.1 (sym (same hit.0) ∙ hit.2);
      pos = s.pos;
      neg = s.neg;
      free = all_from (λ a. not (holds V a)) r.pos (λ a i.
          not_false _ (sym (same a) ∙ not_true _ (all_at (λ a. not (holds U a)) r.pos a s.free i)));
      closed = all_from (λ a. not (holds I a && not (holds V a))) r.head (λ a i.
          elim (true_or_false (holds I a && not (holds V a))) [
            | inl free ↦
                let parts = both (holds I a) (not (holds V a)) free in
                absurd (true_is_not_false _ (sym (same a) ∙ closed_at I U r a s.closed i parts.0) (not_true _ parts.1))
            | inr fails ↦ not_false _ fails
          ]);
    }

-- a test that is true only where something absurd is, is false
pub false_from : (b : Bool) → (b ≡ true → ⊥) → b ≡ false
false_from true h = absurd (h refl)
false_from false h = refl

-- a free choice supports no set without its atom
pub choice-unsupported : (I U : List ℕ) (a : ℕ) → holds U a ≡ false → Support I U (free_choice a) → ⊥
choice-unsupported I U a outside s =
    let hit = any_at (holds U) (a ∷ []) s.head in
    elim hit.1 [
      | inl e ↦ true_is_not_false _ (subst (λ (x : ℕ). holds U x ≡ true) e hit.2) outside
      | inr none ↦ absurd none
    ]

-- and supports each set with its atom
pub choice-supported : (I U : List ℕ) (a : ℕ) → holds U a ≡ true → Support I U (free_choice a)
choice-supported I U a inside = record {
  head = or_left (holds U a) false inside;
  pos = refl;
  neg = refl;
  free = refl;
  closed = all_from (λ b. not (holds I b && not (holds U b))) (a ∷ []) (λ b i.
      elim i [
        | inl e ↦ go (holds I b) (holds U b) (subst (λ (x : ℕ). holds U x ≡ true) (sym e) inside)
        | inr none ↦ absurd none
      ]);
}
  where
    go : (i u : Bool) → u ≡ true → not (i && not u) ≡ true
    go true true h = refl
    go true false h = absurd (cc)
    go false u h = refl

-- a set that is unfounded and has no free atom is unfounded with the free choices
pub unfounded-with_choices : (G : List GroundRule) (F I U : List ℕ) → is_unfounded G I U ≡ true → is_apart U F ≡ true → is_unfounded (with_choices G F) I U ≡ true
unfounded-with_choices G F I U unfounded apart = all_from (λ r. not (supports I U r)) (with_choices G F) (λ r i.
    elim (with_choices_at G F r i) [
      | inl h ↦ all_at (λ r. not (supports I U r)) G r unfounded h
      | inr h ↦
          not_false _ (false_from (supports I U r) (λ supported.
          let outside : holds U h.0 ≡ false = false_from (holds U h.0) (λ inside.
          true_is_not_false _ (holds_from F h.0 h.1) (not_true _ (all_at (λ a. not (holds F a)) U h.0 apart (holds_at U h.0 inside)))) in
          choice-unsupported I U h.0 outside (supports_at I U (free_choice h.0) (subst (λ (q : GroundRule). supports I U q ≡ true) h.2 supported))))
    ])

-- and the other way round
pub unfounded-of_rules : (G : List GroundRule) (F I U : List ℕ) → is_unfounded (with_choices G F) I U ≡ true → is_unfounded G I U ≡ true
unfounded-of_rules G F I U unfounded = all_from (λ r. not (supports I U r)) G (λ r i.
    all_at (λ r. not (supports I U r)) (with_choices G F) r unfounded (append_left G (map free_choice F) r i))

pub apart-of_choices : (G : List GroundRule) (F I U : List ℕ) → is_unfounded (with_choices G F) I U ≡ true → is_apart U F ≡ true
apart-of_choices G F I U unfounded = all_from (λ a. not (holds F a)) U (λ a i.
    not_false _ (false_from (holds F a) (λ free.
    true_is_not_false _
    (supports_from I U (free_choice a) (choice-supported I U a (holds_from U a i)))
    (not_true _ (all_at (λ r. not (supports I U r)) (with_choices G F) (free_choice a) unfounded
    (append_right G (map free_choice F) (free_choice a) (map_from free_choice F a (holds_at F a free))))))))

-- the members of a set in the order of an interpretation that has them
pub holds-filter : (I U : List ℕ) → ((a : ℕ) → holds U a ≡ true → holds I a ≡ true) → (a : ℕ) → holds U a ≡ holds (filter (holds U) I) a
holds-filter I U inside a = elim (true_or_false (holds U a)) [
  | inl h ↦ h ∙ sym (holds_from (filter (holds U) I) a (filter_from (holds U) I a (holds_at I a (inside a h)) h))
  | inr h ↦
      h ∙ sym (false_from (holds (filter (holds U) I) a) (λ there.
      true_is_not_false _ ((filter_at (holds U) I a (holds_at (filter (holds U) I) a there)).1) h))
]

-- a set that isn't empty has a member
pub some_member : (U : List ℕ) → is_empty U ≡ false → (a : ℕ) × IsIn a U
some_member [] h = absurd (cc)
some_member (a ∷ U) h = (a, inl refl)

-- a list with a member isn't empty
pub not_empty : (U : List ℕ) (a : ℕ) → IsIn a U → is_empty U ≡ false
not_empty [] a i = absurd i
not_empty (b ∷ U) a i = refl

-- an interpretation with an unfounded set that has no free atom is no answer set
pub refuted : (G : List GroundRule) (F I U : List ℕ) → is_empty U ≡ false → ((a : ℕ) → holds U a ≡ true → holds I a ≡ true) → is_apart U F ≡ true → is_unfounded G I U ≡ true → is_answer_set (with_choices G F) I ≡ false
refuted G F I U some inside apart unfounded =
    false_from (is_answer_set (with_choices G F) I) (λ answer. go answer (filter (holds U) I) refl)
  where
    same : (a : ℕ) → holds U a ≡ holds (filter (holds U) I) a
    same a = holds-filter I U inside a

    ordered : is_unfounded (with_choices G F) I (filter (holds U) I) ≡ true
    ordered = all_from (λ r. not (supports I (filter (holds U) I) r)) (with_choices G F) (λ r i.
        not_false _ (false_from (supports I (filter (holds U) I) r) (λ supported.
        true_is_not_false _
        (supports_from I U r (support-same I (filter (holds U) I) U r (λ a. sym (same a)) (supports_at I (filter (holds U) I) r supported)))
        (not_true _ (all_at (λ r. not (supports I U r)) (with_choices G F) r (unfounded-with_choices G F I U unfounded apart) i)))))

    go : is_answer_set (with_choices G F) I ≡ true → (V : List ℕ) → filter (holds U) I ≡ V → ⊥
    go answer [] e =
        let member = some_member U some in
        true_is_not_false _ (sym (same member.0) ∙ holds_from U member.0 member.1) (ap (λ (V : List ℕ). holds V member.0) e)
    go answer (a ∷ V) e =
        true_is_not_false _
        (subst (λ (W : List ℕ). is_unfounded (with_choices G F) I W ≡ true) e ordered)
        (founded_from_minimal (with_choices G F) I a V answer
        (subst (λ (W : List ℕ). IsIn W (subsets I)) e (filter-subset (holds U) I)))
