-- What founding tells, for an interpretation.
use Rattle.std.proofs.Common.{ℕ, ◌+◌, ◌<◌, ◌≡◌, refl, sym, ◌∙◌, ap, subst, inl, Bool, true, false, not, cond, Some, List, [], ◌∷◌, ◌++◌, length, get_or, take, arith}
use Rattle.std.specs.List.{slice_get}
use Rattle.std.proofs.lemmas.List.{length-take, take_more}
use Rattle.std.proofs.lemmas.Option.{get_or_from_slice_get}
use Rattle.asp_bits.specs.Places.{true_places}
use Rattle.asp_reduct.proofs.Truths.{ascends-true_from}
use Rattle.asp_defs.specs.declared.ground.GroundRule.{GroundRule}
use Rattle.asp_defs.specs.Interpretations.{holds}
use Rattle.asp_defs.specs.Truth.{is_model}
use Rattle.asp_defs.specs.AnswerSets.{is_answer_set}
use Rattle.asp_defs.specs.Unfounded.{is_unfounded}
use Rattle.asp_defs.proofs.Lists.{not_true, not_false, all_at, all_from}
use Rattle.asp_defs.proofs.Subsets.{true_is_not_false, holds_at, holds_from, subset-holds}
use Rattle.asp_defs.proofs.FoundedLaws.{answer_set_from_founded}
use Rattle.asp_least.specs.Founding.{AreLeft}
use Rattle.asp_minimal.specs.Choices.{with_choices, Refutes}
use Rattle.asp_minimal.specs.Settling.{AreFounded, RefutesPart}
use Rattle.asp_minimal.proofs.Choosing.{false_from, not_empty, model-with_choices, unfounded-of_rules, apart-of_choices}
use Rattle.asp_minimal.proofs.Places.{true_from-more}
use Rattle.asp_minimal.proofs.Verdicts.{part_of, bound_at, bound_from}

-- one more place
pub places_after : (values : List Bool) (k : ℕ) (x : Bool) (items : List ℕ) → k < length values → slice_get values k ≡ Some x
    → items ≡ true_places (take k values) → items ++ cond x (k ∷ []) [] ≡ true_places (take (k + 1) values)
places_after values k x items h read items_are =
    let is : get_or values k false ≡ x = get_or_from_slice_get values k x false read in
    ap (λ xs. xs ++ cond x (k ∷ []) []) items_are
    ∙ ap (λ n. true_places (take k values) ++ cond x (n ∷ []) []) (omega (arith, length-take k values))
    ∙ sym (true_from-more 0 (take k values) x)
    ∙ sym (ap true_places (take_more values k false h ∙ ap (λ b. take k values ++ b ∷ []) is))

-- where none is left, no set of the part is unfounded
pub founded-all : (G : List GroundRule) (I : List ℕ) (part left : List Bool) → AreLeft G I part left → ((a : ℕ) → holds (true_places left) a ≡ false)
    → AreFounded G I (true_places part)
founded-all G I part left are none = record { each = λ U a within inside. are.founded U within a inside (none a) }

-- a part that no rule supports
pub refutes-part : (G : List GroundRule) (I : List ℕ) (part : List Bool) (a : ℕ) → holds (true_places part) a ≡ true
    → is_unfounded G I (true_places part) ≡ true → RefutesPart G I (true_places part) (true_places part)
refutes-part G I part a some unfounded = record {
  some = not_empty (true_places part) a (holds_at (true_places part) a some);
  ordered = ascends-true_from 0 part;
  inside = λ b h. h;
  unfounded = unfounded;
}

-- what refutes a part refutes each larger one
pub refutes-larger : (G : List GroundRule) (I K L U : List ℕ) → ((a : ℕ) → holds K a ≡ true → holds L a ≡ true) → RefutesPart G I K U → RefutesPart G I L U
refutes-larger G I K L U within h = record {
  some = h.some;
  ordered = h.ordered;
  inside = λ a i. within a (h.inside a i);
  unfounded = h.unfounded;
}

-- an unfounded set of the bound part refutes the interpretation
pub refutes_from_part : (G : List GroundRule) (free : List ℕ) (values part : List Bool) (U : List ℕ) → part ≡ part_of values free
    → RefutesPart G (true_places values) (true_places part) U → Refutes G free (true_places values) U
refutes_from_part G free values part U part_is h =
    let at : (a : ℕ) → holds U a ≡ true → (holds (true_places values) a ≡ true) × (holds free a ≡ false) = λ a i.
    bound_at values free a (subst (λ (p : List Bool). holds (true_places p) a ≡ true) part_is (h.inside a i)) in
    record {
      some = h.some;
      ordered = h.ordered;
      inside = all_from (holds (true_places values)) U (λ a i. (at a (holds_from U a i)).0);
      bound = all_from (λ a. not (holds free a)) U (λ a i. not_false _ ((at a (holds_from U a i)).1));
      unfounded = h.unfounded;
    }

-- where no set of the bound part is unfounded, a model is an answer set
pub answer_set_when_founded : (G : List GroundRule) (free : List ℕ) (values part : List Bool) → part ≡ part_of values free → is_model (true_places values) G ≡ true
    → AreFounded G (true_places values) (true_places part) → is_answer_set (with_choices G free) (true_places values) ≡ true
answer_set_when_founded G free values part part_is model founded =
    let I = true_places values in
    answer_set_from_founded (with_choices G free) I (ascends-true_from 0 values) (model-with_choices G free I model) (λ a U member.
    false_from (is_unfounded (with_choices G free) I (a ∷ U)) (λ unfounded.
    true_is_not_false _
    (unfounded-of_rules G free I (a ∷ U) unfounded)
    (founded.each (a ∷ U) a
    (λ b inside.
    subst (λ (p : List Bool). holds (true_places p) b ≡ true) (sym part_is)
    (bound_from values free b (subset-holds I (a ∷ U) b member inside)
    (not_true _ (all_at (λ c. not (holds free c)) (a ∷ U) b (apart-of_choices G free I (a ∷ U) unfounded) (holds_at (a ∷ U) b inside)))))
    (holds_from (a ∷ U) a (inl refl)))))
