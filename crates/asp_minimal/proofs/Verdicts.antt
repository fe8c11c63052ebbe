-- What an assignment that the search finds refutes, and what it means that there is none.
use Rattle.std.proofs.Common.{ℕ, zero, suc, ◌≡◌, refl, sym, ◌∙◌, ap, subst, inl, inr, Bool, true, false, not, ◌&&◌, ◌||◌, List, [], ◌∷◌, get_or, map, Option, None, arith}
use Rattle.std.specs.List.{list_any, list_all}
use Rattle.std.proofs.lemmas.Bool.{or_left, or_right}
use Rattle.asp_bits.specs.Places.{true_places}
use Rattle.asp_reduct.proofs.Truths.{holds-true_places, ascends-true_from}
use Rattle.asp_defs.specs.declared.ground.GroundRule.{GroundRule}
use Rattle.asp_defs.specs.Interpretations.{holds}
use Rattle.asp_defs.specs.Truth.{is_model}
use Rattle.asp_defs.specs.AnswerSets.{is_answer_set}
use Rattle.asp_defs.specs.Unfounded.{supports, is_unfounded}
use Rattle.asp_defs.proofs.Lists.{both, and_true, true_or_false, not_true, not_false, all_at, all_from}
use Rattle.asp_defs.proofs.Subsets.{true_is_not_false, holds_at, holds_from, subset-holds}
use Rattle.asp_defs.proofs.FoundedLaws.{supports_at, answer_set_from_founded}
use Rattle.asp_minimal.specs.Choices.{with_choices, Refutes}
use Rattle.asp_minimal.specs.Numbers.{written, numbers_from, number_at, leaves, remains, leaving_places}
use Rattle.asp_search.specs.Meaning.{SameMeaning}
use Rattle.asp_search.specs.Cores.{IsCore}
use Rattle.asp_search.specs.Found.{assignment_of}
use Rattle.asp_search.specs.State.{SearchState, IsFound}
use Rattle.asp_minimal.specs.Demands.{allows, Demands}
use Rattle.asp_minimal.proofs.Choosing.{false_from, not_empty, refuted, model-with_choices, unfounded-of_rules, apart-of_choices}
use Rattle.asp_minimal.proofs.Leaving.{Splits, no_support, allowed}
use Rattle.asp_minimal.proofs.Stating.{found_meets, core_refutes}
use Rattle.asp_minimal.proofs.Places.{bound-at, numbers_from-at, numbers_from-some, numbers_from-none, holds-leaving}

-- the interpretation, its bound part, and the numbers of the part's atoms
abbrev pub part_of : List Bool → List ℕ → List Bool
part_of values free = written false values free

abbrev pub numbers_of : List Bool → List ℕ → List (Option ℕ)
numbers_of values free = numbers_from 0 (part_of values free)

-- an atom of the part is true and not free, and the other way round
pub bound-holds : (values : List Bool) (free : List ℕ) (a : ℕ) → holds (true_places (part_of values free)) a ≡ holds (true_places values) a && not (holds free a)
bound-holds values free a =
    holds-true_places (part_of values free) a ∙ bound-at values free a
    ∙ ap (λ t. t && not (holds free a)) (sym (holds-true_places values a))

pub bound_at : (values : List Bool) (free : List ℕ) (a : ℕ) → holds (true_places (part_of values free)) a ≡ true → (holds (true_places values) a ≡ true) × (holds free a ≡ false)
bound_at values free a h =
    let parts = both (holds (true_places values) a) (not (holds free a)) (sym (bound-holds values free a) ∙ h)
    in (parts.0, not_true _ parts.1)

pub bound_from : (values : List Bool) (free : List ℕ) (a : ℕ) → holds (true_places values) a ≡ true → holds free a ≡ false → holds (true_places (part_of values free)) a ≡ true
bound_from values free a inside outside =
    bound-holds values free a ∙ and_true (holds (true_places values) a) (not (holds free a)) inside (not_false _ outside)

-- an assignment splits the part's atoms
pub splits : (part : List Bool) (v : ℕ → Bool)
    → Splits (true_places part) (λ a. leaves v (number_at (numbers_from 0 part) a)) (λ a. remains v (number_at (numbers_from 0 part) a))
splits part v = record {
  outside = λ a h.
      let none : number_at (numbers_from 0 part) a ≡ None = numbers_from-none 0 part a (sym (holds-true_places part a) ∙ h)
      in (ap (leaves v) none, ap (remains v) none);
  inside = λ a h.
      let some = numbers_from-some 0 part a (sym (holds-true_places part a) ∙ h) in
      ap (remains v) some.1 ∙ twice (v some.0) ∙ sym (ap (λ o. not (leaves v o)) some.1);
}
  where
    twice : (b : Bool) → b ≡ not (not b)
    twice true = refl
    twice false = refl

-- an atom that leaves is one of the part
pub leaving_bound : (part : List Bool) (v : ℕ → Bool) (a : ℕ) → holds (leaving_places v (numbers_from 0 part)) a ≡ true → holds (true_places part) a ≡ true
leaving_bound part v a h = elim (true_or_false (holds (true_places part) a)) [
  | inl k ↦ k
  | inr n ↦ absurd (true_is_not_false _ (sym (holds-leaving v (numbers_from 0 part) a) ∙ h) (((splits part v).outside a n).0))
]

-- some number leaves exactly where some atom does
number_index : (v : ℕ → Bool) (numbers : List (Option ℕ)) → list_any (leaves v) numbers ≡ true → (a : ℕ) × (leaves v (number_at numbers a) ≡ true)
number_index v [] h = absurd (cc)
number_index v (o ∷ numbers) h = elim (true_or_false (leaves v o)) [
  | inl e ↦ (0, e)
  | inr n ↦
      let more = number_index v numbers (subst (λ (b : Bool). b || list_any (leaves v) numbers ≡ true) n h)
      in (suc more.0, more.1)
]

number_from_index : (v : ℕ → Bool) (numbers : List (Option ℕ)) (a : ℕ) → leaves v (number_at numbers a) ≡ true → list_any (leaves v) numbers ≡ true
number_from_index v [] a h = absurd (cc)
number_from_index v (o ∷ numbers) zero h = or_left (leaves v o) (list_any (leaves v) numbers) h
number_from_index v (o ∷ numbers) (suc a) h = or_right (leaves v o) (list_any (leaves v) numbers) (number_from_index v numbers a h)

-- what leaves in an assignment that meets all demands refutes the interpretation
pub refutes_from_found : (G : List GroundRule) (free : List ℕ) (values : List Bool) (v : ℕ → Bool)
    → list_any (leaves v) (numbers_of values free)
    && list_all (allows (true_places values) (true_places (part_of values free)) (numbers_of values free) v) G ≡ true
    → Refutes G free (true_places values) (leaving_places v (numbers_of values free))
refutes_from_found G free values v h =
    let I = true_places values in
    let K = true_places (part_of values free) in
    let numbers = numbers_of values free in
    let U = leaving_places v numbers in
    let parts = both (list_any (leaves v) numbers) (list_all (allows I K numbers v) G) h in
    let one = number_index v numbers parts.0 in
    record {
      some = not_empty U one.0 (holds_at U one.0 (holds-leaving v numbers one.0 ∙ one.1));
      ordered = ascends-true_from 0 (map (leaves v) numbers);
      inside = all_from (holds I) U (λ a i. (bound_at values free a (leaving_bound (part_of values free) v a (holds_from U a i))).0);
      bound = all_from (λ a. not (holds free a)) U (λ a i.
          not_false _ ((bound_at values free a (leaving_bound (part_of values free) v a (holds_from U a i))).1));
      unfounded = all_from (λ r. not (supports I U r)) G (λ r i.
          not_false _ (false_from (supports I U r) (λ supported.
          no_support I K U (λ a. leaves v (number_at numbers a)) (λ a. remains v (number_at numbers a)) r
          (splits (part_of values free) v) (holds-leaving v numbers) (λ a k. (bound_at values free a k).0)
          (all_at (allows I K numbers v) G r parts.1 i) (supports_at I U r supported))));
    }

-- what refutes an interpretation shows that it is no answer set
pub not_answer_set : (G : List GroundRule) (free I U : List ℕ) → Refutes G free I U → is_answer_set (with_choices G free) I ≡ false
not_answer_set G free I U h =
    refuted G free I U h.some
    (λ a inside. all_at (holds I) U a h.inside (holds_at U a inside))
    h.bound h.unfounded

-- the assignment in which a set leaves
abbrev pub leaving_of : List ℕ → List ℕ → ℕ → Bool
leaving_of K U n = not (holds U (get_or K n 0))

-- in it the set's atoms are those that leave
pub leaving_of-at : (values : List Bool) (free U : List ℕ)
    → ((a : ℕ) → holds U a ≡ true → holds (true_places (part_of values free)) a ≡ true)
    → (a : ℕ) → holds U a ≡ leaves (leaving_of (true_places (part_of values free)) U) (number_at (numbers_of values free) a)
leaving_of-at values free U inside a =
    let part = part_of values free in
    let K = true_places part in
    elim (true_or_false (holds K a)) [
      | inl k ↦
          let some = numbers_from-some 0 part a (sym (holds-true_places part a) ∙ k) in
          let at = numbers_from-at 0 0 part a some.0 some.1 in
          let same : some.0 ≡ at.0 = omega (arith, at.2) in
          let is : get_or K some.0 0 ≡ a = ap (λ n. get_or K n 0) same ∙ at.3 ∙ omega arith in
          twice (holds U a) ∙ ap (λ b. not (not (holds U b))) (sym is) ∙ ap (leaves (leaving_of K U)) (sym some.1)
      | inr n ↦
          false_from (holds U a) (λ u. true_is_not_false _ (inside a u) n)
          ∙ sym (ap (leaves (leaving_of K U)) (numbers_from-none 0 part a (sym (holds-true_places part a) ∙ n)))
    ]
  where
    twice : (b : Bool) → b ≡ not (not b)
    twice true = refl
    twice false = refl

-- an unfounded set gives an assignment that meets all demands
pub met_by_unfounded : (G : List GroundRule) (free : List ℕ) (values : List Bool) (a : ℕ) (U : List ℕ)
    → ((b : ℕ) → holds (a ∷ U) b ≡ true → holds (true_places (part_of values free)) b ≡ true)
    → is_unfounded G (true_places values) (a ∷ U) ≡ true
    → list_any (leaves (leaving_of (true_places (part_of values free)) (a ∷ U))) (numbers_of values free)
    && list_all (allows (true_places values) (true_places (part_of values free)) (numbers_of values free) (leaving_of (true_places (part_of values free)) (a ∷ U))) G ≡ true
met_by_unfounded G free values a U inside unfounded =
    let I = true_places values in
    let K = true_places (part_of values free) in
    let numbers = numbers_of values free in
    let v = leaving_of K (a ∷ U) in
    let is = leaving_of-at values free (a ∷ U) inside in
    and_true (list_any (leaves v) numbers) (list_all (allows I K numbers v) G)
    (number_from_index v numbers a (sym (is a) ∙ holds_from (a ∷ U) a (inl refl)))
    (all_from (allows I K numbers v) G (λ r i.
    allowed I K (a ∷ U) (λ b. leaves v (number_at numbers b)) (λ b. remains v (number_at numbers b)) r
    (splits (part_of values free) v) is
    (not_true _ (all_at (λ r. not (supports I (a ∷ U) r)) G r unfounded i))))

-- where no assignment meets all demands, a model is an answer set
pub answer_set_from_core : (G : List GroundRule) (free : List ℕ) (values : List Bool)
    → is_model (true_places values) G ≡ true
    → ((v : ℕ → Bool)
    → list_any (leaves v) (numbers_of values free)
    && list_all (allows (true_places values) (true_places (part_of values free)) (numbers_of values free) v) G ≡ true → ⊥)
    → is_answer_set (with_choices G free) (true_places values) ≡ true
answer_set_from_core G free values model none =
    let I = true_places values in
    answer_set_from_founded (with_choices G free) I (ascends-true_from 0 values) (model-with_choices G free I model) (λ a U member.
    false_from (is_unfounded (with_choices G free) I (a ∷ U)) (λ unfounded.
    none (leaving_of (true_places (part_of values free)) (a ∷ U))
    (met_by_unfounded G free values a U
    (λ b inside.
    bound_from values free b (subset-holds I (a ∷ U) b member inside)
    (not_true _ (all_at (λ c. not (holds free c)) (a ∷ U) b (apart-of_choices G free I (a ∷ U) unfounded) (holds_at (a ∷ U) b inside))))
    (unfounded-of_rules G free I (a ∷ U) unfounded))))

-- ---- what the search's answers mean

-- the demands on a search for a smaller model
abbrev pub demanded : List GroundRule → List Bool → List Bool → List (Option ℕ) → (ℕ → Bool) → Bool
demanded G values part numbers v =
    list_any (leaves v) numbers && list_all (allows (true_places values) (true_places part) numbers v) G

demanded-same : (G : List GroundRule) (values part : List Bool) (free : List ℕ) (numbers : List (Option ℕ))
    → part ≡ part_of values free → numbers ≡ numbers_from 0 part → (v : ℕ → Bool)
    → demanded G values part numbers v ≡ demanded G values (part_of values free) (numbers_of values free) v
demanded-same G values part free numbers part_is numbers_are v =
    ap (λ (p : List Bool). demanded G values p numbers v) part_is
    ∙ ap (λ (ns : List (Option ℕ)). demanded G values (part_of values free) ns v) (numbers_are ∙ ap (numbers_from 0) part_is)

-- what leaves in what was found refutes the interpretation
pub refutes_when_found : (G : List GroundRule) (free : List ℕ) (values part : List Bool) (numbers : List (Option ℕ)) (U : List ℕ) (start begun found : SearchState)
    → part ≡ part_of values free → numbers ≡ numbers_from 0 part
    → Demands start begun (demanded G values part numbers) → SameMeaning begun.clauses found.clauses → IsFound found
    → U ≡ leaving_places (assignment_of found.trail) numbers
    → Refutes G free (true_places values) U
refutes_when_found G free values part numbers U start begun found part_is numbers_are demands same is leaving_is =
    let v = assignment_of found.trail in
    let met : demanded G values (part_of values free) (numbers_of values free) v ≡ true =
    sym (demanded-same G values part free numbers part_is numbers_are v) ∙ found_meets start begun found (demanded G values part numbers) demands same is in
    let U_is : U ≡ leaving_places v (numbers_of values free) = leaving_is ∙ ap (leaving_places v) (numbers_are ∙ ap (numbers_from 0) part_is) in
    subst (λ (W : List ℕ). Refutes G free (true_places values) W) (sym U_is) (refutes_from_found G free values v met)

-- a core without assumptions shows that there is nothing smaller
pub answer_set_when_core : (G : List GroundRule) (free : List ℕ) (values part : List Bool) (numbers : List (Option ℕ)) (core : List ℕ) (start begun : SearchState)
    → part ≡ part_of values free → numbers ≡ numbers_from 0 part → is_model (true_places values) G ≡ true → start.clauses ≡ [] → begun.assumed ≡ []
    → Demands start begun (demanded G values part numbers) → IsCore begun.clauses begun.assumed core
    → is_answer_set (with_choices G free) (true_places values) ≡ true
answer_set_when_core G free values part numbers core start begun part_is numbers_are model empty unassumed demands is =
    answer_set_from_core G free values model (λ v met.
    core_refutes start begun core (demanded G values part numbers) empty unassumed demands is v
    (demanded-same G values part free numbers part_is numbers_are v ∙ met))
