-- An answer set satisfies the rules, and answer sets without choices are minimal.
use Rattle.std.proofs.Common.{ℕ, ◌≡◌, refl, Bool, true, false, not, ◌&&◌, ◌||◌, List}
use Rattle.std.specs.List.{list_any, list_all, filter}
use Rattle.asp_defs.specs.declared.ground.GroundRule.{GroundRule}
use Rattle.asp_defs.specs.declared.ground.Bound.{Bound}
use Rattle.asp_defs.specs.Lists.{IsIn}
use Rattle.asp_defs.specs.Interpretations.{holds, subsets, same, proper_subsets}
use Rattle.asp_defs.specs.Truth.{satisfies, is_model}
use Rattle.asp_defs.specs.Reduct.{stays, positive_part, reduct}
use Rattle.asp_defs.specs.Bounds.{meets_all}
use Rattle.asp_defs.specs.AnswerSets.{is_answer_set, is_bounded_answer_set}
use Rattle.asp_defs.specs.Laws.{AnswerSetsAreModels, AnswerSetsAreMinimal}
use Rattle.asp_defs.proofs.Subsets.{neg_out-subset, true_is_not_false}
use Rattle.asp_defs.proofs.Lists.{both, and_true, or_left, not_true, not_false, all_at, all_from, filter_at, filter_from, map_at, map_from}

-- ---- single rules

-- the tests of a rule
abbrev pub pos_in : List ℕ → GroundRule → Bool
pos_in I r = list_all (holds I) r.pos

abbrev pub neg_out : List ℕ → GroundRule → Bool
neg_out I r = list_all (λ a. not (holds I a)) r.neg

abbrev pub head_in : List ℕ → GroundRule → Bool
head_in I r = list_any (holds I) r.head

-- what the positive part of a rule says
pub part-satisfies : (J : List ℕ) (r : GroundRule) → pos_in J r ≡ true → satisfies J (positive_part r) ≡ true → head_in J r ≡ true
part-satisfies J r p h = go (pos_in J r) (head_in J r) p h
  where
    go : (body head : Bool) → body ≡ true → not (body && true) || head ≡ true → head ≡ true
    go true head e k = k
    go false head e k = absurd (cc)

pub part-satisfies_from : (J : List ℕ) (r : GroundRule) → (pos_in J r ≡ true → head_in J r ≡ true) → satisfies J (positive_part r) ≡ true
part-satisfies_from J r h = go (pos_in J r) (head_in J r) h
  where
    go : (body head : Bool) → (body ≡ true → head ≡ true) → not (body && true) || head ≡ true
    go true head k = k refl
    go false head k = refl

-- what a rule that is no choice says
pub rule-satisfies : (I : List ℕ) (r : GroundRule) → r.choice ≡ false → pos_in I r ≡ true → neg_out I r ≡ true → satisfies I r ≡ true → head_in I r ≡ true
rule-satisfies I r c p n h = go r.choice (pos_in I r) (neg_out I r) (head_in I r) c p n h
  where
    go : (choice pos neg head : Bool) → choice ≡ false → pos ≡ true → neg ≡ true → choice || (not (pos && neg) || head) ≡ true → head ≡ true
    go true pos neg head c p n k = absurd (cc)
    go false false neg head c p n k = absurd (cc)
    go false true false head c p n k = absurd (cc)
    go false true true head c p n k = k

pub rule-satisfies_from : (I : List ℕ) (r : GroundRule) → (r.choice ≡ false → pos_in I r ≡ true → neg_out I r ≡ true → head_in I r ≡ true) → satisfies I r ≡ true
rule-satisfies_from I r h = go r.choice (pos_in I r) (neg_out I r) (head_in I r) h
  where
    go : (choice pos neg head : Bool) → (choice ≡ false → pos ≡ true → neg ≡ true → head ≡ true) → choice || (not (pos && neg) || head) ≡ true
    go true pos neg head k = refl
    go false false neg head k = refl
    go false true false head k = refl
    go false true true head k = k refl refl refl

-- a rule that is no choice stays where its negative body is false
pub stays_from : (I : List ℕ) (r : GroundRule) → r.choice ≡ false → neg_out I r ≡ true → stays I r ≡ true
stays_from I r c n = and_true (neg_out I r) (not r.choice || head_in I r) n (or_left (not r.choice) (head_in I r) (not_false r.choice c))

-- ---- programs

-- a member of the reduct is the positive part of a rule that stays
pub reduct_at : (G : List GroundRule) (I : List ℕ) (q : GroundRule) → IsIn q (reduct G I) → (r : GroundRule) × IsIn r G × (stays I r ≡ true) × (q ≡ positive_part r)
reduct_at G I q i =
    let found = map_at positive_part (filter (stays I) G) q i in
    let member = filter_at (stays I) G found.0 found.1 in
    (found.0, member.0, member.1, found.2)

pub reduct_from : (G : List GroundRule) (I : List ℕ) (r : GroundRule) → IsIn r G → stays I r ≡ true → IsIn (positive_part r) (reduct G I)
reduct_from G I r i s = map_from positive_part (filter (stays I) G) r (filter_from (stays I) G r i s)

-- a model of the reduct says of each rule that stays what its positive part says
pub model-reduct_at : (G : List GroundRule) (I J : List ℕ) (r : GroundRule) → is_model J (reduct G I) ≡ true → IsIn r G → stays I r ≡ true → satisfies J (positive_part r) ≡ true
model-reduct_at G I J r m i s = all_at (satisfies J) (reduct G I) (positive_part r) m (reduct_from G I r i s)

pub model-reduct_from : (G : List GroundRule) (I J : List ℕ) → ((r : GroundRule) → IsIn r G → stays I r ≡ true → satisfies J (positive_part r) ≡ true) → is_model J (reduct G I) ≡ true
model-reduct_from G I J h =
    all_from (satisfies J) (reduct G I) (λ q i.
    let found = reduct_at G I q i in
    rw found.3 (h found.0 found.1 found.2))

-- a model of its own reduct satisfies the rules
pub model_from_reduct : (G : List GroundRule) (I : List ℕ) → is_model I (reduct G I) ≡ true → is_model I G ≡ true
model_from_reduct G I m =
    all_from (satisfies I) G (λ r i. rule-satisfies_from I r (λ c p n. part-satisfies I r p (model-reduct_at G I I r m i (stays_from I r c n))))

-- the parts of being an answer set
pub answer_set-model : (G : List GroundRule) (I : List ℕ) → is_answer_set G I ≡ true → is_model I (reduct G I) ≡ true
answer_set-model G I h = (both (is_model I (reduct G I)) (list_all (λ J. not (is_model J (reduct G I))) (proper_subsets I)) h).0

pub answer_set-minimal : (G : List GroundRule) (I J : List ℕ) → is_answer_set G I ≡ true → IsIn J (proper_subsets I) → is_model J (reduct G I) ≡ false
answer_set-minimal G I J h i =
    not_true (is_model J (reduct G I)) (all_at (λ J. not (is_model J (reduct G I))) (proper_subsets I) J ((both (is_model I (reduct G I)) (list_all (λ J. not (is_model J (reduct G I))) (proper_subsets I)) h).1) i)

-- an answer set of the rules satisfies them
pub answer_set-satisfies : (G : List GroundRule) (I : List ℕ) → is_answer_set G I ≡ true → is_model I G ≡ true
answer_set-satisfies G I h = model_from_reduct G I (answer_set-model G I h)

-- the parts of being an answer set with bounds
pub bounded_at : (G : List GroundRule) (bounds : List Bound) (I : List ℕ) → is_bounded_answer_set G bounds I ≡ true → (is_answer_set G I ≡ true) × (meets_all I bounds ≡ true)
bounded_at G bounds I h = both (is_answer_set G I) (meets_all I bounds) h

pub bounded_from : (G : List GroundRule) (bounds : List Bound) (I : List ℕ) → is_answer_set G I ≡ true → meets_all I bounds ≡ true → is_bounded_answer_set G bounds I ≡ true
bounded_from G bounds I answer met = and_true (is_answer_set G I) (meets_all I bounds) answer met

pub answer_sets_are_models : AnswerSetsAreModels
answer_sets_are_models G bounds I h =
    let parts = bounded_at G bounds I h in
    (answer_set-satisfies G I parts.0, parts.1)

-- no answer set of rules without choices is a proper subset of another: it would be a model of the other's reduct
answer_set-no_smaller : (G : List GroundRule) (I J : List ℕ) → list_all (λ r. not r.choice) G ≡ true → is_answer_set G I ≡ true → is_answer_set G J ≡ true → IsIn J (proper_subsets I) → ⊥
answer_set-no_smaller G I J plain at_I at_J i =
    let inside : IsIn J (subsets I) = (filter_at (λ K. not (same K I)) (subsets I) J i).0 in
    let smaller : is_model J (reduct G I) ≡ true =
    model-reduct_from G I J (λ r member s.
    part-satisfies_from J r (λ p.
    rule-satisfies J r
    (not_true r.choice (all_at (λ r. not r.choice) G r plain member))
    p
    (neg_out-subset I J r inside ((both (neg_out I r) (not r.choice || head_in I r) s).0))
    (all_at (satisfies J) G r (answer_set-satisfies G J at_J) member)))
    in true_is_not_false _ smaller (answer_set-minimal G I J at_I i)

pub answer_sets_are_minimal : AnswerSetsAreMinimal
answer_sets_are_minimal G bounds I J plain at_I at_J i =
    answer_set-no_smaller G I J plain ((bounded_at G bounds I at_I).0) ((bounded_at G bounds J at_J).0) i
