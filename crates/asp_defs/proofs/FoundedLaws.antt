-- An interpretation is an answer set exactly where it satisfies the rules and has no unfounded subset but the empty one.
-- The atoms that a smaller model of the reduct lacks are unfounded, and an interpretation without an unfounded set of its
-- atoms is a model of the reduct.
use Rattle.std.proofs.Common.{ℕ, ◌≡◌, refl, sym, subst, inl, inr, Bool, true, false, not, ◌&&◌, ◌||◌, List, [], ◌∷◌}
use Rattle.std.specs.List.{list_any, list_all}
use Rattle.asp_defs.specs.declared.ground.GroundRule.{GroundRule}
use Rattle.asp_defs.specs.Lists.{IsIn}
use Rattle.asp_defs.specs.Interpretations.{holds, subsets, same, proper_subsets}
use Rattle.asp_defs.specs.Truth.{body_true, satisfies, is_model}
use Rattle.asp_defs.specs.Reduct.{stays, reduct}
use Rattle.asp_defs.specs.AnswerSets.{is_answer_set}
use Rattle.asp_defs.specs.Unfounded.{supports, is_unfounded}
use Rattle.asp_defs.specs.Games.{ascends}
use Rattle.asp_defs.specs.Laws.{AnswerSetsAreFounded}
use Rattle.asp_defs.proofs.Lists.{both, and_true, either, or_right, true_or_false, not_true, not_false, all_at, all_from, any_at, any_from, filter_at, filter_from}
use Rattle.asp_defs.proofs.Subsets.{true_is_not_false, holds_at, holds_from, subset-member, subset-holds, filter-subset, without, same_from, subset_full, proper_from}
use Rattle.asp_defs.proofs.AnswerSetLaws.{pos_in, neg_out, head_in, part-satisfies, part-satisfies_from, rule-satisfies, model-reduct_at, model-reduct_from, answer_set-model, answer_set-minimal, answer_set-satisfies, bounded_at, bounded_from}

-- a test that fails of some member fails of all of them together
pub all_false : {A : Type 0} (p : A → Bool) (xs : List A) → list_all p xs ≡ false → (x : A) × IsIn x xs × (p x ≡ false)
all_false p [] h = absurd (cc)
all_false p (y ∷ ys) h = elim (true_or_false (p y)) [
  | inl passes ↦
      let found = all_false p ys (subst (λ (t : Bool). t && list_all p ys ≡ false) passes h)
      in (found.0, inr found.1, found.2)
  | inr fails ↦ (y, inl refl, fails)
]

-- what stays in an interpretation without a set is outside the set
pub without_at : (I U : List ℕ) (a : ℕ) → holds (without I U) a ≡ true → (holds I a ≡ true) × (holds U a ≡ false)
without_at I U a h =
    let found = filter_at (λ b. not (holds U b)) I a (holds_at (without I U) a h)
    in (holds_from I a found.0, not_true (holds U a) found.1)

pub without_from : (I U : List ℕ) (a : ℕ) → holds I a ≡ true → holds U a ≡ false → holds (without I U) a ≡ true
without_from I U a inside outside =
    holds_from (without I U) a (filter_from (λ b. not (holds U b)) I a (holds_at I a inside) (not_false (holds U a) outside))

-- the parts of support, and support from its parts
pub record Support (I U : List ℕ) (r : GroundRule) : Type 0 where
  pub head : list_any (holds U) r.head ≡ true
  pub pos : pos_in I r ≡ true
  pub neg : neg_out I r ≡ true
  pub free : list_all (λ a. not (holds U a)) r.pos ≡ true
  pub closed : list_all (λ a. not (holds I a && not (holds U a))) r.head ≡ true

pub supports_at : (I U : List ℕ) (r : GroundRule) → supports I U r ≡ true → Support I U r
supports_at I U r h =
    let one = both (list_any (holds U) r.head) (body_true I r && (list_all (λ a. not (holds U a)) r.pos && list_all (λ a. not (holds I a && not (holds U a))) r.head)) h in
    let two = both (body_true I r) (list_all (λ a. not (holds U a)) r.pos && list_all (λ a. not (holds I a && not (holds U a))) r.head) one.1 in
    let body = both (pos_in I r) (neg_out I r) two.0 in
    let three = both (list_all (λ a. not (holds U a)) r.pos) (list_all (λ a. not (holds I a && not (holds U a))) r.head) two.1 in
    record { head = one.0; pos = body.0; neg = body.1; free = three.0; closed = three.1 }

pub supports_from : (I U : List ℕ) (r : GroundRule) → Support I U r → supports I U r ≡ true
supports_from I U r s =
    and_true (list_any (holds U) r.head) (body_true I r && (list_all (λ a. not (holds U a)) r.pos && list_all (λ a. not (holds I a && not (holds U a))) r.head)) s.head
    (and_true (body_true I r) (list_all (λ a. not (holds U a)) r.pos && list_all (λ a. not (holds I a && not (holds U a))) r.head)
    (and_true (pos_in I r) (neg_out I r) s.pos s.neg)
    (and_true (list_all (λ a. not (holds U a)) r.pos) (list_all (λ a. not (holds I a && not (holds U a))) r.head) s.free s.closed))

-- a head atom of a rule that is true, and outside the set, is no member of a closed head
pub closed_at : (I U : List ℕ) (r : GroundRule) (a : ℕ) → list_all (λ a. not (holds I a && not (holds U a))) r.head ≡ true → IsIn a r.head → holds I a ≡ true → holds U a ≡ true
closed_at I U r a closed member inside =
    elim (true_or_false (holds U a)) [
      | inl within ↦ within
      | inr outside ↦
          absurd (true_is_not_false _
          (and_true (holds I a) (not (holds U a)) inside (not_false _ outside))
          (not_true _ (all_at (λ a. not (holds I a && not (holds U a))) r.head a closed member)))
    ]

-- ---- from minimal to founded

-- a rule whose head has no atom in the interpretation without the set, though its positive body has all, supports the set
pub supports_where_stuck : (G : List GroundRule) (I U : List ℕ) (r : GroundRule) → is_model I (reduct G I) ≡ true → IsIn r G → stays I r ≡ true → pos_in (without I U) r ≡ true → head_in (without I U) r ≡ false → Support I U r
supports_where_stuck G I U r model member s p stuck =
    let positive : pos_in I r ≡ true = all_from (holds I) r.pos (λ a i. (without_at I U a (all_at (holds (without I U)) r.pos a p i)).0) in
    let head = any_at (holds I) r.head (part-satisfies I r positive (model-reduct_at G I I r model member s)) in
    let hit : (a : ℕ) → IsIn a r.head → holds I a ≡ true → holds U a ≡ true = λ a i inside.
    elim (true_or_false (holds U a)) [
      | inl within ↦ within
      | inr outside ↦ absurd (true_is_not_false _ (any_from (holds (without I U)) r.head a i (without_from I U a inside outside)) stuck)
    ]
    in record {
      head = any_from (holds U) r.head head.0 head.1 (hit head.0 head.1 head.2);
      pos = positive;
      neg = (both (neg_out I r) (not r.choice || head_in I r) s).0;
      free = all_from (λ a. not (holds U a)) r.pos (λ a i. not_false _ ((without_at I U a (all_at (holds (without I U)) r.pos a p i)).1));
      closed = all_from (λ a. not (holds I a && not (holds U a))) r.head (λ a i.
          elim (true_or_false (holds I a && not (holds U a))) [
            | inl free ↦
                let parts = both (holds I a) (not (holds U a)) free
                in absurd (true_is_not_false _ (hit a i parts.0) (not_true _ parts.1))
            | inr closed ↦ not_false _ closed
          ]);
    }

-- without an unfounded set of its atoms, an interpretation stays a model of its reduct
pub smaller-model : (G : List GroundRule) (I U : List ℕ) → is_model I (reduct G I) ≡ true → is_unfounded G I U ≡ true → is_model (without I U) (reduct G I) ≡ true
smaller-model G I U model unfounded =
    model-reduct_from G I (without I U) (λ r member s.
    part-satisfies_from (without I U) r (λ p.
    elim (true_or_false (head_in (without I U) r)) [
      | inl head ↦ head
      | inr stuck ↦
          absurd (true_is_not_false _
          (supports_from I U r (supports_where_stuck G I U r model member s p stuck))
          (not_true _ (all_at (λ r. not (supports I U r)) G r unfounded member)))
    ]))

pub founded_from_minimal : (G : List GroundRule) (I : List ℕ) (a : ℕ) (U : List ℕ) → is_answer_set G I ≡ true → IsIn (a ∷ U) (subsets I) → is_unfounded G I (a ∷ U) ≡ false
founded_from_minimal G I a U h i =
    elim (true_or_false (is_unfounded G I (a ∷ U))) [
      | inl unfounded ↦
          let rest = without I (a ∷ U) in
          let proper : IsIn rest (proper_subsets I) =
          proper_from I rest a (filter-subset (λ b. not (holds (a ∷ U) b)) I) (subset-member I (a ∷ U) a i (inl refl)) (λ inside.
          true_is_not_false _ (holds_from (a ∷ U) a (inl refl)) ((without_at I (a ∷ U) a (holds_from rest a inside)).1))
          in absurd (true_is_not_false _ (smaller-model G I (a ∷ U) (answer_set-model G I h) unfounded) (answer_set-minimal G I rest h proper))
      | inr founded ↦ founded
    ]

-- ---- from founded to minimal

-- a model of the rules is a model of its own reduct
pub reduct_from_model : (G : List GroundRule) (I : List ℕ) → is_model I G ≡ true → is_model I (reduct G I) ≡ true
reduct_from_model G I model =
    model-reduct_from G I I (λ r member s.
    let parts = both (neg_out I r) (not r.choice || head_in I r) s in
    part-satisfies_from I r (λ p.
    elim (true_or_false r.choice) [
      | inl choice ↦ elim (either (not r.choice) (head_in I r) parts.1) [
        | inl plain ↦ absurd (true_is_not_false _ choice (not_true _ plain))
        | inr head ↦ head
      ]
      | inr plain ↦ rule-satisfies I r plain p parts.0 (all_at (satisfies I) G r model member)
    ]))

-- a rule that supports what a smaller set lacks stays, and its positive body is true in the smaller set, whose head isn't
pub support_refutes : (G : List GroundRule) (I J : List ℕ) (r : GroundRule) → IsIn J (subsets I) → is_model J (reduct G I) ≡ true → IsIn r G → Support I (without I J) r → ⊥
support_refutes G I J r inside model member s =
    let gap = without I J in
    let hit = any_at (holds gap) r.head s.head in
    let keeps : stays I r ≡ true =
    and_true (neg_out I r) (not r.choice || head_in I r) s.neg
    (or_right (not r.choice) (head_in I r) (any_from (holds I) r.head hit.0 hit.1 ((without_at I J hit.0 hit.2).0))) in
    let positive : pos_in J r ≡ true = all_from (holds J) r.pos (λ a i.
    elim (true_or_false (holds J a)) [
      | inl within ↦ within
      | inr outside ↦
          absurd (true_is_not_false _
          (without_from I J a (all_at (holds I) r.pos a s.pos i) outside)
          (not_true _ (all_at (λ a. not (holds gap a)) r.pos a s.free i)))
    ]) in
    let head = any_at (holds J) r.head (part-satisfies J r positive (model-reduct_at G I J r model member keeps)) in
    let lacking : holds gap head.0 ≡ true =
    closed_at I gap r head.0 s.closed head.1 (subset-holds I J head.0 inside head.2)
    in true_is_not_false _ head.2 ((without_at I J head.0 lacking).1)

-- a proper subset lacks a member
pub proper_lacks : (I J : List ℕ) → ascends I ≡ true → IsIn J (subsets I) → same J I ≡ false → without I J ≡ [] → ⊥
proper_lacks I J h i other empty =
    let full : J ≡ I = subset_full I J h i (λ a member.
    elim (true_or_false (holds J a)) [
      | inl within ↦ holds_at J a within
      | inr outside ↦
          let lacking : IsIn a (without I J) = filter_from (λ b. not (holds J b)) I a member (not_false _ outside)
          in absurd (subst (λ (K : List ℕ). IsIn a K) empty lacking)
    ])
    in true_is_not_false _ (subst (λ (K : List ℕ). same J K ≡ true) full (same_from J)) other

pub minimal_from_founded : (G : List GroundRule) (I J : List ℕ) → ascends I ≡ true → ((a : ℕ) (U : List ℕ) → IsIn (a ∷ U) (subsets I) → is_unfounded G I (a ∷ U) ≡ false) → IsIn J (proper_subsets I) → is_model J (reduct G I) ≡ true → ⊥
minimal_from_founded G I J h founded i model =
    let parts = filter_at (λ K. not (same K I)) (subsets I) J i in
    go (without I J) refl parts.0 (not_true _ parts.1)
  where
    go : (U : List ℕ) → without I J ≡ U → IsIn J (subsets I) → same J I ≡ false → ⊥
    go [] e inside other = proper_lacks I J h inside other e
    go (a ∷ U) e inside other =
        let within : IsIn (a ∷ U) (subsets I) = subst (λ (K : List ℕ). IsIn K (subsets I)) e (filter-subset (λ b. not (holds J b)) I) in
        let found = all_false (λ r. not (supports I (a ∷ U) r)) G (founded a U within) in
        let support : supports I (a ∷ U) found.0 ≡ true =
        elim (true_or_false (supports I (a ∷ U) found.0)) [
          | inl yes_it_does ↦ yes_it_does
          | inr fails ↦ absurd (true_is_not_false _ (not_false _ fails) found.2)
        ]
        in support_refutes G I J found.0 inside model found.1 (supports_at I (without I J) found.0 (subst (λ (K : List ℕ). supports I K found.0 ≡ true) (sym e) support))

pub answer_set_from_founded : (G : List GroundRule) (I : List ℕ) → ascends I ≡ true → is_model I G ≡ true → ((a : ℕ) (U : List ℕ) → IsIn (a ∷ U) (subsets I) → is_unfounded G I (a ∷ U) ≡ false) → is_answer_set G I ≡ true
answer_set_from_founded G I h model founded =
    and_true (is_model I (reduct G I)) (list_all (λ J. not (is_model J (reduct G I))) (proper_subsets I))
    (reduct_from_model G I model)
    (all_from (λ J. not (is_model J (reduct G I))) (proper_subsets I) (λ J i.
    elim (true_or_false (is_model J (reduct G I))) [
      | inl smaller ↦ absurd (minimal_from_founded G I J h founded i smaller)
      | inr fails ↦ not_false _ fails
    ]))

pub answer_sets_are_founded : AnswerSetsAreFounded
answer_sets_are_founded G bounds I h = (
  λ answer.
      let parts = bounded_at G bounds I answer in
      (answer_set-satisfies G I parts.0, parts.1, λ a U i. founded_from_minimal G I a U parts.0 i),
  λ parts. bounded_from G bounds I (answer_set_from_founded G I h parts.0 parts.2) parts.1,
)
