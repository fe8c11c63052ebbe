-- What leaves is unfounded exactly where each rule that could support it is allowed.
use Rattle.std.proofs.Common.{ℕ, ◌≡◌, sym, ◌∙◌, inl, inr, Bool, true, false, not, ◌&&◌, ◌||◌, List, Option, Some, None, is_some}
use Rattle.std.specs.Prelude.{MatchOption}
use Rattle.std.specs.List.{list_any, list_all}
use Rattle.std.proofs.lemmas.Bool.{or_parts, not-false, not-true}
use Rattle.asp_defs.specs.declared.ground.GroundRule.{GroundRule}
use Rattle.asp_defs.specs.Lists.{IsIn}
use Rattle.asp_defs.specs.Interpretations.{holds}
use Rattle.asp_defs.specs.Truth.{body_true}
use Rattle.asp_defs.specs.Unfounded.{supports}
use Rattle.asp_defs.proofs.Lists.{both, and_true, either, or_left, or_right, true_or_false, not_true, not_false, all_at, all_from, any_at, any_from}
use Rattle.asp_defs.proofs.Subsets.{true_is_not_false}
use Rattle.asp_defs.proofs.AnswerSetLaws.{pos_in, neg_out}
use Rattle.asp_defs.proofs.FoundedLaws.{Support, supports_from, closed_at}
use Rattle.asp_minimal.specs.Demands.{is_closed, binds}
use Rattle.asp_minimal.proofs.Choosing.{false_from}

-- which atoms leave and which stay: each atom of the part does one of the two, others neither
pub record Splits (K : List ℕ) (out stay : ℕ → Bool) : Type 0 where
  pub outside : (a : ℕ) → holds K a ≡ false → (out a ≡ false) × (stay a ≡ false)
  pub inside : (a : ℕ) → holds K a ≡ true → stay a ≡ not (out a)

-- whether a rule that could support what leaves doesn't
abbrev pub allows_by : List ℕ → List ℕ → (ℕ → Bool) → (ℕ → Bool) → GroundRule → Bool
allows_by I K out stay r = not (binds I K r) || (list_any out r.pos || list_any stay r.head)

-- a test that fails of all members together fails of each
pub any_false : {A : Type 0} (p : A → Bool) (xs : List A) (x : A) → list_any p xs ≡ false → IsIn x xs → p x ≡ false
any_false p xs x h i = false_from (p x) (λ e. true_is_not_false _ (any_from p xs x i e) h)

-- a head whose true atoms are all in a set
pub closed_from : (I U atoms : List ℕ) → ((a : ℕ) → IsIn a atoms → holds I a ≡ true → holds U a ≡ true) → list_all (λ a. not (holds I a && not (holds U a))) atoms ≡ true
closed_from I U atoms hit = all_from (λ a. not (holds I a && not (holds U a))) atoms (λ a i.
    not_false _ (false_from (holds I a && not (holds U a)) (λ free.
    let parts = both (holds I a) (not (holds U a)) free
    in true_is_not_false _ (hit a i parts.0) (not_true _ parts.1))))

-- an allowed rule doesn't support what leaves
pub no_support : (I K U : List ℕ) (out stay : ℕ → Bool) (r : GroundRule) → Splits K out stay → ((a : ℕ) → holds U a ≡ out a) → ((a : ℕ) → holds K a ≡ true → holds I a ≡ true) → allows_by I K out stay r ≡ true → Support I U r → ⊥
no_support I K U out stay r splits is inside h s =
    let bound : (a : ℕ) → holds U a ≡ true → holds K a ≡ true = λ a u.
    elim (true_or_false (holds K a)) [
      | inl k ↦ k
      | inr n ↦ absurd (true_is_not_false _ (sym (is a) ∙ u) ((splits.outside a n).0))
    ] in
    let hit = any_at (holds U) r.head s.head in
    let binding : binds I K r ≡ true =
    and_true (body_true I r) (list_any (holds I) r.head && is_closed I K r.head)
    (and_true (pos_in I r) (neg_out I r) s.pos s.neg)
    (and_true (list_any (holds I) r.head) (is_closed I K r.head)
    (any_from (holds I) r.head hit.0 hit.1 (inside hit.0 (bound hit.0 hit.2)))
    (closed_from I K r.head (λ a i t. bound a (closed_at I U r a s.closed i t)))) in
    let said : list_any out r.pos || list_any stay r.head ≡ true =
    elim (either (not (binds I K r)) (list_any out r.pos || list_any stay r.head) h) [
      | inl n ↦ absurd (true_is_not_false _ binding (not_true _ n))
      | inr e ↦ e
    ] in
    elim (either (list_any out r.pos) (list_any stay r.head) said) [
      | inl e ↦
          let found = any_at out r.pos e in
          true_is_not_false _ (is found.0 ∙ found.2) (not_true _ (all_at (λ a. not (holds U a)) r.pos found.0 s.free found.1))
      | inr e ↦
          let found = any_at stay r.head e in
          let k : holds K found.0 ≡ true =
          elim (true_or_false (holds K found.0)) [
            | inl k ↦ k
            | inr n ↦ absurd (true_is_not_false _ found.2 ((splits.outside found.0 n).1))
          ] in
          let u : holds U found.0 ≡ true = closed_at I U r found.0 s.closed found.1 (inside found.0 k) in
          true_is_not_false _ (sym (is found.0) ∙ u) (not_true _ (sym (splits.inside found.0 k) ∙ found.2))
    ]

-- a rule that binds, of whose positive body no atom leaves and of whose head none stays, supports what leaves
pub support_where_bound : (I K U : List ℕ) (out stay : ℕ → Bool) (r : GroundRule) → Splits K out stay → ((a : ℕ) → holds U a ≡ out a) → binds I K r ≡ true → list_any out r.pos || list_any stay r.head ≡ false → Support I U r
support_where_bound I K U out stay r splits is b e =
    let one = both (body_true I r) (list_any (holds I) r.head && is_closed I K r.head) b in
    let body = both (pos_in I r) (neg_out I r) one.0 in
    let two = both (list_any (holds I) r.head) (is_closed I K r.head) one.1 in
    let none = or_parts (list_any out r.pos) (list_any stay r.head) e in
    let left : (a : ℕ) → IsIn a r.head → holds I a ≡ true → holds U a ≡ true = λ a i t.
    is a ∙ not-false _ (sym (splits.inside a (closed_at I K r a two.1 i t)) ∙ any_false stay r.head a none.1 i) in
    let hit = any_at (holds I) r.head two.0 in
    record {
      head = any_from (holds U) r.head hit.0 hit.1 (left hit.0 hit.1 hit.2);
      pos = body.0;
      neg = body.1;
      free = all_from (λ a. not (holds U a)) r.pos (λ a i. not_false _ (is a ∙ any_false out r.pos a none.0 i));
      closed = closed_from I U r.head left;
    }

-- a rule that doesn't support what leaves is allowed
pub allowed : (I K U : List ℕ) (out stay : ℕ → Bool) (r : GroundRule) → Splits K out stay → ((a : ℕ) → holds U a ≡ out a) → supports I U r ≡ false → allows_by I K out stay r ≡ true
allowed I K U out stay r splits is unsupported =
    elim (true_or_false (binds I K r)) [
      | inr n ↦ or_left (not (binds I K r)) (list_any out r.pos || list_any stay r.head) (not_false _ n)
      | inl b ↦ elim (true_or_false (list_any out r.pos || list_any stay r.head)) [
        | inl e ↦ or_right (not (binds I K r)) (list_any out r.pos || list_any stay r.head) e
        | inr e ↦ absurd (true_is_not_false _ (supports_from I U r (support_where_bound I K U out stay r splits is b e)) unsupported)
      ]
    ]

-- the search for a true atom outside a part tells whether there is none
pub none_outside : (I K atoms : List ℕ) (o : Option ℕ) (result : Bool)
    → MatchOption o (is_closed I K atoms ≡ true) (λ a. IsIn a atoms × (holds I a ≡ true) × (holds K a ≡ false))
    → is_some o ≡ not result → result ≡ is_closed I K atoms
none_outside I K atoms None result h e = not-false result (sym e) ∙ sym h
none_outside I K atoms (Some a) result h e =
    not-true result (sym e)
    ∙ sym (false_from (is_closed I K atoms) (λ closed.
    true_is_not_false _
    (and_true (holds I a) (not (holds K a)) h.1 (not_false _ h.2))
    (not_true _ (all_at (λ b. not (holds I b && not (holds K b))) atoms a closed h.0))))
