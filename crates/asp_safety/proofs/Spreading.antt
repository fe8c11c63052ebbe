-- The steps by which the least variables are found.
use Rattle.std.proofs.Common.{ℕ, ◌≡◌, ◌⊎◌, ◌+◌, ◌≤◌, refl, sym, ◌∙◌, ap, subst, inl, inr, Bool, true, false, List, [], ◌∷◌, ◌++◌, length, arith, length-append}
use Rattle.std.specs.Prelude.{if◌then◌else◌}
use Rattle.asp_defs.specs.declared.syntax.Term.{Term}
use Rattle.asp_defs.specs.Lists.{IsIn}
use Rattle.asp_defs.specs.Instances.{same_variable}
use Rattle.asp_defs.specs.Safety.{is_variable_of}
use Rattle.asp_defs.proofs.Lists.{true_or_false, append_at, append_left, append_right}
use Rattle.asp_safety.specs.Closure.{Within, IsSpread, IsLeast, Settles, Gathers, Follows, missing}
use Rattle.asp_safety.proofs.Members.{member_at, member_from, test_more, same_test}
use Rattle.asp_safety.proofs.Occurrences.{occurrences_more}

-- the last member of a list
abbrev last_is : {A : Type 0} (xs : List A) (y : A) → IsIn y (xs ++ y ∷ [])
last_is xs y = append_right xs (y ∷ []) y (inl refl)

abbrev chosen : Bool → List Term → Term → List Term
chosen b queue v = if b then queue else queue ++ v ∷ []

-- a queue that is longer by a variable or not has what it had
chosen_kept : (b : Bool) (queue : List Term) (v : Term) → Within queue (chosen b queue v)
chosen_kept true queue v u i = i
chosen_kept false queue v u i = append_left queue (v ∷ []) u i

chosen_at : (b : Bool) (queue : List Term) (v u : Term) → IsIn u (chosen b queue v) → IsIn u queue ⊎ (u ≡ v)
chosen_at true queue v u i = inl i
chosen_at false queue v u i = elim (append_at queue (v ∷ []) u i) [
  | inl h ↦ inl h
  | inr h ↦ elim h [ inl e ↦ inr e | inr never ↦ absurd never ]
]

-- what is settled is safe or queued
settled_queued : (v : Term) (S T Q R : List Term) → Settles v S T Q R → (u : Term) → IsIn u T → IsIn u S ⊎ IsIn u R
settled_queued v S T Q R s u i = elim (s.only u i) [
  | inl h ↦ inl h
  | inr e ↦ go e (true_or_false (is_variable_of S v))
]
  where
    go : u ≡ v → (is_variable_of S v ≡ true) ⊎ (is_variable_of S v ≡ false) → IsIn u S ⊎ IsIn u R
    go e (inl h) = inl (subst (λ w. IsIn w S) (sym e) (member_at S v h))
    go e (inr h) =
        let long : R ≡ Q ++ v ∷ [] = s.queued ∙ ap (λ b. chosen b Q v) h in
        inr (subst (λ ws. IsIn u ws) (sym long) (subst (λ w. IsIn w (Q ++ v ∷ [])) (sym e) (last_is Q v)))

settled_waits : (v : Term) (S T Q R : List Term) → Settles v S T Q R → Within Q R
settled_waits v S T Q R s u i = subst (λ ws. IsIn u ws) (sym s.queued) (chosen_kept (is_variable_of S v) Q v u i)

settled_safely : (v : Term) (S T Q R : List Term) → Settles v S T Q R → (u : Term) → IsIn u R → IsIn u Q ⊎ IsIn u T
settled_safely v S T Q R s u i = elim (chosen_at (is_variable_of S v) Q v u (subst (λ ws. IsIn u ws) s.queued i)) [
  | inl h ↦ inl h
  | inr e ↦ inr (subst (λ w. IsIn w T) (sym e) s.there)
]

-- ---- the start

pub gathers_none : Gathers [] [] []
gathers_none = record { all = λ v i. i; only = λ v i. i; queued = λ v i. i; safely = λ v i. i; order = refl }

pub gathers_more : (vs : List Term) (v : Term) (S T Q R : List Term) → Gathers vs S Q → Settles v S T Q R → Gathers (vs ++ v ∷ []) T R
gathers_more vs v S T Q R g s = record {
  all = λ u i. elim (append_at vs (v ∷ []) u i) [
    | inl h ↦ s.kept u (g.all u h)
    | inr h ↦ elim h [ inl e ↦ subst (λ w. IsIn w T) (sym e) s.there | inr never ↦ absurd never ]
  ];
  only = λ u i. elim (s.only u i) [
    | inl h ↦ append_left vs (v ∷ []) u (g.only u h)
    | inr e ↦ subst (λ w. IsIn w (vs ++ v ∷ [])) (sym e) (last_is vs v)
  ];
  queued = λ u i. elim (settled_queued v S T Q R s u i) [
    | inl h ↦ settled_waits v S T Q R s u (g.queued u h)
    | inr h ↦ h
  ];
  safely = λ u i. elim (settled_safely v S T Q R s u i) [
    | inl h ↦ s.kept u (g.safely u h)
    | inr h ↦ h
  ];
  order =
      s.queued
      ∙ (ap (λ b. chosen b Q v) (same_test S vs g.only g.all v)
      ∙ (ap (λ q. chosen (is_variable_of vs v) q v) g.order ∙ sym (occurrences_more vs v)));
}

-- ---- how many links are missing

abbrev gap : Bool → ℕ
gap b = if b then 0 else 1

gap_less : (b c : Bool) → (b ≡ true → c ≡ true) → gap c ≤ gap b
gap_less true c h = subst (λ d. gap d ≤ gap true) (sym (h refl)) (omega arith)
gap_less false true h = omega arith
gap_less false false h = omega arith

missing_less : (ls : List (Term × Term)) (S T : List Term) → Within S T → missing ls T ≤ missing ls S
missing_less [] S T more = omega arith
missing_less (l ∷ ls) S T more =
    let first = gap_less (is_variable_of S l.1) (is_variable_of T l.1) (test_more S T more l.1) in
    let rest = missing_less ls S T more in omega arith

missing_one : (ls : List (Term × Term)) (S T : List Term) → Within S T → (l : Term × Term) → IsIn l ls → is_variable_of S l.1 ≡ false → is_variable_of T l.1 ≡ true → missing ls T + 1 ≤ missing ls S
missing_one [] S T more l i was now = absurd i
missing_one (k ∷ ls) S T more l (inl e) was now =
    let before : gap (is_variable_of S k.1) ≡ 1 = ap gap (subst (λ (m : Term × Term). is_variable_of S m.1 ≡ false) e was) in
    let after : gap (is_variable_of T k.1) ≡ 0 = ap gap (subst (λ (m : Term × Term). is_variable_of T m.1 ≡ true) e now) in
    let rest = missing_less ls S T more in omega arith
missing_one (k ∷ ls) S T more l (inr i) was now =
    let first = gap_less (is_variable_of S k.1) (is_variable_of T k.1) (test_more S T more k.1) in
    let rest = missing_one ls S T more l i was now in omega arith

settled_fewer : (all : List (Term × Term)) (l : Term × Term) (S T Q R : List Term) → IsIn l all → same_variable l.1 l.1 ≡ true → Settles l.1 S T Q R → length R + missing all T ≤ length Q + missing all S
settled_fewer all l S T Q R i same s = go (true_or_false (is_variable_of S l.1))
  where
    go : (is_variable_of S l.1 ≡ true) ⊎ (is_variable_of S l.1 ≡ false) → length R + missing all T ≤ length Q + missing all S
    go (inl h) =
        let len : length R ≡ length Q = ap length (s.queued ∙ ap (λ b. chosen b Q l.1) h) in
        let less = missing_less all S T s.kept in omega arith
    go (inr h) =
        let len : length R ≡ length (Q ++ l.1 ∷ []) = ap length (s.queued ∙ ap (λ b. chosen b Q l.1) h) in
        let long = length-append Q (l.1 ∷ []) in
        let less = missing_one all S T s.kept l i h (member_from T l.1 same s.there) in omega arith

-- ---- what is linked with a variable

-- none of some links is from the variable
pub follows_none : (all ls : List (Term × Term)) (u : Term) (S Q : List Term) → ((v : Term) → IsIn (u, v) ls → ⊥) → Follows all ls u S S Q Q
follows_none all ls u S Q none = record {
  kept = λ v i. i;
  brings = λ v i. absurd (none v i);
  only = λ v i. inl i;
  waiting = λ v i. i;
  queued = λ v i. inl i;
  safely = λ v i. inl i;
  fewer = omega arith;
}

-- some links have one from the variable more, which is followed now
pub follows_more : (all ls more : List (Term × Term)) (l : Term × Term) (u : Term) (S T V Q R W : List Term) → Follows all ls u S T Q R → IsIn l all → same_variable l.1 l.1 ≡ true → l.0 ≡ u → ((v : Term) → IsIn (u, v) more → IsIn (u, v) ls ⊎ (v ≡ l.1)) → Settles l.1 T V R W → Follows all more u S V Q W
follows_more all ls more l u S T V Q R W f i same from new s = record {
  kept = λ v j. s.kept v (f.kept v j);
  brings = λ v j. elim (new v j) [
    | inl h ↦ s.kept v (f.brings v h)
    | inr e ↦ subst (λ w. IsIn w V) (sym e) s.there
  ];
  only = λ v j. elim (s.only v j) [
    | inl h ↦ f.only v h
    | inr e ↦ inr (brought v e)
  ];
  waiting = λ v j. settled_waits l.1 T V R W s v (f.waiting v j);
  queued = λ v j. elim (settled_queued l.1 T V R W s v j) [
    | inl h ↦ elim (f.queued v h) [ inl k ↦ inl k | inr k ↦ inr (settled_waits l.1 T V R W s v k) ]
    | inr h ↦ inr h
  ];
  safely = λ v j. elim (settled_safely l.1 T V R W s v j) [
    | inl h ↦ elim (f.safely v h) [ inl k ↦ inl k | inr k ↦ inr (s.kept v k) ]
    | inr h ↦ inr h
  ];
  fewer = let step = settled_fewer all l T V R W i same s in let before = f.fewer in omega arith;
}
  where
    brought : (v : Term) → v ≡ l.1 → IsIn (u, v) all
    brought v e =
        let pair : (u, v) ≡ l = subst (λ w. (w, v) ≡ l) from (ap (λ w. (l.0, w)) e) in
        subst (λ m. IsIn m all) (sym pair) i

-- ---- the whole

-- variables on the way to the least ones: a safe one from which a link brings one that isn't safe is queued
pub record Spreading (bound : List Term) (links : List (Term × Term)) (safe queue : List Term) : Type 0 where
  pub has : Within bound safe
  pub least : (ws : List Term) → IsSpread bound links ws → Within safe ws
  pub goes : (u v : Term) → IsIn (u, v) links → IsIn u safe → IsIn v safe ⊎ IsIn u queue
  pub safely : Within queue safe

pub spreading_start : (bound : List Term) (links : List (Term × Term)) (S Q : List Term) → Gathers bound S Q → Spreading bound links S Q
spreading_start bound links S Q g = record {
  has = g.all;
  least = λ ws spread v i. spread.has v (g.only v i);
  goes = λ u v l i. inr (g.queued u i);
  safely = g.safely;
}

pub spreading_more : (bound : List Term) (links : List (Term × Term)) (u : Term) (S T Q R : List Term) → Spreading bound links S (Q ++ u ∷ []) → Follows links links u S T Q R → Spreading bound links T R
spreading_more bound links u S T Q R sp f = record {
  has = λ v i. f.kept v (sp.has v i);
  least = λ ws spread v i. elim (f.only v i) [
    | inl h ↦ sp.least ws spread v h
    | inr l ↦ spread.goes u v l (sp.least ws spread u (sp.safely u (last_is Q u)))
  ];
  goes = λ x y l i. elim (f.queued x i) [
    | inl h ↦ elim (sp.goes x y l h) [
      | inl k ↦ inl (f.kept y k)
      | inr k ↦ elim (append_at Q (u ∷ []) x k) [
        | inl q ↦ inr (f.waiting x q)
        | inr q ↦ elim q [
          | inl e ↦ inl (f.brings y (subst (λ w. IsIn (w, y) links) e l))
          | inr never ↦ absurd never
        ]
      ]
    ]
    | inr h ↦ inr h
  ];
  safely = λ v i. elim (f.safely v i) [
    | inl h ↦ f.kept v (sp.safely v (append_left Q (u ∷ []) v h))
    | inr h ↦ h
  ];
}

pub spreading_end : (bound : List Term) (links : List (Term × Term)) (S : List Term) → Spreading bound links S [] → IsLeast bound links S
spreading_end bound links S sp = record {
  spread = record {
    has = sp.has;
    goes = λ u v l i. elim (sp.goes u v l i) [ inl h ↦ h | inr never ↦ absurd never ];
  };
  least = sp.least;
}

-- without links the least variables are those that are bound
pub least_without_links : (bound : List Term) (links : List (Term × Term)) (S Q : List Term) → Gathers bound S Q → links ≡ [] → IsLeast bound links S
least_without_links bound links S Q g none = record {
  spread = record {
    has = g.all;
    goes = λ u v l i. absurd (subst (λ (ls : List (Term × Term)). IsIn (u, v) ls) none l);
  };
  least = λ ws spread v i. spread.has v (g.only v i);
}

-- ---- what is reached, as a list

-- variables on the way to the least ones, and those of them that were taken from the queue
pub record Reaching (bound : List Term) (links : List (Term × Term)) (safe queue taken : List Term) : Type 0 where
  pub spreading : Spreading bound links safe queue
  pub all : (v : Term) → IsIn v safe → IsIn v taken ⊎ IsIn v queue
  pub only : Within taken safe

pub reaching_start : (s : Term) (links : List (Term × Term)) (S T Q R K : List Term) → S ≡ [] → Q ≡ [] → K ≡ [] → Settles s S T Q R → Reaching (s ∷ []) links T R K
reaching_start s links S T Q R K none idle nothing settles = record {
  spreading = spreading_start (s ∷ []) links T R gathered;
  all = λ v i. inr ((gathered).queued v i);
  only = λ v i. absurd (subst (λ (ks : List Term). IsIn v ks) nothing i);
}
  where
    gathered : Gathers (s ∷ []) T R
    gathered =
        gathers_more [] s [] T [] R gathers_none
        (subst (λ (q : List Term). Settles s [] T q R) idle (subst (λ (p : List Term). Settles s p T Q R) none settles))

pub reaching_more : (bound : List Term) (links : List (Term × Term)) (u : Term) (S T Q R K : List Term) → Reaching bound links S (Q ++ u ∷ []) K → Follows links links u S T Q R → Reaching bound links T R (K ++ u ∷ [])
reaching_more bound links u S T Q R K r f = record {
  spreading = spreading_more bound links u S T Q R r.spreading f;
  all = λ v i. elim (f.queued v i) [
    | inl h ↦ elim (r.all v h) [
      | inl k ↦ inl (append_left K (u ∷ []) v k)
      | inr q ↦ elim (append_at Q (u ∷ []) v q) [
        | inl w ↦ inr (f.waiting v w)
        | inr w ↦ inl (append_right K (u ∷ []) v w)
      ]
    ]
    | inr h ↦ inr h
  ];
  only = λ v i. elim (append_at K (u ∷ []) v i) [
    | inl k ↦ f.kept v (r.only v k)
    | inr k ↦ f.kept v (r.spreading.safely v (append_right Q (u ∷ []) v k))
  ];
}

pub reaching_end : (bound : List Term) (links : List (Term × Term)) (S K : List Term) → Reaching bound links S [] K → IsLeast bound links K
reaching_end bound links S K r = record {
  spread = record {
    has = λ v i. up v (r.spreading.has v i);
    goes = λ u v l i. up v (elim (r.spreading.goes u v l (r.only u i)) [ inl h ↦ h | inr never ↦ absurd never ]);
  };
  least = λ ws spread v i. r.spreading.least ws spread v (r.only v i);
}
  where
    up : Within S K
    up v i = elim (r.all v i) [ inl h ↦ h | inr never ↦ absurd never ]
