-- All views, where one has changed or one has come.
use Rattle.std.proofs.Common.{◌≡◌, ◌≢◌, ℕ, zero, suc, ◌+◌, ◌≤◌, List, [], ◌∷◌, ◌++◌, ◌⊎◌, inl, inr, ⊎_elim, length, get_or, set, map, refl, ap, sym, subst, ◌∙◌, arith, length-set, length-append}
use mathlib.Core.Logic.{dite}
use mathlib.Core.Option.{some, some-injective, some-ne-none}
use native.Mathlib.Decide.{ℕ_discrete}
use lib.ListN.{get_elem?}
use Rattle.atomic_table.proofs.Lists.{at_set, at_longer, set_else}
use Rattle.asp_turn.specs.declared.view.View.{View}
use Rattle.asp_turn.specs.Rule.{CountsRise, IsCounted}

module _ {A : Type 0} where
  -- what holds of each, where the one at a place has changed
  pub each_set : (P : ℕ → A → Type 0) (vs : List A) (me : ℕ) (v : A) → P me v → ((j : ℕ) (u : A) → j ≢ me → get_elem? vs j ≡ some u → P j u)
      → (j : ℕ) (u : A) → get_elem? (set vs me v) j ≡ some u → P j u
  each_set P vs me v mine others j u at = ⊎_elim (λ (t : (j ≡ me) × (v ≡ u)). subst (λ (x : ℕ × A). P x.0 x.1) (λ i. (sym t.0 i, t.1 i)) mine)
      (λ (t : (j ≢ me) × (get_elem? vs j ≡ some u)). others j u t.0 t.1) (at_set vs me j v u at)

  at_end : (vs : List A) (v : A) (j : ℕ) (u : A) → get_elem? (vs ++ v ∷ []) j ≡ some u → (get_elem? vs j ≡ some u) ⊎ ((v ≡ u) × (length vs ≤ j))
  at_end [] v zero u at = inr (some-injective v u at, omega arith)
  at_end [] v (suc j) u at = absurd (some-ne-none u (sym at))
  at_end (x ∷ xs) v zero u at = inl at
  at_end (x ∷ xs) v (suc j) u at = ⊎_elim (λ (t : get_elem? xs j ≡ some u). inl t) (λ (t : (v ≡ u) × (length xs ≤ j)). inr (t.0, omega arith)) (at_end xs v j u at)

  -- what holds of each, where one has come behind the others
  pub each_snoc : (P : ℕ → A → Type 0) (vs : List A) (v : A) → ((j : ℕ) → length vs ≤ j → P j v) → ((j : ℕ) (u : A) → get_elem? vs j ≡ some u → P j u)
      → (j : ℕ) (u : A) → get_elem? (vs ++ v ∷ []) j ≡ some u → P j u
  each_snoc P vs v mine others j u at = ⊎_elim (λ (t : get_elem? vs j ≡ some u). others j u t) (λ (t : (v ≡ u) × (length vs ≤ j)). subst (λ (x : A). P j x) t.0 (mine j t.1)) (at_end vs v j u at)

  pub each_one : (P : ℕ → A → Type 0) (v : A) → P 0 v → (j : ℕ) (u : A) → get_elem? (v ∷ []) j ≡ some u → P j u
  each_one P v p zero u at = subst (λ (x : A). P 0 x) (some-injective v u at) p
  each_one P v p (suc j) u at = absurd (some-ne-none u (sym at))

  pub set_there : (vs : List A) (i : ℕ) (v w : A) → get_elem? vs i ≡ some v → get_elem? (set vs i w) i ≡ some w
  set_there [] i v w at = absurd (some-ne-none v (sym at))
  set_there (x ∷ xs) zero v w at = refl
  set_there (x ∷ xs) (suc i) v w at = set_there xs i v w at

  read_at : (f : A → ℕ) (vs : List A) (j : ℕ) (u : A) → get_elem? vs j ≡ some u → get_or (map f vs) j 0 ≡ f u
  read_at f [] j u at = absurd (some-ne-none u (sym at))
  read_at f (x ∷ xs) zero u at = ap f (some-injective x u at)
  read_at f (x ∷ xs) (suc j) u at = read_at f xs j u at

  length_of_map : (f : A → ℕ) (vs : List A) → length (map f vs) ≡ length vs
  length_of_map f [] = refl
  length_of_map f (x ∷ xs) = ap suc (length_of_map f xs)

past_end : (xs : List ℕ) (j : ℕ) → length xs ≤ j → get_or xs j 0 ≡ 0
past_end [] j h = refl
past_end (x ∷ xs) zero h = absurd (omega arith)
past_end (x ∷ xs) (suc j) h = past_end xs j (omega arith)

module _ {W I : Type 0} where
  abbrev pub counts_of : List (View W I) → List ℕ
  counts_of vs = map (λ (v : View W I). v.refused) vs

  -- a seat's own count may rise, and what it has counted stays
  pub rises_set : (vs : List (View W I)) (me : ℕ) (v w : View W I) → CountsRise vs → get_elem? vs me ≡ some v → w.counted ≡ v.counted → v.refused ≤ w.refused → CountsRise (set vs me w)
  rises_set vs me v w r at same more = let n : length (set vs me w) ≡ length vs = length-set vs me w in
      let mine : (j : ℕ) (x : View W I) → get_elem? vs j ≡ some x → get_or w.counted j 0 ≤ x.refused = λ j x a. subst (λ (xs : List ℕ). get_or xs j 0 ≤ x.refused) (sym same) (r.below me v at j x a) in
      record {
        within = each_set (λ (_ : ℕ) (u : View W I). length u.counted ≤ length (set vs me w)) vs me w
            (subst (λ (k : ℕ). length w.counted ≤ k) (sym n) (subst (λ (xs : List ℕ). length xs ≤ length vs) (sym same) (r.within me v at)))
            (λ j u _ a. subst (λ (k : ℕ). length u.counted ≤ k) (sym n) (r.within j u a));
        below = each_set (λ (_ : ℕ) (u : View W I). (j : ℕ) (x : View W I) → get_elem? (set vs me w) j ≡ some x → get_or u.counted j 0 ≤ x.refused) vs me w
            (each_set (λ (j : ℕ) (x : View W I). get_or w.counted j 0 ≤ x.refused) vs me w (let h = mine me v at in omega arith) (λ j x _ a. mine j x a))
            (λ k u _ b. each_set (λ (j : ℕ) (x : View W I). get_or u.counted j 0 ≤ x.refused) vs me w (let h = r.below k u b me v at in omega arith) (λ j x _ a. r.below k u b j x a));
      }

  -- a seat counts the refused takes of all
  pub rises_counting : (vs : List (View W I)) (me : ℕ) (v w : View W I) → CountsRise vs → get_elem? vs me ≡ some v → w.counted ≡ counts_of vs → w.refused ≡ v.refused → CountsRise (set vs me w)
  rises_counting vs me v w r at all same = let n : length (set vs me w) ≡ length vs = length-set vs me w in
      let f : View W I → ℕ = λ x. x.refused in
      let mine : (j : ℕ) (x : View W I) → get_elem? vs j ≡ some x → get_or w.counted j 0 ≡ x.refused = λ j x a. ap (λ (xs : List ℕ). get_or xs j 0) all ∙ read_at f vs j x a in
      record {
        within = each_set (λ (_ : ℕ) (u : View W I). length u.counted ≤ length (set vs me w)) vs me w
            (let h : length w.counted ≡ length vs = ap length all ∙ length_of_map f vs in omega arith)
            (λ j u _ a. subst (λ (k : ℕ). length u.counted ≤ k) (sym n) (r.within j u a));
        below = each_set (λ (_ : ℕ) (u : View W I). (j : ℕ) (x : View W I) → get_elem? (set vs me w) j ≡ some x → get_or u.counted j 0 ≤ x.refused) vs me w
            (each_set (λ (j : ℕ) (x : View W I). get_or w.counted j 0 ≤ x.refused) vs me w (let h = mine me v at in omega arith) (λ j x _ a. let h = mine j x a in omega arith))
            (λ k u _ b. each_set (λ (j : ℕ) (x : View W I). get_or u.counted j 0 ≤ x.refused) vs me w (let h = r.below k u b me v at in omega arith) (λ j x _ a. r.below k u b j x a));
      }

  -- a new seat was never refused and has counted nothing
  pub rises_snoc : (vs : List (View W I)) (w : View W I) → CountsRise vs → w.counted ≡ [] → w.refused ≡ 0 → CountsRise (vs ++ w ∷ [])
  rises_snoc vs w r none none_refused = let n : length (vs ++ w ∷ []) ≡ length vs + 1 = length-append vs (w ∷ []) in record {
    within = each_snoc (λ (_ : ℕ) (u : View W I). length u.counted ≤ length (vs ++ w ∷ [])) vs w
        (λ _ _. let h : length w.counted ≡ 0 = ap length none in omega arith)
        (λ j u a. let h = r.within j u a in omega arith);
    below = each_snoc (λ (_ : ℕ) (u : View W I). (j : ℕ) (x : View W I) → get_elem? (vs ++ w ∷ []) j ≡ some x → get_or u.counted j 0 ≤ x.refused) vs w
        (λ _ _ j x _. let h : get_or w.counted j 0 ≡ 0 = ap (λ (xs : List ℕ). get_or xs j 0) none in omega arith)
        (λ k u b. each_snoc (λ (j : ℕ) (x : View W I). get_or u.counted j 0 ≤ x.refused) vs w
        (λ j far. let h = r.within k u b in let z : get_or u.counted j 0 ≡ 0 = past_end u.counted j (omega arith) in omega arith)
        (λ j x a. r.below k u b j x a));
  }

  -- a seat stays counted where another's view changes, and what that one has counted stays
  pub counted_set : (vs : List (View W I)) (me : ℕ) (v w : View W I) (seat : ℕ) (x : View W I) → get_elem? vs me ≡ some v → w.counted ≡ v.counted → IsCounted vs seat x → IsCounted (set vs me w) seat x
  counted_set vs me v w seat x at same c = ⊎_elim (λ (none : x.refused ≡ 0). inl none)
      (λ (t : (by : ℕ) × (by ≢ seat) × (u : View W I) × (get_elem? vs by ≡ some u) × (x.refused ≤ get_or u.counted seat 0)).
      dite (ℕ_discrete t.0 me)
      (λ e. let here : v ≡ t.2 = some-injective v t.2 (sym at ∙ (ap (λ (k : ℕ). get_elem? vs k) (sym e) ∙ t.3)) in
      let counts : w.counted ≡ t.2.counted = same ∙ ap (λ (u : View W I). u.counted) here in
      inr (t.0, t.1, w, subst (λ (k : ℕ). get_elem? (set vs me w) k ≡ some w) (sym e) (set_there vs me v w at), subst (λ (xs : List ℕ). x.refused ≤ get_or xs seat 0) (sym counts) t.4))
      (λ ne. inr (t.0, t.1, t.2, set_else vs me t.0 w ne ∙ t.3, t.4))) c

  -- it depends on the others alone
  pub counted_self : (vs : List (View W I)) (me : ℕ) (v w : View W I) → w.refused ≡ v.refused → IsCounted vs me v → IsCounted (set vs me w) me w
  counted_self vs me v w same c = ⊎_elim (λ (none : v.refused ≡ 0). inl (same ∙ none))
      (λ (t : (by : ℕ) × (by ≢ me) × (u : View W I) × (get_elem? vs by ≡ some u) × (v.refused ≤ get_or u.counted me 0)).
      inr (t.0, t.1, t.2, set_else vs me t.0 w t.1 ∙ t.3, subst (λ (k : ℕ). k ≤ get_or t.2.counted me 0) (sym same) t.4)) c

  pub counted_snoc : (vs : List (View W I)) (w : View W I) (seat : ℕ) (x : View W I) → IsCounted vs seat x → IsCounted (vs ++ w ∷ []) seat x
  counted_snoc vs w seat x c = ⊎_elim (λ (none : x.refused ≡ 0). inl none)
      (λ (t : (by : ℕ) × (by ≢ seat) × (u : View W I) × (get_elem? vs by ≡ some u) × (x.refused ≤ get_or u.counted seat 0)).
      inr (t.0, t.1, t.2, at_longer vs (w ∷ []) t.0 t.2 t.3, t.4)) c

  -- who has counted all has counted each other seat
  pub counted_by : (vs : List (View W I)) (me : ℕ) (v w : View W I) (seat : ℕ) (x : View W I) → get_elem? vs me ≡ some v → w.counted ≡ counts_of vs → seat ≢ me → get_elem? vs seat ≡ some x → IsCounted (set vs me w) seat x
  counted_by vs me v w seat x at all ne there = let f : View W I → ℕ = λ y. y.refused in
      let count : get_or w.counted seat 0 ≡ x.refused = ap (λ (xs : List ℕ). get_or xs seat 0) all ∙ read_at f vs seat x there in
      inr (me, (λ e. ne (sym e)), w, set_there vs me v w at, omega arith)

  -- where a seat is counted before and after its own step, its count has stayed
  pub count_stays : (vs : List (View W I)) (me : ℕ) (v w : View W I) → get_elem? vs me ≡ some v → CountsRise vs → CountsRise (set vs me w) → IsCounted vs me v → IsCounted (set vs me w) me w → w.refused ≡ v.refused
  count_stays vs me v w at r r' c c' =
      let no_more : w.refused ≤ v.refused = ⊎_elim (λ (none : w.refused ≡ 0). omega arith)
      (λ (t : (by : ℕ) × (by ≢ me) × (u : View W I) × (get_elem? (set vs me w) by ≡ some u) × (w.refused ≤ get_or u.counted me 0)).
      let h = r.below t.0 t.2 (sym (set_else vs me t.0 w t.1) ∙ t.3) me v at in omega (arith, t.4)) c' in
      let no_less : v.refused ≤ w.refused = ⊎_elim (λ (none : v.refused ≡ 0). omega arith)
      (λ (t : (by : ℕ) × (by ≢ me) × (u : View W I) × (get_elem? vs by ≡ some u) × (v.refused ≤ get_or u.counted me 0)).
      let h = r'.below t.0 t.2 (set_else vs me t.0 w t.1 ∙ t.3) me w (set_there vs me v w at) in omega (arith, t.4)) c in
      omega arith
