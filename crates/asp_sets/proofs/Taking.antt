-- What is taken off the end of a text, the last numbers first, is the first subset of a base whose text it is.
use Rattle.std.proofs.Common.{ℕ, ◌≡◌, refl, sym, ◌∙◌, ap, subst, inl, inr, ◌⊎◌, Bool, true, false, not, arith, List, [], ◌∷◌, ◌++◌, map, append_assoc, append-nil, Some, None}
use Rattle.std.specs.Prelude.{◌==◌, bytes_eq, option_map, cond}
use Rattle.std.specs.Option.{option_or}
use Rattle.std.specs.List.{flat_map, find}
use Rattle.std.proofs.lemmas.List.Folds.{find-append}
use Rattle.asp_defs.specs.Lists.{IsIn}
use Rattle.asp_defs.specs.Interpretations.{subsets}
use Rattle.asp_defs.proofs.Lists.{both, append_left, append_right, map_from}
use Rattle.asp_defs.proofs.Subsets.{subset_at, subset-member}
use Rattle.asp_sets.specs.Readable.{is_solid}
use Rattle.asp_sets.specs.Taking.{Takes}
use Rattle.asp_sets.proofs.Ends.{head_same, tail_same, not_nil, cancel_left, cancel_right, two_cuts}
use lib.Pointwise.{bytes_decides}

-- ---- what is shown of a number: a comma, a blank, and a text without one

pub record IsShown (text : List ℕ) : Type 0 where
  pub name : List ℕ
  pub is : text ≡ 44 ∷ 32 ∷ name
  pub solid : is_solid name ≡ true

abbrev pub AreShown : (ℕ → List ℕ) → List ℕ → Type 0
AreShown shown base = (k : ℕ) → IsIn k base → IsShown (shown k)

-- the first numbers' texts in a row are none, or begin with a comma and a blank
abbrev pub Begins : List ℕ → Type 0
Begins text = (text ≡ []) ⊎ ((rest : List ℕ) × (text ≡ 44 ∷ 32 ∷ rest))

pub begins_each : (shown : ℕ → List ℕ) (I : List ℕ) → ((k : ℕ) → IsIn k I → IsShown (shown k)) → Begins (flat_map shown I)
begins_each shown [] h = inl refl
begins_each shown (k ∷ I) h =
    let first = h k (inl refl) in inr (first.name ++ flat_map shown I, ap (λ l. l ++ flat_map shown I) first.is)

begins : (shown : ℕ → List ℕ) (base I : List ℕ) → AreShown shown base → IsIn I (subsets base) → Begins (flat_map shown I)
begins shown base I h i = begins_each shown I (λ k m. h k (subset-member base I k i m))

no_blank : (bs : List ℕ) → is_solid (32 ∷ bs) ≡ true → ⊥
no_blank bs h = absurd (cc)

solid_rest : (b : ℕ) (bs : List ℕ) → is_solid (b ∷ bs) ≡ true → is_solid bs ≡ true
solid_rest b bs h = (both (not (b == 32)) (is_solid bs) h).1

solid_behind : (w u : List ℕ) → is_solid (w ++ u) ≡ true → is_solid u ≡ true
solid_behind [] u h = h
solid_behind (b ∷ w) u h = solid_behind w u (solid_rest b (w ++ u) h)

-- no text in a row begins with a blank
not_blank : (text rest : List ℕ) → Begins text → text ≡ 32 ∷ rest → ⊥
not_blank text rest (inl e) f = not_nil 32 rest (sym f ∙ e)
not_blank text rest (inr (more, e)) f = let same = head_same 32 44 rest (32 ∷ more) (sym f ∙ e) in absurd (omega (arith, same))

-- bytes without a blank, and texts in a row behind them, are no texts in a row
no_begin : (u behind whole : List ℕ) → is_solid u ≡ true → Begins behind → Begins whole → u ++ behind ≡ whole → u ≡ []
no_begin [] behind whole solid one two e = refl
no_begin (c ∷ u) behind whole solid one (inl f) e = absurd (not_nil c (u ++ behind) (e ∙ f))
no_begin (c ∷ []) behind whole solid one (inr (rest, f)) e = absurd (not_blank behind rest one (tail_same c 44 behind (32 ∷ rest) (e ∙ f)))
no_begin (c ∷ d ∷ u) behind whole solid one (inr (rest, f)) e =
    let same : d ≡ 32 = head_same d 32 (u ++ behind) rest (tail_same c 44 (d ∷ (u ++ behind)) (32 ∷ rest) (e ∙ f)) in
    absurd (no_blank u (subst (λ b. is_solid (b ∷ u) ≡ true) same (solid_rest c (d ∷ u) solid)))

-- a text of one number isn't cut where texts in a row begin
pub uncut : (w u text behind whole : List ℕ) → IsShown text → w ++ u ≡ text → Begins behind → Begins whole → u ++ behind ≡ whole → (w ≡ []) ⊎ (u ≡ [])
uncut [] u text behind whole h e one two f = inl refl
uncut (a ∷ []) u text behind whole h e one two f =
    let blank : u ≡ 32 ∷ h.name = tail_same a 44 u (32 ∷ h.name) (e ∙ h.is) in
    absurd (not_blank whole (h.name ++ behind) two (sym f ∙ ap (λ l. l ++ behind) blank))
uncut (a ∷ b ∷ w) u text behind whole h e one two f =
    let rest : w ++ u ≡ h.name = tail_same b 32 (w ++ u) h.name (tail_same a 44 (b ∷ (w ++ u)) (32 ∷ h.name) (e ∙ h.is)) in
    inr (no_begin u behind whole (solid_behind w u (subst (λ l. is_solid l ≡ true) (sym rest) h.solid)) one two f)

-- ---- what is taken

-- the text is what is left, and the texts of what was taken
pub taken_texts : (shown : ℕ → List ℕ) (base text left taken : List ℕ) → Takes shown text base left taken → left ++ flat_map shown taken ≡ text
taken_texts shown [] text left taken (e, f) = ap (λ l. left ++ flat_map shown l) f ∙ append-nil left ∙ e
taken_texts shown (k ∷ base) text left taken (mid, later, h, inl (e, f)) =
    ap (λ l. left ++ flat_map shown l) f ∙ sym (append_assoc left (shown k) (flat_map shown later)) ∙ ap (λ l. l ++ flat_map shown later) e
    ∙ taken_texts shown base text mid later h
taken_texts shown (k ∷ base) text left taken (mid, later, h, inr (n, e, f)) =
    ap (λ l. l ++ flat_map shown taken) e ∙ ap (λ l. mid ++ flat_map shown l) f ∙ taken_texts shown base text mid later h

-- what was taken is a subset of the base
pub taken_subset : (shown : ℕ → List ℕ) (base text left taken : List ℕ) → Takes shown text base left taken → IsIn taken (subsets base)
taken_subset shown [] text left taken (e, f) = inl f
taken_subset shown (k ∷ base) text left taken (mid, later, h, inl (e, f)) =
    subst (λ l. IsIn l (subsets (k ∷ base))) (sym f) (append_right (subsets base) (map (λ J. k ∷ J) (subsets base)) (k ∷ later) (map_from (λ J. k ∷ J) (subsets base) later (taken_subset shown base text mid later h)))
taken_subset shown (k ∷ base) text left taken (mid, later, h, inr (n, e, f)) =
    subst (λ l. IsIn l (subsets (k ∷ base))) (sym f) (append_left (subsets base) (map (λ J. k ∷ J) (subsets base)) later (taken_subset shown base text mid later h))

-- no subset whose texts end a text reaches further to the front
module _ (shown : ℕ → List ℕ) (text : List ℕ) where
  -- where one number more is taken, or stands there in the subset
  step : (k : ℕ) (left mid taken later s J u : List ℕ) → IsShown (shown k)
      → ((left ++ shown k ≡ mid) × (taken ≡ k ∷ later)) ⊎ (((before : List ℕ) → before ++ shown k ≡ mid → ⊥) × (left ≡ mid) × (taken ≡ later))
      → Begins (flat_map shown J) → Begins (flat_map shown later) → u ++ flat_map shown J ≡ flat_map shown later → mid ++ u ≡ s ++ shown k
      → (v : List ℕ) × (left ++ v ≡ s)
  step k left mid taken later s J u h takes one two f e = elim (two_cuts mid u s (shown k) e) [
    | inr (w, behind, g) ↦ further w behind takes
    | inl (w, behind, g) ↦ elim (uncut w u (shown k) (flat_map shown J) (flat_map shown later) h g one two f) [
      | inl none ↦ further [] (sym (append-nil s) ∙ ap (λ l. s ++ l) (sym none) ∙ sym behind ∙ sym (append-nil mid)) takes
      | inr none ↦ here (sym (append-nil mid) ∙ ap (λ l. mid ++ l) (sym none) ∙ e) takes
    ]
  ]
    where
      further : (w : List ℕ) → s ≡ mid ++ w
          → ((left ++ shown k ≡ mid) × (taken ≡ k ∷ later)) ⊎ (((before : List ℕ) → before ++ shown k ≡ mid → ⊥) × (left ≡ mid) × (taken ≡ later))
          → (v : List ℕ) × (left ++ v ≡ s)
      further w behind (inl (g, i)) = (shown k ++ w, sym (append_assoc left (shown k) w) ∙ ap (λ l. l ++ w) g ∙ sym behind)
      further w behind (inr (n, g, i)) = (w, ap (λ l. l ++ w) g ∙ sym behind)

      here : mid ≡ s ++ shown k
          → ((left ++ shown k ≡ mid) × (taken ≡ k ∷ later)) ⊎ (((before : List ℕ) → before ++ shown k ≡ mid → ⊥) × (left ≡ mid) × (taken ≡ later))
          → (v : List ℕ) × (left ++ v ≡ s)
      here at (inl (g, i)) = ([], append-nil left ∙ cancel_right left s (shown k) (g ∙ at))
      here at (inr (n, g, i)) = absurd (n s (sym at))

  pub furthest : (base left taken s I : List ℕ) → AreShown shown base → Takes shown text base left taken → IsIn I (subsets base) → s ++ flat_map shown I ≡ text
      → (v : List ℕ) × (left ++ v ≡ s)
  furthest [] left taken s I h (e, f) (inl none) g = ([], append-nil left ∙ e ∙ sym g ∙ ap (λ l. s ++ flat_map shown l) none ∙ append-nil s)
  furthest [] left taken s I h takes (inr i) g = absurd i
  furthest (k ∷ base) left taken s I h (mid, later, takes, how) i g =
      elim (subset_at k base I i) [
        | inl inside ↦ outside (furthest base mid later s I (λ j m. h j (inr m)) takes inside g) how
        | inr (J, inside, e) ↦
            let moved : (s ++ shown k) ++ flat_map shown J ≡ text = append_assoc s (shown k) (flat_map shown J) ∙ ap (λ l. s ++ flat_map shown l) (sym e) ∙ g in
            let (u, f) = furthest base mid later (s ++ shown k) J (λ j m. h j (inr m)) takes inside moved in
            let rest : u ++ flat_map shown J ≡ flat_map shown later =
            cancel_left mid (u ++ flat_map shown J) (flat_map shown later)
            (sym (append_assoc mid u (flat_map shown J)) ∙ ap (λ l. l ++ flat_map shown J) f ∙ moved ∙ sym (taken_texts shown base text mid later takes)) in
            step k left mid taken later s J u (h k (inl refl)) how
            (begins shown base J (λ j m. h j (inr m)) inside)
            (begins shown base later (λ j m. h j (inr m)) (taken_subset shown base text mid later takes)) rest f
      ]
    where
      outside : (v : List ℕ) × (mid ++ v ≡ s)
          → ((left ++ shown k ≡ mid) × (taken ≡ k ∷ later)) ⊎ (((before : List ℕ) → before ++ shown k ≡ mid → ⊥) × (left ≡ mid) × (taken ≡ later))
          → (v : List ℕ) × (left ++ v ≡ s)
      outside (v, e) (inl (f, i)) = (shown k ++ v, sym (append_assoc left (shown k) v) ∙ ap (λ l. l ++ v) f ∙ e)
      outside (v, e) (inr (n, f, i)) = (v, ap (λ l. l ++ v) f ∙ e)

-- what is left in front of a text hides what is taken behind it
pub behind : (shown : ℕ → List ℕ) (s text base left taken : List ℕ) → Takes shown (s ++ text) base (s ++ left) taken → Takes shown text base left taken
behind shown s text [] left taken (e, f) = (cancel_left s left text e, f)
behind shown s text (k ∷ base) left taken (mid, later, h, inl (e, f)) =
    let at : s ++ (left ++ shown k) ≡ mid = sym (append_assoc s left (shown k)) ∙ e in (
      left ++ shown k,
      later,
      behind shown s text base (left ++ shown k) later (subst (λ l. Takes shown (s ++ text) base l later) (sym at) h),
      inl (refl, f),
    )
behind shown s text (k ∷ base) left taken (mid, later, h, inr (n, e, f)) = (
  left,
  later,
  behind shown s text base left later (subst (λ l. Takes shown (s ++ text) base l later) (sym e) h),
  inr (λ before g. n (s ++ before) (append_assoc s before (shown k) ∙ ap (λ l. s ++ l) g ∙ e), refl, f),
)

-- ---- the first subset whose text it is

abbrev pub reads : (ℕ → List ℕ) → List ℕ → List ℕ → Bool
reads shown text I = bytes_eq text (flat_map shown I)

find-map : {A B : Type 0} (p : B → Bool) (f : A → B) (xs : List A) → find p (map f xs) ≡ option_map f (find (λ x. p (f x)) xs)
find-map p f [] = refl
find-map {A} p f (x ∷ xs) = go (p (f x)) (find-map p f xs)
  where
    go : (b : Bool) → find p (map f xs) ≡ option_map f (find (λ x. p (f x)) xs) → cond b (Some (f x)) (find p (map f xs)) ≡ option_map f (cond b (Some x) (find (λ x. p (f x)) xs))
    go true h = refl
    go false h = h

pub find-same : {A : Type 0} (p q : A → Bool) (xs : List A) → ((x : A) → IsIn x xs → p x ≡ q x) → find p xs ≡ find q xs
find-same p q [] h = refl
find-same p q (x ∷ xs) h =
    ap (λ b. cond b (Some x) (find p xs)) (h x (inl refl)) ∙ ap (λ o. cond (q x) (Some x) o) (find-same p q xs (λ y i. h y (inr i)))

pub find-none : {A : Type 0} (p : A → Bool) (xs : List A) → ((x : A) → IsIn x xs → p x ≡ false) → find p xs ≡ None
find-none p [] h = refl
find-none p (x ∷ xs) h = ap (λ b. cond b (Some x) (find p xs)) (h x (inl refl)) ∙ find-none p xs (λ y i. h y (inr i))

-- two tests are equal where each follows from the other
pub same_test : (a b : Bool) → (a ≡ true → b ≡ true) → (b ≡ true → a ≡ true) → a ≡ b
same_test true b f g = sym (f refl)
same_test false true f g = g refl
same_test false false f g = refl

pub falsely : (a : Bool) → (a ≡ true → ⊥) → a ≡ false
falsely true h = absurd (h refl)
falsely false h = refl

-- a text that isn't taken off whole is that of no subset
pub nothing_read : (shown : ℕ → List ℕ) (text base left taken : List ℕ) → AreShown shown base → Takes shown text base left taken → (left ≡ [] → ⊥) → find (reads shown text) (subsets base) ≡ None
nothing_read shown text base left taken h takes some = find-none (reads shown text) (subsets base) (λ I i. falsely (reads shown text I) (λ e.
    let (v, f) = furthest shown text base left taken [] I h takes i (sym ((bytes_decides text (flat_map shown I)).0 e)) in
    some (empty left v f)))
  where
    empty : (left v : List ℕ) → left ++ v ≡ [] → left ≡ []
    empty [] v e = refl
    empty (b ∷ left) v e = absurd (not_nil b (left ++ v) e)

-- a text that is taken off whole is that of what was taken, and of no subset before it
pub whole_read : (shown : ℕ → List ℕ) (base text taken : List ℕ) → AreShown shown base → Takes shown text base [] taken → find (reads shown text) (subsets base) ≡ Some taken
whole_read shown [] text taken h (e, f) = ap (λ l. find (reads shown l) (subsets [])) (sym e) ∙ ap Some (sym f)
whole_read shown (k ∷ base) text taken h (mid, later, takes, inr (n, e, f)) =
    find-append (reads shown text) (subsets base) (map (λ J. k ∷ J) (subsets base))
    ∙ ap (λ o. option_or o (find (reads shown text) (map (λ J. k ∷ J) (subsets base))))
    (whole_read shown base text later (λ j m. h j (inr m)) (subst (λ l. Takes shown text base l later) (sym e) takes) ∙ ap Some (sym f))
whole_read shown (k ∷ base) text taken h (mid, later, takes, inl (e, f)) =
    find-append (reads shown text) (subsets base) (map (λ J. k ∷ J) (subsets base))
    ∙ ap (λ o. option_or o (find (reads shown text) (map (λ J. k ∷ J) (subsets base)))) (nothing_read shown text base mid later (λ j m. h j (inr m)) takes some)
    ∙ find-map (reads shown text) (λ J. k ∷ J) (subsets base)
    ∙ ap (option_map (λ J. k ∷ J)) (find-same (λ J. reads shown text (k ∷ J)) (reads shown (flat_map shown later)) (subsets base) (λ J i. same J)
    ∙ whole_read shown base (flat_map shown later) later (λ j m. h j (inr m)) inner)
    ∙ ap Some (sym f)
  where
    text_is : shown k ++ flat_map shown later ≡ text
    text_is = ap (λ l. l ++ flat_map shown later) e ∙ taken_texts shown base text mid later takes

    some : mid ≡ [] → ⊥
    some none = let first = h k (inl refl) in not_nil 44 (32 ∷ first.name) (sym first.is ∙ e ∙ none)

    inner : Takes shown (flat_map shown later) base [] later
    inner =
        behind shown (shown k) (flat_map shown later) base [] later
        (subst (λ l. Takes shown (shown k ++ flat_map shown later) base l later) (sym (append-nil (shown k) ∙ e))
        (subst (λ l. Takes shown l base mid later) (sym text_is) takes))

    same : (J : List ℕ) → reads shown text (k ∷ J) ≡ reads shown (flat_map shown later) J
    same J =
        same_test (reads shown text (k ∷ J)) (reads shown (flat_map shown later) J)
        (λ g. (bytes_decides (flat_map shown later) (flat_map shown J)).1
        (cancel_left (shown k) (flat_map shown later) (flat_map shown J) (text_is ∙ (bytes_decides text (shown k ++ flat_map shown J)).0 g)))
        (λ g. (bytes_decides text (shown k ++ flat_map shown J)).1 (sym text_is ∙ ap (λ l. shown k ++ l) ((bytes_decides (flat_map shown later) (flat_map shown J)).0 g)))
