-- What fixing an outer move does: each move agrees with it on the base below, and where another outer move agrees with it on
-- the atoms of the rules, the moves after the two are the same but for the other atoms of that base.
use Rattle.std.proofs.Common.{ℕ, ◌-◌, ◌<◌, ◌≡◌, refl, sym, ◌∙◌, ap, subst, inl, inr, Bool, true, false, not, ◌&&◌, ◌||◌, cond, List, [], ◌∷◌, ◌++◌, map, nat_lt}
use Rattle.std.specs.List.{list_any, list_all, filter}
use Rattle.std.proofs.lemmas.Bool.{lt-ltb}
use Rattle.asp_defs.specs.declared.ground.GroundRule.{GroundRule}
use Rattle.asp_defs.specs.declared.ground.Game.{Game}
use Rattle.asp_defs.specs.Lists.{IsIn}
use Rattle.asp_defs.specs.Interpretations.{holds, subsets}
use Rattle.asp_defs.specs.Truth.{body_true, satisfies, is_model}
use Rattle.asp_defs.specs.Bounds.{meets_all}
use Rattle.asp_defs.specs.AnswerSets.{is_answer_set, is_bounded_answer_set}
use Rattle.asp_defs.specs.Unfounded.{supports, is_unfounded}
use Rattle.asp_defs.specs.Games.{base, rules_of, bounds_of, rule_atoms, ascends, within, is_subset}
use Rattle.asp_defs.specs.Values.{fact, denial, fix, moves}
use Rattle.asp_defs.specs.Laws.{MovesAgree}
use Rattle.asp_defs.proofs.Lists.{and_true, true_or_false, not_true, not_false, all_at, all_from, any_at, any_from, filter_at, filter_from, append_at, append_left, append_right, map_at, map_from}
use Rattle.asp_defs.proofs.Subsets.{true_is_not_false, holds_at, holds_from, subset_at, subset-member, filter-subset, ascends-tail, ascends-member}
use Rattle.asp_defs.proofs.AnswerSetLaws.{answer_set-satisfies, bounded_at, bounded_from}
use Rattle.asp_defs.proofs.FoundedLaws.{supports_at, supports_from, all_false, founded_from_minimal, answer_set_from_founded}
use Rattle.asp_defs.proofs.CellLaws.{subset_from}

-- ---- truth values and ascending lists

-- two tests are the same where each follows from the other
pub same_test : (a b : Bool) → (a ≡ true → b ≡ true) → (b ≡ true → a ≡ true) → a ≡ b
same_test true b h back = sym (h refl)
same_test false true h back = back refl
same_test false false h back = refl

pub all-alike : {A : Type 0} (p q : A → Bool) (xs : List A) → ((x : A) → IsIn x xs → p x ≡ q x) → list_all p xs ≡ list_all q xs
all-alike p q [] h = refl
all-alike p q (y ∷ ys) h =
    let here : p y ≡ q y = h y (inl refl) in
    let more : list_all p ys ≡ list_all q ys = all-alike p q ys (λ x i. h x (inr i)) in
    rw (here, more) refl

pub any-alike : {A : Type 0} (p q : A → Bool) (xs : List A) → ((x : A) → IsIn x xs → p x ≡ q x) → list_any p xs ≡ list_any q xs
any-alike p q [] h = refl
any-alike p q (y ∷ ys) h =
    let here : p y ≡ q y = h y (inl refl) in
    let more : list_any p ys ≡ list_any q ys = any-alike p q ys (λ x i. h x (inr i)) in
    rw (here, more) refl

-- an atom that isn't a member doesn't hold
pub holds_not : (I : List ℕ) (a : ℕ) → (IsIn a I → ⊥) → holds I a ≡ false
holds_not I a h = elim (true_or_false (holds I a)) [
  | inl inside ↦ absurd (h (holds_at I a inside))
  | inr outside ↦ outside
]

pub ascends_from : (b : ℕ) (I : List ℕ) → ascends I ≡ true → ((x : ℕ) → IsIn x I → b < x) → ascends (b ∷ I) ≡ true
ascends_from b [] up h = refl
ascends_from b (c ∷ I) up h = and_true (nat_lt b c) (ascends (c ∷ I)) (lt-ltb b c (h c (inl refl))) up

-- a subset of an ascending base ascends
pub subset-ascends : (B J : List ℕ) → ascends B ≡ true → IsIn J (subsets B) → ascends J ≡ true
subset-ascends [] J up (inl e) = rw e refl
subset-ascends [] J up (inr i) = absurd i
subset-ascends (b ∷ B) J up i = elim (subset_at b B J i) [
  | inl inside ↦ subset-ascends B J (ascends-tail b B up) inside
  | inr begins ↦
      subst (λ (K : List ℕ). ascends K ≡ true) (sym begins.2)
      (ascends_from b begins.0 (subset-ascends B begins.0 (ascends-tail b B up) begins.1) (λ x member.
      ascends-member b B x up (subset-member B begins.0 x begins.1 member)))
]

-- a subset of an ascending base is one by its test
pub is_subset_from : (B J : List ℕ) → ascends B ≡ true → IsIn J (subsets B) → is_subset J B ≡ true
is_subset_from B J up i =
    and_true (ascends J) (within J B) (subset-ascends B J up i) (all_from (holds B) J (λ a member. holds_from B a (subset-member B J a i member)))

-- ---- fixing

-- the rules that fix an outer move
pub fact_from : (B M : List ℕ) (a : ℕ) → IsIn a M → IsIn (fact a) (fix B M)
fact_from B M a i = append_left (map fact M) (map denial (filter (λ a. not (holds M a)) B)) (fact a) (map_from fact M a i)

pub denial_from : (B M : List ℕ) (a : ℕ) → IsIn a B → holds M a ≡ false → IsIn (denial a) (fix B M)
denial_from B M a i outside =
    append_right (map fact M) (map denial (filter (λ a. not (holds M a)) B)) (denial a)
    (map_from denial (filter (λ a. not (holds M a)) B) a (filter_from (λ a. not (holds M a)) B a i (not_false _ outside)))

-- a rule that fixes an outer move is the fact of an atom of it, or the denial of another atom of the base
pub data Fixes (B M : List ℕ) (r : GroundRule) : Type 0 where
  is_fact : (a : ℕ) → IsIn a M → r ≡ fact a → Fixes B M r
  is_denial : (a : ℕ) → IsIn a B → holds M a ≡ false → r ≡ denial a → Fixes B M r

pub fixes_at : (B M : List ℕ) (r : GroundRule) → IsIn r (fix B M) → Fixes B M r
fixes_at B M r i = elim (append_at (map fact M) (map denial (filter (λ a. not (holds M a)) B)) r i) [
  | inl true_one ↦ let found = map_at fact M r true_one in is_fact found.0 found.1 found.2
  | inr false_one ↦
      let found = map_at denial (filter (λ a. not (holds M a)) B) r false_one in
      let member = filter_at (λ a. not (holds M a)) B found.0 found.1 in
      is_denial found.0 member.0 (not_true _ member.1) found.2
]

-- what a fact and a denial say
pub fact-says : (t : Bool) → t || false ≡ true → t ≡ true
fact-says true h = refl
fact-says false h = h

pub fact-says_from : (t : Bool) → t ≡ true → t || false ≡ true
fact-says_from true h = refl
fact-says_from false h = h

pub denial-says : (t : Bool) → not ((t && true) && true) || false ≡ true → t ≡ false
denial-says true h = sym h
denial-says false h = refl

pub denial-says_from : (t : Bool) → t ≡ false → not ((t && true) && true) || false ≡ true
denial-says_from true h = sym h
denial-says_from false h = refl

-- an answer set with an outer move fixed agrees with that move on the base below
pub answer-agrees : (G : List GroundRule) (B M N : List ℕ) → is_answer_set (G ++ fix B M) N ≡ true → (a : ℕ) → IsIn a B → holds N a ≡ holds M a
answer-agrees G B M N answer a i =
    let model : is_model N (G ++ fix B M) ≡ true = answer_set-satisfies (G ++ fix B M) N answer in
    elim (true_or_false (holds M a)) [
      | inl inside ↦
          fact-says (holds N a) (all_at (satisfies N) (G ++ fix B M) (fact a) model (append_right G (fix B M) (fact a) (fact_from B M a (holds_at M a inside)))) ∙ sym inside
      | inr outside ↦
          denial-says (holds N a) (all_at (satisfies N) (G ++ fix B M) (denial a) model (append_right G (fix B M) (denial a) (denial_from B M a i outside))) ∙ sym outside
    ]

-- a move is a subset of the level's base that is an answer set of the rules with the outer move fixed, and meets the bounds
pub move-answer : (g : Game) (i : ℕ) (M N : List ℕ) → IsIn N (moves g i M) → IsIn N (subsets (base g i)) × (is_answer_set (rules_of g i ++ fix (base g (i - 1)) M) N ≡ true) × (meets_all N (bounds_of g i) ≡ true)
move-answer g i M N move =
    let G = rules_of g i ++ fix (base g (i - 1)) M in
    let found = filter_at (is_bounded_answer_set G (bounds_of g i)) (subsets (base g i)) N move in
    let parts = bounded_at G (bounds_of g i) N found.1 in
    (found.0, parts.0, parts.1)

pub move_from : (g : Game) (i : ℕ) (M N : List ℕ) → IsIn N (subsets (base g i)) → is_answer_set (rules_of g i ++ fix (base g (i - 1)) M) N ≡ true → meets_all N (bounds_of g i) ≡ true → IsIn N (moves g i M)
move_from g i M N inside answer met =
    let G = rules_of g i ++ fix (base g (i - 1)) M in
    filter_from (is_bounded_answer_set G (bounds_of g i)) (subsets (base g i)) N inside (bounded_from G (bounds_of g i) N answer met)

pub moves_agree : MovesAgree
moves_agree g i M N a move inside =
    answer-agrees (rules_of g i) (base g (i - 1)) M N ((move-answer g i M N move).1) a (holds_at (base g (i - 1)) a inside)

-- ---- rules on whose atoms two interpretations agree

abbrev Alike : List ℕ → List ℕ → GroundRule → Type 0
Alike I J r = (a : ℕ) → IsIn a (rule_atoms r) → holds I a ≡ holds J a

alike-head : (I J : List ℕ) (r : GroundRule) → Alike I J r → (a : ℕ) → IsIn a r.head → holds I a ≡ holds J a
alike-head I J r h a i = h a (append_left r.head (r.pos ++ r.neg) a i)

alike-pos : (I J : List ℕ) (r : GroundRule) → Alike I J r → (a : ℕ) → IsIn a r.pos → holds I a ≡ holds J a
alike-pos I J r h a i = h a (append_right r.head (r.pos ++ r.neg) a (append_left r.pos r.neg a i))

alike-neg : (I J : List ℕ) (r : GroundRule) → Alike I J r → (a : ℕ) → IsIn a r.neg → holds I a ≡ holds J a
alike-neg I J r h a i = h a (append_right r.head (r.pos ++ r.neg) a (append_right r.pos r.neg a i))

body-alike : (I J : List ℕ) (r : GroundRule) → Alike I J r → body_true I r ≡ body_true J r
body-alike I J r h =
    let pos : list_all (holds I) r.pos ≡ list_all (holds J) r.pos = all-alike (holds I) (holds J) r.pos (alike-pos I J r h) in
    let neg : list_all (λ a. not (holds I a)) r.neg ≡ list_all (λ a. not (holds J a)) r.neg =
    all-alike (λ a. not (holds I a)) (λ a. not (holds J a)) r.neg (λ a i. ap not (alike-neg I J r h a i)) in
    rw (pos, neg) refl

pub satisfies-alike : (I J : List ℕ) (r : GroundRule) → Alike I J r → satisfies I r ≡ satisfies J r
satisfies-alike I J r h =
    let body : body_true I r ≡ body_true J r = body-alike I J r h in
    let head : list_any (holds I) r.head ≡ list_any (holds J) r.head = any-alike (holds I) (holds J) r.head (alike-head I J r h) in
    rw (body, head) refl

pub supports-alike : (I J U : List ℕ) (r : GroundRule) → Alike I J r → supports I U r ≡ supports J U r
supports-alike I J U r h =
    let body : body_true I r ≡ body_true J r = body-alike I J r h in
    let closed : list_all (λ a. not (holds I a && not (holds U a))) r.head ≡ list_all (λ a. not (holds J a && not (holds U a))) r.head =
    all-alike (λ a. not (holds I a && not (holds U a))) (λ a. not (holds J a && not (holds U a))) r.head (λ a i.
    ap (λ (t : Bool). not (t && not (holds U a))) (alike-head I J r h a i)) in
    rw (body, closed) refl

-- a rule that supports a set shows that it isn't unfounded
pub supported : (G : List GroundRule) (I U : List ℕ) (r : GroundRule) → IsIn r G → supports I U r ≡ true → is_unfounded G I U ≡ false
supported G I U r member s = elim (true_or_false (is_unfounded G I U)) [
  | inl unfounded ↦ absurd (true_is_not_false _ s (not_true _ (all_at (λ r. not (supports I U r)) G r unfounded member)))
  | inr founded ↦ founded
]

-- the fact of an atom of a set supports it
pub fact-supports : (I U : List ℕ) (a : ℕ) → holds U a ≡ true → supports I U (fact a) ≡ true
fact-supports I U a inside =
    supports_from I U (fact a)
    (record {
      head = fact-says_from (holds U a) inside;
      pos = refl;
      neg = refl;
      free = refl;
      closed = all_from (λ b. not (holds I b && not (holds U b))) (a ∷ []) (λ b i.
          elim i [
            | inl same ↦ rw (same, inside) (outside-none (holds I a))
            | inr none ↦ absurd none
          ]);
    })
  where
    outside-none : (t : Bool) → not (t && false) ≡ true
    outside-none true = refl
    outside-none false = refl

-- ---- another outer move that agrees with the first on the atoms of the rules

-- what is known of rules, of a base and the one over it, of two outer moves and of an answer set after the first
pub record Swap (G : List GroundRule) (B over M M' N : List ℕ) : Type 0 where
  pub up : ascends over ≡ true
  pub nested : (a : ℕ) → IsIn a B → IsIn a over
  pub first_inside : (a : ℕ) → IsIn a M → IsIn a B
  pub second_inside : (a : ℕ) → IsIn a M' → IsIn a B
  pub agree : (r : GroundRule) → IsIn r G → (a : ℕ) → IsIn a (rule_atoms r) → IsIn a B → holds M a ≡ holds M' a
  pub within : IsIn N (subsets over)
  pub answer : is_answer_set (G ++ fix B M) N ≡ true

-- the answer set with the second outer move in place of the first
abbrev pub keeps : List ℕ → List ℕ → List ℕ → ℕ → Bool
keeps B M' N a = cond (holds B a) (holds M' a) (holds N a)

abbrev pub swapped : List ℕ → List ℕ → List ℕ → List ℕ → List ℕ
swapped B over M' N = filter (keeps B M' N) over

pub swap-lower : (G : List GroundRule) (B over M M' N : List ℕ) → Swap G B over M M' N → (a : ℕ) → IsIn a B → holds (swapped B over M' N) a ≡ holds M' a
swap-lower G B over M M' N s a i =
    let lower : holds B a ≡ true = holds_from B a i in
    same_test (holds (swapped B over M' N) a) (holds M' a)
    (λ h.
    let kept : keeps B M' N a ≡ true = (filter_at (keeps B M' N) over a (holds_at (swapped B over M' N) a h)).1 in
    subst (λ (t : Bool). cond t (holds M' a) (holds N a) ≡ true) lower kept)
    (λ h.
    holds_from (swapped B over M' N) a
    (filter_from (keeps B M' N) over a (s.nested a i)
    (subst (λ (t : Bool). cond t (holds M' a) (holds N a) ≡ true) (sym lower) h)))

pub swap-upper : (G : List GroundRule) (B over M M' N : List ℕ) → Swap G B over M M' N → (a : ℕ) → holds B a ≡ false → holds (swapped B over M' N) a ≡ holds N a
swap-upper G B over M M' N s a upper =
    same_test (holds (swapped B over M' N) a) (holds N a)
    (λ h.
    let kept : keeps B M' N a ≡ true = (filter_at (keeps B M' N) over a (holds_at (swapped B over M' N) a h)).1 in
    subst (λ (t : Bool). cond t (holds M' a) (holds N a) ≡ true) upper kept)
    (λ h.
    holds_from (swapped B over M' N) a
    (filter_from (keeps B M' N) over a (subset-member over N a s.within (holds_at N a h))
    (subst (λ (t : Bool). cond t (holds M' a) (holds N a) ≡ true) (sym upper) h)))

-- an atom on which the two outer moves agree, if it is one of the lower base, is in both answer sets or in neither
pub swap-same : (G : List GroundRule) (B over M M' N : List ℕ) → Swap G B over M M' N → (a : ℕ) → (IsIn a B → holds M a ≡ holds M' a) → holds N a ≡ holds (swapped B over M' N) a
swap-same G B over M M' N s a same = elim (true_or_false (holds B a)) [
  | inl lower ↦
      let i : IsIn a B = holds_at B a lower in
      answer-agrees G B M N s.answer a i ∙ same i ∙ sym (swap-lower G B over M M' N s a i)
  | inr upper ↦ sym (swap-upper G B over M M' N s a upper)
]

swap-rule : (G : List GroundRule) (B over M M' N : List ℕ) → Swap G B over M M' N → (r : GroundRule) → IsIn r G → Alike N (swapped B over M' N) r
swap-rule G B over M M' N s r member a i = swap-same G B over M M' N s a (s.agree r member a i)

swap-model : (G : List GroundRule) (B over M M' N : List ℕ) → Swap G B over M M' N → is_model (swapped B over M' N) (G ++ fix B M') ≡ true
swap-model G B over M M' N s =
    all_from (satisfies (swapped B over M' N)) (G ++ fix B M') (λ r i.
    elim (append_at G (fix B M') r i) [
      | inl plain ↦
          sym (satisfies-alike N (swapped B over M' N) r (swap-rule G B over M M' N s r plain))
          ∙ all_at (satisfies N) (G ++ fix B M) r (answer_set-satisfies (G ++ fix B M) N s.answer) (append_left G (fix B M) r plain)
      | inr fixing ↦ elim (fixes_at B M' r fixing) [
        | is_fact a inside same ↦
            rw same (fact-says_from (holds (swapped B over M' N) a) (swap-lower G B over M M' N s a (s.second_inside a inside) ∙ holds_from M' a inside))
        | is_denial a lower outside same ↦
            rw same (denial-says_from (holds (swapped B over M' N) a) (swap-lower G B over M M' N s a lower ∙ outside))
      ]
    ])

-- a set with an atom of the lower base is supported by that atom's fact
swap-founded_lower : (G : List GroundRule) (B over M M' N U : List ℕ) (b : ℕ) → Swap G B over M M' N → IsIn U (subsets (swapped B over M' N)) → IsIn b U → IsIn b B → is_unfounded (G ++ fix B M') (swapped B over M' N) U ≡ false
swap-founded_lower G B over M M' N U b s inside member lower =
    let new = swapped B over M' N in
    let true_one : holds M' b ≡ true =
    sym (swap-lower G B over M M' N s b lower) ∙ holds_from new b (subset-member new U b inside member) in
    supported (G ++ fix B M') new U (fact b) (append_right G (fix B M') (fact b) (fact_from B M' b (holds_at M' b true_one)))
    (fact-supports new U b (holds_from U b member))

-- a set without one is supported by the rule that supports it in the first answer set
swap-founded_upper : (G : List GroundRule) (B over M M' N : List ℕ) (u : ℕ) (U : List ℕ) → Swap G B over M M' N → IsIn (u ∷ U) (subsets (swapped B over M' N)) → ((b : ℕ) → IsIn b (u ∷ U) → holds B b ≡ false) → is_unfounded (G ++ fix B M') (swapped B over M' N) (u ∷ U) ≡ false
swap-founded_upper G B over M M' N u U s inside upper =
    let new = swapped B over M' N in
    let new_up : ascends new ≡ true = subset-ascends over new s.up (filter-subset (keeps B M' N) over) in
    let old : IsIn (u ∷ U) (subsets N) =
    subset_from N (u ∷ U) (subset-ascends over N s.up s.within) (subset-ascends new (u ∷ U) new_up inside) (λ b i.
    holds_at N b (sym (swap-upper G B over M M' N s b (upper b i)) ∙ holds_from new b (subset-member new (u ∷ U) b inside i))) in
    let found = all_false (λ r. not (supports N (u ∷ U) r)) (G ++ fix B M) (founded_from_minimal (G ++ fix B M) N u U s.answer old) in
    let support : supports N (u ∷ U) found.0 ≡ true = elim (true_or_false (supports N (u ∷ U) found.0)) [
      | inl it_does ↦ it_does
      | inr fails ↦ absurd (true_is_not_false _ (not_false _ fails) found.2)
    ] in
    elim (append_at G (fix B M) found.0 found.1) [
      | inl plain ↦
          supported (G ++ fix B M') new (u ∷ U) found.0 (append_left G (fix B M') found.0 plain)
          (sym (supports-alike N new (u ∷ U) found.0 (swap-rule G B over M M' N s found.0 plain)) ∙ support)
      | inr fixing ↦ absurd (no_fix found.0 (fixes_at B M found.0 fixing) (supports_at N (u ∷ U) found.0 support).head)
    ]
  where
    no_fix : (r : GroundRule) → Fixes B M r → list_any (holds (u ∷ U)) r.head ≡ true → ⊥
    no_fix r (is_fact a true_one same) head =
        let hit : holds (u ∷ U) a ≡ true = fact-says (holds (u ∷ U) a) (subst (λ (q : GroundRule). list_any (holds (u ∷ U)) q.head ≡ true) same head) in
        true_is_not_false _ (holds_from B a (s.first_inside a true_one)) (upper a (holds_at (u ∷ U) a hit))
    no_fix r (is_denial a lower outside same) head =
        true_is_not_false _ (subst (λ (q : GroundRule). list_any (holds (u ∷ U)) q.head ≡ true) same head) refl

swap-founded : (G : List GroundRule) (B over M M' N : List ℕ) → Swap G B over M M' N → (u : ℕ) (U : List ℕ) → IsIn (u ∷ U) (subsets (swapped B over M' N)) → is_unfounded (G ++ fix B M') (swapped B over M' N) (u ∷ U) ≡ false
swap-founded G B over M M' N s u U inside = elim (true_or_false (list_any (holds B) (u ∷ U))) [
  | inl some ↦
      let found = any_at (holds B) (u ∷ U) some in
      swap-founded_lower G B over M M' N (u ∷ U) found.0 s inside found.1 (holds_at B found.0 found.2)
  | inr none ↦
      swap-founded_upper G B over M M' N u U s inside (λ b i.
      elim (true_or_false (holds B b)) [
        | inl lower ↦ absurd (true_is_not_false _ (any_from (holds B) (u ∷ U) b i lower) none)
        | inr upper ↦ upper
      ])
]

-- the answer set with the second outer move in place of the first is one after the second
pub swap-inside : (B over M' N : List ℕ) → IsIn (swapped B over M' N) (subsets over)
swap-inside B over M' N = filter-subset (keeps B M' N) over

pub swap-answer : (G : List GroundRule) (B over M M' N : List ℕ) → Swap G B over M M' N → is_answer_set (G ++ fix B M') (swapped B over M' N) ≡ true
swap-answer G B over M M' N s =
    answer_set_from_founded (G ++ fix B M') (swapped B over M' N) (subset-ascends over (swapped B over M' N) s.up (swap-inside B over M' N)) (swap-model G B over M M' N s) (swap-founded G B over M M' N s)
