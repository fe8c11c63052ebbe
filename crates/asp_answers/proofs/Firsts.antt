-- The first of the moves that are asked for: where a search finds the first assignment, the move that it is comes first.
use Rattle.std.proofs.Common.{◌≡◌, ℕ, zero, suc, ◌-◌, ◌<◌, Bool, true, false, cond, ◌&&◌, ◌||◌, List, [], ◌∷◌, ◌++◌, map, length, get_or, refl, sym, ap, ◌∙◌, subst, inl, inr, arith, append_assoc}
use Rattle.std.specs.List.{filter}
use Rattle.std.proofs.lemmas.Bool.{ne_eqb}
use Rattle.std.proofs.lemmas.List.{map-append}
use Rattle.std.proofs.lemmas.List.Elements.{filter-append}
use Rattle.asp_bits.specs.Places.{true_places}
use Rattle.asp_defs.specs.declared.ground.Lit.{Lit}
use Rattle.asp_defs.specs.Lists.{IsIn}
use Rattle.asp_defs.specs.Interpretations.{holds, subsets}
use Rattle.asp_defs.specs.AnswerSets.{is_bounded_answer_set}
use Rattle.asp_defs.specs.Games.{ascends, base, rules_of, bounds_of}
use Rattle.asp_defs.specs.Entries.{cube_holds}
use Rattle.asp_defs.specs.Values.{fix, moves}
use Rattle.asp_defs.proofs.Lists.{both, and_true, true_or_false, filter_at, filter_from, append_at, append_left, append_right, map_at, map_from}
use Rattle.asp_defs.proofs.Subsets.{true_is_not_false, holds_at, holds_from, subset_at, subset-member, ascends-tail, ascends-member}
use Rattle.asp_search.specs.Meaning.{SatisfiesAll, AllTrue}
use Rattle.asp_search.specs.Found.{assignment_of}
use Rattle.asp_game.specs.State.{MovesState, left_out}
use Rattle.asp_game.specs.Questions.{is_outside, is_open, open_moves}
use Rattle.asp_game.specs.Answers.{IsFirst}
use Rattle.asp_completion.specs.Codes.{codes}
use Rattle.asp_completion.specs.Meanings.{Means}
use Rattle.asp_completion.proofs.Places.{in_at, values_in, values-agree}
use Rattle.asp_completion.proofs.Moves.{move_at, no_members}
use Rattle.asp_completion.proofs.Bases.{AreBases}
use Rattle.asp_answers.specs.Assumptions.{assumed_literals}
use Rattle.asp_answers.proofs.Reading.{holds-places}
use Rattle.asp_answers.proofs.Cores.{assumed-held}

-- the first of a list's members that pass a test, with what stands before it and behind
record Firsts (test : List ℕ → Bool) (sets : List (List ℕ)) (F : List ℕ) : Type 0 where
  front : List (List ℕ)
  back : List (List ℕ)
  whole : sets ≡ front ++ F ∷ back
  before : (N : List ℕ) → IsIn N front → test N ≡ false

-- no subset that passes the test lacks the first atom that F has and that tells them apart
abbrev IsLeast : List ℕ → (List ℕ → Bool) → List ℕ → Type 0
IsLeast B test F =
    (N : List ℕ) → IsIn N (subsets B) → test N ≡ true → (k : ℕ) → k < length B
    → ((j : ℕ) → j < k → holds N (get_or B j 0) ≡ holds F (get_or B j 0)) → holds F (get_or B k 0) ≡ true
    → holds N (get_or B k 0) ≡ true

agree-cons : (a : ℕ) (B : List ℕ) (f g : ℕ → Bool) (k : ℕ) → f a ≡ g a → ((j : ℕ) → j < k → f (get_or B j 0) ≡ g (get_or B j 0))
    → (j : ℕ) → j < suc k → f (get_or (a ∷ B) j 0) ≡ g (get_or (a ∷ B) j 0)
agree-cons a B f g k first rest zero h = first
agree-cons a B f g k first rest (suc j) h = rest j (omega arith)

-- ---- one atom more

module _ (a : ℕ) (B : List ℕ) (up : ascends (a ∷ B) ≡ true) where
  lacks : (N : List ℕ) → IsIn N (subsets B) → holds N a ≡ false
  lacks N i = elim (true_or_false (holds N a)) [
    | inl held ↦ absurd (let below : a < a = ascends-member a B a up (subset-member B N a i (holds_at N a held)) in omega arith)
    | inr h ↦ h
  ]

  has : (N : List ℕ) → holds (a ∷ N) a ≡ true
  has N = holds_from (a ∷ N) a (inl refl)

  other : (N : List ℕ) (k : ℕ) → k < length B → holds (a ∷ N) (get_or B k 0) ≡ holds N (get_or B k 0)
  other N k low =
      let below : a < get_or B k 0 = ascends-member a B (get_or B k 0) up (in_at B k low) in
      ap (λ t. t || holds N (get_or B k 0)) (ne_eqb a (get_or B k 0) (λ (e : a ≡ get_or B k 0). omega arith))

  least-lacks : (test : List ℕ → Bool) (F : List ℕ) → IsIn F (subsets B) → IsLeast (a ∷ B) test F → IsLeast B test F
  least-lacks test F inside least N i passes k low agree found =
      least N (append_left (subsets B) (map (λ J. a ∷ J) (subsets B)) N i) passes (suc k) (omega arith)
      (agree-cons a B (holds N) (holds F) k (lacks N i ∙ sym (lacks F inside)) agree) found

  least-has : (test : List ℕ → Bool) (K : List ℕ) → IsLeast (a ∷ B) test (a ∷ K) → IsLeast B (λ J. test (a ∷ J)) K
  least-has test K least N i passes k low agree found =
      sym (other N k low)
      ∙ least (a ∷ N) (append_right (subsets B) (map (λ J. a ∷ J) (subsets B)) (a ∷ N) (map_from (λ J. a ∷ J) (subsets B) N i)) passes (suc k) (omega arith)
      (agree-cons a B (holds (a ∷ N)) (holds (a ∷ K)) k (has N ∙ sym (has K))
      (λ j h. let within : j < length B = omega arith in other N j within ∙ (agree j h ∙ sym (other K j within))))
      (other K k low ∙ found)

  firsts-lacks : (test : List ℕ → Bool) (F : List ℕ) → Firsts test (subsets B) F → Firsts test (subsets (a ∷ B)) F
  firsts-lacks test F f = record {
    front = f.front;
    back = f.back ++ map (λ J. a ∷ J) (subsets B);
    whole = ap (λ (sets : List (List ℕ)). sets ++ map (λ J. a ∷ J) (subsets B)) f.whole ∙ append_assoc f.front (F ∷ f.back) (map (λ J. a ∷ J) (subsets B));
    before = f.before;
  }

  firsts-has : (test : List ℕ → Bool) (K : List ℕ) → IsLeast (a ∷ B) test (a ∷ K) → Firsts (λ J. test (a ∷ J)) (subsets B) K
      → Firsts test (subsets (a ∷ B)) (a ∷ K)
  firsts-has test K least f =
      let with_atom : List (List ℕ) → List (List ℕ) = λ sets. map (λ J. a ∷ J) sets in
      record {
        front = subsets B ++ with_atom f.front;
        back = with_atom f.back;
        whole = ap (λ (sets : List (List ℕ)). subsets B ++ with_atom sets) f.whole
            ∙ (ap (λ (sets : List (List ℕ)). subsets B ++ sets) (map-append (λ J. a ∷ J) f.front (K ∷ f.back))
            ∙ sym (append_assoc (subsets B) (with_atom f.front) ((a ∷ K) ∷ with_atom f.back)));
        before = λ N i. elim (append_at (subsets B) (with_atom f.front) N i) [
          | inl low ↦ elim (true_or_false (test N)) [
            | inl passes ↦
                absurd (true_is_not_false (holds N a)
                (least N (append_left (subsets B) (with_atom (subsets B)) N low) passes 0 (omega arith) (λ j h. absurd (omega (arith, h))) (has K))
                (lacks N low))
            | inr fails ↦ fails
          ]
          | inr high ↦
              let found = map_at (λ J. a ∷ J) f.front N high in
              ap test found.2 ∙ f.before found.0 found.1
        ];
      }

-- the least of the subsets that pass comes first
first-subset : (B : List ℕ) → ascends B ≡ true → (test : List ℕ → Bool) (F : List ℕ) → IsIn F (subsets B) → IsLeast B test F
    → Firsts test (subsets B) F
first-subset [] up test F (inl e) least = record {
  front = [];
  back = [];
  whole = ap (λ (N : List ℕ). N ∷ []) (sym e);
  before = λ N i. absurd i;
}
first-subset [] up test F (inr i) least = absurd i
first-subset (a ∷ B) up test F i least = elim (subset_at a B F i) [
  | inl inside ↦
      firsts-lacks a B up test F (first-subset B (ascends-tail a B up) test F inside (least-lacks a B up test F inside least))
  | inr begins ↦
      let K = begins.0 in
      let whole : IsLeast (a ∷ B) test (a ∷ K) = subst (λ (J : List ℕ). IsLeast (a ∷ B) test J) begins.2 least in
      subst (λ (J : List ℕ). Firsts test (subsets (a ∷ B)) J) (sym begins.2)
      (firsts-has a B up test K whole
      (first-subset B (ascends-tail a B up) (λ J. test (a ∷ J)) K begins.1 (least-has a B up test K whole)))
]

-- and so it does among those that two tests keep
first-filtered : (p q : List ℕ → Bool) (sets : List (List ℕ)) (F : List ℕ) → q F ≡ true → p F ≡ true → Firsts (λ N. q N && p N) sets F
    → (later : List (List ℕ)) × (filter p (filter q sets) ≡ F ∷ later)
first-filtered p q sets F in_q in_p f =
    let behind : List (List ℕ) = filter q f.back in
    let none : filter p (filter q f.front) ≡ [] =
    no_members (filter p (filter q f.front)) (λ N i.
    let outer = filter_at p (filter q f.front) N i in
    let inner = filter_at q f.front N outer.0 in
    true_is_not_false (q N && p N) (and_true (q N) (p N) inner.1 outer.1) (f.before N inner.0)) in
    let kept : filter p (filter q (F ∷ f.back)) ≡ F ∷ filter p behind =
    ap (λ t. filter p (cond t (F ∷ behind) behind)) in_q ∙ ap (λ t. cond t (F ∷ filter p behind) (filter p behind)) in_p in (
      filter p behind,
      ap (λ (all : List (List ℕ)). filter p (filter q all)) f.whole
          ∙ (ap (λ (all : List (List ℕ)). filter p all) (filter-append q f.front (F ∷ f.back))
          ∙ (filter-append p (filter q f.front) (filter q (F ∷ f.back))
          ∙ (ap (λ (all : List (List ℕ)). all ++ filter p (filter q (F ∷ f.back))) none ∙ kept))),
    )

-- ---- the answer

module _ (s : MovesState) (clauses : List (List ℕ)) (trail : List ℕ) (set : List Bool)
    (bases : AreBases (base s.game s.level) (base s.game (s.level - 1)))
    (outer : IsIn s.outer (subsets (base s.game (s.level - 1))))
    (own : (l : Lit) → IsIn l s.region → holds (base s.game s.level) l.atom ≡ true)
    (means : Means s.game s.level (rules_of s.game s.level) (left_out s) clauses)
    (least : (v : ℕ → Bool) → SatisfiesAll v clauses
    → AllTrue v (codes (base s.game s.level) (assumed_literals (base s.game (s.level - 1)) s.outer s.region))
    → (k : ℕ) → k < length (base s.game s.level) → ((j : ℕ) → j < k → v j ≡ assignment_of trail j)
    → assignment_of trail k ≡ true → v k ≡ true)
    (values : (k : ℕ) → k < length (base s.game s.level) → get_or set (get_or (base s.game s.level) k 0) false ≡ assignment_of trail k) where
  abbrev B : List ℕ
  B = base s.game s.level

  abbrev is_move : List ℕ → Bool
  is_move = is_bounded_answer_set (rules_of s.game s.level ++ fix (base s.game (s.level - 1)) s.outer) (bounds_of s.game s.level)

  abbrev is_left : List ℕ → Bool
  is_left = is_open s.region (left_out s)

  value-of : (k : ℕ) → k < length B → holds (true_places set) (get_or B k 0) ≡ assignment_of trail k
  value-of k low = holds-places set (get_or B k 0) ∙ values k low

  least-move : IsLeast B (λ N. is_move N && is_left N) (true_places set)
  least-move N i passes k low agree found =
      let parts = both (is_move N) (is_left N) passes in
      let open_parts = both (cube_holds s.region N) (is_outside (left_out s) N) parts.1 in
      let member : IsIn N (moves s.game s.level s.outer) = filter_from is_move (subsets B) N i parts.0 in
      let move = move_at s.game s.level s.outer N outer member in
      least (values_in B N) (means.sound s.outer N (values_in B N) outer member open_parts.1 (values-agree B N))
      (assumed-held B (base s.game (s.level - 1)) s.outer N s.region bases own move.agrees open_parts.0) k low
      (λ j h. let within : j < length B = omega arith in agree j h ∙ value-of j within) (sym (value-of k low) ∙ found)

  pub first-answer : IsIn (true_places set) (open_moves s s.outer) → IsFirst s set
  first-answer i =
      let left = filter_at is_left (moves s.game s.level s.outer) (true_places set) i in
      let move = filter_at is_move (subsets B) (true_places set) left.0 in
      let found = first-filtered is_left is_move (subsets B) (true_places set) move.1 left.1
      (first-subset B bases.upper (λ N. is_move N && is_left N) (true_places set) move.0 least-move) in
      record { later = found.0; first = found.1 }
