-- A true atom that the base below lacks is in the head of a rule whose body is true.
use Rattle.std.proofs.Common.{◌≡◌, ℕ, ◌-◌, Bool, true, false, not, ◌||◌, List, [], ◌∷◌, map, refl, sym, ap, ◌∙◌, subst, inl, inr}
use Rattle.std.specs.List.{list_any}
use Rattle.asp_defs.specs.declared.ground.Game.{Game}
use Rattle.asp_defs.specs.declared.ground.GroundRule.{GroundRule}
use Rattle.asp_defs.specs.declared.ground.Lit.{Lit}
use Rattle.asp_defs.specs.Lists.{IsIn}
use Rattle.asp_defs.specs.Interpretations.{holds, subsets}
use Rattle.asp_defs.specs.Truth.{body_true}
use Rattle.asp_defs.specs.Unfounded.{supports}
use Rattle.asp_defs.specs.Games.{base, rules_of}
use Rattle.asp_defs.specs.Values.{moves}
use Rattle.asp_defs.proofs.Lists.{and_true, either, or_left, or_right, true_or_false, not_true, not_false, any_at, any_from, append_at, append_left, append_right, map_at, map_from}
use Rattle.asp_defs.proofs.Subsets.{true_is_not_false, holds_at, holds_from}
use Rattle.asp_defs.proofs.AnswerSetLaws.{pos_in, neg_out}
use Rattle.asp_defs.proofs.FoundedLaws.{all_false, supports_at, founded_from_minimal}
use Rattle.asp_completion.specs.Choices.{free_choice, with_choices}
use Rattle.asp_completion.specs.Codes.{literal, is_met}
use Rattle.asp_completion.specs.Completions.{IsSoundChoice}
use Rattle.asp_completion.specs.Supporters.{supporters}
use Rattle.asp_completion.proofs.Linking.{supporters-from, supporters-at}
use Rattle.asp_completion.proofs.Moves.{IsMove, move_at}

-- ---- support

nothing-in : (I : List ℕ) → IsIn [] (subsets I)
nothing-in [] = inl refl
nothing-in (b ∷ I) = append_left (subsets I) (map (λ J. b ∷ J) (subsets I)) [] (nothing-in I)

one-in : (I : List ℕ) (a : ℕ) → IsIn a I → IsIn (a ∷ []) (subsets I)
one-in [] a i = absurd i
one-in (b ∷ I) a (inl e) =
    append_right (subsets I) (map (λ J. b ∷ J) (subsets I)) (a ∷ [])
    (subst (λ (c : ℕ). IsIn (c ∷ []) (map (λ J. b ∷ J) (subsets I))) (sym e) (map_from (λ J. b ∷ J) (subsets I) [] (nothing-in I)))
one-in (b ∷ I) a (inr i) = append_left (subsets I) (map (λ J. b ∷ J) (subsets I)) (a ∷ []) (one-in I a i)

-- a rule of the level that heads an atom, and whose body is true
pub record HasSupport (g : Game) (i : ℕ) (N : List ℕ) (a : ℕ) : Type 0 where
  pub rule : GroundRule
  pub member : IsIn rule (rules_of g i)
  pub heads : IsIn a rule.head
  pub body : body_true N rule ≡ true

in_one : (a h : ℕ) → holds (a ∷ []) h ≡ true → h ≡ a
in_one a h e = elim (holds_at (a ∷ []) h e) [
  | inl same ↦ same
  | inr more ↦ absurd more
]

pub supported : (g : Game) (i : ℕ) (M N : List ℕ) (a : ℕ) → IsIn M (subsets (base g (i - 1))) → IsIn N (moves g i M)
    → holds N a ≡ true → holds (base g (i - 1)) a ≡ false → HasSupport g i N a
supported g i M N a outer member held own =
    let G : List GroundRule = rules_of g i in
    let L : List ℕ = base g (i - 1) in
    let move : IsMove g i M N = move_at g i M N outer member in
    let found = all_false (λ r. not (supports N (a ∷ []) r)) (with_choices G L)
    (founded_from_minimal (with_choices G L) N a [] move.chosen (one-in N a (holds_at N a held))) in
    let r : GroundRule = found.0 in
    let does : supports N (a ∷ []) r ≡ true =
    elim (true_or_false (supports N (a ∷ []) r)) [
      | inl yes_it_does ↦ yes_it_does
      | inr fails ↦ absurd (true_is_not_false (not (supports N (a ∷ []) r)) (not_false (supports N (a ∷ []) r) fails) found.2)
    ] in
    let support = supports_at N (a ∷ []) r does in
    let head = any_at (holds (a ∷ [])) r.head support.head in
    let heads : IsIn a r.head = subst (λ (h : ℕ). IsIn h r.head) (in_one a head.0 head.2) head.1 in
    elim (append_at G (map free_choice L) r found.1) [
      | inl rule ↦ record {
        rule = r;
        member = rule;
        heads = heads;
        body = and_true (pos_in N r) (neg_out N r) support.pos support.neg;
      }
      | inr free ↦
          let choice = map_at free_choice L r free in
          let one : IsIn a (choice.0 ∷ []) = subst (λ (q : GroundRule). IsIn a q.head) choice.2 heads in
          elim one [
            | inl same ↦
                absurd (true_is_not_false (holds L a) (holds_from L a (subst (λ (b : ℕ). IsIn b L) (sym same) choice.1)) own)
            | inr more ↦ absurd more
          ]
    ]

-- ---- an atom is false, or has a rule

pub atom-choice : (g : Game) (i a : ℕ) → holds (base g i) a ≡ true → holds (base g (i - 1)) a ≡ false
    → IsSoundChoice g i (literal false a ∷ []) (supporters (rules_of g i) a)
atom-choice g i a inside own =
    let rules : List GroundRule = supporters (rules_of g i) a in
    record {
      one = λ M N outer move.
          elim (true_or_false (holds N a)) [
            | inl held ↦
                let s : HasSupport g i N a = supported g i M N a outer move held own in
                or_right (is_met N (literal false a ∷ [])) (list_any (body_true N) rules)
                (any_from (body_true N) rules s.rule (supporters-from (rules_of g i) a s.rule s.member s.heads) s.body)
            | inr out ↦
                or_left (is_met N (literal false a ∷ [])) (list_any (body_true N) rules)
                (or_left (not (holds N a)) false (not_false (holds N a) out))
          ];
      atoms = λ l m.
          elim m [
            | inl e ↦ ap (λ (k : Lit). holds (base g i) k.atom) e ∙ inside
            | inr more ↦ absurd more
          ];
      named = λ l m low.
          elim m [
            | inl e ↦
                absurd (true_is_not_false (holds (base g (i - 1)) a) (ap (λ (k : Lit). holds (base g (i - 1)) k.atom) (sym e) ∙ low) own)
            | inr more ↦ absurd more
          ];
      members = λ r m. supporters-at (rules_of g i) a r m;
    }

-- that it is false or one of the bodies is true, in other words
pub choice-given : (N : List ℕ) (a : ℕ) (any : Bool) → (is_met N (literal false a ∷ []) || any) ≡ true → holds N a ≡ true → any ≡ true
choice-given N a any one held = elim (either (is_met N (literal false a ∷ [])) any one) [
  | inl met ↦ elim (either (not (holds N a)) false met) [
    | inl out ↦ absurd (true_is_not_false (holds N a) held (not_true (holds N a) out))
    | inr never ↦ absurd (let none : false ≡ true = never in cc)
  ]
  | inr more ↦ more
]

pub choice-from : (N : List ℕ) (a : ℕ) (any : Bool) → (holds N a ≡ true → any ≡ true) → (is_met N (literal false a ∷ []) || any) ≡ true
choice-from N a any gives = elim (true_or_false (holds N a)) [
  | inl held ↦ or_right (is_met N (literal false a ∷ [])) any (gives held)
  | inr out ↦ or_left (is_met N (literal false a ∷ [])) any (or_left (not (holds N a)) false (not_false (holds N a) out))
]
