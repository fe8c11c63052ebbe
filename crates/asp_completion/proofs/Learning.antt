-- What the clauses of a search say, kept as clauses are added and the search goes on.
use Rattle.std.proofs.Common.{◌≡◌, ℕ, ◌-◌, ◌<◌, ◌/◌, Bool, true, false, not, List, [], ◌∷◌, ◌++◌, map, length, get_or, refl, sym, ap, ◌∙◌, subst, inl, inr, arith}
use Rattle.std.specs.Prelude.{◌==◌}
use Rattle.std.specs.List.{list_any}
use Rattle.std.proofs.lemmas.List.Folds.{list_all-append}
use Rattle.asp_defs.specs.declared.ground.Game.{Game}
use Rattle.asp_defs.specs.declared.ground.GroundRule.{GroundRule}
use Rattle.asp_defs.specs.declared.ground.Lit.{Lit}
use Rattle.asp_defs.specs.Lists.{IsIn}
use Rattle.asp_defs.specs.Interpretations.{holds}
use Rattle.asp_defs.specs.Truth.{satisfies, is_model}
use Rattle.asp_defs.specs.Games.{base, rules_of, bounds_of, rule_atoms, within}
use Rattle.asp_defs.specs.Entries.{lit_true, stands_in_rules, stands_in_bounds, stands_at}
use Rattle.asp_defs.proofs.Lists.{and_true, or_left, true_or_false, not_true, not_false, all_at, any_at, any_from, append_at, append_left, append_right, map_at, map_from}
use Rattle.asp_defs.proofs.Subsets.{true_is_not_false, holds_at, holds_from}
use Rattle.asp_defs.proofs.AnswerSetLaws.{pos_in, neg_out, rule-satisfies, rule-satisfies_from}
use Rattle.asp_defs.proofs.FoundedLaws.{all_false}
use Rattle.asp_search.specs.Meaning.{MentionedIn, SameMeaning, AddsClause}
use Rattle.asp_completion.specs.Codes.{rank, code, codes, literal, rule_literals, is_met}
use Rattle.asp_completion.specs.Meanings.{Means, IsSoundClause, is_named_at}
use Rattle.asp_completion.proofs.Places.{in_from_contains, get_or-rank, rank-within, half-code, satisfies_from, satisfies_to}
use Rattle.asp_completion.proofs.Moves.{move_at}

-- ---- lists of codes

-- an atom of a search that stands in codes is the place of an atom of the literals
pub mentioned-code : (B : List ℕ) (lits : List Lit) (k : ℕ) → MentionedIn (codes B lits) k
    → (l : Lit) × IsIn l lits × (rank B l.atom ≡ k)
mentioned-code B lits k m =
    let found = map_at (code B) lits m.literal (in_from_contains (codes B lits) m.literal m.has) in
    (found.0, found.1, sym (half-code B found.0) ∙ (ap (λ c. c / 2) (sym found.2) ∙ m.of_atom))

-- ---- literals of rules

pub rule_literal-atom : (r : GroundRule) (l : Lit) → IsIn l (rule_literals r) → IsIn l.atom (rule_atoms r)
rule_literal-atom r l i = elim (append_at (map (literal true) r.head) (map (literal false) r.pos ++ map (literal true) r.neg) l i) [
  | inl h ↦
      let found = map_at (literal true) r.head l h in
      append_left r.head (r.pos ++ r.neg) l.atom (subst (λ (m : Lit). IsIn m.atom r.head) (sym found.2) found.1)
  | inr more ↦ append_right r.head (r.pos ++ r.neg) l.atom (elim (append_at (map (literal false) r.pos) (map (literal true) r.neg) l more) [
    | inl h ↦
        let found = map_at (literal false) r.pos l h in
        append_left r.pos r.neg l.atom (subst (λ (m : Lit). IsIn m.atom r.pos) (sym found.2) found.1)
    | inr h ↦
        let found = map_at (literal true) r.neg l h in
        append_right r.pos r.neg l.atom (subst (λ (m : Lit). IsIn m.atom r.neg) (sym found.2) found.1)
  ])
]

-- a rule one of whose literals is true is satisfied
pub satisfied_where_met : (N : List ℕ) (r : GroundRule) → is_met N (rule_literals r) ≡ true → satisfies N r ≡ true
satisfied_where_met N r met =
    let found = any_at (lit_true N) (rule_literals r) met in
    let l = found.0 in
    rule-satisfies_from N r (λ plain p n.
    elim (append_at (map (literal true) r.head) (map (literal false) r.pos ++ map (literal true) r.neg) l found.1) [
      | inl h ↦
          let a = map_at (literal true) r.head l h in
          any_from (holds N) r.head a.0 a.1 (subst (λ (m : Lit). lit_true N m ≡ true) a.2 found.2)
      | inr more ↦ elim (append_at (map (literal false) r.pos) (map (literal true) r.neg) l more) [
        | inl h ↦
            let a = map_at (literal false) r.pos l h in
            absurd (true_is_not_false (holds N a.0) (all_at (holds N) r.pos a.0 p a.1)
            (not_true (holds N a.0) (subst (λ (m : Lit). lit_true N m ≡ true) a.2 found.2)))
        | inr h ↦
            let a = map_at (literal true) r.neg l h in
            absurd (true_is_not_false (holds N a.0) (subst (λ (m : Lit). lit_true N m ≡ true) a.2 found.2)
            (not_true (holds N a.0) (all_at (λ b. not (holds N b)) r.neg a.0 n a.1)))
      ]
    ])

not_not : (b : Bool) → not b ≡ false → b ≡ true
not_not true e = refl
not_not false e = absurd (cc)

-- a satisfied rule that is no choice has a true literal
pub met_where_satisfied : (N : List ℕ) (r : GroundRule) → r.choice ≡ false → satisfies N r ≡ true → is_met N (rule_literals r) ≡ true
met_where_satisfied N r plain s =
    let heads : List Lit = map (literal true) r.head in
    let poses : List Lit = map (literal false) r.pos in
    let negs : List Lit = map (literal true) r.neg in
    elim (true_or_false (pos_in N r)) [
      | inr fails ↦
          let a = all_false (holds N) r.pos fails in
          any_from (lit_true N) (rule_literals r) (literal false a.0)
          (append_right heads (poses ++ negs) (literal false a.0) (append_left poses negs (literal false a.0) (map_from (literal false) r.pos a.0 a.1)))
          (not_false (holds N a.0) a.2)
      | inl p ↦ elim (true_or_false (neg_out N r)) [
        | inr fails ↦
            let a = all_false (λ b. not (holds N b)) r.neg fails in
            any_from (lit_true N) (rule_literals r) (literal true a.0)
            (append_right heads (poses ++ negs) (literal true a.0) (append_right poses negs (literal true a.0) (map_from (literal true) r.neg a.0 a.1)))
            (not_not (holds N a.0) a.2)
        | inl n ↦
            let a = any_at (holds N) r.head (rule-satisfies N r plain p n s) in
            any_from (lit_true N) (rule_literals r) (literal true a.0)
            (append_left heads (poses ++ negs) (literal true a.0) (map_from (literal true) r.head a.0 a.1))
            a.2
      ]
    ]

-- the literals of a rule of the level are sound
pub rule-sound : (g : Game) (i : ℕ) (blocked : List (List Lit)) (r : GroundRule) → IsIn r (rules_of g i) → r.choice ≡ false
    → within (rule_atoms r) (base g i) ≡ true → IsSoundClause g i blocked (rule_literals r)
rule-sound g i blocked r member plain inside = record {
  met = λ M N outer move out.
      met_where_satisfied N r plain (all_at (satisfies N) (rules_of g i) r ((move_at g i M N outer move).model) member);
  atoms = λ l h. all_at (holds (base g i)) (rule_atoms r) l.atom inside (rule_literal-atom r l h);
  named = λ l h low.
      or_left (stands_at g i l.atom) (list_any (λ cube. list_any (λ m. m.atom == l.atom) cube) blocked)
      (or_left (stands_in_rules l.atom (rules_of g i)) (stands_in_bounds l.atom (bounds_of g i))
      (any_from (λ q. holds (rule_atoms q) l.atom) (rules_of g i) r member (holds_from (rule_atoms r) l.atom (rule_literal-atom r l h))));
}

-- ---- the clauses of a search

-- without clauses nothing is said
pub means-none : (g : Game) (i : ℕ) → Means g i [] [] []
means-none g i = record {
  sound = λ M N v outer move out agrees number h. absurd (omega arith);
  models = λ v N agrees sat. refl;
  outside = λ v N agrees sat. refl;
  named = λ k m low. absurd (let h = m.within in omega arith);
  range = λ k m. absurd (let h = m.within in omega arith);
}

-- a search that goes on keeps what its clauses say
pub means-same : (g : Game) (i : ℕ) (rules : List GroundRule) (blocked : List (List Lit)) (old new : List (List ℕ))
    → Means g i rules blocked old → SameMeaning old new → Means g i rules blocked new
means-same g i rules blocked old new means same = record {
  sound = λ M N v outer move out agrees. same.forth v (means.sound M N v outer move out agrees);
  models = λ v N agrees sat. means.models v N agrees (same.back v sat);
  outside = λ v N agrees sat. means.outside v N agrees (same.back v sat);
  named = λ k m low. means.named k (same.atoms k m) low;
  range = λ k m. means.range k (same.atoms k m);
}

-- sound literals can be added as a clause
pub means-add : (g : Game) (i : ℕ) (rules : List GroundRule) (blocked : List (List Lit)) (old new : List (List ℕ)) (lits : List Lit)
    → Means g i rules blocked old → IsSoundClause g i blocked lits → AddsClause old new (codes (base g i) lits)
    → Means g i rules blocked new
means-add g i rules blocked old new lits means fit adds =
    let B : List ℕ = base g i in
    record {
      sound = λ M N v outer move out agrees.
          adds.forth v (means.sound M N v outer move out agrees)
          (satisfies_from B v N lits agrees fit.atoms (fit.met M N outer move out));
      models = λ v N agrees sat. means.models v N agrees (adds.back v sat);
      outside = λ v N agrees sat. means.outside v N agrees (adds.back v sat);
      named = λ k m low.
          elim (adds.atoms k m) [
            | inl before ↦ means.named k before low
            | inr here ↦
                let found = mentioned-code B lits k here in
                let at : get_or B k 0 ≡ found.0.atom =
                ap (λ n. get_or B n 0) (sym found.2) ∙ get_or-rank B found.0.atom (holds_at B found.0.atom (fit.atoms found.0 found.1)) in
                ap (is_named_at g i blocked) at
                ∙ fit.named found.0 found.1 (ap (holds (base g (i - 1))) (sym at) ∙ low)
          ];
      range = λ k m.
          elim (adds.atoms k m) [
            | inl before ↦ means.range k before
            | inr here ↦
                let found = mentioned-code B lits k here in
                subst (λ (n : ℕ). n < length B) found.2 (rank-within B found.0.atom (holds_at B found.0.atom (fit.atoms found.0 found.1)))
          ];
    }

-- a further rule: its literals are added, or it is a choice, which every interpretation satisfies
pub means-rule : (g : Game) (i : ℕ) (rules : List GroundRule) (blocked : List (List Lit)) (old new : List (List ℕ)) (r : GroundRule)
    → Means g i rules blocked old → IsSoundClause g i blocked (rule_literals r)
    → AddsClause old new (codes (base g i) (rule_literals r)) → Means g i (rules ++ r ∷ []) blocked new
means-rule g i rules blocked old new r means fit adds =
    let more : Means g i rules blocked new = means-add g i rules blocked old new (rule_literals r) means fit adds in
    record {
      sound = more.sound;
      models = λ v N agrees sat.
          list_all-append (satisfies N) rules (r ∷ [])
          ∙ and_true (is_model N rules) (is_model N (r ∷ [])) (more.models v N agrees sat)
          (and_true (satisfies N r) true
          (satisfied_where_met N r (satisfies_to (base g i) v N (rule_literals r) agrees fit.atoms (adds.satisfied v sat)))
          refl);
      outside = more.outside;
      named = more.named;
      range = more.range;
    }

pub means-choice : (g : Game) (i : ℕ) (rules : List GroundRule) (blocked : List (List Lit)) (clauses : List (List ℕ)) (r : GroundRule)
    → Means g i rules blocked clauses → r.choice ≡ true → Means g i (rules ++ r ∷ []) blocked clauses
means-choice g i rules blocked clauses r means choice = record {
  sound = means.sound;
  models = λ v N agrees sat.
      list_all-append (satisfies N) rules (r ∷ [])
      ∙ and_true (is_model N rules) (is_model N (r ∷ [])) (means.models v N agrees sat)
      (and_true (satisfies N r) true (rule-satisfies_from N r (λ plain. absurd (true_is_not_false r.choice choice plain))) refl);
  outside = means.outside;
  named = means.named;
  range = means.range;
}
