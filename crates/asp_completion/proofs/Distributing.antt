-- What clauses say that distribute bodies: one of their literals is true, or a body is.
use Rattle.std.proofs.Common.{◌≡◌, ℕ, ◌+◌, ◌<◌, ◌⊎◌, Bool, true, false, not, ◌||◌, List, [], ◌∷◌, ◌++◌, map, length, get_or, take, ◌-◌, refl, sym, ap, ◌∙◌, subst, inl, inr, arith}
use Rattle.std.specs.Prelude.{◌==◌, ◌&&◌, if◌then◌else◌}
use Rattle.std.specs.Bool.{beq}
use Rattle.std.specs.List.{list_any}
use Rattle.std.proofs.lemmas.Bool.{eqb-true}
use Rattle.std.proofs.lemmas.List.{length-map, length-append}
use Rattle.std.proofs.lemmas.List.Folds.{list_any-append}
use Rattle.std.proofs.Math.Seq.{take-append_seam}
use Rattle.asp_defs.specs.declared.ground.Game.{Game}
use Rattle.asp_defs.specs.declared.ground.GroundRule.{GroundRule}
use Rattle.asp_defs.specs.declared.ground.Lit.{Lit}
use Rattle.asp_defs.specs.Lists.{IsIn}
use Rattle.asp_defs.specs.Interpretations.{holds}
use Rattle.asp_defs.specs.Truth.{body_true}
use Rattle.asp_defs.specs.Entries.{lit_true, stands_in_rules, stands_in_bounds, stands_at}
use Rattle.asp_defs.specs.Games.{base, rules_of, bounds_of, rule_atoms}
use Rattle.asp_defs.proofs.Lists.{both, and_true, either, or_left, or_right, true_or_false, all_at, all_from, any_at, any_from, append_at, append_left, append_right, map_at, map_from}
use Rattle.asp_defs.proofs.Subsets.{true_is_not_false, holds_from}
use Rattle.asp_defs.proofs.AnswerSetLaws.{pos_in, neg_out}
use Rattle.asp_search.specs.State.{SearchState}
use Rattle.asp_completion.specs.declared.level.Level.{Level}
use Rattle.asp_completion.specs.Codes.{codes, literal, is_met}
use Rattle.asp_completion.specs.Levels.{game_at, upper, lower, rules_at, IsLevel}
use Rattle.asp_completion.specs.Meanings.{IsSoundClause, AddsTo}
use Rattle.asp_completion.specs.Supporters.{supporters, body_literals, body_size, no_literal, stands, shares, AreFew}
use Rattle.asp_completion.specs.Completions.{HasRules, Completes, OneIsTrue, IsSoundChoice, IsSupported}
use Rattle.asp_completion.proofs.Saying.{in_more, in_before, in_last}
use Rattle.asp_completion.proofs.Headed.{rule-within, completes-as, completes-clause}
use Rattle.asp_completion.proofs.Completion.{choice-given, choice-from}
use Rattle.asp_completion.proofs.Loops.{item-in}

or_none : (b : Bool) → b || false ≡ true → b ≡ true
or_none true e = refl
or_none false e = e

-- ---- literals that stand in a clause

literal-same : (N : List ℕ) (l m : Lit) → l.atom ≡ m.atom → l.positive ≡ m.positive → lit_true N l ≡ lit_true N m
literal-same N l m atoms signs =
    ap (λ (p : Bool). if p then holds N l.atom else not (holds N l.atom)) signs
    ∙ ap (λ (a : ℕ). if m.positive then holds N a else not (holds N a)) atoms

same_sign : (p q : Bool) → beq p q ≡ true → p ≡ q
same_sign true true e = refl
same_sign true false e = absurd (cc)
same_sign false true e = absurd (cc)
same_sign false false e = refl

stands-met : (N : List ℕ) (clause : List Lit) (l : Lit) → stands clause l ≡ true → lit_true N l ≡ true → is_met N clause ≡ true
stands-met N clause l there held =
    let found = any_at (λ other. (other.atom == l.atom) && beq other.positive l.positive) clause there in
    let m : Lit = found.0 in
    let same = both (m.atom == l.atom) (beq m.positive l.positive) found.2 in
    any_from (lit_true N) clause m found.1
    (literal-same N m l (eqb-true m.atom l.atom same.0) (same_sign m.positive l.positive same.1) ∙ held)

-- where the negation of a false literal stands in a clause, the clause is met
negation-true : (N : List ℕ) (l : Lit) → lit_true N l ≡ false → lit_true N (literal (not l.positive) l.atom) ≡ true
negation-true N l = go l.positive (holds N l.atom)
  where
    go : (p h : Bool) → (if p then h else not h) ≡ false → (if not p then h else not h) ≡ true
    go true true e = absurd (cc)
    go true false e = refl
    go false true e = refl
    go false false e = absurd (cc)

-- ---- bodies

body-at : (N : List ℕ) (r : GroundRule) (l : Lit) → body_true N r ≡ true → IsIn l (body_literals r) → lit_true N l ≡ true
body-at N r l body i =
    let parts = both (pos_in N r) (neg_out N r) body in
    elim (append_at (map (literal true) r.pos) (map (literal false) r.neg) l i) [
      | inl h ↦
          let b = map_at (literal true) r.pos l h in
          ap (lit_true N) b.2 ∙ all_at (holds N) r.pos b.0 parts.0 b.1
      | inr h ↦
          let b = map_at (literal false) r.neg l h in
          ap (lit_true N) b.2 ∙ all_at (λ c. not (holds N c)) r.neg b.0 parts.1 b.1
    ]

pos-literal : (r : GroundRule) (b : ℕ) → IsIn b r.pos → IsIn (literal true b) (body_literals r)
pos-literal r b i =
    append_left (map (literal true) r.pos) (map (literal false) r.neg) (literal true b) (map_from (literal true) r.pos b i)

neg-literal : (r : GroundRule) (b : ℕ) → IsIn b r.neg → IsIn (literal false b) (body_literals r)
neg-literal r b i =
    append_right (map (literal true) r.pos) (map (literal false) r.neg) (literal false b) (map_from (literal false) r.neg b i)

body-from : (N : List ℕ) (r : GroundRule) → ((l : Lit) → IsIn l (body_literals r) → lit_true N l ≡ true) → body_true N r ≡ true
body-from N r all =
    and_true (pos_in N r) (neg_out N r) (all_from (holds N) r.pos (λ b i. all (literal true b) (pos-literal r b i)))
    (all_from (λ c. not (holds N c)) r.neg (λ b i. all (literal false b) (neg-literal r b i)))

body-atom : (r : GroundRule) (l : Lit) → IsIn l (body_literals r) → IsIn l.atom (rule_atoms r)
body-atom r l i =
    append_right r.head (r.pos ++ r.neg) l.atom
    (elim (append_at (map (literal true) r.pos) (map (literal false) r.neg) l i) [
      | inl h ↦
          let b = map_at (literal true) r.pos l h in
          append_left r.pos r.neg l.atom (subst (λ (m : Lit). IsIn m.atom r.pos) (sym b.2) b.1)
      | inr h ↦
          let b = map_at (literal false) r.neg l h in
          append_right r.pos r.neg l.atom (subst (λ (m : Lit). IsIn m.atom r.neg) (sym b.2) b.1)
    ])

-- a clause that shares a literal with a true body is met
shares-met : (N : List ℕ) (clause : List Lit) (r : GroundRule) → shares clause r ≡ true → body_true N r ≡ true → is_met N clause ≡ true
shares-met N clause r does body =
    let up : List ℕ → Bool = list_any (λ a. stands clause (literal true a)) in
    let down : List ℕ → Bool = list_any (λ a. stands clause (literal false a)) in
    elim (either (up r.pos) (down r.neg) does) [
      | inl h ↦
          let b = any_at (λ a. stands clause (literal true a)) r.pos h in
          stands-met N clause (literal true b.0) b.2 (body-at N r (literal true b.0) body (pos-literal r b.0 b.1))
      | inr h ↦
          let b = any_at (λ a. stands clause (literal false a)) r.neg h in
          stands-met N clause (literal false b.0) b.2 (body-at N r (literal false b.0) body (neg-literal r b.0 b.1))
    ]

-- ---- no rule is left

pub none-forth : (N : List ℕ) (lits : List Lit) → is_met N lits ≡ true → OneIsTrue lits [] N
none-forth N lits met = or_left (is_met N lits) false met

pub none-back : (N : List ℕ) (lits : List Lit) → OneIsTrue lits [] N → is_met N lits ≡ true
none-back N lits one = or_none (is_met N lits) one

pub none-sound : (g : Game) (i : ℕ) (lits : List Lit) → IsSoundChoice g i lits [] → IsSoundClause g i [] lits
none-sound g i lits sound = record {
  met = λ M N outer move out. none-back N lits (sound.one M N outer move);
  atoms = sound.atoms;
  named = sound.named;
}

-- ---- the clause shares a literal with the first body

module _ (lits : List Lit) (r : GroundRule) (rules : List GroundRule) (does : shares lits r ≡ true) where
  pub shared-less : (N : List ℕ) → OneIsTrue lits (r ∷ rules) N → OneIsTrue lits rules N
  shared-less N one = elim (either (is_met N lits) (body_true N r || list_any (body_true N) rules) one) [
    | inl met ↦ or_left (is_met N lits) (list_any (body_true N) rules) met
    | inr more ↦ elim (either (body_true N r) (list_any (body_true N) rules) more) [
      | inl body ↦ or_left (is_met N lits) (list_any (body_true N) rules) (shares-met N lits r does body)
      | inr rest ↦ or_right (is_met N lits) (list_any (body_true N) rules) rest
    ]
  ]

  pub shared-more : (N : List ℕ) → OneIsTrue lits rules N → OneIsTrue lits (r ∷ rules) N
  shared-more N one = elim (either (is_met N lits) (list_any (body_true N) rules) one) [
    | inl met ↦ or_left (is_met N lits) (body_true N r || list_any (body_true N) rules) met
    | inr more ↦
        or_right (is_met N lits) (body_true N r || list_any (body_true N) rules)
        (or_right (body_true N r) (list_any (body_true N) rules) more)
  ]

  pub shared-sound : (g : Game) (i : ℕ) → IsSoundChoice g i lits (r ∷ rules) → IsSoundChoice g i lits rules
  shared-sound g i sound = record {
    one = λ M N outer move. shared-less N (sound.one M N outer move);
    atoms = sound.atoms;
    named = sound.named;
    members = λ q m. sound.members q (inr m);
  }

-- ---- a literal of the first body more in the clause

met-append : (N : List ℕ) (lits : List Lit) (b : Lit) → is_met N (lits ++ b ∷ []) ≡ (is_met N lits || (lit_true N b || false))
met-append N lits b = list_any-append (lit_true N) lits (b ∷ [])

pub longer-met : (N : List ℕ) (lits : List Lit) (b : Lit) → is_met N lits ≡ true → is_met N (lits ++ b ∷ []) ≡ true
longer-met N lits b met = met-append N lits b ∙ or_left (is_met N lits) (lit_true N b || false) met

longer-true : (N : List ℕ) (lits : List Lit) (b : Lit) → lit_true N b ≡ true → is_met N (lits ++ b ∷ []) ≡ true
longer-true N lits b held =
    met-append N lits b ∙ or_right (is_met N lits) (lit_true N b || false) (or_left (lit_true N b) false held)

longer-cases : (N : List ℕ) (lits : List Lit) (b : Lit) → is_met N (lits ++ b ∷ []) ≡ true → (is_met N lits ≡ true) ⊎ (lit_true N b ≡ true)
longer-cases N lits b met = elim (either (is_met N lits) (lit_true N b || false) (sym (met-append N lits b) ∙ met)) [
  | inl old ↦ inl old
  | inr new ↦ inr (or_none (lit_true N b) new)
]

longer-from : (N : List ℕ) (lits : List Lit) (r : GroundRule) (rules : List GroundRule) (b : Lit) → IsIn b (body_literals r)
    → OneIsTrue lits (r ∷ rules) N → OneIsTrue (lits ++ b ∷ []) rules N
longer-from N lits r rules b i one =
    let more : List Lit = lits ++ b ∷ [] in
    elim (either (is_met N lits) (body_true N r || list_any (body_true N) rules) one) [
      | inl met ↦ or_left (is_met N more) (list_any (body_true N) rules) (longer-met N lits b met)
      | inr other ↦ elim (either (body_true N r) (list_any (body_true N) rules) other) [
        | inl body ↦ or_left (is_met N more) (list_any (body_true N) rules) (longer-true N lits b (body-at N r b body i))
        | inr rest ↦ or_right (is_met N more) (list_any (body_true N) rules) rest
      ]
    ]

pub longer-sound : (l : Level) (ready : IsLevel l) (lits : List Lit) (r : GroundRule) (rules : List GroundRule) (b : Lit)
    → IsIn b (body_literals r) → IsSoundChoice (game_at l) l.number lits (r ∷ rules) → IsSoundChoice (game_at l) l.number (lits ++ b ∷ []) rules
longer-sound l ready lits r rules b i sound =
    let g : Game = game_at l in
    let n : ℕ = l.number in
    let member : IsIn r (rules_of g n) = sound.members r (inl refl) in
    record {
      one = λ M N outer move. longer-from N lits r rules b i (sound.one M N outer move);
      atoms = λ k m.
          elim (append_at lits (b ∷ []) k m) [
            | inl old ↦ sound.atoms k old
            | inr new ↦ elim new [
              | inl e ↦
                  ap (λ (j : Lit). holds (base g n) j.atom) e
                  ∙ all_at (holds (base g n)) (rule_atoms r) b.atom (rule-within l ready r member) (body-atom r b i)
              | inr none ↦ absurd none
            ]
          ];
      named = λ k m low.
          elim (append_at lits (b ∷ []) k m) [
            | inl old ↦ sound.named k old low
            | inr new ↦ elim new [
              | inl e ↦
                  let named : list_any (λ q. holds (rule_atoms q) k.atom) (rules_of g n) ≡ true =
                  any_from (λ q. holds (rule_atoms q) k.atom) (rules_of g n) r member
                  (holds_from (rule_atoms r) k.atom (subst (λ (j : Lit). IsIn j.atom (rule_atoms r)) (sym e) (body-atom r b i))) in
                  or_left (stands_at g n k.atom) (list_any (λ (cube : List Lit). list_any (λ (j : Lit). j.atom == k.atom) cube) [])
                  (or_left (stands_in_rules k.atom (rules_of g n)) (stands_in_bounds k.atom (bounds_of g n)) named)
              | inr none ↦ absurd none
            ]
          ];
      members = λ q m. sound.members q (inr m);
    }

-- the clauses with each of these literals
abbrev pub EachIsTrue : List Lit → List Lit → List GroundRule → List ℕ → Type 0
EachIsTrue lits bodies rules N = (b : Lit) → IsIn b bodies → OneIsTrue (lits ++ b ∷ []) rules N

module _ (lits bodies : List Lit) (rules : List GroundRule) (k : ℕ) (d b : Lit) (h : k < length bodies) (is : b ≡ get_or bodies k d) (N : List ℕ) where
  pub each-forth : EachIsTrue lits (take k bodies) rules N → OneIsTrue (lits ++ b ∷ []) rules N → EachIsTrue lits (take (k + 1) bodies) rules N
  each-forth before one c i = elim (in_more bodies k d c h i) [
    | inl low ↦ before c low
    | inr e ↦ subst (λ (x : Lit). OneIsTrue (lits ++ x ∷ []) rules N) (is ∙ sym e) one
  ]

  pub each-back : EachIsTrue lits (take (k + 1) bodies) rules N → EachIsTrue lits (take k bodies) rules N × OneIsTrue (lits ++ b ∷ []) rules N
  each-back all = (
    λ c i. all c (in_before bodies k d c h i),
    all b (subst (λ (x : Lit). IsIn x (take (k + 1) bodies)) (sym is) (in_last bodies k d h)),
  )

  -- a clause with both literals of an atom is met
  pub each-skip : stands lits (literal (not b.positive) b.atom) ≡ true → EachIsTrue lits (take k bodies) rules N
      → EachIsTrue lits (take (k + 1) bodies) rules N
  each-skip there before =
      each-forth before
      (or_left (is_met N (lits ++ b ∷ [])) (list_any (body_true N) rules)
      (elim (true_or_false (lit_true N b)) [
        | inl held ↦ longer-true N lits b held
        | inr out ↦ longer-met N lits b (stands-met N lits (literal (not b.positive) b.atom) there (negation-true N b out))
      ]))

  pub each-less : EachIsTrue lits (take (k + 1) bodies) rules N → EachIsTrue lits (take k bodies) rules N
  each-less all = (each-back all).0

-- those with all literals of a body
pub each-whole : (lits : List Lit) (r : GroundRule) (rules : List GroundRule) (N : List ℕ) → EachIsTrue lits (body_literals r) rules N
    → OneIsTrue lits (r ∷ rules) N
each-whole lits r rules N all =
    let any : Bool = list_any (body_true N) rules in
    elim (true_or_false (is_met N lits)) [
      | inl met ↦ or_left (is_met N lits) (body_true N r || any) met
      | inr unmet ↦
          or_right (is_met N lits) (body_true N r || any)
          (elim (true_or_false any) [
            | inl rest ↦ or_right (body_true N r) any rest
            | inr none ↦
                or_left (body_true N r) any
                (body-from N r (λ b i.
                elim (either (is_met N (lits ++ b ∷ [])) any (all b i)) [
                  | inl met ↦ elim (longer-cases N lits b met) [
                    | inl old ↦ absurd (true_is_not_false (is_met N lits) old unmet)
                    | inr held ↦ held
                  ]
                  | inr rest ↦ absurd (true_is_not_false any rest none)
                ]))
          ])
    ]

pub each-from : (lits : List Lit) (r : GroundRule) (rules : List GroundRule) (N : List ℕ) → OneIsTrue lits (r ∷ rules) N
    → EachIsTrue lits (body_literals r) rules N
each-from lits r rules N one b i = longer-from N lits r rules b i one

-- the clauses with some of these literals were added, and the clause is as it was
pub record DistributesSoFar (l : Level) (lits bodies : List Lit) (rules : List GroundRule) (old new : SearchState) (now : List Lit) : Type 0 where
  pub added : Completes l (EachIsTrue lits bodies rules) old new
  pub clause : now ≡ lits

-- ---- searches

pub distributed-none : (l : Level) (lits xs : List Lit) (rules : List GroundRule) (old new : SearchState) → rules ≡ [] → xs ≡ lits → HasRules l old
    → IsSoundChoice (game_at l) l.number lits rules → AddsTo old new (codes (upper l) xs) → Completes l (OneIsTrue lits rules) old new
distributed-none l lits xs rules old new none same has sound adds =
    subst (λ (rs : List GroundRule). Completes l (OneIsTrue lits rs) old new) (sym none)
    (completes-clause l (OneIsTrue lits []) old new lits has
    (none-sound (game_at l) l.number lits (subst (λ (rs : List GroundRule). IsSoundChoice (game_at l) l.number lits rs) none sound))
    (λ N met. none-forth N lits met) (λ N one. none-back N lits one)
    (subst (λ (ys : List Lit). AddsTo old new (codes (upper l) ys)) same adds))

pub distributed-shared : (l : Level) (lits : List Lit) (r : GroundRule) (rules all : List GroundRule) (old new : SearchState) → all ≡ r ∷ rules
    → shares lits r ≡ true → Completes l (OneIsTrue lits rules) old new → Completes l (OneIsTrue lits all) old new
distributed-shared l lits r rules all old new parts does added =
    subst (λ (rs : List GroundRule). Completes l (OneIsTrue lits rs) old new) (sym parts)
    (completes-as l (OneIsTrue lits rules) (OneIsTrue lits (r ∷ rules)) old new (λ N one. shared-more lits r rules does N one)
    (λ N one. shared-less lits r rules does N one) added)

pub distributed-whole : (l : Level) (lits bodies : List Lit) (r : GroundRule) (rules all : List GroundRule) (old new : SearchState) → all ≡ r ∷ rules
    → bodies ≡ body_literals r → Completes l (EachIsTrue lits bodies rules) old new → Completes l (OneIsTrue lits all) old new
distributed-whole l lits bodies r rules all old new parts same added =
    subst (λ (rs : List GroundRule). Completes l (OneIsTrue lits rs) old new) (sym parts)
    (completes-as l (EachIsTrue lits (body_literals r) rules) (OneIsTrue lits (r ∷ rules)) old new (λ N each. each-whole lits r rules N each)
    (λ N one. each-from lits r rules N one)
    (subst (λ (bs : List Lit). Completes l (EachIsTrue lits bs rules) old new) same added))

-- what is asked of the clause with a literal more
pub longer-given : (l : Level) (ready : IsLevel l) (lits now more : List Lit) (r : GroundRule) (rules all : List GroundRule) (b : Lit) → all ≡ r ∷ rules
    → IsIn b (body_literals r) → now ≡ lits → more ≡ now ++ b ∷ [] → IsSoundChoice (game_at l) l.number lits all
    → IsSoundChoice (game_at l) l.number more rules
longer-given l ready lits now more r rules all b parts i same is sound =
    subst (λ (xs : List Lit). IsSoundChoice (game_at l) l.number xs rules) (sym (is ∙ ap (λ (xs : List Lit). xs ++ b ∷ []) same))
    (longer-sound l ready lits r rules b i (subst (λ (rs : List GroundRule). IsSoundChoice (game_at l) l.number lits rs) parts sound))

pub body-length : (r : GroundRule) → length (body_literals r) ≡ body_size r
body-length r =
    let one = length-map r.pos (literal true) in
    let two = length-map r.neg (literal false) in
    let sum = length-append (map (literal true) r.pos) (map (literal false) r.neg) in
    omega (arith, one, two, sum)

pub literal-in : (r : GroundRule) (k : ℕ) (b : Lit) → k < body_size r → b ≡ get_or (body_literals r) k no_literal → IsIn b (body_literals r)
literal-in r k b h is =
    let size = body-length r in
    subst (λ (x : Lit). IsIn x (body_literals r)) (sym is) (item-in (body_literals r) k no_literal (omega (arith, h, size)))

pub popped : (lits now more : List Lit) (b : Lit) (n : ℕ) → now ≡ lits → more ≡ now ++ b ∷ [] → n ≡ length more → take (n - 1) more ≡ lits
popped lits now more b n same is size =
    let e : more ≡ lits ++ b ∷ [] = is ∙ ap (λ (xs : List Lit). xs ++ b ∷ []) same in
    let long = length-append lits (b ∷ []) in
    let whole = ap length e in
    let less : n - 1 ≡ length lits = omega (arith, size, long, whole) in
    ap (λ (k : ℕ). take k more) less ∙ (ap (λ (xs : List Lit). take (length lits) xs) e ∙ take-append_seam lits (b ∷ []))

pub supported-added : (l : Level) (a : ℕ) (lits : List Lit) (rules : List GroundRule) (old new : SearchState) → lits ≡ literal false a ∷ []
    → rules ≡ supporters (rules_at l) a → holds (lower l) a ≡ false → AreFew rules → Completes l (OneIsTrue lits rules) old new
    → Completes l (IsSupported l a) old new
supported-added l a lits rules old new clause_is rules_are own few added =
    let all : List GroundRule = supporters (rules_at l) a in
    let least : AreFew all = subst AreFew rules_are few in
    completes-as l (OneIsTrue (literal false a ∷ []) all) (IsSupported l a) old new
    (λ N one low few_here held. choice-given N a (list_any (body_true N) all) one held)
    (λ N gives. choice-from N a (list_any (body_true N) all) (λ held. gives own least held))
    (subst (λ (ls : List Lit). Completes l (OneIsTrue ls all) old new) clause_is
    (subst (λ (rs : List GroundRule). Completes l (OneIsTrue lits rs) old new) rules_are added))
