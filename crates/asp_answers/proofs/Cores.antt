-- A core of a search, cut down to the outer move, is one of the level; and what a search finds, where it is minimal, is a move.
use Rattle.std.proofs.Common.{◌≡◌, ℕ, ◌-◌, ◌/◌, Bool, true, false, not, cond, List, [], ◌∷◌, map, get_or, refl, sym, ap, ◌∙◌, subst, inl, inr}
use Rattle.std.specs.Prelude.{◌==◌, if◌then◌else◌}
use Rattle.std.specs.List.{Contains, filter}
use Rattle.std.proofs.lemmas.Bool.{eq-eqb, eqb-true}
use Rattle.asp_defs.specs.declared.ground.Lit.{Lit}
use Rattle.asp_defs.specs.Lists.{IsIn}
use Rattle.asp_defs.specs.Interpretations.{holds, subsets}
use Rattle.asp_defs.specs.AnswerSets.{is_answer_set}
use Rattle.asp_defs.specs.Bounds.{meets_all}
use Rattle.asp_defs.specs.Games.{ascends, within, base, rules_of, bounds_of}
use Rattle.asp_defs.specs.Entries.{lit_true, cube_holds, held_moves}
use Rattle.asp_defs.specs.Values.{moves}
use Rattle.asp_defs.proofs.Lists.{both, and_true, all_at, all_from, any_at, any_from, filter_at, filter_from, append_at, append_left, append_right, map_at, map_from}
use Rattle.asp_defs.proofs.Subsets.{holds_at, holds_from, subset-member, filter-subset}
use Rattle.asp_search.specs.Meaning.{truth, SatisfiesAll, AllTrue, Mentions}
use Rattle.asp_search.specs.Cores.{IsCore as IsSearchCore}
use Rattle.asp_minimal.specs.Choices.{with_choices}
use Rattle.asp_game.specs.State.{MovesState, left_out}
use Rattle.asp_game.specs.Questions.{is_outside, is_open, open_moves}
use Rattle.asp_game.specs.Answers.{IsCore}
use Rattle.asp_completion.specs.Codes.{rank, code, codes, literal, Agrees}
use Rattle.asp_answers.specs.Assumptions.{literals_in, names, outer_part, assumed_literals}
use Rattle.asp_completion.specs.Meanings.{Means, is_named_at}
use Rattle.asp_completion.proofs.Fixing.{AgreesOn}
use Rattle.asp_completion.proofs.Places.{in_from_contains, contains_from_in, get_or-rank, half-code, truth-code, values_in, values-agree}
use Rattle.asp_completion.proofs.Moves.{IsMove, move_at, move_from, subset-ascends, no_members}
use Rattle.asp_completion.proofs.Bases.{AreBases}

-- ---- literals of an outer move

pub outer_literal-at : (L M : List ℕ) (l : Lit) → IsIn l (literals_in L M) → IsIn l.atom L × (l ≡ literal (holds M l.atom) l.atom)
outer_literal-at L M l i =
    let found = map_at (λ a. literal (holds M a) a) L l i in
    let atom : l.atom ≡ found.0 = ap (λ (m : Lit). m.atom) found.2 in
    (subst (λ (a : ℕ). IsIn a L) (sym atom) found.1, found.2 ∙ ap (λ (a : ℕ). literal (holds M a) a) (sym atom))

true_of_its_own : (b : Bool) → (if b then b else not b) ≡ true
true_of_its_own true = refl
true_of_its_own false = refl

pub outer_literal-true : (M : List ℕ) (a : ℕ) → lit_true M (literal (holds M a) a) ≡ true
outer_literal-true M a = true_of_its_own (holds M a)

same_value : (m n : Bool) → (if m then n else not n) ≡ true → n ≡ m
same_value true n h = h
same_value false true h = absurd (cc)
same_value false false h = refl

-- a literal of the base below has the same truth in two interpretations that agree there
lit-agrees : (L M N : List ℕ) (l : Lit) → AgreesOn L M N → holds L l.atom ≡ true → lit_true N l ≡ lit_true M l
lit-agrees L M N l agrees low = ap (λ t. if l.positive then t else not t) (agrees.same_atoms l.atom low)

-- a move has the literals that are assumed of the outer move, and those of the region where it is in it
pub assumed-held : (B L M N : List ℕ) (region : List Lit) → AreBases B L → ((l : Lit) → IsIn l region → holds B l.atom ≡ true) → AgreesOn L M N
    → cube_holds region N ≡ true → AllTrue (values_in B N) (codes B (assumed_literals L M region))
assumed-held B L M N region bases own agrees inside c has =
    let lits : List Lit = assumed_literals L M region in
    let found = map_at (code B) lits c (in_from_contains (codes B lits) c has) in
    let l : Lit = found.0 in
    let at : (holds B l.atom ≡ true) → lit_true N l ≡ true → truth (values_in B N) c ≡ true = λ up h.
    ap (truth (values_in B N)) found.2 ∙ (truth-code B (values_in B N) N l (values-agree B N) up ∙ h) in
    elim (append_at (literals_in L M) region l found.1) [
      | inl low ↦
          let here = outer_literal-at L M l low in
          let in_lower : holds L l.atom ≡ true = holds_from L l.atom here.0 in
          at (bases.nested l.atom in_lower)
          (lit-agrees L M N l agrees in_lower ∙ (ap (lit_true M) here.1 ∙ outer_literal-true M l.atom))
      | inr high ↦ at (own l high) (all_at (lit_true N) region l inside high)
    ]

-- ---- cores

part-atoms : (B L M core : List ℕ)
    → map (λ (l : Lit). l.atom) (outer_part B L M core) ≡ filter (λ a. names core (rank B a)) L
part-atoms B [] M core = refl
part-atoms B (a ∷ L) M core = go (names core (rank B a)) (part-atoms B L M core)
  where
    go : (t : Bool) → map (λ (l : Lit). l.atom) (outer_part B L M core) ≡ filter (λ b. names core (rank B b)) L
        → map (λ (l : Lit). l.atom) (cond t (literal (holds M a) a ∷ outer_part B L M core) (outer_part B L M core))
        ≡ cond t (a ∷ filter (λ b. names core (rank B b)) L) (filter (λ b. names core (rank B b)) L)
    go true e = ap (λ (more : List ℕ). a ∷ more) e
    go false e = e

-- a core that was asked for under an outer move and a region
module _ (s : MovesState) (clauses : List (List ℕ)) (core : List ℕ)
    (bases : AreBases (base s.game s.level) (base s.game (s.level - 1)))
    (outer : IsIn s.outer (subsets (base s.game (s.level - 1))))
    (own : (l : Lit) → IsIn l s.region → holds (base s.game s.level) l.atom ≡ true)
    (means : Means s.game s.level (rules_of s.game s.level) (left_out s) clauses)
    (is_core : IsSearchCore clauses (codes (base s.game s.level) (assumed_literals (base s.game (s.level - 1)) s.outer s.region)) core) where
  abbrev B : List ℕ
  B = base s.game s.level

  abbrev L : List ℕ
  L = base s.game (s.level - 1)

  abbrev part : List Lit
  part = outer_part B L s.outer core

  -- an outer literal whose code is in the core is in the part
  kept : (l : Lit) (c : ℕ) → IsIn l (literals_in L s.outer) → Contains core c → c ≡ code B l → IsIn l part
  kept l c i has e =
      filter_from (λ m. names core (rank B m.atom)) (literals_in L s.outer) l i
      (any_from (λ d. d / 2 == rank B l.atom) core c (in_from_contains core c has)
      (eq-eqb (c / 2) (rank B l.atom) (ap (λ d. d / 2) e ∙ half-code B l)))

  core-true : (M N : List ℕ) → cube_holds part M ≡ true → AgreesOn L M N → cube_holds s.region N ≡ true
      → AllTrue (values_in B N) core
  core-true M N held agrees inside c has =
      let found = map_at (code B) (assumed_literals L s.outer s.region) c
      (in_from_contains (codes B (assumed_literals L s.outer s.region)) c (is_core.part c has)) in
      let l : Lit = found.0 in
      let at : (holds B l.atom ≡ true) → lit_true N l ≡ true → truth (values_in B N) c ≡ true = λ up h.
      ap (truth (values_in B N)) found.2 ∙ (truth-code B (values_in B N) N l (values-agree B N) up ∙ h) in
      elim (append_at (literals_in L s.outer) s.region l found.1) [
        | inl low ↦
            let in_lower : holds L l.atom ≡ true = holds_from L l.atom ((outer_literal-at L s.outer l low).0) in
            at (bases.nested l.atom in_lower)
            (lit-agrees L M N l agrees in_lower ∙ all_at (lit_true M) part l held (kept l c low has found.2))
        | inr high ↦ at (own l high) (all_at (lit_true N) s.region l inside high)
      ]

  refutes : (M : List ℕ) → IsIn M (held_moves s.game s.level part) → open_moves s M ≡ []
  refutes M member =
      let held = filter_at (cube_holds part) (subsets L) M member in
      no_members (open_moves s M) (λ N i.
      let found = filter_at (is_open s.region (left_out s)) (moves s.game s.level M) N i in
      let parts = both (cube_holds s.region N) (is_outside (left_out s) N) found.1 in
      let move : IsMove s.game s.level M N = move_at s.game s.level M N held.0 found.0 in
      is_core.refuted (values_in B N)
      (means.sound M N (values_in B N) held.0 found.0 parts.1 (values-agree B N))
      (core-true M N held.1 move.agrees parts.0))

  part-named : (l : Lit) → IsIn l part → is_named_at s.game s.level (left_out s) l.atom ≡ true
  part-named l i =
      let here = filter_at (λ m. names core (rank B m.atom)) (literals_in L s.outer) l i in
      let low : IsIn l.atom L = (outer_literal-at L s.outer l here.0).0 in
      let in_lower : holds L l.atom ≡ true = holds_from L l.atom low in
      let found = any_at (λ d. d / 2 == rank B l.atom) core here.1 in
      let mention : Mentions clauses (rank B l.atom) =
      subst (λ (k : ℕ). Mentions clauses k) (eqb-true (found.0 / 2) (rank B l.atom) found.2)
      (is_core.mentioned found.0 (contains_from_in core found.0 found.1)) in
      let at : get_or B (rank B l.atom) 0 ≡ l.atom = get_or-rank B l.atom (holds_at B l.atom (bases.nested l.atom in_lower)) in
      ap (is_named_at s.game s.level (left_out s)) (sym at)
      ∙ means.named (rank B l.atom) mention (ap (holds L) at ∙ in_lower)

  pub core-answer : IsCore s part
  core-answer =
      let inside : IsIn (map (λ (l : Lit). l.atom) part) (subsets L) =
      subst (λ (I : List ℕ). IsIn I (subsets L)) (sym (part-atoms B L s.outer core)) (filter-subset (λ a. names core (rank B a)) L) in
      let atoms : List ℕ = map (λ (l : Lit). l.atom) part in
      record {
        atoms = and_true (ascends atoms) (within atoms L) (subset-ascends L atoms bases.lower inside)
            (all_from (holds L) atoms (λ a i. holds_from L a (subset-member L atoms a inside i)));
        part = all_from (lit_true s.outer) part (λ l i.
            let here = filter_at (λ m. names core (rank B m.atom)) (literals_in L s.outer) l i in
            ap (lit_true s.outer) ((outer_literal-at L s.outer l here.0).1) ∙ outer_literal-true s.outer l.atom);
        named = all_from (λ l. is_named_at s.game s.level (left_out s) l.atom) part part-named;
        refuted = refutes;
      }

-- what satisfies clauses and assumptions, and is an answer set with free choices on the base below, is a move that is asked for
module _ (s : MovesState) (clauses : List (List ℕ)) (v : ℕ → Bool) (N : List ℕ)
    (bases : AreBases (base s.game s.level) (base s.game (s.level - 1)))
    (outer : IsIn s.outer (subsets (base s.game (s.level - 1))))
    (own : (l : Lit) → IsIn l s.region → holds (base s.game s.level) l.atom ≡ true)
    (means : Means s.game s.level (rules_of s.game s.level) (left_out s) clauses)
    (agrees : Agrees (base s.game s.level) v N) (inside : IsIn N (subsets (base s.game s.level)))
    (satisfied : SatisfiesAll v clauses)
    (assumed : AllTrue v (codes (base s.game s.level) (assumed_literals (base s.game (s.level - 1)) s.outer s.region))) where
  abbrev Upper : List ℕ
  Upper = base s.game s.level

  abbrev Lower : List ℕ
  Lower = base s.game (s.level - 1)

  assumed-true : (l : Lit) → IsIn l (assumed_literals Lower s.outer s.region) → holds Upper l.atom ≡ true → lit_true N l ≡ true
  assumed-true l i up =
      let lits : List Lit = assumed_literals Lower s.outer s.region in
      sym (truth-code Upper v N l agrees up)
      ∙ assumed (code Upper l) (contains_from_in (codes Upper lits) (code Upper l) (map_from (code Upper) lits l i))

  pub agrees_outer : AgreesOn Lower s.outer N
  agrees_outer = record {
    same_atoms = λ a low.
        let l : Lit = literal (holds s.outer a) a in
        same_value (holds s.outer a) (holds N a)
        (assumed-true l
        (append_left (literals_in Lower s.outer) s.region l
        (map_from (λ b. literal (holds s.outer b) b) Lower a (holds_at Lower a low)))
        (bases.nested a low));
  }

  pub found-answer : is_answer_set (with_choices (rules_of s.game s.level) Lower) N ≡ true → meets_all N (bounds_of s.game s.level) ≡ true
      → IsIn N (open_moves s s.outer)
  found-answer chosen met =
      filter_from (is_open s.region (left_out s)) (moves s.game s.level s.outer) N
      (move_from s.game s.level s.outer N outer inside agrees_outer chosen met)
      (and_true (cube_holds s.region N) (is_outside (left_out s) N)
      (all_from (lit_true N) s.region (λ l i.
      assumed-true l (append_right (literals_in Lower s.outer) s.region l i) (own l i)))
      (means.outside v N agrees satisfied))
