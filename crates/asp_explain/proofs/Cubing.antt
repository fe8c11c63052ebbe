-- The marked atoms of a level, and the cube of their literals.
use Rattle.std.proofs.Common.{◌≡◌, sym, ap, ◌∙◌, subst, ℕ, zero, suc, ◌+◌, ◌-◌, ◌≤◌, inl, inr, Bool, true, false, ◌||◌, List, ◌++◌, length, map, replicate, nat_lt, arith}
use Rattle.std.specs.List.{list_all}
use Rattle.std.proofs.lemmas.List.{length-replicate}
use Rattle.asp_bits.specs.Places.{true_places}
use Rattle.asp_entry.specs.Cubes.{literal_in}
use Rattle.asp_entry.specs.Marks.{IsPlaces}
use Rattle.asp_entry.proofs.Marking.{blank}
use Rattle.asp_entry.proofs.CubeLiterals.{literals-held, literals-agree, literals-ascend}
use Rattle.asp_reduct.specs.Bounds.{are_below, is_rule_below, is_bound_below}
use Rattle.asp_reduct.proofs.Truths.{ascends-true_from}
use Rattle.asp_defs.specs.declared.ground.GroundRule.{GroundRule}
use Rattle.asp_defs.specs.declared.ground.Bound.{Bound}
use Rattle.asp_defs.specs.declared.ground.Game.{Game}
use Rattle.asp_defs.specs.declared.ground.Lit.{Lit}
use Rattle.asp_defs.specs.Lists.{IsIn}
use Rattle.asp_defs.specs.Interpretations.{holds}
use Rattle.asp_defs.specs.Truth.{satisfies, is_model}
use Rattle.asp_defs.specs.AnswerSets.{is_answer_set}
use Rattle.asp_defs.specs.Bounds.{bound_atoms}
use Rattle.asp_defs.specs.Games.{level_count, base, rules_of, bounds_of, rule_atoms, ascends, within, is_subset, IsValid}
use Rattle.asp_defs.specs.Values.{fix, moves}
use Rattle.asp_defs.specs.Entries.{cube_holds, stands_in_rules, stands_in_bounds}
use Rattle.asp_defs.proofs.Lists.{both, or_left, or_right, all_at, all_from, append_left, map_at}
use Rattle.asp_defs.proofs.Subsets.{true_is_not_false, holds_at, holds_from, subset_full}
use Rattle.asp_defs.proofs.CellLaws.{subset_from}
use Rattle.asp_defs.proofs.AnswerSetLaws.{answer_set-satisfies}
use Rattle.asp_defs.proofs.Fixing.{move-answer}
use Rattle.asp_defs.proofs.Irrelevance.{base-up, base-next}
use Rattle.asp_explain.specs.Resting.{is_known, is_kept, is_settled, stands_in_literals, RestsOn}
use Rattle.asp_explain.specs.Achieving.{MarksLiterals, SettlesRules, SatisfiesRules, KeepsBounds}
use Rattle.asp_explain.specs.Founding.{FoundsMore}
use Rattle.asp_explain.specs.Cubes.{IsMoveCube, AreResting}
use Rattle.asp_explain.proofs.Exchange.{held-move, settled-founded}
use Rattle.asp_explain.proofs.FoundedAtoms.{founded-grows, founded-first}
use Rattle.asp_explain.proofs.Marking.{literal-grows, settled-grows, kept-grows}

-- ---- atoms of a game

-- an atom of a base is one of the last base, and so below the number of all atoms
in_last : (g : Game) (i more : ℕ) (a : ℕ) → IsValid g → i + more ≡ level_count g + 1 → IsIn a (base g i) → IsIn a (base g (level_count g + 1))
in_last g i zero a valid count member =
    let here : i ≡ level_count g + 1 = omega arith in
    subst (λ (k : ℕ). IsIn a (base g k)) here member
in_last g i (suc more) a valid count member =
    let back : i ≡ i + 1 - 1 = omega arith in
    in_last g (i + 1) more a valid (omega arith)
    (base-next g (i + 1) valid (omega arith) (omega arith) a (subst (λ (k : ℕ). IsIn a (base g k)) back member))

atom-below : (g : Game) (i a : ℕ) → IsValid g → i ≤ level_count g + 1 → IsIn a (base g i) → nat_lt a (length g.bases.atoms) ≡ true
atom-below g i a valid last member =
    all_at (λ b. nat_lt b (length g.bases.atoms)) (base g (level_count g + 1)) a valid.last_within
    (in_last g i (level_count g + 1 - i) a valid (omega (arith, last)) member)

pub base-below : (g : Game) (i : ℕ) (atoms : List ℕ) (k count : ℕ) → IsValid g → i ≤ level_count g + 1 → atoms ≡ base g i → k ≡ count → count ≡ length g.bases.atoms → are_below k atoms ≡ true
base-below g i atoms k count valid last atoms_are same as_many =
    subst (λ (n : ℕ). are_below n atoms ≡ true) (sym (same ∙ as_many))
    (subst (λ (xs : List ℕ). are_below (length g.bases.atoms) xs ≡ true) (sym atoms_are)
    (all_from (λ a. nat_lt a (length g.bases.atoms)) (base g i) (λ a j. atom-below g i a valid last j)))

pub outer-below : (g : Game) (i : ℕ) (atoms : List ℕ) (k count : ℕ) → IsValid g → i ≤ level_count g + 1 → atoms ≡ base g (i - 1) → k ≡ count → count ≡ length g.bases.atoms → are_below k atoms ≡ true
outer-below g i atoms k count valid last atoms_are same as_many = base-below g (i - 1) atoms k count valid (omega (arith, last)) atoms_are same as_many

pub rules-below : (g : Game) (i : ℕ) (rules : List GroundRule) (k : ℕ) → IsValid g → 1 ≤ i → i ≤ level_count g + 1 → rules ≡ rules_of g i → k ≡ length g.bases.atoms → list_all (is_rule_below k) rules ≡ true
rules-below g i rules k valid first last rules_are as_many =
    subst (λ (n : ℕ). list_all (is_rule_below n) rules ≡ true) (sym as_many)
    (subst (λ (rs : List GroundRule). list_all (is_rule_below (length g.bases.atoms)) rs ≡ true) (sym rules_are)
    (all_from (is_rule_below (length g.bases.atoms)) (rules_of g i) (λ r j.
    all_from (λ a. nat_lt a (length g.bases.atoms)) (rule_atoms r) (λ a l.
    atom-below g i a valid last
    (holds_at (base g i) a (all_at (holds (base g i)) (rule_atoms r) a (all_at (λ q. within (rule_atoms q) (base g i)) (rules_of g i) r (valid.rules_within i first last) j) l))))))

pub bounds-below : (g : Game) (i : ℕ) (bounds : List Bound) (k : ℕ) → IsValid g → 1 ≤ i → i ≤ level_count g + 1 → bounds ≡ bounds_of g i → k ≡ length g.bases.atoms → list_all (is_bound_below k) bounds ≡ true
bounds-below g i bounds k valid first last bounds_are as_many =
    subst (λ (n : ℕ). list_all (is_bound_below n) bounds ≡ true) (sym as_many)
    (subst (λ (bs : List Bound). list_all (is_bound_below (length g.bases.atoms)) bs ≡ true) (sym bounds_are)
    (all_from (is_bound_below (length g.bases.atoms)) (bounds_of g i) (λ b j.
    all_from (λ a. nat_lt a (length g.bases.atoms)) (bound_atoms b) (λ a l.
    atom-below g i a valid last
    (holds_at (base g i) a (all_at (holds (base g i)) (bound_atoms b) a (all_at (λ q. within (bound_atoms q) (base g i)) (bounds_of g i) b (valid.bounds_within i first last) j) l))))))

-- a move satisfies the level's rules
pub move-model : (g : Game) (i : ℕ) (M N : List ℕ) (rules : List GroundRule) → rules ≡ rules_of g i → IsIn N (moves g i M) → is_model N rules ≡ true
move-model g i M N rules rules_are move =
    let G = rules_of g i in
    let model : is_model N (G ++ fix (base g (i - 1)) M) ≡ true = answer_set-satisfies (G ++ fix (base g (i - 1)) M) N ((move-answer g i M N move).1) in
    subst (λ (rs : List GroundRule). is_model N rs ≡ true) (sym rules_are)
    (all_from (satisfies N) G (λ r j. all_at (satisfies N) (G ++ fix (base g (i - 1)) M) r model (append_left G (fix (base g (i - 1)) M) r j)))

-- the places of a base are the base
pub places-are : (g : Game) (i : ℕ) (atoms : List ℕ) (count : ℕ) (lower : List Bool) → IsValid g → atoms ≡ base g i → IsPlaces atoms count lower → true_places lower ≡ base g i
places-are g i atoms count lower valid atoms_are places =
    let B = base g i in
    let each : (a : ℕ) → holds (true_places lower) a ≡ holds B a = λ a. places.each a ∙ ap (λ xs. holds xs a) atoms_are in
    subset_full B (true_places lower) (base-up g i valid)
    (subset_from B (true_places lower) (base-up g i valid) (ascends-true_from 0 lower) (λ a j. holds_at B a (sym (each a) ∙ holds_from (true_places lower) a j)))
    (λ a j. holds_at (true_places lower) a (each a ∙ holds_from B a j))

-- ---- what is marked

module _ (G : List GroundRule) (bounds : List Bound) (won : List Lit) (B N : List ℕ) (m0 m1 m2 m3 m4 m5 f0 f : List Bool) (none : (a : ℕ) → holds (true_places m0) a ≡ false)
    (outer_first : true_places f0 ≡ B) (at_won : MarksLiterals B won m0 m1) (at_first : FoundsMore B N G m1 f0 m2 f) (at_support : SettlesRules B (true_places f) N G m2 m3)
    (at_bounds : KeepsBounds B N bounds m3 m4) (at_rules : SatisfiesRules B N G m4 m5) where
  pub marks-rest : (M : List ℕ) → ((a : ℕ) → IsIn a M → IsIn a B) → is_answer_set (G ++ fix B M) N ≡ true → RestsOn G bounds won B (true_places m5) N
  marks-rest M inside answer = record {
    safe = at_rules.passes;
    kept = all_from (is_kept B (true_places m5) N) bounds (λ b i.
        kept-grows B N (true_places m4) (true_places m5) b (λ a h. at_rules.grows a h) (all_at (is_kept B (true_places m4) N) bounds b at_bounds.passes i));
    won_known = all_from (λ l. is_known B (true_places m5) l.atom) won (λ l i.
        literal-grows B (true_places m1) (true_places m5) l (λ a h. at_rules.grows a (at_bounds.grows a (at_support.grows a (at_first.marks_some.grows a h))))
        (all_at (λ l. is_known B (true_places m1) l.atom) won l at_won.passes i));
    founded = settled-founded G B (true_places f) (true_places m5) M N inside answer
        (founded-grows G B (true_places m2) (true_places m5) N (true_places f) (λ a h. at_rules.grows a (at_bounds.grows a (at_support.grows a h)))
        (at_first.keeps G (λ r i. i) (founded-first G B (true_places m1) N (true_places f0) outer_first)))
        (all_from (is_settled B (true_places f) (true_places m5) N) G (λ r i.
        settled-grows B (true_places f) N (true_places m3) (true_places m5) r (λ a h. at_rules.grows a (at_bounds.grows a h))
        (all_at (is_settled B (true_places f) (true_places m3) N) G r at_support.passes i)));
  }

  pub marks-stand : (a : ℕ) → holds (true_places m5) a ≡ true → (holds B a ≡ true) × (((stands_in_rules a G || stands_in_bounds a bounds) || stands_in_literals a won) ≡ true)
  marks-stand a h =
      let rules = stands_in_rules a G in
      let level = stands_in_rules a G || stands_in_bounds a bounds in
      let lits = stands_in_literals a won in
      elim (at_rules.added a h) [
        | inr new ↦ (new.0, or_left level lits (or_left rules (stands_in_bounds a bounds) new.1))
        | inl fourth ↦ elim (at_bounds.added a fourth) [
          | inr new ↦ (new.0, or_left level lits (or_right rules (stands_in_bounds a bounds) new.1))
          | inl third ↦ elim (at_support.added a third) [
            | inr new ↦ (new.0, or_left level lits (or_left rules (stands_in_bounds a bounds) new.1))
            | inl second ↦ elim (at_first.marks_some.added a second) [
              | inr new ↦ (new.0, or_left level lits (or_left rules (stands_in_bounds a bounds) new.1))
              | inl early ↦ elim (at_won.added a early) [
                | inr new ↦ (new.0, or_right level lits new.1)
                | inl never ↦ absurd (true_is_not_false _ never (none a))
              ]
            ]
          ]
        ]
      ]

pub are-resting : (g : Game) (i : ℕ) (won lits : List Lit) (M N atoms : List ℕ) (k n count : ℕ) (lower m0 m1 m2 m3 m4 m5 f0 f : List Bool) (rules : List GroundRule) (bounds : List Bound)
    → IsValid g → is_subset M (base g (i - 1)) ≡ true → IsIn N (moves g i M) → atoms ≡ base g (i - 1) → IsPlaces atoms k lower → m0 ≡ replicate n false → n ≡ count → f0 ≡ lower
    → lits ≡ won → rules ≡ rules_of g i → bounds ≡ bounds_of g i
    → MarksLiterals (true_places lower) lits m0 m1 → FoundsMore (true_places lower) N rules m1 f0 m2 f → SettlesRules (true_places lower) (true_places f) N rules m2 m3
    → KeepsBounds (true_places lower) N bounds m3 m4 → SatisfiesRules (true_places lower) N rules m4 m5 → AreResting g i won N count m5
are-resting g i won lits M N atoms k n count lower m0 m1 m2 m3 m4 m5 f0 f rules bounds valid subset move atoms_are places blank_is same outer_first lits_are rules_are bounds_are at_won at_first at_support at_bounds at_rules =
    let B = base g (i - 1) in
    let F = true_places f in
    let is_base = places-are g (i - 1) atoms k lower valid atoms_are places in
    let first_is : true_places f0 ≡ B = ap true_places outer_first ∙ is_base in
    let none : (a : ℕ) → holds (true_places m0) a ≡ false = λ a. ap (λ v. holds (true_places v) a) blank_is ∙ blank n a in
    let one = subst (λ (ls : List Lit). MarksLiterals B ls m0 m1) lits_are (subst (λ (xs : List ℕ). MarksLiterals xs lits m0 m1) is_base at_won) in
    let two = subst (λ (rs : List GroundRule). FoundsMore B N rs m1 f0 m2 f) rules_are (subst (λ (xs : List ℕ). FoundsMore xs N rules m1 f0 m2 f) is_base at_first) in
    let three = subst (λ (rs : List GroundRule). SettlesRules B F N rs m2 m3) rules_are (subst (λ (xs : List ℕ). SettlesRules xs F N rules m2 m3) is_base at_support) in
    let four = subst (λ (bs : List Bound). KeepsBounds B N bs m3 m4) bounds_are (subst (λ (xs : List ℕ). KeepsBounds xs N bounds m3 m4) is_base at_bounds) in
    let five = subst (λ (rs : List GroundRule). SatisfiesRules B N rs m4 m5) rules_are (subst (λ (xs : List ℕ). SatisfiesRules xs N rules m4 m5) is_base at_rules) in
    record {
      as_many = at_rules.as_many ∙ (at_bounds.as_many ∙ (at_support.as_many ∙ (at_first.marks_some.as_many ∙ (at_won.as_many ∙ (ap length blank_is ∙ (length-replicate n false ∙ same))))));
      outer = λ a h. (marks-stand (rules_of g i) (bounds_of g i) won B N m0 m1 m2 m3 m4 m5 f0 f none first_is one two three four five a h).0;
      stand = λ a h. (marks-stand (rules_of g i) (bounds_of g i) won B N m0 m1 m2 m3 m4 m5 f0 f none first_is one two three four five a h).1;
      rests = marks-rest (rules_of g i) (bounds_of g i) won B N m0 m1 m2 m3 m4 m5 f0 f none first_is one two three four five M
          (λ a j. holds_at B a (all_at (holds B) M a ((both (ascends M) (within M B) subset).1) j)) ((move-answer g i M N move).1);
    }

-- ---- cubes

-- the literals of the atoms on which a move rests are its cube
pub move-cube : (g : Game) (i : ℕ) (won : List Lit) (M N : List ℕ) (count : ℕ) (marks : List Bool) (lits : List Lit) → IsValid g → 1 ≤ i → i ≤ level_count g + 1
    → IsIn N (moves g i M) → cube_holds won N ≡ true → AreResting g i won N count marks → lits ≡ map (literal_in M) (true_places marks) → IsMoveCube g i M won lits
move-cube g i won M N count marks lits valid first last move has_won resting lits_are =
    let C = true_places marks in
    let from : (l : Lit) → IsIn l lits → holds C l.atom ≡ true = λ l j.
    let found = map_at (literal_in M) C l (subst (λ (ls : List Lit). IsIn l ls) lits_are j) in
    holds_from C l.atom (subst (λ (a : ℕ). IsIn a C) (sym (ap (λ (x : Lit). x.atom) found.2)) found.1) in
    record {
      ascend = literals-ascend M marks lits lits_are;
      on_base = λ l j. resting.outer l.atom (from l j);
      stand = λ l j. resting.stand l.atom (from l j);
      held = subst (λ (ls : List Lit). cube_holds ls M ≡ true) (sym lits_are) (literals-held M C);
      sound = λ K inside h.
          held-move g i won M N C K valid first last move has_won resting.rests inside
          (literals-agree M C K (subst (λ (ls : List Lit). cube_holds ls K ≡ true) lits_are h));
    }
