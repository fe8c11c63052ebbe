-- That atoms decide the value of an outer move, and that their literals are a cube of that value.
use Rattle.std.proofs.Common.{◌≡◌, refl, sym, ap, ◌∙◌, subst, ℕ, zero, suc, ◌+◌, ◌-◌, ◌<◌, nat_lt, get_or, inl, inr, Bool, true, false, not, ◌&&◌, ◌||◌, List, [], ◌∷◌, ◌++◌, length, map, arith}
use Rattle.std.specs.List.{list_all, list_any}
use Rattle.asp_bits.specs.Places.{true_places}
use Rattle.asp_reduct.specs.Bounds.{are_below, is_rule_below}
use Rattle.asp_reduct.proofs.Truths.{get_or-member}
use Rattle.asp_defs.specs.declared.ground.GroundRule.{GroundRule}
use Rattle.asp_defs.specs.declared.ground.Game.{Game}
use Rattle.asp_defs.specs.declared.ground.Lit.{Lit}
use Rattle.asp_defs.specs.Lists.{IsIn, is_empty}
use Rattle.asp_defs.specs.Interpretations.{holds}
use Rattle.asp_defs.specs.Truth.{body_true, satisfies, is_model}
use Rattle.asp_defs.specs.Games.{level_count, base, rules_of, rule_atoms, ascends, within, is_subset, is_constraint, IsValid}
use Rattle.asp_defs.specs.Values.{value}
use Rattle.asp_defs.specs.Entries.{cube_holds, stands_in_rules, stands_in_bounds}
use Rattle.asp_defs.specs.Games.{bounds_of}
use Rattle.asp_defs.proofs.Lists.{both, and_true, either, or_left, or_right, true_or_false, not_true, not_false, all_at, all_from, any_at, any_from, append_left, append_right, map_at}
use Rattle.asp_defs.proofs.Subsets.{true_is_not_false, holds_at, holds_from}
use Rattle.asp_defs.proofs.CellLaws.{subset_from}
use Rattle.asp_defs.proofs.Irrelevance.{base-up, base-next}
use Rattle.asp_defs.proofs.LastLevel.{constraints_decide}
use Rattle.asp_entry.specs.Cubes.{literal_in}
use Rattle.asp_entry.specs.Marks.{IsPlaces}
use Rattle.asp_entry.proofs.CubeLiterals.{literals-held, literals-agree, literals-ascend}
use Rattle.asp_eval.specs.Broken.{rule_at, IsBroken}
use Rattle.asp_eval.specs.Covers.{has_chosen, is_covered, IsOuterBody, IsJudgement}
use Rattle.asp_eval.specs.Covering.{IsWithin, IsCovering}
use Rattle.asp_eval.specs.Decided.{AgreeOn, IsDecided}

-- ---- bodies

-- a true body is true in each set of outer atoms that agrees on the body's outer atoms
body_stays : (B I M C : List ℕ) (r : GroundRule) → IsWithin I B → IsWithin M B → ((a : ℕ) → holds C a ≡ (holds B a && holds (r.pos ++ r.neg) a)) → AgreeOn C I M → body_true I r ≡ true → body_true M r ≡ true
body_stays B I M C r insideI insideM each agree h =
    let parts = both (list_all (holds I) r.pos) (list_all (λ a. not (holds I a)) r.neg) h in
    let chosen : (a : ℕ) → holds B a ≡ true → IsIn a (r.pos ++ r.neg) → holds C a ≡ true =
    λ a outer i. each a ∙ and_true (holds B a) (holds (r.pos ++ r.neg) a) outer (holds_from (r.pos ++ r.neg) a i) in
    and_true (list_all (holds M) r.pos) (list_all (λ a. not (holds M a)) r.neg)
    (all_from (holds M) r.pos (λ a i.
    let is : holds I a ≡ true = all_at (holds I) r.pos a parts.0 i in
    agree a (chosen a (insideI a is) (append_left r.pos r.neg a i)) ∙ is))
    (all_from (λ a. not (holds M a)) r.neg (λ a i.
    let is : holds I a ≡ false = not_true (holds I a) (all_at (λ b. not (holds I b)) r.neg a parts.1 i) in
    not_false (holds M a)
    (elim (true_or_false (holds M a)) [
      | inl e ↦ agree a (chosen a (insideM a e) (append_right r.pos r.neg a i)) ∙ is
      | inr e ↦ e
    ])))

-- a covered body is false in each set of outer atoms that agrees on the chosen ones
covered_fails : (B I M C : List ℕ) (r : GroundRule) → IsWithin M B → AgreeOn C I M → is_covered B C I r ≡ true → body_true M r ≡ true → ⊥
covered_fails B I M C r inside agree h body =
    let parts = both (list_all (holds M) r.pos) (list_all (λ a. not (holds M a)) r.neg) body in
    elim (either (list_any (λ a. not (holds B a)) r.pos) (has_chosen C I false r.pos || has_chosen C I true r.neg) h) [
      | inl e ↦
          let found = any_at (λ a. not (holds B a)) r.pos e in
          true_is_not_false (holds B found.0) (inside found.0 (all_at (holds M) r.pos found.0 parts.0 found.1)) (not_true (holds B found.0) found.2)
      | inr e ↦ elim (either (has_chosen C I false r.pos) (has_chosen C I true r.neg) e) [
        | inl p ↦
            let found = any_at (λ a. not (holds I a) && holds C a) r.pos p in
            let at = both (not (holds I found.0)) (holds C found.0) found.2 in
            true_is_not_false (holds M found.0) (all_at (holds M) r.pos found.0 parts.0 found.1) (agree found.0 at.1 ∙ not_true (holds I found.0) at.0)
        | inr n ↦
            let found = any_at (λ a. holds I a && holds C a) r.neg n in
            let at = both (holds I found.0) (holds C found.0) found.2 in
            true_is_not_false (holds M found.0) (agree found.0 at.1 ∙ at.0) (not_true (holds M found.0) (all_at (λ a. not (holds M a)) r.neg found.0 parts.1 found.1))
      ]
    ]

-- ---- constraints

-- a constraint whose body is true isn't satisfied
broken-head : (heads : List ℕ) (p : ℕ → Bool) → is_empty heads ≡ true → list_any p heads ≡ false
broken-head [] p none = refl
broken-head (a ∷ heads) p none = absurd (cc)

unsatisfied : (c b h : Bool) → not c ≡ true → b ≡ true → h ≡ false → c || (not b || h) ≡ false
unsatisfied true b h plain body head = absurd (cc)
unsatisfied false true true plain body head = absurd (cc)
unsatisfied false true false plain body head = refl
unsatisfied false false h plain body head = absurd (cc)

breaks : (M : List ℕ) (r : GroundRule) → is_constraint r ≡ true → body_true M r ≡ true → satisfies M r ≡ false
breaks M r plain body =
    let parts = both (not r.choice) (is_empty r.head) plain in
    unsatisfied r.choice (body_true M r) (list_any (holds M) r.head) parts.0 body (broken-head r.head (holds M) parts.1)

fails : (M : List ℕ) (r : GroundRule) → body_true M r ≡ false → satisfies M r ≡ true
fails M r body =
    or_right r.choice (not (body_true M r) || list_any (holds M) r.head)
    (or_left (not (body_true M r)) (list_any (holds M) r.head) (not_false (body_true M r) body))

not-true : (t : Bool) → (t ≡ true → ⊥) → t ≡ false
not-true true h = absurd (h refl)
not-true false h = refl

model_broken : (M : List ℕ) (rules : List GroundRule) (r : GroundRule) → list_all is_constraint rules ≡ true → IsIn r rules → body_true M r ≡ true → is_model M rules ≡ false
model_broken M rules r plain i body =
    not-true (is_model M rules)
    (λ h. true_is_not_false (satisfies M r) (all_at (satisfies M) rules r h i) (breaks M r (all_at is_constraint rules r plain i) body))

-- ---- values

-- a subset of a base has atoms of the base alone
pub subset-inside : (B M : List ℕ) → is_subset M B ≡ true → IsWithin M B
subset-inside B M h a i =
    let parts = both (ascends M) (within M B) h in
    all_at (holds B) M a parts.1 (holds_at M a i)

-- the value behind the last level
decides : (g : Game) (M : List ℕ) → IsValid g → is_subset M (base g (level_count g)) ≡ true → value g (level_count g + 1) M ≡ is_model M (rules_of g (level_count g + 1))
decides g M valid h =
    let parts = both (ascends M) (within M (base g (level_count g))) h in
    constraints_decide g M valid
    (subset_from (base g (level_count g)) M (base-up g (level_count g) valid) parts.0
    (λ a i. holds_at (base g (level_count g)) a (all_at (holds (base g (level_count g))) M a parts.1 i)))

-- the atoms of the constraints and the outer ones are below the number of all atoms
pub constraints_below : (g : Game) (rules : List GroundRule) (count : ℕ) → IsValid g → rules ≡ rules_of g (level_count g + 1) → count ≡ length g.bases.atoms → list_all (is_rule_below count) rules ≡ true
constraints_below g rules count valid rules_are as_many =
    let n = level_count g in
    subst (λ (k : ℕ). list_all (is_rule_below k) rules ≡ true) (sym as_many)
    (subst (λ (rs : List GroundRule). list_all (is_rule_below (length g.bases.atoms)) rs ≡ true) (sym rules_are)
    (all_from (is_rule_below (length g.bases.atoms)) (rules_of g (n + 1)) (λ r i.
    all_from (λ a. nat_lt a (length g.bases.atoms)) (rule_atoms r) (λ a j.
    all_at (λ b. nat_lt b (length g.bases.atoms)) (base g (n + 1)) a valid.last_within
    (holds_at (base g (n + 1)) a
    (all_at (holds (base g (n + 1))) (rule_atoms r) a
    (all_at (λ q. within (rule_atoms q) (base g (n + 1))) (rules_of g (n + 1)) r (valid.rules_within (n + 1) (omega arith) (omega arith)) i) j))))))

pub outer_below : (g : Game) (atoms : List ℕ) (count k : ℕ) → IsValid g → atoms ≡ base g (level_count g) → k ≡ count → count ≡ length g.bases.atoms → are_below k atoms ≡ true
outer_below g atoms count k valid atoms_are same as_many =
    let n = level_count g in
    let back : n ≡ n + 1 - 1 = omega arith in
    subst (λ (m : ℕ). are_below m atoms ≡ true) (sym (same ∙ as_many))
    (subst (λ (xs : List ℕ). are_below (length g.bases.atoms) xs ≡ true) (sym atoms_are)
    (all_from (λ a. nat_lt a (length g.bases.atoms)) (base g n) (λ a i.
    all_at (λ b. nat_lt b (length g.bases.atoms)) (base g (n + 1)) a valid.last_within
    (base-next g (n + 1) valid (omega arith) (omega arith) a (subst (λ (m : ℕ). IsIn a (base g m)) back i)))))

-- a rule by its place
read_rule : (rules : List GroundRule) (place : ℕ) (r : GroundRule) → place < length rules → r ≡ get_or rules place r → IsIn r rules
read_rule rules place r h is = subst (λ (q : GroundRule). IsIn q rules) (sym is) (get_or-member rules place r h)

any_default : (rules : List GroundRule) (place : ℕ) (q r : GroundRule) → place < length rules → get_or rules place q ≡ get_or rules place r
any_default [] place q r h = absurd (omega arith)
any_default (p ∷ rules) zero q r h = refl
any_default (p ∷ rules) (suc place) q r h = any_default rules place q r (omega arith)

pub rule_below : (rules : List GroundRule) (place count k : ℕ) (r : GroundRule) → list_all (is_rule_below count) rules ≡ true → place < length rules → r ≡ get_or rules place r → k ≡ count → is_rule_below k r ≡ true
rule_below rules place count k r below h is same =
    subst (λ (m : ℕ). is_rule_below m r ≡ true) (sym same) (all_at (is_rule_below count) rules r below (read_rule rules place r h is))

-- the places of outer atoms are the base
outer-is : (g : Game) (atoms : List ℕ) (n : ℕ) (outer : List Bool) → atoms ≡ base g (level_count g) → IsPlaces atoms n outer → (a : ℕ) → holds (true_places outer) a ≡ holds (base g (level_count g)) a
outer-is g atoms n outer atoms_are places a = places.each a ∙ ap (λ xs. holds xs a) atoms_are

pub outer_within : (g : Game) (I atoms : List ℕ) (n : ℕ) (outer : List Bool) → is_subset I (base g (level_count g)) ≡ true → atoms ≡ base g (level_count g) → IsPlaces atoms n outer → IsWithin I (true_places outer)
outer_within g I atoms n outer subset atoms_are places a i = outer-is g atoms n outer atoms_are places a ∙ subset-inside (base g (level_count g)) I subset a i

-- the outer atoms of a broken constraint decide
pub broken_decides : (g : Game) (I atoms : List ℕ) (n : ℕ) (outer : List Bool) (rules : List GroundRule) (place count k : ℕ) (r : GroundRule) (values : List Bool) → IsValid g
    → is_subset I (base g (level_count g)) ≡ true → rules ≡ rules_of g (level_count g + 1) → atoms ≡ base g (level_count g) → IsPlaces atoms n outer
    → IsBroken I rules place → r ≡ get_or rules place r → k ≡ count → IsOuterBody (true_places outer) r k values → IsDecided g I count false values
broken_decides g I atoms n outer rules place count k r values valid subset rules_are atoms_are places broken r_is same body =
    let B = base g (level_count g) in
    let G = rules_of g (level_count g + 1) in
    let C = true_places values in
    let member : IsIn r G = subst (λ (rs : List GroundRule). IsIn r rs) rules_are (read_rule rules place r broken.inside r_is) in
    let each : (a : ℕ) → holds C a ≡ (holds B a && holds (r.pos ++ r.neg) a) =
    λ a. body.each a ∙ ap (λ t. t && holds (r.pos ++ r.neg) a) (outer-is g atoms n outer atoms_are places a) in
    let rule_is : rule_at rules place ≡ r = any_default rules place (record { choice = true; head = []; pos = []; neg = [] }) r broken.inside ∙ sym r_is in
    let true_body : body_true I r ≡ true = subst (λ (q : GroundRule). body_true I q ≡ true) rule_is broken.broken in
    record {
      as_many = body.as_many ∙ same;
      atoms = record {
        outer = λ a i. (both (holds B a) (holds (r.pos ++ r.neg) a) (sym (each a) ∙ i)).0;
        stand = λ a i.
            any_from (λ q. holds (rule_atoms q) a) G r member
            (holds_from (rule_atoms r) a (append_right r.head (r.pos ++ r.neg) a (holds_at (r.pos ++ r.neg) a ((both (holds B a) (holds (r.pos ++ r.neg) a) (sym (each a) ∙ i)).1))));
      };
      decided = λ M h agree.
          decides g M valid h
          ∙ model_broken M G r valid.constraints member (body_stays B I M C r (subset-inside B I subset) (subset-inside B M h) each agree true_body);
    }

-- atoms that cover all constraints decide
pub covering_decides : (g : Game) (I atoms : List ℕ) (n : ℕ) (outer : List Bool) (rules : List GroundRule) (count : ℕ) (values : List Bool) → IsValid g
    → rules ≡ rules_of g (level_count g + 1) → atoms ≡ base g (level_count g) → IsPlaces atoms n outer
    → IsCovering (true_places outer) I rules count values → IsDecided g I count true values
covering_decides g I atoms n outer rules count values valid rules_are atoms_are places covering =
    let B = base g (level_count g) in
    let C = true_places values in
    let outer_is = outer-is g atoms n outer atoms_are places in
    record {
      as_many = covering.as_many;
      atoms = record {
        outer = λ a i. sym (outer_is a) ∙ covering.atoms.outer a i;
        stand = λ a i. subst (λ (rs : List GroundRule). list_any (λ q. holds (rule_atoms q) a) rs ≡ true) rules_are (covering.atoms.stand a i);
      };
      decided = λ M h agree.
          decides g M valid h
          ∙ subst (λ (rs : List GroundRule). is_model M rs ≡ true) rules_are
          (all_from (satisfies M) rules (λ r i.
          fails M r
          (not-true (body_true M r)
          (covered_fails (true_places outer) I M C r (λ a j. outer_is a ∙ subset-inside B M h a j) agree (all_at (is_covered (true_places outer) C I) rules r covering.covered i)))));
    }

-- ---- cubes

-- the literals of the atoms that decide are a judgement
pub judgement : (g : Game) (I : List ℕ) (count : ℕ) (verdict : Bool) (values : List Bool) (lits : List Lit) → is_subset I (base g (level_count g)) ≡ true
    → IsDecided g I count verdict values → lits ≡ map (literal_in I) (true_places values) → IsJudgement g I verdict lits
judgement g I count verdict values lits subset decided lits_are =
    let C = true_places values in
    let B = base g (level_count g) in
    let from : (l : Lit) → IsIn l lits → holds C l.atom ≡ true = λ l i.
    let found = map_at (literal_in I) C l (subst (λ (ls : List Lit). IsIn l ls) lits_are i) in
    holds_from C l.atom (subst (λ (a : ℕ). IsIn a C) (sym (ap (λ (x : Lit). x.atom) found.2)) found.1) in
    record {
      right = decided.decided I subset (λ a i. refl);
      ascend = literals-ascend I values lits lits_are;
      on_base = λ l i. decided.atoms.outer l.atom (from l i);
      stand = λ l i.
          or_left (stands_in_rules l.atom (rules_of g (level_count g + 1))) (stands_in_bounds l.atom (bounds_of g (level_count g + 1)))
          (decided.atoms.stand l.atom (from l i));
      held = subst (λ (ls : List Lit). cube_holds ls I ≡ true) (sym lits_are) (literals-held I C);
      sound = λ M inside h.
          decided.decided M inside (literals-agree I C M (subst (λ (ls : List Lit). cube_holds ls M ≡ true) lits_are h));
    }
