-- The numbers of atoms and the truth of comparisons under ranks are those under the constants with these ranks.
use Rattle.std.proofs.Common.{ℕ, ◌≡◌, ◌<◌, ◌≤◌, ◌+◌, suc, true, false, not, cond, eqb, refl, sym, ◌∙◌, ap, subst, inl, inr, Bool, List, [], ◌∷◌, map, length, get_or, arith}
use Rattle.std.specs.List.{position_or_len, fold}
use Rattle.std.specs.Ordering.{is_eq, nat_cmp}
use Rattle.std.specs.declared.cmp.Ordering.TheVariants.{Less, Equal, Greater}
use Rattle.std.proofs.lemmas.Bool.{cases_order, lt-ltb}
use Rattle.std.proofs.lemmas.Cmp.{nat_cmp_total, tied_itself}
use Rattle.std.proofs.lemmas.List.{length-map, get_or-map}
use Rattle.asp_defs.specs.declared.ground.Const.{Const}
use Rattle.asp_defs.specs.declared.ground.Const.TheVariants as const
use Rattle.asp_defs.specs.declared.ground.GroundAtom.{GroundAtom}
use Rattle.asp_defs.specs.declared.syntax.Op.{Op}
use Rattle.asp_defs.specs.declared.syntax.Term.{Term}
use Rattle.asp_defs.specs.declared.syntax.Term.TheVariants.{Int, Sym, Var, Anon, Range}
use Rattle.asp_defs.specs.declared.syntax.Atom.{Atom}
use Rattle.asp_defs.specs.Lists.{IsIn}
use Rattle.asp_defs.specs.Constants.{const_cmp, atom_cmp}
use Rattle.asp_defs.specs.Bases.{Predicate, predicate_cmp, atom_predicate, atom_number}
use Rattle.asp_defs.specs.Instances.{same_variable, term_value, atom_instance, op_holds}
use Rattle.asp_defs.proofs.Lists.{map_at}
use Rattle.asp_walk.proofs.Lists.{get_is_in}
use Rattle.asp_atoms.specs.declared.vocabularies.NumberedPredicate.{NumberedPredicate}
use Rattle.asp_atoms.specs.declared.vocabularies.Vocabulary.{Vocabulary}
use Rattle.asp_template.specs.declared.template.Slot.{Slot}
use Rattle.asp_atoms.specs.Ascending.{Ascends}
use Rattle.asp_atoms.specs.Vocabularies.{const_rank, unnumbered}
use Rattle.asp_atoms.proofs.Orders.{nat_lawful, const_lawful, predicate_lawful}
use Rattle.asp_atoms.proofs.Ascending.{turned_back}
use Rattle.asp_atoms.proofs.Positions.{ascends_at, place_at, place_of, place_below, at_place, stands as stands_at}
use Rattle.asp_template.specs.Ranks.{capped, rank_of, predicate_place, first_of}
use Rattle.asp_template.specs.Templates.{slot_rank, number_at, with_digit}
use Rattle.asp_template.specs.Compiled.{slot_of, atom_template}
use Rattle.asp_template.proofs.Digits.{read, read_capped}
use Rattle.asp_atoms.proofs.Numbering.{map_agrees, map_map}
use Rattle.asp_template.proofs.Known.{Numbers, make_ground, KnownTerm, KnownAtom}

-- the constant with a rank
abbrev pub const_at : List Const → ℕ → Const
const_at constants rank = get_or constants rank (const.Sym [])

-- a member stands at its place
pub record Stands (constants : List Const) (c : Const) : Type 0 where
  pub inside : const_rank constants c < length constants
  pub here : const_at constants (const_rank constants c) ≡ c

pub stands : (constants : List Const) (c : Const) → Ascends const_cmp constants → IsIn c constants → Stands constants c
stands constants c up i = record {
  inside = place_below const_lawful constants up c i;
  here = at_place const_lawful constants up c (const.Sym []) i;
}

-- what a slot stands for is the value of its term
pub record Valued (v : Vocabulary) (variables : List Term) (ranks : List ℕ) (t : Term) : Type 0 where
  pub inside : slot_rank ranks (slot_of v.constants variables t) < length v.constants
  pub value : term_value variables (map (const_at v.constants) ranks) t ≡ const_at v.constants (slot_rank ranks (slot_of v.constants variables t))

constant_valued : (v : Vocabulary) (c : Const) → Ascends const_cmp v.constants → length v.constants ≤ 4294967295 → IsIn c v.constants → (rank_of v.constants c < length v.constants) × (c ≡ const_at v.constants (rank_of v.constants c))
constant_valued v c up few i =
    let s = stands v.constants c up i in
    let inside = s.inside in
    let same : rank_of v.constants c ≡ const_rank v.constants c = omega (arith, inside) in
    (subst (λ n. n < length v.constants) (sym same) inside, sym (ap (const_at v.constants) same ∙ s.here))

variable_valued : (v : Vocabulary) (place count : ℕ) (ranks : List ℕ) → place < count → length ranks ≡ count → ((rank : ℕ) → IsIn rank ranks → rank < length v.constants) → (get_or ranks place 0 < length v.constants) × (get_or (map (const_at v.constants) ranks) place (const.Sym []) ≡ const_at v.constants (get_or ranks place 0))
variable_valued v place count ranks h same below =
    let inside : place < length ranks = omega (arith, h, same) in
    (below (get_or ranks place 0) (get_is_in ranks place 0 inside), get_or-map (const_at v.constants) ranks place 0 (const.Sym []) inside)

pub valued : (v : Vocabulary) (variables : List Term) (ranks : List ℕ) (t : Term) → Ascends const_cmp v.constants → length v.constants ≤ 4294967295 → length ranks ≡ length variables → ((rank : ℕ) → IsIn rank ranks → rank < length v.constants) → KnownTerm v variables t → Valued v variables ranks t
valued v variables ranks (Int x) up few same below known =
    let c = constant_valued v (const.Int x) up few known in record { inside = c.0; value = c.1 }
valued v variables ranks (Sym s) up few same below known =
    let c = constant_valued v (const.Sym s) up few known in record { inside = c.0; value = c.1 }
valued v variables ranks (Var w) up few same below known =
    let c = variable_valued v (position_or_len (same_variable (Var w)) variables) (length variables) ranks known same below in
    record { inside = c.0; value = c.1 }
valued v variables ranks (Anon k) up few same below known =
    let c = variable_valued v (position_or_len (same_variable (Anon k)) variables) (length variables) ranks known same below in
    record { inside = c.0; value = c.1 }
valued v variables ranks (Range low high) up few same below known = absurd known

-- ---- comparisons

nat_less : (m n : ℕ) → m < n → nat_cmp m n ≡ Less
nat_less m n h = ap (λ b. cond b Less (cond (eqb m n) Equal Greater)) (lt-ltb m n h)

-- constants compare as their places do
order_at : (constants : List Const) (i j : ℕ) → Ascends const_cmp constants → i < length constants → j < length constants → const_cmp (const_at constants i) (const_at constants j) ≡ nat_cmp i j
order_at constants i j up h l = elim (cases_order i j) [
  | inl e ↦
      subst (λ n. const_cmp (const_at constants i) (const_at constants n) ≡ nat_cmp i n) e
      (tied_itself const_lawful.total (const_at constants i) ∙ sym (tied_itself nat_cmp_total i))
  | inr c ↦ elim c [
    | inl before ↦ ascends_at const_cmp constants up i j (const.Sym []) before l ∙ sym (nat_less i j before)
    | inr after ↦
        turned_back const_lawful (const_at constants j) (const_at constants i) (ascends_at const_cmp constants up j i (const.Sym []) after h)
        ∙ sym (turned_back nat_lawful j i (nat_less j i after))
  ]
]

pub compared : (v : Vocabulary) (op : Op) (i j : ℕ) → Ascends const_cmp v.constants → i < length v.constants → j < length v.constants → op_holds op (const_cmp (const_at v.constants i) (const_at v.constants j)) ≡ op_holds op (nat_cmp i j)
compared v op i j up h l = ap (op_holds op) (order_at v.constants i j up h l)

-- ---- predicates

-- a predicate that is unnumbered by a numbered one stands there
pub first_is : (v : Vocabulary) (q : NumberedPredicate) → Ascends predicate_cmp (map unnumbered v.predicates) → IsIn q v.predicates → first_of v.predicates (unnumbered q) ≡ q.first
first_is v q up i =
    let found = stands_at v.predicates q i in
    let within = found.below in
    let long = length-map v.predicates unnumbered in
    let place : predicate_place v.predicates (unnumbered q) ≡ found.at =
    place_of predicate_lawful (map unnumbered v.predicates) up (unnumbered q) found.at (omega (arith, within, long))
    (λ d. get_or-map unnumbered v.predicates found.at q d found.below ∙ ap unnumbered (found.is q)) in
    ap (λ n. get_or (map (λ (r : NumberedPredicate). r.first) v.predicates) n 0) place
    ∙ (get_or-map (λ (r : NumberedPredicate). r.first) v.predicates found.at q 0 found.below ∙ ap (λ (r : NumberedPredicate). r.first) (found.is q))

-- ---- atoms

position_few : {A : Type 0} (p : A → Bool) (xs : List A) → position_or_len p xs ≤ length xs
position_few p [] = omega arith
position_few p (x ∷ xs) =
    let rest = position_few p xs in
    cond_few (p x) (position_or_len p xs) (length xs) rest
  where
    cond_few : (b : Bool) (m n : ℕ) → m ≤ n → cond (not b) (1 + m) 0 ≤ suc n
    cond_few true m n h = omega arith
    cond_few false m n h = omega arith

-- the constants with ranks have these ranks
places_at : (constants : List Const) (ranks : List ℕ) → Ascends const_cmp constants → ((rank : ℕ) → IsIn rank ranks → rank < length constants) → map (const_rank constants) (map (const_at constants) ranks) ≡ ranks
places_at constants [] up below = refl
places_at constants (rank ∷ ranks) up below =
    ap (λ r. r ∷ map (const_rank constants) (map (const_at constants) ranks)) (place_at const_lawful constants up rank (const.Sym []) (below rank (inl refl)))
    ∙ ap (λ rs. rank ∷ rs) (places_at constants ranks up (λ r i. below r (inr i)))

consts_in : (constants : List Const) (ranks : List ℕ) → ((rank : ℕ) → IsIn rank ranks → rank < length constants) → (c : Const) → IsIn c (map (const_at constants) ranks) → IsIn c constants
consts_in constants ranks below c i =
    let found = map_at (const_at constants) ranks c i in
    subst (λ (d : Const). IsIn d constants) (sym found.2) (get_is_in constants found.0 (const.Sym []) (below found.0 found.1))

-- the number of an atom of a predicate whose arguments have ranks
pub number_of_ranks : (atoms : List GroundAtom) (v : Vocabulary) (q : NumberedPredicate) (ranks : List ℕ) → Numbers atoms v → IsIn q v.predicates → length ranks ≡ q.arity → ((rank : ℕ) → IsIn rank ranks → rank < length v.constants) → atom_number atoms (make_ground q.name (map (const_at v.constants) ranks)) ≡ q.first + read (length v.constants) 0 ranks
number_of_ranks atoms v q ranks n i same below =
    n.numbers q (map (const_at v.constants) ranks) i (length-map ranks (const_at v.constants) ∙ same) (consts_in v.constants ranks below)
    ∙ ap (λ rs. q.first + read (length v.constants) 0 rs) (places_at v.constants ranks n.ordered.constants below)

-- the number that a template gives
pub template_number : (atoms : List GroundAtom) (v : Vocabulary) (q : NumberedPredicate) (ranks : List ℕ) (slots : List Slot) → Numbers atoms v → IsIn q v.predicates → length slots ≡ q.arity → ((rank : ℕ) → IsIn rank (map (slot_rank ranks) slots) → rank < length v.constants) → number_at (capped (length v.constants)) ranks (record { first = first_of v.predicates (unnumbered q); slots = slots }) ≡ atom_number atoms (make_ground q.name (map (const_at v.constants) (map (slot_rank ranks) slots)))
template_number atoms v q ranks slots n i same below =
    let few = n.few in
    let small = n.small in
    let size : capped (length v.constants) ≡ length v.constants = omega (arith, few) in
    let first = first_is v q n.ordered.predicates i in
    let number = number_of_ranks atoms v q (map (slot_rank ranks) slots) n i (length-map slots (slot_rank ranks) ∙ same) below in
    let most = position_few (λ b. is_eq (atom_cmp (make_ground q.name (map (const_at v.constants) (map (slot_rank ranks) slots))) b)) atoms in
    let whole : q.first + read (length v.constants) 0 (map (slot_rank ranks) slots) ≤ 4294967295 = omega (arith, number, most, small) in
    let digits = read_capped (length v.constants) ranks 0 slots below (omega (arith, whole)) in
    let end : capped (q.first + read (length v.constants) 0 (map (slot_rank ranks) slots)) ≡ q.first + read (length v.constants) 0 (map (slot_rank ranks) slots) = omega (arith, whole) in
    ap (λ m. capped (first_of v.predicates (unnumbered q) + fold (with_digit m ranks) 0 slots)) size
    ∙ (ap (λ m. capped (m + fold (with_digit (length v.constants) ranks) 0 slots)) first
    ∙ (ap (λ m. capped (q.first + m)) digits
    ∙ (end ∙ sym number)))

pub atom_is : (atoms : List GroundAtom) (v : Vocabulary) (variables : List Term) (ranks : List ℕ) (a : Atom) → Numbers atoms v → length ranks ≡ length variables → ((rank : ℕ) → IsIn rank ranks → rank < length v.constants) → KnownAtom v variables a → number_at (capped (length v.constants)) ranks (atom_template v variables a) ≡ atom_number atoms (atom_instance variables (map (const_at v.constants) ranks) a)
atom_is atoms v variables ranks a n same below known =
    let found = map_at unnumbered v.predicates (atom_predicate a) known.predicate in
    let name : a.name ≡ found.0.name = ap (λ (p : Predicate). p.name) found.2 in
    let arity : length a.args ≡ found.0.arity = ap (λ (p : Predicate). p.arity) found.2 in
    let slots = map (slot_of v.constants variables) a.args in
    let slot_count : length slots ≡ found.0.arity = length-map a.args (slot_of v.constants variables) ∙ arity in
    ap (λ (p : Predicate). number_at (capped (length v.constants)) ranks (record { first = first_of v.predicates p; slots = slots })) found.2
    ∙ (template_number atoms v found.0 ranks slots n found.1 slot_count small
    ∙ (ap (λ m. atom_number atoms (make_ground m (map (const_at v.constants) (map (slot_rank ranks) slots)))) (sym name)
    ∙ ap (λ args. atom_number atoms (make_ground a.name args)) values))
  where
    each : (t : Term) → IsIn t a.args → Valued v variables ranks t
    each t i = valued v variables ranks t n.ordered.constants n.few same below (known.terms t i)

    values : map (const_at v.constants) (map (slot_rank ranks) (map (slot_of v.constants variables) a.args)) ≡ map (term_value variables (map (const_at v.constants) ranks)) a.args
    values =
        map_map (const_at v.constants) (slot_rank ranks) (map (slot_of v.constants variables) a.args)
        ∙ (map_map (λ s. const_at v.constants (slot_rank ranks s)) (slot_of v.constants variables) a.args
        ∙ map_agrees (λ t. const_at v.constants (slot_rank ranks (slot_of v.constants variables t))) (term_value variables (map (const_at v.constants) ranks)) a.args (λ t i. sym (each t i).value))

    small : (rank : ℕ) → IsIn rank (map (slot_rank ranks) (map (slot_of v.constants variables) a.args)) → rank < length v.constants
    small rank i =
        let slot = map_at (slot_rank ranks) (map (slot_of v.constants variables) a.args) rank i in
        let term = map_at (slot_of v.constants variables) a.args slot.0 slot.1 in
        subst (λ r. r < length v.constants) (sym (slot.2 ∙ ap (slot_rank ranks) term.2)) (each term.0 term.1).inside
