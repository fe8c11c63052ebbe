-- No move of a level has an atom and its strong negation: a consistency constraint of the level has both.
use Rattle.std.proofs.Common.{ℕ, zero, suc, ◌≡◌, ◌+◌, ◌-◌, ◌<◌, ◌≤◌, ◌&&◌, ◌||◌, not, cond, refl, sym, ◌∙◌, ap, subst, inl, inr, Bool, true, false, List, [], ◌∷◌, ◌++◌, map, length, get_or, arith}
use Rattle.std.specs.Prelude.{replicate}
use Rattle.std.specs.List.{flat_map, position_or_len}
use Rattle.std.specs.Ordering.{is_eq}
use Rattle.std.specs.declared.cmp.Ordering.{Ordering}
use Rattle.std.specs.declared.cmp.Ordering.TheVariants.{Less, Equal, Greater}
use Rattle.std.proofs.lemmas.Bool.{eq-eqb}
use Rattle.std.proofs.lemmas.Cmp.{tied_itself}
use Rattle.std.proofs.lemmas.List.{length-map, length-replicate, get_or-map}
use Rattle.asp_defs.specs.declared.ground.Const.{Const}
use Rattle.asp_defs.specs.declared.ground.Const.TheVariants as const
use Rattle.asp_defs.specs.declared.ground.GroundAtom.{GroundAtom}
use Rattle.asp_defs.specs.declared.ground.GroundRule.{GroundRule}
use Rattle.asp_defs.specs.declared.syntax.Term.{Term}
use Rattle.asp_defs.specs.declared.syntax.Term.TheVariants.{Int, Sym, Var, Anon, Range}
use Rattle.asp_defs.specs.declared.syntax.Part.{Part}
use Rattle.asp_defs.specs.declared.syntax.Program.{Program}
use Rattle.asp_defs.specs.Lists.{IsIn, numbers_from}
use Rattle.asp_defs.specs.Interpretations.{holds, subsets}
use Rattle.asp_defs.specs.Truth.{body_true, satisfies}
use Rattle.asp_defs.specs.AnswerSets.{is_bounded_answer_set}
use Rattle.asp_defs.specs.Constants.{atom_cmp, universe}
use Rattle.asp_defs.specs.Bases.{Predicate, predicate_cmp, predicates, predicate_atoms, base_atoms, atom_number, last_level}
use Rattle.asp_defs.specs.Consistency.{negated_name, negated, has_predicate, contradicted, general_atom, consistency_constraint, consistency_constraints}
use Rattle.asp_defs.specs.Instances.{same_variable, term_variables, first_occurrences, Schema, disjunctive_schema, term_value, atom_instance, instance, assignments, rule_instances, schemas}
use Rattle.asp_defs.specs.Games.{game_of, level_ground, base, rules_of, bounds_of}
use Rattle.asp_defs.specs.Values.{fix, moves}
use Rattle.asp_defs.proofs.Lists.{true_or_false, and_true, all_at, any_from, filter_at, filter_from, append_at, append_left, append_right, map_at, map_from}
use Rattle.asp_defs.proofs.Subsets.{holds_at, subset-member}
use Rattle.asp_defs.proofs.AnswerSetLaws.{answer_sets_are_models}
use Rattle.asp_defs.proofs.SafetyLaws.{equal}
use Rattle.asp_defs.proofs.TextRefutations.{clash}
use Rattle.asp_walk.proofs.Lists.{flat_at, flat_from}
use Rattle.asp_atoms.proofs.Orders.{predicate_lawful, atom_lawful}
use Rattle.asp_atoms.proofs.Positions.{place_below, at_place}
use Rattle.asp_atoms.proofs.Tupling.{applied, tuples, tuple_from}
use Rattle.asp_ground.specs.Laws.{negation, MovesAreConsistent}
use Rattle.asp_template.proofs.Parts.{make_predicate}
use Rattle.asp_template.proofs.Products.{in_replicate, tuple_length, tuple_member}
use Rattle.asp_template.proofs.Occurrences.{occurs, any_place}
use Rattle.asp_ground.proofs.BaseAtoms.{base_grows, base_ascends, base_numbers, base_at}
use Rattle.asp_ground.proofs.LevelRules.{written_rules, level_at}

-- ---- the atom of a number

-- what stands at the first place at which a test holds passes it
place_found : {A : Type 0} (p : A → Bool) (xs : List A) (d : A) → position_or_len p xs < length xs → p (get_or xs (position_or_len p xs) d) ≡ true
place_found p [] d h = absurd (omega arith)
place_found p (x ∷ xs) d h = elim (true_or_false (p x)) [
  | inl e ↦
      let here : position_or_len p (x ∷ xs) ≡ 0 = ap (λ b. cond (not b) (1 + position_or_len p xs) 0) e in
      ap (λ k. p (get_or (x ∷ xs) k d)) here ∙ e
  | inr e ↦
      let later : position_or_len p (x ∷ xs) ≡ 1 + position_or_len p xs = ap (λ b. cond (not b) (1 + position_or_len p xs) 0) e in
      let next : position_or_len p (x ∷ xs) ≡ suc (position_or_len p xs) = omega (arith, later) in
      ap (λ k. p (get_or (x ∷ xs) k d)) next ∙ place_found p xs d (omega (arith, h, later))
]

equal_order : (o : Ordering) → is_eq o ≡ true → o ≡ Equal
equal_order Less h = clash h
equal_order Equal h = refl
equal_order Greater h = clash h

-- an atom whose number is one of a level's base stands in the base
numbered : (p : Program) (i : ℕ) (a : GroundAtom) → i ≤ last_level p → IsIn (atom_number (base_atoms p (last_level p)) a) (base_numbers p i) → IsIn a (base_atoms p i)
numbered p i a h m =
    let atoms = base_atoms p (last_level p) in
    let b = map_at (atom_number atoms) (base_atoms p i) (atom_number atoms a) m in
    let wide = base_grows p i (last_level p) h b.0 b.1 in
    let up = base_ascends p (last_level p) in
    let below = place_below atom_lawful atoms up b.0 wide in
    let first : atom_number atoms a < length atoms = subst (λ n. n < length atoms) (sym b.2) below in
    let is = place_found (λ c. is_eq (atom_cmp a c)) atoms b.0 first in
    let there : get_or atoms (atom_number atoms a) b.0 ≡ b.0 = ap (λ k. get_or atoms k b.0) b.2 ∙ at_place atom_lawful atoms up b.0 b.0 wide in
    let one : a ≡ b.0 = atom_lawful.exact a b.0 (equal_order (atom_cmp a b.0) (ap (λ c. is_eq (atom_cmp a c)) (sym there) ∙ is)) in
    subst (λ c. IsIn c (base_atoms p i)) (sym one) b.1

-- its predicate and its constants are the level's
built : (p : Program) (i : ℕ) (a : GroundAtom) → IsIn a (base_atoms p i) → IsIn (make_predicate a.name (length a.args)) (predicates p i) × ((x : Const) → IsIn x a.args → IsIn x (universe p i))
built p i a m =
    let U = universe p i in
    let q = flat_at (predicate_atoms U) (predicates p i) a m in
    let t = map_at (applied q.0) (tuples (q.0).arity U) a q.2 in
    let name : a.name ≡ (q.0).name = ap (λ (b : GroundAtom). b.name) t.2 in
    let args : a.args ≡ t.0 = ap (λ (b : GroundAtom). b.args) t.2 in
    let long : length a.args ≡ (q.0).arity = ap (λ (ts : List Const). length ts) args ∙ (tuple_length (replicate (q.0).arity U) t.0 t.1 ∙ length-replicate (q.0).arity U) in
    let same : make_predicate a.name (length a.args) ≡ q.0 = ap (λ (n : List ℕ). make_predicate n (length a.args)) name ∙ ap (make_predicate (q.0).name) long in (
      subst (λ r. IsIn r (predicates p i)) (sym same) q.1,
      λ x j.
          let xs = tuple_member (replicate (q.0).arity U) t.0 x t.1 (subst (λ (ts : List Const). IsIn x ts) args j) in
          subst (λ (ys : List Const). IsIn x ys) (in_replicate (q.0).arity U xs.0 xs.1) xs.2,
    )

-- ---- the variables of a consistency constraint

abbrev constraint_schema : Predicate → Schema
constraint_schema q = disjunctive_schema [] (consistency_constraint q).body

abbrev numbers : Predicate → List ℕ
numbers q = numbers_from 1 q.arity

variables_are : (ks : List ℕ) → flat_map term_variables (map Anon ks) ≡ map Anon ks
variables_are [] = refl
variables_are (k ∷ ks) = ap (λ (ts : List Term). Anon k ∷ ts) (variables_are ks)

-- a nameless variable's value is the argument of its number
abbrev value_of : List Const → Term → Const
value_of args (Int x) = const.Sym []
value_of args (Sym s) = const.Sym []
value_of args (Var v) = const.Sym []
value_of args (Anon k) = get_or args (k - 1) (const.Sym [])
value_of args (Range low high) = const.Sym []

abbrev values_of : Predicate → List Const → List Const
values_of q args = map (value_of args) (constraint_schema q).variables

-- so has the term that it is
valued : (q : Predicate) (args : List Const) (k : ℕ) → IsIn k (numbers q) → term_value (constraint_schema q).variables (values_of q args) (Anon k) ≡ get_or args (k - 1) (const.Sym [])
valued q args k i =
    let V = (constraint_schema q).variables in
    let vs = flat_map term_variables (map Anon (numbers q)) in
    let one : IsIn (Anon k) vs = subst (λ (ts : List Term). IsIn (Anon k) ts) (sym (variables_are (numbers q))) (map_from Anon (numbers q) k i) in
    let found = occurs (vs ++ (vs ++ [])) (Anon k) (eq-eqb k k refl) (append_left vs (vs ++ []) (Anon k) one) in
    let below = any_place (same_variable (Anon k)) V found in
    let at = position_or_len (same_variable (Anon k)) V in
    let is : Anon k ≡ get_or V at (Anon k) = equal (Anon k) (get_or V at (Anon k)) (place_found (same_variable (Anon k)) V (Anon k) below) in
    get_or-map (value_of args) V at (Anon k) (const.Sym []) below ∙ ap (value_of args) (sym is)

numbers_above : (first count k : ℕ) → IsIn k (numbers_from first count) → first ≤ k
numbers_above first zero k i = absurd i
numbers_above first (suc count) k (inl e) = omega (arith, e)
numbers_above first (suc count) k (inr i) = let above = numbers_above (suc first) count k i in omega (arith, above)

-- terms that have the values of arguments in their order give the arguments
reads : (h : Term → Const) (d : Const) (first : ℕ) (args : List Const) → ((k : ℕ) → IsIn k (numbers_from first (length args)) → h (Anon k) ≡ get_or args (k - first) d) → map h (map Anon (numbers_from first (length args))) ≡ args
reads h d first [] e = refl
reads h d first (x ∷ args) e =
    let none : first - first ≡ 0 = omega arith in
    let one : h (Anon first) ≡ x = e first (inl refl) ∙ ap (λ n. get_or (x ∷ args) n d) none in
    let more = reads h d (suc first) args (λ k i.
    let above = numbers_above (suc first) (length args) k i in
    let next : k - first ≡ suc (k - suc first) = omega (arith, above) in
    e k (inr i) ∙ ap (λ n. get_or (x ∷ args) n d) next) in
    ap (λ y. y ∷ map h (map Anon (numbers_from (suc first) (length args)))) one ∙ ap (λ (ys : List Const). x ∷ ys) more

-- ---- the constraint against an atom and its negation

abbrev predicate_of : GroundAtom → Predicate
predicate_of a = make_predicate a.name (length a.args)

-- the number of an instance of one of its two atoms, under the values that make it the atom
abbrev instance_number : List GroundAtom → GroundAtom → List ℕ → ℕ
instance_number atoms a name =
    atom_number atoms (atom_instance (constraint_schema (predicate_of a)).variables (values_of (predicate_of a) a.args) (general_atom name (length a.args)))

abbrev constraint_against : List GroundAtom → GroundAtom → GroundRule
constraint_against atoms a = record {
  choice = false;
  head = [];
  pos = instance_number atoms a a.name ∷ instance_number atoms a (negated_name a.name) ∷ [];
  neg = [];
}

number_is : (atoms : List GroundAtom) (a : GroundAtom) (name : List ℕ) → instance_number atoms a name ≡ atom_number atoms (applied (make_predicate name (length a.args)) a.args)
number_is atoms a name =
    ap (λ (ts : List Const). atom_number atoms (applied (make_predicate name (length a.args)) ts))
    (reads (term_value (constraint_schema (predicate_of a)).variables (values_of (predicate_of a) a.args)) (const.Sym []) 1 a.args (valued (predicate_of a) a.args))

-- each of these values is one of the arguments, so it stands in the level's universe
value_in : (p : Program) (i : ℕ) (a : GroundAtom) → ((x : Const) → IsIn x a.args → IsIn x (universe p i)) → (k : ℕ) → IsIn k (numbers_from 1 (length a.args)) → IsIn (get_or a.args (k - 1) (const.Sym [])) (universe p i)
value_in p i a h k j = h _ (read_in a.args 1 k j)
  where
    read_in : (args : List Const) (first k : ℕ) → IsIn k (numbers_from first (length args)) → IsIn (get_or args (k - first) (const.Sym [])) args
    read_in [] first k j = absurd j
    read_in (x ∷ args) first k (inl e) =
        let none : k - first ≡ 0 = omega (arith, e) in
        inl (ap (λ n. get_or (x ∷ args) n (const.Sym [])) none)
    read_in (x ∷ args) first k (inr j) =
        let above = numbers_above (suc first) (length args) k j in
        let next : k - first ≡ suc (k - suc first) = omega (arith, above) in
        inr (subst (λ n. IsIn (get_or (x ∷ args) n (const.Sym [])) args) (sym next) (read_in args (suc first) k j))

from_occurrences : (vs : List Term) (x : Term) → IsIn x (first_occurrences vs) → IsIn x vs
from_occurrences [] x i = absurd i
from_occurrences (v ∷ vs) x (inl e) = inl e
from_occurrences (v ∷ vs) x (inr i) =
    inr (from_occurrences vs x (filter_at (λ w. not (same_variable v w)) (first_occurrences vs) x i).0)

-- the variables are those of the arguments
variable_at : (q : Predicate) (w : Term) → IsIn w (constraint_schema q).variables → (k : ℕ) × IsIn k (numbers q) × (w ≡ Anon k)
variable_at q w i =
    let vs = flat_map term_variables (map Anon (numbers q)) in
    let one : IsIn w vs = elim (append_at vs (vs ++ []) w (from_occurrences (vs ++ (vs ++ [])) w i)) [
      | inl j ↦ j
      | inr j ↦ elim (append_at vs [] w j) [ inl k ↦ k | inr k ↦ absurd k ]
    ] in
    map_at Anon (numbers q) w (subst (λ (ts : List Term). IsIn w ts) (variables_are (numbers q)) one)

-- so their values are one of the assignments over the level's universe
assigned : (p : Program) (i : ℕ) (a : GroundAtom) → ((x : Const) → IsIn x a.args → IsIn x (universe p i)) → IsIn (values_of (predicate_of a) a.args) (assignments (universe p i) (constraint_schema (predicate_of a)))
assigned p i a h =
    let q = predicate_of a in
    let V = (constraint_schema q).variables in
    tuple_from (length V) (universe p i) (values_of q a.args) (length-map V (value_of a.args)) (λ x j.
    let v = map_at (value_of a.args) V x j in
    let k = variable_at q v.0 v.1 in
    subst (λ c. IsIn c (universe p i)) (sym (v.2 ∙ ap (value_of a.args) k.2)) (value_in p i a h k.0 k.1))

-- the constraint is one of the level's rules
against : (p : Program) (i : ℕ) (a : GroundAtom) → IsIn a (base_atoms p i) → IsIn (negation a) (base_atoms p i) → IsIn (constraint_against (base_atoms p (last_level p)) a) (level_ground p (i, written_rules p i))
against p i a m n =
    let atoms = base_atoms p (last_level p) in
    let U = universe p i in
    let q = predicate_of a in
    let one = built p i a m in
    let two = built p i (negation a) n in
    let has : has_predicate (predicates p i) (negated q) ≡ true = any_from (λ r. is_eq (predicate_cmp (negated q) r)) (predicates p i) (negated q) two.0
    (ap is_eq (tied_itself predicate_lawful.total (negated q))) in
    let kept = filter_from (λ r. has_predicate (predicates p i) (negated r)) (predicates p i) q one.0 has in
    let rule = map_from consistency_constraint (contradicted (predicates p i)) q kept in
    flat_from (rule_instances atoms U) (written_rules p i ++ consistency_constraints p i) (consistency_constraint q) (constraint_against atoms a)
    (append_right (written_rules p i) (consistency_constraints p i) (consistency_constraint q) rule)
    (flat_from (λ s. flat_map (instance atoms s) (assignments U s)) (schemas (consistency_constraint q)) (constraint_schema q) (constraint_against atoms a) (inl refl)
    (flat_from (instance atoms (constraint_schema q)) (assignments U (constraint_schema q)) (values_of q a.args) (constraint_against atoms a) (assigned p i a one.1) (inl refl)))

-- ---- moves

-- an interpretation with both atoms doesn't satisfy it
broken : (atoms : List GroundAtom) (a : GroundAtom) (N : List ℕ) → holds N (atom_number atoms a) ≡ true → holds N (atom_number atoms (negation a)) ≡ true → satisfies N (constraint_against atoms a) ≡ false
broken atoms a N here there =
    let one : holds N (instance_number atoms a a.name) ≡ true = ap (holds N) (number_is atoms a a.name) ∙ here in
    let two : holds N (instance_number atoms a (negated_name a.name)) ≡ true = ap (holds N) (number_is atoms a (negated_name a.name)) ∙ there in
    let body : body_true N (constraint_against atoms a) ≡ true =
    and_true (holds N (instance_number atoms a a.name) && (holds N (instance_number atoms a (negated_name a.name)) && true)) true
    (and_true (holds N (instance_number atoms a a.name)) (holds N (instance_number atoms a (negated_name a.name)) && true) one
    (and_true (holds N (instance_number atoms a (negated_name a.name))) true two refl)) refl in
    ap (λ b. false || (not b || false)) body

both_hold : (p : Program) (i : ℕ) (M N : List ℕ) (a : GroundAtom) → 1 ≤ i → i ≤ last_level p → IsIn N (moves (game_of p) i M) → holds N (atom_number (base_atoms p (last_level p)) a) ≡ true → holds N (atom_number (base_atoms p (last_level p)) (negation a)) ≡ true → false ≡ true
both_hold p i M N a low high move here there =
    let atoms = base_atoms p (last_level p) in
    let g = game_of p in
    let G = rules_of g i ++ fix (base g (i - 1)) M in
    let found = filter_at (is_bounded_answer_set G (bounds_of g i)) (subsets (base g i)) N move in
    let model = (answer_sets_are_models G (bounds_of g i) N found.1).0 in
    let based : (x : ℕ) → holds N x ≡ true → IsIn x (base_numbers p i) =
    λ x h. subst (λ (ns : List ℕ). IsIn x ns) (base_at p i high) (subset-member (base g i) N x found.0 (holds_at N x h)) in
    let rule = against p i a (numbered p i a high (based (atom_number atoms a) here)) (numbered p i (negation a) high (based (atom_number atoms (negation a)) there)) in
    let stands = append_left (rules_of g i) (fix (base g (i - 1)) M) (constraint_against atoms a)
    (subst (λ (rs : List GroundRule). IsIn (constraint_against atoms a) rs) (sym (level_at p i low high)) rule) in
    sym (broken atoms a N here there) ∙ all_at (satisfies N) G (constraint_against atoms a) model stands

pub moves_are_consistent : MovesAreConsistent
moves_are_consistent p i M N a low high move here =
    let counted = length-map p.levels (λ (part : Part). part.quant) in
    elim (true_or_false (holds N (atom_number (base_atoms p (last_level p)) (negation a)))) [
      | inl there ↦ clash (both_hold p i M N a low (omega (arith, counted, high)) move here there)
      | inr e ↦ e
    ]
