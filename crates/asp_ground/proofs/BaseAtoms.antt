-- The bases of a program's levels: what stands in them, that each holds those before it, and that their numbers ascend.
use Rattle.std.proofs.Common.{ℕ, zero, suc, ◌≡◌, ◌+◌, ◌<◌, ◌≤◌, refl, sym, ◌∙◌, ap, subst, inl, inr, true, List, [], ◌∷◌, map, length, get_or, arith}
use Rattle.std.specs.Prelude.{nat_lt, ◌==◌}
use Rattle.std.specs.List.{list_all}
use Rattle.std.specs.declared.cmp.Ordering.TheVariants.{Less}
use Rattle.std.proofs.lemmas.Bool.{eq-eqb, lt-ltb, cases_lt}
use Rattle.std.proofs.lemmas.List.{length-map, get_or-map}
use Rattle.asp_defs.specs.declared.ground.Const.{Const}
use Rattle.asp_defs.specs.declared.ground.GroundAtom.{GroundAtom}
use Rattle.asp_defs.specs.declared.syntax.Program.{Program}
use Rattle.asp_defs.specs.Lists.{IsIn, numbers_from}
use Rattle.asp_defs.specs.Interpretations.{holds}
use Rattle.asp_defs.specs.Constants.{atom_cmp, universe}
use Rattle.asp_defs.specs.Bases.{predicates, predicate_atoms, base_atoms, atom_number, last_level}
use Rattle.asp_defs.specs.Games.{ascends, within, nested}
use Rattle.asp_defs.proofs.Lists.{all_from, any_from, and_true, map_at, map_from}
use Rattle.asp_walk.proofs.Lists.{flat_at, flat_from}
use Rattle.asp_atoms.specs.Ascending.{Ascends}
use Rattle.asp_atoms.proofs.Orders.{atom_lawful}
use Rattle.asp_atoms.proofs.Ascending.{never_back}
use Rattle.asp_atoms.proofs.Positions.{Stands, stands, ascends_at, place_of, place_below}
use Rattle.asp_atoms.proofs.Tupling.{applied, tuples, tuple_from, tuple_wider, atoms_ascend}
use Rattle.asp_atoms.proofs.Levels.{get_number, length_numbers}
use Rattle.asp_template.proofs.Parts.{make_predicate}
use Rattle.asp_atoms.proofs.Assembling.{universe_ascends, universe_grows, predicates_ascend, predicates_grow, numbers_below}

-- ---- the atoms of a base

-- an atom over the predicates and constants of a level
pub base_from : (p : Program) (i : ℕ) (name : List ℕ) (args : List Const) → IsIn (record { name = name; arity = length args }) (predicates p i) → ((x : Const) → IsIn x args → IsIn x (universe p i)) → IsIn (record { name = name; args = args }) (base_atoms p i)
base_from p i name args q h =
    let pred = make_predicate name (length args) in
    flat_from (predicate_atoms (universe p i)) (predicates p i) pred (applied pred args) q
    (map_from (applied pred) (tuples (length args) (universe p i)) args (tuple_from (length args) (universe p i) args refl h))

pub base_grows : (p : Program) (i j : ℕ) → i ≤ j → (a : GroundAtom) → IsIn a (base_atoms p i) → IsIn a (base_atoms p j)
base_grows p i j h a m =
    let q = flat_at (predicate_atoms (universe p i)) (predicates p i) a m in
    let t = map_at (applied q.0) (tuples (q.0).arity (universe p i)) a q.2 in
    let wide = tuple_wider (q.0).arity (universe p i) (universe p j) (universe_grows p i j h) t.0 t.1 in
    subst (λ b. IsIn b (base_atoms p j)) (sym t.2)
    (flat_from (predicate_atoms (universe p j)) (predicates p j) q.0 (applied q.0 t.0) (predicates_grow p i j h q.0 q.1)
    (map_from (applied q.0) (tuples (q.0).arity (universe p j)) t.0 wide))

pub base_ascends : (p : Program) (i : ℕ) → Ascends atom_cmp (base_atoms p i)
base_ascends p i = atoms_ascend (universe p i) (predicates p i) (universe_ascends p i) (predicates_ascend p i)

-- ---- the numbers of atoms

-- of two atoms the lower one has the lower number
pub number_rises : (atoms : List GroundAtom) → Ascends atom_cmp atoms → (x y : GroundAtom) → IsIn x atoms → IsIn y atoms → atom_cmp x y ≡ Less → atom_number atoms x < atom_number atoms y
number_rises atoms up x y i j less =
    let first = stands atoms x i in
    let second = stands atoms y j in
    let one = place_of atom_lawful atoms up x first.at first.below first.is in
    let two = place_of atom_lawful atoms up y second.at second.below second.is in
    elim (cases_lt first.at second.at) [
      | inl lt ↦ omega (arith, one, two, lt)
      | inr ge ↦ elim (cases_lt second.at first.at) [
        | inl lt ↦ never_back atom_lawful x y less (back first second lt)
        | inr le ↦ never_back atom_lawful x y less (same first second (omega (arith, ge, le)))
      ]
    ]
  where
    back : (s : Stands atoms x) (t : Stands atoms y) → t.at < s.at → atom_cmp y x ≡ Less
    back s t lt =
        subst (λ b. atom_cmp y b ≡ Less) (s.is x)
        (subst (λ b. atom_cmp b (get_or atoms s.at x) ≡ Less) (t.is x) (ascends_at atom_cmp atoms up t.at s.at x lt s.below))

    same : (s : Stands atoms x) (t : Stands atoms y) → s.at ≡ t.at → atom_cmp y x ≡ Less
    same s t e =
        let one : x ≡ y = sym (s.is x) ∙ (ap (λ k. get_or atoms k x) e ∙ t.is x) in
        subst (λ b. atom_cmp b x ≡ Less) one (subst (λ b. atom_cmp x b ≡ Less) (sym one) less)

pub numbers_ascend : (f : GroundAtom → ℕ) (xs : List GroundAtom) → ((x y : GroundAtom) → IsIn x xs → IsIn y xs → atom_cmp x y ≡ Less → f x < f y) → Ascends atom_cmp xs → ascends (map f xs) ≡ true
numbers_ascend f [] keeps up = refl
numbers_ascend f (a ∷ []) keeps up = refl
numbers_ascend f (a ∷ b ∷ more) keeps up =
    and_true (nat_lt (f a) (f b)) (ascends (map f (b ∷ more)))
    (lt-ltb (f a) (f b) (keeps a b (inl refl) (inr (inl refl)) (up.0).0))
    (numbers_ascend f (b ∷ more) (λ x y i j. keeps x y (inr i) (inr j)) up.1)

-- ---- bases by numbers

abbrev pub base_numbers : Program → ℕ → List ℕ
base_numbers p i = map (atom_number (base_atoms p (last_level p))) (base_atoms p i)

pub base_numbers_ascend : (p : Program) (i : ℕ) → i ≤ last_level p → ascends (base_numbers p i) ≡ true
base_numbers_ascend p i h =
    numbers_ascend (atom_number (base_atoms p (last_level p))) (base_atoms p i)
    (λ x y m n less. number_rises (base_atoms p (last_level p)) (base_ascends p (last_level p)) x y (base_grows p i (last_level p) h x m) (base_grows p i (last_level p) h y n) less)
    (base_ascends p i)

pub bases_ascend : (p : Program) → list_all ascends (map (base_numbers p) (numbers_from 0 (last_level p + 1))) ≡ true
bases_ascend p = all_from ascends (map (base_numbers p) (numbers_from 0 (last_level p + 1))) (λ xs m.
    let level = map_at (base_numbers p) (numbers_from 0 (last_level p + 1)) xs m in
    let below = numbers_below 0 (last_level p + 1) level.0 level.1 in
    subst (λ ys. ascends ys ≡ true) (sym level.2) (base_numbers_ascend p level.0 (omega (arith, below))))

-- a list of numbers lies within another, where its members are the other's
pub within_from : (I B : List ℕ) → ((a : ℕ) → IsIn a I → IsIn a B) → within I B ≡ true
within_from I B h = all_from (holds B) I (λ a i. any_from (λ b. b == a) B a (h a i) (eq-eqb a a refl))

pub numbers_within : (f : GroundAtom → ℕ) (xs ys : List GroundAtom) → ((x : GroundAtom) → IsIn x xs → IsIn x ys) → within (map f xs) (map f ys) ≡ true
numbers_within f xs ys h = within_from (map f xs) (map f ys) (λ a i.
    let x = map_at f xs a i in
    subst (λ b. IsIn b (map f ys)) (sym x.2) (map_from f ys x.0 (h x.0 x.1)))

nested_from : (f : ℕ → List ℕ) (first count : ℕ) → ((i : ℕ) → within (f i) (f (suc i)) ≡ true) → nested (map f (numbers_from first count)) ≡ true
nested_from f first zero h = refl
nested_from f first (suc zero) h = refl
nested_from f first (suc (suc count)) h =
    and_true (within (f first) (f (suc first))) (nested (map f (numbers_from (suc first) (suc count)))) (h first) (nested_from f (suc first) (suc count) h)

pub bases_nested : (p : Program) → nested (map (base_numbers p) (numbers_from 0 (last_level p + 1))) ≡ true
bases_nested p = nested_from (base_numbers p) 0 (last_level p + 1) (λ i.
    numbers_within (atom_number (base_atoms p (last_level p))) (base_atoms p i) (base_atoms p (suc i)) (base_grows p i (suc i) (omega arith)))

-- ---- the base of a level

pub bases_long : (p : Program) → length (map (base_numbers p) (numbers_from 0 (last_level p + 1))) ≡ last_level p + 1
bases_long p = length-map (numbers_from 0 (last_level p + 1)) (base_numbers p) ∙ length_numbers 0 (last_level p + 1)

pub base_at : (p : Program) (i : ℕ) → i ≤ last_level p → get_or (map (base_numbers p) (numbers_from 0 (last_level p + 1))) i [] ≡ base_numbers p i
base_at p i h =
    let count = length_numbers 0 (last_level p + 1) in
    let there : i < length (numbers_from 0 (last_level p + 1)) = omega (arith, count, h) in
    let number = get_number 0 (last_level p + 1) i 0 (omega (arith, h)) in
    let is : get_or (numbers_from 0 (last_level p + 1)) i 0 ≡ i = omega (arith, number) in
    get_or-map (base_numbers p) (numbers_from 0 (last_level p + 1)) i 0 [] there ∙ ap (base_numbers p) is

pub first_empty : (p : Program) → base_numbers p 0 ≡ []
first_empty p = refl

pub last_long : (p : Program) → length (base_numbers p (last_level p)) ≡ length (base_atoms p (last_level p))
last_long p = length-map (base_atoms p (last_level p)) (atom_number (base_atoms p (last_level p)))

pub last_below : (p : Program) → list_all (λ a. nat_lt a (length (base_atoms p (last_level p)))) (base_numbers p (last_level p)) ≡ true
last_below p = all_from (λ a. nat_lt a (length (base_atoms p (last_level p)))) (base_numbers p (last_level p)) (λ a m.
    let x = map_at (atom_number (base_atoms p (last_level p))) (base_atoms p (last_level p)) a m in
    let low = place_below atom_lawful (base_atoms p (last_level p)) (base_ascends p (last_level p)) x.0 x.1 in
    lt-ltb a (length (base_atoms p (last_level p))) (subst (λ n. n < length (base_atoms p (last_level p))) (sym x.2) low))
