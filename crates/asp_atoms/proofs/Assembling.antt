-- The bases of a program by its vocabulary.
use Rattle.std.proofs.Common.{ℕ, zero, suc, ◌≡◌, ◌+◌, ◌^◌, ◌<◌, ◌≤◌, refl, sym, ◌∙◌, ap, subst, inl, inr, true, List, [], ◌∷◌, map, length, arith}
use Rattle.std.specs.List.{flat_map, sum_by}
use Rattle.asp_defs.specs.declared.ground.Const.{Const}
use Rattle.asp_defs.specs.declared.syntax.Program.{Program}
use Rattle.asp_defs.specs.Lists.{IsIn, numbers_from}
use Rattle.asp_defs.specs.Constants.{const_cmp, level_rules, rules_to, rule_constants, universe}
use Rattle.asp_defs.specs.Bases.{Predicate, predicate_cmp, rule_predicates, predicates, base_atoms, atom_number, last_level}
use Rattle.asp_defs.specs.Games.{atoms_ascend}
use Rattle.asp_defs.specs.Sizes.{atom_total}
use Rattle.std.proofs.lemmas.List.{length-map}
use Rattle.asp_defs.proofs.Lists.{map_at}
use Rattle.asp_atoms.specs.declared.vocabularies.NumberedPredicate.{NumberedPredicate}
use Rattle.asp_atoms.specs.Ascending.{Ascends}
use Rattle.asp_atoms.specs.Tuples.{in_base}
use Rattle.asp_atoms.specs.Vocabularies.{const_rank, numbered_from}
use Rattle.asp_atoms.specs.Members.{levels_numbers, AreSmall, AreRanks}
use Rattle.asp_atoms.proofs.Orders.{const_lawful, predicate_lawful}
use Rattle.asp_atoms.proofs.Ascending.{ascends_distinct, in_distinct, distinct_from}
use Rattle.asp_atoms.proofs.Positions.{place_below}
use Rattle.asp_atoms.proofs.Levels.{written_grows}
use Rattle.asp_atoms.proofs.Tupling.{length_atoms, tuple_from, atoms_ascend as atoms_ascend_by}
use Rattle.asp_atoms.proofs.Numbering.{block, value, read_is, placed, atom_number_value}
use Rattle.asp_atoms.proofs.Comparing.{test_by_ascends}
use Rattle.asp_atoms.proofs.Choosing.{level_is}

pub universe_ascends : (p : Program) (i : ℕ) → Ascends const_cmp (universe p i)
universe_ascends p i = ascends_distinct const_lawful (flat_map rule_constants (rules_to p i))

pub predicates_ascend : (p : Program) (i : ℕ) → Ascends predicate_cmp (predicates p i)
predicates_ascend p i = ascends_distinct predicate_lawful (flat_map rule_predicates (rules_to p i))

pub universe_grows : (p : Program) (i j : ℕ) → i ≤ j → (x : Const) → IsIn x (universe p i) → IsIn x (universe p j)
universe_grows p i j h x m =
    distinct_from const_lawful (flat_map rule_constants (rules_to p j)) x
    (written_grows rule_constants (level_rules p) i j h x (in_distinct const_lawful (flat_map rule_constants (rules_to p i)) x m))

pub predicates_grow : (p : Program) (i j : ℕ) → i ≤ j → (q : Predicate) → IsIn q (predicates p i) → IsIn q (predicates p j)
predicates_grow p i j h q m =
    distinct_from predicate_lawful (flat_map rule_predicates (rules_to p j)) q
    (written_grows rule_predicates (level_rules p) i j h q (in_distinct predicate_lawful (flat_map rule_predicates (rules_to p i)) q m))

-- ---- how many atoms there are

pub atoms_counted : (p : Program) → atom_total p ≡ sum_by (λ q. length (universe p (last_level p)) ^ q.arity) (predicates p (last_level p))
atoms_counted p = length_atoms (universe p (last_level p)) (predicates p (last_level p))

-- ---- the numbers of a program's atoms

pub numbers_below : (first count i : ℕ) → IsIn i (numbers_from first count) → i < first + count
numbers_below first zero i m = absurd m
numbers_below first (suc count) i (inl e) = omega (arith, e)
numbers_below first (suc count) i (inr m) = let h = numbers_below (suc first) count i m in omega (arith, h)

abbrev pub program_ranks : Program → ℕ → List ℕ
program_ranks p i = map (const_rank (universe p (last_level p))) (universe p i)

abbrev pub program_predicates : Program → List NumberedPredicate
program_predicates p = numbered_from (length (universe p (last_level p))) 0 (predicates p (last_level p))

levels_are : (p : Program) (is : List ℕ) → ((i : ℕ) → IsIn i is → i ≤ last_level p) → levels_numbers (length (universe p (last_level p))) (program_predicates p) (map (program_ranks p) is) (map (predicates p) is) ≡ map (λ i. map (atom_number (base_atoms p (last_level p))) (base_atoms p i)) is
levels_are p [] h = refl
levels_are p (i ∷ is) h =
    let here = level_is (universe p (last_level p)) (universe p i) (predicates p (last_level p)) (predicates p i)
    (universe_ascends p (last_level p)) (predicates_ascend p (last_level p)) (predicates_ascend p i)
    (universe_grows p i (last_level p) (h i (inl refl))) (predicates_grow p i (last_level p) (h i (inl refl))) in
    let rest = levels_are p is (λ j m. h j (inr m)) in
    ap (λ l. l ∷ levels_numbers (length (universe p (last_level p))) (program_predicates p) (map (program_ranks p) is) (map (predicates p) is)) here
    ∙ ap (λ ls. map (atom_number (base_atoms p (last_level p))) (base_atoms p i) ∷ ls) rest

pub members_are : (p : Program) → levels_numbers (length (universe p (last_level p))) (program_predicates p) (map (program_ranks p) (numbers_from 0 (last_level p + 1))) (map (predicates p) (numbers_from 0 (last_level p + 1))) ≡ map (λ i. map (atom_number (base_atoms p (last_level p))) (base_atoms p i)) (numbers_from 0 (last_level p + 1))
members_are p = levels_are p (numbers_from 0 (last_level p + 1)) (λ i m. let h = numbers_below 0 (last_level p + 1) i m in omega (arith, h))

-- ---- what the numbers need: few atoms, and ranks of the last universe

pub program_small : (p : Program) → atom_total p ≤ 262144 → AreSmall (length (universe p (last_level p))) (program_predicates p)
program_small p h n i =
    let b = block (universe p (last_level p)) (predicates p (last_level p)) 0 n i in
    let r = b.room in
    let e = b.first_is in
    omega (arith, h, r, e)

pub program_ranked : (p : Program) (ranks : List ℕ) → IsIn ranks (map (program_ranks p) (numbers_from 0 (last_level p + 1))) → AreRanks (length (universe p (last_level p))) ranks
program_ranked p ranks m rank i =
    let level = map_at (program_ranks p) (numbers_from 0 (last_level p + 1)) ranks m in
    let below = numbers_below 0 (last_level p + 1) level.0 level.1 in
    let there : IsIn rank (program_ranks p level.0) = subst (λ l. IsIn rank l) level.2 i in
    let c = map_at (const_rank (universe p (last_level p))) (universe p level.0) rank there in
    let wide = universe_grows p level.0 (last_level p) (omega (arith, below)) c.0 c.1 in
    let low = place_below const_lawful (universe p (last_level p)) (universe_ascends p (last_level p)) c.0 wide in
    let e = c.2 in
    omega (arith, low, e)

-- ---- an atom's number by arithmetic

-- the bases ascend, as games ask of their atoms
pub base_atoms_ascend : (p : Program) (i : ℕ) → atoms_ascend (base_atoms p i) ≡ true
base_atoms_ascend p i = test_by_ascends (base_atoms p i) (atoms_ascend_by (universe p i) (predicates p i) (universe_ascends p i) (predicates_ascend p i))

-- an atom of a predicate over the last universe: its number is that of the predicate's first atom, and behind it the ranks
-- of its arguments read in the base of the number of constants
pub number_reads : (p : Program) (n : NumberedPredicate) → IsIn n (program_predicates p) → (t : List Const) → length t ≡ n.arity → ((x : Const) → IsIn x t → IsIn x (universe p (last_level p))) → atom_number (base_atoms p (last_level p)) (record { name = n.name; args = t }) ≡ n.first + in_base (length (universe p (last_level p))) (map (const_rank (universe p (last_level p))) t)
number_reads p n i t e h =
    let U = universe p (last_level p) in
    let qs = predicates p (last_level p) in
    let ranks = map (const_rank U) t in
    let long : length ranks ≡ n.arity = length-map t (const_rank U) ∙ e in
    atom_number_value U qs (universe_ascends p (last_level p)) (predicates_ascend p (last_level p)) n i t (tuple_from n.arity U t e h)
    ∙ ap (λ v. n.first + v) (ap (λ k. value (length U) k ranks) (sym long) ∙ sym (read_is (length U) ranks))

-- it is one of the last base's
pub number_below : (p : Program) (n : NumberedPredicate) → IsIn n (program_predicates p) → (t : List Const) → length t ≡ n.arity → ((x : Const) → IsIn x t → IsIn x (universe p (last_level p))) → n.first + in_base (length (universe p (last_level p))) (map (const_rank (universe p (last_level p))) t) < atom_total p
number_below p n i t e h =
    let U = universe p (last_level p) in
    let qs = predicates p (last_level p) in
    let ranks = map (const_rank U) t in
    let long : length ranks ≡ n.arity = length-map t (const_rank U) ∙ e in
    let same : in_base (length U) ranks ≡ value (length U) n.arity ranks = read_is (length U) ranks ∙ ap (λ k. value (length U) k ranks) long in
    let low = (placed U (universe_ascends p (last_level p)) n.arity t (tuple_from n.arity U t e h)).below in
    let b = block U qs 0 n i in
    let r = b.room in
    let f = b.first_is in
    omega (arith, same, low, r, f)
