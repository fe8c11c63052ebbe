-- The vocabulary of a program from the universes and predicates of its levels.
use Rattle.std.proofs.Common.{ℕ, ◌≡◌, ◌+◌, ◌^◌, ◌<◌, ◌≤◌, min, sym, ◌∙◌, ap, inl, inr, Bool, false, cond, ltb, List, map, length, get_or, arith, Bor, Option, Some, None, is_none, is_some, Fits, w32, Vec, Global}
use Rattle.std.specs.List.{sum_by, flat_map}
use Rattle.std.proofs.lemmas.Bool.{cases_lt, lt-ltb, le-ltb}
use Rattle.std.proofs.lemmas.List.{length-map}
use Rattle.asp_defs.specs.declared.faults.Which.{Which}
use Rattle.asp_defs.specs.declared.faults.Which.TheVariants.{Constants as ConstantsLimit, Atoms}
use Rattle.asp_defs.specs.declared.faults.SizeFault.{SizeFault}
use Rattle.asp_defs.specs.declared.faults.SizeFault.TheVariants as fault
use Rattle.asp_defs.specs.declared.ground.Const.{Const}
use Rattle.asp_defs.specs.declared.syntax.Rule.{Rule}
use Rattle.asp_defs.specs.declared.syntax.Program.{Program}
use Rattle.asp_defs.specs.Lists.{numbers_from}
use Rattle.asp_defs.specs.Constants.{universe, level_rules}
use Rattle.asp_defs.specs.declared.ground.GroundAtom.{GroundAtom}
use Rattle.asp_defs.specs.declared.ground.Bases.{Bases}
use Rattle.asp_defs.specs.Bases.{Predicate, predicates, last_level, predicate_atoms, base_atoms, atom_number, bases_of}
use Rattle.asp_defs.specs.Limits.{past_limit, most_shown}
use Rattle.asp_defs.specs.Sizes.{constant_total, atom_total}
use Rattle.asp_atoms.specs.declared.constants.Constants.{Constants}
use Rattle.asp_atoms.specs.declared.vocabularies.Vocabulary.{Vocabulary}
use Rattle.asp_atoms.specs.declared.gathered.Gathered.{Gathered}
use Rattle.asp_atoms.specs.declared.signatures.Signature.{Signature}
use Rattle.asp_atoms.specs.Gathered.{IsGathered}
use Rattle.asp_atoms.specs.Universes.{constants_of}
use Rattle.asp_atoms.specs.Signatures.{predicates_of}
use Rattle.asp_atoms.specs.declared.vocabularies.NumberedPredicate.{NumberedPredicate}
use Rattle.asp_atoms.specs.Members.{levels_numbers}
use Rattle.asp_atoms.specs.Vocabularies.{const_rank, unnumbered, numbered_from, vocabulary_from, vocabulary_of}
use Rattle.asp_atoms.specs.Answers.{base_too_large, first_past, IsPast, IsBaseRefusal}
use Rattle.asp_atoms.proofs.Levels.{value_at, value_long}
use Rattle.asp_atoms.proofs.Numbering.{map_map}
use Rattle.asp_atoms.proofs.Counting.{levels_long, many_constants, many_atoms, few_of_both, within_limit, first_none, second_none}
use Rattle.asp_atoms.proofs.Choosing.{unnumbered_all}
use Rattle.asp_defs.proofs.TextRefutations.{clash}
use Rattle.asp_atoms.proofs.Assembling.{atoms_counted, program_ranks, program_predicates, members_are}

-- as many levels as the program has, and the constraint part
pub as_many : (p : Program) (levels : List (Bor (List Rule))) → map (λ (l : Bor (List Rule)). l.now) levels ≡ level_rules p → length levels ≡ last_level p
as_many p levels e =
    let long = length-map levels (λ (l : Bor (List Rule)). l.now) in
    let same = ap length e in
    let whole = levels_long p in
    omega (arith, long, same, whole)

-- what the levels have is what the definition says of them
pub all_levels : {A X : Type 0} (g : X → List A) (u : List (List Rule) → ℕ → List A) (p : Program) (levels slice : List (Bor (List Rule))) (xs : List X) → slice ≡ levels → map (λ (l : Bor (List Rule)). l.now) levels ≡ level_rules p → map g xs ≡ map (u (map (λ (l : Bor (List Rule)). l.now) slice)) (numbers_from 0 (length slice + 1)) → map g xs ≡ map (u (level_rules p)) (numbers_from 0 (last_level p + 1))
all_levels g u p levels slice xs s e all =
    all ∙ (ap (λ ls. map (u (map (λ (l : Bor (List Rule)). l.now) ls)) (numbers_from 0 (length ls + 1))) s
    ∙ (ap (λ l. map (u l) (numbers_from 0 (length levels + 1))) e
    ∙ ap (λ n. map (u (level_rules p)) (numbers_from 0 (n + 1))) (as_many p levels e)))

pub last_of : {A X : Type 0} (g : X → List A) (u : ℕ → List A) (p : Program) (xs : List X) (n : ℕ) (x : X) → n ≡ last_level p → map g xs ≡ map u (numbers_from 0 (last_level p + 1)) → x ≡ get_or xs n x → g x ≡ u (last_level p)
last_of g u p xs n x e all is =
    ap g is ∙ (value_at g u xs (last_level p + 1) n x all (omega (arith, e)) ∙ ap u e)

-- the last of them
pub levels_last : {A X : Type 0} (g : X → List A) (u : List (List Rule) → ℕ → List A) (p : Program) (levels slice : List (Bor (List Rule))) (xs : List X) (n : ℕ) (x : X) → slice ≡ levels → map (λ (l : Bor (List Rule)). l.now) levels ≡ level_rules p → map g xs ≡ map (u (map (λ (l : Bor (List Rule)). l.now) slice)) (numbers_from 0 (length slice + 1)) → n ≡ length levels → x ≡ get_or xs n x → g x ≡ u (level_rules p) (last_level p)
levels_last g u p levels slice xs n x s e all k is =
    last_of g (u (level_rules p)) p xs n x (k ∙ as_many p levels e) (all_levels g u p levels slice xs s e all) is

-- ---- the limits

abbrev passes : ℕ → ℕ → Bool → Bool → Option (Which × ℕ)
passes size total many large = cond many (Some (ConstantsLimit, size)) (cond large (Some (Atoms, total)) None)

past_first : (size total : ℕ) → 4096 < size → first_past size total ≡ Some (ConstantsLimit, size)
past_first size total h = ap (λ b. passes size total b (ltb 262144 total)) (lt-ltb 4096 size h)

past_second : (size total : ℕ) → size ≤ 4096 → 262144 < total → first_past size total ≡ Some (Atoms, total)
past_second size total g h =
    ap (λ b. passes size total b (ltb 262144 total)) (le-ltb 4096 size g) ∙ ap (passes size total false) (lt-ltb 262144 total h)

past_none : (size total : ℕ) → size ≤ 4096 → total ≤ 262144 → first_past size total ≡ None
past_none size total g h =
    ap (λ b. passes size total b (ltb 262144 total)) (le-ltb 4096 size g) ∙ ap (passes size total false) (le-ltb 262144 total h)

-- no limit is passed
no_limit : (size total : ℕ) → first_past size total ≡ None → (size ≤ 4096) × (total ≤ 262144)
no_limit size total e = elim (cases_lt 4096 size) [
  | inl many ↦ clash (ap is_none (sym (past_first size total many) ∙ e))
  | inr few ↦ elim (cases_lt 262144 total) [
    | inl large ↦ clash (ap is_none (sym (past_second size total few large) ∙ e))
    | inr within ↦ (few, within)
  ]
]

-- the numbers of a program's constants and atoms, as they are counted
pub record IsCounted (p : Program) (size total : ℕ) : Type 0 where
  pub constants : size ≡ min (constant_total p) most_shown
  pub atoms : total ≡ min (sum_by (λ q. size ^ q.arity) (predicates p (last_level p))) most_shown

atoms_of_few : (p : Program) (size total : ℕ) → IsCounted p size total → size ≤ 4096 → total ≡ min (atom_total p) most_shown
atoms_of_few p size total counted h =
    let c = counted.constants in
    let same : size ≡ constant_total p = omega (arith, c, h) in
    counted.atoms
    ∙ (ap (λ n. min (sum_by (λ (q : Predicate). n ^ q.arity) (predicates p (last_level p))) most_shown) same
    ∙ ap (λ n. min n most_shown) (sym (atoms_counted p)))

pub small : (p : Program) (size total : ℕ) → IsCounted p size total → first_past size total ≡ None → base_too_large p ≡ None
small p size total counted e =
    let within = no_limit size total e in
    let c = counted.constants in
    let few = within.0 in
    let some = within.1 in
    let a = atoms_of_few p size total counted few in
    few_of_both p (omega (arith, c, few)) (omega (arith, a, some))

refused_for : (p : Program) (size total : ℕ) → IsCounted p size total → (which : Which) (count : ℕ) → first_past size total ≡ Some (which, count) → base_too_large p ≡ Some (which, count)
refused_for p size total counted which count e = elim (cases_lt 4096 size) [
  | inl many ↦ many_constants p size counted.constants many ∙ (sym (past_first size total many) ∙ e)
  | inr few ↦ elim (cases_lt 262144 total) [
    | inl large ↦
        let c = counted.constants in
        many_atoms p total (omega (arith, c, few)) (atoms_of_few p size total counted few) large ∙ (sym (past_second size total few large) ∙ e)
    | inr within ↦ clash (ap is_some (sym (past_none size total few within) ∙ e))
  ]
]

pub refusal : (p : Program) (size total : ℕ) → IsCounted p size total → (f : SizeFault) → IsPast size total f → IsBaseRefusal p f
refusal p size total counted (fault.TooLarge which count) h = refused_for p size total counted which count h
refusal p size total counted fault.NoMemory h = absurd h

-- the number of atoms, where no limit is passed
pub exact : (p : Program) (size total : ℕ) → IsCounted p size total → first_past size total ≡ None → total ≡ atom_total p
exact p size total counted e =
    let within = no_limit size total e in
    let some = within.1 in
    let a = atoms_of_few p size total counted within.0 in
    omega (arith, a, some)

pub total_fits : (size total : ℕ) → first_past size total ≡ None → Fits w32 total
total_fits size total e = let some = (no_limit size total e).1 in omega (arith, some)

-- ---- what the vocabulary needs

pub few_atoms : (p : Program) → base_too_large p ≡ None → atom_total p ≤ 262144
few_atoms p e = within_limit Atoms (atom_total p) (second_none (past_limit ConstantsLimit (constant_total p)) (past_limit Atoms (atom_total p)) e)

pub few_constants : (p : Program) → base_too_large p ≡ None → constant_total p ≤ 4096
few_constants p e = within_limit ConstantsLimit (constant_total p) (first_none (past_limit ConstantsLimit (constant_total p)) (past_limit Atoms (atom_total p)) e)

pub few_of_predicates : (p : Program) → base_too_large p ≡ None → sum_by (λ q. length (universe p (last_level p)) ^ q.arity) (predicates p (last_level p)) ≤ 262144
few_of_predicates p e =
    let few = few_atoms p e in
    let all = atoms_counted p in
    omega (arith, few, all)

-- as many universes as levels with the constraint part and the empty one before them, and as many lists of predicates
pub many_universes : (p : Program) (g : Gathered) → IsGathered p g → length g.universes.items ≡ last_level p + 1
many_universes p g h = value_long constants_of (universe p) g.universes.items (last_level p + 1) h.constants

pub many_signatures : (p : Program) (g : Gathered) → IsGathered p g → length g.signatures.items ≡ last_level p + 1
many_signatures p g h = value_long (λ (s : Vec Signature Global). predicates_of s.items) (predicates p) g.signatures.items (last_level p + 1) h.signed

-- the last of them
pub last_constants : (p : Program) (g : Gathered) (n : ℕ) (x : Constants) → IsGathered p g → n ≡ last_level p → x ≡ get_or g.universes.items n x → constants_of x ≡ universe p (last_level p)
last_constants p g n x h e is = last_of constants_of (universe p) p g.universes.items n x e h.constants is

pub last_predicates : (p : Program) (g : Gathered) (n : ℕ) (x : Vec Signature Global) → IsGathered p g → n ≡ last_level p → x ≡ get_or g.signatures.items n x → predicates_of x.items ≡ predicates p (last_level p)
last_predicates p g n x h e is = last_of (λ (s : Vec Signature Global). predicates_of s.items) (predicates p) p g.signatures.items n x e h.signed is

-- ---- the vocabulary

abbrev made : List Const → List (List ℕ) → List Predicate → ℕ → Vocabulary
made constants universes qs atoms = record { constants = constants; universes = universes; predicates = numbered_from (length constants) 0 qs; atoms = atoms }

pub same_vocabulary : (p : Program) (constants : List Const) (universes : List (List Const)) (qs : List Predicate) (atoms : ℕ) → constants ≡ universe p (last_level p) → universes ≡ map (universe p) (numbers_from 0 (last_level p + 1)) → qs ≡ predicates p (last_level p) → atoms ≡ atom_total p → vocabulary_from constants universes qs atoms ≡ vocabulary_of p
same_vocabulary p constants universes qs atoms ce ue qe ae =
    ap (λ us. vocabulary_from us universes qs atoms) ce
    ∙ (ap (λ us. vocabulary_from (universe p (last_level p)) us qs atoms) ue
    ∙ (ap (λ ps. vocabulary_from (universe p (last_level p)) (map (universe p) (numbers_from 0 (last_level p + 1))) ps atoms) qe
    ∙ (ap (vocabulary_from (universe p (last_level p)) (map (universe p) (numbers_from 0 (last_level p + 1))) (predicates p (last_level p))) ae
    ∙ ap (λ us. made (universe p (last_level p)) us (predicates p (last_level p)) (atom_total p))
    (map_map (map (const_rank (universe p (last_level p)))) (universe p) (numbers_from 0 (last_level p + 1))))))

-- ---- what the bases need

pub as_long : {A B C X : Type 0} (f : A → B) (g : X → C) (u : A → C) (us : List B) (xs : List X) (ns : List A) → us ≡ map f ns → map g xs ≡ map u ns → length us ≡ length xs
as_long f g u us xs ns e h =
    let one = length-map ns f in
    let two = length-map xs g in
    let three = length-map ns u in
    let first = ap length e in
    let second = ap length h in
    omega (arith, one, two, three, first, second)

abbrev base_record : List GroundAtom → List (List ℕ) → Bases
base_record atoms members = record { atoms = atoms; members = members }

pub same_atoms : (p : Program) (constants : List Const) (qs : List NumberedPredicate) (atoms : List GroundAtom) → constants ≡ universe p (last_level p) → qs ≡ program_predicates p → atoms ≡ flat_map (predicate_atoms constants) (map unnumbered qs) → atoms ≡ base_atoms p (last_level p)
same_atoms p constants qs atoms ce qe ae =
    ae ∙ (ap (λ cs. flat_map (predicate_atoms cs) (map unnumbered qs)) ce
    ∙ (ap (λ ns. flat_map (predicate_atoms (universe p (last_level p))) (map unnumbered ns)) qe
    ∙ ap (flat_map (predicate_atoms (universe p (last_level p)))) (unnumbered_all (length (universe p (last_level p))) 0 (predicates p (last_level p)))))

pub same_bases : (p : Program) (constants : List Const) (qs : List NumberedPredicate) (us : List (List ℕ)) (pss : List (List Predicate)) (atoms : List GroundAtom) (members : List (List ℕ)) → constants ≡ universe p (last_level p) → qs ≡ program_predicates p → us ≡ map (program_ranks p) (numbers_from 0 (last_level p + 1)) → pss ≡ map (predicates p) (numbers_from 0 (last_level p + 1)) → atoms ≡ flat_map (predicate_atoms constants) (map unnumbered qs) → members ≡ levels_numbers (length constants) qs us pss → base_record atoms members ≡ bases_of p
same_bases p constants qs us pss atoms members ce qe ue pe ae me =
    let all = same_atoms p constants qs atoms ce qe ae in
    let each : members ≡ map (λ i. map (atom_number (base_atoms p (last_level p))) (base_atoms p i)) (numbers_from 0 (last_level p + 1)) =
    me ∙ (ap (λ cs. levels_numbers (length cs) qs us pss) ce
    ∙ (ap (λ ns. levels_numbers (length (universe p (last_level p))) ns us pss) qe
    ∙ (ap (λ l. levels_numbers (length (universe p (last_level p))) (program_predicates p) l pss) ue
    ∙ (ap (levels_numbers (length (universe p (last_level p))) (program_predicates p) (map (program_ranks p) (numbers_from 0 (last_level p + 1)))) pe
    ∙ members_are p)))) in
    ap (λ l. base_record l members) all ∙ ap (base_record (base_atoms p (last_level p))) each
