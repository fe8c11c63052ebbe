-- The predicates and the consistency constraints of the levels, as they are read from lists with an item for each level.
use Rattle.std.proofs.Common.{ℕ, ◌≡◌, ◌+◌, ◌<◌, ◌≤◌, sym, ◌∙◌, ap, subst, true, List, map, take, length, get_or, arith, zero-add, Vec, Global}
use Rattle.std.specs.Prelude.{nat_le}
use Rattle.std.specs.List.{flat_map, list_all}
use Rattle.std.proofs.lemmas.Bool.{le-leb, leb-true}
use Rattle.std.proofs.lemmas.List.{length-map, get_or-map, take_all}
use Rattle.asp_defs.specs.declared.syntax.Rule.{Rule}
use Rattle.asp_defs.specs.declared.syntax.Program.{Program}
use Rattle.asp_defs.specs.Lists.{IsIn, numbers_from}
use Rattle.asp_defs.specs.Constants.{rules_to}
use Rattle.asp_defs.specs.Bases.{Predicate, predicate_cmp, rule_predicates, predicates, last_level}
use Rattle.asp_defs.specs.Consistency.{negated, has_predicate, contradicted, consistency_constraint, consistency_constraints}
use Rattle.asp_defs.proofs.Lists.{all_at, all_from, filter_at, map_from}
use Rattle.asp_walk.proofs.Lists.{get_is_in}
use Rattle.asp_atoms.specs.declared.signatures.Signature.{Signature}
use Rattle.asp_atoms.specs.Ascending.{Ascends}
use Rattle.asp_atoms.specs.Signatures.{predicate_of, predicates_of}
use Rattle.asp_atoms.proofs.Orders.{predicate_lawful}
use Rattle.asp_atoms.proofs.Ascending.{ascends_distinct}
use Rattle.asp_atoms.proofs.Levels.{get_number, length_numbers}
use Rattle.asp_atoms.proofs.Numbering.{map_map}
use Rattle.asp_ground.proofs.Levels.{level_predicate}

-- how many items there are, and which stands at a level's place
pub long_as : {A B : Type 0} (g : A → B) (f : ℕ → B) (xs : List A) (n : ℕ) → map g xs ≡ map f (numbers_from 0 n) → length xs ≡ n
long_as g f xs n e =
    sym (length-map xs g) ∙ (ap length e ∙ (length-map (numbers_from 0 n) f ∙ length_numbers 0 n))

pub item_at : {A B : Type 0} (g : A → B) (f : ℕ → B) (xs : List A) (n k : ℕ) (x : A) → map g xs ≡ map f (numbers_from 0 n) → k < length xs → x ≡ get_or xs k x → g x ≡ f k
item_at g f xs n k x e within is =
    let long = long_as g f xs n e in
    let count = length_numbers 0 n in
    ap g is
    ∙ (sym (get_or-map g xs k x (g x) within)
    ∙ (ap (λ ys. get_or ys k (g x)) e
    ∙ (get_or-map f (numbers_from 0 n) k 0 (g x) (omega (arith, long, count, within))
    ∙ ap f (get_number 0 n k 0 (omega (arith, long, within)) ∙ zero-add k))))

pub predicates_ascend : (p : Program) (k : ℕ) → Ascends predicate_cmp (predicates p k)
predicates_ascend p k = ascends_distinct predicate_lawful (flat_map rule_predicates (rules_to p k))

pub predicates_short : (p : Program) (k : ℕ) → ((q : Predicate) → IsIn q (predicates p (last_level p)) → q.arity ≤ 16) → list_all (λ q. nat_le q.arity 16) (predicates p k) ≡ true
predicates_short p k short =
    all_from (λ q. nat_le q.arity 16) (predicates p k) (λ q i. le-leb q.arity 16 (short q (level_predicate p k q i)))

-- ---- as they are read

abbrev pub signed : Vec Signature Global → List Predicate
signed s = predicates_of s.items

pub read_predicates : (p : Program) (signatures items : List (Vec Signature Global)) (k : ℕ) (item : Vec Signature Global) (slice : List Signature) → items ≡ signatures → map signed signatures ≡ map (predicates p) (numbers_from 0 (last_level p + 1)) → k < length items → item ≡ get_or items k item → slice ≡ item.items → predicates_of slice ≡ predicates p k
read_predicates p signatures items k item slice same e within is slice_is =
    ap predicates_of slice_is
    ∙ item_at signed (predicates p) items (last_level p + 1) k item (ap (map signed) same ∙ e) within is

abbrev constraints_of : List Predicate → List Rule
constraints_of qs = map consistency_constraint (contradicted qs)

pub all_constraints : (p : Program) (signatures items : List (Vec Signature Global)) (k : ℕ) (all : List (List Rule)) → items ≡ signatures → map signed signatures ≡ map (predicates p) (numbers_from 0 (last_level p + 1)) → length items ≤ k → all ≡ map (λ (s : Vec Signature Global). map consistency_constraint (contradicted (predicates_of s.items))) (take k items) → all ≡ map (consistency_constraints p) (numbers_from 0 (last_level p + 1))
all_constraints p signatures items k all same e past is =
    is
    ∙ (ap (map (λ (s : Vec Signature Global). constraints_of (signed s))) (take_all k items past)
    ∙ (sym (map_map constraints_of signed items)
    ∙ (ap (map constraints_of) (ap (map signed) same ∙ e)
    ∙ map_map constraints_of (predicates p) (numbers_from 0 (last_level p + 1)))))

pub short_at : (ps : List Predicate) (found items : List Signature) (k : ℕ) (d : Signature) → items ≡ found → predicates_of found ≡ contradicted ps → list_all (λ q. nat_le q.arity 16) ps ≡ true → k < length items → (get_or items k d).arity ≤ 16
short_at ps found items k d same is short within =
    let member : IsIn (predicate_of (get_or items k d)) (contradicted ps) =
    subst (λ (qs : List Predicate). IsIn (predicate_of (get_or items k d)) qs) (ap predicates_of same ∙ is)
    (map_from predicate_of items (get_or items k d) (get_is_in items k d within)) in
    let inside = filter_at (λ q. has_predicate ps (negated q)) ps (predicate_of (get_or items k d)) member in
    leb-true (get_or items k d).arity 16 (all_at (λ q. nat_le q.arity 16) ps (predicate_of (get_or items k d)) short inside.0)

pub constraints_long : (p : Program) (all : List (List Rule)) → all ≡ map (consistency_constraints p) (numbers_from 0 (last_level p + 1)) → length all ≡ length p.levels + 2
constraints_long p all e =
    let same : length all ≡ length (map (consistency_constraints p) (numbers_from 0 (last_level p + 1))) = ap length e in
    let mapped = length-map (numbers_from 0 (last_level p + 1)) (consistency_constraints p) in
    let count = length_numbers 0 (last_level p + 1) in
    omega (arith, same, mapped, count)

pub read_constraints : (p : Program) (all : List (List Rule)) (k : ℕ) (x : List Rule) → all ≡ map (consistency_constraints p) (numbers_from 0 (last_level p + 1)) → k < last_level p + 1 → x ≡ get_or all k x → x ≡ consistency_constraints p k
read_constraints p all k x e within is =
    let count = length_numbers 0 (last_level p + 1) in
    is
    ∙ (ap (λ ys. get_or ys k x) e
    ∙ (get_or-map (consistency_constraints p) (numbers_from 0 (last_level p + 1)) k 0 x (omega (arith, count, within))
    ∙ ap (consistency_constraints p) (get_number 0 (last_level p + 1) k 0 within ∙ zero-add k)))
