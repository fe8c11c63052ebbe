-- How the constants, predicates and atoms of a program that a text has are spelled, and that its bases are readable.
use Rattle.std.proofs.Common.{ℕ, zero, suc, ◌≡◌, ◌+◌, ◌-◌, ◌<◌, ◌≤◌, refl, ◌∙◌, ap, subst, inl, inr, Bool, true, false, not, ◌&&◌, List, [], ◌∷◌, ◌++◌, map, length, take, replicate, codes, arith, nat_lt}
use Rattle.std.specs.Prelude.{ℤ, pos, negsuc, ◌+ℤ◌, ◌≤ℤ◌, int_le, ◌==◌}
use Rattle.std.specs.List.{list_all, flat_map, join_by}
use Rattle.std.specs.declared.cmp.Ordering.{Ordering}
use Rattle.std.specs.declared.cmp.Ordering.TheVariants.{Less, Equal, Greater}
use Rattle.std.proofs.lemmas.Bool.{leb-true, le-leb}
use Rattle.std.proofs.lemmas.Int.{ints}
use Rattle.asp_defs.specs.declared.ground.Const.{Const}
use Rattle.asp_defs.specs.declared.ground.Const.TheVariants as const
use Rattle.asp_defs.specs.declared.ground.GroundAtom.{GroundAtom}
use Rattle.asp_defs.specs.declared.ground.Game.{Game}
use Rattle.asp_defs.specs.declared.syntax.Term.{Term}
use Rattle.asp_defs.specs.declared.syntax.Term.TheVariants.{Int, Sym, Var, Anon, Range}
use Rattle.asp_defs.specs.declared.syntax.Atom.{Atom}
use Rattle.asp_defs.specs.declared.syntax.Literal.{Literal}
use Rattle.asp_defs.specs.declared.syntax.Literal.TheVariants.{Pos, Neg, Cmp}
use Rattle.asp_defs.specs.declared.syntax.Element.{Element}
use Rattle.asp_defs.specs.declared.syntax.Head.{Head}
use Rattle.asp_defs.specs.declared.syntax.Head.TheVariants.{Disj, Choice}
use Rattle.asp_defs.specs.declared.syntax.Part.{Part}
use Rattle.asp_defs.specs.declared.syntax.Rule.{Rule}
use Rattle.asp_defs.specs.declared.syntax.Program.{Program}
use Rattle.asp_defs.specs.Lists.{IsIn}
use Rattle.asp_defs.specs.Constants.{with_member, distinct, integers_from, interval_length, interval, term_constants, atom_constants, literal_constants, element_constants, head_constants, rule_constants, const_cmp, level_rules, rules_to, universe}
use Rattle.asp_defs.specs.Bases.{Predicate, atom_predicate, literal_predicates, element_predicates, head_predicates, rule_predicates, predicate_cmp, predicates, product, predicate_atoms, base_atoms, bases_of, last_level}
use Rattle.asp_defs.specs.Games.{game_of, level_count, base, IsValid}
use Rattle.asp_defs.specs.Canonical.{applied_text}
use Rattle.asp_defs.specs.Sets.{const_text, ground_atom_text}
use Rattle.asp_defs.proofs.Lists.{both, and_true, all_at, all_from, map_at}
use Rattle.asp_defs.proofs.Irrelevance.{base-up, base-next}
use Rattle.asp_sets.specs.Readable.{is_solid}
use Rattle.asp_atoms.proofs.Integers.{in_range}
use Rattle.asp_defs.specs.Tokens.{is_in_range}
use Rattle.asp_print.proofs.Shapes.{is_name}
use Rattle.asp_sets.specs.Laws.{TextBasesAreReadable}
use Rattle.asp_sets.proofs.Spelling.{lacks, is_word, is_word_byte, spelled_const, word_lacks, const_lacks, different}
use Rattle.asp_sets.proofs.Walking.{spelled_term, spelled_atom, spelled_literal, spelled_element, spelled_head, spelled_rule, spelled_level, text_spelled}

-- ---- lists whose members pass

all_append : {A : Type 0} (p : A → Bool) (xs ys : List A) → list_all p xs ≡ true → list_all p ys ≡ true → list_all p (xs ++ ys) ≡ true
all_append p [] ys h k = k
all_append p (x ∷ xs) ys h k =
    let parts = both (p x) (list_all p xs) h in and_true (p x) (list_all p (xs ++ ys)) parts.0 (all_append p xs ys parts.1 k)

all_flat : {A B : Type 0} (p : A → Bool) (q : B → Bool) (f : A → List B) → ((x : A) → p x ≡ true → list_all q (f x) ≡ true) → (xs : List A) → list_all p xs ≡ true → list_all q (flat_map f xs) ≡ true
all_flat p q f one [] h = refl
all_flat p q f one (x ∷ xs) h =
    let parts = both (p x) (list_all p xs) h in
    all_append q (f x) (flat_map f xs) (one x parts.0) (all_flat p q f one xs parts.1)

all_map : {A B : Type 0} (p : A → Bool) (q : B → Bool) (f : A → B) → ((x : A) → p x ≡ true → q (f x) ≡ true) → (xs : List A) → list_all p xs ≡ true → list_all q (map f xs) ≡ true
all_map p q f one [] h = refl
all_map p q f one (x ∷ xs) h =
    let parts = both (p x) (list_all p xs) h in and_true (q (f x)) (list_all q (map f xs)) (one x parts.0) (all_map p q f one xs parts.1)

all_take : {A : Type 0} (p : A → Bool) (n : ℕ) (xs : List A) → list_all p xs ≡ true → list_all p (take n xs) ≡ true
all_take p zero xs h = refl
all_take p (suc n) [] h = refl
all_take p (suc n) (x ∷ xs) h =
    let parts = both (p x) (list_all p xs) h in and_true (p x) (list_all p (take n xs)) parts.0 (all_take p n xs parts.1)

all_replicate : {A : Type 0} (p : A → Bool) (n : ℕ) (x : A) → p x ≡ true → list_all p (replicate n x) ≡ true
all_replicate p zero x h = refl
all_replicate p (suc n) x h = and_true (p x) (list_all p (replicate n x)) h (all_replicate p n x h)

all_with : {A : Type 0} (p : A → Bool) (order : A → A → Ordering) (x : A) (ys : List A) → p x ≡ true → list_all p ys ≡ true → list_all p (with_member order x ys) ≡ true
all_with p order x [] h k = and_true (p x) true h refl
all_with {A} p order x (y ∷ ys) h k =
    let parts = both (p y) (list_all p ys) k in
    go (order x y) (and_true (p y) (list_all p (with_member order x ys)) parts.0 (all_with p order x ys h parts.1))
  where
    go : (o : Ordering) → list_all p (y ∷ with_member order x ys) ≡ true
        → list_all p (elim o [ Less ↦ x ∷ y ∷ ys | Equal ↦ y ∷ ys | Greater ↦ y ∷ with_member order x ys ]) ≡ true
    go Less m = and_true (p x) (list_all p (y ∷ ys)) h k
    go Equal m = k
    go Greater m = m

all_distinct : {A : Type 0} (p : A → Bool) (order : A → A → Ordering) (xs : List A) → list_all p xs ≡ true → list_all p (distinct order xs) ≡ true
all_distinct p order [] h = refl
all_distinct p order (x ∷ xs) h =
    let parts = both (p x) (list_all p xs) h in all_with p order x (distinct order xs) parts.0 (all_distinct p order xs parts.1)

all_product : {A : Type 0} (p : A → Bool) (lists : List (List A)) → list_all (list_all p) lists ≡ true → list_all (list_all p) (product lists) ≡ true
all_product p [] h = refl
all_product p (xs ∷ lists) h =
    let parts = both (list_all p xs) (list_all (list_all p) lists) h in
    let rest = all_product p lists parts.1 in
    all_flat p (list_all p) (λ x. map (λ tuple. x ∷ tuple) (product lists))
    (λ x e. all_map (list_all p) (list_all p) (λ tuple. x ∷ tuple) (λ tuple f. and_true (p x) (list_all p tuple) e f) (product lists) rest) xs parts.0

-- ---- constants and predicates

-- the integers of an interval lie between its ends
integer_in : (low : ℤ) (count : ℕ) (z : ℤ) → IsIn z (integers_from low count) → (k : ℕ) × (k < count) × (z ≡ low +ℤ pos k)
integer_in low zero z i = absurd i
integer_in low (suc count) z (inl e) = let same : low ≡ low +ℤ pos 0 = omega (arith, ints) in (0, omega arith, e ∙ same)
integer_in low (suc count) z (inr i) =
    let (k, h, e) = integer_in (low +ℤ pos 1) count z i in
    let same : low +ℤ pos 1 +ℤ pos k ≡ low +ℤ pos (suc k) = omega (arith, ints) in
    let inside : suc k < suc count = omega (arith, h) in
    (suc k, inside, e ∙ same)

between : (low z high : ℤ) → is_in_range low ≡ true → is_in_range high ≡ true → low ≤ℤ z → z ≤ℤ high → is_in_range z ≡ true
between low (pos n) (pos m) h g l u =
    let range = both (int_le (negsuc 2147483647) (pos m)) (int_le (pos m) (pos 2147483647)) g in
    let most : m ≤ 2147483647 = leb-true m 2147483647 range.1 in
    let below : n ≤ m = omega (arith, ints) in
    le-leb n 2147483647 (omega (arith, most, below))
between low (pos n) (negsuc m) h g l u = absurd (omega (arith, ints))
between (negsuc k) (negsuc n) high h g l u =
    let range = both (int_le (negsuc 2147483647) (negsuc k)) (int_le (negsuc k) (pos 2147483647)) h in
    let most : k ≤ 2147483647 = leb-true k 2147483647 range.0 in
    let below : n ≤ k = omega (arith, ints) in
    and_true (int_le (negsuc 2147483647) (negsuc n)) true (le-leb n 2147483647 (omega (arith, most, below))) refl
between (pos k) (negsuc n) high h g l u = absurd (omega (arith, ints))

interval_in_range : (low high : ℤ) → is_in_range low ≡ true → is_in_range high ≡ true → list_all spelled_const (map const.Int (interval low high)) ≡ true
interval_in_range low high h g = all_from spelled_const (map const.Int (interval low high)) (λ c i.
    let (z, m, e) = map_at const.Int (interval low high) c i in
    let (k, inside, f) = integer_in low (interval_length low high) z m in
    let upper : (low +ℤ pos k) ≤ℤ high = in_range low high k inside in
    let lower : low ≤ℤ (low +ℤ pos k) = omega (arith, ints) in
    ap spelled_const e ∙ ap is_in_range f ∙ between low (low +ℤ pos k) high h g lower upper)

term_consts : (t : Term) → spelled_term t ≡ true → list_all spelled_const (term_constants t) ≡ true
term_consts (Int x) h = and_true (is_in_range x) true h refl
term_consts (Sym s) h = and_true (is_name s) true h refl
term_consts (Var v) h = refl
term_consts (Anon k) h = refl
term_consts (Range low high) h = let parts = both (is_in_range low) (is_in_range high) h in interval_in_range low high parts.0 parts.1

atom_consts : (a : Atom) → spelled_atom a ≡ true → list_all spelled_const (atom_constants a) ≡ true
atom_consts a h = all_flat spelled_term spelled_const term_constants term_consts a.args (both (is_word a.name) (list_all spelled_term a.args) h).1

literal_consts : (l : Literal) → spelled_literal l ≡ true → list_all spelled_const (literal_constants l) ≡ true
literal_consts (Pos a) h = atom_consts a h
literal_consts (Neg a) h = atom_consts a h
literal_consts (Cmp x op y) h =
    let parts = both (spelled_term x) (spelled_term y) h in
    all_append spelled_const (term_constants x) (term_constants y) (term_consts x parts.0) (term_consts y parts.1)

element_consts : (e : Element) → spelled_element e ≡ true → list_all spelled_const (element_constants e) ≡ true
element_consts e h =
    let parts = both (spelled_atom e.atom) (list_all spelled_literal e.cond) h in
    all_append spelled_const (atom_constants e.atom) (flat_map literal_constants e.cond) (atom_consts e.atom parts.0)
    (all_flat spelled_literal spelled_const literal_constants literal_consts e.cond parts.1)

head_consts : (head : Head) → spelled_head head ≡ true → list_all spelled_const (head_constants head) ≡ true
head_consts (Disj atoms) h = all_flat spelled_atom spelled_const atom_constants atom_consts atoms h
head_consts (Choice low elements high) h = all_flat spelled_element spelled_const element_constants element_consts elements h

rule_consts : (r : Rule) → spelled_rule r ≡ true → list_all spelled_const (rule_constants r) ≡ true
rule_consts r h =
    let parts = both (spelled_head r.head) (list_all spelled_literal r.body) h in
    all_append spelled_const (head_constants r.head) (flat_map literal_constants r.body) (head_consts r.head parts.0)
    (all_flat spelled_literal spelled_const literal_constants literal_consts r.body parts.1)

abbrev spelled_predicate : Predicate → Bool
spelled_predicate q = is_word q.name

atom_named : (a : Atom) → spelled_atom a ≡ true → spelled_predicate (atom_predicate a) ≡ true
atom_named a h = (both (is_word a.name) (list_all spelled_term a.args) h).0

literal_named : (l : Literal) → spelled_literal l ≡ true → list_all spelled_predicate (literal_predicates l) ≡ true
literal_named (Pos a) h = and_true (is_word a.name) true (atom_named a h) refl
literal_named (Neg a) h = and_true (is_word a.name) true (atom_named a h) refl
literal_named (Cmp x op y) h = refl

element_named : (e : Element) → spelled_element e ≡ true → list_all spelled_predicate (element_predicates e) ≡ true
element_named e h =
    let parts = both (spelled_atom e.atom) (list_all spelled_literal e.cond) h in
    and_true (is_word (e.atom).name) (list_all spelled_predicate (flat_map literal_predicates e.cond)) (atom_named e.atom parts.0)
    (all_flat spelled_literal spelled_predicate literal_predicates literal_named e.cond parts.1)

head_named : (head : Head) → spelled_head head ≡ true → list_all spelled_predicate (head_predicates head) ≡ true
head_named (Disj atoms) h = all_map spelled_atom spelled_predicate atom_predicate atom_named atoms h
head_named (Choice low elements high) h = all_flat spelled_element spelled_predicate element_predicates element_named elements h

rule_named : (r : Rule) → spelled_rule r ≡ true → list_all spelled_predicate (rule_predicates r) ≡ true
rule_named r h =
    let parts = both (spelled_head r.head) (list_all spelled_literal r.body) h in
    all_append spelled_predicate (head_predicates r.head) (flat_map literal_predicates r.body) (head_named r.head parts.0)
    (all_flat spelled_literal spelled_predicate literal_predicates literal_named r.body parts.1)

-- ---- the atoms of a base

all_rules_to : (p : Program) (i : ℕ) → list_all spelled_level p.levels ≡ true → list_all spelled_rule p.cons ≡ true → list_all spelled_rule (rules_to p i) ≡ true
all_rules_to p i levels cons =
    all_flat (list_all spelled_rule) spelled_rule (λ rules. rules) (λ rules h. h) (take i (level_rules p))
    (all_take (list_all spelled_rule) i (level_rules p)
    (all_append (list_all spelled_rule) (map (λ (part : Part). part.rules) p.levels) (p.cons ∷ [])
    (all_map spelled_level (list_all spelled_rule) (λ (part : Part). part.rules) (λ part h. h) p.levels levels)
    (and_true (list_all spelled_rule p.cons) true cons refl)))

abbrev pub spelled_ground : GroundAtom → Bool
spelled_ground a = is_word a.name && list_all spelled_const a.args

predicate_spelled : (U : List Const) → list_all spelled_const U ≡ true → (q : Predicate) → spelled_predicate q ≡ true → list_all spelled_ground (predicate_atoms U q) ≡ true
predicate_spelled U h q named =
    all_map (list_all spelled_const) spelled_ground (λ tuple. record { name = q.name; args = tuple }) (λ tuple k. and_true (is_word q.name) (list_all spelled_const tuple) named k)
    (product (replicate q.arity U)) (all_product spelled_const (replicate q.arity U) (all_replicate (list_all spelled_const) q.arity U h))

pub base_spelled : (p : Program) (i : ℕ) → list_all spelled_level p.levels ≡ true → list_all spelled_rule p.cons ≡ true → list_all spelled_ground (base_atoms p i) ≡ true
base_spelled p i levels cons =
    let rules = all_rules_to p i levels cons in
    let constants : list_all spelled_const (universe p i) ≡ true =
    all_distinct spelled_const const_cmp (flat_map rule_constants (rules_to p i)) (all_flat spelled_rule spelled_const rule_constants rule_consts (rules_to p i) rules) in
    all_flat spelled_predicate spelled_ground (predicate_atoms (universe p i)) (predicate_spelled (universe p i) constants) (predicates p i)
    (all_distinct spelled_predicate predicate_cmp (flat_map rule_predicates (rules_to p i)) (all_flat spelled_rule spelled_predicate rule_predicates rule_named (rules_to p i) rules))

-- ---- the texts of atoms

each_lacks : (c : ℕ) → c < 44 → is_word_byte c ≡ false → (args : List Const) → list_all spelled_const args ≡ true → lacks c (flat_map (λ k. codes "," ++ const_text k) args) ≡ true
each_lacks c small fails [] h = refl
each_lacks c small fails (k ∷ args) h =
    let parts = both (spelled_const k) (list_all spelled_const args) h in
    let low : c < 45 = omega (arith, small) in
    and_true (not (44 == c)) (lacks c (const_text k ++ flat_map (λ k. codes "," ++ const_text k) args)) (different 44 c small)
    (all_append (λ b. not (b == c)) (const_text k) (flat_map (λ k. codes "," ++ const_text k) args) (const_lacks c low fails k parts.0) (each_lacks c small fails args parts.1))

-- no blank stands in the text of an atom
applied_solid : (name : List ℕ) (args : List Const) → is_word name ≡ true → list_all spelled_const args ≡ true → is_solid (applied_text const_text name args) ≡ true
applied_solid name [] h k = word_lacks 32 refl name h
applied_solid name (c ∷ args) h k =
    let parts = both (spelled_const c) (list_all spelled_const args) k in
    let inside : is_solid (join_by const_text (codes ",") (c ∷ args)) ≡ true =
    all_append (λ b. not (b == 32)) (const_text c) (flat_map (λ d. codes "," ++ const_text d) args) (const_lacks 32 (omega arith) refl c parts.0) (each_lacks 32 (omega arith) refl args parts.1) in
    all_append (λ b. not (b == 32)) ((name ++ codes "(") ++ join_by const_text (codes ",") (c ∷ args)) (codes ")")
    (all_append (λ b. not (b == 32)) (name ++ codes "(") (join_by const_text (codes ",") (c ∷ args)) (all_append (λ b. not (b == 32)) name (codes "(") (word_lacks 32 refl name h) refl) inside) refl

ground_solid : (a : GroundAtom) → spelled_ground a ≡ true → is_solid (ground_atom_text a) ≡ true
ground_solid a h = let parts = both (is_word a.name) (list_all spelled_const a.args) h in applied_solid a.name a.args parts.0 parts.1

-- ---- the numbers of the first base

above_first : (g : Game) → IsValid g → (k : ℕ) → k ≤ level_count g → (a : ℕ) → IsIn a (base g 1) → IsIn a (base g (1 + k))
above_first g valid zero h a i = i
above_first g valid (suc k) h a i =
    let back : 1 + k ≡ 2 + k - 1 = omega arith in
    let next : 2 + k ≡ 1 + suc k = omega arith in
    let below : k ≤ level_count g = omega (arith, h) in
    let inside : 2 + k ≤ level_count g + 1 = omega (arith, h) in
    subst (λ (n : ℕ). IsIn a (base g n)) next
    (base-next g (2 + k) valid (omega arith) inside a (subst (λ (n : ℕ). IsIn a (base g n)) back (above_first g valid k below a i)))

pub first_within : (g : Game) → IsValid g → list_all (λ a. nat_lt a (length g.bases.atoms)) (base g 1) ≡ true
first_within g valid = all_from (λ a. nat_lt a (length g.bases.atoms)) (base g 1) (λ a i.
    let last : 1 + level_count g ≡ level_count g + 1 = omega arith in
    let all : level_count g ≤ level_count g = omega arith in
    all_at (λ a. nat_lt a (length g.bases.atoms)) (base g (level_count g + 1)) a valid.last_within
    (subst (λ (n : ℕ). IsIn a (base g n)) last (above_first g valid (level_count g) all a i)))

pub text_bases_are_readable : TextBasesAreReadable
text_bases_are_readable bytes p text valid =
    let parts = text_spelled bytes p text in
    let most : length (bases_of p).atoms ≤ 262144 = valid.few_atoms in
    record {
      solid = all_from (λ a. is_solid (ground_atom_text a)) (base_atoms p (last_level p)) (λ a i. ground_solid a (all_at spelled_ground (base_atoms p (last_level p)) a (base_spelled p (last_level p) parts.0 parts.1) i));
      ascending = base-up (game_of p) 1 valid;
      within = first_within (game_of p) valid;
      few = omega (arith, most);
    }
