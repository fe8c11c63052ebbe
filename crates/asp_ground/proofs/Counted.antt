-- The instances that are counted from the front of a program are all that it has.
use Rattle.std.proofs.Common.{ℕ, suc, ◌≡◌, ◌<◌, ◌≤◌, ◌+◌, ◌*◌, ◌^◌, refl, sym, ◌∙◌, ap, subst, inl, inr, Bool, ◌&&◌, List, [], ◌∷◌, ◌++◌, append-nil, append_assoc, zero-add, map, take, length, get_or, arith}
use Rattle.std.specs.Prelude.{ℤ, Option, if◌then◌else◌, IsTrue, None, ◌==◌}
use Rattle.std.specs.List.{flat_map, fold, sum_by, enumerate_from}
use Rattle.std.proofs.lemmas.Bool.{ne_eqb, lt-ltb}
use Rattle.std.proofs.Math.Nat.{pow-zero}
use Rattle.std.proofs.lemmas.List.{length-map, length-append, take_at}
use Rattle.std.proofs.lemmas.List.Concat.{flat_map-append}
use Rattle.std.proofs.lemmas.List.Sums.{sum_by-cons}
use Rattle.asp_defs.specs.declared.ground.Const.{Const}
use Rattle.asp_defs.specs.declared.syntax.Term.{Term}
use Rattle.asp_defs.specs.declared.syntax.Term.TheVariants.{Int, Sym, Var, Anon, Range}
use Rattle.asp_defs.specs.declared.syntax.Atom.{Atom}
use Rattle.asp_defs.specs.declared.syntax.Literal.{Literal}
use Rattle.asp_defs.specs.declared.syntax.Element.{Element}
use Rattle.asp_defs.specs.declared.syntax.Head.{Head}
use Rattle.asp_defs.specs.declared.syntax.Head.TheVariants.{Disj, Choice}
use Rattle.asp_defs.specs.declared.syntax.Rule.{Rule}
use Rattle.asp_defs.specs.declared.syntax.Program.{Program}
use Rattle.asp_defs.specs.Lists.{IsIn}
use Rattle.asp_defs.specs.Constants.{const_cmp, with_member, distinct, interval, interval_length, rule_constants, level_rules, rules_to, universe}
use Rattle.asp_defs.specs.Bases.{product, last_level}
use Rattle.asp_defs.specs.Instances.{Schema, term_variables, first_occurrences, term_choices, spread, disjunctive_schema, element_schema, head_schemas, has_bound, instance_count}
use Rattle.asp_defs.specs.Safety.{all_rules}
use Rattle.asp_defs.specs.Limits.{variable_count}
use Rattle.asp_defs.specs.Sizes.{level_instances, instance_total}
use Rattle.asp_defs.proofs.Lists.{append_at, append_left, append_right, map_at}
use Rattle.asp_checked.specs.Condition.{IsCheckable}
use Rattle.asp_walk.proofs.Lists.{flat_at, flat_from}
use Rattle.asp_defs.specs.Checks.{is_checked}
use Rattle.asp_atoms.specs.declared.vocabularies.Vocabulary.{Vocabulary}
use Rattle.asp_atoms.specs.Vocabularies.{const_rank, vocabulary_of}
use Rattle.asp_atoms.specs.Answers.{base_too_large}
use Rattle.asp_atoms.proofs.Orders.{const_lawful}
use Rattle.asp_atoms.proofs.Ascending.{in_with, with_new, with_old, ascends_with, ascends_distinct, in_distinct, distinct_from, distinct_is}
use Rattle.asp_atoms.proofs.Counting.{levels_long}
use Rattle.asp_atoms.proofs.Gathering.{few_constants}
use Rattle.asp_atoms.proofs.Integers.{length_integers}
use Rattle.asp_template.proofs.Parts.{make_rule, with_args, suc_is_not, more_is_not}
use Rattle.asp_template.specs.Variables.{disjunctive_variables, element_variables}
use Rattle.asp_ground.specs.Counts.{with_constant, choice_count, fact_count, head_count, rule_count, level_count, counted_from}
use Rattle.asp_ground.proofs.Gathered.{roomed}
use Rattle.asp_ground.proofs.Members.{few_ascending}
use Rattle.asp_template.proofs.Products.{with_first, tuple_member}
use Rattle.asp_template.proofs.FactInstances.{KnownArgument, KnownConstant, KnownFact, choice_known}
use Rattle.asp_template.proofs.RuleInstances.{KnownRule, disjunctive_found, element_found, body_found, known_fact}
use Rattle.asp_ground.proofs.Levels.{constant_known, rule_known, universe_at, placed}

-- ---- constants from the front

-- one constant more
one_more : (xs : List Const) (c : Const) → with_member const_cmp c (distinct const_cmp xs) ≡ distinct const_cmp (xs ++ c ∷ [])
one_more xs c =
    distinct_is const_lawful (xs ++ c ∷ []) (with_member const_cmp c (distinct const_cmp xs))
    (ascends_with const_lawful c (distinct const_cmp xs) (ascends_distinct const_lawful xs)) (record {
      whole = λ z i. elim (append_at xs (c ∷ []) z i) [
        | inl j ↦ with_old const_lawful c (distinct const_cmp xs) z (distinct_from const_lawful xs z j)
        | inr j ↦ elim j [
          | inl e ↦ subst (λ (w : Const). IsIn w (with_member const_cmp c (distinct const_cmp xs))) (sym e) (with_new const_lawful c (distinct const_cmp xs))
          | inr k ↦ absurd k
        ]
      ];
      within = λ z i. elim (in_with const_lawful c (distinct const_cmp xs) z i) [
        | inl e ↦ append_right xs (c ∷ []) z (inl e)
        | inr j ↦ append_left xs (c ∷ []) z (in_distinct const_lawful xs z j)
      ];
    })

few_front : (xs ys : List Const) → length (distinct const_cmp xs) ≤ length (distinct const_cmp (xs ++ ys))
few_front xs ys =
    few_ascending const_lawful (distinct const_cmp xs) (distinct const_cmp (xs ++ ys))
    (ascends_distinct const_lawful xs) (ascends_distinct const_lawful (xs ++ ys))
    (λ z i. distinct_from const_lawful (xs ++ ys) z (append_left xs ys z (in_distinct const_lawful xs z i)))

pub gathered : (xs ys : List Const) → length (distinct const_cmp (xs ++ ys)) ≤ 4096 → fold with_constant (distinct const_cmp xs) ys ≡ distinct const_cmp (xs ++ ys)
gathered xs [] few = ap (distinct const_cmp) (sym (append-nil xs))
gathered xs (y ∷ ys) few =
    let front = few_front xs (y ∷ ys) in
    let same : (xs ++ y ∷ []) ++ ys ≡ xs ++ y ∷ ys = append_assoc xs (y ∷ []) ys in
    ap (λ cs. fold with_constant cs ys) (ap (λ b. roomed b (distinct const_cmp xs) y) (lt-ltb (length (distinct const_cmp xs)) 4097 (omega (arith, few, front))) ∙ one_more xs y)
    ∙ (gathered (xs ++ y ∷ []) ys (subst (λ (cs : List Const). length (distinct const_cmp cs) ≤ 4096) (sym same) few)
    ∙ ap (distinct const_cmp) same)

-- ---- sums

sum_same : {A : Type 0} (f g : A → ℕ) (xs : List A) → ((x : A) → IsIn x xs → f x ≡ g x) → sum_by f xs ≡ sum_by g xs
sum_same f g [] h = refl
sum_same f g (x ∷ xs) h =
    sum_by-cons f x xs
    ∙ (ap (λ n. n + sum_by f xs) (h x (inl refl))
    ∙ (ap (λ n. g x + n) (sum_same f g xs (λ y i. h y (inr i))) ∙ sym (sum_by-cons g x xs)))

sum_map : {A B : Type 0} (f : B → ℕ) (g : A → B) (xs : List A) → sum_by f (map g xs) ≡ sum_by (λ x. f (g x)) xs
sum_map f g [] = refl
sum_map f g (x ∷ xs) =
    sum_by-cons f (g x) (map g xs) ∙ (ap (λ n. f (g x) + n) (sum_map f g xs) ∙ sym (sum_by-cons (λ y. f (g y)) x xs))

sum_ones : {A : Type 0} (f : A → ℕ) (xs : List A) → ((x : A) → IsIn x xs → f x ≡ 1) → sum_by f xs ≡ length xs
sum_ones f [] h = refl
sum_ones f (x ∷ xs) h =
    let rest = sum_ones f xs (λ y i. h y (inr i)) in
    let first = h x (inl refl) in
    let whole = sum_by-cons f x xs in omega (arith, rest, first, whole)

-- ---- how many tuples there are

length_firsts : {A : Type 0} (tuples : List (List A)) (xs : List A) → length (flat_map (with_first tuples) xs) ≡ length xs * length tuples
length_firsts tuples [] = omega arith
length_firsts tuples (x ∷ xs) =
    let rest = length_firsts tuples xs in
    let here = length-map tuples (λ tuple. x ∷ tuple) in
    let whole = length-append (with_first tuples x) (flat_map (with_first tuples) xs) in
    omega (arith, rest, here, whole)

product_count : {A : Type 0} (n : ℕ) (xss : List (List A)) → fold (λ m xs. m * length xs) n xss ≡ n * length (product xss)
product_count n [] = omega arith
product_count n (xs ∷ xss) =
    let rest = product_count (n * length xs) xss in
    let here = length_firsts (product xss) xs in
    rest ∙ (times n (length xs) (length (product xss)) ∙ ap (λ m. n * m) (sym here))
  where
    times : (a b c : ℕ) → a * b * c ≡ a * (b * c)
    times a b c = omega arith

choices_counted : (t : Term) → length (term_choices t) ≡ choice_count t
choices_counted (Int x) = refl
choices_counted (Sym s) = refl
choices_counted (Var v) = refl
choices_counted (Anon k) = refl
choices_counted (Range low high) = length-map (interval low high) Int ∙ length_integers low (interval_length low high)

fold_choices : (n : ℕ) (args : List Term) → fold (λ m xs. m * length xs) n (map term_choices args) ≡ fold (λ m t. m * choice_count t) n args
fold_choices n [] = refl
fold_choices n (t ∷ args) =
    fold_choices (n * length (term_choices t)) args
    ∙ ap (λ m. fold (λ k u. k * choice_count u) (n * m) args) (choices_counted t)

tuples_counted : (args : List Term) → length (product (map term_choices args)) ≡ fold (λ m t. m * choice_count t) 1 args
tuples_counted args =
    let whole = product_count 1 (map term_choices args) in
    let once : length (product (map term_choices args)) ≡ 1 * length (product (map term_choices args)) = omega arith in
    once ∙ (sym whole ∙ fold_choices 1 args)

-- ---- rules

abbrev size_of : ℕ → Schema → ℕ
size_of size s = size ^ length s.variables

constant_bare : (v : Vocabulary) (t : Term) → KnownConstant v t → term_variables t ≡ []
constant_bare v (Int x) known = refl
constant_bare v (Sym s) known = refl
constant_bare v (Var w) known = absurd known
constant_bare v (Anon k) known = absurd known
constant_bare v (Range low high) known = absurd known

tuple_bare : (v : Vocabulary) (tuple : List Term) → ((u : Term) → IsIn u tuple → KnownConstant v u) → flat_map term_variables tuple ≡ []
tuple_bare v [] known = refl
tuple_bare v (t ∷ tuple) known =
    ap (λ (vs : List Term). vs ++ flat_map term_variables tuple) (constant_bare v t (known t (inl refl)))
    ∙ tuple_bare v tuple (λ u i. known u (inr i))

choice_of : (v : Vocabulary) (args tuple : List Term) → ((t : Term) → IsIn t args → KnownArgument v t) → IsIn tuple (product (map term_choices args)) → (u : Term) → IsIn u tuple → KnownConstant v u
choice_of v args tuple known i u j =
    let from = tuple_member (map term_choices args) tuple u i j in
    let term = map_at term_choices args from.0 from.1 in
    choice_known v term.0 u (known term.0 term.1) (subst (λ (xs : List Term). IsIn u xs) term.2 from.2)

abbrev bare : Atom → Schema
bare b = disjunctive_schema (b ∷ []) []

bare_size : (size : ℕ) (a : Atom) (tuple : List Term) → flat_map term_variables tuple ≡ [] → size_of size (bare (with_args a tuple)) ≡ 1
bare_size size a tuple e =
    ap (λ (vs : List Term). size ^ length (first_occurrences ((vs ++ []) ++ []))) e ∙ pow-zero size

fact_counted : (v : Vocabulary) (size : ℕ) (a : Atom) → KnownFact v a → sum_by (size_of size) (map bare (spread a)) ≡ fact_count a
fact_counted v size a known =
    sum_map (size_of size) bare (spread a)
    ∙ (sum_map (λ b. size_of size (bare b)) (with_args a) (product (map term_choices a.args))
    ∙ (sum_ones (λ tuple. size_of size (bare (with_args a tuple))) (product (map term_choices a.args)) (λ tuple i. bare_size size a tuple (tuple_bare v tuple (choice_of v a.args tuple known.terms i)))
    ∙ tuples_counted a.args))

-- which of the two a disjunction counts
abbrev either_count : ℕ → List Atom → List Literal → Atom → Bool → ℕ
either_count size heads body a is_one = if is_one then fact_count a else size ^ length (disjunctive_variables heads body)

one_counted : (size : ℕ) (heads : List Atom) (body : List Literal) → variable_count (make_rule (Disj heads) body) ≤ 16 → size ^ length (disjunctive_variables heads body) ≡ sum_by (size_of size) (disjunctive_schema heads body ∷ [])
one_counted size heads body few =
    ap (λ (vs : List Term). size ^ length vs) (disjunctive_found heads body few) ∙ sym (zero-add (size_of size (disjunctive_schema heads body)))

disjunction_counted : (v : Vocabulary) (size : ℕ) (heads : List Atom) (body : List Literal) → KnownRule v (Disj heads) body → head_count size (Disj heads) body ≡ sum_by (size_of size) (head_schemas (Disj heads) body)
disjunction_counted v size [] body known = one_counted size [] body known.few
disjunction_counted v size (a ∷ []) [] known = sym (fact_counted v size a (known_fact v a known))
disjunction_counted v size (a ∷ []) (l ∷ body) known =
    ap (either_count size (a ∷ []) (l ∷ body) a) (ne_eqb (suc (length body)) 0 (suc_is_not (length body)))
    ∙ one_counted size (a ∷ []) (l ∷ body) known.few
disjunction_counted v size (a ∷ b ∷ more) body known =
    ap (λ one. either_count size (a ∷ b ∷ more) body a (one && (length body == 0))) (ne_eqb (suc (suc (length more))) 1 (more_is_not (length more)))
    ∙ one_counted size (a ∷ b ∷ more) body known.few

none_more : (n : ℕ) → n ≡ n + 0
none_more n = omega arith

-- how many ground bounds a choice has whose body has these variables
abbrev bounds_by : ℕ → Option ℤ → List Element → Option ℤ → List Term → ℕ
bounds_by size low elements high vs = if has_bound (Choice low elements high) then size ^ length vs else 0

head_counted : (v : Vocabulary) (size : ℕ) (head : Head) (body : List Literal) → KnownRule v head body → head_count size head body ≡ instance_count size (make_rule head body)
head_counted v size (Disj heads) body known =
    disjunction_counted v size heads body known ∙ none_more (sum_by (size_of size) (head_schemas (Disj heads) body))
head_counted v size (Choice low elements high) body known =
    ap (λ n. n + bounds_by size low elements high (disjunctive_variables [] body))
    (sum_same (λ e. size ^ length (element_variables body e)) (λ e. size_of size (element_schema body e)) elements (λ e i. ap (λ (vs : List Term). size ^ length vs) (element_found low elements high body e i known.few))
    ∙ sym (sum_map (size_of size) (element_schema body) elements))
    ∙ ap (λ vs. sum_by (size_of size) (map (element_schema body) elements) + bounds_by size low elements high vs) (body_found low elements high body known.few)

-- ---- levels

abbrev at_level : ℕ → List Rule → ℕ × List Rule
at_level level rules = (level, rules)

abbrev joined : List (List Rule) → List Rule
joined levels = flat_map (λ (rules : List Rule). rules) levels

abbrev constants_in : List (List Rule) → List Const
constants_in levels = flat_map rule_constants (joined levels)

joined_more : (done : List (List Rule)) (rules : List Rule) → constants_in (done ++ rules ∷ []) ≡ constants_in done ++ flat_map rule_constants rules
joined_more done rules =
    ap (flat_map rule_constants) (flat_map-append (λ (rs : List Rule). rs) done (rules ∷ []) ∙ ap (λ (rs : List Rule). joined done ++ rs) (append-nil rules))
    ∙ flat_map-append rule_constants (joined done) rules

few_done : (p : Program) → base_too_large p ≡ None → (done : List (List Rule)) (more : List (List Rule)) → level_rules p ≡ done ++ more → length (distinct const_cmp (constants_in done)) ≤ 4096
few_done p e done more whole =
    let most = few_constants p e in
    let few = few_ascending const_lawful (distinct const_cmp (constants_in done)) (universe p (last_level p))
    (ascends_distinct const_lawful (constants_in done)) (ascends_distinct const_lawful (flat_map rule_constants (rules_to p (last_level p)))) (λ c i. known c (in_distinct const_lawful (constants_in done) c i)) in
    omega (arith, most, few)
  where
    known : (c : Const) → IsIn c (constants_in done) → IsIn c (universe p (last_level p))
    known c i =
        let rule = flat_at rule_constants (joined done) c i in
        let rules = flat_at (λ (rs : List Rule). rs) done rule.0 rule.1 in
        constant_known p rule.0 c (flat_from (λ (rs : List Rule). rs) (level_rules p) rules.0 rule.0 (subst (λ (ls : List (List Rule)). IsIn rules.0 ls) (sym whole) (append_left done more rules.0 rules.1)) rules.2) rule.2

levels_counted : (p : Program) → IsTrue (is_checked p) → IsCheckable p → base_too_large p ≡ None → (done rest : List (List Rule)) → level_rules p ≡ done ++ rest → counted_from (distinct const_cmp (constants_in done)) rest ≡ sum_by (level_instances p) (enumerate_from (length done + 1) rest)
levels_counted p checked checkable e done [] whole = refl
levels_counted p checked checkable e done (rules ∷ more) whole =
    let next : level_rules p ≡ (done ++ rules ∷ []) ++ more = whole ∙ sym (append_assoc done (rules ∷ []) more) in
    let found : fold with_constant (distinct const_cmp (constants_in done)) (flat_map rule_constants rules) ≡ distinct const_cmp (constants_in (done ++ rules ∷ [])) =
    gathered (constants_in done) (flat_map rule_constants rules) (subst (λ (cs : List Const). length (distinct const_cmp cs) ≤ 4096) (joined_more done rules) (few_done p e (done ++ rules ∷ []) more next))
    ∙ ap (distinct const_cmp) (sym (joined_more done rules)) in
    let number : length (done ++ rules ∷ []) ≡ length done + 1 = length-append done (rules ∷ []) in
    let here : take (length done + 1) (level_rules p) ≡ done ++ rules ∷ [] =
    ap (take (length done + 1)) next ∙ take_at (done ++ rules ∷ []) more (length done + 1) number in
    let size : universe p (length done + 1) ≡ distinct const_cmp (constants_in (done ++ rules ∷ [])) =
    ap (λ levels. distinct const_cmp (constants_in levels)) here in
    ap (λ cs. sum_by (rule_count (length cs)) rules + counted_from cs more) found
    ∙ (ap (λ n. n + counted_from (distinct const_cmp (constants_in (done ++ rules ∷ []))) more)
    (sum_same (rule_count (length (distinct const_cmp (constants_in (done ++ rules ∷ []))))) (instance_count (length (distinct const_cmp (constants_in (done ++ rules ∷ []))))) rules
    (λ r i. head_counted (vocabulary_of p) (length (distinct const_cmp (constants_in (done ++ rules ∷ [])))) r.head r.body (rule_known p checked checkable r (within r i)))
    ∙ ap (λ (cs : List Const). sum_by (instance_count (length cs)) rules) (sym size))
    ∙ (ap (λ n. level_instances p (at_level (length done + 1) rules) + n)
    (levels_counted p checked checkable e (done ++ rules ∷ []) more next
    ∙ ap (λ n. sum_by (level_instances p) (enumerate_from (n + 1) more)) number)
    ∙ sym (sum_by-cons (level_instances p) (at_level (length done + 1) rules) (enumerate_from (length done + 1 + 1) more))))
  where
    within : (r : Rule) → IsIn r rules → IsIn r (all_rules p)
    within r i = flat_from (λ (rs : List Rule). rs) (level_rules p) rules r (subst (λ (ls : List (List Rule)). IsIn rules ls) (sym whole) (append_right done (rules ∷ more) rules (inl refl))) i

pub total_counted : (p : Program) → IsTrue (is_checked p) → IsCheckable p → base_too_large p ≡ None → counted_from [] (level_rules p) ≡ instance_total p
total_counted p checked checkable e = levels_counted p checked checkable e [] (level_rules p) refl

-- ---- the same from the universes of the levels

level_counted : (p : Program) → IsTrue (is_checked p) → IsCheckable p → (level : ℕ × List Rule) → IsIn level (enumerate_from 1 (level_rules p)) → level_count (vocabulary_of p).universes level ≡ level_instances p level
level_counted p checked checkable level i =
    let place = placed 1 (level_rules p) level i in
    let count = levels_long p in
    let high = place.high in
    let within : level.0 < last_level p + 1 = omega (arith, count, high) in
    let size : length (get_or (vocabulary_of p).universes level.0 []) ≡ length (universe p level.0) =
    ap (λ (rs : List ℕ). length rs) (universe_at p level.0 within) ∙ length-map (universe p level.0) (const_rank (vocabulary_of p).constants) in
    ap (λ n. sum_by (rule_count n) level.1) size
    ∙ sum_same (rule_count (length (universe p level.0))) (instance_count (length (universe p level.0))) level.1
    (λ r j. head_counted (vocabulary_of p) (length (universe p level.0)) r.head r.body
    (rule_known p checked checkable r (flat_from (λ (rules : List Rule). rules) (level_rules p) level.1 r place.member j)))

pub total_by_universes : (p : Program) → IsTrue (is_checked p) → IsCheckable p → sum_by (level_count (vocabulary_of p).universes) (enumerate_from 1 (level_rules p)) ≡ instance_total p
total_by_universes p checked checkable =
    sum_same (level_count (vocabulary_of p).universes) (level_instances p) (enumerate_from 1 (level_rules p)) (level_counted p checked checkable)
