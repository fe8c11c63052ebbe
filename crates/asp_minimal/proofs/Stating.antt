-- What the clauses that a search is given say of assignments.
use Rattle.std.proofs.Common.{ℕ, zero, suc, ◌+◌, ◌*◌, ◌<◌, ◌≡◌, refl, sym, ◌∙◌, ap, subst, inl, inr, Bool, true, false, not, ◌&&◌, ◌||◌, nat_lt, List, [], ◌∷◌, length, get_or, take, Option, Some, None, Result, Ok, Err, arith}
use Rattle.std.specs.Prelude.{OnOk}
use Rattle.std.specs.List.{Contains, list_any, list_all, flat_map}
use Rattle.std.proofs.lemmas.Bool.{or_cases, lt-ltb, ltb-true, and_from, and_parts}
use Rattle.std.proofs.lemmas.List.Folds.{list_any_at, list_any-append, list_all-append, list_all_more}
use Rattle.asp_defs.specs.declared.ground.GroundRule.{GroundRule}
use Rattle.asp_defs.specs.Lists.{IsIn}
use Rattle.asp_search.specs.Meaning.{truth, Satisfies, SatisfiesAll, SameMeaning}
use Rattle.asp_search.specs.Seen.{AreCodes}
use Rattle.asp_search.specs.Cores.{IsCore}
use Rattle.asp_search.specs.Found.{assignment_of}
use Rattle.asp_search.specs.State.{SearchState, Adds, IsFound, stage_after_add}
use Rattle.asp_search.proofs.Truth.{truth-even, truth-odd, Contains-tail}
use Rattle.asp_minimal.specs.Numbers.{number_at, AreNumbers, leaves, remains}
use Rattle.asp_minimal.specs.Demands.{literals_of, literals_at, clause_of, binds, allows, HasBegun, Demands}

-- ---- one clause

-- a clause is satisfied exactly where one of its literals is true
pub satisfied_at : (v : ℕ → Bool) (clause : List ℕ) → Satisfies v clause → list_any (truth v) clause ≡ true
satisfied_at v clause s = list_any_at (truth v) clause s.has.0 s.literal s.has.1 (ap (truth v) s.has.2 ∙ s.holds)

pub satisfied_from : (v : ℕ → Bool) (clause : List ℕ) → list_any (truth v) clause ≡ true → Satisfies v clause
satisfied_from v [] h = absurd (cc)
satisfied_from v (x ∷ xs) h = elim (or_cases (truth v x) (list_any (truth v) xs) h) [
  | inl e ↦ record { literal = x; has = (0, omega arith, refl); holds = e }
  | inr e ↦
      let s = satisfied_from v xs e
      in record { literal = s.literal; has = Contains-tail x xs s.literal s.has; holds = s.holds }
]

pub truth-denied : (v : ℕ → Bool) (n : ℕ) → truth v (2 * n) ≡ not (v n)
truth-denied v n = truth-even v (2 * n) (omega arith) ∙ ap (λ k. not (v k)) (omega arith)

pub truth-stated : (v : ℕ → Bool) (n : ℕ) → truth v (2 * n + 1) ≡ v n
truth-stated v n = truth-odd v (2 * n + 1) (omega arith) ∙ ap v (omega arith)

alone : (b : Bool) → b || false ≡ b
alone true = refl
alone false = refl

pub any-leaves : (v : ℕ → Bool) (o : Option ℕ) → list_any (truth v) (literals_of false o) ≡ leaves v o
any-leaves v None = refl
any-leaves v (Some n) = alone (truth v (2 * n)) ∙ truth-denied v n

pub any-remains : (v : ℕ → Bool) (o : Option ℕ) → list_any (truth v) (literals_of true o) ≡ remains v o
any-remains v None = refl
any-remains v (Some n) = alone (truth v (2 * n + 1)) ∙ truth-stated v n

-- a clause in pieces, each of which says what a test says
any-pieces : {A : Type 0} (v : ℕ → Bool) (f : A → List ℕ) (test : A → Bool) → ((x : A) → list_any (truth v) (f x) ≡ test x)
    → (xs : List A) → list_any (truth v) (flat_map f xs) ≡ list_any test xs
any-pieces v f test says [] = refl
any-pieces v f test says (x ∷ xs) =
    list_any-append (truth v) (f x) (flat_map f xs)
    ∙ ap (λ b. b || list_any (truth v) (flat_map f xs)) (says x)
    ∙ ap (λ b. test x || b) (any-pieces v f test says xs)

-- the clause of a rule, and the one that some atom leaves
pub any-clause_of : (v : ℕ → Bool) (numbers : List (Option ℕ)) (r : GroundRule)
    → list_any (truth v) (clause_of numbers r)
    ≡ list_any (λ a. leaves v (number_at numbers a)) r.pos || list_any (λ a. remains v (number_at numbers a)) r.head
any-clause_of v numbers r =
    list_any-append (truth v) (literals_at false numbers r.pos) (literals_at true numbers r.head)
    ∙ ap (λ b. b || list_any (truth v) (literals_at true numbers r.head))
    (any-pieces v (λ a. literals_of false (number_at numbers a)) (λ a. leaves v (number_at numbers a)) (λ a. any-leaves v (number_at numbers a)) r.pos)
    ∙ ap (λ b. list_any (λ a. leaves v (number_at numbers a)) r.pos || b)
    (any-pieces v (λ a. literals_of true (number_at numbers a)) (λ a. remains v (number_at numbers a)) (λ a. any-remains v (number_at numbers a)) r.head)

pub any-leaving : (v : ℕ → Bool) (numbers : List (Option ℕ)) → list_any (truth v) (flat_map (literals_of false) numbers) ≡ list_any (leaves v) numbers
any-leaving v numbers = any-pieces v (literals_of false) (leaves v) (any-leaves v) numbers

-- ---- codes in range

abbrev pub codes_below : ℕ → List ℕ → Bool
codes_below limit codes = list_all (λ c. nat_lt c limit) codes

codes_cons : (limit c : ℕ) (codes : List ℕ) → c < limit → AreCodes limit codes → AreCodes limit (c ∷ codes)
codes_cons limit c codes first more zero below = first
codes_cons limit c codes first more (suc i) below = more i (omega arith)

pub codes_at : (limit : ℕ) (codes : List ℕ) → codes_below limit codes ≡ true → AreCodes limit codes
codes_at limit [] h = λ i below. absurd (omega arith)
codes_at limit (c ∷ codes) h =
    let parts = and_parts (nat_lt c limit) (codes_below limit codes) h
    in codes_cons limit c codes (ltb-true c limit parts.0) (codes_at limit codes parts.1)

all-pieces : {A : Type 0} (p : ℕ → Bool) (f : A → List ℕ) (xs : List A) → ((x : A) → IsIn x xs → list_all p (f x) ≡ true) → list_all p (flat_map f xs) ≡ true
all-pieces p f [] h = refl
all-pieces p f (x ∷ xs) h =
    list_all-append p (f x) (flat_map f xs)
    ∙ and_from (list_all p (f x)) (list_all p (flat_map f xs)) (h x (inl refl)) (all-pieces p f xs (λ y i. h y (inr i)))

literals_below : (count : ℕ) (positive : Bool) (o : Option ℕ) → ((n : ℕ) → o ≡ Some n → n < count) → codes_below (2 * count) (literals_of positive o) ≡ true
literals_below count positive None h = refl
literals_below count true (Some n) h =
    let below = h n refl in and_from (nat_lt (2 * n + 1) (2 * count)) true (lt-ltb (2 * n + 1) (2 * count) (omega arith)) refl
literals_below count false (Some n) h =
    let below = h n refl in and_from (nat_lt (2 * n) (2 * count)) true (lt-ltb (2 * n) (2 * count) (omega arith)) refl

pub clause_of-codes : (count : ℕ) (numbers : List (Option ℕ)) (r : GroundRule) → AreNumbers count numbers → AreCodes (2 * count) (clause_of numbers r)
clause_of-codes count numbers r small =
    codes_at (2 * count) (clause_of numbers r)
    (list_all-append (λ c. nat_lt c (2 * count)) (literals_at false numbers r.pos) (literals_at true numbers r.head)
    ∙ and_from _ _ (part false r.pos) (part true r.head))
  where
    part : (positive : Bool) (atoms : List ℕ) → codes_below (2 * count) (literals_at positive numbers atoms) ≡ true
    part positive atoms = all-pieces (λ c. nat_lt c (2 * count)) (λ a. literals_of positive (number_at numbers a)) atoms (λ a i.
        literals_below count positive (number_at numbers a) (small a))

number_of_member : (numbers : List (Option ℕ)) (o : Option ℕ) → IsIn o numbers → (a : ℕ) × (number_at numbers a ≡ o)
number_of_member [] o i = absurd i
number_of_member (x ∷ numbers) o (inl e) = (0, sym e)
number_of_member (x ∷ numbers) o (inr i) = let more = number_of_member numbers o i in (suc more.0, more.1)

pub leaving-codes : (count : ℕ) (numbers : List (Option ℕ)) → AreNumbers count numbers → AreCodes (2 * count) (flat_map (literals_of false) numbers)
leaving-codes count numbers small =
    codes_at (2 * count) (flat_map (literals_of false) numbers)
    (all-pieces (λ c. nat_lt c (2 * count)) (literals_of false) numbers (λ o i.
    let at = number_of_member numbers o i in literals_below count false o (λ n e. small at.0 n (at.1 ∙ e))))

-- ---- demands on a search

-- what a clause says is demanded once it is added
pub demands_from_adds : (old new : SearchState) (clause : List ℕ) (test : (ℕ → Bool) → Bool) → ((v : ℕ → Bool) → list_any (truth v) clause ≡ test v) → Adds old new clause → Demands old new test
demands_from_adds old new clause test says adds = record {
  forth = λ v s t. adds.clauses.forth v s (satisfied_from v clause (says v ∙ t));
  back = λ v s. adds.clauses.back v s;
  met = λ v s. sym (says v) ∙ satisfied_at v clause (adds.clauses.satisfied v s);
  atoms = ap (λ (s : SearchState). s.atoms) adds.rest;
  budget = ap (λ (s : SearchState). s.budget) adds.rest;
  begun = λ h. record {
    stage = ap (λ (s : SearchState). s.stage) adds.rest ∙ ap stage_after_add h.stage;
    assumed = ap (λ (s : SearchState). s.assumed) adds.rest ∙ h.assumed;
    ordered = ap (λ (s : SearchState). s.ordered) adds.rest ∙ h.ordered;
  };
}

-- one demand after the other
pub demands_both : (old middle new : SearchState) (one two both : (ℕ → Bool) → Bool) → ((v : ℕ → Bool) → both v ≡ one v && two v)
    → Demands old middle one → Demands middle new two → Demands old new both
demands_both old middle new one two both is first second = record {
  forth = λ v s t.
      let parts = and_parts (one v) (two v) (sym (is v) ∙ t)
      in second.forth v (first.forth v s parts.0) parts.1;
  back = λ v s. first.back v (second.back v s);
  met = λ v s. is v ∙ and_from (one v) (two v) (first.met v (second.back v s)) (second.met v s);
  atoms = second.atoms ∙ first.atoms;
  budget = second.budget ∙ first.budget;
  begun = λ h. second.begun (first.begun h);
}

-- the demands of one more member of a list
pub demands_more : (old middle new : SearchState) (rules : List GroundRule) (test : (ℕ → Bool) → GroundRule → Bool) (i : ℕ) (r : GroundRule) → i < length rules
    → Demands old middle (λ v. list_all (test v) (take i rules)) → Demands middle new (λ v. test v (get_or rules i r))
    → Demands old new (λ v. list_all (test v) (take (i + 1) rules))
demands_more old middle new rules test i r within first second =
    demands_both old middle new (λ v. list_all (test v) (take i rules)) (λ v. test v (get_or rules i r)) (λ v. list_all (test v) (take (i + 1) rules))
    (λ v. list_all_more (test v) rules i r within) first second

pub demands_next : (old middle new : SearchState) (rules : List GroundRule) (test : (ℕ → Bool) → GroundRule → Bool) (i : ℕ) (r : GroundRule) → i < length rules
    → r ≡ get_or rules i r
    → Demands old middle (λ v. list_all (test v) (take i rules)) → Demands middle new (λ v. test v r)
    → Demands old new (λ v. list_all (test v) (take (i + 1) rules))
demands_next old middle new rules test i r within is first second =
    demands_more old middle new rules test i r within first (subst (λ (q : GroundRule). Demands middle new (λ v. test v q)) is second)

-- what is demanded of a search that has begun with these clauses is demanded of the one before
pub demands_since : (old begun new : SearchState) (test : (ℕ → Bool) → Bool) → begun.clauses ≡ old.clauses → begun.atoms ≡ old.atoms → begun.budget ≡ old.budget → HasBegun begun
    → Demands begun new test → Demands old new test
demands_since old begun new test clauses atoms budget has_begun demands = record {
  forth = λ v s t. demands.forth v (subst (λ (cs : List (List ℕ)). SatisfiesAll v cs) (sym clauses) s) t;
  back = λ v s. subst (λ (cs : List (List ℕ)). SatisfiesAll v cs) clauses (demands.back v s);
  met = demands.met;
  atoms = demands.atoms ∙ atoms;
  budget = demands.budget ∙ budget;
  begun = λ h. demands.begun has_begun;
}

-- a rule that could support what leaves is allowed where its clause is satisfied
pub any-bound : (I K : List ℕ) (numbers : List (Option ℕ)) (r : GroundRule) (clause : List ℕ) → clause ≡ clause_of numbers r → binds I K r ≡ true
    → (v : ℕ → Bool) → list_any (truth v) clause ≡ allows I K numbers v r
any-bound I K numbers r clause is binding v =
    ap (list_any (truth v)) is ∙ any-clause_of v numbers r
    ∙ sym (ap (λ b. not b || (list_any (λ a. leaves v (number_at numbers a)) r.pos || list_any (λ a. remains v (number_at numbers a)) r.head)) binding)

-- what follows from an Ok's clause
pub on_ok : {A E P Q : Type 0} (result : Result A E) → (P → Q) → OnOk result P → OnOk result Q
on_ok (Ok x) f h = f h
on_ok (Err e) f h = tt

-- what is found meets the demands on a search that began without clauses
pub found_meets : (start begun found : SearchState) (test : (ℕ → Bool) → Bool) → Demands start begun test → SameMeaning begun.clauses found.clauses → IsFound found → test (assignment_of found.trail) ≡ true
found_meets start begun found test demands same is =
    demands.met (assignment_of found.trail) (same.back (assignment_of found.trail) is.clauses)

-- and where there is a core without assumptions, nothing meets them
pub core_refutes : (start begun : SearchState) (core : List ℕ) (test : (ℕ → Bool) → Bool) → start.clauses ≡ [] → begun.assumed ≡ [] → Demands start begun test → IsCore begun.clauses begun.assumed core → (v : ℕ → Bool) → test v ≡ true → ⊥
core_refutes start begun core test empty free demands is v t =
    is.refuted v
    (demands.forth v (subst (λ (clauses : List (List ℕ)). SatisfiesAll v clauses) (sym empty) (λ number within. absurd (omega arith))) t)
    (λ literal has.
    let none = subst (λ (assumed : List ℕ). Contains assumed literal) free (is.part literal has) in
    absurd (omega (arith, none.1)))
