-- The safe variables of a body are the least closed ones. Each round of equations that brings a new variable settles one
-- more equation of the body, so after as many rounds as the body has literals no round brings one.
use Rattle.std.proofs.Common.{ℕ, zero, suc, ◌≤◌, ◌<◌, ◌+◌, ◌≡◌, ◌⊎◌, refl, sym, ◌∙◌, ap, subst, inl, inr, Bool, true, false, ◌&&◌, cond, List, [], ◌∷◌, length, arith}
use Rattle.std.specs.Prelude.{if◌then◌else◌}
use Rattle.std.specs.List.{flat_map}
use Rattle.std.specs.Cmp.Lexicographic.{bytes_decides}
use Rattle.std.proofs.lemmas.Bool.{eqb-true, eq-eqb}
use Rattle.asp_defs.specs.declared.syntax.Op.TheVariants.{Eq, Ne, Lt, Le, Gt, Ge}
use Rattle.asp_defs.specs.declared.syntax.Term.{Term}
use Rattle.asp_defs.specs.declared.syntax.Term.TheVariants.{Int, Sym, Var, Anon, Range}
use Rattle.asp_defs.specs.declared.syntax.Literal.{Literal}
use Rattle.asp_defs.specs.declared.syntax.Literal.TheVariants.{Pos, Neg, Cmp}
use Rattle.asp_defs.specs.Lists.{IsIn}
use Rattle.asp_defs.specs.Instances.{same_variable, term_variables}
use Rattle.asp_defs.specs.Safety.{is_variable_of, bound_by_atom, bound_by_equation, is_settled, settled_by, safe_by}
use Rattle.asp_defs.specs.TextLaws.{IsClosed, SafeVariablesAreLeast}
use Rattle.asp_defs.proofs.Lists.{both, and_true, true_or_false, all_at, all_from, any_at, any_from, append_at, append_left, append_right}
use Rattle.asp_defs.proofs.TextRefutations.{clash}

-- each variable of a list is one of another
abbrev Within : List Term → List Term → Type 0
Within vs ws = (v : Term) → IsIn v vs → IsIn v ws

-- a variable of a term is the same as itself, and variables that are the same are equal
pub itself : (t v : Term) → IsIn v (term_variables t) → same_variable v v ≡ true
itself (Int x) v i = absurd i
itself (Sym s) v i = absurd i
itself (Var n) v (inl e) = subst (λ w. same_variable w w ≡ true) (sym e) ((bytes_decides n n).1 refl)
itself (Var n) v (inr i) = absurd i
itself (Anon k) v (inl e) = subst (λ w. same_variable w w ≡ true) (sym e) (eq-eqb k k refl)
itself (Anon k) v (inr i) = absurd i
itself (Range low high) v i = absurd i

pub equal : (v w : Term) → same_variable v w ≡ true → v ≡ w
equal (Var n) (Var m) h = ap Var ((bytes_decides n m).0 h)
equal (Anon j) (Anon k) h = ap Anon (eqb-true j k h)
equal v w h = clash h

-- members of joined lists
flat_at : {A : Type 0} (f : A → List Term) (xs : List A) (v : Term) → IsIn v (flat_map f xs) → (x : A) × IsIn x xs × IsIn v (f x)
flat_at f [] v i = absurd i
flat_at f (x ∷ xs) v i = elim (append_at (f x) (flat_map f xs) v i) [
  | inl h ↦ (x, inl refl, h)
  | inr h ↦ let found = flat_at f xs v h in (found.0, inr found.1, found.2)
]

flat_from : {A : Type 0} (f : A → List Term) (xs : List A) (x : A) (v : Term) → IsIn x xs → IsIn v (f x) → IsIn v (flat_map f xs)
flat_from f [] x v i h = absurd i
flat_from f (y ∷ ys) x v (inl e) h = append_left (f y) (flat_map f ys) v (subst (λ z. IsIn v (f z)) e h)
flat_from f (y ∷ ys) x v (inr i) h = append_right (f y) (flat_map f ys) v (flat_from f ys x v i h)

-- ---- more safe variables settle more

variable_more : (S T : List Term) → Within S T → (v : Term) → is_variable_of S v ≡ true → is_variable_of T v ≡ true
variable_more S T more v h =
    let found = any_at (same_variable v) S h in any_from (same_variable v) T found.0 (more found.0 found.1) found.2

settled_more : (S T : List Term) → Within S T → (t : Term) → is_settled S t ≡ true → is_settled T t ≡ true
settled_more S T more t h =
    all_from (is_variable_of T) (term_variables t) (λ v i. variable_more S T more v (all_at (is_variable_of S) (term_variables t) v h i))

-- a term whose variables are all safe is settled, and the other way round
settled_from : (S : List Term) (t : Term) → Within (term_variables t) S → is_settled S t ≡ true
settled_from S t within =
    all_from (is_variable_of S) (term_variables t) (λ v i. any_from (same_variable v) S v (within v i) (itself t v i))

settled_at : (S : List Term) (t : Term) → is_settled S t ≡ true → Within (term_variables t) S
settled_at S t h v i =
    let found = any_at (same_variable v) S (all_at (is_variable_of S) (term_variables t) v h i) in
    subst (λ w. IsIn w S) (sym (equal v found.0 found.2)) found.1

-- the variables that a side brings
pub brought : (S : List Term) (x y v : Term) → IsIn v (settled_by S x y) → (is_settled S y ≡ true) × IsIn v (term_variables x)
brought S x y v i = elim (true_or_false (is_settled S y)) [
  | inl h ↦ (h, subst (λ (b : Bool). IsIn v (cond b (term_variables x) [])) h i)
  | inr h ↦ absurd (subst (λ (b : Bool). IsIn v (cond b (term_variables x) [])) h i)
]

pub brings : (S : List Term) (x y v : Term) → is_settled S y ≡ true → IsIn v (term_variables x) → IsIn v (settled_by S x y)
brings S x y v h i = subst (λ (b : Bool). IsIn v (cond b (term_variables x) [])) (sym h) i

side_more : (S T : List Term) → Within S T → (x y : Term) → Within (settled_by S x y) (settled_by T x y)
side_more S T more x y v i = let b = brought S x y v i in brings T x y v (settled_more S T more y b.0) b.1

equation_more : (S T : List Term) → Within S T → (l : Literal) → Within (bound_by_equation S l) (bound_by_equation T l)
equation_more S T more (Pos a) v i = absurd i
equation_more S T more (Neg a) v i = absurd i
equation_more S T more (Cmp x Eq y) v i = elim (append_at (settled_by S x y) (settled_by S y x) v i) [
  | inl h ↦ append_left (settled_by T x y) (settled_by T y x) v (side_more S T more x y v h)
  | inr h ↦ append_right (settled_by T x y) (settled_by T y x) v (side_more S T more y x v h)
]
equation_more S T more (Cmp x Ne y) v i = absurd i
equation_more S T more (Cmp x Lt y) v i = absurd i
equation_more S T more (Cmp x Le y) v i = absurd i
equation_more S T more (Cmp x Gt y) v i = absurd i
equation_more S T more (Cmp x Ge y) v i = absurd i

equations_more : (S T : List Term) → Within S T → (body : List Literal) → Within (flat_map (bound_by_equation S) body) (flat_map (bound_by_equation T) body)
equations_more S T more body v i =
    let found = flat_at (bound_by_equation S) body v i in
    flat_from (bound_by_equation T) body found.0 v found.1 (equation_more S T more found.0 v found.2)

-- ---- the least

least : (body : List Literal) (k : ℕ) (vs : List Term) → IsClosed body vs → Within (safe_by k body) vs
least body zero vs closed v i = closed.atoms v i
least body (suc k) vs closed v i = elim (append_at (flat_map bound_by_atom body) (flat_map (bound_by_equation (safe_by k body)) body) v i) [
  | inl h ↦ closed.atoms v h
  | inr h ↦ closed.equations v (equations_more (safe_by k body) vs (least body k vs closed) body v h)
]

-- ---- rounds

grows : (body : List Literal) (k : ℕ) → Within (safe_by k body) (safe_by (suc k) body)
grows body zero v i = append_left (flat_map bound_by_atom body) (flat_map (bound_by_equation (safe_by zero body)) body) v i
grows body (suc k) v i = elim (append_at (flat_map bound_by_atom body) (flat_map (bound_by_equation (safe_by k body)) body) v i) [
  | inl h ↦ append_left (flat_map bound_by_atom body) (flat_map (bound_by_equation (safe_by (suc k) body)) body) v h
  | inr h ↦ append_right (flat_map bound_by_atom body) (flat_map (bound_by_equation (safe_by (suc k) body)) body) v (equations_more (safe_by k body) (safe_by (suc k) body) (grows body k) body v h)
]

-- a round brings no new variable
abbrev Stable : List Literal → ℕ → Type 0
Stable body k = Within (flat_map (bound_by_equation (safe_by k body)) body) (safe_by k body)

-- a literal is done where it is no equation, or both its sides are settled
abbrev done : List Term → Literal → Bool
done S (Pos a) = true
done S (Neg a) = true
done S (Cmp x Eq y) = is_settled S x && is_settled S y
done S (Cmp x Ne y) = true
done S (Cmp x Lt y) = true
done S (Cmp x Le y) = true
done S (Cmp x Gt y) = true
done S (Cmp x Ge y) = true

-- how many literals are done
abbrev done_count : List Term → List Literal → ℕ
done_count S [] = 0
done_count S (l ∷ ls) = (if done S l then 1 else 0) + done_count S ls

done_more : (S T : List Term) → Within S T → (l : Literal) → done S l ≡ true → done T l ≡ true
done_more S T more (Pos a) h = refl
done_more S T more (Neg a) h = refl
done_more S T more (Cmp x Eq y) h =
    let parts = both (is_settled S x) (is_settled S y) h in
    and_true (is_settled T x) (is_settled T y) (settled_more S T more x parts.0) (settled_more S T more y parts.1)
done_more S T more (Cmp x Ne y) h = refl
done_more S T more (Cmp x Lt y) h = refl
done_more S T more (Cmp x Le y) h = refl
done_more S T more (Cmp x Gt y) h = refl
done_more S T more (Cmp x Ge y) h = refl

abbrev weight : Bool → ℕ
weight b = if b then 1 else 0

weight_more : (b c : Bool) → (b ≡ true → c ≡ true) → weight b ≤ weight c
weight_more true c h = subst (λ d. weight true ≤ weight d) (sym (h refl)) (omega arith)
weight_more false true h = omega arith
weight_more false false h = omega arith

weight_at_most : (b : Bool) → weight b ≤ 1
weight_at_most true = omega arith
weight_at_most false = omega arith

count_more : (S T : List Term) → Within S T → (ls : List Literal) → done_count S ls ≤ done_count T ls
count_more S T more [] = omega arith
count_more S T more (l ∷ ls) =
    let first = weight_more (done S l) (done T l) (done_more S T more l) in
    let rest = count_more S T more ls in omega arith

count_at_most : (S : List Term) (ls : List Literal) → done_count S ls ≤ length ls
count_at_most S [] = omega arith
count_at_most S (l ∷ ls) = let first = weight_at_most (done S l) in let rest = count_at_most S ls in omega arith

-- a settled equation brings nothing new
settled_brings : (S : List Term) (x y : Term) → is_settled S x ≡ true → Within (settled_by S x y) S
settled_brings S x y h v i = settled_at S x h v (brought S x y v i).1

done_brings : (S : List Term) (l : Literal) → done S l ≡ true → Within (bound_by_equation S l) S
done_brings S (Pos a) h v i = absurd i
done_brings S (Neg a) h v i = absurd i
done_brings S (Cmp x Eq y) h v i =
    let parts = both (is_settled S x) (is_settled S y) h in
    elim (append_at (settled_by S x y) (settled_by S y x) v i) [
      | inl j ↦ settled_brings S x y parts.0 v j
      | inr j ↦ settled_brings S y x parts.1 v j
    ]
done_brings S (Cmp x Ne y) h v i = absurd i
done_brings S (Cmp x Lt y) h v i = absurd i
done_brings S (Cmp x Le y) h v i = absurd i
done_brings S (Cmp x Gt y) h v i = absurd i
done_brings S (Cmp x Ge y) h v i = absurd i

-- an equation that isn't settled brings nothing, or is settled with what it brings
open_step : (S T : List Term) → Within S T → (x y : Term) → Within (bound_by_equation S (Cmp x Eq y)) T → (done S (Cmp x Eq y) ≡ false) → Within (bound_by_equation S (Cmp x Eq y)) S ⊎ (done T (Cmp x Eq y) ≡ true)
open_step S T more x y within wrong = by_sides (true_or_false (is_settled S x)) (true_or_false (is_settled S y))
  where
    neither : (is_settled S x ≡ false) → (is_settled S y ≡ false) → Within (bound_by_equation S (Cmp x Eq y)) S
    neither p q v i = elim (append_at (settled_by S x y) (settled_by S y x) v i) [
      | inl j ↦ clash (sym q ∙ (brought S x y v j).0)
      | inr j ↦ clash (sym p ∙ (brought S y x v j).0)
    ]

    by_left : (is_settled S x ≡ true) → done T (Cmp x Eq y) ≡ true
    by_left p = and_true (is_settled T x) (is_settled T y) (settled_more S T more x p)
        (settled_from T y (λ v i. within v (append_right (settled_by S x y) (settled_by S y x) v (brings S y x v p i))))

    by_right : (is_settled S y ≡ true) → done T (Cmp x Eq y) ≡ true
    by_right q = and_true (is_settled T x) (is_settled T y)
        (settled_from T x (λ v i. within v (append_left (settled_by S x y) (settled_by S y x) v (brings S x y v q i)))) (settled_more S T more y q)

    by_sides : (is_settled S x ≡ true) ⊎ (is_settled S x ≡ false) → (is_settled S y ≡ true) ⊎ (is_settled S y ≡ false) → Within (bound_by_equation S (Cmp x Eq y)) S ⊎ (done T (Cmp x Eq y) ≡ true)
    by_sides (inl p) q = inr (by_left p)
    by_sides (inr p) (inl q) = inr (by_right q)
    by_sides (inr p) (inr q) = inl (neither p q)

literal_open : (S T : List Term) → Within S T → (l : Literal) → Within (bound_by_equation S l) T → (done S l ≡ false) → Within (bound_by_equation S l) S ⊎ (done T l ≡ true)
literal_open S T more (Pos a) within wrong = clash (sym wrong)
literal_open S T more (Neg a) within wrong = clash (sym wrong)
literal_open S T more (Cmp x Eq y) within wrong = open_step S T more x y within wrong
literal_open S T more (Cmp x Ne y) within wrong = clash (sym wrong)
literal_open S T more (Cmp x Lt y) within wrong = clash (sym wrong)
literal_open S T more (Cmp x Le y) within wrong = clash (sym wrong)
literal_open S T more (Cmp x Gt y) within wrong = clash (sym wrong)
literal_open S T more (Cmp x Ge y) within wrong = clash (sym wrong)

literal_step : (S T : List Term) → Within S T → (l : Literal) → Within (bound_by_equation S l) T → Within (bound_by_equation S l) S ⊎ ((done S l ≡ false) × (done T l ≡ true))
literal_step S T more l within = elim (true_or_false (done S l)) [
  | inl h ↦ inl (done_brings S l h)
  | inr h ↦ elim (literal_open S T more l within h) [ inl w ↦ inl w | inr t ↦ inr (h, t) ]
]

-- a round brings nothing, or settles one more literal
step : (S T : List Term) → Within S T → (ls : List Literal) → ((l : Literal) → IsIn l ls → Within (bound_by_equation S l) T) → Within (flat_map (bound_by_equation S) ls) S ⊎ (done_count S ls < done_count T ls)
step S T more [] within = inl (λ v i. absurd i)
step S T more (l ∷ ls) within =
    join (literal_step S T more l (within l (inl refl))) (step S T more ls (λ m i. within m (inr i)))
  where
    join : Within (bound_by_equation S l) S ⊎ ((done S l ≡ false) × (done T l ≡ true)) → Within (flat_map (bound_by_equation S) ls) S ⊎ (done_count S ls < done_count T ls) → Within (flat_map (bound_by_equation S) (l ∷ ls)) S ⊎ (done_count S (l ∷ ls) < done_count T (l ∷ ls))
    join (inr (p, q)) rest =
        let low : weight (done S l) ≡ 0 = ap weight p in
        let high : weight (done T l) ≡ 1 = ap weight q in
        let tail = count_more S T more ls in inr (omega arith)
    join (inl w) (inr h) = let first = weight_more (done S l) (done T l) (done_more S T more l) in inr (omega arith)
    join (inl w) (inl ws) = inl (λ v i. elim (append_at (bound_by_equation S l) (flat_map (bound_by_equation S) ls) v i) [ inl j ↦ w v j | inr j ↦ ws v j ])

atoms_within : (body : List Literal) (k : ℕ) → Within (flat_map bound_by_atom body) (safe_by k body)
atoms_within body zero v i = i
atoms_within body (suc k) v i = append_left (flat_map bound_by_atom body) (flat_map (bound_by_equation (safe_by k body)) body) v i

stable_next : (body : List Literal) (k : ℕ) → Stable body k → Stable body (suc k)
stable_next body k stable v i =
    let back : Within (safe_by (suc k) body) (safe_by k body) = λ w j. elim (append_at (flat_map bound_by_atom body) (flat_map (bound_by_equation (safe_by k body)) body) w j) [ inl h ↦ atoms_within body k w h | inr h ↦ stable w h ] in
    grows body k v (stable v (equations_more (safe_by (suc k) body) (safe_by k body) back body v i))

rounds : (body : List Literal) (k : ℕ) → Stable body k ⊎ (k ≤ done_count (safe_by k body) body)
rounds body zero = inr (omega arith)
rounds body (suc k) = go (rounds body k)
  where
    next : (l : Literal) → IsIn l body → Within (bound_by_equation (safe_by k body) l) (safe_by (suc k) body)
    next l i v h = append_right (flat_map bound_by_atom body) (flat_map (bound_by_equation (safe_by k body)) body) v (flat_from (bound_by_equation (safe_by k body)) body l v i h)

    turn : (k ≤ done_count (safe_by k body) body) → Stable body k ⊎ (done_count (safe_by k body) body < done_count (safe_by (suc k) body) body) → Stable body (suc k) ⊎ (suc k ≤ done_count (safe_by (suc k) body) body)
    turn low (inl stable) = inl (stable_next body k stable)
    turn low (inr more) = inr (omega arith)

    go : Stable body k ⊎ (k ≤ done_count (safe_by k body) body) → Stable body (suc k) ⊎ (suc k ≤ done_count (safe_by (suc k) body) body)
    go (inl stable) = inl (stable_next body k stable)
    go (inr low) = turn low (step (safe_by k body) (safe_by (suc k) body) (grows body k) body next)

-- where all literals are done, no equation brings anything
first_done : (S : List Term) (l : Literal) (ls : List Literal) → length (l ∷ ls) ≤ done_count S (l ∷ ls) → done S l ≡ true
first_done S l ls h = go (true_or_false (done S l))
  where
    go : (done S l ≡ true) ⊎ (done S l ≡ false) → done S l ≡ true
    go (inl d) = d
    go (inr d) =
        let low : weight (done S l) ≡ 0 = ap weight d in
        let most = count_at_most S ls in absurd (omega arith)

others_done : (S : List Term) (l : Literal) (ls : List Literal) → length (l ∷ ls) ≤ done_count S (l ∷ ls) → length ls ≤ done_count S ls
others_done S l ls h = let first = weight_at_most (done S l) in omega arith

all_done : (S : List Term) (ls : List Literal) → length ls ≤ done_count S ls → Within (flat_map (bound_by_equation S) ls) S
all_done S [] h v i = absurd i
all_done S (l ∷ ls) h v i = elim (append_at (bound_by_equation S l) (flat_map (bound_by_equation S) ls) v i) [
  | inl j ↦ done_brings S l (first_done S l ls h) v j
  | inr j ↦ all_done S ls (others_done S l ls h) v j
]

stable_at_last : (body : List Literal) → Stable body (length body)
stable_at_last body = elim (rounds body (length body)) [
  | inl stable ↦ stable
  | inr h ↦ all_done (safe_by (length body) body) body h
]

pub safe_variables_are_least : SafeVariablesAreLeast
safe_variables_are_least body =
    (record { atoms = atoms_within body (length body); equations = stable_at_last body }, least body (length body))
