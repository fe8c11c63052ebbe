-- The least variables by what literals bind alone and by their links are the safe ones.
use Rattle.std.proofs.Common.{◌≡◌, ◌⊎◌, refl, sym, ◌∙◌, ap, subst, inl, inr, Bool, true, cond, List, [], ◌∷◌, ◌++◌, map}
use Rattle.std.specs.List.{flat_map, filter}
use Rattle.std.proofs.lemmas.List.Concat.{flat_map-append}
use Rattle.asp_defs.specs.declared.syntax.Op.TheVariants.{Eq, Ne, Lt, Le, Gt, Ge}
use Rattle.asp_defs.specs.declared.syntax.Term.{Term}
use Rattle.asp_defs.specs.declared.syntax.Term.TheVariants.{Int, Sym, Var, Anon, Range}
use Rattle.asp_defs.specs.declared.syntax.Literal.{Literal}
use Rattle.asp_defs.specs.declared.syntax.Literal.TheVariants.{Pos, Neg, Cmp}
use Rattle.asp_defs.specs.Lists.{IsIn}
use Rattle.asp_defs.specs.Instances.{same_variable, term_variables, literal_variables}
use Rattle.asp_defs.specs.Safety.{is_variable_of, bound_by_atom, bound_by_equation, is_settled, settled_by, safe_variables}
use Rattle.asp_defs.specs.TextLaws.{IsClosed}
use Rattle.asp_defs.proofs.Lists.{both, and_true, append_at, append_left, append_right, map_at, map_from}
use Rattle.asp_defs.proofs.SafetyLaws.{itself as same_self, brought, brings, safe_variables_are_least}
use Rattle.asp_defs.proofs.TextRefutations.{clash}
use Rattle.asp_safety.specs.declared.variable.Variable.{Variable}
use Rattle.asp_safety.specs.Variables.{term_of, terms_of}
use Rattle.asp_safety.specs.Bindings.{bound_alone, pairs, literal_links}
use Rattle.asp_safety.specs.Closure.{Within, IsSpread, IsLeast}
use Rattle.asp_safety.specs.Representatives.{IsSymmetric}
use Rattle.asp_safety.specs.Safe.{Agree}
use Rattle.asp_safety.proofs.Members.{itself, member_at, member_from, same_test}
use Rattle.asp_walk.proofs.Lists.{flat_at, flat_from}

-- a settled term has no variable, or one that is safe
settled_cases : (S : List Term) (t : Term) → is_settled S t ≡ true → (is_settled [] t ≡ true) ⊎ ((w : Term) × IsIn w (term_variables t) × IsIn w S)
settled_cases S (Int x) h = inl refl
settled_cases S (Sym s) h = inl refl
settled_cases S (Var n) h = inr (Var n, inl refl, member_at S (Var n) (both (is_variable_of S (Var n)) true h).0)
settled_cases S (Anon k) h = inr (Anon k, inl refl, member_at S (Anon k) (both (is_variable_of S (Anon k)) true h).0)
settled_cases S (Range low high) h = inl refl

-- a term with a variable that is safe is settled
settled_from : (S : List Term) (t w : Term) → IsIn w (term_variables t) → IsIn w S → is_settled S t ≡ true
settled_from S (Int x) w i j = absurd i
settled_from S (Sym s) w i j = absurd i
settled_from S (Var n) w (inl e) j = and_true (is_variable_of S (Var n)) true (member_from S (Var n) (same_self (Var n) (Var n) (inl refl)) (subst (λ u. IsIn u S) e j)) refl
settled_from S (Var n) w (inr i) j = absurd i
settled_from S (Anon k) w (inl e) j = and_true (is_variable_of S (Anon k)) true (member_from S (Anon k) (same_self (Anon k) (Anon k) (inl refl)) (subst (λ u. IsIn u S) e j)) refl
settled_from S (Anon k) w (inr i) j = absurd i
settled_from S (Range low high) w i j = absurd i

-- what is settled by nothing is settled
settled_always : (S : List Term) (t : Term) → is_settled [] t ≡ true → is_settled S t ≡ true
settled_always S (Int x) h = refl
settled_always S (Sym s) h = refl
settled_always S (Var n) h = clash h
settled_always S (Anon k) h = clash h
settled_always S (Range low high) h = refl

-- the pairs of two lists
pairs_at : (us vs : List Term) (u v : Term) → IsIn (u, v) (pairs us vs) → IsIn u us × IsIn v vs
pairs_at [] vs u v i = absurd i
pairs_at (x ∷ us) vs u v i = elim (append_at (map (λ w. (x, w)) vs) (pairs us vs) (u, v) i) [
  | inl h ↦
      let found = map_at (λ w. (x, w)) vs (u, v) h in
      (inl (ap (λ (p : Term × Term). p.0) found.2), subst (λ w. IsIn w vs) (sym (ap (λ (p : Term × Term). p.1) found.2)) found.1)
  | inr h ↦ let rest = pairs_at us vs u v h in (inr rest.0, rest.1)
]

pairs_from : (us vs : List Term) (u v : Term) → IsIn u us → IsIn v vs → IsIn (u, v) (pairs us vs)
pairs_from [] vs u v i j = absurd i
pairs_from (x ∷ us) vs u v (inl e) j =
    append_left (map (λ w. (x, w)) vs) (pairs us vs) (u, v)
    (subst (λ w. IsIn {A = Term × Term} (w, v) (map (λ z. (x, z)) vs)) (sym e) (map_from (λ w. (x, w)) vs v j))
pairs_from (x ∷ us) vs u v (inr i) j = append_right (map (λ w. (x, w)) vs) (pairs us vs) (u, v) (pairs_from us vs u v i j)

-- ---- one literal

-- a side that is settled brings its variables, by itself or by a link
side_spread : (S : List Term) (x y v : Term) → IsIn v (settled_by S x y) → IsIn v (settled_by [] x y) ⊎ ((u : Term) × IsIn u S × IsIn (u, v) (pairs (term_variables y) (term_variables x)))
side_spread S x y v i =
    let b = brought S x y v i in
    elim (settled_cases S y b.0) [
      | inl h ↦ inl (brings [] x y v h b.1)
      | inr h ↦ inr (h.0, h.2, pairs_from (term_variables y) (term_variables x) h.0 v h.1 b.1)
    ]

literal_spread : (S : List Term) (l : Literal) (v : Term) → IsIn v (bound_by_equation S l) → IsIn v (bound_alone l) ⊎ ((u : Term) × IsIn u S × IsIn (u, v) (literal_links l))
literal_spread S (Pos a) v i = absurd i
literal_spread S (Neg a) v i = absurd i
literal_spread S (Cmp x Eq y) v i = elim (append_at (settled_by S x y) (settled_by S y x) v i) [
  | inl h ↦ elim (side_spread S x y v h) [
    | inl k ↦ inl (append_left (settled_by [] x y) (settled_by [] y x) v k)
    | inr k ↦ inr (k.0, k.1, append_right (pairs (term_variables x) (term_variables y)) (pairs (term_variables y) (term_variables x)) (k.0, v) k.2)
  ]
  | inr h ↦ elim (side_spread S y x v h) [
    | inl k ↦ inl (append_right (settled_by [] x y) (settled_by [] y x) v k)
    | inr k ↦ inr (k.0, k.1, append_left (pairs (term_variables x) (term_variables y)) (pairs (term_variables y) (term_variables x)) (k.0, v) k.2)
  ]
]
literal_spread S (Cmp x Ne y) v i = absurd i
literal_spread S (Cmp x Lt y) v i = absurd i
literal_spread S (Cmp x Le y) v i = absurd i
literal_spread S (Cmp x Gt y) v i = absurd i
literal_spread S (Cmp x Ge y) v i = absurd i

side_alone : (S : List Term) (x y : Term) → Within (settled_by [] x y) (settled_by S x y)
side_alone S x y v i = let b = brought [] x y v i in brings S x y v (settled_always S y b.0) b.1

literal_alone : (S : List Term) (l : Literal) → Within (bound_by_equation [] l) (bound_by_equation S l)
literal_alone S (Pos a) v i = absurd i
literal_alone S (Neg a) v i = absurd i
literal_alone S (Cmp x Eq y) v i = elim (append_at (settled_by [] x y) (settled_by [] y x) v i) [
  | inl h ↦ append_left (settled_by S x y) (settled_by S y x) v (side_alone S x y v h)
  | inr h ↦ append_right (settled_by S x y) (settled_by S y x) v (side_alone S y x v h)
]
literal_alone S (Cmp x Ne y) v i = absurd i
literal_alone S (Cmp x Lt y) v i = absurd i
literal_alone S (Cmp x Le y) v i = absurd i
literal_alone S (Cmp x Gt y) v i = absurd i
literal_alone S (Cmp x Ge y) v i = absurd i

literal_goes : (S : List Term) (l : Literal) (u v : Term) → IsIn (u, v) (literal_links l) → IsIn u S → IsIn v (bound_by_equation S l)
literal_goes S (Pos a) u v i j = absurd i
literal_goes S (Neg a) u v i j = absurd i
literal_goes S (Cmp x Eq y) u v i j = elim (append_at (pairs (term_variables x) (term_variables y)) (pairs (term_variables y) (term_variables x)) (u, v) i) [
  | inl h ↦
      let p = pairs_at (term_variables x) (term_variables y) u v h in
      append_right (settled_by S x y) (settled_by S y x) v (brings S y x v (settled_from S x u p.0 j) p.1)
  | inr h ↦
      let p = pairs_at (term_variables y) (term_variables x) u v h in
      append_left (settled_by S x y) (settled_by S y x) v (brings S x y v (settled_from S y u p.0 j) p.1)
]
literal_goes S (Cmp x Ne y) u v i j = absurd i
literal_goes S (Cmp x Lt y) u v i j = absurd i
literal_goes S (Cmp x Le y) u v i j = absurd i
literal_goes S (Cmp x Gt y) u v i j = absurd i
literal_goes S (Cmp x Ge y) u v i j = absurd i

-- ---- a body

pub closed_from : (body : List Literal) (S : List Term) → IsSpread (flat_map bound_alone body) (flat_map literal_links body) S → IsClosed body S
closed_from body S spread = record {
  atoms = λ v i.
      let found = flat_at bound_by_atom body v i in
      spread.has v (flat_from bound_alone body found.0 v found.1 (append_left (bound_by_atom found.0) (bound_by_equation [] found.0) v found.2));
  equations = λ v i.
      let found = flat_at (bound_by_equation S) body v i in
      elim (literal_spread S found.0 v found.2) [
        | inl h ↦ spread.has v (flat_from bound_alone body found.0 v found.1 h)
        | inr h ↦ spread.goes h.0 v (flat_from literal_links body found.0 (h.0, v) found.1 h.2) h.1
      ];
}

pub spread_from : (body : List Literal) (S : List Term) → IsClosed body S → IsSpread (flat_map bound_alone body) (flat_map literal_links body) S
spread_from body S closed = record {
  has = λ v i.
      let found = flat_at bound_alone body v i in
      elim (append_at (bound_by_atom found.0) (bound_by_equation [] found.0) v found.2) [
        | inl h ↦ closed.atoms v (flat_from bound_by_atom body found.0 v found.1 h)
        | inr h ↦ closed.equations v (flat_from (bound_by_equation S) body found.0 v found.1 (literal_alone S found.0 v h))
      ];
  goes = λ u v i j.
      let found = flat_at literal_links body (u, v) i in
      closed.equations v (flat_from (bound_by_equation S) body found.0 v found.1 (literal_goes S found.0 u v found.2 j));
}

pub least_is_safe : (body : List Literal) (S : List Term) → IsLeast (flat_map bound_alone body) (flat_map literal_links body) S → Agree S (safe_variables body)
least_is_safe body S least =
    let law = safe_variables_are_least body in
    same_test S (safe_variables body) (least.least (safe_variables body) (spread_from body (safe_variables body) law.0)) (law.1 S (closed_from body S least.spread))

pub safe_by_body : (bound : List Term) (links : List (Term × Term)) (body : List Literal) → bound ≡ flat_map bound_alone body → links ≡ flat_map literal_links body → (S : List Term) → IsLeast bound links S → Agree S (safe_variables body)
safe_by_body bound links body b l S least =
    least_is_safe body S (subst (λ (vs : List Term). IsLeast vs (flat_map literal_links body) S) b (subst (λ (ls : List (Term × Term)). IsLeast bound ls S) l least))

-- a variable of a list of the checker's is the same as itself
pub variable_self : (vars : List Variable) (v : Term) → IsIn v (terms_of vars) → same_variable v v ≡ true
variable_self vars v i =
    let found = map_at term_of vars v i in subst (λ w. same_variable w w ≡ true) (sym found.2) (itself found.0)

-- ---- two bodies

-- what is closed for two bodies is closed for each, and the other way round
pub closed_left : (body more : List Literal) (S : List Term) → IsClosed (body ++ more) S → IsClosed body S
closed_left body more S c = record {
  atoms = λ v i. c.atoms v (subst (λ vs. IsIn v vs) (sym (flat_map-append bound_by_atom body more)) (append_left (flat_map bound_by_atom body) (flat_map bound_by_atom more) v i));
  equations = λ v i. c.equations v (subst (λ vs. IsIn v vs) (sym (flat_map-append (bound_by_equation S) body more)) (append_left (flat_map (bound_by_equation S) body) (flat_map (bound_by_equation S) more) v i));
}

pub closed_right : (body more : List Literal) (S : List Term) → IsClosed (body ++ more) S → IsClosed more S
closed_right body more S c = record {
  atoms = λ v i. c.atoms v (subst (λ vs. IsIn v vs) (sym (flat_map-append bound_by_atom body more)) (append_right (flat_map bound_by_atom body) (flat_map bound_by_atom more) v i));
  equations = λ v i. c.equations v (subst (λ vs. IsIn v vs) (sym (flat_map-append (bound_by_equation S) body more)) (append_right (flat_map (bound_by_equation S) body) (flat_map (bound_by_equation S) more) v i));
}

pub closed_both : (body more : List Literal) (S : List Term) → IsClosed body S → IsClosed more S → IsClosed (body ++ more) S
closed_both body more S c d = record {
  atoms = λ v i. elim (append_at (flat_map bound_by_atom body) (flat_map bound_by_atom more) v (subst (λ vs. IsIn v vs) (flat_map-append bound_by_atom body more) i)) [
    | inl h ↦ c.atoms v h
    | inr h ↦ d.atoms v h
  ];
  equations = λ v i. elim (append_at (flat_map (bound_by_equation S) body) (flat_map (bound_by_equation S) more) v (subst (λ vs. IsIn v vs) (flat_map-append (bound_by_equation S) body more) i)) [
    | inl h ↦ c.equations v h
    | inr h ↦ d.equations v h
  ];
}

-- the variables that a literal binds, and those of its links, are its own
side_own : (S : List Term) (x y : Term) → Within (settled_by S x y) (term_variables x)
side_own S x y v i = (brought S x y v i).1

equation_own : (S : List Term) (l : Literal) → Within (bound_by_equation S l) (literal_variables l)
equation_own S (Pos a) v i = absurd i
equation_own S (Neg a) v i = absurd i
equation_own S (Cmp x Eq y) v i = elim (append_at (settled_by S x y) (settled_by S y x) v i) [
  | inl h ↦ append_left (term_variables x) (term_variables y) v (side_own S x y v h)
  | inr h ↦ append_right (term_variables x) (term_variables y) v (side_own S y x v h)
]
equation_own S (Cmp x Ne y) v i = absurd i
equation_own S (Cmp x Lt y) v i = absurd i
equation_own S (Cmp x Le y) v i = absurd i
equation_own S (Cmp x Gt y) v i = absurd i
equation_own S (Cmp x Ge y) v i = absurd i

atom_own : (l : Literal) → Within (bound_by_atom l) (literal_variables l)
atom_own (Pos a) v i = i
atom_own (Neg a) v i = absurd i
atom_own (Cmp x op y) v i = absurd i

link_own : (l : Literal) (u v : Term) → IsIn (u, v) (literal_links l) → IsIn u (literal_variables l)
link_own (Pos a) u v i = absurd i
link_own (Neg a) u v i = absurd i
link_own (Cmp x Eq y) u v i = elim (append_at (pairs (term_variables x) (term_variables y)) (pairs (term_variables y) (term_variables x)) (u, v) i) [
  | inl h ↦ append_left (term_variables x) (term_variables y) u (pairs_at (term_variables x) (term_variables y) u v h).0
  | inr h ↦ append_right (term_variables x) (term_variables y) u (pairs_at (term_variables y) (term_variables x) u v h).0
]
link_own (Cmp x Ne y) u v i = absurd i
link_own (Cmp x Lt y) u v i = absurd i
link_own (Cmp x Le y) u v i = absurd i
link_own (Cmp x Gt y) u v i = absurd i
link_own (Cmp x Ge y) u v i = absurd i

-- each link of a literal stands there in both directions
literal_symmetric : (l : Literal) (u v : Term) → IsIn (u, v) (literal_links l) → IsIn (v, u) (literal_links l)
literal_symmetric (Pos a) u v i = absurd i
literal_symmetric (Neg a) u v i = absurd i
literal_symmetric (Cmp x Eq y) u v i = elim (append_at (pairs (term_variables x) (term_variables y)) (pairs (term_variables y) (term_variables x)) (u, v) i) [
  | inl h ↦
      let p = pairs_at (term_variables x) (term_variables y) u v h in
      append_right (pairs (term_variables x) (term_variables y)) (pairs (term_variables y) (term_variables x)) (v, u) (pairs_from (term_variables y) (term_variables x) v u p.1 p.0)
  | inr h ↦
      let p = pairs_at (term_variables y) (term_variables x) u v h in
      append_left (pairs (term_variables x) (term_variables y)) (pairs (term_variables y) (term_variables x)) (v, u) (pairs_from (term_variables x) (term_variables y) v u p.1 p.0)
]
literal_symmetric (Cmp x Ne y) u v i = absurd i
literal_symmetric (Cmp x Lt y) u v i = absurd i
literal_symmetric (Cmp x Le y) u v i = absurd i
literal_symmetric (Cmp x Gt y) u v i = absurd i
literal_symmetric (Cmp x Ge y) u v i = absurd i

pub links_are_symmetric : (body : List Literal) → IsSymmetric (flat_map literal_links body)
links_are_symmetric body u v i =
    let found = flat_at literal_links body (u, v) i in
    flat_from literal_links body found.0 (v, u) found.1 (literal_symmetric found.0 u v found.2)

-- what literals bind alone, and both ends of their links, are their own variables
alone_own : (l : Literal) → Within (bound_alone l) (literal_variables l)
alone_own l v i = elim (append_at (bound_by_atom l) (bound_by_equation [] l) v i) [
  | inl h ↦ atom_own l v h
  | inr h ↦ equation_own [] l v h
]

pub bound_own : (body : List Literal) → Within (flat_map bound_alone body) (flat_map literal_variables body)
bound_own body v i =
    let found = flat_at bound_alone body v i in
    flat_from literal_variables body found.0 v found.1 (alone_own found.0 v found.2)

pub source_own : (body : List Literal) (u v : Term) → IsIn (u, v) (flat_map literal_links body) → IsIn u (flat_map literal_variables body)
source_own body u v i =
    let found = flat_at literal_links body (u, v) i in
    flat_from literal_variables body found.0 u found.1 (link_own found.0 u v found.2)

pub target_own : (body : List Literal) (u v : Term) → IsIn (u, v) (flat_map literal_links body) → IsIn v (flat_map literal_variables body)
target_own body u v i = source_own body v u (links_are_symmetric body u v i)

-- the same variables of a list pass where two tests agree on it
pub filter_agrees : (p q : Term → Bool) (vs : List Term) → ((v : Term) → IsIn v vs → p v ≡ q v) → filter p vs ≡ filter q vs
filter_agrees p q [] same = refl
filter_agrees p q (v ∷ vs) same =
    ap (λ b. cond b (v ∷ filter p vs) (filter p vs)) (same v (inl refl))
    ∙ ap (λ ws. cond (q v) (v ∷ ws) ws) (filter_agrees p q vs (λ w i. same w (inr i)))
