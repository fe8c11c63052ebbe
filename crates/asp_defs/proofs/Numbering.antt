-- A rule is determined by itself without the numbers of its nameless variables, where these are numbered from 1: the
-- numbers are filled in again from the left.
use Rattle.std.proofs.Common.{ℕ, zero, suc, ◌≡◌, refl, sym, ◌∙◌, ap, List, [], ◌∷◌, ◌++◌, map, append_assoc}
use Rattle.std.specs.Prelude.{length}
use Rattle.std.specs.List.{flat_map}
use Rattle.asp_defs.specs.declared.syntax.Term.{Term}
use Rattle.asp_defs.specs.declared.syntax.Term.TheVariants.{Int, Sym, Var, Anon, Range}
use Rattle.asp_defs.specs.declared.syntax.Atom.{Atom}
use Rattle.asp_defs.specs.declared.syntax.Literal.{Literal}
use Rattle.asp_defs.specs.declared.syntax.Literal.TheVariants.{Pos, Neg, Cmp}
use Rattle.asp_defs.specs.declared.syntax.Element.{Element}
use Rattle.asp_defs.specs.declared.syntax.Head.{Head}
use Rattle.asp_defs.specs.declared.syntax.Head.TheVariants.{Disj, Choice}
use Rattle.asp_defs.specs.declared.syntax.Rule.{Rule}
use Rattle.asp_defs.specs.Lists.{numbers_from}
use Rattle.asp_defs.specs.Grammar.{term_anonymous, atom_anonymous, literal_anonymous, element_anonymous, head_anonymous, rule_anonymous, IsNumbered}

-- ---- a part with all numbers 0

abbrev pub bare_term : Term → Term
bare_term (Int x) = Int x
bare_term (Sym s) = Sym s
bare_term (Var v) = Var v
bare_term (Anon k) = Anon 0
bare_term (Range low high) = Range low high

abbrev pub make_atom : List ℕ → List Term → Atom
make_atom name args = record { name = name; args = args }

abbrev pub bare_atom : Atom → Atom
bare_atom a = make_atom a.name (map bare_term a.args)

abbrev pub bare_literal : Literal → Literal
bare_literal (Pos a) = Pos (bare_atom a)
bare_literal (Neg a) = Neg (bare_atom a)
bare_literal (Cmp x op y) = Cmp (bare_term x) op (bare_term y)

abbrev pub make_element : Atom → List Literal → Element
make_element atom cond = record { atom = atom; cond = cond }

abbrev pub bare_element : Element → Element
bare_element e = make_element (bare_atom e.atom) (map bare_literal e.cond)

abbrev pub bare_head : Head → Head
bare_head (Disj atoms) = Disj (map bare_atom atoms)
bare_head (Choice low elements high) = Choice low (map bare_element elements) high

abbrev pub make_rule : Head → List Literal → Rule
make_rule head body = record { head = head; body = body }

abbrev pub bare_rule : Rule → Rule
bare_rule r = make_rule (bare_head r.head) (map bare_literal r.body)

-- ---- the numbers filled in from the front of a list, and what is left of the list

abbrev Fill : Type 0 → Type 0
Fill A = A → List ℕ → A × List ℕ

-- filling in a part's own numbers gives the part
abbrev Fills : {A : Type 0} → Fill A → (A → A) → (A → List ℕ) → Type 0
Fills {A} fill bare numbers = (x : A) (more : List ℕ) → fill (bare x) (numbers x ++ more) ≡ (x, more)

-- two parts, one behind the other
abbrev fill_both : {A B : Type 0} → Fill A → Fill B → A → B → List ℕ → (A × B) × List ℕ
fill_both first second x y ks = (((first x ks).0, (second y (first x ks).1).0), (second y (first x ks).1).1)

both_fill : {A B : Type 0} (f : Fill A) (g : Fill B) (x0 : A) (y0 : B) (x : A) (y : B) (m n more : List ℕ) → ((rest : List ℕ) → f x0 (m ++ rest) ≡ (x, rest)) → ((rest : List ℕ) → g y0 (n ++ rest) ≡ (y, rest)) → fill_both f g x0 y0 (m ++ n ++ more) ≡ ((x, y), more)
both_fill f g x0 y0 x y m n more left right =
    ap (λ p. ((p.0, (g y0 p.1).0), (g y0 p.1).1)) (ap (f x0) (append_assoc m n more) ∙ left (n ++ more))
    ∙ ap (λ q. ((x, q.0), q.1)) (right more)

-- a list
abbrev fill_all : {A : Type 0} → Fill A → Fill (List A)
fill_all fill [] ks = ([], ks)
fill_all fill (x ∷ xs) ks = ((fill x ks).0 ∷ (fill_all fill xs (fill x ks).1).0, (fill_all fill xs (fill x ks).1).1)

all_fill : {A : Type 0} (fill : Fill A) (bare : A → A) (numbers : A → List ℕ) → Fills fill bare numbers → Fills (fill_all fill) (map bare) (flat_map numbers)
all_fill fill bare numbers law [] more = refl
all_fill fill bare numbers law (x ∷ xs) more =
    ap (λ p. (p.0.0 ∷ p.0.1, p.1))
    (both_fill fill (fill_all fill) (bare x) (map bare xs) x xs (numbers x) (flat_map numbers xs) more (law x) (all_fill fill bare numbers law xs))

abbrev fill_term : Fill Term
fill_term (Anon k) [] = (Anon k, [])
fill_term (Anon k) (n ∷ ks) = (Anon n, ks)
fill_term (Int x) ks = (Int x, ks)
fill_term (Sym s) ks = (Sym s, ks)
fill_term (Var v) ks = (Var v, ks)
fill_term (Range low high) ks = (Range low high, ks)

term_fills : Fills fill_term bare_term term_anonymous
term_fills (Int x) more = refl
term_fills (Sym s) more = refl
term_fills (Var v) more = refl
term_fills (Anon k) more = refl
term_fills (Range low high) more = refl

abbrev fill_atom : Fill Atom
fill_atom a ks = (make_atom a.name (fill_all fill_term a.args ks).0, (fill_all fill_term a.args ks).1)

atom_fills : Fills fill_atom bare_atom atom_anonymous
atom_fills a more = ap (λ p. (make_atom a.name p.0, p.1)) (all_fill fill_term bare_term term_anonymous term_fills a.args more)

abbrev fill_literal : Fill Literal
fill_literal (Pos a) ks = (Pos (fill_atom a ks).0, (fill_atom a ks).1)
fill_literal (Neg a) ks = (Neg (fill_atom a ks).0, (fill_atom a ks).1)
fill_literal (Cmp x op y) ks = (Cmp (fill_both fill_term fill_term x y ks).0.0 op (fill_both fill_term fill_term x y ks).0.1, (fill_both fill_term fill_term x y ks).1)

literal_fills : Fills fill_literal bare_literal literal_anonymous
literal_fills (Pos a) more = ap (λ p. (Pos p.0, p.1)) (atom_fills a more)
literal_fills (Neg a) more = ap (λ p. (Neg p.0, p.1)) (atom_fills a more)
literal_fills (Cmp x op y) more =
    ap (λ p. (Cmp p.0.0 op p.0.1, p.1))
    (both_fill fill_term fill_term (bare_term x) (bare_term y) x y (term_anonymous x) (term_anonymous y) more (term_fills x) (term_fills y))

literals_fill : Fills (fill_all fill_literal) (map bare_literal) (flat_map literal_anonymous)
literals_fill = all_fill fill_literal bare_literal literal_anonymous literal_fills

abbrev fill_element : Fill Element
fill_element e ks = (make_element (fill_both fill_atom (fill_all fill_literal) e.atom e.cond ks).0.0 (fill_both fill_atom (fill_all fill_literal) e.atom e.cond ks).0.1, (fill_both fill_atom (fill_all fill_literal) e.atom e.cond ks).1)

element_fills : Fills fill_element bare_element element_anonymous
element_fills e more =
    ap (λ p. (make_element p.0.0 p.0.1, p.1))
    (both_fill fill_atom (fill_all fill_literal) (bare_atom e.atom) (map bare_literal e.cond) e.atom e.cond (atom_anonymous e.atom) (flat_map literal_anonymous e.cond) more (atom_fills e.atom) (literals_fill e.cond))

abbrev fill_head : Fill Head
fill_head (Disj atoms) ks = (Disj (fill_all fill_atom atoms ks).0, (fill_all fill_atom atoms ks).1)
fill_head (Choice low elements high) ks = (Choice low (fill_all fill_element elements ks).0 high, (fill_all fill_element elements ks).1)

head_fills : Fills fill_head bare_head head_anonymous
head_fills (Disj atoms) more = ap (λ p. (Disj p.0, p.1)) (all_fill fill_atom bare_atom atom_anonymous atom_fills atoms more)
head_fills (Choice low elements high) more = ap (λ p. (Choice low p.0 high, p.1)) (all_fill fill_element bare_element element_anonymous element_fills elements more)

abbrev fill_rule : Fill Rule
fill_rule r ks = (make_rule (fill_both fill_head (fill_all fill_literal) r.head r.body ks).0.0 (fill_both fill_head (fill_all fill_literal) r.head r.body ks).0.1, (fill_both fill_head (fill_all fill_literal) r.head r.body ks).1)

rule_fills : Fills fill_rule bare_rule rule_anonymous
rule_fills r more =
    ap (λ p. (make_rule p.0.0 p.0.1, p.1))
    (both_fill fill_head (fill_all fill_literal) (bare_head r.head) (map bare_literal r.body) r.head r.body (head_anonymous r.head) (flat_map literal_anonymous r.body) more (head_fills r.head) (literals_fill r.body))

-- ---- two lists of numbers from one on begin a common one

record Common (k m n : ℕ) : Type 0 where
  left : List ℕ
  right : List ℕ
  same : numbers_from k m ++ left ≡ numbers_from k n ++ right

common : (k m n : ℕ) → Common k m n
common k zero n = record { left = numbers_from k n ++ []; right = []; same = refl }
common k (suc m) zero = record { left = []; right = numbers_from k (suc m) ++ []; same = refl }
common k (suc m) (suc n) =
    let c = common (suc k) m n in record { left = c.left; right = c.right; same = ap (λ ks. k ∷ ks) c.same }

-- rules that are the same but for the numbers are the same where both are numbered
pub same_rule : (r s : Rule) → bare_rule r ≡ bare_rule s → IsNumbered r → IsNumbered s → r ≡ s
same_rule r s e nr ns =
    let c = common 1 (length (rule_anonymous r)) (length (rule_anonymous s)) in
    let left : fill_rule (bare_rule r) (numbers_from 1 (length (rule_anonymous r)) ++ c.left) ≡ (r, c.left) = ap (λ ks. fill_rule (bare_rule r) (ks ++ c.left)) (sym nr) ∙ rule_fills r c.left in
    let right : fill_rule (bare_rule s) (numbers_from 1 (length (rule_anonymous s)) ++ c.right) ≡ (s, c.right) = ap (λ ks. fill_rule (bare_rule s) (ks ++ c.right)) (sym ns) ∙ rule_fills s c.right in
    ap (λ p. p.0) (sym left ∙ ap (fill_rule (bare_rule r)) c.same ∙ ap (λ q. fill_rule q (numbers_from 1 (length (rule_anonymous s)) ++ c.right)) e ∙ right)
