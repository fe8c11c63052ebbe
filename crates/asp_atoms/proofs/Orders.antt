-- The orders of constants, predicates and atoms are total, and what they don't tell apart is equal.
use Rattle.std.proofs.Common.{ℕ, ◌≡◌, refl, sym, ◌∙◌, ap, List, [], ◌∷◌, length}
use Rattle.std.specs.Ordering.{nat_cmp, int_cmp, ordering_then, ordering_reverse}
use Rattle.std.specs.declared.cmp.Ordering.{Ordering}
use Rattle.std.specs.declared.cmp.Ordering.TheVariants.{Less, Equal, Greater}
use Rattle.std.specs.Cmp.{IsTotalOrder}
use Rattle.std.specs.Cmp.Lexicographic.{slice_cmp}
use Rattle.std.proofs.lemmas.Cmp.{ranked, int_ranked, nat_cmp_total, int_cmp_total, on_total, then_total, lists_total}
use Rattle.asp_defs.specs.declared.ground.Const.{Const}
use Rattle.asp_defs.specs.declared.ground.Const.TheVariants as const
use Rattle.asp_defs.specs.declared.ground.GroundAtom.{GroundAtom}
use Rattle.asp_defs.specs.Constants.{const_cmp, atom_cmp}
use Rattle.asp_defs.specs.Bases.{Predicate, predicate_cmp}

-- a total order that tells all values apart
pub record IsLawful {A : Type 0} (R : A → A → Ordering) : Type 0 where
  pub total : IsTotalOrder R
  pub exact : (x y : A) → R x y ≡ Equal → x ≡ y

-- ---- numbers and bytes

pub nat_lawful : IsLawful nat_cmp
nat_lawful = record { total = nat_cmp_total; exact = λ x y e. ranked x y Equal (sym e) }

pub int_lawful : IsLawful int_cmp
int_lawful = record { total = int_cmp_total; exact = λ x y e. int_ranked x y Equal (sym e) }

-- ---- one order and then another

then_first : (o q : Ordering) → ordering_then o q ≡ Equal → o ≡ Equal
then_first Less q e = e
then_first Equal q e = refl
then_first Greater q e = e

then_second : (o q : Ordering) → ordering_then o q ≡ Equal → q ≡ Equal
then_second Less q e = absurd (cc)
then_second Equal q e = e
then_second Greater q e = absurd (cc)

lists_exact : {A : Type 0} (R : A → A → Ordering) → ((x y : A) → R x y ≡ Equal → x ≡ y) → (xs ys : List A) → slice_cmp R xs ys ≡ Equal → xs ≡ ys
lists_exact R exact [] [] e = refl
lists_exact R exact [] (y ∷ ys) e = absurd (cc)
lists_exact R exact (x ∷ xs) [] e = absurd (cc)
lists_exact R exact (x ∷ xs) (y ∷ ys) e =
    ap (λ z. z ∷ xs) (exact x y (then_first (R x y) (slice_cmp R xs ys) e))
    ∙ ap (λ zs. y ∷ zs) (lists_exact R exact xs ys (then_second (R x y) (slice_cmp R xs ys) e))

pub lists_lawful : {A : Type 0} {R : A → A → Ordering} → IsLawful R → IsLawful (slice_cmp R)
lists_lawful {A} {R} law = record { total = lists_total law.total; exact = lists_exact R law.exact }

pub bytes_lawful : IsLawful (slice_cmp nat_cmp)
bytes_lawful = lists_lawful nat_lawful

-- ---- constants

const_antisymm : (x y : Const) → const_cmp x y ≡ ordering_reverse (const_cmp y x)
const_antisymm (const.Int x) (const.Int y) = int_lawful.total.antisymm x y
const_antisymm (const.Int x) (const.Sym t) = refl
const_antisymm (const.Sym s) (const.Int y) = refl
const_antisymm (const.Sym s) (const.Sym t) = bytes_lawful.total.antisymm s t

const_trans : (x y z : Const) → const_cmp x y ≡ Less → const_cmp y z ≡ Less → const_cmp x z ≡ Less
const_trans (const.Int x) (const.Int y) (const.Int z) h g = int_lawful.total.trans x y z h g
const_trans (const.Int x) (const.Int y) (const.Sym u) h g = refl
const_trans (const.Int x) (const.Sym t) (const.Int z) h g = absurd (cc)
const_trans (const.Int x) (const.Sym t) (const.Sym u) h g = refl
const_trans (const.Sym s) (const.Int y) z h g = absurd (cc)
const_trans (const.Sym s) (const.Sym t) (const.Int z) h g = g
const_trans (const.Sym s) (const.Sym t) (const.Sym u) h g = bytes_lawful.total.trans s t u h g

const_congr : (x y z : Const) → const_cmp x y ≡ Equal → const_cmp x z ≡ const_cmp y z
const_congr (const.Int x) (const.Int y) (const.Int z) h = int_lawful.total.congr x y z h
const_congr (const.Int x) (const.Int y) (const.Sym u) h = refl
const_congr (const.Int x) (const.Sym t) z h = absurd (cc)
const_congr (const.Sym s) (const.Int y) z h = absurd (cc)
const_congr (const.Sym s) (const.Sym t) (const.Int z) h = refl
const_congr (const.Sym s) (const.Sym t) (const.Sym u) h = bytes_lawful.total.congr s t u h

pub const_exact : (x y : Const) → const_cmp x y ≡ Equal → x ≡ y
const_exact (const.Int x) (const.Int y) e = ap const.Int (int_lawful.exact x y e)
const_exact (const.Int x) (const.Sym t) e = absurd (cc)
const_exact (const.Sym s) (const.Int y) e = absurd (cc)
const_exact (const.Sym s) (const.Sym t) e = ap const.Sym (bytes_lawful.exact s t e)

pub const_lawful : IsLawful const_cmp
const_lawful = record {
  total = record { antisymm = const_antisymm; trans = const_trans; congr = const_congr };
  exact = const_exact;
}

-- ---- predicates

abbrev predicate : List ℕ → ℕ → Predicate
predicate name arity = record { name = name; arity = arity }

pub predicate_exact : (p q : Predicate) → predicate_cmp p q ≡ Equal → p ≡ q
predicate_exact p q e =
    let names = bytes_lawful.exact p.name q.name (then_first (slice_cmp nat_cmp p.name q.name) (nat_cmp p.arity q.arity) e) in
    let arities = nat_lawful.exact p.arity q.arity (then_second (slice_cmp nat_cmp p.name q.name) (nat_cmp p.arity q.arity) e) in
    ap (λ n. predicate n p.arity) names ∙ ap (λ k. predicate q.name k) arities

pub predicate_lawful : IsLawful predicate_cmp
predicate_lawful = record {
  total = then_total (on_total (λ (p : Predicate). p.name) bytes_lawful.total) (on_total (λ (p : Predicate). p.arity) nat_lawful.total);
  exact = predicate_exact;
}

-- ---- atoms

abbrev atom : List ℕ → List Const → GroundAtom
atom name args = record { name = name; args = args }

atom_exact : (a b : GroundAtom) → atom_cmp a b ≡ Equal → a ≡ b
atom_exact a b e =
    let names : slice_cmp nat_cmp a.name b.name ≡ Equal = then_first _ _ e in
    let rest : ordering_then (nat_cmp (length a.args) (length b.args)) (slice_cmp const_cmp a.args b.args) ≡ Equal = then_second (slice_cmp nat_cmp a.name b.name) _ e in
    let args : slice_cmp const_cmp a.args b.args ≡ Equal = then_second (nat_cmp (length a.args) (length b.args)) _ rest in
    ap (λ n. atom n a.args) (bytes_lawful.exact a.name b.name names)
    ∙ ap (λ xs. atom b.name xs) ((lists_lawful const_lawful).exact a.args b.args args)

pub atom_lawful : IsLawful atom_cmp
atom_lawful = record {
  total = then_total (on_total (λ (a : GroundAtom). a.name) bytes_lawful.total)
      (then_total (on_total (λ (a : GroundAtom). length a.args) nat_lawful.total) (on_total (λ (a : GroundAtom). a.args) (lists_total const_lawful.total)));
  exact = atom_exact;
}
