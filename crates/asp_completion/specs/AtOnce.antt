-- Bounds that clauses say at once: those by which one of some atoms is true where a body is, and those by which no two are.
use Rattle.std.specs.Prelude.{ℕ, ◌≡◌, ◌+◌, ◌*◌, ◌≤◌, ◌==◌, ◌&&◌, Bool, true, false, not, List, [], ◌∷◌, ◌++◌, map, length, if◌then◌else◌}
use Rattle.std.specs.List.{list_any, list_all}
use Rattle.asp_defs.specs.declared.ground.Bound.{Bound}
use Rattle.asp_defs.specs.declared.ground.Counted.{Counted}
use Rattle.asp_defs.specs.declared.ground.Lit.{Lit}
use Rattle.asp_defs.specs.Bounds.{is_at_least, is_at_most}
use Rattle.asp_defs.specs.Lists.{IsIn}
use Rattle.asp_defs.specs.Interpretations.{holds}
use Rattle.asp_defs.specs.Truth.{literals_true}
use Rattle.asp_completion.specs.Codes.{literal}

-- the atoms of terms
abbrev pub atoms_of : List Counted → List ℕ
atoms_of terms = map (λ c. c.atom) terms

-- whether a term has no condition, and whether no term of a bound has one
abbrev pub is_free : Counted → Bool
is_free c = (length c.pos == 0) && (length c.neg == 0)

abbrev pub is_plain : Bound → Bool
is_plain b = list_all is_free b.counted

-- whether a bound without conditions wants at least one of its atoms, and whether it wants at most one
abbrev pub wants_one : Bound → Bool
wants_one b = is_plain b && not (is_at_least b.low 0)

abbrev pub wants_no_two : Bound → Bool
wants_no_two b = is_plain b && not (is_at_most b.high 2)

-- the literals against a bound's body
abbrev pub body_denial : Bound → List Lit
body_denial b = map (literal false) b.pos ++ map (literal true) b.neg

-- where the body is true, one of the counted atoms is
abbrev pub HasOne : Bound → List ℕ → Type 0
HasOne b N = literals_true N b.pos b.neg ≡ true → list_any (holds N) (atoms_of b.counted) ≡ true

-- and two atoms are both true only where they are the same
abbrev pub AreNotBoth : Bound → ℕ → ℕ → List ℕ → Type 0
AreNotBoth b c d N = literals_true N b.pos b.neg ≡ true → holds N c ≡ true → holds N d ≡ true → c ≡ d

abbrev pub NoneOfBoth : Bound → ℕ → List ℕ → List ℕ → Type 0
NoneOfBoth b c atoms N = (d : ℕ) → IsIn d atoms → AreNotBoth b c d N

abbrev pub HasNoTwo : Bound → List ℕ → List ℕ → Type 0
HasNoTwo b atoms N = (c d : ℕ) → IsIn c atoms → IsIn d atoms → AreNotBoth b c d N

-- the same of several bounds
abbrev pub HaveOne : List Bound → List ℕ → Type 0
HaveOne bounds N = (b : Bound) → IsIn b bounds → wants_one b ≡ true → HasOne b N

abbrev pub HaveNoTwo : List Bound → List ℕ → Type 0
HaveNoTwo bounds N = (b : Bound) → IsIn b bounds → wants_no_two b ≡ true → HasNoTwo b (atoms_of b.counted) N

-- how many pairs of atoms the bounds have that want at most one, each pair in both orders, and each atom with itself
abbrev pub pairs_of : Bound → ℕ
pairs_of b = if wants_no_two b then length b.counted * length b.counted else 0

abbrev pub pairs : List Bound → ℕ
pairs [] = 0
pairs (b ∷ bs) = pairs_of b + pairs bs

-- what the clauses of bounds say of an interpretation: a bound without conditions has one atom where it wants one; and where there are
-- few pairs, it has no two where it wants at most one
pub record AreMetAtOnce (bounds : List Bound) (N : List ℕ) : Type 0 where
  pub one : HaveOne bounds N
  pub no_two : pairs bounds ≤ 20000 → HaveNoTwo bounds N
