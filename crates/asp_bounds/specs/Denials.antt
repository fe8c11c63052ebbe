-- Clauses of a bound that an interpretation doesn't meet. All definitions are transparent.
use Rattle.std.specs.Prelude.{ℕ, ◌≡◌, ◌⊎◌, ◌&&◌, ◌||◌, Bool, true, false, not, List, [], ◌∷◌, ◌++◌, map, length, slice_set}
use Rattle.std.specs.List.{list_all, list_any}
use Rattle.asp_defs.specs.declared.ground.Bound.{Bound}
use Rattle.asp_defs.specs.declared.ground.Counted.{Counted}
use Rattle.asp_defs.specs.declared.ground.Lit.{Lit}
use Rattle.asp_bits.specs.Places.{true_places}
use Rattle.asp_defs.specs.Bounds.{bound_atoms, counted_atoms, meets}
use Rattle.asp_defs.specs.Entries.{lit_true}
use Rattle.asp_defs.specs.Games.{ascends}
use Rattle.asp_defs.specs.Interpretations.{holds}
use Rattle.asp_defs.specs.Lists.{IsIn}
use Rattle.asp_defs.specs.Truth.{literals_true}
use Rattle.asp_bounds.specs.Terms.{literal, is_counted, IsReason}

-- whether all literals of a clause are false, and whether one is true
abbrev pub is_false : List ℕ → List Lit → Bool
is_false I clause = list_all (λ l. not (lit_true I l)) clause

abbrev pub is_true : List ℕ → List Lit → Bool
is_true I clause = list_any (lit_true I) clause

-- literals of a bound's atoms, all false in an interpretation; wherever they are, the body is true
pub record IsDenial (b : Bound) (I : List ℕ) (clause : List Lit) : Type 0 where
  pub false_here : is_false I clause ≡ true
  pub atoms : (l : Lit) → IsIn l clause → IsIn l.atom (bound_atoms b)
  pub body : (N : List ℕ) → is_false N clause ≡ true → literals_true N b.pos b.neg ≡ true

-- as many truth values, of which those at these atoms are true
pub record ArePlaces (count : ℕ) (atoms : List ℕ) (marks : List Bool) : Type 0 where
  pub as_many : length marks ≡ count
  pub there : (a : ℕ) → IsIn a atoms → holds (true_places marks) a ≡ true
  pub alone : (a : ℕ) → holds (true_places marks) a ≡ true → IsIn a atoms

-- a term's atom is settled where a literal says that this atom is false
abbrev pub Settles : Counted → Lit → List Bool → List Bool → Type 0
Settles c l old new =
    (new ≡ old) ⊎ ((l.positive ≡ true) × (l.atom ≡ c.atom) × (new ≡ slice_set old c.atom true))

-- nothing is added for a term that counts or whose atom is settled, and else the reason why it doesn't count
abbrev pub Reasoned : List ℕ → Counted → List Lit → List Lit → List Bool → List Bool → Type 0
Reasoned I c old new settled later =
    (((holds (true_places settled) c.atom || is_counted I c) ≡ true) × (new ≡ old) × (later ≡ settled))
    ⊎ ((l : Lit) × IsReason I c l × (new ≡ old ++ l ∷ []) × Settles c l settled later)

-- with the literals against a term's atom and against its condition
abbrev pub denial_of : List Lit → Counted → List Lit
denial_of old c = ((old ++ literal false c.atom ∷ []) ++ map (literal false) c.pos) ++ map (literal true) c.neg

-- a term that counts a wanted atom is denied, and its atom isn't wanted any more; for another nothing is added
abbrev pub Denied : List ℕ → Counted → List Lit → List Lit → List Bool → List Bool → Type 0
Denied I c old new wanted later =
    (((holds (true_places wanted) c.atom && is_counted I c) ≡ false) × (new ≡ old) × (later ≡ wanted))
    ⊎ (((holds (true_places wanted) c.atom && is_counted I c) ≡ true) × (new ≡ denial_of old c) × (later ≡ slice_set wanted c.atom false))

-- and wherever they are false, of some terms only those count whose atoms are counted in the interpretation
pub record IsLowDenial (b : Bound) (I : List ℕ) (terms : List Counted) (clause : List Lit) : Type 0 where
  pub denial : IsDenial b I clause
  pub stops : (N : List ℕ) → is_false N clause ≡ true → (c : Counted) → IsIn c terms → is_counted N c ≡ true → IsIn c.atom (counted_atoms I b)

-- and wherever they are false, these atoms are counted
pub record IsHighDenial (b : Bound) (I atoms : List ℕ) (clause : List Lit) : Type 0 where
  pub denial : IsDenial b I clause
  pub counted : (N : List ℕ) → is_false N clause ≡ true → (a : ℕ) → IsIn a atoms → IsIn a (counted_atoms N b)

-- a clause that is false in an interpretation and true in each that meets a bound; each of its atoms stands in the bound
pub record IsBoundClause (b : Bound) (I : List ℕ) (clause : List Lit) : Type 0 where
  pub false_here : is_false I clause ≡ true
  pub true_there : (N : List ℕ) → ascends N ≡ true → meets N b ≡ true → is_true N clause ≡ true
  pub atoms : list_all (λ l. holds (bound_atoms b) l.atom) clause ≡ true

-- such a clause of one of several bounds
pub record IsBoundsClause (bounds : List Bound) (I : List ℕ) (clause : List Lit) : Type 0 where
  pub bound : Bound
  pub member : IsIn bound bounds
  pub its_clause : IsBoundClause bound I clause
