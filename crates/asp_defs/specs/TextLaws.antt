-- Laws of texts. All are transparent.
use Rattle.std.specs.Prelude.{ℕ, ◌<◌, ◌≤◌, ◌≡◌, IsTrue, List, [], ◌∷◌, ◌++◌, length, take, None, is_some}
use Rattle.std.specs.List.{flat_map}
use Rattle.asp_defs.specs.declared.faults.TextFault.{TextFault}
use Rattle.asp_defs.specs.declared.syntax.Literal.{Literal}
use Rattle.asp_defs.specs.declared.syntax.Term.{Term}
use Rattle.asp_defs.specs.declared.syntax.Program.{Program}
use Rattle.asp_defs.specs.Lists.{IsIn}
use Rattle.asp_defs.specs.Safety.{bound_by_atom, bound_by_equation, safe_variables}
use Rattle.asp_defs.specs.Tokens.{Token, Piece, pieces, longest_front, shape_of}
use Rattle.asp_defs.specs.Grammar.{IsProgram, IsText}
use Rattle.asp_defs.specs.TextRefusals.{statement_after, IsRefused}

-- no bytes are the text of two programs
abbrev pub TextsAreUnambiguous : Type 0
TextsAreUnambiguous = (bytes : List ℕ) (p q : Program) → IsText bytes p → IsText bytes q → p ≡ q

-- no bytes are the text of a program and refused
abbrev pub TextsAreNotRefused : Type 0
TextsAreNotRefused = (bytes : List ℕ) (p : Program) (fault : TextFault) → IsText bytes p → IsRefused bytes fault → ⊥

-- no bytes have two refusals
abbrev pub RefusalsAreUnique : Type 0
RefusalsAreUnique = (bytes : List ℕ) (f g : TextFault) → IsRefused bytes f → IsRefused bytes g → f ≡ g

-- the last of the tokens is a directive or a full stop
abbrev pub EndsProgram : List Token → Type 0
EndsProgram ts = (t : Token) × IsTrue (statement_after t) × ((front : List Token) × (ts ≡ front ++ t ∷ []))

-- a statement may begin exactly behind a whole program: its last token is a directive or a full stop
abbrev pub ProgramsEnd : Type 0
ProgramsEnd = (ts : List Token) (p : Program) → IsProgram ts p → EndsProgram ts

-- variables with which a body's positive atoms and equations bring no further one
pub record IsClosed (body : List Literal) (vs : List Term) : Type 0 where
  pub atoms : (v : Term) → IsIn v (flat_map bound_by_atom body) → IsIn v vs
  pub equations : (v : Term) → IsIn v (flat_map (bound_by_equation vs) body) → IsIn v vs

-- the safe variables of a body are the least closed ones
abbrev pub SafeVariablesAreLeast : Type 0
SafeVariablesAreLeast =
    (body : List Literal)
    → IsClosed body (safe_variables body)
    × ((vs : List Term) → IsClosed body vs → (v : Term) → IsIn v (safe_variables body) → IsIn v vs)

-- the pieces of a text are the text
abbrev pub PiecesAreTheText : Type 0
PiecesAreTheText = (bytes : List ℕ) → flat_map (λ (p : Piece). p.bytes) (pieces bytes) ≡ bytes

-- no front that is longer than the longest one is anything
abbrev pub FrontsAreLongest : Type 0
FrontsAreLongest =
    (bytes : List ℕ) (len : ℕ)
    → longest_front (length bytes) bytes < len → len ≤ length bytes → shape_of (take len bytes) ≡ None

-- a front that is something, where no longer one is, is the longest
abbrev pub LongestFrontIs : Type 0
LongestFrontIs =
    (bytes : List ℕ) (len : ℕ)
    → 0 < len → len ≤ length bytes → IsTrue (is_some (shape_of (take len bytes)))
    → ((more : ℕ) → len < more → more ≤ length bytes → shape_of (take more bytes) ≡ None)
    → longest_front (length bytes) bytes ≡ len
