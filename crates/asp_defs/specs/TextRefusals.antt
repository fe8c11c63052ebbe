-- The refusals of texts: what is wrong with bytes that are no text of a program (of this project). All definitions are
-- transparent. Viability is no test; which refusal the offending token gives is one, by the tokens before it.
use Rattle.std.specs.Prelude.{ℕ, ◌≡◌, ◌⊎◌, Bool, true, false, not, if◌then◌else◌, List, [], ◌∷◌, ◌++◌, codes, Ok, Err, bytes_eq}
use Rattle.std.specs.List.{list_any}
use Rattle.asp_defs.specs.declared.syntax.Program.{Program}
use Rattle.asp_defs.specs.declared.faults.TextFault.{TextFault}
use Rattle.asp_defs.specs.declared.faults.TextFault.TheVariants.{NoLevel, Unfinished, UnknownDirective, BeforeLevel, AfterConstraint, Unexpected}
use Rattle.asp_defs.specs.Tokens.{Token, Placed, tokens_of, without_places, DirectiveToken, DotToken}
use Rattle.asp_defs.specs.Grammar.{IsProgram}

-- tokens are viable: they, or tokens that continue them, are a program
abbrev pub IsViable : List Token → Type 0
IsViable ts = (more : List Token) × (p : Program) × IsProgram (ts ++ more) p

-- no program has these tokens
abbrev pub IsNoProgram : List Token → Type 0
IsNoProgram ts = (p : Program) → IsProgram ts p → ⊥

-- the words of the directives
abbrev pub known_words : List (List ℕ)
known_words = codes "exists" ∷ codes "forall" ∷ codes "constraint" ∷ []

abbrev pub is_known_word : List ℕ → Bool
is_known_word word = list_any (bytes_eq word) known_words

-- a statement may begin behind a directive and behind a full stop
abbrev pub statement_after : Token → Bool
statement_after (DirectiveToken word) = true
statement_after DotToken = true
statement_after other = false

-- the refusal of a token at a place by the token before it
abbrev pub refusal_after : Token → Token → ℕ → TextFault
refusal_after last (DirectiveToken word) place =
    if not (is_known_word word) then UnknownDirective place
    else if statement_after last then AfterConstraint place
    else Unexpected place
refusal_after last other place = Unexpected place

-- the refusal of a first token
abbrev pub first_refusal : Token → ℕ → TextFault
first_refusal (DirectiveToken word) place = if is_known_word word then BeforeLevel place else UnknownDirective place
first_refusal other place = BeforeLevel place

-- the refusal of a token at a place, by the tokens before it
abbrev pub refusal_behind : Token → List Token → Token → ℕ → TextFault
refusal_behind last [] t place = refusal_after last t place
refusal_behind last (next ∷ more) t place = refusal_behind next more t place

abbrev pub refusal_of : List Token → Token → ℕ → TextFault
refusal_of [] t place = first_refusal t place
refusal_of (first ∷ more) t place = refusal_behind first more t place

-- a token is the offending one: the tokens before it are viable, and with it they aren't
pub record Offends (before : List Token) (t : Token) : Type 0 where
  pub viable : IsViable before
  pub stuck : IsViable (before ++ t ∷ []) → ⊥

-- tokens are refused: there are none, all are viable but aren't a program, or one offends
abbrev pub IsRefusedAt : List Placed → TextFault → Type 0
IsRefusedAt ts fault =
    ((ts ≡ []) × (fault ≡ NoLevel))
    ⊎ (((ts ≡ [] → ⊥) × IsViable (without_places ts) × IsNoProgram (without_places ts) × (fault ≡ Unfinished))
    ⊎ ((before : List Placed) × (t : Placed) × (behind : List Placed) × (ts ≡ before ++ t ∷ behind)
    × Offends (without_places before) t.token × (fault ≡ refusal_of (without_places before) t.token t.begins)))

-- bytes are refused: first for their tokens, and then for the grammar
abbrev pub IsRefused : List ℕ → TextFault → Type 0
IsRefused bytes fault =
    (tokens_of bytes ≡ Err fault) ⊎ ((ts : List Placed) × (tokens_of bytes ≡ Ok ts) × IsRefusedAt ts fault)
