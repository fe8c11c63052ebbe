-- Laws of the machine. All are transparent.
use Rattle.std.specs.Prelude.{ℕ, suc, ◌≤◌, ◌≡◌, ◌↔◌, ◌⊎◌, List, Ok, Err}
use Rattle.asp_defs.specs.declared.faults.TextFault.{TextFault}
use Rattle.asp_defs.specs.declared.syntax.Program.{Program}
use Rattle.asp_defs.specs.Tokens.{Token}
use Rattle.asp_defs.specs.Grammar.{IsText}
use Rattle.asp_defs.specs.TextRefusals.{IsRefused}
use Rattle.asp_grammar.specs.declared.state.State.{State}
use Rattle.asp_grammar.specs.declared.tree.Tree.{Tree}
use Rattle.asp_grammar.specs.Machine.{add, text_answer}

-- the machine answers a program exactly where the bytes are a text of it
abbrev pub AnswersTexts : Type 0
AnswersTexts = (bytes : List ℕ) (p : Program) → (text_answer bytes ≡ Ok p) ↔ IsText bytes p

-- the machine answers a refusal exactly where the bytes have it
abbrev pub AnswersRefusals : Type 0
AnswersRefusals = (bytes : List ℕ) (fault : TextFault) → (text_answer bytes ≡ Err fault) ↔ IsRefused bytes fault

-- every list of bytes is a text of a program or refused
abbrev pub EveryTextIsAnswered : Type 0
EveryTextIsAnswered = (bytes : List ℕ) → ((p : Program) × IsText bytes p) ⊎ ((fault : TextFault) × IsRefused bytes fault)

-- a token adds at most one to the tree's count of nameless variables
abbrev pub CountGrows : Type 0
CountGrows = (state : State) (t : Token) (tree : Tree) → (add state t tree).anonymous ≤ suc tree.anonymous
