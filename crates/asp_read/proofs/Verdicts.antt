-- What a result says of the bytes, if it is the machine's answer or out of memory.
use Rattle.std.proofs.Common.{ℕ, ◌≡◌, ◌≢◌, ◌⊎◌, ◌∙◌, refl, sym, ap, inl, inr, List, [], ◌∷◌, length, map, Bool, true, false}
use Rattle.std.specs.Prelude.{Result, Ok, Err, IfOk, IfErr, ◌==◌}
use Rattle.asp_defs.specs.declared.syntax.Program.{Program}
use Rattle.asp_defs.specs.declared.faults.TextFault.{TextFault}
use Rattle.asp_defs.specs.declared.faults.TextFault.TheVariants.{NoMemory}
use Rattle.asp_defs.specs.Tokens.{Placed, tokens_of}
use Rattle.asp_defs.specs.Grammar.{IsText}
use Rattle.asp_defs.specs.TextRefusals.{IsRefused}
use Rattle.asp_defs.proofs.TextRefutations.{clash}
use Rattle.asp_lex.specs.declared.tokens.Token.{Token}
use Rattle.asp_lex.specs.Slices.{placed}
use Rattle.asp_grammar.specs.Machine.{answer, answer_from, start, text_answer}
use Rattle.asp_grammar.proofs.Answered.{answers_texts, answers_refusals}

-- the answer of a text is that of its tokens
pub answered : (bytes : List ℕ) (ts : List Placed) → tokens_of bytes ≡ Ok ts → text_answer bytes ≡ answer ts
answered bytes ts e = ap (λ (o : Result (List Placed) TextFault). elim o [ Ok us ↦ answer us | Err fault ↦ Err fault ]) e

-- the answer where there is a token
pub some_tokens : (bytes : List ℕ) (ts : List Token) → (length ts == 0) ≡ false → answer (map (placed bytes) ts) ≡ answer_from start (map (placed bytes) ts)
some_tokens bytes [] some = clash (sym some)
some_tokens bytes (t ∷ ts) some = refl

-- a result is an answer, unless memory ran out
pub record Agrees (expected result : Result Program TextFault) : Type 0 where
  pub program : IfOk result (λ p. expected ≡ Ok p)
  pub refusal : IfErr result (λ fault. fault ≢ NoMemory → expected ≡ Err fault)

abbrev lacks_memory : TextFault → Bool
lacks_memory NoMemory = true
lacks_memory other = false

pub text_at : (bytes : List ℕ) (result : Result Program TextFault) → Agrees (text_answer bytes) result → IfOk result (IsText bytes)
text_at bytes (Ok p) agrees = (answers_texts bytes p).0 agrees.program
text_at bytes (Err fault) agrees = tt

pub refused_at : (bytes : List ℕ) (result : Result Program TextFault) → Agrees (text_answer bytes) result → IfErr result (λ fault. fault ≢ NoMemory → IsRefused bytes fault)
refused_at bytes (Ok p) agrees = tt
refused_at bytes (Err fault) agrees = λ other. (answers_refusals bytes fault).0 (agrees.refusal other)

-- the answer is a result, unless memory ran out
same : (expected result : Result Program TextFault) → Agrees expected result → (result ≡ expected) ⊎ (result ≡ Err NoMemory)
same expected (Ok p) agrees = inl (sym agrees.program)
same expected (Err NoMemory) agrees = inr refl
same expected (Err other) agrees = inl (sym (agrees.refusal (λ e. clash (ap lacks_memory e))))

along : (expected given result : Result Program TextFault) → expected ≡ given → (result ≡ expected) ⊎ (result ≡ Err NoMemory) → (result ≡ given) ⊎ (result ≡ Err NoMemory)
along expected given result e (inl f) = inl (f ∙ e)
along expected given result e (inr f) = inr f

pub only_at : (bytes : List ℕ) (result : Result Program TextFault) → Agrees (text_answer bytes) result → (p : Program) → IsText bytes p → (result ≡ Ok p) ⊎ (result ≡ Err NoMemory)
only_at bytes result agrees p is =
    along (text_answer bytes) (Ok p) result ((answers_texts bytes p).1 is) (same (text_answer bytes) result agrees)

pub first_at : (bytes : List ℕ) (result : Result Program TextFault) → Agrees (text_answer bytes) result → (fault : TextFault) → IsRefused bytes fault → (result ≡ Err fault) ⊎ (result ≡ Err NoMemory)
first_at bytes result agrees fault is =
    along (text_answer bytes) (Err fault) result ((answers_refusals bytes fault).1 is) (same (text_answer bytes) result agrees)

-- what was parsed of the tokens of slices agrees with the text
pub agrees_at : (bytes : List ℕ) (ts us : List Token) (result : Result Program TextFault) → tokens_of bytes ≡ Ok (map (placed bytes) ts) → us ≡ ts → IfOk result (λ p. answer (map (placed bytes) us) ≡ Ok p) → IfErr result (λ fault. fault ≢ NoMemory → answer (map (placed bytes) us) ≡ Err fault) → Agrees (text_answer bytes) result
agrees_at bytes ts us (Ok p) e f program refusal = record {
  program = answered bytes (map (placed bytes) ts) e ∙ (ap (λ vs. answer (map (placed bytes) vs)) (sym f) ∙ program);
  refusal = tt;
}
agrees_at bytes ts us (Err fault) e f program refusal = record {
  program = tt;
  refusal = λ other. answered bytes (map (placed bytes) ts) e ∙ (ap (λ vs. answer (map (placed bytes) vs)) (sym f) ∙ refusal other);
}
