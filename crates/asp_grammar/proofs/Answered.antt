-- The machine answers the program of tokens or their refusal, and so it does of bytes.
use Rattle.std.proofs.Common.{ℕ, ◌≡◌, refl, sym, ◌∙◌, ap, subst, inl, inr, Bool, true, false, List, [], ◌∷◌, ◌++◌}
use Rattle.std.specs.Prelude.{◌⊎◌, Option, Some, None, Result, Ok, Err}
use Rattle.asp_defs.specs.declared.faults.TextFault.{TextFault}
use Rattle.asp_defs.specs.declared.faults.TextFault.TheVariants.{NoLevel}
use Rattle.asp_defs.specs.declared.syntax.Program.{Program}
use Rattle.asp_defs.specs.Lists.{is_empty}
use Rattle.asp_defs.specs.Tokens.{Token, Placed, tokens_of, without_places}
use Rattle.asp_defs.specs.Grammar.{IsProgram, IsText}
use Rattle.asp_defs.specs.TextRefusals.{IsRefusedAt, IsRefused}
use Rattle.asp_defs.proofs.TextRefutations.{clash}
use Rattle.asp_defs.proofs.TextsApart.{texts_are_unambiguous, texts_are_not_refused, refusals_are_unique}
use Rattle.asp_grammar.specs.declared.tree.Builder.{Builder}
use Rattle.asp_grammar.specs.Machine.{start, step, run, finish, refusal_at, end_answer, answer_from, answer, text_answer}
use Rattle.asp_grammar.specs.Laws.{AnswersTexts, AnswersRefusals, EveryTextIsAnswered}
use Rattle.asp_grammar.proofs.Verdict.{reads, unfinished, offends}
use Rattle.asp_grammar.proofs.Refusals.{refuses}

-- ---- how a run ends

-- all tokens may come, or one can't
data Outcome (b : Builder) (ts : List Placed) : Type 0 where
  ended : (c : Builder) → run b (without_places ts) ≡ Some c → answer_from b ts ≡ end_answer (finish c) → Outcome b ts
  stopped : (before : List Placed) (t : Placed) (behind : List Placed) (c : Builder) → ts ≡ before ++ t ∷ behind → run b (without_places before) ≡ Some c → step c t.token ≡ None → answer_from b ts ≡ Err (refusal_at c.state t.token t.begins) → Outcome b ts

-- a token more in front
abbrev run_of : List Token → Option Builder → Option Builder
run_of ts o = elim o [ None ↦ None | Some c ↦ run c ts ]

abbrev answer_of : Builder → Placed → List Placed → Option Builder → Result Program TextFault
answer_of b t ts o = elim o [ None ↦ Err (refusal_at b.state t.token t.begins) | Some c ↦ answer_from c ts ]

one_more : (b c : Builder) (t : Placed) (ts : List Placed) → step b t.token ≡ Some c → Outcome c ts → Outcome b (t ∷ ts)
one_more b c t ts e (ended d r a) =
    ended d (ap (run_of (without_places ts)) e ∙ r) (ap (answer_of b t ts) e ∙ a)
one_more b c t ts e (stopped before u behind d s r n a) =
    stopped (t ∷ before) u behind d (ap (λ us. t ∷ us) s) (ap (run_of (without_places before)) e ∙ r) n (ap (answer_of b t ts) e ∙ a)

outcome_step : (b : Builder) (t : Placed) (ts : List Placed) → ((c : Builder) → Outcome c ts) → (o : Option Builder) → step b t.token ≡ o → Outcome b (t ∷ ts)
outcome_step b t ts on None e = stopped [] t ts b refl refl e (ap (answer_of b t ts) e)
outcome_step b t ts on (Some c) e = one_more b c t ts e (on c)

outcome : (ts : List Placed) (b : Builder) → Outcome b ts
outcome [] b = ended b refl refl
outcome (t ∷ ts) b = outcome_step b t ts (outcome ts) (step b t.token) refl

-- ---- what an answer says

abbrev was_ok : Result Program TextFault → Bool
was_ok (Ok p) = true
was_ok (Err fault) = false

abbrev program_or : Program → Result Program TextFault → Program
program_or p (Ok q) = q
program_or p (Err fault) = p

abbrev fault_of : Result Program TextFault → TextFault
fault_of (Ok p) = NoLevel
fault_of (Err fault) = fault

-- what tokens are, by the answer on them
abbrev Says : List Placed → Result Program TextFault → Type 0
Says ts (Ok p) = IsProgram (without_places ts) p
Says ts (Err fault) = IsRefusedAt ts fault

says_end : (ts : List Placed) (c : Builder) → (ts ≡ [] → ⊥) → run start (without_places ts) ≡ Some c → (o : Option Program) → finish c ≡ o → Says ts (end_answer o)
says_end ts c some r None e =
    let u = unfinished (without_places ts) c r e in inr (inl (some, u.0, u.1, refl))
says_end ts c some r (Some p) e = reads (without_places ts) c p r e

says_outcome : (ts : List Placed) → (ts ≡ [] → ⊥) → Outcome start ts → Says ts (answer_from start ts)
says_outcome ts some (ended c r a) = subst (Says ts) (sym a) (says_end ts c some r (finish c) refl)
says_outcome ts some (stopped before t behind c s r n a) =
    subst (Says ts) (sym a)
    (inr (inr (before, t, behind, s, offends (without_places before) t.token c r n, sym (refuses (without_places before) t.token c t.begins r))))

pub answer_says : (ts : List Placed) → Says ts (answer ts)
answer_says [] = inl (refl, refl)
answer_says (t ∷ ts) = says_outcome (t ∷ ts) (λ e. clash (ap is_empty e)) (outcome (t ∷ ts) start)

-- ---- texts

-- what bytes are, by the answer on them
abbrev Tells : List ℕ → Result Program TextFault → Type 0
Tells bytes (Ok p) = IsText bytes p
Tells bytes (Err fault) = IsRefused bytes fault

tells_tokens : (bytes : List ℕ) (ts : List Placed) → tokens_of bytes ≡ Ok ts → (r : Result Program TextFault) → Says ts r → Tells bytes r
tells_tokens bytes ts e (Ok p) h = (ts, e, h)
tells_tokens bytes ts e (Err fault) h = inr (ts, e, h)

tells : (bytes : List ℕ) (r : Result (List Placed) TextFault) → tokens_of bytes ≡ r → Tells bytes (elim r [ Ok ts ↦ answer ts | Err fault ↦ Err fault ])
tells bytes (Ok ts) e = tells_tokens bytes ts e (answer ts) (answer_says ts)
tells bytes (Err fault) e = inl e

pub text_answer_tells : (bytes : List ℕ) → Tells bytes (text_answer bytes)
text_answer_tells bytes = tells bytes (tokens_of bytes) refl

only_program : (bytes : List ℕ) (p : Program) (r : Result Program TextFault) → Tells bytes r → IsText bytes p → r ≡ Ok p
only_program bytes p (Ok q) h k = ap Ok (texts_are_unambiguous bytes q p h k)
only_program bytes p (Err fault) h k = absurd (texts_are_not_refused bytes p fault k h)

only_fault : (bytes : List ℕ) (fault : TextFault) (r : Result Program TextFault) → Tells bytes r → IsRefused bytes fault → r ≡ Err fault
only_fault bytes fault (Ok p) h k = absurd (texts_are_not_refused bytes p fault h k)
only_fault bytes fault (Err g) h k = ap Err (refusals_are_unique bytes g fault h k)

pub answers_texts : AnswersTexts
answers_texts bytes p = (
  λ e. subst (Tells bytes) e (text_answer_tells bytes),
  only_program bytes p (text_answer bytes) (text_answer_tells bytes),
)

pub answers_refusals : AnswersRefusals
answers_refusals bytes fault = (
  λ e. subst (Tells bytes) e (text_answer_tells bytes),
  only_fault bytes fault (text_answer bytes) (text_answer_tells bytes),
)

tells_one : (bytes : List ℕ) (r : Result Program TextFault) → Tells bytes r → ((p : Program) × IsText bytes p) ⊎ ((fault : TextFault) × IsRefused bytes fault)
tells_one bytes (Ok p) h = inl (p, h)
tells_one bytes (Err fault) h = inr (fault, h)

pub every_text_is_answered : EveryTextIsAnswered
every_text_is_answered bytes = tells_one bytes (text_answer bytes) (text_answer_tells bytes)
