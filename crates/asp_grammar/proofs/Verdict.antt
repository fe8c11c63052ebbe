-- What the machine's answers say: a program, tokens that begin one, or the token that offends.
use Rattle.std.proofs.Common.{◌≡◌, refl, sym, ◌∙◌, ap, subst, inl, Bool, true, false, List, [], ◌∷◌, ◌++◌, append_assoc, append-nil}
use Rattle.std.specs.Prelude.{IsTrue, not, if◌then◌else◌, Option, Some, None, is_some}
use Rattle.asp_defs.specs.declared.syntax.Quant.{Quant}
use Rattle.asp_defs.specs.declared.syntax.Rule.{Rule}
use Rattle.asp_defs.specs.declared.syntax.Part.{Part}
use Rattle.asp_defs.specs.declared.syntax.Program.{Program}
use Rattle.asp_defs.specs.Lists.{is_empty}
use Rattle.asp_defs.specs.Tokens.{Token}
use Rattle.asp_defs.specs.Grammar.{AllAt, LevelAt, IsProgram}
use Rattle.asp_defs.specs.TextRefusals.{IsViable, IsNoProgram, Offends}
use Rattle.asp_defs.proofs.TextRefutations.{clash}
use Rattle.asp_grammar.specs.declared.state.State.{State}
use Rattle.asp_grammar.specs.declared.state.State.TheVariants.{Start, Statement}
use Rattle.asp_grammar.specs.declared.tree.Tree.{Tree}
use Rattle.asp_grammar.specs.declared.tree.Builder.{Builder}
use Rattle.asp_grammar.specs.Machine.{next_state, add, start, moved, step, run, finish_at, finish, finished}
use Rattle.asp_grammar.proofs.Complete.{programs_lead}
use Rattle.asp_grammar.proofs.Rests.{Between, Completes, Then}
use Rattle.asp_grammar.proofs.Numbers.{Counts, AllCount, counts_on}
use Rattle.asp_grammar.proofs.Sound.{back}
use Rattle.asp_grammar.proofs.Flags.{walks}
use Rattle.asp_grammar.proofs.Closings.{closing}

-- ---- a program

abbrev make_part : Quant → List Rule → Part
make_part quant rules = record { quant = quant; rules = rules }

abbrev the : {A : Type 0} → A → Option A → A
the a None = a
the a (Some b) = b

-- the program of a tree whose statements are whole needs no more tokens
finish_statement : (tree : Tree) (p : Program) (f : Bool) → (if f then record { levels = tree.levels; cons = tree.rules } else record { levels = tree.levels ++ make_part tree.quant tree.rules ∷ []; cons = [] }) ≡ p → Between f tree.levels tree.quant tree.rules [] p
finish_statement tree p true e =
    ([], refl, sym (ap (λ (q : Program). q.levels) e), sym (ap (λ (q : Program). q.cons) e) ∙ sym (append-nil tree.rules))
finish_statement tree p false e = (
  [],
  [],
  [],
  [],
  refl,
  refl,
  inl (sym (ap (λ (q : Program). q.cons) e), refl),
  sym (ap (λ (q : Program). q.levels) e) ∙ ap (λ rs. tree.levels ++ make_part tree.quant rs ∷ []) (sym (append-nil tree.rules)),
)

finish_completes : (state : State) (tree : Tree) (p : Program) → finish_at state tree ≡ Some p → Completes state tree [] p
finish_completes Statement tree p e = finish_statement tree p tree.in_constraint (ap (the p) e)
finish_completes other tree p e = clash (ap is_some e)

sound_token : (b : Builder) (t : Token) (ts : List Token) (p : Program) → ((c : Builder) → Counts c.state c.tree → finished (run c ts) ≡ Some p → Completes c.state c.tree ts p) → (o : Option State) → AllCount o (add b.state t b.tree) → finished (elim (moved b t o) [ None ↦ None | Some c ↦ run c ts ]) ≡ Some p → Then o (add b.state t b.tree) ts p
sound_token b t ts p on None count e = clash (ap is_some e)
sound_token b t ts p on (Some state) count e = on (record { state = state; tree = add b.state t b.tree }) count e

sound : (ts : List Token) (b : Builder) (p : Program) → Counts b.state b.tree → finished (run b ts) ≡ Some p → Completes b.state b.tree ts p
sound [] b p count e = finish_completes b.state b.tree p e
sound (t ∷ ts) b p count e =
    back b.state t b.tree ts p count
    (sound_token b t ts p (λ c k f. sound ts c p k f) (next_state b.tree.in_constraint b.state t) (counts_on b.tree.in_constraint b.state t b.tree count) e)

start_completes : (ts : List Token) (p : Program) → Completes Start start.tree ts p → IsProgram ts p
start_completes ts p (quant, next, e, (more, mid, parts, last, all, others, cons, f)) = (
  last,
  subst (λ (levels : List Part). IsTrue (not (is_empty levels))) (sym f) refl,
  subst (λ levels. AllAt LevelAt levels ts last) (sym f) (mid, (next, e, all), others),
  cons,
)

-- what the machine finds is a program
pub found : (ts : List Token) (p : Program) → finished (run start ts) ≡ Some p → IsProgram ts p
found ts p e = start_completes ts p (sound ts start p tt e)

pub reads : (ts : List Token) (b : Builder) (p : Program) → run start ts ≡ Some b → finish b ≡ Some p → IsProgram ts p
reads ts b p e f = found ts p (ap finished e ∙ f)

-- ---- tokens that begin a program

run_token : (t : Token) (ts us : List Token) (c : Builder) → ((b : Builder) → run b ts ≡ Some c → run b (ts ++ us) ≡ run c us) → (o : Option Builder) → (elim o [ None ↦ None | Some d ↦ run d ts ]) ≡ Some c → (elim o [ None ↦ None | Some d ↦ run d (ts ++ us) ]) ≡ run c us
run_token t ts us c on None e = clash (ap is_some e)
run_token t ts us c on (Some d) e = on d e

-- a run in two parts
pub run_on : (b c : Builder) (ts us : List Token) → run b ts ≡ Some c → run b (ts ++ us) ≡ run c us
run_on b c [] us e = ap (λ d. run (the b d) us) e
run_on b c (t ∷ ts) us e = run_token t ts us c (λ d f. run_on d c ts us f) (step b t) e

-- a program is found where the machine goes to the end of a statement
some_found : (ts : List Token) (o : Option Program) → finished (run start ts) ≡ o → is_some o ≡ true → (p : Program) × IsProgram ts p
some_found ts None e f = clash f
some_found ts (Some p) e f = (p, found ts p e)

pub viable : (ts : List Token) (b : Builder) → run start ts ≡ Some b → IsViable ts
viable ts b e =
    let c = closing b.tree.in_constraint b.state in
    let goes : is_some (finished (run start (ts ++ c.0))) ≡ true = ap (λ o. is_some (finished o)) (run_on start b ts c.0 e) ∙ sym (walks c.0 b) ∙ c.1 in
    let d = some_found (ts ++ c.0) (finished (run start (ts ++ c.0))) refl goes in
    (c.0, d.0, d.1)

-- ---- no program

none_found : (ts : List Token) (p : Program) → IsProgram ts p → is_some (finished (run start ts)) ≡ true
none_found ts p h = sym (walks ts start) ∙ programs_lead ts p h

pub unfinished : (ts : List Token) (b : Builder) → run start ts ≡ Some b → finish b ≡ None → IsViable ts × IsNoProgram ts
unfinished ts b e f =
    (viable ts b e, λ p h. clash (sym (ap is_some (ap finished e ∙ f)) ∙ none_found ts p h))

-- a token that can't come
stuck_run : (before : List Token) (t : Token) (more : List Token) (b : Builder) → run start before ≡ Some b → step b t ≡ None → run start ((before ++ t ∷ []) ++ more) ≡ None
stuck_run before t more b e f =
    ap (run start) (append_assoc before (t ∷ []) more) ∙ run_on start b before (t ∷ more) e
    ∙ ap (λ (o : Option Builder). elim o [ None ↦ None | Some c ↦ run c more ]) f

pub offends : (before : List Token) (t : Token) (b : Builder) → run start before ≡ Some b → step b t ≡ None → Offends before t
offends before t b e f = record {
  viable = viable before b e;
  stuck = λ v. clash (sym (ap is_some (ap finished (stuck_run before t v.0 b e f))) ∙ none_found ((before ++ t ∷ []) ++ v.0) v.1 v.2);
}
