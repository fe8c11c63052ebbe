-- A program's last token is a directive or a full stop: each production takes a front of the tokens, and the last that is
-- taken is the full stop of a statement or a directive.
use Rattle.std.proofs.Common.{◌≡◌, refl, sym, ◌∙◌, ap, subst, inl, inr, Bool, false, not, List, [], ◌∷◌, ◌++◌, append_assoc, codes}
use Rattle.std.specs.Prelude.{IsTrue, None, Some}
use Rattle.asp_defs.specs.declared.syntax.Term.{Term}
use Rattle.asp_defs.specs.declared.syntax.Term.TheVariants.{Int, Sym, Var, Anon, Range}
use Rattle.asp_defs.specs.declared.syntax.Literal.TheVariants.{Pos, Neg, Cmp}
use Rattle.asp_defs.specs.declared.syntax.Head.TheVariants.{Disj, Choice}
use Rattle.asp_defs.specs.declared.syntax.Rule.{Rule}
use Rattle.asp_defs.specs.declared.syntax.Part.{Part}
use Rattle.asp_defs.specs.Lists.{is_empty}
use Rattle.asp_defs.specs.Tokens.{Token, DirectiveToken, NameToken, MinusToken, DotToken, ArrowToken, LeftParenToken, RightParenToken, LeftBraceToken, RightBraceToken, NumberToken, DotsToken}
use Rattle.asp_defs.specs.Grammar.{Production, AllAt, JoinedAt, AnyJoinedAt, is_comma, is_semicolon, is_or, TermAt, WideTermAt, ArgumentsAt, PredicateAt, AtomWithAt, LiteralAt, BodyAt, SignedBodyAt, ElementAt, BoundAt, HeadAt, StatementAt, quant_word, LevelAt, ConstraintPartAt}
use Rattle.asp_defs.specs.TextRefusals.{statement_after, IsNoProgram}
use Rattle.asp_defs.specs.TextLaws.{EndsProgram, ProgramsEnd}
use Rattle.asp_defs.proofs.TextRefutations.{clash}

-- the rest follows some tokens
abbrev Follows : List Token → List Token → Type 0
Follows ts rest = (front : List Token) × (ts ≡ front ++ rest)

same : {ts rest : List Token} → ts ≡ rest → Follows ts rest
same e = ([], e)

behind : (t : Token) {ts mid rest : List Token} → ts ≡ t ∷ mid → Follows mid rest → Follows ts rest
behind t e (front, f) = (t ∷ front, e ∙ ap (λ us. t ∷ us) f)

through : {ts mid rest : List Token} → Follows ts mid → Follows mid rest → Follows ts rest
through {rest = rest} (front, e) (next, f) = (front ++ next, e ∙ ap (λ us. front ++ us) f ∙ sym (append_assoc front next rest))

-- a production takes a front
abbrev Takes : {A : Type 0} → Production A → Type 0
Takes {A} At = (x : A) (ts rest : List Token) → At x ts rest → Follows ts rest

all_take : {A : Type 0} {At : Production A} → Takes At → Takes (AllAt At)
all_take take [] ts rest e = same e
all_take {At = At} take (x ∷ xs) ts rest (mid, h, more) = through (take x ts mid h) (all_take take xs mid rest more)

joined_take : {A : Type 0} (joins : Token → Bool) {At : Production A} → Takes At → Takes (JoinedAt joins At)
joined_take joins take [] ts rest h = absurd h
joined_take joins take (x ∷ []) ts rest h = take x ts rest h
joined_take joins take (x ∷ y ∷ more) ts rest (sign, mid, j, h, others) =
    through (take x ts (sign ∷ mid) h) (behind sign refl (joined_take joins take (y ∷ more) mid rest others))

any_take : {A : Type 0} (joins : Token → Bool) {At : Production A} → Takes At → Takes (AnyJoinedAt joins At)
any_take joins take [] ts rest e = same e
any_take joins take (x ∷ xs) ts rest h = joined_take joins take (x ∷ xs) ts rest h

term_takes : Takes TermAt
term_takes (Int x) ts rest e = behind _ e (same refl)
term_takes (Sym s) ts rest e = behind _ e (same refl)
term_takes (Var v) ts rest e = behind _ e (same refl)
term_takes (Anon k) ts rest e = behind _ e (same refl)
term_takes (Range low high) ts rest e = absurd e

wide_term_takes : Takes WideTermAt
wide_term_takes (Int x) ts rest e = behind _ e (same refl)
wide_term_takes (Sym s) ts rest e = behind _ e (same refl)
wide_term_takes (Var v) ts rest e = behind _ e (same refl)
wide_term_takes (Anon k) ts rest e = behind _ e (same refl)
wide_term_takes (Range low high) ts rest e = (NumberToken low ∷ DotsToken ∷ NumberToken high ∷ [], e)

arguments_take : {At : Production Term} → Takes At → Takes (ArgumentsAt At)
arguments_take take args ts rest (inl (none, e)) = same e
arguments_take take args ts rest (inr (mid, e, terms)) =
    behind LeftParenToken e (through (any_take is_comma take args mid (RightParenToken ∷ rest) terms) (behind RightParenToken refl (same refl)))

predicate_takes : Takes PredicateAt
predicate_takes name ts rest (inl e) = behind _ e (same refl)
predicate_takes name ts rest (inr (bare, n, e)) = (MinusToken ∷ NameToken bare ∷ [], e)

atom_takes : {At : Production Term} → Takes At → Takes (AtomWithAt At)
atom_takes take a ts rest (mid, n, args) = through (predicate_takes a.name ts mid n) (arguments_take take a.args mid rest args)

literal_takes : Takes LiteralAt
literal_takes (Pos a) ts rest h = atom_takes term_takes a ts rest h
literal_takes (Neg a) ts rest (mid, e, h) = behind _ e (atom_takes term_takes a mid rest h)
literal_takes (Cmp x op y) ts rest (sign, mid, o, left, right) =
    through (term_takes x ts (sign ∷ mid) left) (behind sign refl (term_takes y mid rest right))

body_takes : Takes BodyAt
body_takes = any_take is_comma literal_takes

signed_takes : (sign : Token) → Takes (SignedBodyAt sign)
signed_takes sign body ts rest (inl (none, e)) = same e
signed_takes sign body ts rest (inr (mid, e, h)) = behind sign e (body_takes body mid rest h)

element_takes : Takes ElementAt
element_takes e ts rest (mid, atom, cond) = through (atom_takes term_takes e.atom ts mid atom) (signed_takes _ e.cond mid rest cond)

bound_takes : Takes BoundAt
bound_takes None ts rest e = same e
bound_takes (Some x) ts rest e = behind _ e (same refl)

head_takes : Takes HeadAt
head_takes (Disj atoms) ts rest h = joined_take is_or (atom_takes term_takes) atoms ts rest h
head_takes (Choice low elements high) ts rest (mid, closed, l, h, u) =
    through (bound_takes low ts (LeftBraceToken ∷ mid) l) (behind LeftBraceToken refl
    (through (any_take is_semicolon element_takes elements mid (RightBraceToken ∷ closed) h) (behind RightBraceToken refl (bound_takes high closed rest u))))

-- a statement takes a front and the full stop behind it
statement_takes : (r : Rule) (ts rest : List Token) → StatementAt r ts rest → Follows ts (DotToken ∷ rest)
statement_takes r ts rest (n, inl (a, eh, eb, fact)) = atom_takes wide_term_takes a ts (DotToken ∷ rest) fact
statement_takes r ts rest (n, inr (inl (mid, head, body))) =
    through (head_takes r.head ts mid head) (signed_takes ArrowToken r.body mid (DotToken ∷ rest) body)
statement_takes r ts rest (n, inr (inr (mid, eh, e, body))) = behind ArrowToken e (body_takes r.body mid (DotToken ∷ rest) body)

-- ---- what is taken ends with a directive or a full stop

-- the rest follows a directive or a full stop, or nothing was taken
abbrev Ends : List Token → List Token → Type 0
Ends ts rest = (t : Token) × IsTrue (statement_after t) × Follows ts (t ∷ rest)

further : {ts mid rest : List Token} → Follows ts mid → Ends mid rest → Ends ts rest
further front (t, good, tail) = (t, good, through front tail)

unmoved : {ts mid rest : List Token} → Ends ts mid → mid ≡ rest → Ends ts rest
unmoved {ts} end e = subst (λ us. Ends ts us) e end

statements_end : (t : Token) → IsTrue (statement_after t) → (rules : List Rule) (mid rest : List Token) → AllAt StatementAt rules mid rest → Ends (t ∷ mid) rest
statements_end t good [] mid rest e = (t, good, ([], ap (λ us. t ∷ us) e))
statements_end t good (r ∷ rules) mid rest (next, s, more) =
    further (behind t refl (statement_takes r mid next s)) (statements_end DotToken refl rules next rest more)

level_ends : (part : Part) (ts rest : List Token) → LevelAt part ts rest → Ends ts rest
level_ends part ts rest (mid, e, rules) =
    subst (λ us. Ends us rest) (sym e) (statements_end (DirectiveToken (quant_word part.quant)) refl part.rules mid rest rules)

levels_end : (part : Part) (parts : List Part) (ts rest : List Token) → AllAt LevelAt (part ∷ parts) ts rest → Ends ts rest
levels_end part [] ts rest (mid, l, e) = unmoved (level_ends part ts mid l) e
levels_end part (next ∷ parts) ts rest (mid, l, more) = further (whole (level_ends part ts mid l)) (levels_end next parts mid rest more)
  where
    whole : Ends ts mid → Follows ts mid
    whole (t, good, tail) = through tail (behind t refl (same refl))

cons_ends : (ts mid : List Token) → Ends ts mid → (cons : List Rule) → ConstraintPartAt cons mid [] → Ends ts []
cons_ends ts mid end cons (inl (none, e)) = unmoved end e
cons_ends ts mid (t, good, tail) cons (inr (next, e, rules)) =
    further (through tail (behind t refl (same e))) (statements_end (DirectiveToken (codes "constraint")) refl cons next [] rules)

some_end : (parts : List Part) (cons : List Rule) (ts mid : List Token) → IsTrue (not (is_empty parts)) → AllAt LevelAt parts ts mid → ConstraintPartAt cons mid [] → Ends ts []
some_end [] cons ts mid some h c = clash some
some_end (part ∷ parts) cons ts mid some h c = cons_ends ts mid (levels_end part parts ts mid h) cons c

pub programs_end : ProgramsEnd
programs_end ts p (mid, some, levels, cons) = some_end p.levels p.cons ts mid some levels cons

-- whether the last of tokens is a directive or a full stop
abbrev closes : List Token → Bool
closes [] = false
closes (t ∷ []) = statement_after t
closes (t ∷ u ∷ ts) = closes (u ∷ ts)

closes_last : (front : List Token) (t : Token) → closes (front ++ t ∷ []) ≡ statement_after t
closes_last [] t = refl
closes_last (u ∷ []) t = refl
closes_last (u ∷ v ∷ front) t = closes_last (v ∷ front) t

no_end : (ts : List Token) → closes ts ≡ false → EndsProgram ts → ⊥
no_end ts other (t, good, (front, e)) = clash (sym other ∙ ap closes e ∙ closes_last front t ∙ good)

-- tokens that end otherwise are no program
pub not_ended : (ts : List Token) → closes ts ≡ false → IsNoProgram ts
not_ended ts other p h = no_end ts other (programs_end ts p h)
