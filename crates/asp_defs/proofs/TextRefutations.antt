-- Refutations: tokens with which no program begins, by the token that comes first, or behind a directive, or behind a name.
use Rattle.std.proofs.Common.{ℕ, ℤ, ◌≡◌, ◌⊎◌, refl, sym, ◌∙◌, ap, subst, inl, inr, Bool, true, false, not, ◌||◌, List, [], ◌∷◌, drop, codes}
use Rattle.std.specs.Prelude.{IsTrue, bytes_eq, Option, None, Some}
use Rattle.asp_defs.specs.declared.syntax.Quant.{Quant}
use Rattle.asp_defs.specs.declared.syntax.Quant.TheVariants.{Exists, Forall}
use Rattle.asp_defs.specs.declared.syntax.Term.{Term}
use Rattle.asp_defs.specs.declared.syntax.Atom.{Atom}
use Rattle.asp_defs.specs.declared.syntax.Literal.{Literal}
use Rattle.asp_defs.specs.declared.syntax.Head.{Head}
use Rattle.asp_defs.specs.declared.syntax.Head.TheVariants.{Disj, Choice}
use Rattle.asp_defs.specs.declared.syntax.Rule.{Rule}
use Rattle.asp_defs.specs.declared.syntax.Part.{Part}
use Rattle.asp_defs.specs.declared.syntax.Program.{Program}
use Rattle.asp_defs.specs.Tokens.{Token, DirectiveToken, NameToken, NumberToken, MinusToken, ArrowToken, DotToken, SemicolonToken, BarToken, LeftParenToken, LeftBraceToken}
use Rattle.asp_defs.specs.Grammar.{Production, AllAt, JoinedAt, is_or, TermAt, WideTermAt, ArgumentsAt, PredicateAt, AtomWithAt, AtomAt, BoundAt, HeadAt, SignedBodyAt, StatementAt, quant_word, LevelAt, ConstraintPartAt, IsProgram}
use Rattle.asp_defs.specs.Lists.{is_empty}
use Rattle.asp_defs.specs.TextRefusals.{IsViable}

abbrev no_more : Bool → Type 0
no_more true = ⊥
no_more false = Unit {0}

-- a test that fails doesn't pass
pub clash : {A : Type 0} → false ≡ true → A
clash e = absurd (subst no_more e tt)

-- whether tokens begin with one that passes a test
abbrev pub begins : (Token → Bool) → List Token → Bool
begins p [] = false
begins p (t ∷ ts) = p t

-- ---- what a statement begins with

-- what a name or a minus does, an atom's name does
pub predicate_begins : (p : Token → Bool) (v : Bool) → ((n : List ℕ) → p (NameToken n) ≡ v) → p MinusToken ≡ v → (name : List ℕ) (ts rest : List Token) → PredicateAt name ts rest → begins p ts ≡ v
predicate_begins p v names minus name ts rest (inl e) = ap (begins p) e ∙ names name
predicate_begins p v names minus name ts rest (inr (bare, n, e)) = ap (begins p) e ∙ minus

-- what an opening brace or a number does, a lower bound with the brace behind it does
pub low_begins : (p : Token → Bool) (v : Bool) → ((x : ℤ) → p (NumberToken x) ≡ v) → p LeftBraceToken ≡ v → (low : Option ℤ) (ts rest : List Token) → BoundAt low ts (LeftBraceToken ∷ rest) → begins p ts ≡ v
low_begins p v numbers brace None ts rest e = ap (begins p) e ∙ brace
low_begins p v numbers brace (Some x) ts rest e = ap (begins p) e ∙ numbers x

abbrev pub opens_statement : Token → Bool
opens_statement (NameToken n) = true
opens_statement MinusToken = true
opens_statement (NumberToken x) = true
opens_statement LeftBraceToken = true
opens_statement ArrowToken = true
opens_statement other = false

joined_begins : (joins : Token → Bool) (atoms : List Atom) (ts rest : List Token) → JoinedAt joins AtomAt atoms ts rest → begins opens_statement ts ≡ true
joined_begins joins [] ts rest h = absurd h
joined_begins joins (a ∷ []) ts rest (mid, n, args) = predicate_begins opens_statement true (λ m. refl) refl a.name ts mid n
joined_begins joins (a ∷ b ∷ more) ts rest (sign, next, j, (mid, n, args), others) = predicate_begins opens_statement true (λ m. refl) refl a.name ts mid n

head_begins : (head : Head) (ts rest : List Token) → HeadAt head ts rest → begins opens_statement ts ≡ true
head_begins (Disj atoms) ts rest h = joined_begins is_or atoms ts rest h
head_begins (Choice low elements high) ts rest (mid, closed, l, more, u) = low_begins opens_statement true (λ x. refl) refl low ts mid l

pub statement_begins : (r : Rule) (ts rest : List Token) → StatementAt r ts rest → begins opens_statement ts ≡ true
statement_begins r ts rest (n, inl (a, eh, eb, (mid, p, args))) = predicate_begins opens_statement true (λ m. refl) refl a.name ts mid p
statement_begins r ts rest (n, inr (inl (mid, h, body))) = head_begins r.head ts mid h
statement_begins r ts rest (n, inr (inr (mid, eh, e, body))) = ap (begins opens_statement) e

pub statements_begin : (rules : List Rule) (ts rest : List Token) → AllAt StatementAt rules ts rest → (ts ≡ rest) ⊎ (begins opens_statement ts ≡ true)
statements_begin [] ts rest e = inl e
statements_begin (r ∷ rules) ts rest (mid, s, more) = inr (statement_begins r ts mid s)

-- ---- what a level begins with

abbrev pub opens_level : Token → Bool
opens_level (DirectiveToken word) = bytes_eq word (codes "exists") || bytes_eq word (codes "forall")
opens_level other = false

quant_opens : (q : Quant) → opens_level (DirectiveToken (quant_word q)) ≡ true
quant_opens Exists = refl
quant_opens Forall = refl

pub level_begins : (part : Part) (ts rest : List Token) → LevelAt part ts rest → begins opens_level ts ≡ true
level_begins part ts rest (mid, e, rules) = ap (begins opens_level) e ∙ quant_opens part.quant

pub levels_begin : (parts : List Part) (ts rest : List Token) → AllAt LevelAt parts ts rest → (ts ≡ rest) ⊎ (begins opens_level ts ≡ true)
levels_begin [] ts rest e = inl e
levels_begin (part ∷ parts) ts rest (mid, l, more) = inr (level_begins part ts mid l)

-- a program begins with a level's directive
some_level_begins : (parts : List Part) (ts rest : List Token) → IsTrue (not (is_empty parts)) → AllAt LevelAt parts ts rest → begins opens_level ts ≡ true
some_level_begins [] ts rest some h = clash some
some_level_begins (part ∷ parts) ts rest some (mid, l, more) = level_begins part ts mid l

pub program_begins : (ts : List Token) (p : Program) → IsProgram ts p → begins opens_level ts ≡ true
program_begins ts p (mid, some, levels, cons) = some_level_begins p.levels ts mid some levels

-- no program begins with another token
pub no_first : (t : Token) → opens_level t ≡ false → IsViable (t ∷ []) → ⊥
no_first t wrong (more, p, h) = clash (sym wrong ∙ program_begins (t ∷ more) p h)

-- ---- what follows a first directive

-- what may stand behind statements: a statement, a directive, or nothing
abbrev continues : Token → Bool
continues (DirectiveToken word) = true
continues (NameToken n) = true
continues MinusToken = true
continues (NumberToken x) = true
continues LeftBraceToken = true
continues ArrowToken = true
continues other = false

-- the tokens behind the directive of a program's first level: statements, and what follows the level
record Split (ts : List Token) (p : Program) : Type 0 where
  part : Part
  parts : List Part
  behind : List Token
  mid : List Token
  rules : AllAt StatementAt part.rules (drop 1 ts) behind
  levels : AllAt LevelAt parts behind mid
  cons : ConstraintPartAt p.cons mid []

split_levels : (levels : List Part) (cons : List Rule) (ts mid : List Token) → IsTrue (not (is_empty levels)) → AllAt LevelAt levels ts mid → ConstraintPartAt cons mid [] → (p : Program) → p.cons ≡ cons → Split ts p
split_levels [] cons ts mid some h c p e = clash some
split_levels (part ∷ parts) cons ts mid some (behind, (first, opened, rules), more) c p e = record {
  part = part;
  parts = parts;
  behind = behind;
  mid = mid;
  rules = subst (λ us. AllAt StatementAt part.rules us behind) (sym (ap (drop 1) opened)) rules;
  levels = more;
  cons = subst (λ cs. ConstraintPartAt cs mid []) (sym e) c;
}

split_program : (ts : List Token) (p : Program) → IsProgram ts p → Split ts p
split_program ts p (mid, some, levels, cons) = split_levels p.levels p.cons ts mid some levels cons p refl

-- what follows a level is nothing or a directive
abbrev opens_part : Token → Bool
opens_part (DirectiveToken word) = true
opens_part other = false

constraint_part_begins : (cons : List Rule) (ts : List Token) → ConstraintPartAt cons ts [] → (ts ≡ []) ⊎ (begins opens_part ts ≡ true)
constraint_part_begins cons ts (inl (none, e)) = inl e
constraint_part_begins cons ts (inr (mid, e, rules)) = inr (ap (begins opens_part) e)

level_is_part : (part : Part) (ts rest : List Token) → LevelAt part ts rest → begins opens_part ts ≡ true
level_is_part part ts rest (mid, e, rules) = ap (begins opens_part) e

parts_begin : (parts : List Part) (cons : List Rule) (ts mid : List Token) → AllAt LevelAt parts ts mid → ConstraintPartAt cons mid [] → (ts ≡ []) ⊎ (begins opens_part ts ≡ true)
parts_begin [] cons ts mid e c = subst (λ us. (us ≡ []) ⊎ (begins opens_part us ≡ true)) (sym e) (constraint_part_begins cons mid c)
parts_begin (part ∷ parts) cons ts mid (next, l, more) c = inr (level_is_part part ts next l)

statement_continues : (t : Token) → opens_statement t ≡ true → continues t ≡ true
statement_continues (NameToken n) e = refl
statement_continues MinusToken e = refl
statement_continues (NumberToken x) e = refl
statement_continues LeftBraceToken e = refl
statement_continues ArrowToken e = refl
statement_continues other e = clash e

part_continues : (t : Token) → opens_part t ≡ true → continues t ≡ true
part_continues (DirectiveToken word) e = refl
part_continues other e = clash e

behind_statements : (t : Token) (more behind : List Token) → (t ∷ more ≡ behind) → (behind ≡ []) ⊎ (begins opens_part behind ≡ true) → continues t ≡ true
behind_statements t more behind e (inl none) = clash (ap is_empty (e ∙ none))
behind_statements t more behind e (inr opens) = part_continues t (ap (begins opens_part) e ∙ opens)

first_behind : (t : Token) (more behind : List Token) → (t ∷ more ≡ behind) ⊎ (opens_statement t ≡ true) → (behind ≡ []) ⊎ (begins opens_part behind ≡ true) → continues t ≡ true
first_behind t more behind (inl e) next = behind_statements t more behind e next
first_behind t more behind (inr opens) next = statement_continues t opens

-- behind the directive of a first level stands a statement or a directive
second_continues : (d t : Token) (more : List Token) (p : Program) → IsProgram (d ∷ t ∷ more) p → continues t ≡ true
second_continues d t more p h =
    let s = split_program (d ∷ t ∷ more) p h in
    first_behind t more s.behind (statements_begin s.part.rules (t ∷ more) s.behind s.rules) (parts_begin s.parts p.cons s.behind s.mid s.levels s.cons)

-- no program has another token there
pub no_second : (d t : Token) → continues t ≡ false → IsViable (d ∷ t ∷ []) → ⊥
no_second d t wrong (more, p, h) = clash (sym wrong ∙ second_continues d t more p h)

-- ---- what follows a constraint part

no_level_behind : (more : List Token) (p : Program) (s : Split (DirectiveToken (codes "exists") ∷ DirectiveToken (codes "constraint") ∷ DirectiveToken (codes "forall") ∷ more) p) → (DirectiveToken (codes "constraint") ∷ DirectiveToken (codes "forall") ∷ more ≡ s.mid) → ConstraintPartAt p.cons s.mid [] → ⊥
no_level_behind more p s e (inl (none, f)) = clash (ap is_empty (e ∙ f))
no_level_behind more p s e (inr (next, f, rules)) = elim (statements_begin p.cons next [] rules) [
  | inl none ↦ clash (ap is_empty (ap (drop 1) (e ∙ f) ∙ none))
  | inr opens ↦ clash (ap (begins opens_statement) (ap (drop 1) (e ∙ f)) ∙ opens)
]

-- no level stands behind a constraint part
pub no_level_after : IsViable (DirectiveToken (codes "exists") ∷ DirectiveToken (codes "constraint") ∷ DirectiveToken (codes "forall") ∷ []) → ⊥
no_level_after (more, p, h) =
    let ts = DirectiveToken (codes "constraint") ∷ DirectiveToken (codes "forall") ∷ more in
    let s = split_program (DirectiveToken (codes "exists") ∷ ts) p h in
    elim (statements_begin s.part.rules ts s.behind s.rules) [
      | inr opens ↦ clash opens
      | inl e ↦ elim (levels_begin s.parts s.behind s.mid s.levels) [
        | inr opens ↦ clash (ap (begins opens_level) e ∙ opens)
        | inl f ↦ no_level_behind more p s (e ∙ f) s.cons
      ]
    ]

-- ---- what follows the first token of a statement

abbrev follows : Token → Bool
follows LeftParenToken = true
follows DotToken = true
follows ArrowToken = true
follows BarToken = true
follows SemicolonToken = true
follows other = false

abbrev is_name_token : Token → Bool
is_name_token (NameToken n) = true
is_name_token other = false

abbrev is_opening_brace : Token → Bool
is_opening_brace LeftBraceToken = true
is_opening_brace other = false

-- what may stand behind a name, a minus and a number at the beginning of a statement; the other tokens don't matter here
abbrev may_follow : Token → Token → Bool
may_follow (NameToken n) t = follows t
may_follow MinusToken t = is_name_token t
may_follow (NumberToken x) t = is_opening_brace t
may_follow other t = true

or_follows : (t : Token) → is_or t ≡ true → follows t ≡ true
or_follows BarToken e = refl
or_follows SemicolonToken e = refl
or_follows other e = clash e

arguments_follow : (At : Production Term) (args : List Term) (t : Token) (more rest : List Token) → ArgumentsAt At args (t ∷ more) rest → begins follows rest ≡ true → follows t ≡ true
arguments_follow At args t more rest (inl (none, e)) given = ap (begins follows) e ∙ given
arguments_follow At args t more rest (inr (mid, e, terms)) given = ap (begins follows) e

-- the first of tokens
abbrev first_of : List Token → Token
first_of [] = DotToken
first_of (t ∷ ts) = t

atom_follow : (At : Production Term) (a : Atom) (u t : Token) (more rest : List Token) → AtomWithAt At a (u ∷ t ∷ more) rest → begins follows rest ≡ true → may_follow u t ≡ true
atom_follow At a u t more rest (mid, inl e, args) given =
    ap (λ us. may_follow (first_of us) t) e
    ∙ arguments_follow At a.args t more rest (subst (λ us. ArgumentsAt At a.args us rest) (sym (ap (drop 1) e)) args) given
atom_follow At a u t more rest (mid, inr (bare, n, e), args) given =
    ap (λ us. may_follow (first_of us) (first_of (drop 1 us))) e

signed_follow : (body : List Literal) (mid rest : List Token) → SignedBodyAt ArrowToken body mid (DotToken ∷ rest) → begins follows mid ≡ true
signed_follow body mid rest (inl (none, e)) = ap (begins follows) e
signed_follow body mid rest (inr (next, e, literals)) = ap (begins follows) e

joined_follow : (atoms : List Atom) (u t : Token) (more mid : List Token) → JoinedAt is_or AtomAt atoms (u ∷ t ∷ more) mid → begins follows mid ≡ true → may_follow u t ≡ true
joined_follow [] u t more mid h given = absurd h
joined_follow (a ∷ []) u t more mid h given = atom_follow TermAt a u t more mid h given
joined_follow (a ∷ b ∷ others) u t more mid (sign, next, j, first, rest) given =
    atom_follow TermAt a u t more (sign ∷ next) first (or_follows sign j)

low_follow : (low : Option ℤ) (u t : Token) (more mid : List Token) → BoundAt low (u ∷ t ∷ more) (LeftBraceToken ∷ mid) → may_follow u t ≡ true
low_follow None u t more mid e = ap (λ us. may_follow (first_of us) t) e
low_follow (Some x) u t more mid e = ap (λ us. may_follow (first_of us) (first_of (drop 1 us))) e

head_follow : (head : Head) (u t : Token) (more mid : List Token) → HeadAt head (u ∷ t ∷ more) mid → begins follows mid ≡ true → may_follow u t ≡ true
head_follow (Disj atoms) u t more mid h given = joined_follow atoms u t more mid h given
head_follow (Choice low elements high) u t more mid (next, closed, l, rest, v) given = low_follow low u t more next l

statement_follow : (r : Rule) (u t : Token) (more rest : List Token) → StatementAt r (u ∷ t ∷ more) rest → may_follow u t ≡ true
statement_follow r u t more rest (n, inl (a, eh, eb, fact)) = atom_follow WideTermAt a u t more (DotToken ∷ rest) fact refl
statement_follow r u t more rest (n, inr (inl (mid, head, body))) = head_follow r.head u t more mid head (signed_follow r.body mid rest body)
statement_follow r u t more rest (n, inr (inr (mid, eh, e, body))) = ap (λ us. may_follow (first_of us) t) e

statements_follow : (rules : List Rule) (u t : Token) (more behind : List Token) → AllAt StatementAt rules (u ∷ t ∷ more) behind → opens_part u ≡ false → (behind ≡ []) ⊎ (begins opens_part behind ≡ true) → may_follow u t ≡ true
statements_follow [] u t more behind e closed (inl none) = clash (ap is_empty (e ∙ none))
statements_follow [] u t more behind e closed (inr opens) = clash (sym closed ∙ ap (begins opens_part) e ∙ opens)
statements_follow (r ∷ rules) u t more behind (mid, s, others) closed next = statement_follow r u t more mid s

-- no program has another token there
pub no_third : (d u t : Token) → opens_part u ≡ false → may_follow u t ≡ false → IsViable (d ∷ u ∷ t ∷ []) → ⊥
no_third d u t closed wrong (more, p, h) =
    let s = split_program (d ∷ u ∷ t ∷ more) p h in
    clash (sym wrong ∙ statements_follow s.part.rules u t more s.behind s.rules closed (parts_begin s.parts p.cons s.behind s.mid s.levels s.cons))
