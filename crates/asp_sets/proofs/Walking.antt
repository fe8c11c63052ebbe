-- How the names and numbers of a program that a text has are spelled.
use Rattle.std.proofs.Common.{ℕ, ◌≡◌, refl, ◌∙◌, ap, subst, inl, inr, Bool, true, false, not, ◌&&◌, List, [], ◌∷◌, codes}
use Rattle.std.specs.Prelude.{ℤ, Option, Some, None}
use Rattle.std.specs.List.{list_all}
use Rattle.asp_defs.specs.declared.syntax.Term.{Term}
use Rattle.asp_defs.specs.declared.syntax.Term.TheVariants.{Int, Sym, Var, Anon, Range}
use Rattle.asp_defs.specs.declared.syntax.Atom.{Atom}
use Rattle.asp_defs.specs.declared.syntax.Literal.{Literal}
use Rattle.asp_defs.specs.declared.syntax.Literal.TheVariants.{Pos, Neg, Cmp}
use Rattle.asp_defs.specs.declared.syntax.Element.{Element}
use Rattle.asp_defs.specs.declared.syntax.Head.{Head}
use Rattle.asp_defs.specs.declared.syntax.Head.TheVariants.{Disj, Choice}
use Rattle.asp_defs.specs.declared.syntax.Rule.{Rule}
use Rattle.asp_defs.specs.declared.syntax.Part.{Part}
use Rattle.asp_defs.specs.declared.syntax.Program.{Program}
use Rattle.asp_defs.specs.Tokens.{Token, DirectiveToken, NotToken, NameToken, VariableToken, AnonymousToken, NumberToken, MinusToken, ArrowToken, ColonToken, DotToken, DotsToken, LeftParenToken, RightParenToken, LeftBraceToken, RightBraceToken, without_places, is_in_range, is_bad_number}
use Rattle.asp_defs.specs.Grammar.{Production, AllAt, JoinedAt, AnyJoinedAt, is_comma, is_semicolon, is_or, TermAt, WideTermAt, ArgumentsAt, PredicateAt, AtomWithAt, AtomAt, LiteralAt, BodyAt, SignedBodyAt, ElementAt, BoundAt, HeadAt, StatementAt, quant_word, LevelAt, ConstraintPartAt, IsText}
use Rattle.asp_defs.proofs.Lists.{both, and_true}
use Rattle.asp_print.proofs.Shapes.{is_name, is_spelled, is_formed, tokens_formed}
use Rattle.asp_print.proofs.Reprints.{Formed, formed_rest}
use Rattle.asp_sets.proofs.Spelling.{is_word, name_word, minus_word}

-- ---- parts of a program that a text can have

abbrev pub spelled_term : Term → Bool
spelled_term (Int x) = is_in_range x
spelled_term (Sym s) = is_name s
spelled_term (Var v) = true
spelled_term (Anon k) = true
spelled_term (Range low high) = is_in_range low && is_in_range high

abbrev pub spelled_atom : Atom → Bool
spelled_atom a = is_word a.name && list_all spelled_term a.args

abbrev pub spelled_literal : Literal → Bool
spelled_literal (Pos a) = spelled_atom a
spelled_literal (Neg a) = spelled_atom a
spelled_literal (Cmp x op y) = spelled_term x && spelled_term y

abbrev pub spelled_element : Element → Bool
spelled_element e = spelled_atom e.atom && list_all spelled_literal e.cond

abbrev pub spelled_head : Head → Bool
spelled_head (Disj atoms) = list_all spelled_atom atoms
spelled_head (Choice low elements high) = list_all spelled_element elements

abbrev pub spelled_rule : Rule → Bool
spelled_rule r = spelled_head r.head && list_all spelled_literal r.body

abbrev pub spelled_level : Part → Bool
spelled_level part = list_all spelled_rule part.rules

-- ---- tokens

formed_name : (s : List ℕ) → is_formed (NameToken s) ≡ true → is_name s ≡ true
formed_name s h = (both (is_spelled (NameToken s)) (not (is_bad_number (NameToken s))) h).0

formed_number : (x : ℤ) → is_formed (NumberToken x) ≡ true → is_in_range x ≡ true
formed_number x h = not_not (is_in_range x) (both (is_spelled (NumberToken x)) (not (is_bad_number (NumberToken x))) h).1
  where
    not_not : (b : Bool) → not (not b) ≡ true → b ≡ true
    not_not true e = refl
    not_not false e = e

-- ---- the grammar: a part that formed tokens begin with passes, and formed tokens follow it

abbrev pub Walks : {A : Type 0} → (A → Bool) → Production A → Type 0
Walks {A} test At = (x : A) (ts rest : List Token) → At x ts rest → Formed ts → (test x ≡ true) × Formed rest

behind_token : (t : Token) (ts us : List Token) → us ≡ t ∷ ts → Formed us → Formed ts
behind_token t ts us e h = (formed_rest t ts us e h).1

walk_all : {A : Type 0} (test : A → Bool) (At : Production A) → Walks test At → Walks (list_all test) (AllAt At)
walk_all test At one [] ts rest e h = (refl, subst Formed e h)
walk_all test At one (x ∷ xs) ts rest (mid, first, more) h =
    let here = one x ts mid first h in
    let others = walk_all test At one xs mid rest more here.1 in
    (and_true (test x) (list_all test xs) here.0 others.0, others.1)

walk_joined : {A : Type 0} (test : A → Bool) (At : Production A) (joins : Token → Bool) → Walks test At → Walks (list_all test) (JoinedAt joins At)
walk_joined test At joins one [] ts rest none h = absurd none
walk_joined test At joins one (x ∷ []) ts rest first h =
    let here = one x ts rest first h in (and_true (test x) true here.0 refl, here.1)
walk_joined test At joins one (x ∷ y ∷ more) ts rest (sign, mid, j, first, others) h =
    let here = one x ts (sign ∷ mid) first h in
    let behind = walk_joined test At joins one (y ∷ more) mid rest others (behind_token sign mid (sign ∷ mid) refl here.1) in
    (and_true (test x) (list_all test (y ∷ more)) here.0 behind.0, behind.1)

walk_any : {A : Type 0} (test : A → Bool) (At : Production A) (joins : Token → Bool) → Walks test At → Walks (list_all test) (AnyJoinedAt joins At)
walk_any test At joins one [] ts rest e h = (refl, subst Formed e h)
walk_any test At joins one (x ∷ xs) ts rest more h = walk_joined test At joins one (x ∷ xs) ts rest more h

walk_term : Walks spelled_term TermAt
walk_term (Int x) ts rest e h = let parts = formed_rest (NumberToken x) rest ts e h in (formed_number x parts.0, parts.1)
walk_term (Sym s) ts rest e h = let parts = formed_rest (NameToken s) rest ts e h in (formed_name s parts.0, parts.1)
walk_term (Var v) ts rest e h = (refl, behind_token (VariableToken v) rest ts e h)
walk_term (Anon k) ts rest e h = (refl, behind_token AnonymousToken rest ts e h)
walk_term (Range low high) ts rest e h = absurd e

walk_wide_term : Walks spelled_term WideTermAt
walk_wide_term (Int x) ts rest e h = walk_term (Int x) ts rest e h
walk_wide_term (Sym s) ts rest e h = walk_term (Sym s) ts rest e h
walk_wide_term (Var v) ts rest e h = walk_term (Var v) ts rest e h
walk_wide_term (Anon k) ts rest e h = walk_term (Anon k) ts rest e h
walk_wide_term (Range low high) ts rest e h =
    let first = formed_rest (NumberToken low) (DotsToken ∷ NumberToken high ∷ rest) ts e h in
    let sign = behind_token DotsToken (NumberToken high ∷ rest) (DotsToken ∷ NumberToken high ∷ rest) refl first.1 in
    let second = formed_rest (NumberToken high) rest (NumberToken high ∷ rest) refl sign in
    (and_true (is_in_range low) (is_in_range high) (formed_number low first.0) (formed_number high second.0), second.1)

walk_predicate : Walks is_word PredicateAt
walk_predicate name ts rest (inl e) h = let parts = formed_rest (NameToken name) rest ts e h in (name_word name (formed_name name parts.0), parts.1)
walk_predicate name ts rest (inr (plain, n, e)) h =
    let first = behind_token MinusToken (NameToken plain ∷ rest) ts e h in
    let parts = formed_rest (NameToken plain) rest (NameToken plain ∷ rest) refl first in
    (ap is_word n ∙ minus_word plain (formed_name plain parts.0), parts.1)

walk_arguments : (At : Production Term) → Walks spelled_term At → Walks (list_all spelled_term) (ArgumentsAt At)
walk_arguments At one args ts rest (inl (none, e)) h = (ap (list_all spelled_term) none, subst Formed e h)
walk_arguments At one args ts rest (inr (mid, e, inside)) h =
    let terms = walk_any spelled_term At is_comma one args mid (RightParenToken ∷ rest) inside (behind_token LeftParenToken mid ts e h) in
    (terms.0, behind_token RightParenToken rest (RightParenToken ∷ rest) refl terms.1)

walk_atom_with : (At : Production Term) → Walks spelled_term At → Walks spelled_atom (AtomWithAt At)
walk_atom_with At one a ts rest (mid, name, args) h =
    let first = walk_predicate a.name ts mid name h in
    let second = walk_arguments At one a.args mid rest args first.1 in
    (and_true (is_word a.name) (list_all spelled_term a.args) first.0 second.0, second.1)

walk_atom : Walks spelled_atom AtomAt
walk_atom = walk_atom_with TermAt walk_term

walk_literal : Walks spelled_literal LiteralAt
walk_literal (Pos a) ts rest at h = walk_atom a ts rest at h
walk_literal (Neg a) ts rest (mid, e, at) h = walk_atom a mid rest at (behind_token NotToken mid ts e h)
walk_literal (Cmp x op y) ts rest (sign, mid, o, left, right) h =
    let first = walk_term x ts (sign ∷ mid) left h in
    let second = walk_term y mid rest right (behind_token sign mid (sign ∷ mid) refl first.1) in
    (and_true (spelled_term x) (spelled_term y) first.0 second.0, second.1)

walk_body : Walks (list_all spelled_literal) BodyAt
walk_body = walk_any spelled_literal LiteralAt is_comma walk_literal

walk_signed : (sign : Token) → Walks (list_all spelled_literal) (SignedBodyAt sign)
walk_signed sign body ts rest (inl (none, e)) h = (ap (list_all spelled_literal) none, subst Formed e h)
walk_signed sign body ts rest (inr (mid, e, inside)) h = walk_body body mid rest inside (behind_token sign mid ts e h)

walk_element : Walks spelled_element ElementAt
walk_element e ts rest (mid, atom, cond) h =
    let first = walk_atom e.atom ts mid atom h in
    let second = walk_signed ColonToken e.cond mid rest cond first.1 in
    (and_true (spelled_atom e.atom) (list_all spelled_literal e.cond) first.0 second.0, second.1)

behind_bound : (bound : Option ℤ) (ts rest : List Token) → BoundAt bound ts rest → Formed ts → Formed rest
behind_bound None ts rest e h = subst Formed e h
behind_bound (Some x) ts rest e h = behind_token (NumberToken x) rest ts e h

walk_head : Walks spelled_head HeadAt
walk_head (Disj atoms) ts rest at h = walk_joined spelled_atom AtomAt is_or walk_atom atoms ts rest at h
walk_head (Choice low elements high) ts rest (mid, closed, l, inside, u) h =
    let first = behind_token LeftBraceToken mid (LeftBraceToken ∷ mid) refl (behind_bound low ts (LeftBraceToken ∷ mid) l h) in
    let found = walk_any spelled_element ElementAt is_semicolon walk_element elements mid (RightBraceToken ∷ closed) inside first in
    (found.0, behind_bound high closed rest u (behind_token RightBraceToken closed (RightBraceToken ∷ closed) refl found.1))

behind_dot : (rest : List Token) → Formed (DotToken ∷ rest) → Formed rest
behind_dot rest h = behind_token DotToken rest (DotToken ∷ rest) refl h

walk_statement : Walks spelled_rule StatementAt
walk_statement r ts rest (n, inl (a, eh, eb, at)) h =
    let atom = walk_atom_with WideTermAt walk_wide_term a ts (DotToken ∷ rest) at h in (
      and_true (spelled_head r.head) (list_all spelled_literal r.body) (ap spelled_head eh ∙ and_true (spelled_atom a) true atom.0 refl) (ap (list_all spelled_literal) eb),
      behind_dot rest atom.1,
    )
walk_statement r ts rest (n, inr (inl (mid, head, body))) h =
    let first = walk_head r.head ts mid head h in
    let second = walk_signed ArrowToken r.body mid (DotToken ∷ rest) body first.1 in
    (and_true (spelled_head r.head) (list_all spelled_literal r.body) first.0 second.0, behind_dot rest second.1)
walk_statement r ts rest (n, inr (inr (mid, eh, e, body))) h =
    let inside = walk_body r.body mid (DotToken ∷ rest) body (behind_token ArrowToken mid ts e h) in
    (and_true (spelled_head r.head) (list_all spelled_literal r.body) (ap spelled_head eh) inside.0, behind_dot rest inside.1)

walk_level : Walks spelled_level LevelAt
walk_level part ts rest (mid, e, rules) h =
    walk_all spelled_rule StatementAt walk_statement part.rules mid rest rules (behind_token (DirectiveToken (quant_word part.quant)) mid ts e h)

walk_constraint_part : Walks (list_all spelled_rule) ConstraintPartAt
walk_constraint_part cons ts rest (inl (none, e)) h = (ap (list_all spelled_rule) none, subst Formed e h)
walk_constraint_part cons ts rest (inr (mid, e, rules)) h =
    walk_all spelled_rule StatementAt walk_statement cons mid rest rules (behind_token (DirectiveToken (codes "constraint")) mid ts e h)

-- the levels and the constraint part of a text's program
pub text_spelled : (bytes : List ℕ) (p : Program) → IsText bytes p → (list_all spelled_level p.levels ≡ true) × (list_all spelled_rule p.cons ≡ true)
text_spelled bytes p (ts, e, (mid, some, levels, cons)) =
    let first = walk_all spelled_level LevelAt walk_level p.levels (without_places ts) mid levels (tokens_formed bytes ts e) in
    (first.0, (walk_constraint_part p.cons mid [] cons first.1).0)
