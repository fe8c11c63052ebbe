-- One token of the machine, from behind: what makes the tree behind the token a program makes the tree before it one, with
-- the token in front.
use Rattle.std.proofs.Common.{◌≡◌, refl, sym, ◌∙◌, ap, subst, inl, inr, Bool, true, false, List, [], ◌∷◌, ◌++◌, append_assoc, append-nil, codes}
use Rattle.std.specs.Prelude.{ℕ, suc, ℤ, is_some, bytes_eq, if◌then◌else◌, Option, Some, None}
use Rattle.std.specs.List.{flat_map}
use Rattle.std.proofs.lemmas.Slice.Eq.{bytes_eq-Decides}
use Rattle.asp_defs.specs.Lists.{numbers_from}
use Rattle.asp_defs.specs.declared.syntax.Quant.{Quant}
use Rattle.asp_defs.specs.declared.syntax.Quant.TheVariants.{Exists, Forall}
use Rattle.asp_defs.specs.declared.syntax.Term.{Term}
use Rattle.asp_defs.specs.declared.syntax.Term.TheVariants.{Int, Sym, Var, Anon, Range}
use Rattle.asp_defs.specs.declared.syntax.Atom.{Atom}
use Rattle.asp_defs.specs.declared.syntax.Literal.TheVariants.{Pos, Neg, Cmp}
use Rattle.asp_defs.specs.declared.syntax.Head.{Head}
use Rattle.asp_defs.specs.declared.syntax.Head.TheVariants.{Disj, Choice}
use Rattle.asp_defs.specs.declared.syntax.Rule.{Rule}
use Rattle.asp_defs.specs.declared.syntax.Part.{Part}
use Rattle.asp_defs.specs.declared.syntax.Program.{Program}
use Rattle.asp_defs.specs.Tokens.{Token, DirectiveToken, NotToken, NameToken, VariableToken, AnonymousToken, NumberToken, MinusToken, ArrowToken, ColonToken, DotToken, DotsToken, CommaToken, SemicolonToken, BarToken, LeftParenToken, RightParenToken, LeftBraceToken, RightBraceToken, EqToken, NeToken, NeAngleToken, LtToken, LeToken, GtToken, GeToken}
use Rattle.asp_defs.specs.Grammar.{Production, AllAt, AnyJoinedAt, is_comma, is_semicolon, is_or, is_operator, TermAt, WideTermAt, ArgumentsAt, PredicateAt, AtomAt, LiteralAt, ElementAt, BoundAt, head_anonymous, atom_anonymous, StatementAt, quant_word}
use Rattle.asp_defs.proofs.Numbering.{make_atom, make_element, make_rule}
use Rattle.asp_defs.proofs.TextRefutations.{clash}
use Rattle.asp_grammar.specs.declared.state.Directive.{Directive}
use Rattle.asp_grammar.specs.declared.state.Directive.TheVariants.{Level, Constraint}
use Rattle.asp_grammar.specs.declared.state.Side.{Side}
use Rattle.asp_grammar.specs.declared.state.Side.TheVariants.{Body, Condition}
use Rattle.asp_grammar.specs.declared.state.Role.{Role}
use Rattle.asp_grammar.specs.declared.state.Role.TheVariants.{First, Wide, Further, Chosen, Positive, Negative}
use Rattle.asp_grammar.specs.declared.state.State.{State}
use Rattle.asp_grammar.specs.declared.state.State.TheVariants.{Start, Statement, NextHead, AfterHead, AfterFact, AfterLower, FirstElement, NextElement, AfterChosen, AfterChoice, AfterUpper, FirstLiteral, NextLiteral, AfterNot, AfterLeft, AfterOperator, AfterLiteral, AfterName, AfterMinus, AfterNegated, FirstArgument, NextArgument, AfterArgument, AfterNumber, AfterDots}
use Rattle.asp_grammar.specs.declared.tree.Tree.{Tree}
use Rattle.asp_grammar.specs.Machine.{directive_of, open_atoms, open_choice, close_choice, after_first, after_directive, first_directive, add_directive, behind, bare_atom, whole_atom, add_atom, add_bare, add_whole, add_argument, add_name, op_of, is_operator_sign, next_start, next_statement, next_atom, next_head, next_fact, next_lower, next_first_element, next_chosen, next_upper, next_choice, next_literal, next_close, next_first_literal, next_after_literal, next_left, next_right, next_behind, next_bare, next_name, next_minus, next_negated, next_argument, next_first_argument, next_after_argument, next_dots, next_number, next_high, next_state, add_start, add_statement, add_head, add_chosen, add_upper, add_choice, add_literal, add_close, add_first_literal, add_right, add_behind, add_bare_name, add_after_name, add_negated, add_after_negated, add_next_argument, add_first_argument, add_after_argument, add_after_number, add_high, add}
use Rattle.asp_grammar.proofs.Rests.{Rest, Next, Any, rest_close, any_close, rest_next, any_next, joined, atom_frame, rule_frame, Between, Dotted, HeadEnd, ElementsEnd, LiteralsEnd, Compared, AtomEnd, Ways, ArgumentsEnd, NameEnd, Dots, Interval, Completes, Then}
use Rattle.asp_grammar.proofs.Numbers.{numbered, Counts, counts_bare}

-- ---- directives

-- the word of a directive
abbrev word_of : Directive → List ℕ
word_of (Level quant) = quant_word quant
word_of Constraint = codes "constraint"

abbrev word_of_some : Option Directive → List ℕ
word_of_some None = []
word_of_some (Some d) = word_of d

words_by : (a b c : Bool) (word : List ℕ) (d : Directive) → (a ≡ true → word ≡ codes "exists") → (b ≡ true → word ≡ codes "forall") → (c ≡ true → word ≡ codes "constraint") → (if a then Some (Level Exists) else if b then Some (Level Forall) else if c then Some Constraint else None) ≡ Some d → word ≡ word_of d
words_by true b c word d x y z e = x refl ∙ ap word_of_some e
words_by false true c word d x y z e = y refl ∙ ap word_of_some e
words_by false false true word d x y z e = z refl ∙ ap word_of_some e
words_by false false false word d x y z e = clash (ap is_some e)

words : (word : List ℕ) (d : Directive) → directive_of word ≡ Some d → word ≡ word_of d
words word d e =
    words_by (bytes_eq word (codes "exists")) (bytes_eq word (codes "forall")) (bytes_eq word (codes "constraint")) word d
    (bytes_eq-Decides word (codes "exists")).0 (bytes_eq-Decides word (codes "forall")).0 (bytes_eq-Decides word (codes "constraint")).0 e

back_start : (t : Token) (tree : Tree) (ts : List Token) (p : Program) → Then (next_start t) (add_start t tree) ts p → Completes Start tree (t ∷ ts) p
back_start (DirectiveToken word) tree ts p h = by_directive (directive_of word) refl h
  where
    by_directive : (d : Option Directive) → directive_of word ≡ d → Then (after_first d) (first_directive d tree) ts p → Completes Start tree (DirectiveToken word ∷ ts) p
    by_directive None e k = absurd k
    by_directive (Some (Level quant)) e k = (quant, ts, ap (λ w. DirectiveToken w ∷ ts) (words word (Level quant) e), k)
    by_directive (Some Constraint) e k = absurd k
back_start other tree ts p h = absurd h

abbrev make_part : Quant → List Rule → Part
make_part quant rules = record { quant = quant; rules = rules }

level_more : (levels : List Part) (quant : Quant) (rules : List Rule) (next : Quant) (ts : List Token) (p : Program) → Between false (levels ++ make_part quant rules ∷ []) next [] ts p → Between false levels quant rules (DirectiveToken (quant_word next) ∷ ts) p
level_more levels quant rules next ts p (more, mid, parts, last, all, others, cons, e) = (
  [],
  DirectiveToken (quant_word next) ∷ ts,
  make_part next more ∷ parts,
  last,
  refl,
  (mid, (ts, refl, all), others),
  cons,
  e ∙ append_assoc levels (make_part quant rules ∷ []) (make_part next more ∷ parts)
      ∙ ap (λ rs. levels ++ make_part quant rs ∷ make_part next more ∷ parts) (sym (append-nil rules)),
)

constraint_more : (levels : List Part) (quant : Quant) (rules : List Rule) (next : Quant) (ts : List Token) (p : Program) → Between true (levels ++ make_part quant rules ∷ []) next [] ts p → Between false levels quant rules (DirectiveToken (codes "constraint") ∷ ts) p
constraint_more levels quant rules next ts p (more, all, e, f) = (
  [],
  DirectiveToken (codes "constraint") ∷ ts,
  [],
  DirectiveToken (codes "constraint") ∷ ts,
  refl,
  refl,
  inr (ts, refl, subst (λ cons. AllAt StatementAt cons ts []) (sym f) all),
  e ∙ ap (λ rs. levels ++ make_part quant rs ∷ []) (sym (append-nil rules)),
)

back_directive : (word : List ℕ) (tree : Tree) (ts : List Token) (p : Program) (d : Option Directive) (f : Bool) → directive_of word ≡ d → tree.in_constraint ≡ f → Then (after_directive f d) (add_directive d tree) ts p → Completes Statement tree (DirectiveToken word ∷ ts) p
back_directive word tree ts p d true e same h = absurd h
back_directive word tree ts p None false e same h = absurd h
back_directive word tree ts p (Some (Level next)) false e same h =
    subst (λ f. Between f tree.levels tree.quant tree.rules (DirectiveToken word ∷ ts) p) (sym same)
    (subst (λ w. Between false tree.levels tree.quant tree.rules (DirectiveToken w ∷ ts) p) (sym (words word (Level next) e))
    (level_more tree.levels tree.quant tree.rules next ts p
    (subst (λ f. Between f (tree.levels ++ make_part tree.quant tree.rules ∷ []) next [] ts p) same h)))
back_directive word tree ts p (Some Constraint) false e same h =
    subst (λ f. Between f tree.levels tree.quant tree.rules (DirectiveToken word ∷ ts) p) (sym same)
    (subst (λ w. Between false tree.levels tree.quant tree.rules (DirectiveToken w ∷ ts) p) (sym (words word Constraint e))
    (constraint_more tree.levels tree.quant tree.rules tree.quant ts p h))

-- ---- statements

-- a statement more
statement_more : (f : Bool) (levels : List Part) (quant : Quant) (rules : List Rule) (p : Program) (r : Rule) (ts mid : List Token) → StatementAt r ts mid → Between f levels quant (rules ++ r ∷ []) mid p → Between f levels quant rules ts p
statement_more true levels quant rules p r ts mid s (more, all, e, f) =
    (r ∷ more, (mid, s, all), e, f ∙ append_assoc rules (r ∷ []) more)
statement_more false levels quant rules p r ts mid s (more, end, parts, last, all, others, cons, e) = (
  r ∷ more,
  end,
  parts,
  last,
  (mid, s, all),
  others,
  cons,
  e ∙ ap (λ rs. levels ++ make_part quant rs ∷ parts) (append_assoc rules (r ∷ []) more),
)

-- a statement that begins with an atom
first_atom : (name : List ℕ) (tree : Tree) (us ts : List Token) (p : Program) → PredicateAt name us ts → Ways First (atom_frame (open_atoms tree)) p (NameEnd name ts) → Completes Statement tree us p
first_atom name tree us ts p n (inl (args, mid, h, rest)) = by_end rest.end
  where
    by_end : HeadEnd tree p (Disj (make_atom name args ∷ rest.more)) rest.mid → Completes Statement tree us p
    by_end (body, last, signed, (numbers, k)) =
        statement_more tree.in_constraint tree.levels tree.quant tree.rules p (make_rule (Disj (make_atom name args ∷ rest.more)) body) us last
        (numbers, inr (inl (rest.mid, joined is_or AtomAt (make_atom name args) rest.more us mid rest.mid (ts, n, h) rest.parts, signed))) k
first_atom name tree us ts p n (inr (args, mid, h, (last, e, (numbers, k)))) =
    statement_more tree.in_constraint tree.levels tree.quant tree.rules p (make_rule (Disj (make_atom name args ∷ [])) []) us last
    (numbers, inl (make_atom name args, refl, refl, (ts, n, subst (ArgumentsAt WideTermAt args ts) e h))) k

-- a statement that begins with a choice
choice_statement : (lower : Option ℤ) (tree : Tree) (us ts : List Token) (p : Program) → BoundAt lower us (LeftBraceToken ∷ ts) → Any is_semicolon ElementAt (ElementsEnd (open_choice lower tree) p) [] ts → Completes Statement tree us p
choice_statement lower tree us ts p l h = by_end h.end
  where
    by_end : ElementsEnd (open_choice lower tree) p h.all h.mid → Completes Statement tree us p
    by_end (mid, e, (upper, last, u, (body, rest, signed, (numbers, k)))) =
        statement_more tree.in_constraint tree.levels tree.quant tree.rules p (make_rule (Choice lower h.all upper) body) us rest
        (numbers, inr (inl (last, (ts, mid, l, subst (AnyJoinedAt is_semicolon ElementAt h.all ts) e h.parts, u), signed))) k

-- a minus and a name are the name of an atom
minus_name : (name : List ℕ) (ts next : List Token) → ts ≡ NameToken name ∷ next → PredicateAt (codes "-" ++ name) (MinusToken ∷ ts) next
minus_name name ts next e = inr (name, refl, ap (λ us. MinusToken ∷ us) e)

back_statement : (t : Token) (tree : Tree) (ts : List Token) (p : Program) → Then (next_statement tree.in_constraint t) (add_statement t tree) ts p → Completes Statement tree (t ∷ ts) p
back_statement (DirectiveToken word) tree ts p h = back_directive word tree ts p (directive_of word) tree.in_constraint refl refl h
back_statement (NameToken name) tree ts p (inl h) = first_atom name tree (NameToken name ∷ ts) ts p (inl refl) h
back_statement (NameToken name) tree ts p (inr never) = absurd never
back_statement MinusToken tree ts p (name, next, e, h) =
    first_atom (codes "-" ++ name) tree (MinusToken ∷ ts) next p (minus_name name ts next e) h
back_statement (NumberToken x) tree ts p (next, e, h) =
    choice_statement (Some x) tree (NumberToken x ∷ ts) next p (ap (λ us. NumberToken x ∷ us) e) h
back_statement LeftBraceToken tree ts p h = choice_statement None tree (LeftBraceToken ∷ ts) ts p refl h
back_statement ArrowToken tree ts p h = by_end h.end
  where
    by_end : Dotted tree p (make_rule (Disj []) h.all) h.mid → Completes Statement tree (ArrowToken ∷ ts) p
    by_end (last, e, (numbers, k)) =
        statement_more tree.in_constraint tree.levels tree.quant tree.rules p (make_rule (Disj []) h.all) (ArrowToken ∷ ts) last
        (numbers, inr (inr (ts, refl, refl, subst (AnyJoinedAt is_comma LiteralAt h.all ts) e h.parts))) k
back_statement other tree ts p h = absurd h

-- ---- heads

-- behind a head: an arrow and a body, or a full stop
back_arrow : (tree : Tree) (p : Program) (head : Head) (ts : List Token) → Any is_comma LiteralAt (λ body us. Dotted tree p (make_rule head body) us) [] ts → HeadEnd tree p head (ArrowToken ∷ ts)
back_arrow tree p head ts h = by_end h.end
  where
    by_end : Dotted tree p (make_rule head h.all) h.mid → HeadEnd tree p head (ArrowToken ∷ ts)
    by_end (last, e, closed) = (h.all, last, inr (ts, refl, subst (AnyJoinedAt is_comma LiteralAt h.all ts) e h.parts), closed)

back_dot : (tree : Tree) (p : Program) (head : Head) (ts : List Token) → head_anonymous head ≡ numbers_from 1 tree.anonymous → Between tree.in_constraint tree.levels tree.quant (tree.rules ++ make_rule head [] ∷ []) ts p → HeadEnd tree p head (DotToken ∷ ts)
back_dot tree p head ts e h = ([], ts, inl (refl, refl), (numbered (make_rule head []) tree.anonymous (append-nil (head_anonymous head) ∙ e), h))

back_head : (t : Token) (tree : Tree) (ts : List Token) (p : Program) → Counts AfterHead tree → Then (next_head t) (add_head t tree) ts p → Completes AfterHead tree (t ∷ ts) p
back_head BarToken tree ts p e h = rest_next tree.atoms ts BarToken refl h
back_head SemicolonToken tree ts p e h = rest_next tree.atoms ts SemicolonToken refl h
back_head ArrowToken tree ts p e h = rest_close tree.atoms (ArrowToken ∷ ts) (back_arrow tree p (Disj tree.atoms) ts h)
back_head DotToken tree ts p e h = rest_close tree.atoms (DotToken ∷ ts) (back_dot tree p (Disj tree.atoms) ts e h)
back_head other tree ts p e h = absurd h

back_fact : (t : Token) (tree : Tree) (ts : List Token) (p : Program) → Counts AfterFact tree → Then (next_fact t) (add_head t tree) ts p → Completes AfterFact tree (t ∷ ts) p
back_fact DotToken tree ts p e h = (ts, refl, (numbered (make_rule (Disj tree.atoms) []) tree.anonymous (append-nil (flat_map atom_anonymous tree.atoms) ∙ e), h))
back_fact other tree ts p e h = absurd h

further_atom : (name : List ℕ) (tree : Tree) (us ts : List Token) (p : Program) → PredicateAt name us ts → Ways Further (atom_frame tree) p (NameEnd name ts) → Completes NextHead tree us p
further_atom name tree us ts p n (args, mid, h, rest) = record { first = make_atom name args; mid = mid; part = (ts, n, h); rest = rest }

back_next_head : (t : Token) (tree : Tree) (ts : List Token) (p : Program) → Then (next_atom Further t) (add_name t tree) ts p → Completes NextHead tree (t ∷ ts) p
back_next_head (NameToken name) tree ts p (inl h) = further_atom name tree (NameToken name ∷ ts) ts p (inl refl) h
back_next_head (NameToken name) tree ts p (inr never) = absurd never
back_next_head MinusToken tree ts p (name, next, e, h) =
    further_atom (codes "-" ++ name) tree (MinusToken ∷ ts) next p (minus_name name ts next e) h
back_next_head other tree ts p h = absurd h

-- ---- elements

chosen_atom : (name : List ℕ) (tree : Tree) (us ts : List Token) (p : Program) → PredicateAt name us ts → Ways Chosen (atom_frame tree) p (NameEnd name ts) → Completes NextElement tree us p
chosen_atom name tree us ts p n (args, mid, h, (cond, last, signed, rest)) = record {
  first = make_element (make_atom name args) cond;
  mid = last;
  part = (mid, (ts, n, h), signed);
  rest = rest;
}

back_next_element : (t : Token) (tree : Tree) (ts : List Token) (p : Program) → Then (next_atom Chosen t) (add_name t tree) ts p → Completes NextElement tree (t ∷ ts) p
back_next_element (NameToken name) tree ts p (inl h) = chosen_atom name tree (NameToken name ∷ ts) ts p (inl refl) h
back_next_element (NameToken name) tree ts p (inr never) = absurd never
back_next_element MinusToken tree ts p (name, next, e, h) =
    chosen_atom (codes "-" ++ name) tree (MinusToken ∷ ts) next p (minus_name name ts next e) h
back_next_element other tree ts p h = absurd h

back_lower : (t : Token) (tree : Tree) (ts : List Token) (p : Program) → Then (next_lower t) tree ts p → Completes AfterLower tree (t ∷ ts) p
back_lower LeftBraceToken tree ts p h = (ts, refl, h)
back_lower other tree ts p h = absurd h

back_first_element : (t : Token) (tree : Tree) (ts : List Token) (p : Program) → Then (next_first_element t) (add_name t tree) ts p → Completes FirstElement tree (t ∷ ts) p
back_first_element (NameToken name) tree ts p h = any_next tree.elements (NameToken name ∷ ts) (back_next_element (NameToken name) tree ts p h)
back_first_element MinusToken tree ts p h = any_next tree.elements (MinusToken ∷ ts) (back_next_element MinusToken tree ts p h)
back_first_element RightBraceToken tree ts p h = any_close tree.elements (RightBraceToken ∷ ts) (ts, refl, h)
back_first_element other tree ts p h = absurd h

back_chosen : (t : Token) (tree : Tree) (ts : List Token) (p : Program) → Then (next_chosen t) (add_chosen t tree) ts p → Completes AfterChosen tree (t ∷ ts) p
back_chosen ColonToken tree ts p h = (h.all, h.mid, inr (ts, refl, h.parts), h.end)
back_chosen SemicolonToken tree ts p h =
    ([], SemicolonToken ∷ ts, inl (refl, refl), rest_next (tree.elements ++ make_element tree.element [] ∷ []) ts SemicolonToken refl h)
back_chosen RightBraceToken tree ts p h =
    ([], RightBraceToken ∷ ts, inl (refl, refl), rest_close (tree.elements ++ make_element tree.element [] ∷ []) (RightBraceToken ∷ ts) (ts, refl, h))
back_chosen other tree ts p h = absurd h

back_upper : (t : Token) (tree : Tree) (ts : List Token) (p : Program) → Counts AfterUpper tree → Then (next_upper t) (add_upper t tree) ts p → Completes AfterUpper tree (t ∷ ts) p
back_upper ArrowToken tree ts p e h = back_arrow tree p tree.head ts h
back_upper DotToken tree ts p e h = back_dot tree p tree.head ts e h
back_upper other tree ts p e h = absurd h

back_choice : (t : Token) (tree : Tree) (ts : List Token) (p : Program) → Counts AfterChoice tree → Then (next_choice t) (add_choice t tree) ts p → Completes AfterChoice tree (t ∷ ts) p
back_choice (NumberToken x) tree ts p e h = (Some x, ts, refl, h)
back_choice other tree ts p e h = (None, other ∷ ts, refl, back_upper other (close_choice None tree) ts p e h)

-- ---- literals

compared_next : (side : Side) (x : Term) (t : Token) (tree : Tree) (ts : List Token) (p : Program) → TermAt x (t ∷ ts) ts → Compared side tree p x ts → Completes (NextLiteral side) tree (t ∷ ts) p
compared_next side x t tree ts p left (op, sign, mid, o, e, (y, last, right, rest)) = record {
  first = Cmp x op y;
  mid = last;
  part = (sign, mid, o, subst (TermAt x (t ∷ ts)) e left, right);
  rest = rest;
}

positive_atom : (side : Side) (name : List ℕ) (tree : Tree) (us ts : List Token) (p : Program) → PredicateAt name us ts → Ways (Positive side) (atom_frame tree) p (NameEnd name ts) → Completes (NextLiteral side) tree us p
positive_atom side name tree us ts p n (args, mid, h, rest) = record { first = Pos (make_atom name args); mid = mid; part = (ts, n, h); rest = rest }

back_literal : (side : Side) (t : Token) (tree : Tree) (ts : List Token) (p : Program) → Then (next_literal side t) (add_literal t tree) ts p → Completes (NextLiteral side) tree (t ∷ ts) p
back_literal side NotToken tree ts p (a, mid, h, rest) = record { first = Neg a; mid = mid; part = (ts, refl, h); rest = rest }
back_literal side (NameToken name) tree ts p (inl h) = positive_atom side name tree (NameToken name ∷ ts) ts p (inl refl) h
back_literal side (NameToken name) tree ts p (inr h) = compared_next side (Sym name) (NameToken name) tree ts p refl h
back_literal side MinusToken tree ts p (name, next, e, h) =
    positive_atom side (codes "-" ++ name) tree (MinusToken ∷ ts) next p (minus_name name ts next e) h
back_literal side (NumberToken x) tree ts p h = compared_next side (Int x) (NumberToken x) tree ts p refl h
back_literal side (VariableToken name) tree ts p h = compared_next side (Var name) (VariableToken name) tree ts p refl h
back_literal side AnonymousToken tree ts p h = compared_next side (Anon (suc tree.anonymous)) AnonymousToken tree ts p refl h
back_literal side other tree ts p h = absurd h

back_close : (side : Side) (t : Token) (tree : Tree) (ts : List Token) (p : Program) → Counts (AfterLiteral side) tree → Then (next_close side t) (add_close t tree) ts p → LiteralsEnd side (rule_frame tree) p tree.literals (t ∷ ts)
back_close Body DotToken tree ts p e h = (ts, refl, (numbered (make_rule tree.head tree.literals) tree.anonymous e, h))
back_close Body other tree ts p e h = absurd h
back_close Condition SemicolonToken tree ts p e h = rest_next (tree.elements ++ make_element tree.element tree.literals ∷ []) ts SemicolonToken refl h
back_close Condition RightBraceToken tree ts p e h =
    rest_close (tree.elements ++ make_element tree.element tree.literals ∷ []) (RightBraceToken ∷ ts) (ts, refl, h)
back_close Condition other tree ts p e h = absurd h

back_first_literal : (side : Side) (t : Token) (tree : Tree) (ts : List Token) (p : Program) → Counts (FirstLiteral side) tree → Then (next_first_literal side t) (add_first_literal t tree) ts p → Completes (FirstLiteral side) tree (t ∷ ts) p
back_first_literal Body DotToken tree ts p e h = any_close tree.literals (DotToken ∷ ts) (back_close Body DotToken tree ts p e h)
back_first_literal Body SemicolonToken tree ts p e h = absurd h
back_first_literal Body RightBraceToken tree ts p e h = absurd h
back_first_literal Body other tree ts p e h = any_next tree.literals (other ∷ ts) (back_literal Body other tree ts p h)
back_first_literal Condition DotToken tree ts p e h = absurd h
back_first_literal Condition SemicolonToken tree ts p e h = any_close tree.literals (SemicolonToken ∷ ts) (back_close Condition SemicolonToken tree ts p e h)
back_first_literal Condition RightBraceToken tree ts p e h = any_close tree.literals (RightBraceToken ∷ ts) (back_close Condition RightBraceToken tree ts p e h)
back_first_literal Condition other tree ts p e h = any_next tree.literals (other ∷ ts) (back_literal Condition other tree ts p h)

back_after_literal : (side : Side) (t : Token) (tree : Tree) (ts : List Token) (p : Program) → Counts (AfterLiteral side) tree → Then (next_after_literal side t) (add_close t tree) ts p → Completes (AfterLiteral side) tree (t ∷ ts) p
back_after_literal side CommaToken tree ts p e h = rest_next tree.literals ts CommaToken refl h
back_after_literal side other tree ts p e h = rest_close tree.literals (other ∷ ts) (back_close side other tree ts p e h)

back_not : (side : Side) (t : Token) (tree : Tree) (ts : List Token) (p : Program) → Then (next_atom (Negative side) t) (add_name t tree) ts p → Completes (AfterNot side) tree (t ∷ ts) p
back_not side (NameToken name) tree ts p (inl (args, mid, h, rest)) = (make_atom name args, mid, (ts, inl refl, h), rest)
back_not side (NameToken name) tree ts p (inr never) = absurd never
back_not side MinusToken tree ts p (name, next, e, (args, mid, h, rest)) =
    (make_atom (codes "-" ++ name) args, mid, (next, minus_name name ts next e, h), rest)
back_not side other tree ts p h = absurd h

-- ---- comparisons

signed : (t : Token) → is_operator_sign t ≡ true → is_operator (op_of t) t ≡ true
signed EqToken e = refl
signed NeToken e = refl
signed NeAngleToken e = refl
signed LtToken e = refl
signed LeToken e = refl
signed GtToken e = refl
signed GeToken e = refl
signed other e = clash e

back_left : (side : Side) (t : Token) (tree : Tree) (ts : List Token) (p : Program) → Then (next_left side t) (record tree { op = op_of t }) ts p → Completes (AfterLeft side) tree (t ∷ ts) p
back_left side t tree ts p h = by_test (is_operator_sign t) refl h
  where
    by_test : (b : Bool) → is_operator_sign t ≡ b → Then (if b then Some (AfterOperator side) else None) (record tree { op = op_of t }) ts p → Completes (AfterLeft side) tree (t ∷ ts) p
    by_test true e k = (op_of t, t, ts, signed t e, refl, k)
    by_test false e k = absurd k

back_right : (side : Side) (t : Token) (tree : Tree) (ts : List Token) (p : Program) → Then (next_right side t) (add_right t tree) ts p → Completes (AfterOperator side) tree (t ∷ ts) p
back_right side (NumberToken x) tree ts p h = (Int x, ts, refl, h)
back_right side (NameToken name) tree ts p h = (Sym name, ts, refl, h)
back_right side (VariableToken name) tree ts p h = (Var name, ts, refl, h)
back_right side AnonymousToken tree ts p h = (Anon (suc tree.anonymous), ts, refl, h)
back_right side other tree ts p h = absurd h

-- ---- names

abbrev Way : Type 1
Way = Production Term → (Atom → List Token → Type 0) → Type 0

-- a production that has the single terms too
abbrev HasTerms : Production Term → Type 0
HasTerms At = (x : Term) (ts rest : List Token) → TermAt x ts rest → At x ts rest

wide_terms : HasTerms WideTermAt
wide_terms (Int x) ts rest h = h
wide_terms (Sym s) ts rest h = h
wide_terms (Var v) ts rest h = h
wide_terms (Anon k) ts rest h = h
wide_terms (Range low high) ts rest h = absurd h

each_way : (role : Role) (tree : Tree) (p : Program) (V W : Way) → ((At : Production Term) (End : Atom → List Token → Type 0) → HasTerms At → V At End → W At End) → Ways role tree p V → Ways role tree p W
each_way First tree p V W f (inl v) = inl (f TermAt (AtomEnd First tree p) (λ x ts rest h. h) v)
each_way First tree p V W f (inr v) = inr (f WideTermAt (AtomEnd Wide tree p) wide_terms v)
each_way Wide tree p V W f v = f WideTermAt (AtomEnd Wide tree p) wide_terms v
each_way Further tree p V W f v = f TermAt (AtomEnd Further tree p) (λ x ts rest h. h) v
each_way Chosen tree p V W f v = f TermAt (AtomEnd Chosen tree p) (λ x ts rest h. h) v
each_way (Positive side) tree p V W f v = f TermAt (AtomEnd (Positive side) tree p) (λ x ts rest h. h) v
each_way (Negative side) tree p V W f v = f TermAt (AtomEnd (Negative side) tree p) (λ x ts rest h. h) v

-- an atom that took its place
atom_way : (role : Role) (a : Atom) (tree : Tree) (ts : List Token) (p : Program) → Completes (behind role) (add_atom role a tree) ts p → Ways role (atom_frame tree) p (λ At End. End a ts)
atom_way First a tree ts p h = inl h
atom_way Wide a tree ts p h = h
atom_way Further a tree ts p h = h
atom_way Chosen a tree ts p h = h
atom_way (Positive side) a tree ts p h = h
atom_way (Negative side) a tree ts p h = h

back_behind : (role : Role) (t : Token) (tree : Tree) (ts : List Token) (p : Program) → Counts (behind role) tree → Then (next_behind role t) (add_behind role t tree) ts p → Completes (behind role) tree (t ∷ ts) p
back_behind First t tree ts p e h = back_head t tree ts p e h
back_behind Wide t tree ts p e h = back_fact t tree ts p e h
back_behind Further t tree ts p e h = back_head t tree ts p e h
back_behind Chosen t tree ts p e h = back_chosen t tree ts p h
back_behind (Positive side) t tree ts p e h = back_after_literal side t tree ts p e h
back_behind (Negative side) t tree ts p e h = back_after_literal side t tree ts p e h

-- a name that is a whole atom
back_whole : (role : Role) (t : Token) (tree : Tree) (ts : List Token) (p : Program) → Counts (AfterName role) tree → Then (next_behind role t) (add_behind role t (add_bare role tree)) ts p → Completes (AfterNegated role) tree (t ∷ ts) p
back_whole role t tree ts p e h =
    each_way role (atom_frame tree) p (λ At End. End (bare_atom tree) (t ∷ ts)) (NameEnd tree.name (t ∷ ts)) (λ At End has d. ([], t ∷ ts, inl (refl, refl), d))
    (atom_way role (bare_atom tree) (record tree { name = [] }) (t ∷ ts) p (back_behind role t (add_bare role tree) ts p (counts_bare role tree e) h))

bare_way : (role : Role) (t : Token) (tree : Tree) (ts : List Token) (p : Program) → Counts (AfterName role) tree → Then (next_behind role t) (add_behind role t (add_bare role tree)) ts p → Completes (AfterName role) tree (t ∷ ts) p
bare_way role t tree ts p e h = inl (back_whole role t tree ts p e h)

back_bare : (role : Role) (t : Token) (tree : Tree) (ts : List Token) (p : Program) → Counts (AfterName role) tree → Then (next_bare role t) (add_bare_name role t tree) ts p → Completes (AfterName role) tree (t ∷ ts) p
back_bare (Positive side) t tree ts p e h = by_test (is_operator_sign t) refl h
  where
    by_test : (b : Bool) → is_operator_sign t ≡ b → Then (if b then Some (AfterOperator side) else next_after_literal side t) (if b then record tree { left = Sym tree.name; name = []; op = op_of t } else add_close t (add_bare (Positive side) tree)) ts p → Completes (AfterName (Positive side)) tree (t ∷ ts) p
    by_test true o k = inr (op_of t, t, ts, signed t o, refl, k)
    by_test false o k = bare_way (Positive side) t tree ts p e k
back_bare First t tree ts p e h = bare_way First t tree ts p e h
back_bare Wide t tree ts p e h = bare_way Wide t tree ts p e h
back_bare Further t tree ts p e h = bare_way Further t tree ts p e h
back_bare Chosen t tree ts p e h = bare_way Chosen t tree ts p e h
back_bare (Negative side) t tree ts p e h = bare_way (Negative side) t tree ts p e h

open_way : (name : List ℕ) (ts : List Token) (At : Production Term) (End : Atom → List Token → Type 0) → Any is_comma At (ArgumentsEnd name End) [] ts → NameEnd name (LeftParenToken ∷ ts) At End
open_way name ts At End h = by_end h.end
  where
    by_end : ArgumentsEnd name End h.all h.mid → NameEnd name (LeftParenToken ∷ ts) At End
    by_end (rest, e, end) = (h.all, rest, inr (ts, refl, subst (AnyJoinedAt is_comma At h.all ts) e h.parts), end)

open_ways : (role : Role) (tree : Tree) (ts : List Token) (p : Program) → Completes (FirstArgument role) (record tree { args = [] }) ts p → Completes (AfterNegated role) tree (LeftParenToken ∷ ts) p
open_ways role tree ts p h =
    each_way role (atom_frame tree) p (λ At End. Any is_comma At (ArgumentsEnd tree.name End) [] ts) (NameEnd tree.name (LeftParenToken ∷ ts)) (λ At End has k. open_way tree.name ts At End k) h

back_name : (role : Role) (t : Token) (tree : Tree) (ts : List Token) (p : Program) → Counts (AfterName role) tree → Then (next_name role t) (add_after_name role t tree) ts p → Completes (AfterName role) tree (t ∷ ts) p
back_name role LeftParenToken tree ts p e h = inl (open_ways role tree ts p h)
back_name role other tree ts p e h = back_bare role other tree ts p e h

back_negated : (role : Role) (t : Token) (tree : Tree) (ts : List Token) (p : Program) → Counts (AfterName role) tree → Then (next_negated role t) (add_after_negated role t tree) ts p → Completes (AfterNegated role) tree (t ∷ ts) p
back_negated role LeftParenToken tree ts p e h = open_ways role tree ts p h
back_negated role other tree ts p e h = back_whole role other tree ts p e h

back_minus : (role : Role) (t : Token) (tree : Tree) (ts : List Token) (p : Program) → Then (next_minus role t) (add_negated t tree) ts p → Completes (AfterMinus role) tree (t ∷ ts) p
back_minus role (NameToken name) tree ts p h = (name, ts, refl, h)
back_minus role other tree ts p h = absurd h

-- ---- arguments

argument_way : (role : Role) (x : Term) (t : Token) (tree : Tree) (ts : List Token) (p : Program) → TermAt x (t ∷ ts) ts → Ways role (atom_frame tree) p (λ At End. Rest is_comma At (ArgumentsEnd tree.name End) (tree.args ++ x ∷ []) ts) → Completes (NextArgument role) tree (t ∷ ts) p
argument_way role x t tree ts p h w =
    each_way role (atom_frame tree) p (λ At End. Rest is_comma At (ArgumentsEnd tree.name End) (tree.args ++ x ∷ []) ts) (λ At End. Next is_comma At (ArgumentsEnd tree.name End) tree.args (t ∷ ts))
    (λ At End has rest. record { first = x; mid = ts; part = has x (t ∷ ts) ts h; rest = rest }) w

-- a number that begins an interval
interval_next : (x : ℤ) (tree : Tree) (ts : List Token) (p : Program) → Dots (record tree { low = x }) p ts → Next is_comma WideTermAt (ArgumentsEnd tree.name (AtomEnd Wide (atom_frame tree) p)) tree.args (NumberToken x ∷ ts)
interval_next x tree ts p (mid, e, (high, last, f, rest)) = record {
  first = Range x high;
  mid = last;
  part = ap (λ us. NumberToken x ∷ us) (e ∙ ap (λ us. DotsToken ∷ us) f);
  rest = rest;
}

interval_way : (role : Role) (x : ℤ) (tree : Tree) (ts : List Token) (p : Program) → Interval role (record tree { low = x }) p ts → Completes (NextArgument role) tree (NumberToken x ∷ ts) p
interval_way First x tree ts p h = inr (interval_next x tree ts p h)
interval_way Wide x tree ts p h = interval_next x tree ts p h
interval_way Further x tree ts p h = absurd h
interval_way Chosen x tree ts p h = absurd h
interval_way (Positive side) x tree ts p h = absurd h
interval_way (Negative side) x tree ts p h = absurd h

back_argument : (role : Role) (t : Token) (tree : Tree) (ts : List Token) (p : Program) → Then (next_argument role t) (add_next_argument t tree) ts p → Completes (NextArgument role) tree (t ∷ ts) p
back_argument role (NumberToken x) tree ts p (inl h) = argument_way role (Int x) (NumberToken x) tree ts p refl h
back_argument role (NumberToken x) tree ts p (inr h) = interval_way role x tree ts p h
back_argument role (NameToken name) tree ts p h = argument_way role (Sym name) (NameToken name) tree ts p refl h
back_argument role (VariableToken name) tree ts p h = argument_way role (Var name) (VariableToken name) tree ts p refl h
back_argument role AnonymousToken tree ts p h = argument_way role (Anon (suc tree.anonymous)) AnonymousToken tree ts p refl h
back_argument role other tree ts p h = absurd h

whole_way : (role : Role) (tree : Tree) (ts : List Token) (p : Program) → Completes (behind role) (add_whole role tree) ts p → Ways role (atom_frame tree) p (λ At End. ArgumentsEnd tree.name End tree.args (RightParenToken ∷ ts))
whole_way role tree ts p h =
    each_way role (atom_frame tree) p (λ At End. End (whole_atom tree) ts) (λ At End. ArgumentsEnd tree.name End tree.args (RightParenToken ∷ ts)) (λ At End has d. (ts, refl, d))
    (atom_way role (whole_atom tree) (record tree { name = []; args = [] }) ts p h)

back_first_argument : (role : Role) (t : Token) (tree : Tree) (ts : List Token) (p : Program) → Then (next_first_argument role t) (add_first_argument role t tree) ts p → Completes (FirstArgument role) tree (t ∷ ts) p
back_first_argument role RightParenToken tree ts p h =
    each_way role (atom_frame tree) p (λ At End. ArgumentsEnd tree.name End tree.args (RightParenToken ∷ ts)) (λ At End. Any is_comma At (ArgumentsEnd tree.name End) tree.args (RightParenToken ∷ ts))
    (λ At End has d. any_close tree.args (RightParenToken ∷ ts) d) (whole_way role tree ts p h)
back_first_argument role other tree ts p h =
    each_way role (atom_frame tree) p (λ At End. Next is_comma At (ArgumentsEnd tree.name End) tree.args (other ∷ ts)) (λ At End. Any is_comma At (ArgumentsEnd tree.name End) tree.args (other ∷ ts))
    (λ At End has d. any_next tree.args (other ∷ ts) d) (back_argument role other tree ts p h)

back_after_argument : (role : Role) (t : Token) (tree : Tree) (ts : List Token) (p : Program) → Then (next_after_argument role t) (add_after_argument role t tree) ts p → Completes (AfterArgument role) tree (t ∷ ts) p
back_after_argument role CommaToken tree ts p h =
    each_way role (atom_frame tree) p (λ At End. Next is_comma At (ArgumentsEnd tree.name End) tree.args ts) (λ At End. Rest is_comma At (ArgumentsEnd tree.name End) tree.args (CommaToken ∷ ts))
    (λ At End has d. rest_next tree.args ts CommaToken refl d) h
back_after_argument role RightParenToken tree ts p h =
    each_way role (atom_frame tree) p (λ At End. ArgumentsEnd tree.name End tree.args (RightParenToken ∷ ts)) (λ At End. Rest is_comma At (ArgumentsEnd tree.name End) tree.args (RightParenToken ∷ ts))
    (λ At End has d. rest_close tree.args (RightParenToken ∷ ts) d) (whole_way role tree ts p h)
back_after_argument role other tree ts p h = absurd h

back_dots : (role : Role) (tree : Tree) (ts : List Token) (p : Program) → Then (next_dots role) tree ts p → Interval role tree p (DotsToken ∷ ts)
back_dots First tree ts p h = (ts, refl, h)
back_dots Wide tree ts p h = (ts, refl, h)
back_dots Further tree ts p h = absurd h
back_dots Chosen tree ts p h = absurd h
back_dots (Positive side) tree ts p h = absurd h
back_dots (Negative side) tree ts p h = absurd h

back_number : (role : Role) (t : Token) (tree : Tree) (ts : List Token) (p : Program) → Then (next_number role t) (add_after_number role t tree) ts p → Completes (AfterNumber role) tree (t ∷ ts) p
back_number role DotsToken tree ts p h = inr (back_dots role tree ts p h)
back_number role other tree ts p h = inl (back_after_argument role other (add_argument (Int tree.low) tree) ts p h)

back_high : (t : Token) (tree : Tree) (ts : List Token) (p : Program) → Then (next_high t) (add_high t tree) ts p → Completes AfterDots tree (t ∷ ts) p
back_high (NumberToken x) tree ts p h = (x, ts, refl, h)
back_high other tree ts p h = absurd h

-- ---- one token

pub back : (state : State) (t : Token) (tree : Tree) (ts : List Token) (p : Program) → Counts state tree → Then (next_state tree.in_constraint state t) (add state t tree) ts p → Completes state tree (t ∷ ts) p
back Start t tree ts p e h = back_start t tree ts p h
back Statement t tree ts p e h = back_statement t tree ts p h
back NextHead t tree ts p e h = back_next_head t tree ts p h
back AfterHead t tree ts p e h = back_head t tree ts p e h
back AfterFact t tree ts p e h = back_fact t tree ts p e h
back AfterLower t tree ts p e h = back_lower t tree ts p h
back FirstElement t tree ts p e h = back_first_element t tree ts p h
back NextElement t tree ts p e h = back_next_element t tree ts p h
back AfterChosen t tree ts p e h = back_chosen t tree ts p h
back AfterChoice t tree ts p e h = back_choice t tree ts p e h
back AfterUpper t tree ts p e h = back_upper t tree ts p e h
back (FirstLiteral side) t tree ts p e h = back_first_literal side t tree ts p e h
back (NextLiteral side) t tree ts p e h = back_literal side t tree ts p h
back (AfterNot side) t tree ts p e h = back_not side t tree ts p h
back (AfterLeft side) t tree ts p e h = back_left side t tree ts p h
back (AfterOperator side) t tree ts p e h = back_right side t tree ts p h
back (AfterLiteral side) t tree ts p e h = back_after_literal side t tree ts p e h
back (AfterName role) t tree ts p e h = back_name role t tree ts p e h
back (AfterMinus role) t tree ts p e h = back_minus role t tree ts p h
back (AfterNegated role) t tree ts p e h = back_negated role t tree ts p e h
back (FirstArgument role) t tree ts p e h = back_first_argument role t tree ts p h
back (NextArgument role) t tree ts p e h = back_argument role t tree ts p h
back (AfterArgument role) t tree ts p e h = back_after_argument role t tree ts p h
back (AfterNumber role) t tree ts p e h = back_number role t tree ts p h
back AfterDots t tree ts p e h = back_high t tree ts p h
