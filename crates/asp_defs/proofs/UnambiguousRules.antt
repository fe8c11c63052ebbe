-- No tokens are two programs, continued: literals, bodies, heads, statements, levels and programs.
use Rattle.std.proofs.Common.{ℕ, ℤ, ◌≡◌, ◌⊎◌, refl, sym, ◌∙◌, ap, subst, inl, inr, Bool, true, false, List, [], ◌∷◌, map, drop}
use Rattle.std.specs.Prelude.{◌==◌, if◌then◌else◌, Option, None, Some}
use Rattle.asp_defs.specs.declared.syntax.Quant.{Quant}
use Rattle.asp_defs.specs.declared.syntax.Quant.TheVariants.{Exists, Forall}
use Rattle.asp_defs.specs.declared.syntax.Op.{Op}
use Rattle.asp_defs.specs.declared.syntax.Op.TheVariants.{Eq, Ne, Lt, Le, Gt, Ge}
use Rattle.asp_defs.specs.declared.syntax.Term.{Term}
use Rattle.asp_defs.specs.declared.syntax.Term.TheVariants.{Int, Sym, Var, Anon, Range}
use Rattle.asp_defs.specs.declared.syntax.Atom.{Atom}
use Rattle.asp_defs.specs.declared.syntax.Literal.{Literal}
use Rattle.asp_defs.specs.declared.syntax.Literal.TheVariants.{Pos, Neg, Cmp}
use Rattle.asp_defs.specs.declared.syntax.Element.{Element}
use Rattle.asp_defs.specs.declared.syntax.Head.{Head}
use Rattle.asp_defs.specs.declared.syntax.Head.TheVariants.{Disj, Choice}
use Rattle.asp_defs.specs.declared.syntax.Rule.{Rule}
use Rattle.asp_defs.specs.declared.syntax.Part.{Part}
use Rattle.asp_defs.specs.declared.syntax.Program.{Program}
use Rattle.asp_defs.specs.Lists.{is_empty}
use Rattle.asp_defs.specs.Tokens.{Token, DirectiveToken, NotToken, NameToken, NumberToken, MinusToken, ArrowToken, ColonToken, DotToken, CommaToken, SemicolonToken, BarToken, RightParenToken, LeftBraceToken, RightBraceToken, EqToken, NeToken, NeAngleToken, LtToken, LeToken, GtToken, GeToken}
use Rattle.asp_defs.specs.Grammar.{Production, AllAt, JoinedAt, AnyJoinedAt, is_comma, is_semicolon, is_or, is_operator, TermAt, WideTermAt, ArgumentsAt, AtomAt, WideAtomAt, LiteralAt, BodyAt, SignedBodyAt, ElementAt, BoundAt, HeadAt, ConstraintAt, StatementAt, quant_word, LevelAt, ConstraintPartAt, IsProgram}
use Rattle.asp_defs.proofs.Numbering.{bare_term, bare_atom, bare_literal, bare_element, make_element, bare_head, bare_rule, make_rule, same_rule}
use Rattle.asp_defs.proofs.TextRefutations.{clash, begins, predicate_begins, low_begins, opens_statement, opens_level, statement_begins, levels_begin, level_begins}
use Rattle.asp_defs.proofs.Unambiguous.{lift, Alone, Starts, read_single, term_reads, term_alone, term_starts, after_atom, single_atom_alone, wide_atom_alone, joined_alone, any_alone}

-- ---- literals

-- what may follow a literal, and what may follow a body
abbrev after_literal : Token → Bool
after_literal CommaToken = true
after_literal DotToken = true
after_literal SemicolonToken = true
after_literal RightBraceToken = true
after_literal other = false

abbrev after_body : Token → Bool
after_body DotToken = true
after_body SemicolonToken = true
after_body RightBraceToken = true
after_body other = false

literal_atom : (t : Token) → after_literal t ≡ true → after_atom t ≡ true
literal_atom CommaToken h = refl
literal_atom DotToken h = refl
literal_atom SemicolonToken h = refl
literal_atom RightBraceToken h = refl
literal_atom other h = clash h

body_literal : (t : Token) → after_body t ≡ true → after_literal t ≡ true
body_literal DotToken h = refl
body_literal SemicolonToken h = refl
body_literal RightBraceToken h = refl
body_literal other h = clash h

comma_literal : (t : Token) → is_comma t ≡ true → after_literal t ≡ true
comma_literal CommaToken h = refl
comma_literal other h = clash h

comma_body : (t : Token) → is_comma t ≡ true → after_body t ≡ true → ⊥
comma_body CommaToken h k = clash k
comma_body other h k = clash h

-- the operator of a sign
abbrev op_of : Token → Op
op_of EqToken = Eq
op_of NeToken = Ne
op_of NeAngleToken = Ne
op_of LtToken = Lt
op_of LeToken = Le
op_of GtToken = Gt
op_of GeToken = Ge
op_of other = Eq

abbrev is_sign : Token → Bool
is_sign EqToken = true
is_sign NeToken = true
is_sign NeAngleToken = true
is_sign LtToken = true
is_sign LeToken = true
is_sign GtToken = true
is_sign GeToken = true
is_sign other = false

operator_sign : (op : Op) (t : Token) → is_operator op t ≡ true → (op_of t ≡ op) × (is_sign t ≡ true)
operator_sign Eq EqToken h = (refl, refl)
operator_sign Ne NeToken h = (refl, refl)
operator_sign Ne NeAngleToken h = (refl, refl)
operator_sign Lt LtToken h = (refl, refl)
operator_sign Le LeToken h = (refl, refl)
operator_sign Gt GtToken h = (refl, refl)
operator_sign Ge GeToken h = (refl, refl)
operator_sign op other h = clash h

sign_literal : (t : Token) → is_sign t ≡ true → after_literal t ≡ true → ⊥
sign_literal CommaToken h k = clash h
sign_literal DotToken h k = clash h
sign_literal SemicolonToken h k = clash h
sign_literal RightBraceToken h k = clash h
sign_literal other h k = clash k

abbrev is_not : Token → Bool
is_not NotToken = true
is_not other = false

abbrev is_minus : Token → Bool
is_minus MinusToken = true
is_minus other = false

minus_starts : Starts TermAt is_minus
minus_starts = term_starts is_minus (λ n. refl) (λ n. refl) (λ n. refl) refl

not_starts : Starts TermAt is_not
not_starts = term_starts is_not (λ n. refl) (λ n. refl) (λ n. refl) refl

-- an atom isn't the left side of a comparison
atom_or_term : (a : Atom) (x : Term) (ts r mid : List Token) (op : Op) (sign : Token) → AtomAt a ts r → TermAt x ts (sign ∷ mid) → is_operator op sign ≡ true → begins after_literal r ≡ true → ⊥
atom_or_term a x ts r mid op sign (next, inr (bare, n, e), args) h o gr =
    clash (sym (minus_starts x ts (sign ∷ mid) h) ∙ ap (begins is_minus) e)
atom_or_term a x ts r mid op sign (next, inl e, inl (n, f)) h o gr =
    let same : sign ∷ mid ≡ next = ap (λ p. p.1) (sym (term_reads x ts (sign ∷ mid) h) ∙ ap read_single e) in
    sign_literal sign (operator_sign op sign o).1 (ap (begins after_literal) (same ∙ f) ∙ gr)
atom_or_term a x ts r mid op sign (next, inl e, inr (inside, f, k)) h o gr =
    let same : sign ∷ mid ≡ next = ap (λ p. p.1) (sym (term_reads x ts (sign ∷ mid) h) ∙ ap read_single e) in
    clash (ap (begins is_sign) (sym f ∙ sym same) ∙ (operator_sign op sign o).1)

not_or_term : (x : Term) (ts r mid : List Token) → (ts ≡ NotToken ∷ mid) → TermAt x ts r → ⊥
not_or_term x ts r mid e h = clash (sym (not_starts x ts r h) ∙ ap (begins is_not) e)

not_or_atom : (a : Atom) (ts r mid : List Token) → (ts ≡ NotToken ∷ mid) → AtomAt a ts r → ⊥
not_or_atom a ts r mid e (next, n, k) = clash (sym (predicate_begins is_not false (λ m. refl) refl a.name ts next n) ∙ ap (begins is_not) e)

abbrev first_of : List Token → Token
first_of [] = DotToken
first_of (t ∷ ts) = t

literal_alone : Alone LiteralAt bare_literal after_literal
literal_alone (Pos a) (Pos b) ts r s h k gr gs =
    let d = single_atom_alone a b ts r s h k (lift after_literal after_atom literal_atom r gr) (lift after_literal after_atom literal_atom s gs) in (ap Pos d.0, d.1)
literal_alone (Pos a) (Neg b) ts r s h (mid, e, k) gr gs = absurd (not_or_atom a ts r mid e h)
literal_alone (Pos a) (Cmp x op y) ts r s h (sign, mid, o, left, right) gr gs = absurd (atom_or_term a x ts r mid op sign h left o gr)
literal_alone (Neg a) (Pos b) ts r s (mid, e, h) k gr gs = absurd (not_or_atom b ts s mid e k)
literal_alone (Neg a) (Neg b) ts r s (mid, e, h) (mid', f, k) gr gs =
    let same : mid ≡ mid' = ap (drop 1) (sym e ∙ f) in
    let d = single_atom_alone a b mid r s h (subst (λ m. AtomAt b m s) (sym same) k) (lift after_literal after_atom literal_atom r gr) (lift after_literal after_atom literal_atom s gs) in (ap Neg d.0, d.1)
literal_alone (Neg a) (Cmp x op y) ts r s (mid, e, h) (sign, next, o, left, right) gr gs = absurd (not_or_term x ts (sign ∷ next) mid e left)
literal_alone (Cmp x op y) (Pos b) ts r s (sign, mid, o, left, right) k gr gs = absurd (atom_or_term b x ts s mid op sign k left o gs)
literal_alone (Cmp x op y) (Neg b) ts r s (sign, next, o, left, right) (mid, e, k) gr gs = absurd (not_or_term x ts (sign ∷ next) mid e left)
literal_alone (Cmp x op y) (Cmp x' op' y') ts r s (sign, mid, o, left, right) (sign', mid', o', left', right') gr gs =
    let d = term_alone x x' ts (sign ∷ mid) (sign' ∷ mid') left left' in
    let same : mid ≡ mid' = ap (drop 1) d.1 in
    let ops : op ≡ op' = sym (operator_sign op sign o).0 ∙ ap (λ us. op_of (first_of us)) d.1 ∙ (operator_sign op' sign' o').0 in
    let f = term_alone y y' mid r s right (subst (λ m. TermAt y' m s) (sym same) right') in
    (ap (λ z. Cmp z op (bare_term y)) d.0 ∙ ap (λ q. Cmp (bare_term x') q (bare_term y)) ops ∙ ap (λ z. Cmp (bare_term x') op' z) f.0, f.1)

literal_starts : Starts LiteralAt after_body
literal_starts (Pos a) ts r (mid, n, k) = predicate_begins after_body false (λ m. refl) refl a.name ts mid n
literal_starts (Neg a) ts r (mid, e, k) = ap (begins after_body) e
literal_starts (Cmp x op y) ts r (sign, mid, o, left, right) = term_starts after_body (λ n. refl) (λ n. refl) (λ n. refl) refl x ts (sign ∷ mid) left

body_alone : Alone BodyAt (map bare_literal) after_body
body_alone = any_alone literal_alone is_comma after_body comma_literal body_literal comma_body literal_starts

-- a signed body, where the sign may not follow it
signed_alone : (sign : Token) → after_body sign ≡ false → Alone (SignedBodyAt sign) (map bare_literal) after_body
signed_alone sign never xs ys ts r s (inl (n, e)) (inl (m, f)) gr gs = (ap (map bare_literal) (n ∙ sym m), sym e ∙ f)
signed_alone sign never xs ys ts r s (inl (n, e)) (inr (mid, f, k)) gr gs = clash (sym never ∙ ap (begins after_body) (sym f ∙ e) ∙ gr)
signed_alone sign never xs ys ts r s (inr (mid, e, h)) (inl (m, f)) gr gs = clash (sym never ∙ ap (begins after_body) (sym e ∙ f) ∙ gs)
signed_alone sign never xs ys ts r s (inr (mid, e, h)) (inr (mid', f, k)) gr gs =
    let same : mid ≡ mid' = ap (drop 1) (sym e ∙ f) in
    body_alone xs ys mid r s h (subst (λ m. BodyAt ys m s) (sym same) k) gr gs

-- ---- elements and heads

body_atom : (t : Token) → after_body t ≡ true → after_atom t ≡ true
body_atom DotToken h = refl
body_atom SemicolonToken h = refl
body_atom RightBraceToken h = refl
body_atom other h = clash h

-- an atom may stand before a signed body
signed_after_atom : (sign : Token) → after_atom sign ≡ true → (body : List Literal) (ts r : List Token) → SignedBodyAt sign body ts r → begins after_body r ≡ true → begins after_atom ts ≡ true
signed_after_atom sign may body ts r (inl (n, e)) gr = ap (begins after_atom) e ∙ lift after_body after_atom body_atom r gr
signed_after_atom sign may body ts r (inr (mid, e, h)) gr = ap (begins after_atom) e ∙ may

element_alone : Alone ElementAt bare_element after_body
element_alone x y ts r s (mid, h, c) (mid', k, c') gr gs =
    let d = single_atom_alone x.atom y.atom ts mid mid' h k (signed_after_atom ColonToken refl x.cond mid r c gr) (signed_after_atom ColonToken refl y.cond mid' s c' gs) in
    let f = signed_alone ColonToken refl x.cond y.cond mid r s c (subst (λ m. SignedBodyAt ColonToken y.cond m s) (sym d.1) c') gr gs in
    (ap (λ a. make_element a (map bare_literal x.cond)) d.0 ∙ ap (make_element (bare_atom y.atom)) f.0, f.1)

abbrev is_brace : Token → Bool
is_brace RightBraceToken = true
is_brace other = false

brace_body : (t : Token) → is_brace t ≡ true → after_body t ≡ true
brace_body RightBraceToken h = refl
brace_body other h = clash h

semicolon_body : (t : Token) → is_semicolon t ≡ true → after_body t ≡ true
semicolon_body SemicolonToken h = refl
semicolon_body other h = clash h

semicolon_brace : (t : Token) → is_semicolon t ≡ true → is_brace t ≡ true → ⊥
semicolon_brace SemicolonToken h k = clash k
semicolon_brace other h k = clash h

element_starts : Starts ElementAt is_brace
element_starts x ts r (mid, (next, n, args), c) = predicate_begins is_brace false (λ m. refl) refl x.atom.name ts next n

elements_alone : Alone (AnyJoinedAt is_semicolon ElementAt) (map bare_element) is_brace
elements_alone = any_alone element_alone is_semicolon is_brace semicolon_body brace_body semicolon_brace element_starts

-- heads whose atoms may have intervals, so that a fact is a rule too
abbrev WideHeadAt : Production Head
WideHeadAt (Disj atoms) ts rest = JoinedAt is_or WideAtomAt atoms ts rest
WideHeadAt (Choice low elements high) ts rest = HeadAt (Choice low elements high) ts rest

abbrev after_head : Token → Bool
after_head ArrowToken = true
after_head DotToken = true
after_head other = false

head_atom : (t : Token) → after_head t ≡ true → after_atom t ≡ true
head_atom ArrowToken h = refl
head_atom DotToken h = refl
head_atom other h = clash h

or_atom : (t : Token) → is_or t ≡ true → after_atom t ≡ true
or_atom BarToken h = refl
or_atom SemicolonToken h = refl
or_atom other h = clash h

or_head : (t : Token) → is_or t ≡ true → after_head t ≡ true → ⊥
or_head BarToken h k = clash k
or_head SemicolonToken h k = clash k
or_head other h k = clash h

-- the first token of a choice
abbrev opens_choice : Token → Bool
opens_choice LeftBraceToken = true
opens_choice (NumberToken x) = true
opens_choice other = false

disjunction_begins : (p : Token → Bool) → ((n : List ℕ) → p (NameToken n) ≡ false) → p MinusToken ≡ false → (atoms : List Atom) (ts r : List Token) → JoinedAt is_or WideAtomAt atoms ts r → begins p ts ≡ false
disjunction_begins p names minus [] ts r h = absurd h
disjunction_begins p names minus (a ∷ []) ts r (mid, n, args) = predicate_begins p false names minus a.name ts mid n
disjunction_begins p names minus (a ∷ b ∷ more) ts r (sign, next, j, (mid, n, args), others) = predicate_begins p false names minus a.name ts mid n

disjunction_or_choice : {A : Type 0} (atoms : List Atom) (low : Option ℤ) (ts r mid : List Token) → JoinedAt is_or WideAtomAt atoms ts r → BoundAt low ts (LeftBraceToken ∷ mid) → A
disjunction_or_choice atoms low ts r mid h l =
    clash (sym (disjunction_begins opens_choice (λ n. refl) refl atoms ts r h) ∙ low_begins opens_choice true (λ x. refl) refl low ts mid l)

-- a bound, where no number follows it
abbrev is_number : Token → Bool
is_number (NumberToken x) = true
is_number other = false

abbrev read_bound : List Token → Option ℤ × List Token
read_bound (NumberToken x ∷ r) = (Some x, r)
read_bound ts = (None, ts)

no_bound : (r : List Token) → begins is_number r ≡ false → read_bound r ≡ (None, r)
no_bound [] h = refl
no_bound (NumberToken x ∷ r) h = clash (sym h)
no_bound (other ∷ r) h = refl

bound_reads : (b : Option ℤ) (ts r : List Token) → BoundAt b ts r → begins is_number r ≡ false → read_bound ts ≡ (b, r)
bound_reads None ts r e h = ap read_bound e ∙ no_bound r h
bound_reads (Some x) ts r e h = ap read_bound e

bound_alone : (b c : Option ℤ) (ts r s : List Token) → BoundAt b ts r → BoundAt c ts s → begins is_number r ≡ false → begins is_number s ≡ false → (b ≡ c) × (r ≡ s)
bound_alone b c ts r s h k gr gs =
    let e = sym (bound_reads b ts r h gr) ∙ bound_reads c ts s k gs in (ap (λ p. p.0) e, ap (λ p. p.1) e)

head_no_number : (r : List Token) → begins after_head r ≡ true → begins is_number r ≡ false
head_no_number [] h = refl
head_no_number (NumberToken x ∷ r) h = clash h
head_no_number (other ∷ r) h = refl

choices_agree : (low low' : Option ℤ) (elements others : List Element) (high high' : Option ℤ) (ts r s : List Token) → HeadAt (Choice low elements high) ts r → HeadAt (Choice low' others high') ts s → begins after_head r ≡ true → begins after_head s ≡ true → (bare_head (Choice low elements high) ≡ bare_head (Choice low' others high')) × (r ≡ s)
choices_agree low low' elements others high high' ts r s (mid, closed, l, h, u) (mid', closed', l', k, u') gr gs =
    let d = bound_alone low low' ts (LeftBraceToken ∷ mid) (LeftBraceToken ∷ mid') l l' refl refl in
    let same : mid ≡ mid' = ap (drop 1) d.1 in
    let e = elements_alone elements others mid (RightBraceToken ∷ closed) (RightBraceToken ∷ closed') h (subst (λ m. AnyJoinedAt is_semicolon ElementAt others m (RightBraceToken ∷ closed')) (sym same) k) refl refl in
    let f = bound_alone high high' closed r s u (subst (λ c. BoundAt high' c s) (sym (ap (drop 1) e.1)) u') (head_no_number r gr) (head_no_number s gs) in
    (ap (λ b. Choice b (map bare_element elements) high) d.0 ∙ ap (λ es. Choice low' es high) e.0 ∙ ap (Choice low' (map bare_element others)) f.0, f.1)

wide_head_alone : Alone WideHeadAt bare_head after_head
wide_head_alone (Disj atoms) (Disj others) ts r s h k gr gs =
    let d = joined_alone wide_atom_alone is_or after_head or_atom head_atom or_head atoms others ts r s h k gr gs in (ap Disj d.0, d.1)
wide_head_alone (Disj atoms) (Choice low elements high) ts r s h (mid, closed, l, k, u) gr gs = disjunction_or_choice atoms low ts r mid h l
wide_head_alone (Choice low elements high) (Disj atoms) ts r s (mid, closed, l, h, u) k gr gs = disjunction_or_choice atoms low ts s mid k l
wide_head_alone (Choice low elements high) (Choice low' others high') ts r s h k gr gs =
    choices_agree low low' elements others high high' ts r s h k gr gs

-- ---- statements

abbrev WideRuleAt : Production Rule
WideRuleAt r ts rest = (mid : List Token) × WideHeadAt r.head ts mid × SignedBodyAt ArrowToken r.body mid (DotToken ∷ rest)

-- a production whose parts are those of another, for lists of parts
joined_wider : {A : Type 0} {At Bt : Production A} (joins : Token → Bool) → ((x : A) (ts r : List Token) → At x ts r → Bt x ts r) → (xs : List A) (ts r : List Token) → JoinedAt joins At xs ts r → JoinedAt joins Bt xs ts r
joined_wider joins f [] ts r h = absurd h
joined_wider joins f (x ∷ []) ts r h = f x ts r h
joined_wider joins f (x ∷ y ∷ more) ts r (sign, mid, j, h, others) = (sign, mid, j, f x ts (sign ∷ mid) h, joined_wider joins f (y ∷ more) mid r others)

any_wider : {A : Type 0} {At Bt : Production A} (joins : Token → Bool) → ((x : A) (ts r : List Token) → At x ts r → Bt x ts r) → (xs : List A) (ts r : List Token) → AnyJoinedAt joins At xs ts r → AnyJoinedAt joins Bt xs ts r
any_wider joins f [] ts r h = h
any_wider joins f (x ∷ xs) ts r h = joined_wider joins f (x ∷ xs) ts r h

term_wider : (x : Term) (ts r : List Token) → TermAt x ts r → WideTermAt x ts r
term_wider (Int x) ts r h = h
term_wider (Sym s) ts r h = h
term_wider (Var v) ts r h = h
term_wider (Anon k) ts r h = h
term_wider (Range low high) ts r h = absurd h

arguments_wider : (xs : List Term) (ts r : List Token) → ArgumentsAt TermAt xs ts r → ArgumentsAt WideTermAt xs ts r
arguments_wider xs ts r (inl h) = inl h
arguments_wider xs ts r (inr (mid, e, h)) = inr (mid, e, any_wider is_comma term_wider xs mid (RightParenToken ∷ r) h)

atom_wider : (a : Atom) (ts r : List Token) → AtomAt a ts r → WideAtomAt a ts r
atom_wider a ts r (mid, e, h) = (mid, e, arguments_wider a.args mid r h)

head_wider : (head : Head) (ts r : List Token) → HeadAt head ts r → WideHeadAt head ts r
head_wider (Disj atoms) ts r h = joined_wider is_or atom_wider atoms ts r h
head_wider (Choice low elements high) ts r h = h

-- a statement is a rule of atoms that may have intervals, or a constraint
wide_statement : (r : Rule) (ts rest : List Token) → StatementAt r ts rest → WideRuleAt r ts rest ⊎ ConstraintAt r ts rest
wide_statement r ts rest (n, inl (a, eh, eb, fact)) =
    inl (DotToken ∷ rest, subst (λ head. WideHeadAt head ts (DotToken ∷ rest)) (sym eh) fact, inl (eb, refl))
wide_statement r ts rest (n, inr (inl (mid, head, body))) = inl (mid, head_wider r.head ts mid head, body)
wide_statement r ts rest (n, inr (inr c)) = inr c

-- a head stands before its signed body
signed_after_head : (body : List Literal) (ts r : List Token) → SignedBodyAt ArrowToken body ts (DotToken ∷ r) → begins after_head ts ≡ true
signed_after_head body ts r (inl (n, e)) = ap (begins after_head) e
signed_after_head body ts r (inr (mid, e, h)) = ap (begins after_head) e

abbrev is_arrow : Token → Bool
is_arrow ArrowToken = true
is_arrow other = false

head_no_arrow : (head : Head) (ts r : List Token) → WideHeadAt head ts r → begins is_arrow ts ≡ false
head_no_arrow (Disj atoms) ts r h = disjunction_begins is_arrow (λ n. refl) refl atoms ts r h
head_no_arrow (Choice low elements high) ts r (mid, closed, l, h, u) = low_begins is_arrow false (λ x. refl) refl low ts mid l

rule_and_constraint : {A : Type 0} (q r : Rule) (ts t u : List Token) → WideRuleAt q ts t → ConstraintAt r ts u → A
rule_and_constraint q r ts t u (mid, head, body) (next, eh, e, h) = clash (sym (head_no_arrow q.head ts mid head) ∙ ap (begins is_arrow) e)

rules_agree : (q r : Rule) (ts t u : List Token) → WideRuleAt q ts t → WideRuleAt r ts u → (bare_rule q ≡ bare_rule r) × (t ≡ u)
rules_agree q r ts t u (mid, head, body) (mid', head', body') =
    let d = wide_head_alone q.head r.head ts mid mid' head head' (signed_after_head q.body mid t body) (signed_after_head r.body mid' u body') in
    let f = signed_alone ArrowToken refl q.body r.body mid (DotToken ∷ t) (DotToken ∷ u) body (subst (λ m. SignedBodyAt ArrowToken r.body m (DotToken ∷ u)) (sym d.1) body') refl refl in
    (ap (λ h. make_rule h (map bare_literal q.body)) d.0 ∙ ap (make_rule (bare_head r.head)) f.0, ap (drop 1) f.1)

constraints_agree : (q r : Rule) (ts t u : List Token) → ConstraintAt q ts t → ConstraintAt r ts u → (bare_rule q ≡ bare_rule r) × (t ≡ u)
constraints_agree q r ts t u (mid, eh, e, h) (mid', fh, f, k) =
    let same : mid ≡ mid' = ap (drop 1) (sym e ∙ f) in
    let d = body_alone q.body r.body mid (DotToken ∷ t) (DotToken ∷ u) h (subst (λ m. BodyAt r.body m (DotToken ∷ u)) (sym same) k) refl refl in
    (ap (λ head. make_rule (bare_head head) (map bare_literal q.body)) (eh ∙ sym fh) ∙ ap (make_rule (bare_head r.head)) d.0, ap (drop 1) d.1)

wide_agree : (q r : Rule) (ts t u : List Token) → WideRuleAt q ts t ⊎ ConstraintAt q ts t → WideRuleAt r ts u ⊎ ConstraintAt r ts u → (bare_rule q ≡ bare_rule r) × (t ≡ u)
wide_agree q r ts t u (inl h) (inl k) = rules_agree q r ts t u h k
wide_agree q r ts t u (inl h) (inr k) = rule_and_constraint q r ts t u h k
wide_agree q r ts t u (inr h) (inl k) = rule_and_constraint r q ts u t k h
wide_agree q r ts t u (inr h) (inr k) = constraints_agree q r ts t u h k

-- two readings of a statement are the same, their nameless variables numbered
pub statements_agree : (q r : Rule) (ts t u : List Token) → StatementAt q ts t → StatementAt r ts u → (q ≡ r) × (t ≡ u)
statements_agree q r ts t u h k =
    let d = wide_agree q r ts t u (wide_statement q ts t h) (wide_statement r ts u k) in
    (same_rule q r d.0 h.0 k.0, d.1)

-- ---- levels and programs

-- no statement begins with the rest
abbrev Ends : List Token → Type 0
Ends r = begins opens_statement r ≡ false

all_agree : (xs ys : List Rule) (ts r s : List Token) → AllAt StatementAt xs ts r → AllAt StatementAt ys ts s → Ends r → Ends s → (xs ≡ ys) × (r ≡ s)
all_agree [] [] ts r s h k er es = (refl, sym h ∙ k)
all_agree [] (y ∷ ys) ts r s h (mid, k, more) er es = clash (sym er ∙ ap (begins opens_statement) (sym h) ∙ statement_begins y ts mid k)
all_agree (x ∷ xs) [] ts r s (mid, h, more) k er es = clash (sym es ∙ ap (begins opens_statement) (sym k) ∙ statement_begins x ts mid h)
all_agree (x ∷ xs) (y ∷ ys) ts r s (mid, h, more) (mid', k, more') er es =
    let d = statements_agree x y ts mid mid' h k in
    let n = all_agree xs ys mid r s more (subst (λ m. AllAt StatementAt ys m s) (sym d.1) more') er es in
    (ap (λ z. z ∷ xs) d.0 ∙ ap (λ zs. y ∷ zs) n.0, n.1)

abbrev quant_of : List ℕ → Quant
quant_of [] = Exists
quant_of (b ∷ bs) = if b == 101 then Exists else Forall

abbrev first_word : List Token → List ℕ
first_word (DirectiveToken word ∷ ts) = word
first_word ts = []

quant_again : (q : Quant) → quant_of (quant_word q) ≡ q
quant_again Exists = refl
quant_again Forall = refl

abbrev make_part : Quant → List Rule → Part
make_part quant rules = record { quant = quant; rules = rules }

level_agrees : (x y : Part) (ts r s : List Token) → LevelAt x ts r → LevelAt y ts s → Ends r → Ends s → (x ≡ y) × (r ≡ s)
level_agrees x y ts r s (mid, e, h) (mid', f, k) er es =
    let whole = sym e ∙ f in
    let same : mid ≡ mid' = ap (drop 1) whole in
    let word : x.quant ≡ y.quant = sym (quant_again x.quant) ∙ ap (λ us. quant_of (first_word us)) whole ∙ quant_again y.quant in
    let d = all_agree x.rules y.rules mid r s h (subst (λ m. AllAt StatementAt y.rules m s) (sym same) k) er es in
    (ap (λ q. make_part q x.rules) word ∙ ap (make_part y.quant) d.0, d.1)

-- what follows a level begins no statement
opened_ends : (ts : List Token) → begins opens_level ts ≡ true → Ends ts
opened_ends [] h = clash h
opened_ends (DirectiveToken word ∷ ts) h = refl
opened_ends (other ∷ ts) h = clash h

levels_end : (parts : List Part) (ts r : List Token) → AllAt LevelAt parts ts r → Ends r → Ends ts
levels_end parts ts r h er = elim (levels_begin parts ts r h) [
  | inl e ↦ ap (begins opens_statement) e ∙ er
  | inr opens ↦ opened_ends ts opens
]

levels_agree : (xs ys : List Part) (ts r s : List Token) → AllAt LevelAt xs ts r → AllAt LevelAt ys ts s → Ends r → Ends s → begins opens_level r ≡ false → begins opens_level s ≡ false → (xs ≡ ys) × (r ≡ s)
levels_agree [] [] ts r s h k er es lr ls = (refl, sym h ∙ k)
levels_agree [] (y ∷ ys) ts r s h (mid, k, more) er es lr ls = clash (sym lr ∙ ap (begins opens_level) (sym h) ∙ level_begins y ts mid k)
levels_agree (x ∷ xs) [] ts r s (mid, h, more) k er es lr ls = clash (sym ls ∙ ap (begins opens_level) (sym k) ∙ level_begins x ts mid h)
levels_agree (x ∷ xs) (y ∷ ys) ts r s (mid, h, more) (mid', k, more') er es lr ls =
    let d = level_agrees x y ts mid mid' h k (levels_end xs mid r more er) (levels_end ys mid' s more' es) in
    let n = levels_agree xs ys mid r s more (subst (λ m. AllAt LevelAt ys m s) (sym d.1) more') er es lr ls in
    (ap (λ z. z ∷ xs) d.0 ∙ ap (λ zs. y ∷ zs) n.0, n.1)

cons_ends : (cons : List Rule) (ts : List Token) → ConstraintPartAt cons ts [] → Ends ts × (begins opens_level ts ≡ false)
cons_ends cons ts (inl (n, e)) = (ap (begins opens_statement) e, ap (begins opens_level) e)
cons_ends cons ts (inr (mid, e, h)) = (ap (begins opens_statement) e, ap (begins opens_level) e)

cons_agree : (xs ys : List Rule) (ts : List Token) → ConstraintPartAt xs ts [] → ConstraintPartAt ys ts [] → xs ≡ ys
cons_agree xs ys ts (inl (n, e)) (inl (m, f)) = n ∙ sym m
cons_agree xs ys ts (inl (n, e)) (inr (mid, f, k)) = clash (ap is_empty (sym f ∙ e))
cons_agree xs ys ts (inr (mid, e, h)) (inl (m, f)) = clash (ap is_empty (sym e ∙ f))
cons_agree xs ys ts (inr (mid, e, h)) (inr (mid', f, k)) =
    let same : mid ≡ mid' = ap (drop 1) (sym e ∙ f) in
    (all_agree xs ys mid [] [] h (subst (λ m. AllAt StatementAt ys m []) (sym same) k) refl refl).0

abbrev make_program : List Part → List Rule → Program
make_program levels cons = record { levels = levels; cons = cons }

-- no tokens are two programs
pub programs_agree : (ts : List Token) (p q : Program) → IsProgram ts p → IsProgram ts q → p ≡ q
programs_agree ts p q (mid, some, levels, cons) (mid', some', levels', cons') =
    let a = cons_ends p.cons mid cons in
    let b = cons_ends q.cons mid' cons' in
    let d = levels_agree p.levels q.levels ts mid mid' levels levels' a.0 b.0 a.1 b.1 in
    let c = cons_agree p.cons q.cons mid cons (subst (λ m. ConstraintPartAt q.cons m []) (sym d.1) cons') in
    ap (λ l. make_program l p.cons) d.0 ∙ ap (make_program q.levels) c
