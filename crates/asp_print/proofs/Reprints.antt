-- Parts of a program: the text of a part that was read is read as the same part.
use Rattle.std.proofs.Common.{ℕ, ◌≡◌, refl, sym, ◌∙◌, ap, subst, inl, inr, Bool, true, false, not, List, [], ◌∷◌, ◌++◌, codes, append_assoc, append-nil}
use Rattle.std.specs.List.{list_all, flat_map, join_by}
use Rattle.std.specs.Prelude.{None, Some}
use Rattle.std.specs.Fmt.{signed_decimal}
use Rattle.asp_defs.specs.declared.syntax.Op.{Op}
use Rattle.asp_defs.specs.declared.syntax.Op.TheVariants.{Eq, Ne, Lt, Le, Gt, Ge}
use Rattle.asp_defs.specs.declared.syntax.Term.{Term}
use Rattle.asp_defs.specs.declared.syntax.Term.TheVariants.{Int, Sym, Var, Anon, Range}
use Rattle.asp_defs.specs.declared.syntax.Literal.{Literal}
use Rattle.asp_defs.specs.declared.syntax.Literal.TheVariants.{Pos, Neg, Cmp}
use Rattle.asp_defs.specs.Tokens.{Token, NotToken, NameToken, VariableToken, AnonymousToken, NumberToken, MinusToken, DotsToken, CommaToken, ColonToken, LeftParenToken, RightParenToken, is_bad_number}
use Rattle.asp_defs.specs.Grammar.{Production, JoinedAt, AnyJoinedAt, is_comma, TermAt, WideTermAt, PredicateAt, AtomWithAt, AtomAt, WideAtomAt, is_operator, LiteralAt, BodyAt, SignedBodyAt, ElementAt, BoundAt}
use Rattle.asp_defs.specs.Canonical.{term_text, atom_text, op_text, literal_text, literals_text, behind_sign, element_text, low_text, high_text}
use Rattle.asp_defs.proofs.Lists.{both, not_true}
use Rattle.asp_print.proofs.Shapes.{is_spelled, is_formed}
use Rattle.asp_print.proofs.Lexing.{Lexes, stops, blank, comma, colon, left_paren, right_paren, anonymous, dots, negation, op_token, operator, lexes_name, lexes_variable}
use Rattle.asp_print.proofs.Numerals.{lexes_number, lexes_negated}

-- each token is formed
abbrev pub Formed : List Token → Type 0
Formed ts = list_all is_formed ts ≡ true

pub formed_rest : (t : Token) (ts us : List Token) → us ≡ t ∷ ts → Formed us → (is_formed t ≡ true) × Formed ts
formed_rest t ts us e h = both (is_formed t) (list_all is_formed ts) (subst Formed e h)

spelled : (t : Token) → is_formed t ≡ true → is_spelled t ≡ true
spelled t h = (both (is_spelled t) (not (is_bad_number t)) h).0

in_range : (t : Token) → is_formed t ≡ true → is_bad_number t ≡ false
in_range t h = not_true (is_bad_number t) (both (is_spelled t) (not (is_bad_number t)) h).1

-- the text of a part, before bytes that give tokens and end a name, gives tokens that begin with a form of the part
pub record Respells {A : Type 0} (text : A → List ℕ) (At : Production A) (x : A) : Type 0 where
  pub spell : (bytes : List ℕ) (rest : List Token) → stops bytes ≡ true → Lexes bytes rest → (ts : List Token) × Lexes (text x ++ bytes) ts × At x ts rest

-- this holds of each part that formed tokens begin with
abbrev pub Reprints : {A : Type 0} → (A → List ℕ) → Production A → Type 0
Reprints {A} text At = (x : A) (ts rest : List Token) → At x ts rest → Formed ts → Formed rest × Respells text At x

-- the same bytes in another form
pub moved : {bytes others : List ℕ} {ts : List Token} → bytes ≡ others → Lexes bytes ts → Lexes others ts
moved {ts = ts} e h = subst (λ bs. Lexes bs ts) e h

pub three : (a b c d : List ℕ) → a ++ (b ++ (c ++ d)) ≡ a ++ b ++ c ++ d
three a b c d = sym (append_assoc a b (c ++ d)) ∙ sym (append_assoc (a ++ b) c d)

four : (a b c d e : List ℕ) → a ++ (b ++ (c ++ (d ++ e))) ≡ a ++ b ++ c ++ d ++ e
four a b c d e = three a b c (d ++ e) ∙ sym (append_assoc (a ++ b ++ c) d e)

pub five : (a b c d e f : List ℕ) → a ++ (b ++ (c ++ (d ++ (e ++ f)))) ≡ a ++ b ++ c ++ d ++ e ++ f
five a b c d e f = four a b c d (e ++ f) ∙ sym (append_assoc (a ++ b ++ c ++ d) e f)

-- ---- terms

pub term_reprints : Reprints term_text TermAt
term_reprints (Int x) ts rest e formed =
    let parts = formed_rest (NumberToken x) rest ts e formed in (
      parts.1,
      record { spell = λ bytes others end lex. (NumberToken x ∷ others, lexes_number x (in_range (NumberToken x) parts.0) bytes others end lex, refl) },
    )
term_reprints (Sym s) ts rest e formed =
    let parts = formed_rest (NameToken s) rest ts e formed in (
      parts.1,
      record { spell = λ bytes others end lex. (NameToken s ∷ others, lexes_name s (spelled (NameToken s) parts.0) bytes others end lex, refl) },
    )
term_reprints (Var v) ts rest e formed =
    let parts = formed_rest (VariableToken v) rest ts e formed in (
      parts.1,
      record { spell = λ bytes others end lex. (VariableToken v ∷ others, lexes_variable v (spelled (VariableToken v) parts.0) bytes others end lex, refl) },
    )
term_reprints (Anon k) ts rest e formed =
    let parts = formed_rest AnonymousToken rest ts e formed in
    (parts.1, record { spell = λ bytes others end lex. (AnonymousToken ∷ others, anonymous lex, refl) })
term_reprints (Range low high) ts rest e formed = absurd e

wide_term_reprints : Reprints term_text WideTermAt
wide_term_reprints (Int x) ts rest e formed = let term = term_reprints (Int x) ts rest e formed in (term.0, record { spell = term.1.spell })
wide_term_reprints (Sym s) ts rest e formed = let term = term_reprints (Sym s) ts rest e formed in (term.0, record { spell = term.1.spell })
wide_term_reprints (Var v) ts rest e formed = let term = term_reprints (Var v) ts rest e formed in (term.0, record { spell = term.1.spell })
wide_term_reprints (Anon k) ts rest e formed = let term = term_reprints (Anon k) ts rest e formed in (term.0, record { spell = term.1.spell })
wide_term_reprints (Range low high) ts rest e formed =
    let first = formed_rest (NumberToken low) (DotsToken ∷ NumberToken high ∷ rest) ts e formed in
    let sign = formed_rest DotsToken (NumberToken high ∷ rest) (DotsToken ∷ NumberToken high ∷ rest) refl first.1 in
    let second = formed_rest (NumberToken high) rest (NumberToken high ∷ rest) refl sign.1 in (
      second.1,
      record {
        spell = λ bytes others end lex. (
          NumberToken low ∷ DotsToken ∷ NumberToken high ∷ others,
          moved (three (signed_decimal low) (codes "..") (signed_decimal high) bytes)
              (lexes_number low (in_range (NumberToken low) first.0) (46 ∷ 46 ∷ (signed_decimal high ++ bytes)) (DotsToken ∷ NumberToken high ∷ others) refl
              (dots (lexes_number high (in_range (NumberToken high) second.0) bytes others end lex))),
          refl,
        );
      },
    )

-- ---- lists with signs between the parts

rejoined : (a s b f bytes : List ℕ) → a ++ (s ++ ((b ++ f) ++ bytes)) ≡ (a ++ ((s ++ b) ++ f)) ++ bytes
rejoined a s b f bytes =
    ap (λ l. a ++ l) (sym (append_assoc s (b ++ f) bytes) ∙ ap (λ l. l ++ bytes) (sym (append_assoc s b f)))
    ∙ sym (append_assoc a ((s ++ b) ++ f) bytes)

module _ {A : Type 0} (text : A → List ℕ) (At : Production A) (one : Reprints text At) (joins : Token → Bool) (sign : Token) (between : List ℕ)
    (joins_sign : joins sign ≡ true) (between_stops : (bytes : List ℕ) → stops (between ++ bytes) ≡ true)
    (between_lexes : (bytes : List ℕ) (ts : List Token) → Lexes bytes ts → Lexes (between ++ bytes) (sign ∷ ts)) where
  pub joined_reprints : Reprints (join_by text between) (JoinedAt joins At)
  joined_reprints [] ts rest h formed = absurd h
  joined_reprints (x ∷ []) ts rest h formed =
      let first = one x ts rest h formed in (
        first.0,
        record {
          spell = λ bytes others end lex.
              let (us, cut, at) = first.1.spell bytes others end lex in
              (us, moved (ap (λ l. l ++ bytes) (sym (append-nil (text x)))) cut, at);
        },
      )
  joined_reprints (x ∷ y ∷ more) ts rest (given, mid, j, h, others) formed =
      let first = one x ts (given ∷ mid) h formed in
      let next = joined_reprints (y ∷ more) mid rest others (formed_rest given mid (given ∷ mid) refl first.0).1 in (
        next.0,
        record {
          spell = λ bytes behind end lex.
              let (us, cut, at) = next.1.spell bytes behind end lex in
              let tail : List ℕ = join_by text between (y ∷ more) ++ bytes in
              let (vs, cut', at') = first.1.spell (between ++ tail) (sign ∷ us) (between_stops tail) (between_lexes tail us cut) in
              (vs, moved (rejoined (text x) between (text y) (flat_map (λ z. between ++ text z) more) bytes) cut', (sign, us, joins_sign, at', at));
        },
      )

  pub any_reprints : Reprints (join_by text between) (AnyJoinedAt joins At)
  any_reprints [] ts rest e formed = (subst Formed e formed, record { spell = λ bytes others end lex. (others, lex, refl) })
  any_reprints (x ∷ xs) ts rest h formed = let joined = joined_reprints (x ∷ xs) ts rest h formed in (joined.0, record { spell = joined.1.spell })

-- ---- atoms

abbrev name_text : List ℕ → List ℕ
name_text name = name

predicate_reprints : Reprints name_text PredicateAt
predicate_reprints name ts rest (inl e) formed =
    let parts = formed_rest (NameToken name) rest ts e formed in (
      parts.1,
      record { spell = λ bytes others end lex. (NameToken name ∷ others, lexes_name name (spelled (NameToken name) parts.0) bytes others end lex, inl refl) },
    )
predicate_reprints name ts rest (inr (plain, n, e)) formed =
    let first = formed_rest MinusToken (NameToken plain ∷ rest) ts e formed in
    let parts = formed_rest (NameToken plain) rest (NameToken plain ∷ rest) refl first.1 in (
      parts.1,
      record {
        spell = λ bytes others end lex. (
          MinusToken ∷ NameToken plain ∷ others,
          moved (ap (λ l. l ++ bytes) (sym n)) (lexes_negated plain (spelled (NameToken plain) parts.0) bytes others end lex),
          inr (plain, n, refl),
        );
      },
    )

module _ (At : Production Term) (one : Reprints term_text At) where
  bare : (name : List ℕ) → Respells name_text PredicateAt name → Respells atom_text (AtomWithAt At) (record { name = name; args = [] })
  bare name h = record {
    spell = λ bytes others end lex. let (us, cut, at) = h.spell bytes others end lex in (us, cut, (others, at, inl (refl, refl)));
  }

  atom_parts : (name : List ℕ) (args : List Term) (ts rest : List Token) → AtomWithAt At (record { name = name; args = args }) ts rest → Formed ts
      → Formed rest × Respells atom_text (AtomWithAt At) (record { name = name; args = args })
  atom_parts name [] ts rest (mid, n, inl (none, f)) formed =
      let parts = predicate_reprints name ts mid n formed in
      (subst Formed f parts.0, bare name parts.1)
  atom_parts name [] ts rest (mid, n, inr (inside, f, h)) formed =
      let parts = predicate_reprints name ts mid n formed in
      let open_ = formed_rest LeftParenToken inside mid f parts.0 in
      ((formed_rest RightParenToken rest inside h open_.1).1, bare name parts.1)
  atom_parts name (x ∷ xs) ts rest (mid, n, inl (none, f)) formed = absurd (cc)
  atom_parts name (x ∷ xs) ts rest (mid, n, inr (inside, f, h)) formed =
      let parts = predicate_reprints name ts mid n formed in
      let open_ = formed_rest LeftParenToken inside mid f parts.0 in
      let terms = joined_reprints term_text At one is_comma CommaToken (codes ",") refl (λ bytes. refl) (λ bytes us lex. comma lex) (x ∷ xs) inside (RightParenToken ∷ rest) h open_.1 in (
        (formed_rest RightParenToken rest (RightParenToken ∷ rest) refl terms.0).1,
        record {
          spell = λ bytes others end lex.
              let (us, cut, at) = terms.1.spell (41 ∷ bytes) (RightParenToken ∷ others) refl (right_paren lex) in
              let inner : List ℕ = join_by term_text (codes ",") (x ∷ xs) in
              let (vs, cut', at') = parts.1.spell (40 ∷ (inner ++ 41 ∷ bytes)) (LeftParenToken ∷ us) refl (left_paren cut) in
              (vs, moved (four name (codes "(") inner (codes ")") bytes) cut', (LeftParenToken ∷ us, at', inr (us, refl, at)));
        },
      )

  atom_with_reprints : Reprints atom_text (AtomWithAt At)
  atom_with_reprints a ts rest h formed = atom_parts a.name a.args ts rest h formed

pub atom_reprints : Reprints atom_text AtomAt
atom_reprints = atom_with_reprints TermAt term_reprints

pub wide_atom_reprints : Reprints atom_text WideAtomAt
wide_atom_reprints = atom_with_reprints WideTermAt wide_term_reprints

-- ---- literals and bodies

op_joins : (op : Op) → is_operator op (op_token op) ≡ true
op_joins Eq = refl
op_joins Ne = refl
op_joins Lt = refl
op_joins Le = refl
op_joins Gt = refl
op_joins Ge = refl

literal_reprints : Reprints literal_text LiteralAt
literal_reprints (Pos a) ts rest h formed = let atom = atom_reprints a ts rest h formed in (atom.0, record { spell = atom.1.spell })
literal_reprints (Neg a) ts rest (mid, e, h) formed =
    let atom = atom_reprints a mid rest h (formed_rest NotToken mid ts e formed).1 in (
      atom.0,
      record {
        spell = λ bytes others end lex.
            let (us, cut, at) = atom.1.spell bytes others end lex in
            (NotToken ∷ us, negation cut, (us, refl, at));
      },
    )
literal_reprints (Cmp x op y) ts rest (given, mid, o, left, right) formed =
    let first = term_reprints x ts (given ∷ mid) left formed in
    let second = term_reprints y mid rest right (formed_rest given mid (given ∷ mid) refl first.0).1 in (
      second.0,
      record {
        spell = λ bytes others end lex.
            let (us, cut, at) = second.1.spell bytes others end lex in
            let (vs, cut', at') = first.1.spell (32 ∷ (op_text op ++ 32 ∷ (term_text y ++ bytes))) (op_token op ∷ us) refl (blank (operator cut op)) in
            (vs, moved (five (term_text x) (codes " ") (op_text op) (codes " ") (term_text y) bytes) cut', (op_token op, us, op_joins op, at', at));
      },
    )

pub body_reprints : Reprints literals_text BodyAt
body_reprints = any_reprints literal_text LiteralAt literal_reprints is_comma CommaToken (codes ", ") refl (λ bytes. refl) (λ bytes ts lex. comma (blank lex))

-- a body behind a sign, which begins with a blank
pub stops_behind : (sign : List ℕ) (body : List Literal) (bytes : List ℕ) → stops bytes ≡ true → stops (behind_sign (32 ∷ sign) body ++ bytes) ≡ true
stops_behind sign [] bytes h = h
stops_behind sign (l ∷ body) bytes h = refl

module _ (sign : Token) (text : List ℕ) (sign_lexes : (bytes : List ℕ) (ts : List Token) → Lexes bytes ts → Lexes (32 ∷ (text ++ bytes)) (sign ∷ ts)) where
  no_body : Respells (behind_sign (32 ∷ text)) (SignedBodyAt sign) []
  no_body = record { spell = λ bytes others end lex. (others, lex, inl (refl, refl)) }

  pub signed_reprints : Reprints (behind_sign (32 ∷ text)) (SignedBodyAt sign)
  signed_reprints [] ts rest (inl (none, e)) formed = (subst Formed e formed, no_body)
  signed_reprints [] ts rest (inr (mid, e, h)) formed = (subst Formed h (formed_rest sign mid ts e formed).1, no_body)
  signed_reprints (l ∷ body) ts rest (inl (none, e)) formed = absurd (cc)
  signed_reprints (l ∷ body) ts rest (inr (mid, e, h)) formed =
      let inside = body_reprints (l ∷ body) mid rest h (formed_rest sign mid ts e formed).1 in (
        inside.0,
        record {
          spell = λ bytes others end lex.
              let (us, cut, at) = inside.1.spell bytes others end lex in (
                sign ∷ us,
                moved (sym (append_assoc (32 ∷ text) (literals_text (l ∷ body)) bytes)) (sign_lexes (literals_text (l ∷ body) ++ bytes) us cut),
                inr (us, refl, at),
              );
        },
      )

pub element_reprints : Reprints element_text ElementAt
element_reprints e ts rest (mid, atom, cond) formed =
    let first = atom_reprints e.atom ts mid atom formed in
    let second = signed_reprints ColonToken (codes ": ") (λ bytes us lex. blank (colon lex)) e.cond mid rest cond first.0 in (
      second.0,
      record {
        spell = λ bytes others end lex.
            let (us, cut, at) = second.1.spell bytes others end lex in
            let (vs, cut', at') = first.1.spell (behind_sign (codes " : ") e.cond ++ bytes) us (stops_behind (codes ": ") e.cond bytes end) cut in
            (vs, moved (sym (append_assoc (atom_text e.atom) (behind_sign (codes " : ") e.cond) bytes)) cut', (us, at', at));
      },
    )

-- ---- bounds of choices

pub low_reprints : Reprints low_text BoundAt
low_reprints None ts rest e formed = (subst Formed e formed, record { spell = λ bytes others end lex. (others, lex, refl) })
low_reprints (Some x) ts rest e formed =
    let parts = formed_rest (NumberToken x) rest ts e formed in (
      parts.1,
      record {
        spell = λ bytes others end lex. (
          NumberToken x ∷ others,
          moved (sym (append_assoc (signed_decimal x) (codes " ") bytes)) (lexes_number x (in_range (NumberToken x) parts.0) (32 ∷ bytes) others refl (blank lex)),
          refl,
        );
      },
    )

pub high_reprints : Reprints high_text BoundAt
high_reprints None ts rest e formed = (subst Formed e formed, record { spell = λ bytes others end lex. (others, lex, refl) })
high_reprints (Some x) ts rest e formed =
    let parts = formed_rest (NumberToken x) rest ts e formed in (
      parts.1,
      record {
        spell = λ bytes others end lex. (
          NumberToken x ∷ others,
          blank (lexes_number x (in_range (NumberToken x) parts.0) bytes others end lex),
          refl,
        );
      },
    )
