-- No tokens are two programs: two readings of the same tokens have the same part and the same rest, where what follows a
-- part is among the tokens that may.
use Rattle.std.proofs.Common.{ℕ, ◌≡◌, refl, sym, ◌∙◌, ap, subst, inl, inr, Bool, true, false, List, [], ◌∷◌, ◌++◌, map, drop, codes}
use Rattle.asp_defs.specs.declared.syntax.Term.{Term}
use Rattle.asp_defs.specs.declared.syntax.Term.TheVariants.{Int, Sym, Var, Anon, Range}
use Rattle.asp_defs.specs.Tokens.{Token, NameToken, VariableToken, AnonymousToken, NumberToken, MinusToken, ArrowToken, ColonToken, DotToken, DotsToken, CommaToken, SemicolonToken, BarToken, RightParenToken, RightBraceToken}
use Rattle.asp_defs.specs.Grammar.{Production, JoinedAt, AnyJoinedAt, is_comma, TermAt, WideTermAt, ArgumentsAt, PredicateAt, AtomWithAt, AtomAt, WideAtomAt}
use Rattle.asp_defs.proofs.Numbering.{bare_term, bare_atom, make_atom}
use Rattle.asp_defs.proofs.TextRefutations.{clash, begins}

-- ---- what may follow

abbrev pub lift : (p q : Token → Bool) → ((t : Token) → p t ≡ true → q t ≡ true) → (r : List Token) → begins p r ≡ true → begins q r ≡ true
lift p q f [] h = clash h
lift p q f (t ∷ r) h = f t h

-- two readings with such a rest agree, up to the numbers of nameless variables
abbrev pub Alone : {A : Type 0} → Production A → (A → A) → (Token → Bool) → Type 0
Alone {A} At bare good = (x y : A) (ts r s : List Token) → At x ts r → At y ts s → begins good r ≡ true → begins good s ≡ true → (bare x ≡ bare y) × (r ≡ s)

-- a production never begins with such a token
abbrev pub Starts : {A : Type 0} → Production A → (Token → Bool) → Type 0
Starts {A} At after = (x : A) (ts r : List Token) → At x ts r → begins after ts ≡ false

-- ---- terms

abbrev pub in_args : Token → Bool
in_args CommaToken = true
in_args RightParenToken = true
in_args other = false

abbrev pub read_single : List Token → Term × List Token
read_single (NumberToken x ∷ r) = (Int x, r)
read_single (NameToken s ∷ r) = (Sym s, r)
read_single (VariableToken v ∷ r) = (Var v, r)
read_single ts = (Anon 0, drop 1 ts)

pub term_reads : (x : Term) (ts r : List Token) → TermAt x ts r → read_single ts ≡ (bare_term x, r)
term_reads (Int x) ts r e = ap read_single e
term_reads (Sym s) ts r e = ap read_single e
term_reads (Var v) ts r e = ap read_single e
term_reads (Anon k) ts r e = ap read_single e
term_reads (Range low high) ts r e = absurd e

pub term_alone : (x y : Term) (ts r s : List Token) → TermAt x ts r → TermAt y ts s → (bare_term x ≡ bare_term y) × (r ≡ s)
term_alone x y ts r s h k =
    let e = sym (term_reads x ts r h) ∙ term_reads y ts s k in (ap (λ p. p.0) e, ap (λ p. p.1) e)

abbrev pub read_wide : List Token → Term × List Token
read_wide (NumberToken low ∷ DotsToken ∷ NumberToken high ∷ r) = (Range low high, r)
read_wide (NumberToken x ∷ r) = (Int x, r)
read_wide (NameToken s ∷ r) = (Sym s, r)
read_wide (VariableToken v ∷ r) = (Var v, r)
read_wide ts = (Anon 0, drop 1 ts)

wide_reads : (x : Term) (ts r : List Token) → WideTermAt x ts r → begins in_args r ≡ true → read_wide ts ≡ (bare_term x, r)
wide_reads (Int x) ts [] e h = clash h
wide_reads (Int x) ts (CommaToken ∷ r) e h = ap read_wide e
wide_reads (Int x) ts (RightParenToken ∷ r) e h = ap read_wide e
wide_reads (Int x) ts (other ∷ r) e h = clash h
wide_reads (Sym s) ts r e h = ap read_wide e
wide_reads (Var v) ts r e h = ap read_wide e
wide_reads (Anon k) ts r e h = ap read_wide e
wide_reads (Range low high) ts r e h = ap read_wide e

pub wide_alone : Alone WideTermAt bare_term in_args
wide_alone x y ts r s h k gr gs =
    let e = sym (wide_reads x ts r h gr) ∙ wide_reads y ts s k gs in (ap (λ p. p.0) e, ap (λ p. p.1) e)

pub single_alone : Alone TermAt bare_term in_args
single_alone x y ts r s h k gr gs = term_alone x y ts r s h k

pub term_starts : (p : Token → Bool) → ((n : _) → p (NumberToken n) ≡ false) → ((n : _) → p (NameToken n) ≡ false) → ((n : _) → p (VariableToken n) ≡ false) → p AnonymousToken ≡ false → Starts TermAt p
term_starts p number name variable anonymous (Int x) ts r e = ap (begins p) e ∙ number x
term_starts p number name variable anonymous (Sym s) ts r e = ap (begins p) e ∙ name s
term_starts p number name variable anonymous (Var v) ts r e = ap (begins p) e ∙ variable v
term_starts p number name variable anonymous (Anon k) ts r e = ap (begins p) e ∙ anonymous
term_starts p number name variable anonymous (Range low high) ts r e = absurd e

wide_starts : (p : Token → Bool) → ((n : _) → p (NumberToken n) ≡ false) → ((n : _) → p (NameToken n) ≡ false) → ((n : _) → p (VariableToken n) ≡ false) → p AnonymousToken ≡ false → Starts WideTermAt p
wide_starts p number name variable anonymous (Int x) ts r e = ap (begins p) e ∙ number x
wide_starts p number name variable anonymous (Sym s) ts r e = ap (begins p) e ∙ name s
wide_starts p number name variable anonymous (Var v) ts r e = ap (begins p) e ∙ variable v
wide_starts p number name variable anonymous (Anon k) ts r e = ap (begins p) e ∙ anonymous
wide_starts p number name variable anonymous (Range low high) ts r e = ap (begins p) e ∙ number low

-- ---- lists

module _ {A : Type 0} {At : Production A} {bare : A → A} {good : Token → Bool} (alone : Alone At bare good) (joins after : Token → Bool) (j_good : (t : Token) → joins t ≡ true → good t ≡ true) (a_good : (t : Token) → after t ≡ true → good t ≡ true) (apart : (t : Token) → joins t ≡ true → after t ≡ true → ⊥) where
  pub joined_alone : Alone (JoinedAt joins At) (map bare) after
  joined_alone [] ys ts r s h k gr gs = absurd h
  joined_alone (x ∷ []) [] ts r s h k gr gs = absurd k
  joined_alone (x ∷ w ∷ xs) [] ts r s h k gr gs = absurd k
  joined_alone (x ∷ []) (y ∷ []) ts r s h k gr gs =
      let d = alone x y ts r s h k (lift after good a_good r gr) (lift after good a_good s gs) in (ap (λ z. z ∷ []) d.0, d.1)
  joined_alone (x ∷ []) (y ∷ z ∷ ys) ts r s h (sign, mid, j, k, more) gr gs =
      let d = alone x y ts r (sign ∷ mid) h k (lift after good a_good r gr) (j_good sign j) in
      absurd (apart sign j (ap (begins after) (sym d.1) ∙ gr))
  joined_alone (x ∷ w ∷ xs) (y ∷ []) ts r s (sign, mid, j, h, more) k gr gs =
      let d = alone x y ts (sign ∷ mid) s h k (j_good sign j) (lift after good a_good s gs) in
      absurd (apart sign j (ap (begins after) d.1 ∙ gs))
  joined_alone (x ∷ w ∷ xs) (y ∷ z ∷ ys) ts r s (sign, mid, j, h, more) (sign', mid', j', k, more') gr gs =
      let d = alone x y ts (sign ∷ mid) (sign' ∷ mid') h k (j_good sign j) (j_good sign' j') in
      let e : mid ≡ mid' = ap (drop 1) d.1 in
      let n = joined_alone (w ∷ xs) (z ∷ ys) mid r s more (subst (λ m. JoinedAt joins At (z ∷ ys) m s) (sym e) more') gr gs in
      (ap (λ v. v ∷ map bare (w ∷ xs)) d.0 ∙ ap (λ vs. bare y ∷ vs) n.0, n.1)

  pub joined_starts : Starts At after → Starts (JoinedAt joins At) after
  joined_starts starts [] ts r h = absurd h
  joined_starts starts (x ∷ []) ts r h = starts x ts r h
  joined_starts starts (x ∷ y ∷ more) ts r (sign, mid, j, h, others) = starts x ts (sign ∷ mid) h

  pub any_alone : Starts At after → Alone (AnyJoinedAt joins At) (map bare) after
  any_alone starts [] [] ts r s h k gr gs = (refl, sym h ∙ k)
  any_alone starts [] (y ∷ ys) ts r s h k gr gs =
      clash (sym (joined_starts starts (y ∷ ys) ts s k) ∙ ap (begins after) h ∙ gr)
  any_alone starts (x ∷ xs) [] ts r s h k gr gs =
      clash (sym (joined_starts starts (x ∷ xs) ts r h) ∙ ap (begins after) k ∙ gs)
  any_alone starts (x ∷ xs) (y ∷ ys) ts r s h k gr gs = joined_alone (x ∷ xs) (y ∷ ys) ts r s h k gr gs

-- ---- atoms

abbrev pub is_close : Token → Bool
is_close RightParenToken = true
is_close other = false

comma_in : (t : Token) → is_comma t ≡ true → in_args t ≡ true
comma_in CommaToken h = refl
comma_in other h = clash h

close_in : (t : Token) → is_close t ≡ true → in_args t ≡ true
close_in RightParenToken h = refl
close_in other h = clash h

comma_close : (t : Token) → is_comma t ≡ true → is_close t ≡ true → ⊥
comma_close CommaToken h k = clash k
comma_close other h k = clash h

-- what may follow an atom
abbrev pub after_atom : Token → Bool
after_atom BarToken = true
after_atom SemicolonToken = true
after_atom ArrowToken = true
after_atom DotToken = true
after_atom ColonToken = true
after_atom RightBraceToken = true
after_atom CommaToken = true
after_atom other = false

abbrev pub read_predicate : List Token → List ℕ × List Token
read_predicate (NameToken n ∷ r) = (n, r)
read_predicate (MinusToken ∷ NameToken n ∷ r) = (codes "-" ++ n, r)
read_predicate ts = ([], ts)

pub predicate_reads : (name : List ℕ) (ts r : List Token) → PredicateAt name ts r → read_predicate ts ≡ (name, r)
predicate_reads name ts r (inl e) = ap read_predicate e
predicate_reads name ts r (inr (bare, n, e)) = ap read_predicate e ∙ ap (λ m. (m, r)) (sym n)

arguments_alone : {At : Production Term} → Alone At bare_term in_args → Starts At is_close → Alone (ArgumentsAt At) (map bare_term) after_atom
arguments_alone alone starts xs ys ts r s (inl (n, e)) (inl (m, f)) gr gs = (ap (map bare_term) (n ∙ sym m), sym e ∙ f)
arguments_alone alone starts xs ys ts r s (inl (n, e)) (inr (mid, f, k)) gr gs = clash (ap (begins after_atom) (sym f ∙ e) ∙ gr)
arguments_alone alone starts xs ys ts r s (inr (mid, e, h)) (inl (m, f)) gr gs = clash (ap (begins after_atom) (sym e ∙ f) ∙ gs)
arguments_alone {At} alone starts xs ys ts r s (inr (mid, e, h)) (inr (mid', f, k)) gr gs =
    let same : mid ≡ mid' = ap (drop 1) (sym e ∙ f) in
    let d = any_alone alone is_comma is_close comma_in close_in comma_close starts xs ys mid (RightParenToken ∷ r) (RightParenToken ∷ s) h (subst (λ m. AnyJoinedAt is_comma At ys m (RightParenToken ∷ s)) (sym same) k) refl refl in
    (d.0, ap (drop 1) d.1)

atom_alone : {At : Production Term} → Alone At bare_term in_args → Starts At is_close → Alone (AtomWithAt At) bare_atom after_atom
atom_alone {At} alone starts a b ts r s (mid, n, h) (mid', m, k) gr gs =
    let whole = sym (predicate_reads a.name ts mid n) ∙ predicate_reads b.name ts mid' m in
    let same : mid ≡ mid' = ap (λ p. p.1) whole in
    let d = arguments_alone alone starts a.args b.args mid r s h (subst (λ m. ArgumentsAt At b.args m s) (sym same) k) gr gs in
    (ap (λ p. make_atom p.0 (map bare_term a.args)) whole ∙ ap (make_atom b.name) d.0, d.1)

pub single_atom_alone : Alone AtomAt bare_atom after_atom
single_atom_alone = atom_alone single_alone (term_starts is_close (λ n. refl) (λ n. refl) (λ n. refl) refl)

pub wide_atom_alone : Alone WideAtomAt bare_atom after_atom
wide_atom_alone = atom_alone wide_alone (wide_starts is_close (λ n. refl) (λ n. refl) (λ n. refl) refl)
