-- A program of a text has a level, and its intervals stand in facts alone.
use Rattle.std.proofs.Common.{◌≡◌, ◌⊎◌, refl, ◌∙◌, ap, inl, inr, Bool, true, false, ◌&&◌, cond, List, [], ◌∷◌, ◌++◌}
use Rattle.std.specs.List.{flat_map, list_all}
use Rattle.asp_defs.specs.declared.syntax.Term.{Term}
use Rattle.asp_defs.specs.declared.syntax.Term.TheVariants.{Int, Sym, Var, Anon, Range}
use Rattle.asp_defs.specs.declared.syntax.Atom.{Atom}
use Rattle.asp_defs.specs.declared.syntax.Literal.{Literal}
use Rattle.asp_defs.specs.declared.syntax.Literal.TheVariants.{Pos, Neg, Cmp}
use Rattle.asp_defs.specs.declared.syntax.Element.{Element}
use Rattle.asp_defs.specs.declared.syntax.Head.{Head}
use Rattle.asp_defs.specs.declared.syntax.Head.TheVariants.{Disj, Choice}
use Rattle.asp_defs.specs.declared.syntax.Rule.{Rule}
use Rattle.asp_defs.specs.declared.syntax.Part.{Part}
use Rattle.asp_defs.specs.Tokens.{Token, without_places, RightBraceToken, RightParenToken, DotToken, ArrowToken, ColonToken}
use Rattle.asp_defs.specs.Grammar.{Production, AllAt, JoinedAt, AnyJoinedAt, is_comma, is_semicolon, is_or, TermAt, AtomAt, LiteralAt, BodyAt, SignedBodyAt, ElementAt, HeadAt, FactAt, RuleAt, ConstraintAt, StatementAt, LevelAt, ConstraintPartAt}
use Rattle.asp_defs.proofs.Lists.{and_true, both}
use Rattle.asp_checked.specs.Condition.{is_single, is_single_atom, is_single_literal, is_single_element, is_single_head, is_fact, has_intervals_in_facts}
use Rattle.asp_check.specs.Laws.{ProgramsAreCheckable, TextsAreCheckable}
use Rattle.asp_check.proofs.Rules.{rules_are}

-- parts in a row pass where each part passes
joined_pass : {A : Type 0} (joins : Token → Bool) (At : Production A) (p : A → Bool) → ((x : A) (ts rest : List Token) → At x ts rest → p x ≡ true) → (xs : List A) (ts rest : List Token) → JoinedAt joins At xs ts rest → list_all p xs ≡ true
joined_pass joins At p passes [] ts rest h = absurd h
joined_pass joins At p passes (x ∷ []) ts rest h = and_true (p x) true (passes x ts rest h) refl
joined_pass joins At p passes (x ∷ y ∷ more) ts rest h =
    and_true (p x) (list_all p (y ∷ more)) (passes x ts (h.0 ∷ h.1) h.3) (joined_pass joins At p passes (y ∷ more) h.1 rest h.4)

any_pass : {A : Type 0} (joins : Token → Bool) (At : Production A) (p : A → Bool) → ((x : A) (ts rest : List Token) → At x ts rest → p x ≡ true) → (xs : List A) (ts rest : List Token) → AnyJoinedAt joins At xs ts rest → list_all p xs ≡ true
any_pass joins At p passes [] ts rest h = refl
any_pass joins At p passes (x ∷ xs) ts rest h = joined_pass joins At p passes (x ∷ xs) ts rest h

all_pass : {A : Type 0} (At : Production A) (p : A → Bool) → ((x : A) (ts rest : List Token) → At x ts rest → p x ≡ true) → (xs : List A) (ts rest : List Token) → AllAt At xs ts rest → list_all p xs ≡ true
all_pass At p passes [] ts rest h = refl
all_pass At p passes (x ∷ xs) ts rest h = and_true (p x) (list_all p xs) (passes x ts h.0 h.1) (all_pass At p passes xs h.0 rest h.2)

term_single : (t : Term) (ts rest : List Token) → TermAt t ts rest → is_single t ≡ true
term_single (Int x) ts rest h = refl
term_single (Sym s) ts rest h = refl
term_single (Var v) ts rest h = refl
term_single (Anon k) ts rest h = refl
term_single (Range low high) ts rest h = absurd h

atom_single : (a : Atom) (ts rest : List Token) → AtomAt a ts rest → is_single_atom a ≡ true
atom_single a ts rest h = elim h.2 [
  | inl none ↦ ap (list_all is_single) none.0
  | inr some ↦ any_pass is_comma TermAt is_single term_single a.args some.0 (RightParenToken ∷ rest) some.2
]

literal_single : (l : Literal) (ts rest : List Token) → LiteralAt l ts rest → is_single_literal l ≡ true
literal_single (Pos a) ts rest h = atom_single a ts rest h
literal_single (Neg a) ts rest h = atom_single a h.0 rest h.2
literal_single (Cmp x op y) ts rest h = and_true (is_single x) (is_single y) (term_single x ts (h.0 ∷ h.1) h.3) (term_single y h.1 rest h.4)

body_single : (body : List Literal) (ts rest : List Token) → BodyAt body ts rest → list_all is_single_literal body ≡ true
body_single = any_pass is_comma LiteralAt is_single_literal literal_single

signed_single : (sign : Token) (body : List Literal) (ts rest : List Token) → SignedBodyAt sign body ts rest → list_all is_single_literal body ≡ true
signed_single sign body ts rest (inl none) = ap (list_all is_single_literal) none.0
signed_single sign body ts rest (inr some) = body_single body some.0 rest some.2

element_single : (e : Element) (ts rest : List Token) → ElementAt e ts rest → is_single_element e ≡ true
element_single e ts rest h =
    and_true (is_single_atom e.atom) (list_all is_single_literal e.cond) (atom_single e.atom ts h.0 h.1) (signed_single ColonToken e.cond h.0 rest h.2)

head_single : (head : Head) (ts rest : List Token) → HeadAt head ts rest → is_single_head head ≡ true
head_single (Disj atoms) ts rest h = joined_pass is_or AtomAt is_single_atom atom_single atoms ts rest h
head_single (Choice low elements high) ts rest h = any_pass is_semicolon ElementAt is_single_element element_single elements h.0 (RightBraceToken ∷ h.1) h.3

-- a rule without intervals passes, a fact or not
without : (fact : Bool) (head body : Bool) → head ≡ true → body ≡ true → cond fact true (head && body) ≡ true
without true head body h b = refl
without false head body h b = and_true head body h b

rule_passes : (r : Rule) (ts rest : List Token) → StatementAt r ts rest → has_intervals_in_facts r ≡ true
rule_passes r ts rest h = go h.1
  where
    by_head : is_single_head r.head ≡ true → list_all is_single_literal r.body ≡ true → has_intervals_in_facts r ≡ true
    by_head p q = without (is_fact r) (is_single_head r.head) (list_all is_single_literal r.body) p q

    a_fact : FactAt r ts rest → has_intervals_in_facts r ≡ true
    a_fact f =
        ap (λ (head : Head). has_intervals_in_facts record { head = head; body = r.body }) f.1
        ∙ ap (λ (body : List Literal). has_intervals_in_facts record { head = Disj (f.0 ∷ []); body = body }) f.2

    go : FactAt r ts rest ⊎ (RuleAt r ts rest ⊎ ConstraintAt r ts rest) → has_intervals_in_facts r ≡ true
    go (inl f) = a_fact f
    go (inr (inl s)) = by_head (head_single r.head ts s.0 s.1) (signed_single ArrowToken r.body s.0 (DotToken ∷ rest) s.2)
    go (inr (inr s)) = by_head (ap is_single_head s.1) (body_single r.body s.0 (DotToken ∷ rest) s.3)

both_pass : (p : Rule → Bool) (rs ss : List Rule) → list_all p rs ≡ true → list_all p ss ≡ true → list_all p (rs ++ ss) ≡ true
both_pass p [] ss h k = k
both_pass p (r ∷ rs) ss h k =
    and_true (p r) (list_all p (rs ++ ss)) (both (p r) (list_all p rs) h).0 (both_pass p rs ss (both (p r) (list_all p rs) h).1 k)

levels_pass : (levels : List Part) (ts rest : List Token) → AllAt LevelAt levels ts rest → list_all has_intervals_in_facts (flat_map (λ (part : Part). part.rules) levels) ≡ true
levels_pass [] ts rest h = refl
levels_pass (part ∷ levels) ts rest h =
    both_pass has_intervals_in_facts part.rules (flat_map (λ (q : Part). q.rules) levels)
    (all_pass StatementAt has_intervals_in_facts rule_passes part.rules (h.1).0 h.0 (h.1).2)
    (levels_pass levels h.0 rest h.2)

constraints_pass : (cons : List Rule) (ts : List Token) → ConstraintPartAt cons ts [] → list_all has_intervals_in_facts cons ≡ true
constraints_pass cons ts (inl none) = ap (list_all has_intervals_in_facts) none.0
constraints_pass cons ts (inr some) = all_pass StatementAt has_intervals_in_facts rule_passes cons some.0 [] some.2

pub program_is_checkable : ProgramsAreCheckable
program_is_checkable ts p h = record {
  levels = h.1;
  intervals =
      ap (list_all has_intervals_in_facts) (rules_are p.levels p.cons)
      ∙ both_pass has_intervals_in_facts (flat_map (λ (part : Part). part.rules) p.levels) p.cons (levels_pass p.levels ts h.0 h.2) (constraints_pass p.cons h.0 h.3);
}

pub text_is_checkable : TextsAreCheckable
text_is_checkable bytes p h = program_is_checkable (without_places h.0) p h.2
