-- Rules, levels and programs: the text of a part that was read is read as the same part.
use Rattle.std.proofs.Common.{ℕ, ◌≡◌, refl, sym, ◌∙◌, ap, subst, inl, inr, List, [], ◌∷◌, ◌++◌, codes, append_assoc, append-nil}
use Rattle.std.specs.List.{flat_map, join_by}
use Rattle.asp_defs.specs.declared.syntax.Head.{Head}
use Rattle.asp_defs.specs.declared.syntax.Head.TheVariants.{Disj, Choice}
use Rattle.asp_defs.specs.declared.syntax.Rule.{Rule}
use Rattle.asp_defs.specs.Tokens.{Token, DirectiveToken, ArrowToken, DotToken, BarToken, SemicolonToken, LeftBraceToken, RightBraceToken, without_places}
use Rattle.asp_defs.specs.Grammar.{Production, AllAt, AtomAt, ElementAt, is_or, is_semicolon, HeadAt, StatementAt, quant_word, LevelAt, ConstraintPartAt, IsProgram}
use Rattle.asp_defs.specs.Lines.{line}
use Rattle.asp_defs.specs.Canonical.{atom_text, literals_text, behind_sign, element_text, low_text, high_text, head_text, headed_text, statement_text, rule_line, level_text, constraint_part_text, program_text}
use Rattle.asp_print.specs.Laws.{CanonicalTextIsAText}
use Rattle.asp_print.proofs.Forms.{headed}
use Rattle.asp_print.proofs.Shapes.{tokens_formed}
use Rattle.asp_print.proofs.Lexing.{Lexes, nothing_lexes, blank, semicolon, bar, left_brace, right_brace, dot, arrow, level_directive, constraint_directive}
use Rattle.asp_print.proofs.Reprints.{Formed, formed_rest, Reprints, moved, three, five, joined_reprints, any_reprints, atom_reprints, wide_atom_reprints, body_reprints, stops_behind, signed_reprints, element_reprints, low_reprints, high_reprints}

head_reprints : Reprints head_text HeadAt
head_reprints (Disj atoms) ts rest h formed =
    let joined = joined_reprints atom_text AtomAt atom_reprints is_or BarToken (codes " | ") refl (λ bytes. refl) (λ bytes us lex. blank (bar (blank lex))) atoms ts rest h formed in
    (joined.0, record { spell = joined.1.spell })
head_reprints (Choice low elements high) ts rest (mid, closed, l, h, u) formed =
    let first = low_reprints low ts (LeftBraceToken ∷ mid) l formed in
    let inside = any_reprints element_text ElementAt element_reprints is_semicolon SemicolonToken (codes "; ") refl (λ bytes. refl) (λ bytes us lex. semicolon (blank lex)) elements mid (RightBraceToken ∷ closed) h (formed_rest LeftBraceToken mid (LeftBraceToken ∷ mid) refl first.0).1 in
    let last = high_reprints high closed rest u (formed_rest RightBraceToken closed (RightBraceToken ∷ closed) refl inside.0).1 in (
      last.0,
      record {
        spell = λ bytes others end lex.
            let inner : List ℕ = join_by element_text (codes "; ") elements in
            let tail : List ℕ = high_text high ++ bytes in
            let (us, cut, at) = last.1.spell bytes others end lex in
            let (vs, cut', at') = inside.1.spell (125 ∷ tail) (RightBraceToken ∷ us) refl (right_brace cut) in
            let (ws, cut'', at'') = first.1.spell (123 ∷ (inner ++ 125 ∷ tail)) (LeftBraceToken ∷ vs) refl (left_brace cut') in
            (ws, moved (five (low_text low) (codes "{") inner (codes "}") (high_text high) bytes) cut'', (vs, us, at'', at', at));
      },
    )

-- ---- lines: whatever bytes stand behind them

pub record RespellsLines {A : Type 0} (text : A → List ℕ) (At : Production A) (x : A) : Type 0 where
  pub spell : (bytes : List ℕ) (rest : List Token) → Lexes bytes rest → (ts : List Token) × Lexes (text x ++ bytes) ts × At x ts rest

abbrev pub ReprintsLines : {A : Type 0} → (A → List ℕ) → Production A → Type 0
ReprintsLines {A} text At = (x : A) (ts rest : List Token) → At x ts rest → Formed ts → Formed rest × RespellsLines text At x

-- a statement's text, its full stop and its line feed are its line
lined : (r : Rule) (text bytes : List ℕ) → text ≡ statement_text r.head r.body → text ++ (46 ∷ 10 ∷ bytes) ≡ rule_line r ++ bytes
lined r text bytes e =
    ap (λ l. l ++ (46 ∷ 10 ∷ bytes)) e ∙ three (statement_text r.head r.body) (codes ".") (10 ∷ []) bytes

statement_reprints : ReprintsLines rule_line StatementAt
statement_reprints r ts rest (n, inl (a, eh, eb, h)) formed =
    let atom = wide_atom_reprints a ts (DotToken ∷ rest) h formed in
    let text : atom_text a ≡ statement_text r.head r.body =
    sym (append-nil (atom_text a)) ∙ sym (append-nil (atom_text a ++ [])) ∙ ap (λ head. statement_text head []) (sym eh) ∙ ap (statement_text r.head) (sym eb) in (
      (formed_rest DotToken rest (DotToken ∷ rest) refl atom.0).1,
      record {
        spell = λ bytes others lex.
            let (us, cut, at) = atom.1.spell (46 ∷ 10 ∷ bytes) (DotToken ∷ others) refl (dot lex) in
            (us, moved (lined r (atom_text a) bytes text) cut, (n, inl (a, eh, eb, at)));
      },
    )
statement_reprints r ts rest (n, inr (inl (mid, head, body))) formed =
    let first = head_reprints r.head ts mid head formed in
    let second = signed_reprints ArrowToken (codes ":- ") (λ bytes us lex. blank (arrow lex)) r.body mid (DotToken ∷ rest) body first.0 in
    let some : r.head ≡ Disj [] → ⊥ = λ none. subst (λ (h : Head). HeadAt h ts mid) none head in (
      (formed_rest DotToken rest (DotToken ∷ rest) refl second.0).1,
      record {
        spell = λ bytes others lex.
            let (us, cut, at) = second.1.spell (46 ∷ 10 ∷ bytes) (DotToken ∷ others) refl (dot lex) in
            let behind : List ℕ = behind_sign (codes " :- ") r.body in
            let (vs, cut', at') = first.1.spell (behind ++ (46 ∷ 10 ∷ bytes)) us (stops_behind (codes ":- ") r.body (46 ∷ 10 ∷ bytes) refl) cut in (
              vs,
              moved (sym (append_assoc (head_text r.head) behind (46 ∷ 10 ∷ bytes)) ∙ lined r (headed_text r.head r.body) bytes (headed r.head r.body some)) cut',
              (n, inr (inl (us, at', at))),
            );
      },
    )
statement_reprints r ts rest (n, inr (inr (mid, eh, e, body))) formed =
    let inside = body_reprints r.body mid (DotToken ∷ rest) body (formed_rest ArrowToken mid ts e formed).1 in (
      (formed_rest DotToken rest (DotToken ∷ rest) refl inside.0).1,
      record {
        spell = λ bytes others lex.
            let (us, cut, at) = inside.1.spell (46 ∷ 10 ∷ bytes) (DotToken ∷ others) refl (dot lex) in (
              ArrowToken ∷ us,
              moved (lined r (codes ":- " ++ literals_text r.body) bytes (ap (λ head. statement_text head r.body) (sym eh))) (arrow cut),
              (n, inr (inr (us, eh, refl, at))),
            );
      },
    )

all_reprints : {A : Type 0} (text : A → List ℕ) (At : Production A) → ReprintsLines text At → ReprintsLines (flat_map text) (AllAt At)
all_reprints text At one [] ts rest e formed = (subst Formed e formed, record { spell = λ bytes others lex. (others, lex, refl) })
all_reprints text At one (x ∷ xs) ts rest (mid, h, more) formed =
    let first = one x ts mid h formed in
    let next = all_reprints text At one xs mid rest more first.0 in (
      next.0,
      record {
        spell = λ bytes others lex.
            let (us, cut, at) = next.1.spell bytes others lex in
            let (vs, cut', at') = first.1.spell (flat_map text xs ++ bytes) us cut in
            (vs, moved (sym (append_assoc (text x) (flat_map text xs) bytes)) cut', (us, at', at));
      },
    )

level_reprints : ReprintsLines level_text LevelAt
level_reprints part ts rest (mid, e, rules) formed =
    let inside = all_reprints rule_line StatementAt statement_reprints part.rules mid rest rules (formed_rest (DirectiveToken (quant_word part.quant)) mid ts e formed).1 in (
      inside.0,
      record {
        spell = λ bytes others lex.
            let (us, cut, at) = inside.1.spell bytes others lex in (
              DirectiveToken (quant_word part.quant) ∷ us,
              moved (sym (append_assoc (line (codes "%@" ++ quant_word part.quant)) (flat_map rule_line part.rules) bytes)) (level_directive cut part.quant),
              (us, refl, at),
            );
      },
    )

no_rules : RespellsLines constraint_part_text ConstraintPartAt []
no_rules = record { spell = λ bytes others lex. (others, lex, inl (refl, refl)) }

constraint_part_reprints : ReprintsLines constraint_part_text ConstraintPartAt
constraint_part_reprints [] ts rest (inl (none, e)) formed = (subst Formed e formed, no_rules)
constraint_part_reprints [] ts rest (inr (mid, e, h)) formed = (subst Formed h (formed_rest (DirectiveToken (codes "constraint")) mid ts e formed).1, no_rules)
constraint_part_reprints (r ∷ rules) ts rest (inl (none, e)) formed = absurd (cc)
constraint_part_reprints (r ∷ rules) ts rest (inr (mid, e, h)) formed =
    let inside = all_reprints rule_line StatementAt statement_reprints (r ∷ rules) mid rest h (formed_rest (DirectiveToken (codes "constraint")) mid ts e formed).1 in (
      inside.0,
      record {
        spell = λ bytes others lex.
            let (us, cut, at) = inside.1.spell bytes others lex in (
              DirectiveToken (codes "constraint") ∷ us,
              moved (sym (append_assoc (line (codes "%@constraint")) (flat_map rule_line (r ∷ rules)) bytes)) (constraint_directive cut),
              inr (us, refl, at),
            );
      },
    )

pub canonical_text_is_a_text : CanonicalTextIsAText
canonical_text_is_a_text bytes p (ts, e, (mid, some, levels, cons)) =
    let first = all_reprints level_text LevelAt level_reprints p.levels (without_places ts) mid levels (tokens_formed bytes ts e) in
    let second = constraint_part_reprints p.cons mid [] cons first.0 in
    let (us, cut, at) = second.1.spell [] [] nothing_lexes in
    let (vs, cut', at') = first.1.spell (constraint_part_text p.cons ++ []) us cut in
    let whole : Lexes (program_text p) vs = moved (ap (λ l. flat_map level_text p.levels ++ l) (append-nil (constraint_part_text p.cons))) cut' in
    let (placed, f, g) = whole.cut 0 in
    (placed, f, subst (λ l. IsProgram l p) (sym g) (us, some, at', at))
