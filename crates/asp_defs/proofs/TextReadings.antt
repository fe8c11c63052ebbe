-- Derivations: texts that are read, with the forms of their parts.
use Rattle.std.proofs.Common.{ℕ, refl, inl, inr, List, [], ◌∷◌, ◌++◌, drop, codes}
use Rattle.asp_defs.specs.Tokens.{Token, CommaToken, SemicolonToken, NameToken, MinusToken, token_list}
use Rattle.asp_defs.specs.Grammar.{IsText, AtomAt, StatementAt}
use Rattle.asp_defs.specs.Examples as ex
use Rattle.asp_defs.specs.TextExamples as texts

-- the tokens of the close text from one on
abbrev rest : ℕ → List Token
rest k = drop k (token_list texts.close_text)

-- a name is an atom without arguments
named : (name : List ℕ) (ts : List Token) → AtomAt (record { name = name; args = [] }) (NameToken name ∷ ts) ts
named name ts = (ts, inl refl, inl (refl, refl))

rule_is_read : StatementAt texts.close_rule (rest 1) (rest 8)
rule_is_read = (
  refl,
  inr (inl (
    rest 2,
    named _ (rest 2),
    inr (rest 3, refl, (CommaToken, rest 5, refl, named _ (rest 4), (rest 6, refl, named _ (rest 7)))),
  )),
)

choice_is_read : StatementAt texts.close_choice (rest 8) (rest 16)
choice_is_read = (
  refl,
  inr (inl (
    rest 15,
    (
      rest 9,
      rest 15,
      refl,
      (
        SemicolonToken,
        rest 11,
        refl,
        (rest 10, named _ (rest 10), inl (refl, refl)),
        (rest 12, named _ (rest 12), inr (rest 13, refl, named _ (rest 14))),
      ),
      refl,
    ),
    inl (refl, refl),
  )),
)

pub close_text_is_read : IsText texts.close_text texts.close_program
close_text_is_read =
    (_, refl, ([], refl, ([], (rest 1, refl, (rest 8, rule_is_read, (rest 16, choice_is_read, refl))), refl), inl (refl, refl)))

-- ---- the text with nameless variables

-- its tokens from one on
abbrev left : ℕ → List Token
left k = drop k (token_list texts.nameless_text)

fact_is_read : StatementAt texts.interval_fact (left 1) (left 8)
fact_is_read = (refl, inl (_, refl, refl, (left 2, inl refl, inr (left 3, refl, refl))))

nameless_is_read : StatementAt texts.nameless_rule (left 8) (left 20)
nameless_is_read = (
  refl,
  inr (inl (
    left 9,
    named _ (left 9),
    inr (
      left 10,
      refl,
      (
        CommaToken,
        left 15,
        refl,
        (left 11, inl refl, inr (left 12, refl, refl)),
        (left 16, inl refl, inr (left 17, refl, refl)),
      ),
    ),
  )),
)

constraint_is_read : StatementAt (ex.denial []) (left 21) (left 23)
constraint_is_read = (refl, inr (inr (left 22, refl, refl, refl)))

pub nameless_text_is_read : IsText texts.nameless_text texts.nameless_program
nameless_text_is_read = (
  _,
  refl,
  (
    left 20,
    refl,
    (left 20, (left 1, refl, (left 8, fact_is_read, (left 20, nameless_is_read, refl))), refl),
    inr (left 21, refl, (left 23, constraint_is_read, refl)),
  ),
)

-- ---- the text with negated atoms

-- its tokens from one on
abbrev tail : ℕ → List Token
tail k = drop k (token_list texts.strong_text)

-- a minus and a name are an atom without arguments
negated : (name : List ℕ) (ts : List Token) → AtomAt (record { name = codes "-" ++ name; args = [] }) (MinusToken ∷ NameToken name ∷ ts) ts
negated name ts = (ts, inr (name, refl, refl), inl (refl, refl))

strong_fact_is_read : StatementAt texts.strong_fact (tail 1) (tail 9)
strong_fact_is_read = (refl, inl (_, refl, refl, (tail 3, inr (codes "p", refl, refl), inr (tail 4, refl, refl))))

strong_rule_is_read : StatementAt texts.strong_rule (tail 9) (tail 21)
strong_rule_is_read = (
  refl,
  inr (inl (
    tail 11,
    negated _ (tail 11),
    inr (
      tail 12,
      refl,
      (
        CommaToken,
        tail 16,
        refl,
        (tail 13, refl, negated _ (tail 15)),
        (tail 17, inl refl, inr (tail 18, refl, refl)),
      ),
    ),
  )),
)

pub strong_text_is_read : IsText texts.strong_text texts.strong_program
strong_text_is_read =
    (_, refl, ([], refl, ([], (tail 1, refl, (tail 9, strong_fact_is_read, (tail 21, strong_rule_is_read, refl))), refl), inl (refl, refl)))

-- ---- the text with bounds

-- its tokens from one on
abbrev after : ℕ → List Token
after k = drop k (token_list texts.bounded_text)

both_bounds_are_read : StatementAt texts.both_bounds (after 1) (after 12)
both_bounds_are_read = (
  refl,
  inr (inl (
    after 9,
    (
      after 3,
      after 8,
      refl,
      (
        SemicolonToken,
        after 5,
        refl,
        (after 4, named _ (after 4), inl (refl, refl)),
        (after 7, negated _ (after 7), inl (refl, refl)),
      ),
      refl,
    ),
    inr (after 10, refl, named _ (after 11)),
  )),
)

upper_bound_is_read : StatementAt texts.upper_bound (after 12) (after 17)
upper_bound_is_read = (
  refl,
  inr (inl (
    after 16,
    (after 13, after 15, refl, (after 14, named _ (after 14), inl (refl, refl)), refl),
    inl (refl, refl),
  )),
)

lower_bound_is_read : StatementAt texts.lower_bound (after 17) (after 22)
lower_bound_is_read = (
  refl,
  inr (inl (
    after 21,
    (after 19, after 21, refl, (after 20, named _ (after 20), inl (refl, refl)), refl),
    inl (refl, refl),
  )),
)

pub bounded_text_is_read : IsText texts.bounded_text texts.bounded_program
bounded_text_is_read = (
  _,
  refl,
  (
    [],
    refl,
    (
      [],
      (
        after 1,
        refl,
        (after 12, both_bounds_are_read, (after 17, upper_bound_is_read, (after 22, lower_bound_is_read, refl))),
      ),
      refl,
    ),
    inl (refl, refl),
  ),
)
