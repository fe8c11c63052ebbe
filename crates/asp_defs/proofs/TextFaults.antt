-- Derivations of refusals: texts whose tokens offend, each with a program that begins with the tokens before, and with the
-- refutation of those up to the offending token.
use Rattle.std.proofs.Common.{ℕ, ℤ, refl, ap, inl, inr, List, [], ◌∷◌, codes}
use Rattle.std.specs.Prelude.{None, Some}
use Rattle.asp_defs.specs.declared.faults.TextFault.TheVariants.{NoLevel, Unfinished, UnknownDirective, BeforeLevel, AfterConstraint, Unexpected}
use Rattle.asp_defs.specs.Tokens.{Token, DirectiveToken, NameToken, NumberToken, MinusToken, ArrowToken, DotToken, LeftBraceToken, RightBraceToken}
use Rattle.asp_defs.specs.TextRefusals.{IsViable, IsRefused}
use Rattle.asp_defs.specs.Examples as ex
use Rattle.asp_defs.specs.declared.syntax.Literal.TheVariants.{Pos}
use Rattle.asp_defs.specs.Lists.{is_empty}
use Rattle.asp_defs.proofs.TextRefutations.{clash, no_first, no_third, no_level_after}
use Rattle.asp_defs.proofs.TextEnds.{not_ended}

abbrev exists : Token
exists = DirectiveToken (codes "exists")

abbrev constraint : Token
constraint = DirectiveToken (codes "constraint")

abbrev a : Token
a = NameToken (codes "a")

-- tokens that are viable, with what continues them and the program
viable_none : IsViable []
viable_none = (exists ∷ [], ex.nothing, ([], refl, ([], ([], refl, refl), refl), inl (refl, refl)))

viable_level : IsViable (exists ∷ [])
viable_level = ([], ex.nothing, ([], refl, ([], ([], refl, refl), refl), inl (refl, refl)))

viable_constraint_part : IsViable (exists ∷ constraint ∷ [])
viable_constraint_part =
    let last = constraint ∷ [] in
    ([], ex.nothing, (last, refl, (last, (last, refl, refl), refl), inr ([], refl, refl)))

viable_name : (name : List ℕ) → IsViable (exists ∷ NameToken name ∷ [])
viable_name name =
    let fact = DotToken ∷ [] in (
      fact,
      ex.program (ex.exists (ex.rule (ex.prop name ∷ []) [] ∷ []) ∷ []) [],
      ([], refl, ([], (NameToken name ∷ fact, refl, ([], (refl, inl (ex.prop name, refl, refl, (fact, inl refl, inl (refl, refl)))), refl)), refl), inl (refl, refl)),
    )

abbrev b : Token
b = NameToken (codes "b")

viable_rule : IsViable (exists ∷ a ∷ ArrowToken ∷ b ∷ [])
viable_rule =
    let last = DotToken ∷ [] in
    let body = b ∷ last in
    let arrow = ArrowToken ∷ body in (
      last,
      ex.program (ex.exists (ex.rule (ex.a ∷ []) (Pos ex.b ∷ []) ∷ []) ∷ []) [],
      (
        [],
        refl,
        (
          [],
          (
            a ∷ arrow,
            refl,
            (
              [],
              (
                refl,
                inr (inl
                    (arrow, (arrow, inl refl, inl (refl, refl)), inr (body, refl, (last, inl refl, inl (refl, refl))))),
              ),
              refl,
            ),
          ),
          refl,
        ),
        inl (refl, refl),
      ),
    )

-- a minus begins a fact
viable_minus : IsViable (exists ∷ MinusToken ∷ [])
viable_minus =
    let fact = DotToken ∷ [] in (
      a ∷ fact,
      ex.program (ex.exists (ex.rule (ex.prop (codes "-a") ∷ []) [] ∷ []) ∷ []) [],
      (
        [],
        refl,
        (
          [],
          (
            MinusToken ∷ a ∷ fact,
            refl,
            ([], (refl, inl (ex.prop (codes "-a"), refl, refl, (fact, inr (codes "a", refl, refl), inl (refl, refl)))), refl),
          ),
          refl,
        ),
        inl (refl, refl),
      ),
    )

-- a number begins a choice
viable_bound : (x : ℤ) → IsViable (exists ∷ NumberToken x ∷ [])
viable_bound x =
    let dot = DotToken ∷ [] in (
      LeftBraceToken ∷ RightBraceToken ∷ dot,
      ex.program (ex.exists (ex.bounded (Some x) [] None [] ∷ []) ∷ []) [],
      (
        [],
        refl,
        (
          [],
          (
            NumberToken x ∷ LeftBraceToken ∷ RightBraceToken ∷ dot,
            refl,
            ([], (refl, inr (inl (dot, (RightBraceToken ∷ dot, dot, refl, refl, refl), inl (refl, refl)))), refl),
          ),
          refl,
        ),
        inl (refl, refl),
      ),
    )

-- ---- refusals

pub no_level : IsRefused [] NoLevel
no_level = inr ([], refl, inl (refl, refl))

pub unknown_directive : IsRefused (codes "%@foral\n") (UnknownDirective 0)
unknown_directive = inr (_, refl, inr (inr ([], _, [], refl, record { viable = viable_none; stuck = no_first _ refl }, refl)))

pub before_level : IsRefused (codes "a.\n") (BeforeLevel 0)
before_level = inr (_, refl, inr (inr ([], _, _, refl, record { viable = viable_none; stuck = no_first _ refl }, refl)))

pub after_constraint : IsRefused (codes "%@exists\n%@constraint\n%@forall\n") (AfterConstraint 22)
after_constraint = inr (_, refl, inr (inr (_ ∷ _ ∷ [], _, [], refl, record { viable = viable_constraint_part; stuck = no_level_after }, refl)))

pub unexpected : IsRefused (codes "%@exists\na b.\n") (Unexpected 11)
unexpected = inr (_, refl, inr (inr (_ ∷ _ ∷ [], _, _, refl, record { viable = viable_name (codes "a"); stuck = no_third exists _ _ refl refl }, refl)))

pub unfinished : IsRefused (codes "%@exists\na :- b") Unfinished
unfinished = inr (_, refl, inr (inl ((λ e. clash (ap is_empty e)), viable_rule, not_ended _ refl, refl)))

pub bound_without_choice : IsRefused (codes "%@exists\n1 a.\n") (Unexpected 11)
bound_without_choice = inr (_, refl, inr (inr (_ ∷ _ ∷ [], _, _, refl, record { viable = viable_bound _; stuck = no_third exists _ _ refl refl }, refl)))

pub negative_bound : IsRefused (codes "%@exists\n-5.\n") (Unexpected 11)
negative_bound = inr (_, refl, inr (inr (_ ∷ _ ∷ [], _, [], refl, record { viable = viable_bound _; stuck = no_third exists _ _ refl refl }, refl)))

pub two_bounds : IsRefused (codes "%@exists\n1 2 {a}.\n") (Unexpected 11)
two_bounds = inr (_, refl, inr (inr (_ ∷ _ ∷ [], _, _, refl, record { viable = viable_bound _; stuck = no_third exists _ _ refl refl }, refl)))

pub named_bound : IsRefused (codes "%@exists\nn {a}.\n") (Unexpected 11)
named_bound = inr (_, refl, inr (inr (_ ∷ _ ∷ [], _, _, refl, record { viable = viable_name (codes "n"); stuck = no_third exists _ _ refl refl }, refl)))

pub minus_number : IsRefused (codes "%@exists\n- 5.\n") (Unexpected 11)
minus_number = inr (_, refl, inr (inr (_ ∷ _ ∷ [], _, _, refl, record { viable = viable_minus; stuck = no_third exists _ _ refl refl }, refl)))

pub minus_variable : IsRefused (codes "%@exists\n-X.\n") (Unexpected 10)
minus_variable = inr (_, refl, inr (inr (_ ∷ _ ∷ [], _, _, refl, record { viable = viable_minus; stuck = no_third exists _ _ refl refl }, refl)))

pub minus_parenthesis : IsRefused (codes "%@exists\n-(a).\n") (Unexpected 10)
minus_parenthesis = inr (_, refl, inr (inr (_ ∷ _ ∷ [], _, _, refl, record { viable = viable_minus; stuck = no_third exists _ _ refl refl }, refl)))

pub two_minuses : IsRefused (codes "%@exists\n--a.\n") (Unexpected 10)
two_minuses = inr (_, refl, inr (inr (_ ∷ _ ∷ [], _, _, refl, record { viable = viable_minus; stuck = no_third exists _ _ refl refl }, refl)))
