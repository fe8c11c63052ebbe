use Rattle.std.proofs.Common.{◌/◌, ℕ, ap, ◌∙◌, sym, inr, arith}
use Rattle.asp_clauses.proofs.LiteralLemmas.{negated-lt}
use Rattle.asp_search.proofs.minimize.mark_antecedent.Goals as goal

pub contains-requires : goal.contains-requires
contains-requires c =
    omega (arith, c.opposite-cause.ensures, c.requires.codes, negated-lt c.args.other c.args.trail.now.atoms c.requires.code)

pub returns-clause-marks : goal.returns-clause-marks
returns-clause-marks c =
    inr (
      rw c.opposite-cause.ensures at c.in_ok-insert.ensures.ok,
      c.if-other-literal.false,
      λ place within is.
          omega (arith, c.level-level.ensures place (within, ap (λ (l : ℕ). l / 2) (is ∙ sym c.opposite-cause.ensures)), c.if-level-eq0.false),
    )
