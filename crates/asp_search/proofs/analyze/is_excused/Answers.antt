use Rattle.std.proofs.Common.{arith}
use Rattle.asp_clauses.proofs.LiteralLemmas.{negated-lt}
use Rattle.asp_search.proofs.analyze.is_excused.Goals as goal

pub contains-requires : goal.contains-requires
contains-requires c =
    omega (arith, c.opposite-cause.ensures, c.requires.codes, negated-lt c.args.other c.args.trail.now.atoms c.requires.code)
