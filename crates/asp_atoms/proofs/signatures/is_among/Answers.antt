use Rattle.std.proofs.Common.{◌∙◌}
use Rattle.asp_defs.specs.Bases.{predicate_cmp}
use Rattle.asp_atoms.specs.Signatures.{predicate_of, predicates_of}
use Rattle.asp_atoms.proofs.Orders.{predicate_lawful}
use Rattle.asp_atoms.proofs.Positions.{found_by}
use Rattle.asp_atoms.proofs.Loops.{finds_some}
use Rattle.asp_atoms.proofs.signatures.is_among.Goals as goal

pub returns : goal.returns
returns c =
    c.is_ok.ensures.value
    ∙ finds_some predicate_cmp (predicates_of c.args.signatures.now) (predicate_of c.args.wanted.now) c.binary_search.result
    (found_by predicate_lawful predicate_of c.args.signatures.now c.requires (predicate_of c.args.wanted.now) c.binary_search.result c.binary_search.ensures.bound c.binary_search.ensures.position)
