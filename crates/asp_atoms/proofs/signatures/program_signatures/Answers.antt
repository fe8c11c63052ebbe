use Rattle.std.proofs.Common.{◌≡◌, ◌+◌, List, map, length, Vec, Global, Bor}
use Rattle.std.proofs.lemmas.Result.{IfOk-weaker}
use Rattle.asp_defs.specs.Lists.{numbers_from}
use Rattle.asp_defs.specs.Bases.{predicates, last_level}
use Rattle.asp_defs.specs.declared.syntax.Rule.{Rule}
use Rattle.asp_atoms.specs.declared.signatures.Signature.{Signature}
use Rattle.asp_atoms.specs.Signatures.{predicates_of, predicates_to}
use Rattle.asp_atoms.proofs.Gathering.{all_levels}
use Rattle.asp_atoms.proofs.signatures.program_signatures.Goals as goal

pub returns : goal.returns
returns c =
    IfOk-weaker c.signatures.result
    (λ out. map (λ (s : Vec Signature Global). predicates_of s.items) out.items ≡ map (predicates_to (map (λ (l : Bor (List Rule)). l.now) c.as_slice.result.now)) (numbers_from 0 (length c.as_slice.result.now + 1)))
    (λ out. map (λ (s : Vec Signature Global). predicates_of s.items) out.items ≡ map (predicates c.args.program.now) (numbers_from 0 (last_level c.args.program.now + 1)))
    (λ out is.
    all_levels (λ (s : Vec Signature Global). predicates_of s.items) predicates_to c.args.program.now c.in_ok-levels.levels.items c.as_slice.result.now out.items
    c.as_slice.ensures.value c.in_ok-levels.ensures is)
    c.signatures.ensures
