use Rattle.std.proofs.Common.{◌∙◌, ◌+◌, ◌++◌, List, ap, map, arith, Vec, Global, Bor}
use Rattle.std.specs.List.{flat_map}
use Rattle.asp_defs.specs.declared.syntax.Rule.{Rule}
use Rattle.asp_defs.specs.Constants.{distinct}
use Rattle.asp_defs.specs.Bases.{predicate_cmp, rule_predicates}
use Rattle.asp_atoms.specs.declared.signatures.Signature.{Signature}
use Rattle.asp_atoms.specs.Signatures.{predicates_of, predicates_to}
use Rattle.asp_atoms.proofs.Orders.{predicate_lawful}
use Rattle.asp_atoms.proofs.Levels.{value_long, level_step}
use Rattle.asp_atoms.proofs.signatures.signatures.Goals as goal

pub index-requires : goal.index-requires
index-requires c =
    let l = value_long (λ (s : Vec Signature Global). predicates_of s.items) (predicates_to (map (λ (r : Bor (List Rule)). r.now) c.args.levels.now)) c.loop-at.signatures.items (c.loop-at.at + 1) c.loop-at.invariant in
    let o = c.loop-at.signatures.ok in
    omega (arith, l, o)

pub loop-at-preserved : goal.loop-at-preserved
loop-at-preserved c =
    level_step predicate_lawful rule_predicates (λ (s : Vec Signature Global). predicates_of s.items) c.args.levels.now c.loop-at.at c.loop-at.signatures.items c.push-in-loop-at.new.self.items
    c.index-levels-at.result c.index.result.now c.in_ok-next.next (omega arith) c.index-levels-at.is c.loop-at.invariant c.index.ensures
    (c.in_ok-next.ensures ∙ ap (λ (s : List Signature). distinct predicate_cmp (predicates_of s ++ flat_map rule_predicates c.index-levels-at.result.now)) c.as_slice.ensures.value)
    c.in_ok-push-2.ensures.items
