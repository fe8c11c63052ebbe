use Rattle.std.proofs.Common.{◌≡◌, ◌∙◌, sym, ap, subst, List, ℕ, map, get_or, Vec, Global, arith}
use Rattle.std.proofs.lemmas.List.{length-map, get_or-map}
use Rattle.asp_defs.specs.Bases.{predicate_cmp}
use Rattle.asp_defs.proofs.Lists.{map_from}
use Rattle.asp_atoms.specs.declared.signatures.Signature.{Signature}
use Rattle.asp_atoms.specs.Ascending.{Ascends}
use Rattle.asp_atoms.specs.Signatures.{predicates_of}
use Rattle.asp_atoms.specs.Members.{AreRanks, level_numbers, levels_numbers}
use Rattle.asp_atoms.proofs.Positions.{item_in}
use Rattle.asp_atoms.proofs.Loops.{levels_more}
use Rattle.asp_atoms.proofs.members.members.Goals as goal

pub level-requires-clause-ranked : goal.level-requires-clause-ranked
level-requires-clause-ranked c =
    subst (AreRanks c.args.base) (sym c.as_slice.ensures)
    (c.requires.ranked c.index-universes-at.result (item_in c.args.universes.now c.loop-at.at c.index-universes-at.result (omega arith) c.index-universes-at.is))

pub level-requires-clause-ordered : goal.level-requires-clause-ordered
level-requires-clause-ordered c =
    let t = c.requires.together in
    subst (λ (s : List Signature). Ascends predicate_cmp (predicates_of s)) (sym c.as_slice-in-loop-at.ensures.value)
    (c.requires.ordered (predicates_of c.index-signatures-at.result.items)
    (map_from (λ (s : Vec Signature Global). predicates_of s.items) c.args.signatures.now c.index-signatures-at.result
    (item_in c.args.signatures.now c.loop-at.at c.index-signatures-at.result (omega (arith, t)) c.index-signatures-at.is)))

pub loop-at-preserved : goal.loop-at-preserved
loop-at-preserved c =
    let t = c.requires.together in
    let all = map (λ (s : Vec Signature Global). predicates_of s.items) c.args.signatures.now in
    let long = length-map c.args.signatures.now (λ (s : Vec Signature Global). predicates_of s.items) in
    let here : predicates_of c.index-signatures-at.result.items ≡ get_or all c.loop-at.at (predicates_of c.index-signatures-at.result.items) =
    ap (λ (s : Vec Signature Global). predicates_of s.items) c.index-signatures-at.is
    ∙ sym (get_or-map (λ (s : Vec Signature Global). predicates_of s.items) c.args.signatures.now c.loop-at.at c.index-signatures-at.result (predicates_of c.index-signatures-at.result.items) (omega (arith, t))) in
    levels_more (levels_numbers c.args.base c.args.predicates.now c.args.universes.now all) c.args.base c.args.predicates.now c.args.universes.now all c.loop-at.at
    c.index-universes-at.result (predicates_of c.index-signatures-at.result.items) c.loop-at.out.items c.push.new.self.items c.in_ok-numbers.numbers
    (omega arith) (omega (arith, t, long)) c.index-universes-at.is here c.loop-at.invariant
    (c.in_ok-numbers.ensures
    ∙ (ap (λ (ranks : List ℕ). level_numbers c.args.base c.args.predicates.now ranks (predicates_of c.as_slice-in-loop-at.result.now)) c.as_slice.ensures
    ∙ ap (λ (s : List Signature). level_numbers c.args.base c.args.predicates.now c.index-universes-at.result (predicates_of s)) c.as_slice-in-loop-at.ensures.value))
    c.in_ok-push.ensures.items
