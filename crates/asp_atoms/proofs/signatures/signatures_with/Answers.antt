use Rattle.std.proofs.Common.{◌++◌, ◌∙◌, ap, List}
use Rattle.std.specs.List.{flat_map}
use Rattle.std.proofs.lemmas.List.Filters.{dedup_is}
use Rattle.asp_defs.specs.Constants.{distinct}
use Rattle.asp_defs.specs.Bases.{predicate_cmp, rule_predicates}
use Rattle.asp_atoms.specs.declared.signatures.Signature.{Signature}
use Rattle.asp_atoms.specs.contracts.signatures.SignaturePartialEq.TheImpl.{eq-value}
use Rattle.asp_atoms.specs.Signatures.{predicate_of, predicates_of}
use Rattle.asp_atoms.proofs.Orders.{predicate_lawful}
use Rattle.asp_atoms.proofs.Settled.{settled}
use Rattle.asp_atoms.proofs.Ties.{signature_ties}
use Rattle.asp_atoms.proofs.signatures.signatures_with.Goals as goal

pub returns : goal.returns
returns c =
    let is = dedup_is _ _ _ c.dedup.ensures.filtered in
    ap predicates_of is
    ∙ (settled predicate_lawful predicate_of (eq-value).it signature_ties
    c.add_rules.new.out.items c.sort_unstable.new.self.items c.sort_unstable.ensures.permutation c.sort_unstable.ensures.sorted
    ∙ ap (distinct predicate_cmp) (c.in_ok-add_rules.ensures ∙ ap (λ (s : List Signature). predicates_of s ++ flat_map rule_predicates c.args.rules.now) c.in_ok-signatures.ensures.items))
