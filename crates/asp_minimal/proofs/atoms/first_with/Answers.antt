use Rattle.std.proofs.Common.{not, ◌&&◌, sym, ap, ◌∙◌}
use Rattle.std.proofs.lemmas.Bool.{and_from, and_parts}
use Rattle.std.proofs.lemmas.List.Folds.{list_all_more}
use Rattle.asp_bits.specs.Places.{true_places}
use Rattle.asp_defs.specs.Interpretations.{holds}
use Rattle.asp_reduct.proofs.Truths.{get_or-member}
use Rattle.asp_minimal.specs.Numbers.{has_value}
use Rattle.asp_minimal.proofs.Places.{value_is}
use Rattle.asp_minimal.proofs.atoms.first_with.Goals as goal

pub returns-then-is_with : goal.returns-then-is_with
returns-then-is_with c =
    let parts = and_parts _ _ (sym c.is_with.ensures ∙ c.if-is_with.true) in (
      get_or-member c.args.atoms.now c.loop-atom.atom-index 0 c.loop-atom-test.true,
      parts.0,
      value_is c.args.value _ parts.1,
    )

pub loop-atom-preserved : goal.loop-atom-preserved
loop-atom-preserved c =
    list_all_more (λ a. not (holds (true_places c.args.set.now) a && has_value c.args.value (holds (true_places c.args.part.now) a))) c.args.atoms.now c.loop-atom.atom-index 0 c.loop-atom-test.true
    ∙ and_from _ _ c.loop-atom.invariant (ap not (sym c.is_with.ensures ∙ c.if-is_with.false))
