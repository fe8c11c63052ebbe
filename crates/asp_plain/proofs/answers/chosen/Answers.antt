use Rattle.std.proofs.Common.{◌∙◌, subst, ℕ}
use Rattle.std.specs.Int.RustNames.{bit_and, bit_or}
use Rattle.asp_plain.specs.Cubes.{rule_atoms}
use Rattle.asp_plain.specs.Masks.{IsBitOf}
use Rattle.asp_plain.proofs.Cubes.{IsBit-within}
use Rattle.asp_plain.proofs.Removing.{within_atoms}
use Rattle.asp_plain.proofs.answers.chosen.Goals as goal
use Rattle.asp_plain.proofs.answers.chosen.Goals.{then-wanted-eq0, else-wanted-eq0}

pub returns : goal.returns
returns c =
    let rule = c.args.rule.now in
    let b = c.first_bit.result in
    elim c.if-wanted-eq0.branch [
      | then-wanted-eq0 w ↦ subst (λ (m : ℕ). IsBitOf m b) (w.first_bit-is ∙ w.atoms.ensures) c.first_bit.ensures
      | else-wanted-eq0 w ↦
          IsBit-within (bit_and (bit_or rule.positive rule.head) c.args.loose) (rule_atoms rule) b (within_atoms rule c.args.loose)
          (subst (λ (m : ℕ). IsBitOf m b) w.first_bit-is c.first_bit.ensures)
    ]
