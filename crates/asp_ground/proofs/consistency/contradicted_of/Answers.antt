use Rattle.std.proofs.Common.{◌≤◌, ◌∙◌, inl, inr, length, arith}
use Rattle.asp_atoms.specs.Signatures.{predicates_of}
use Rattle.asp_ground.proofs.Walking.{contradicted_is, walk_ends}
use Rattle.asp_ground.proofs.consistency.contradicted_of.Goals.{then-loop-at-test+else-other-signatures, else-loop-at-test}
use Rattle.asp_ground.proofs.consistency.contradicted_of.Goals as goal

pub returns : goal.returns
returns c =
    elim c.loop-at-test.branch [
      | then-loop-at-test+else-other-signatures w ↦
          let h = w.if-other-signatures.false in
          let past : length c.args.signatures.now ≤ c.loop-at.other = omega (arith, h) in
          walk_ends c.loop-at.found.items c.args.signatures.now c.loop-at.at c.loop-at.other (inr past) c.loop-at.invariant
          ∙ contradicted_is (predicates_of c.args.signatures.now) c.requires
      | else-loop-at-test w ↦
          let h = w.loop-at-test.false in
          let past : length c.args.signatures.now ≤ c.loop-at.at = omega (arith, h) in
          walk_ends c.loop-at.found.items c.args.signatures.now c.loop-at.at c.loop-at.other (inl past) c.loop-at.invariant
          ∙ contradicted_is (predicates_of c.args.signatures.now) c.requires
    ]
