use Rattle.std.proofs.Common.{arith, ap, ◌∙◌, length, get_or, ◌-◌, false}
use Rattle.std.proofs.lemmas.List.{length-replicate}
use Rattle.asp_sets.specs.Taking.{member_text}
use Rattle.asp_sets.proofs.Reading.{take_begun, take_more, take_past, long_kept}
use Rattle.asp_sets.proofs.set.take_members.Goals as goal

pub loop-at-init : goal.loop-at-init
loop-at-init c = record {
  taken = take_begun (member_text c.args.atoms.now) c.args.text.now c.args.base.now c.args.set.now (length c.args.atoms.now) c.requires.fresh;
  long = ap length c.requires.fresh ∙ length-replicate (length c.args.atoms.now) false;
}

pub loop-at-preserved-in-Some : goal.loop-at-preserved-in-Some
loop-at-preserved-in-Some c = record {
  taken = take_more c.args.atoms.now c.args.base.now c.args.text.now c.loop-at.left.now c.in-Some.before.now c.loop-at.set c.set.new.self c.loop-at.at c.index-atoms-number.result
      (omega arith) (omega arith) c.requires.within c.requires.ascending c.loop-at.invariant.long c.index-atoms-number.is c.loop-at.invariant.taken c.in-Some.ensures c.set.ensures;
  long = long_kept c.loop-at.set c.set.new.self (get_or c.args.base.now (c.loop-at.at - 1) 0) (length c.args.atoms.now) c.set.ensures c.loop-at.invariant.long;
}

pub loop-at-preserved : goal.loop-at-preserved
loop-at-preserved c = record {
  taken = take_past c.args.atoms.now c.args.base.now c.args.text.now c.loop-at.left.now c.loop-at.set c.loop-at.at c.index-atoms-number.result
      (omega arith) (omega arith) c.requires.within c.index-atoms-number.is c.loop-at.invariant.taken c.in_default.ensures;
  long = c.loop-at.invariant.long;
}
