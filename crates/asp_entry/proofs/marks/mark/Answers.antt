use Rattle.std.proofs.Common.{refl, ◌∙◌, arith}
use Rattle.asp_bits.specs.Places.{true_places}
use Rattle.asp_reduct.proofs.Truths.{holds-read}
use Rattle.asp_defs.specs.Interpretations.{holds}
use Rattle.asp_entry.proofs.Marking.{marks_set, marks_skip}
use Rattle.asp_entry.proofs.marks.mark.Goals as goal

pub returns-then-get : goal.returns-then-get
returns-then-get c =
    marks_set (holds (true_places c.args.outer.now)) c.args.atom c.args.marks.now c.set.new.self (omega (arith, c.requires.below, c.requires.marks))
    (holds-read c.args.outer.now c.args.atom c.get.result c.get.ensures ∙ c.if-get.true) c.set.ensures

pub returns-else-get : goal.returns-else-get
returns-else-get c =
    marks_skip (holds (true_places c.args.outer.now)) c.args.atom c.args.marks.now c.args.marks.now
    (holds-read c.args.outer.now c.args.atom c.get.result c.get.ensures ∙ c.if-get.false) refl
