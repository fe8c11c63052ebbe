use Rattle.std.proofs.Common.{◌∙◌, inl, inr, refl}
use Rattle.asp_bits.specs.Places.{true_places}
use Rattle.asp_defs.specs.Interpretations.{holds}
use Rattle.asp_reduct.proofs.Truths.{holds-read}
use Rattle.asp_bounds.specs.Terms.{is_counted}
use Rattle.asp_bounds.proofs.Marking.{skipped-settled, skipped-counts}
use Rattle.asp_bounds.proofs.denials.add_reason.Goals as goal

pub returns-then-get : goal.returns-then-get
returns-then-get c =
    inl (
      skipped-settled (holds (true_places c.args.settled.now) c.args.term.now.atom) (is_counted (true_places c.args.set.now) c.args.term.now)
          (holds-read c.args.settled.now _ c.get.result c.get.ensures ∙ c.if-get.true),
      refl,
      refl,
    )

pub returns-in_default : goal.returns-in_default
returns-in_default c =
    inl (
      skipped-counts (holds (true_places c.args.settled.now) c.args.term.now.atom) (is_counted (true_places c.args.set.now) c.args.term.now)
          c.in_default.ensures,
      refl,
      refl,
    )

pub returns : goal.returns
returns c = inr (c.in-Some.lit, c.in-Some.ensures, c.in_ok-push.ensures.items, c.settle.ensures)
