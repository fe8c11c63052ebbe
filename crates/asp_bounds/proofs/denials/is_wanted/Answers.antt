use Rattle.std.proofs.Common.{◌∙◌, ◌&&◌, ap, sym}
use Rattle.asp_bits.specs.Places.{true_places}
use Rattle.asp_reduct.proofs.Truths.{holds-read}
use Rattle.asp_bounds.specs.Terms.{is_counted}
use Rattle.asp_bounds.proofs.denials.is_wanted.Goals as goal

pub returns-then-get : goal.returns-then-get
returns-then-get c =
    c.counts.ensures
    ∙ sym (ap (λ t. t && is_counted (true_places c.args.set.now) c.args.term.now)
    (holds-read c.args.wanted.now _ c.get.result c.get.ensures ∙ c.if-get.true))

pub returns-else-get : goal.returns-else-get
returns-else-get c =
    sym (ap (λ t. t && is_counted (true_places c.args.set.now) c.args.term.now)
    (holds-read c.args.wanted.now _ c.get.result c.get.ensures ∙ c.if-get.false))
