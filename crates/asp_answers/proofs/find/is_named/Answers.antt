use Rattle.std.proofs.Common.{◌≡◌, ◌∙◌, ◌<◌, ◌/◌, false, length, get_or, sym, ap, arith}
use Rattle.std.proofs.lemmas.Option.{get_or_from_slice_get}
use Rattle.asp_defs.proofs.Subsets.{holds_at}
use Rattle.asp_completion.specs.Codes.{rank}
use Rattle.asp_completion.specs.Levels.{upper}
use Rattle.asp_completion.proofs.Places.{half-code, rank-within}
use Rattle.asp_answers.proofs.find.is_named.Goals as goal
use Rattle.asp_answers.proofs.find.is_named.Goals.{After-code-number}

half : (c : After-code-number) → c.code-number.result / 2 ≡ rank (upper c.args.level.now) c.args.literal.atom
half c = ap (λ n. n / 2) c.code-number.ensures ∙ half-code (upper c.args.level.now) c.args.literal

pub get-requires : goal.get-requires
get-requires c =
    let e = half (goal.at.get-requires c).After-code-number in
    let B = upper c.args.level.now in
    let h : rank B c.args.literal.atom < length B = rank-within B c.args.literal.atom (holds_at B c.args.literal.atom c.requires.inside) in
    let places = c.requires.places in
    omega (arith, e, places)

pub returns : goal.returns
returns c =
    let e = half (goal.at.returns c).After-code-number in
    sym (ap (λ n. get_or c.args.named.now n false) (sym e)
    ∙ get_or_from_slice_get c.args.named.now (c.code-number.result / 2) c.get.result false c.get.ensures)
