use Rattle.std.proofs.Common.{◌≡◌, ◌∙◌, ◌<◌, ◌*◌, ℕ, true, false, List, length, get_or, sym, ap, subst, arith, append-nil}
use Rattle.std.proofs.lemmas.List.{take_all}
use Rattle.asp_bits.specs.Places.{true_places}
use Rattle.asp_bits.proofs.TruePlaces.{any-read}
use Rattle.asp_defs.proofs.Subsets.{holds_at}
use Rattle.asp_search.specs.Seen.{AreCodes}
use Rattle.asp_completion.specs.Codes.{rank}
use Rattle.asp_answers.specs.Assumptions.{names, outer_part}
use Rattle.asp_completion.specs.Levels.{upper}
use Rattle.asp_completion.proofs.LevelFacts.{lower-atom}
use Rattle.asp_completion.proofs.Places.{rank-within}
use Rattle.asp_answers.proofs.Loops.{part-next}
use Rattle.asp_answers.proofs.find.outer_part.Goals as goal
use Rattle.asp_answers.proofs.find.outer_part.Goals.{then-is_named+in_ok-push, else-is_named}

pub named-requires : goal.named-requires
named-requires c =
    subst (λ (n : ℕ). AreCodes (2 * n) c.args.core.now) (sym c.size.ensures.is) c.requires.codes

pub get-requires : goal.get-requires
get-requires c =
    let h : c.loop-atom.atom-index < length c.lower-base.result.now = omega arith in
    let atom = lower-atom c.args.level.now c.requires.ready c.lower-base.result.now c.loop-atom.atom-index c.lower-base.ensures h in
    let low = atom.1 in
    let places = c.requires.places in
    omega (arith, low, places)

pub is_named-requires-clause-inside : goal.is_named-requires-clause-inside
is_named-requires-clause-inside c =
    let h : c.loop-atom.atom-index < length c.lower-base.result.now = omega arith in
    (lower-atom c.args.level.now c.requires.ready c.lower-base.result.now c.loop-atom.atom-index c.lower-base.ensures h).0

pub is_named-requires-clause-places : goal.is_named-requires-clause-places
is_named-requires-clause-places c = c.in_ok-named.ensures.places ∙ c.size.ensures.is

pub loop-atom-init : goal.loop-atom-init
loop-atom-init c = c.new-part.ensures

pub loop-atom-preserved : goal.loop-atom-preserved
loop-atom-preserved c =
    let l = c.args.level.now in
    let B = upper l in
    let M = true_places c.args.outer.now in
    let core = c.args.core.now in
    let i = c.loop-atom.atom-index in
    let xs = c.lower-base.result.now in
    let a : ℕ = get_or xs i 0 in
    let h : i < length xs = omega arith in
    let up = (lower-atom l c.requires.ready xs i c.lower-base.ensures h).0 in
    let low : rank B a < length B = rank-within B a (holds_at B a up) in
    let size = c.size.ensures.is in
    let within : rank B a < c.size.result = omega (arith, size) in
    let named : names core (rank B a) ≡ c.is_named.result = sym (c.in_ok-named.ensures.marks (rank B a) within) ∙ sym c.is_named.ensures in
    let read = any-read c.args.outer.now a c.get.result c.get.ensures in
    elim c.if-is_named.branch [
      | then-is_named+in_ok-push w ↦
          rw (w.part-is, w.in_ok-push.ensures.ok)
          (part-next B xs M core c.loop-atom.part i 0 c.get.result true h read (named ∙ w.if-is_named.true) c.loop-atom.invariant)
      | else-is_named w ↦
          rw w.part-is
          (sym (append-nil c.loop-atom.part)
          ∙ part-next B xs M core c.loop-atom.part i 0 c.get.result false h read (named ∙ w.if-is_named.false) c.loop-atom.invariant)
    ]

pub returns : goal.returns
returns c =
    c.loop-atom.invariant
    ∙ ap (λ (xs : List ℕ). outer_part (upper c.args.level.now) xs (true_places c.args.outer.now) c.args.core.now)
    (take_all c.loop-atom.atom-index c.lower-base.result.now c.loop-atom-test.false ∙ c.lower-base.ensures)
