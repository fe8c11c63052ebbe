use Rattle.std.proofs.Common.{◌∙◌, ◌<◌, ◌≤◌, ℕ, List, length, get_or, ap, arith}
use Rattle.std.specs.List.{filter}
use Rattle.std.proofs.lemmas.List.{take_all}
use Rattle.asp_bits.specs.Places.{true_places}
use Rattle.asp_bits.proofs.TruePlaces.{any-read}
use Rattle.asp_defs.specs.Interpretations.{holds}
use Rattle.asp_defs.proofs.Subsets.{holds_from}
use Rattle.asp_completion.proofs.Places.{in_at}
use Rattle.asp_answers.proofs.Loops.{count-next, count-stays, count-few}
use Rattle.asp_answers.proofs.find.count_true.Goals as goal
use Rattle.asp_answers.proofs.find.count_true.Goals.{then-get, else-get}

pub get-requires : goal.get-requires
get-requires c =
    let h : c.loop-atom.atom-index < length c.args.atoms.now = omega arith in
    c.requires.below (get_or c.args.atoms.now c.loop-atom.atom-index 0)
    (holds_from c.args.atoms.now (get_or c.args.atoms.now c.loop-atom.atom-index 0) (in_at c.args.atoms.now c.loop-atom.atom-index h))

pub overflow_add-count : goal.overflow_add-count
overflow_add-count c =
    let h : c.loop-atom.atom-index < length c.args.atoms.now = omega arith in
    let few : c.loop-atom.count ≤ c.loop-atom.atom-index =
    count-few (holds (true_places c.args.set.now)) c.args.atoms.now c.loop-atom.atom-index c.loop-atom.count (omega arith) c.loop-atom.invariant in
    let most = c.requires.few in
    omega (arith, most)

pub loop-atom-preserved : goal.loop-atom-preserved
loop-atom-preserved c =
    let h : c.loop-atom.atom-index < length c.args.atoms.now = omega arith in
    let atom : ℕ = get_or c.args.atoms.now c.loop-atom.atom-index 0 in
    elim c.if-get.branch [
      | then-get w ↦
          rw w.count-is
          (count-next (holds (true_places c.args.set.now)) c.args.atoms.now c.loop-atom.atom-index 0 c.loop-atom.count h
          (any-read c.args.set.now atom c.get.result c.get.ensures ∙ w.if-get.true) c.loop-atom.invariant)
      | else-get w ↦
          rw w.count-is
          (count-stays (holds (true_places c.args.set.now)) c.args.atoms.now c.loop-atom.atom-index 0 c.loop-atom.count h
          (any-read c.args.set.now atom c.get.result c.get.ensures ∙ w.if-get.false) c.loop-atom.invariant)
    ]

pub returns : goal.returns
returns c =
    c.loop-atom.invariant
    ∙ ap (λ (xs : List ℕ). length (filter (holds (true_places c.args.set.now)) xs))
    (take_all c.loop-atom.atom-index c.args.atoms.now c.loop-atom-test.false)
