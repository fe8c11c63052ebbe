use Rattle.std.proofs.Common.{◌∙◌, ◌++◌, ◌<◌, ℕ, List, map, length, ap, arith}
use Rattle.std.proofs.lemmas.List.{take_all}
use Rattle.asp_bits.specs.Places.{true_places}
use Rattle.asp_defs.specs.Interpretations.{holds}
use Rattle.asp_completion.specs.Codes.{code, literal}
use Rattle.asp_completion.specs.Levels.{upper}
use Rattle.asp_completion.proofs.LevelFacts.{lower-atom}
use Rattle.asp_completion.proofs.Loops.{map-step}
use Rattle.asp_answers.proofs.Loops.{outer-code}
use Rattle.asp_answers.proofs.question.push_outer.Goals as goal

pub get-requires : goal.get-requires
get-requires c =
    let h : c.loop-atom.atom-index < length c.lower-base.result.now = omega arith in
    let atom = lower-atom c.args.level.now c.requires.ready c.lower-base.result.now c.loop-atom.atom-index c.lower-base.ensures h in
    let low = atom.1 in
    let places = c.requires.places in
    omega (arith, low, places)

pub code-requires-clause-inside : goal.code-requires-clause-inside
code-requires-clause-inside c =
    let h : c.loop-atom.atom-index < length c.lower-base.result.now = omega arith in
    (lower-atom c.args.level.now c.requires.ready c.lower-base.result.now c.loop-atom.atom-index c.lower-base.ensures h).0

pub loop-atom-preserved : goal.loop-atom-preserved
loop-atom-preserved c =
    let B = upper c.args.level.now in
    let f : ℕ → ℕ = λ a. code B (literal (holds (true_places c.args.outer.now) a) a) in
    let h : c.loop-atom.atom-index < length c.lower-base.result.now = omega arith in
    rw (
      c.in_ok-push.ensures.items,
      outer-code B c.args.outer.now _ c.code.result c.get.result c.get.ensures c.code.ensures,
    )
    (map-step f c.args.assumed.now.items c.loop-atom.assumed.items c.lower-base.result.now c.loop-atom.atom-index 0 h
    c.loop-atom.invariant)

pub returns : goal.returns
returns c =
    let B = upper c.args.level.now in
    let f : ℕ → ℕ = λ a. code B (literal (holds (true_places c.args.outer.now) a) a) in
    c.loop-atom.invariant
    ∙ ap (λ (xs : List ℕ). c.args.assumed.now.items ++ map f xs)
    (take_all c.loop-atom.atom-index c.lower-base.result.now c.loop-atom-test.false ∙ c.lower-base.ensures)
