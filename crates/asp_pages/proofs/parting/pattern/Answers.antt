use Rattle.std.proofs.Common.{ℕ, ◌+◌, ◌-◌, ◌/◌, ◌^◌, ◌<◌, ◌≡◌, true, false, sym, ◌∙◌, ap, subst, Bool, cond, [], ◌∷◌, ◌++◌, length, min, drop, get_or, nat_le, Some, arith, append-nil, length-drop}
use Rattle.asp_pages.specs.Regions.{literal}
use Rattle.asp_pages.proofs.Finding.{pattern_at, pattern_is, pattern_more, pattern_end, doubled, half_of, left_less}
use Rattle.asp_pages.proofs.parting.pattern.Goals.{then-positive, else-positive}
use Rattle.asp_pages.proofs.parting.pattern.Goals as goal

pub loop-place-preserved : goal.loop-place-preserved
loop-place-preserved c =
    let B = c.args.base.now in
    let place = c.loop-place.place in
    let fixed = c.depth-fixed.result in
    let half : ℕ = c.loop-place.half / 2 in
    let left = c.loop-place.left in
    let twice = doubled fixed place c.loop-place.half c.loop-place-test.true c.loop-place.invariant.0 in
    let size : half ≡ 2 ^ (fixed - (place + 1)) = half_of c.loop-place.half (2 ^ (fixed - (place + 1))) twice in
    let both : c.loop-place.half ≡ half + half = omega (arith, size, twice) in
    let left_is : c.if-positive.left ≡ cond (nat_le half left) (left - half) left = elim c.if-positive.branch [
      | then-positive w ↦
          let upper : nat_le half left ≡ true = grind (arith, w.if-positive.true) in
          w.left-is ∙ ap (λ (t : Bool). cond t (left - half) left) (sym upper)
      | else-positive w ↦
          let lower : nat_le half left ≡ false = grind (arith, w.if-positive.false) in
          w.left-is ∙ ap (λ (t : Bool). cond t (left - half) left) (sym lower)
    ] in
    let less : c.if-positive.left < half =
    subst (λ (k : ℕ). k < half) (sym left_is) (left_less c.loop-place.half half left both c.loop-place.invariant.1) in
    let within : place < min c.args.split (length B) = omega (arith, c.loop-place-test.true, c.depth-fixed.ensures) in
    let step = pattern_more c.args.split B place left half c.loop-place.lits 0 within (size ∙ ap (λ k. 2 ^ (k - (place + 1))) c.depth-fixed.ensures) in (
      size,
      less,
      omega (arith, c.loop-place-test.true),
      c.loop-place.invariant.3 ∙ (step
          ∙ (ap (λ k. (c.loop-place.lits ++ literal (nat_le half left) (get_or B place 0) ∷ []) ++ pattern_at (c.args.split - (place + 1)) (drop (place + 1) B) k) (sym left_is)
          ∙ ap (λ xs. xs ++ pattern_at (c.args.split - (place + 1)) (drop (place + 1) B) c.if-positive.left) (sym c.in_ok-push.ensures.ok))),
    )

pub returns : goal.returns
returns c =
    let B = c.args.base.now in
    let place = c.loop-place.place in
    let rest = length-drop place B in
    let none : min (c.args.split - place) (length (drop place B)) ≡ 0 =
    omega (arith, rest, c.loop-place-test.false, c.depth-fixed.ensures) in
    pattern_is c.args.split B c.args.at c.requires.at
    ∙ ap Some (c.loop-place.invariant.3
    ∙ (ap (λ xs. c.loop-place.lits ++ xs) (pattern_end (c.args.split - place) (drop place B) c.loop-place.left none)
    ∙ append-nil c.loop-place.lits))
