use Rattle.std.proofs.Common.{ℕ, ◌+◌, ◌-◌, ◌≡◌, ◌≢◌, true, false, sym, ◌∙◌, ap, Bool, cond, List, [], ◌∷◌, ◌++◌, drop, get_or, Some, arith, append-nil}
use Rattle.std.specs.Prelude.{◌==◌}
use Rattle.std.proofs.lemmas.Bool.{ne_eqb, eq-eqb}
use Rattle.std.proofs.lemmas.List.{drop_all}
use Rattle.asp_bits.specs.Places.{true_places}
use Rattle.asp_reduct.proofs.Truths.{holds-read}
use Rattle.asp_pages.specs.Regions.{literal}
use Rattle.asp_pages.proofs.Finding.{region_at, region_is, region_inside, region_outside, region_last}
use Rattle.asp_pages.proofs.parting.region_after.Goals.{then-inside, else-inside, then-not-inside+else-left-eq0, else-not-inside}
use Rattle.asp_pages.proofs.parting.region_after.Goals as goal

pub returns-then-left-eq0 : goal.returns-then-left-eq0
returns-then-left-eq0 c =
    let I = true_places c.args.set.now in
    let B = c.args.base.now in
    let i = c.loop-atom.atom-index in
    let a : ℕ = get_or B i 0 in
    let left = c.loop-atom.left in
    let last : (left == 0) ≡ true = eq-eqb left 0 c.if-left-eq0.true in
    let outside = holds-read c.args.set.now a c.get-inside.result c.get-inside.ensures ∙ c.if-not-inside.true in
    let positive : c.if-inside.positive ≡ true = elim c.if-inside.branch [
      | then-inside w ↦ w.positive-is ∙ w.if-inside.true
      | else-inside w ↦ w.positive-is ∙ last
    ] in
    region_is I B (c.count_false.result - 1 - c.args.at) c.args.at (omega (arith, c.count_false.ensures, c.requires.at))
    ∙ ap Some (c.loop-atom.invariant
    ∙ (region_last I B i left 0 c.loop-atom.lits c.loop-atom-test.true outside last
    ∙ (ap (λ (t : Bool). c.loop-atom.lits ++ literal t a ∷ []) (sym positive) ∙ sym c.in_ok-push.ensures.ok)))

pub loop-atom-preserved : goal.loop-atom-preserved
loop-atom-preserved c =
    let I = true_places c.args.set.now in
    let B = c.args.base.now in
    let i = c.loop-atom.atom-index in
    let a : ℕ = get_or B i 0 in
    let left = c.loop-atom.left in
    let lits = c.loop-atom.lits in
    let read = holds-read c.args.set.now a c.get-inside.result c.get-inside.ensures in
    let positive : c.if-inside.positive ≡ cond c.get-inside.result true (left == 0) = elim c.if-inside.branch [
      | then-inside w ↦ w.positive-is ∙ (w.if-inside.true ∙ ap (λ (t : Bool). cond t true (left == 0)) (sym w.if-inside.true))
      | else-inside w ↦ w.positive-is ∙ ap (λ (t : Bool). cond t true (left == 0)) (sym w.if-inside.false)
    ] in
    elim c.if-not-inside.branch [
      | then-not-inside+else-left-eq0 w ↦
          let apart : left ≢ 0 = omega (arith, w.if-left-eq0.false) in
          let more : (left == 0) ≡ false = ne_eqb left 0 apart in
          let is : c.if-inside.positive ≡ false = positive ∙ (ap (λ (t : Bool). cond t true (left == 0)) w.if-not-inside.true ∙ more) in
          c.loop-atom.invariant
          ∙ (region_outside I B i left 0 lits c.loop-atom-test.true (read ∙ w.if-not-inside.true) more
          ∙ (ap (λ k. (lits ++ literal false a ∷ []) ++ region_at I (drop (i + 1) B) k) (sym w.left-is)
          ∙ ap (λ xs. xs ++ region_at I (drop (i + 1) B) c.if-not-inside.left) (ap (λ (t : Bool). lits ++ literal t a ∷ []) (sym is) ∙ sym c.in_ok-push.ensures.ok)))
      | else-not-inside w ↦
          let is : c.if-inside.positive ≡ true = positive ∙ ap (λ (t : Bool). cond t true (left == 0)) w.if-not-inside.false in
          c.loop-atom.invariant
          ∙ (region_inside I B i left 0 lits c.loop-atom-test.true (read ∙ w.if-not-inside.false)
          ∙ (ap (λ k. (lits ++ literal true a ∷ []) ++ region_at I (drop (i + 1) B) k) (sym w.left-is)
          ∙ ap (λ xs. xs ++ region_at I (drop (i + 1) B) c.if-not-inside.left) (ap (λ (t : Bool). lits ++ literal t a ∷ []) (sym is) ∙ sym c.in_ok-push.ensures.ok)))
    ]

pub returns : goal.returns
returns c =
    let I = true_places c.args.set.now in
    let B = c.args.base.now in
    region_is I B (c.count_false.result - 1 - c.args.at) c.args.at (omega (arith, c.count_false.ensures, c.requires.at))
    ∙ ap Some (c.loop-atom.invariant
    ∙ (ap (λ (xs : List ℕ). c.loop-atom.lits ++ region_at I xs c.loop-atom.left) (drop_all c.loop-atom.atom-index B c.loop-atom-test.false)
    ∙ append-nil c.loop-atom.lits))
