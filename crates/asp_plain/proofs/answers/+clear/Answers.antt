use Rattle.std.proofs.Common.{◌≡◌, ◌<◌, ℕ, Bool, length, false, ◌&&◌, eqb, set as with_entry, sym, ap, ◌∙◌, subst, arith}
use Rattle.std.specs.Int.RustNames.{bit_or, bit_xor}
use Rattle.std.proofs.lemmas.Nat.{le_or_l}
use Rattle.std.proofs.lemmas.Bool.{eq-eqb, and_left, and_from}
use Rattle.asp_plain.specs.Cubes.{Sifted, least_of, is_spared}
use Rattle.asp_plain.proofs.Cubes.{only_set, sifted_one, sifted_none, sifted_halves, least_closed, spared_without, spared_with, lies_test, apart_without, apart_with, whole_without, whole_with, rest_less}
use Rattle.asp_plain.proofs.Atoms.{bit}
use Rattle.asp_plain.proofs.answers.+clear.Goals as goal
use Rattle.asp_plain.proofs.answers.+clear.Goals.{then-spared, else-spared}

pub bounds-table-set : goal.bounds-table-set
bounds-table-set t c = let le = le_or_l c.args.set c.args.rest in let inside = c.requires.inside in omega arith

pub returns-then-not-spared : goal.returns-then-not-spared
returns-then-not-spared t c =
    let le = le_or_l c.args.set c.args.rest in
    let inside = c.requires.inside in
    let within : c.args.set < length c.args.table.now = omega arith in
    let keeps : ℕ → ℕ → Bool = λ rest s. is_spared c.args.spared c.args.lower c.args.set rest s in
    subst (λ (r : ℕ). Sifted c.args.set r (keeps r) c.args.table.now (with_entry c.args.table.now c.args.set false))
    (sym c.if-rest-eq0.true)
    (sifted_one c.args.set (keeps 0) c.args.table.now within
    (and_left c.args.spared (eqb c.args.set (least_of c.args.lower c.args.set 0 c.args.set)) c.if-not-spared.true))

pub returns-else-not-spared : goal.returns-else-not-spared
returns-else-not-spared t c =
    subst (λ (r : ℕ). Sifted c.args.set r (is_spared c.args.spared c.args.lower c.args.set r) c.args.table.now c.args.table.now)
    (sym c.if-rest-eq0.true)
    (sifted_none c.args.set 0 (is_spared c.args.spared c.args.lower c.args.set 0) c.args.table.now (λ s within there.
    and_from c.args.spared (eqb s (least_of c.args.lower c.args.set 0 s)) c.if-not-spared.false
    (eq-eqb s (least_of c.args.lower c.args.set 0 s)
    (only_set c.args.set s within ∙ sym (least_closed c.args.lower c.args.set s)))))

pub clear-requires : goal.clear-requires
clear-requires t c =
    let less = rest_less c.args.rest c.first_bit-bit.result c.first_bit-bit.ensures in
    let le = whole_without c.args.set c.args.rest c.first_bit-bit.result c.requires.apart c.first_bit-bit.ensures in
    let inside = c.requires.inside in
    let start = c.decreases in (
      omega arith,
      (apart_without c.args.set c.args.rest c.first_bit-bit.result c.requires.apart c.first_bit-bit.ensures, omega arith),
    )

pub clear-requires-2 : goal.clear-requires-2
clear-requires-2 t c =
    let less = rest_less c.args.rest c.first_bit-bit.result c.first_bit-bit.ensures in
    let same = whole_with c.args.set c.args.rest c.first_bit-bit.result c.requires.apart c.first_bit-bit.ensures in
    let inside = c.requires.inside in
    let long = c.clear.ensures.long in
    let start = c.decreases in (
      omega arith,
      (apart_with c.args.set c.args.rest c.first_bit-bit.result c.requires.apart c.first_bit-bit.ensures, omega arith),
    )

pub returns : goal.returns
returns t c =
    let set = c.args.set in
    let rest = c.args.rest in
    let lower = c.args.lower in
    let spared = c.args.spared in
    let b = c.first_bit-bit.result in
    let one = c.first_bit-bit.ensures in
    let here : c.if-spared.clear ≡ (spared && bit lower one.place) =
    elim c.if-spared.branch [
      | then-spared w ↦
          w.clear-is ∙ (lies_test rest b one lower ∙ sym (ap (λ (x : Bool). x && bit lower one.place) w.if-spared.true))
      | else-spared w ↦ w.clear-is ∙ (w.if-spared.false ∙ sym (and_left spared (bit lower one.place) w.if-spared.false))
    ] in
    sifted_halves set rest b c.requires.apart one
    (is_spared spared lower set (bit_xor rest b)) (is_spared c.if-spared.clear lower (bit_or set b) (bit_xor rest b))
    (is_spared spared lower set rest) c.args.table.now c.clear.new.table c.clear-2.new.table c.clear.ensures
    c.clear-2.ensures (spared_without set rest b c.requires.apart one spared lower)
    (λ s within. spared_with set rest b c.requires.apart one spared c.if-spared.clear lower s here within)
