use Rattle.std.proofs.Common.{◌<◌, ℕ, length, false, set as with_entry, refl, sym, ap, ◌∙◌, subst, arith}
use Rattle.std.proofs.lemmas.Nat.{le_or_l}
use Rattle.asp_plain.specs.Cubes.{Sifted}
use Rattle.asp_plain.specs.MaskedBounds.{meets_all}
use Rattle.asp_plain.proofs.Cubes.{only_set, sifted_one, sifted_none, sifted_halves, apart_without, apart_with, whole_without, whole_with, rest_less}
use Rattle.asp_plain.proofs.bounds.+keep_met.Goals as goal

pub bounds-table-set : goal.bounds-table-set
bounds-table-set t c = let le = le_or_l c.args.set c.args.rest in let inside = c.requires.inside in omega arith

pub returns-then-not-meets_all : goal.returns-then-not-meets_all
returns-then-not-meets_all t c =
    let le = le_or_l c.args.set c.args.rest in
    let inside = c.requires.inside in
    let within : c.args.set < length c.args.table.now = omega arith in
    subst (λ (r : ℕ). Sifted c.args.set r (meets_all c.args.bounds.now) c.args.table.now (with_entry c.args.table.now c.args.set false))
    (sym c.if-rest-eq0.true)
    (sifted_one c.args.set (meets_all c.args.bounds.now) c.args.table.now within (sym c.meets_all.ensures ∙ c.if-not-meets_all.true))

pub returns-else-not-meets_all : goal.returns-else-not-meets_all
returns-else-not-meets_all t c =
    subst (λ (r : ℕ). Sifted c.args.set r (meets_all c.args.bounds.now) c.args.table.now c.args.table.now)
    (sym c.if-rest-eq0.true)
    (sifted_none c.args.set 0 (meets_all c.args.bounds.now) c.args.table.now (λ s within there.
    ap (meets_all c.args.bounds.now) (only_set c.args.set s within) ∙ (sym c.meets_all.ensures ∙ c.if-not-meets_all.false)))

pub keep_met-requires : goal.keep_met-requires
keep_met-requires t c =
    let less = rest_less c.args.rest c.first_bit-bit.result c.first_bit-bit.ensures in
    let le = whole_without c.args.set c.args.rest c.first_bit-bit.result c.requires.apart c.first_bit-bit.ensures in
    let inside = c.requires.inside in
    let start = c.decreases in (
      omega arith,
      (apart_without c.args.set c.args.rest c.first_bit-bit.result c.requires.apart c.first_bit-bit.ensures, omega arith),
    )

pub keep_met-requires-2 : goal.keep_met-requires-2
keep_met-requires-2 t c =
    let less = rest_less c.args.rest c.first_bit-bit.result c.first_bit-bit.ensures in
    let same = whole_with c.args.set c.args.rest c.first_bit-bit.result c.requires.apart c.first_bit-bit.ensures in
    let inside = c.requires.inside in
    let long = c.keep_met.ensures.long in
    let start = c.decreases in (
      omega arith,
      (apart_with c.args.set c.args.rest c.first_bit-bit.result c.requires.apart c.first_bit-bit.ensures, omega arith),
    )

pub returns : goal.returns
returns t c =
    let b = c.first_bit-bit.result in
    sifted_halves c.args.set c.args.rest b c.requires.apart c.first_bit-bit.ensures
    (meets_all c.args.bounds.now) (meets_all c.args.bounds.now) (meets_all c.args.bounds.now)
    c.args.table.now c.keep_met.new.table c.keep_met-2.new.table c.keep_met.ensures c.keep_met-2.ensures
    (λ s within. refl) (λ s within. refl)
