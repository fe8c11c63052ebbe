use Rattle.std.proofs.Common.{◌≡◌, ℕ, true, false, get_or, ap, ◌∙◌, subst, arith}
use Rattle.std.proofs.lemmas.Nat.{le_or_l}
use Rattle.asp_plain.specs.Cubes.{in_cube}
use Rattle.asp_plain.proofs.Cubes.{only_set, none_halves, apart_without, apart_with, whole_without, whole_with, rest_less}
use Rattle.asp_plain.proofs.answers.+has_some.Goals as goal

pub bounds-table-set : goal.bounds-table-set
bounds-table-set t c = let le = le_or_l c.args.set c.args.rest in let inside = c.requires.inside in omega arith

pub returns-then-rest-eq0 : goal.returns-then-rest-eq0
returns-then-rest-eq0 t c none s within =
    ap (λ (x : ℕ). get_or c.args.table.now x false)
    (only_set c.args.set s (subst (λ (r : ℕ). in_cube c.args.set r s ≡ true) c.if-rest-eq0.true within))
    ∙ none

pub has_some-requires : goal.has_some-requires
has_some-requires t c =
    let less = rest_less c.args.rest c.first_bit-bit.result c.first_bit-bit.ensures in
    let le = whole_without c.args.set c.args.rest c.first_bit-bit.result c.requires.apart c.first_bit-bit.ensures in
    let inside = c.requires.inside in
    let start = c.decreases in (
      omega arith,
      (apart_without c.args.set c.args.rest c.first_bit-bit.result c.requires.apart c.first_bit-bit.ensures, omega arith),
    )

pub has_some-requires-else-has_some : goal.has_some-requires-else-has_some
has_some-requires-else-has_some t c =
    let less = rest_less c.args.rest c.first_bit-bit.result c.first_bit-bit.ensures in
    let same = whole_with c.args.set c.args.rest c.first_bit-bit.result c.requires.apart c.first_bit-bit.ensures in
    let inside = c.requires.inside in
    let start = c.decreases in (
      omega arith,
      (apart_with c.args.set c.args.rest c.first_bit-bit.result c.requires.apart c.first_bit-bit.ensures, omega arith),
    )

pub returns-else-has_some : goal.returns-else-has_some
returns-else-has_some t c none =
    none_halves c.args.set c.args.rest c.first_bit-bit.result c.requires.apart c.first_bit-bit.ensures c.args.table.now
    (c.has_some.ensures c.if-has_some.false) (c.has_some-else-has_some.ensures none)
