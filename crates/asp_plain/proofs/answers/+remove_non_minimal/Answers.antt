use Rattle.std.proofs.Common.{◌≡◌, true, refl, arith}
use Rattle.std.specs.Int.RustNames.{bit_or}
use Rattle.std.proofs.lemmas.Result.{on_ok_weaker}
use Rattle.std.proofs.lemmas.Bool.{both_ways}
use Rattle.asp_plain.specs.Cubes.{rule_atoms, left_of}
use Rattle.asp_plain.proofs.Atoms.{bit}
use Rattle.asp_plain.proofs.Beaten.{one_open, unbeaten}
use Rattle.asp_plain.proofs.Calls.{fit_of, moved, fit_alone_without, fit_alone_with, rest_alone, whole_alone, fit_without, fit_with, without_le, rest_of}
use Rattle.asp_plain.proofs.Cubes.{whole_without, whole_with, rest_less, lies_in, lies_out}
use Rattle.asp_plain.proofs.Removing.{same_list, same_unbeaten, cleared, removed_alone, removed}
use Rattle.asp_plain.proofs.answers.+remove_non_minimal.Goals as goal
use Rattle.asp_plain.proofs.answers.+remove_non_minimal.Goals.{else-bit-loose-ne0-via-then-bit-loose-ne0+else-bit-lower-eq0, else-bit-loose-ne0-via-else-bit-loose-ne0}

pub returns-then-loose-lower : goal.returns-then-loose-lower
returns-then-loose-lower t c =
    same_unbeaten c.args.rules.now c.args.lower c.args.set c.args.small c.args.rest c.args.loose c.args.table.now c.requires.part
    c.if-small-loose.true c.if-loose-lower.true

pub returns-in_default : goal.returns-in_default
returns-in_default t c =
    unbeaten c.args.rules.now c.args.lower c.args.set c.args.small c.args.rest c.args.loose c.args.table.now
    (c.in_ok-left.ensures.broken c.in_default.is)

pub returns-in_default-shortest : goal.returns-in_default-shortest
returns-in_default-shortest t c =
    let lower = c.args.lower in
    let set = c.args.set in
    let small = c.args.small in
    let rest = c.args.rest in
    let loose = c.args.loose in
    let kept = c.as_slice-kept.result.now in
    let whole_left = rw c.in-Some.is at c.in_ok-left.ensures.whole in
    let members = same_list kept c.in-Some.left.items (left_of set small rest loose c.args.rules.now) c.as_slice-kept.ensures.value
    whole_left.members in
    let fit = fit_of lower set small rest loose c.requires.apart c.requires.part c.requires.free c.requires.within
    c.requires.settled in
    cleared c.args.rules.now kept lower set small rest loose members fit c.args.table.now c.clear.new.table
    (c.in_default-shortest.ensures.none refl) c.clear.ensures

pub remove_non_minimal-requires : goal.remove_non_minimal-requires
remove_non_minimal-requires t c =
    let lower = c.args.lower in
    let set = c.args.set in
    let small = c.args.small in
    let rest = c.args.rest in
    let loose = c.args.loose in
    let b = c.chosen-bit.result in
    let kept = c.as_slice-kept.result.now in
    let whole_left = rw c.in-Some.is at c.in_ok-left.ensures.whole in
    let members = same_list kept c.in-Some.left.items (left_of set small rest loose c.args.rules.now) c.as_slice-kept.ensures.value
    whole_left.members in
    let fit = fit_of lower set small rest loose c.requires.apart c.requires.part c.requires.free c.requires.within
    c.requires.settled in
    let either = one_open c.args.rules.now kept lower set small rest loose members c.in-Some-shortest.rule kept
    (rule_atoms c.in-Some-shortest.rule) b refl c.in-Some-shortest.ensures.member refl c.chosen-bit.ensures in
    let one = moved (bit_or rest loose) b either loose (lies_in (bit_or rest loose) b either loose c.if-bit-loose-ne0.true) in
    let less = rest_less loose b one in
    let start = c.decreases in
    let next = fit_alone_without lower set small rest loose b fit one in
    (omega arith, (next.apart, (next.part, (next.free, (next.within, (next.settled, c.requires.inside))))))

pub remove_non_minimal-requires-then-bit-lower-eq0 : goal.remove_non_minimal-requires-then-bit-lower-eq0
remove_non_minimal-requires-then-bit-lower-eq0 t c =
    let lower = c.args.lower in
    let set = c.args.set in
    let small = c.args.small in
    let rest = c.args.rest in
    let loose = c.args.loose in
    let b = c.chosen-bit.result in
    let kept = c.as_slice-kept.result.now in
    let whole_left = rw c.in-Some.is at c.in_ok-left.ensures.whole in
    let members = same_list kept c.in-Some.left.items (left_of set small rest loose c.args.rules.now) c.as_slice-kept.ensures.value
    whole_left.members in
    let fit = fit_of lower set small rest loose c.requires.apart c.requires.part c.requires.free c.requires.within
    c.requires.settled in
    let either = one_open c.args.rules.now kept lower set small rest loose members c.in-Some-shortest.rule kept
    (rule_atoms c.in-Some-shortest.rule) b refl c.in-Some-shortest.ensures.member refl c.chosen-bit.ensures in
    let one = moved (bit_or rest loose) b either loose (lies_in (bit_or rest loose) b either loose c.if-bit-loose-ne0.true) in
    let less = rest_less loose b one in
    let no_more = rest_alone lower set small rest loose b fit one in
    let start = c.decreases in
    let next = fit_alone_with lower set small rest loose b fit one in
    let whole = whole_alone lower set small rest loose b fit one in
    let inside = c.requires.inside in
    let long = c.in_ok-remove_non_minimal.ensures.long in
    (omega arith, (next.apart, (next.part, (next.free, (next.within, (next.settled, omega arith))))))

pub returns-then-bit-lower-eq0 : goal.returns-then-bit-lower-eq0
returns-then-bit-lower-eq0 t c =
    let lower = c.args.lower in
    let set = c.args.set in
    let small = c.args.small in
    let rest = c.args.rest in
    let loose = c.args.loose in
    let b = c.chosen-bit.result in
    let kept = c.as_slice-kept.result.now in
    let whole_left = rw c.in-Some.is at c.in_ok-left.ensures.whole in
    let members = same_list kept c.in-Some.left.items (left_of set small rest loose c.args.rules.now) c.as_slice-kept.ensures.value
    whole_left.members in
    let fit = fit_of lower set small rest loose c.requires.apart c.requires.part c.requires.free c.requires.within
    c.requires.settled in
    let either = one_open c.args.rules.now kept lower set small rest loose members c.in-Some-shortest.rule kept
    (rule_atoms c.in-Some-shortest.rule) b refl c.in-Some-shortest.ensures.member refl c.chosen-bit.ensures in
    let one = moved (bit_or rest loose) b either loose (lies_in (bit_or rest loose) b either loose c.if-bit-loose-ne0.true) in
    on_ok_weaker c.remove_non_minimal-then-bit-lower-eq0.result
    (removed_alone c.args.rules.now kept lower set small rest loose members fit b one (lies_out loose b one lower c.if-bit-lower-eq0.true)
    c.args.table.now c.remove_non_minimal.new.table c.remove_non_minimal-then-bit-lower-eq0.new.table c.in_ok-remove_non_minimal.ensures)
    c.remove_non_minimal-then-bit-lower-eq0.ensures

pub remove_non_minimal-requires-2 : goal.remove_non_minimal-requires-2
remove_non_minimal-requires-2 t c =
    let lower = c.args.lower in
    let set = c.args.set in
    let small = c.args.small in
    let rest = c.args.rest in
    let loose = c.args.loose in
    let b = c.chosen-bit.result in
    let kept = c.as_slice-kept.result.now in
    let whole_left = rw c.in-Some.is at c.in_ok-left.ensures.whole in
    let members = same_list kept c.in-Some.left.items (left_of set small rest loose c.args.rules.now) c.as_slice-kept.ensures.value
    whole_left.members in
    let fit = fit_of lower set small rest loose c.requires.apart c.requires.part c.requires.free c.requires.within
    c.requires.settled in
    let either = one_open c.args.rules.now kept lower set small rest loose members c.in-Some-shortest.rule kept
    (rule_atoms c.in-Some-shortest.rule) b refl c.in-Some-shortest.ensures.member refl c.chosen-bit.ensures in
    let fixed : bit loose either.place ≡ true → bit lower either.place ≡ true =
    λ on.
    elim c.else-bit-loose-ne0.branch [
      | else-bit-loose-ne0-via-then-bit-loose-ne0+else-bit-lower-eq0 w ↦
          lies_in (bit_or rest loose) b either lower w.if-bit-lower-eq0.false
      | else-bit-loose-ne0-via-else-bit-loose-ne0 w ↦
          absurd (both_ways (bit loose either.place) (lies_out (bit_or rest loose) b either loose w.if-bit-loose-ne0.false) on)
    ] in
    let one = rest_of lower set small rest loose b fit either fixed in
    let less = rest_less rest b one in
    let no_more = without_le rest b one loose in
    let start = c.decreases in
    let next = fit_without lower set small rest loose b fit one in
    let whole = whole_without set rest b c.requires.apart one in
    let inside = c.requires.inside in
    (omega arith, (next.apart, (next.part, (next.free, (next.within, (next.settled, omega arith))))))

pub remove_non_minimal-requires-3 : goal.remove_non_minimal-requires-3
remove_non_minimal-requires-3 t c =
    let lower = c.args.lower in
    let set = c.args.set in
    let small = c.args.small in
    let rest = c.args.rest in
    let loose = c.args.loose in
    let b = c.chosen-bit.result in
    let kept = c.as_slice-kept.result.now in
    let whole_left = rw c.in-Some.is at c.in_ok-left.ensures.whole in
    let members = same_list kept c.in-Some.left.items (left_of set small rest loose c.args.rules.now) c.as_slice-kept.ensures.value
    whole_left.members in
    let fit = fit_of lower set small rest loose c.requires.apart c.requires.part c.requires.free c.requires.within
    c.requires.settled in
    let either = one_open c.args.rules.now kept lower set small rest loose members c.in-Some-shortest.rule kept
    (rule_atoms c.in-Some-shortest.rule) b refl c.in-Some-shortest.ensures.member refl c.chosen-bit.ensures in
    let fixed : bit loose either.place ≡ true → bit lower either.place ≡ true =
    λ on.
    elim c.else-bit-loose-ne0.branch [
      | else-bit-loose-ne0-via-then-bit-loose-ne0+else-bit-lower-eq0 w ↦
          lies_in (bit_or rest loose) b either lower w.if-bit-lower-eq0.false
      | else-bit-loose-ne0-via-else-bit-loose-ne0 w ↦
          absurd (both_ways (bit loose either.place) (lies_out (bit_or rest loose) b either loose w.if-bit-loose-ne0.false) on)
    ] in
    let one = rest_of lower set small rest loose b fit either fixed in
    let less = rest_less rest b one in
    let no_more = without_le rest b one loose in
    let start = c.decreases in
    let next = fit_with lower set small rest loose b fit one in
    let whole = whole_with set rest b c.requires.apart one in
    let inside = c.requires.inside in
    let long = c.in_ok-remove_non_minimal-2.ensures.long in
    (omega arith, (next.apart, (next.part, (next.free, (next.within, (next.settled, omega arith))))))

pub returns : goal.returns
returns t c =
    let lower = c.args.lower in
    let set = c.args.set in
    let small = c.args.small in
    let rest = c.args.rest in
    let loose = c.args.loose in
    let b = c.chosen-bit.result in
    let kept = c.as_slice-kept.result.now in
    let whole_left = rw c.in-Some.is at c.in_ok-left.ensures.whole in
    let members = same_list kept c.in-Some.left.items (left_of set small rest loose c.args.rules.now) c.as_slice-kept.ensures.value
    whole_left.members in
    let fit = fit_of lower set small rest loose c.requires.apart c.requires.part c.requires.free c.requires.within
    c.requires.settled in
    let either = one_open c.args.rules.now kept lower set small rest loose members c.in-Some-shortest.rule kept
    (rule_atoms c.in-Some-shortest.rule) b refl c.in-Some-shortest.ensures.member refl c.chosen-bit.ensures in
    let fixed : bit loose either.place ≡ true → bit lower either.place ≡ true =
    λ on.
    elim c.else-bit-loose-ne0.branch [
      | else-bit-loose-ne0-via-then-bit-loose-ne0+else-bit-lower-eq0 w ↦
          lies_in (bit_or rest loose) b either lower w.if-bit-lower-eq0.false
      | else-bit-loose-ne0-via-else-bit-loose-ne0 w ↦
          absurd (both_ways (bit loose either.place) (lies_out (bit_or rest loose) b either loose w.if-bit-loose-ne0.false) on)
    ] in
    let one = rest_of lower set small rest loose b fit either fixed in
    on_ok_weaker c.remove_non_minimal-3.result
    (removed c.args.rules.now kept lower set small rest loose members fit b one fixed c.args.table.now c.remove_non_minimal-2.new.table
    c.remove_non_minimal-3.new.table c.in_ok-remove_non_minimal-2.ensures)
    c.remove_non_minimal-3.ensures
