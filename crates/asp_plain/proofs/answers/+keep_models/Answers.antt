use Rattle.std.proofs.Common.{refl, arith}
use Rattle.std.proofs.lemmas.Result.{on_ok_weaker}
use Rattle.asp_plain.proofs.Cubes.{apart_without, apart_with, whole_without, whole_with, rest_less}
use Rattle.asp_plain.proofs.Kept.{one_left, all_models, no_models, models_halves}
use Rattle.asp_plain.proofs.answers.+keep_models.Goals as goal

pub returns-in_default : goal.returns-in_default
returns-in_default t c =
    no_models c.args.rules.now c.args.set c.args.rest (c.in_ok-left.ensures.broken c.in_default.is) c.args.table.now c.clear.new.table
    c.clear.ensures

pub returns-in_default-shortest : goal.returns-in_default-shortest
returns-in_default-shortest t c =
    let whole_left = rw c.in-Some.is at c.in_ok-left.ensures.whole in
    all_models c.args.rules.now c.in-Some.left.items c.as_slice.result.now c.args.set c.args.rest whole_left.members
    c.as_slice.ensures.value (c.in_default-shortest.ensures.none refl) c.args.table.now

pub keep_models-requires : goal.keep_models-requires
keep_models-requires t c =
    let set = c.args.set in
    let rest = c.args.rest in
    let b = c.first_bit-bit.result in
    let whole_left = rw c.in-Some.is at c.in_ok-left.ensures.whole in
    let one = one_left c.args.rules.now c.in-Some.left.items c.as_slice.result.now set rest whole_left.members
    c.as_slice.ensures.value c.in-Some-shortest.rule c.atoms.result b c.in-Some-shortest.ensures.member c.atoms.ensures
    c.first_bit-bit.ensures in
    let less = rest_less rest b one in
    let start = c.decreases in
    let whole = whole_without set rest b c.requires.apart one in
    let inside = c.requires.inside in
    (omega arith, (apart_without set rest b c.requires.apart one, omega arith))

pub keep_models-requires-2 : goal.keep_models-requires-2
keep_models-requires-2 t c =
    let set = c.args.set in
    let rest = c.args.rest in
    let b = c.first_bit-bit.result in
    let whole_left = rw c.in-Some.is at c.in_ok-left.ensures.whole in
    let one = one_left c.args.rules.now c.in-Some.left.items c.as_slice.result.now set rest whole_left.members
    c.as_slice.ensures.value c.in-Some-shortest.rule c.atoms.result b c.in-Some-shortest.ensures.member c.atoms.ensures
    c.first_bit-bit.ensures in
    let less = rest_less rest b one in
    let start = c.decreases in
    let whole = whole_with set rest b c.requires.apart one in
    let inside = c.requires.inside in
    let long = c.in_ok-keep_models.ensures.long in
    (omega arith, (apart_with set rest b c.requires.apart one, omega arith))

pub returns : goal.returns
returns t c =
    let set = c.args.set in
    let rest = c.args.rest in
    let b = c.first_bit-bit.result in
    let whole_left = rw c.in-Some.is at c.in_ok-left.ensures.whole in
    let one = one_left c.args.rules.now c.in-Some.left.items c.as_slice.result.now set rest whole_left.members
    c.as_slice.ensures.value c.in-Some-shortest.rule c.atoms.result b c.in-Some-shortest.ensures.member c.atoms.ensures
    c.first_bit-bit.ensures in
    on_ok_weaker c.keep_models-2.result (λ sifted.
    models_halves c.args.rules.now c.in-Some.left.items c.as_slice-2.result.now set rest whole_left.members
    c.as_slice-2.ensures.value b c.requires.apart one c.as_slice-3.result.now c.as_slice-3.ensures.value c.args.table.now
    c.keep_models.new.table c.keep_models-2.new.table c.in_ok-keep_models.ensures sifted)
    c.keep_models-2.ensures
