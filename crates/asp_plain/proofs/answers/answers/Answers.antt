use Rattle.std.proofs.Common.{Bool, false, not, List, ◌++◌, length, get_or, take, drop, ap, ◌∙◌, subst, arith}
use Rattle.asp_plain.specs.Cubes.{Sifted, is_beaten}
use Rattle.asp_plain.specs.MaskedBounds.{meets_all}
use Rattle.asp_plain.proofs.Tables.{written, has_base, answered}
use Rattle.asp_plain.proofs.answers.answers.Goals as goal

pub keep_models-requires-clause-inside : goal.keep_models-requires-clause-inside
keep_models-requires-clause-inside c =
    has_base c.args.base c.as_mut_slice.result.now (c.as_mut_slice.ensures.value ∙ c.in_ok-table.ensures)

pub keep_met-requires-clause-inside : goal.keep_met-requires-clause-inside
keep_met-requires-clause-inside c =
    let base = has_base c.args.base c.as_mut_slice.result.now (c.as_mut_slice.ensures.value ∙ c.in_ok-table.ensures) in
    let long = c.in_ok-keep_models.ensures.long in
    let count = c.as_mut_slice.ensures.len in
    let same = ap (λ (xs : List Bool). length xs)
    (c.as_mut_slice-2.ensures.value ∙ written c.in_ok-table.table.items c.keep_models.new.table c.in_ok-table.table.len (long ∙ count)) in
    omega arith

pub remove_non_minimal-requires-clause-inside : goal.remove_non_minimal-requires-clause-inside
remove_non_minimal-requires-clause-inside c =
    let count = c.in_ok-table.table.len in
    let kept = c.keep_models.new.table in
    let met = c.keep_met.new.table in
    let base = has_base c.args.base c.as_mut_slice.result.now (c.as_mut_slice.ensures.value ∙ c.in_ok-table.ensures) in
    let long = c.in_ok-keep_models.ensures.long in
    let long_met = c.keep_met.ensures.long in
    let at = c.as_mut_slice.ensures.len in
    let same = ap (λ (xs : List Bool). length xs)
    (c.as_mut_slice-2.ensures.value ∙ written c.in_ok-table.table.items kept count (long ∙ at)) in
    let again = ap (λ (xs : List Bool). length xs)
    (c.as_mut_slice-3.ensures.value
    ∙ written (take count (kept ++ drop (length kept) c.in_ok-table.table.items)) met count (long_met ∙ c.as_mut_slice-2.ensures.len)) in
    omega arith

pub returns : goal.returns
returns c s part =
    let count = c.in_ok-table.table.len in
    let old = c.as_mut_slice.result.now in
    let kept = c.keep_models.new.table in
    let met = c.keep_met.new.table in
    let new = c.remove_non_minimal.new.table in
    let first = take count (kept ++ drop (length kept) c.in_ok-table.table.items) in
    let second = take count (met ++ drop (length met) first) in
    let same_kept = c.as_mut_slice-2.ensures.value
    ∙ written c.in_ok-table.table.items kept count (c.in_ok-keep_models.ensures.long ∙ c.as_mut_slice.ensures.len) in
    let same_met = c.as_mut_slice-3.ensures.value ∙ written first met count (c.keep_met.ensures.long ∙ c.as_mut_slice-2.ensures.len) in
    ap (λ (xs : List Bool). get_or xs s false)
    (written second new count (c.in_ok-remove_non_minimal.ensures.long ∙ c.as_mut_slice-3.ensures.len))
    ∙ answered c.args.rules.now c.args.bounds.now c.args.lower c.args.base old kept met new
    (c.as_mut_slice.ensures.value ∙ c.in_ok-table.ensures)
    c.in_ok-keep_models.ensures
    (subst (λ (middle : List Bool). Sifted 0 c.args.base (meets_all c.args.bounds.now) middle met) same_kept c.keep_met.ensures)
    (subst (λ (middle : List Bool). Sifted 0 c.args.base (λ x. not (is_beaten c.args.rules.now c.args.lower 0 c.args.base x)) middle new) same_met
    c.in_ok-remove_non_minimal.ensures)
    s part
