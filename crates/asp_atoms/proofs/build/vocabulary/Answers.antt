use Rattle.std.proofs.Common.{◌∙◌, ◌-◌, ◌^◌, ◌≤◌, sym, ap, subst, List, map, length, arith}
use Rattle.std.specs.List.{sum_by}
use Rattle.asp_defs.specs.declared.ground.Const.{Const}
use Rattle.asp_defs.specs.Lists.{IsIn}
use Rattle.asp_defs.specs.Constants.{const_cmp, universe}
use Rattle.asp_defs.specs.Bases.{Predicate, last_level}
use Rattle.asp_atoms.specs.Ascending.{Ascends}
use Rattle.asp_atoms.specs.Universes.{constants_of}
use Rattle.asp_atoms.specs.Signatures.{predicates_of}
use Rattle.asp_atoms.proofs.Assembling.{universe_ascends}
use Rattle.asp_atoms.proofs.Gathering.{few_constants, few_of_predicates, many_universes, many_signatures, last_constants, last_predicates, same_vocabulary}
use Rattle.asp_atoms.proofs.build.vocabulary.Goals as goal

pub overflow_sub-last : goal.overflow_sub-last
overflow_sub-last c =
    let l = many_universes c.args.checked.now c.in_ok-gathered.gathered c.in_ok-gathered.ensures in
    let k = c.len-last.ensures in
    omega (arith, l, k)

pub index-constants-requires : goal.index-constants-requires
index-constants-requires c =
    let l = many_universes c.args.checked.now c.in_ok-gathered.gathered c.in_ok-gathered.ensures in
    let k = c.len-last.ensures in
    omega (arith, l, k)

pub index-requires : goal.index-requires
index-requires c =
    let l = many_universes c.args.checked.now c.in_ok-gathered.gathered c.in_ok-gathered.ensures in
    let m = many_signatures c.args.checked.now c.in_ok-gathered.gathered c.in_ok-gathered.ensures in
    let k = c.len-last.ensures in
    omega (arith, l, m, k)

pub vocabulary_over-requires-clause-constants : goal.vocabulary_over-requires-clause-constants
vocabulary_over-requires-clause-constants c =
    subst (λ (us : List Const). length us ≤ 4096) (sym (last_constants c.args.checked.now c.in_ok-gathered.gathered (c.len-last.result - 1) c.index-constants.result.now c.in_ok-gathered.ensures (let l = many_universes c.args.checked.now c.in_ok-gathered.gathered c.in_ok-gathered.ensures in let k = c.len-last.ensures in omega (arith, l, k)) c.index-constants.ensures)) (few_constants c.args.checked.now c.in_ok-gathered.ensures.small)

pub vocabulary_over-requires-clause-ordered : goal.vocabulary_over-requires-clause-ordered
vocabulary_over-requires-clause-ordered c =
    subst (Ascends const_cmp) (sym (last_constants c.args.checked.now c.in_ok-gathered.gathered (c.len-last.result - 1) c.index-constants.result.now c.in_ok-gathered.ensures (let l = many_universes c.args.checked.now c.in_ok-gathered.gathered c.in_ok-gathered.ensures in let k = c.len-last.ensures in omega (arith, l, k)) c.index-constants.ensures)) (universe_ascends c.args.checked.now (last_level c.args.checked.now))

pub vocabulary_over-requires-clause-atoms : goal.vocabulary_over-requires-clause-atoms
vocabulary_over-requires-clause-atoms c =
    subst (λ (us : List Const). sum_by (λ (q : Predicate). length us ^ q.arity) (predicates_of c.as_slice-predicates.result.now) ≤ 262144) (sym (last_constants c.args.checked.now c.in_ok-gathered.gathered (c.len-last.result - 1) c.index-constants.result.now c.in_ok-gathered.ensures (let l = many_universes c.args.checked.now c.in_ok-gathered.gathered c.in_ok-gathered.ensures in let k = c.len-last.ensures in omega (arith, l, k)) c.index-constants.ensures))
    (subst (λ (qs : List Predicate). sum_by (λ (q : Predicate). length (universe c.args.checked.now (last_level c.args.checked.now)) ^ q.arity) qs ≤ 262144) (sym (ap predicates_of c.as_slice-predicates.ensures.value ∙ last_predicates c.args.checked.now c.in_ok-gathered.gathered (c.len-last.result - 1) c.index.result.now c.in_ok-gathered.ensures (let l = many_universes c.args.checked.now c.in_ok-gathered.gathered c.in_ok-gathered.ensures in let k = c.len-last.ensures in omega (arith, l, k)) c.index.ensures)) (few_of_predicates c.args.checked.now c.in_ok-gathered.ensures.small))

pub vocabulary_over-requires-clause-short : goal.vocabulary_over-requires-clause-short
vocabulary_over-requires-clause-short c = λ q i. c.in_ok-gathered.ensures.short q (subst (λ (qs : List Predicate). IsIn q qs) (ap predicates_of c.as_slice-predicates.ensures.value ∙ last_predicates c.args.checked.now c.in_ok-gathered.gathered (c.len-last.result - 1) c.index.result.now c.in_ok-gathered.ensures (let l = many_universes c.args.checked.now c.in_ok-gathered.gathered c.in_ok-gathered.ensures in let k = c.len-last.ensures in omega (arith, l, k)) c.index.ensures) i)

pub returns : goal.returns
returns c = record {
  same =
      c.in_ok-vocabulary.ensures
      ∙ same_vocabulary c.args.checked.now (constants_of c.index-constants.result.now) (map constants_of c.as_slice-universes.result.now) (predicates_of c.as_slice-predicates.result.now) c.in_ok-gathered.gathered.atoms
      (last_constants c.args.checked.now c.in_ok-gathered.gathered (c.len-last.result - 1) c.index-constants.result.now c.in_ok-gathered.ensures (let l = many_universes c.args.checked.now c.in_ok-gathered.gathered c.in_ok-gathered.ensures in let k = c.len-last.ensures in omega (arith, l, k)) c.index-constants.ensures) (ap (map constants_of) c.as_slice-universes.ensures.value ∙ c.in_ok-gathered.ensures.constants) (ap predicates_of c.as_slice-predicates.ensures.value ∙ last_predicates c.args.checked.now c.in_ok-gathered.gathered (c.len-last.result - 1) c.index.result.now c.in_ok-gathered.ensures (let l = many_universes c.args.checked.now c.in_ok-gathered.gathered c.in_ok-gathered.ensures in let k = c.len-last.ensures in omega (arith, l, k)) c.index.ensures) c.in_ok-gathered.ensures.counted;
  small = c.in_ok-gathered.ensures.small;
}
