use Rattle.std.proofs.Common.{◌∙◌, ◌+◌, ◌^◌, ap, List, map, min, length, arith, Vec, Global, Bor}
use Rattle.std.specs.List.{sum_by}
use Rattle.asp_defs.specs.declared.ground.Const.{Const}
use Rattle.asp_defs.specs.declared.syntax.Rule.{Rule}
use Rattle.asp_defs.specs.Constants.{level_rules}
use Rattle.asp_defs.specs.Bases.{Predicate}
use Rattle.asp_defs.specs.Limits.{most_shown}
use Rattle.asp_atoms.specs.declared.signatures.Signature.{Signature}
use Rattle.asp_atoms.specs.Universes.{constants_of, universe_to}
use Rattle.asp_atoms.specs.Signatures.{predicates_of, predicates_to}
use Rattle.asp_atoms.proofs.Levels.{value_long}
use Rattle.asp_atoms.proofs.Counting.{short_predicates}
use Rattle.asp_atoms.proofs.Gathering.{all_levels, levels_last, IsCounted, refusal, small, exact, total_fits}
use Rattle.std.proofs.lemmas.Result.{err_from_is_err_and}
use Rattle.asp_atoms.proofs.gathered.gather.Goals.{After-count_atoms-total}
use Rattle.asp_atoms.proofs.gathered.gather.Goals as goal

counted : (c : After-count_atoms-total) → IsCounted c.args.checked.now c.count-size.result c.count_atoms-total.result
counted c = record {
  constants = c.count-size.ensures ∙ ap (λ (us : List Const). min (length us) most_shown) (levels_last constants_of universe_to c.args.checked.now c.in_ok-levels.levels.items c.as_slice.result.now c.in_ok-universes.universes.items c.len.result c.index-last.result.now
      c.as_slice.ensures.value (c.in_ok-levels.ensures ∙ ap level_rules c.program.ensures.program) c.in_ok-universes.ensures (let k = c.len.ensures in let o = c.in_ok-levels.levels.ok in omega (arith, k, o)) c.index-last.ensures);
  atoms = c.count_atoms-total.ensures ∙ ap (λ (qs : List Predicate). min (sum_by (λ (q : Predicate). c.count-size.result ^ q.arity) qs) most_shown) (ap predicates_of c.as_slice-predicates.ensures.value
      ∙ levels_last (λ (s : Vec Signature Global). predicates_of s.items) predicates_to c.args.checked.now c.in_ok-levels.levels.items c.as_slice-2.result.now c.in_ok-signatures.signatures.items c.len-2.result c.index.result.now
      c.as_slice-2.ensures.value (c.in_ok-levels.ensures ∙ ap level_rules c.program.ensures.program) c.in_ok-signatures.ensures (let k = c.len-2.ensures in let o = c.in_ok-levels.levels.ok in omega (arith, k, o)) c.index.ensures);
}

pub index-last-requires : goal.index-last-requires
index-last-requires c =
    let l = value_long constants_of (universe_to (map (λ (r : Bor (List Rule)). r.now) c.as_slice.result.now)) c.in_ok-universes.universes.items (length c.as_slice.result.now + 1) c.in_ok-universes.ensures in
    let o = c.in_ok-universes.universes.ok in
    let k = c.len.ensures in
    let s = c.as_slice.ensures.len in
    omega (arith, l, o, k, s)

pub index-requires : goal.index-requires
index-requires c =
    let l = value_long (λ (s : Vec Signature Global). predicates_of s.items) (predicates_to (map (λ (r : Bor (List Rule)). r.now) c.as_slice-2.result.now)) c.in_ok-signatures.signatures.items (length c.as_slice-2.result.now + 1) c.in_ok-signatures.ensures in
    let o = c.in_ok-signatures.signatures.ok in
    let k = c.len-2.ensures in
    let s = c.as_slice-2.ensures.len in
    omega (arith, l, o, k, s)

pub returns-in_err-within_limits : goal.returns-in_err-within_limits
returns-in_err-within_limits c =
    let p = err_from_is_err_and c.from_residual-in_err-within_limits.result c.from_residual-in_err-within_limits.ensures.1 in
    let h = refusal c.args.checked.now c.count-size.result c.count_atoms-total.result (counted (goal.at.returns-in_err-within_limits c).After-count_atoms-total) c.in_err-within_limits.field-0.0 c.in_err-within_limits.ensures in
    rw (p.1, p.2) h

pub overflow_cast-atoms : goal.overflow_cast-atoms
overflow_cast-atoms c = total_fits c.count-size.result c.count_atoms-total.result c.in_ok-within_limits.ensures

pub returns : goal.returns
returns c = record {
  constants = all_levels constants_of universe_to c.args.checked.now c.in_ok-levels.levels.items c.as_slice.result.now c.in_ok-universes.universes.items c.as_slice.ensures.value
      (c.in_ok-levels.ensures ∙ ap level_rules c.program.ensures.program) c.in_ok-universes.ensures;
  signed = all_levels (λ (s : Vec Signature Global). predicates_of s.items) predicates_to c.args.checked.now c.in_ok-levels.levels.items c.as_slice-2.result.now c.in_ok-signatures.signatures.items c.as_slice-2.ensures.value
      (c.in_ok-levels.ensures ∙ ap level_rules c.program.ensures.program) c.in_ok-signatures.ensures;
  counted = exact c.args.checked.now c.count-size.result c.count_atoms-total.result (counted (goal.at.returns c).After-count_atoms-total) c.in_ok-within_limits.ensures;
  small = small c.args.checked.now c.count-size.result c.count_atoms-total.result (counted (goal.at.returns c).After-count_atoms-total) c.in_ok-within_limits.ensures;
  short = short_predicates c.args.checked.now c.program.ensures.checked;
}
