use Rattle.std.proofs.Common.{◌≡◌, ◌≢◌, ℕ, ◌+◌, ◌*◌, ◌∙◌, sym, ap, replicate, set, refl, arith, rules, List, length-set, get_or}
use Rattle.std.proofs.lemmas.List.{get_or-set_same, get_or-set_other, get_or-replicate}
use Rattle.asp_clauses.specs.declared.trail.Truth.{Truth}
use Rattle.asp_clauses.specs.declared.trail.Truth.TheVariants.{Unassigned, Fails}
use Rattle.asp_clauses.proofs.GoesLemmas.{Goes-empty, AreMarks-empty}
use Rattle.asp_clauses.proofs.trail.Trail.new.Goals as goal

pub invariant_of-result : goal.invariant_of-result
invariant_of-result c = record {
  few_atoms = c.requires;
  steps_size = c.in_ok-new.ensures;
  values_size = omega (arith, length-set c.in_ok-values.values.items (2 * c.args.atoms) Fails, c.in_ok-values.ensures.len, c.in_ok-values.values.ok);
  positions_size = omega (arith, c.in_ok-vec.ensures.len, c.in_ok-vec.field-0.ok);
  levels_size = omega (arith, c.in_ok-vec-2.ensures.len, c.in_ok-vec-2.field-0.ok);
  marks_size = omega (arith, c.in_ok-vec-3.ensures.len, c.in_ok-vec-3.field-0.ok);
  len = omega arith;
  decided = omega arith;
  affordable = omega arith;
  tables = record {
    codes = λ place h. absurd (omega arith);
    values = λ code h.
        let all : c.in_ok-values.values.items ≡ replicate (2 * c.args.atoms + 1) Unassigned = c.in_ok-values.ensures.items_if_clones_equal (λ y k. search rules) in
        let ne : code ≢ 2 * c.args.atoms = omega arith in
        let is : get_or (set c.in_ok-values.values.items (2 * c.args.atoms) Fails) code Unassigned ≡ Unassigned =
        get_or-set_other c.in_ok-values.values.items (2 * c.args.atoms) code Fails Unassigned ne ∙ ap (λ (x : List Truth). get_or x code Unassigned) all ∙ get_or-replicate (2 * c.args.atoms + 1) code Unassigned Unassigned (omega arith) in
        record {
          unassigned = λ e place lt. absurd (omega arith);
          holds = λ e. let w = sym is ∙ e in cc;
          fails = λ e. let w = sym is ∙ e in cc;
        };
    origin_value = get_or-set_same c.in_ok-values.values.items (2 * c.args.atoms) Fails Unassigned (omega (arith, c.in_ok-values.ensures.len, c.in_ok-values.values.ok));
    positions = λ place h. absurd (omega arith);
    origin_position = ap (λ (x : List ℕ). get_or x c.args.atoms 0) (c.in_ok-vec.ensures.items_if_clones_equal (λ y k. k)) ∙ get_or-replicate (c.args.atoms + 1) c.args.atoms 0 0 (omega arith);
    levels = λ place h. absurd (omega arith);
  };
  marks = AreMarks-empty;
}

pub returns-clause-goes : goal.returns-clause-goes
returns-clause-goes c = λ book same. Goes-empty book _ same refl refl refl refl
