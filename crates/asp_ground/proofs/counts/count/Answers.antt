use Rattle.std.proofs.Common.{ℕ, ◌≡◌, ◌+◌, ◌∙◌, sym, ap, subst, zero-add, List, [], ◌∷◌, ◌++◌, map, drop, length, arith}
use Rattle.std.specs.List.{flat_map, fold, sum_by}
use Rattle.std.proofs.lemmas.List.{drop_more, drop_all, length-map}
use Rattle.asp_defs.specs.declared.ground.Const.{Const}
use Rattle.asp_defs.specs.declared.syntax.Part.{Part}
use Rattle.asp_defs.specs.declared.syntax.Rule.{Rule}
use Rattle.asp_defs.specs.declared.syntax.Program.{Program}
use Rattle.asp_defs.specs.Constants.{const_cmp, rule_constants, level_rules}
use Rattle.asp_atoms.specs.declared.const_refs.ConstRef.{ConstRef}
use Rattle.asp_atoms.specs.Ascending.{Ascends}
use Rattle.asp_atoms.specs.ConstRefs.{const_of}
use Rattle.asp_atoms.specs.Counts.{shown}
use Rattle.asp_ground.specs.Counts.{with_constant, rule_count, counted_from}
use Rattle.asp_ground.proofs.Counted.{total_counted}
use Rattle.asp_ground.proofs.counts.count.Goals as goal

abbrev rules_of : List Part → List (List Rule)
rules_of levels = map (λ (part : Part). part.rules) levels

nothing_ascends : Ascends const_cmp []
nothing_ascends = tt

counted : (count next part S R : ℕ) → part ≡ shown S → next ≡ shown (count + part) → shown (next + R) ≡ shown (count + (S + R))
counted count next part S R e f = omega (arith, e, f)

-- the instances of one level more
step : (count next part size : ℕ) (found now : List Const) (rules : List Rule) (more : List (List Rule)) → now ≡ fold with_constant found (flat_map rule_constants rules) → size ≡ length now → part ≡ shown (sum_by (rule_count size) rules) → next ≡ shown (count + part) → shown (next + counted_from now more) ≡ shown (count + counted_from found (rules ∷ more))
step count next part size found now rules more added same e f =
    counted count next part (sum_by (rule_count (length now)) rules) (counted_from now more) (e ∙ ap (λ (n : ℕ). shown (sum_by (rule_count n) rules)) same) f
    ∙ ap (λ (cs : List Const). shown (count + (sum_by (rule_count (length cs)) rules + counted_from cs more))) added

sized : (refs : List ConstRef) (n : ℕ) → n ≡ length refs → n ≡ length (map const_of refs)
sized refs n e = e ∙ sym (length-map refs const_of)

pub add_rules-requires : goal.add_rules-requires
add_rules-requires c = c.loop-level.invariant.0

pub loop-level-init : goal.loop-level-init
loop-level-init c = (
  subst (λ (refs : List ConstRef). Ascends const_cmp (map const_of refs)) (sym c.new-found.ensures) nothing_ascends,
  ap (λ (refs : List ConstRef). shown (0 + counted_from (map const_of refs) (rules_of c.as_slice-levels.result.now ++ c.program-program.result.now.cons ∷ []))) c.new-found.ensures
      ∙ (ap shown (zero-add (counted_from [] (rules_of c.as_slice-levels.result.now ++ c.program-program.result.now.cons ∷ [])))
      ∙ ap (λ (levels : List Part). shown (counted_from [] (rules_of levels ++ c.program-program.result.now.cons ∷ []))) c.as_slice-levels.ensures),
)

pub loop-level-preserved : goal.loop-level-preserved
loop-level-preserved c =
    let dropped : drop c.loop-level.level-index c.as_slice-levels.result.now ≡ c.level-item.result ∷ drop (c.loop-level.level-index + 1) c.as_slice-levels.result.now =
    drop_more c.as_slice-levels.result.now c.loop-level.level-index c.level-item.result (omega arith)
    ∙ ap (λ (part : Part). part ∷ drop (c.loop-level.level-index + 1) c.as_slice-levels.result.now) (sym c.level-item.is) in (
      c.add_rules.ensures.ascending,
      step c.loop-level.count c.sum-count.result c.rules_count.result c.len.result (map const_of c.loop-level.found.items) (map const_of c.add_rules.new.found.items) c.as_slice-rules.result.now
          (rules_of (drop (c.loop-level.level-index + 1) c.as_slice-levels.result.now) ++ c.program-program.result.now.cons ∷ [])
          c.add_rules.ensures.added (sized c.add_rules.new.found.items c.len.result c.len.ensures.value) c.rules_count.ensures c.sum-count.ensures
          ∙ (ap (λ (rules : List Rule). shown (c.loop-level.count + counted_from (map const_of c.loop-level.found.items) (rules ∷ (rules_of (drop (c.loop-level.level-index + 1) c.as_slice-levels.result.now) ++ c.program-program.result.now.cons ∷ [])))) c.as_slice-rules.ensures
          ∙ (ap (λ (levels : List Part). shown (c.loop-level.count + counted_from (map const_of c.loop-level.found.items) (rules_of levels ++ c.program-program.result.now.cons ∷ []))) (sym dropped)
          ∙ c.loop-level.invariant.1)),
    )

pub returns : goal.returns
returns c =
    let last = c.sum.ensures in
    let whole : c.sum.result ≡ shown (c.sum.result + 0) = omega (arith, last) in
    whole
    ∙ (step c.loop-level.count c.sum.result c.rules_count-2.result c.len-2.result (map const_of c.loop-level.found.items) (map const_of c.add_rules-2.new.found.items) c.as_slice-cons.result.now []
    c.add_rules-2.ensures.added (sized c.add_rules-2.new.found.items c.len-2.result c.len-2.ensures.value) c.rules_count-2.ensures c.sum.ensures
    ∙ (ap (λ (rules : List Rule). shown (c.loop-level.count + counted_from (map const_of c.loop-level.found.items) (rules ∷ []))) c.as_slice-cons.ensures
    ∙ (ap (λ (levels : List Part). shown (c.loop-level.count + counted_from (map const_of c.loop-level.found.items) (rules_of levels ++ c.program-program.result.now.cons ∷ []))) (sym (drop_all c.loop-level.level-index c.as_slice-levels.result.now (omega arith)))
    ∙ (c.loop-level.invariant.1
    ∙ ap shown (ap (λ (p : Program). counted_from [] (level_rules p)) c.program-program.ensures.program
    ∙ total_counted c.args.checked.now c.program-program.ensures.checked c.program-program.ensures.checkable c.requires.small)))))
