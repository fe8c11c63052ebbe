use Rattle.std.proofs.Common.{◌≡◌, ◌+◌, ◌<◌, ℕ, List, [], length, get_or, sym, ap, ◌∙◌, subst, arith}
use Rattle.std.specs.Prelude.{IsTrue}
use Rattle.std.specs.List.{list_all}
use Rattle.std.proofs.lemmas.List.{length_push}
use Rattle.asp_defs.specs.declared.ground.GroundRule.{GroundRule}
use Rattle.asp_defs.specs.declared.ground.Bound.{Bound}
use Rattle.asp_defs.specs.Games.{base}
use Rattle.asp_reduct.specs.Bounds.{are_below, is_rule_below, is_bound_below}
use Rattle.asp_plain.specs.declared.masks.Level.{Level}
use Rattle.asp_plain.specs.Masks.{most_masked}
use Rattle.asp_plain.specs.Levels.{AreMasked}
use Rattle.asp_plain.proofs.AtomsBelow.{base-below, rules-below, bounds-below}
use Rattle.asp_plain.proofs.Gathering.{AreMasked-push, read-at, IsMasked-same}
use Rattle.asp_plain.proofs.masks.masked_levels.Goals as goal
use Rattle.asp_plain.proofs.masks.masked_levels.Goals.{After-as_slice}

-- what this turn of the loop reads
module _ (c : After-as_slice) where
  rules_left : c.loop-below.below < length c.args.game.now.rules
  rules_left = let h = c.loop-below-test.true in omega (arith, ap (λ (xs : List (List GroundRule)). length xs) c.as_slice-rules-items.ensures)

  members_left : c.loop-below.below + 1 < length c.as_slice-members.result.now
  members_left =
      omega (
        arith,
        rules_left,
        c.requires.valid.rule_lists,
        c.requires.valid.base_lists,
        ap (λ (xs : List (List ℕ)). length xs) c.as_slice-members.ensures,
      )

  lower_is : c.as_slice-lower.result.now ≡ base c.args.game.now c.loop-below.below
  lower_is =
      read-at c.as_slice-members.result.now c.args.game.now.bases.members c.loop-below.below c.index-members-below.result
      c.as_slice-lower.result.now c.as_slice-members.ensures (let h = members_left in omega arith) c.index-members-below.is c.as_slice-lower.ensures

  base_is : c.as_slice-base.result.now ≡ base c.args.game.now (c.loop-below.below + 1)
  base_is =
      read-at c.as_slice-members.result.now c.args.game.now.bases.members (c.loop-below.below + 1)
      c.index-members-below-in-loop-below.result c.as_slice-base.result.now c.as_slice-members.ensures members_left
      c.index-members-below-in-loop-below.is c.as_slice-base.ensures

  rules_are : c.as_slice.result.now ≡ get_or c.args.game.now.rules c.loop-below.below []
  rules_are =
      read-at c.as_slice-rules-items.result.now c.args.game.now.rules c.loop-below.below c.rules-item.result
      c.as_slice.result.now c.as_slice-rules-items.ensures c.loop-below-test.true c.rules-item.is c.as_slice.ensures

  bounds_left : c.loop-below.below < length c.args.game.now.bounds
  bounds_left = let h = rules_left in omega (arith, h, c.requires.valid.rule_lists, c.requires.valid.bound_lists)

  bounds_are : c.as_slice-level_bounds.result.now ≡ get_or c.args.game.now.bounds c.loop-below.below []
  bounds_are =
      read-at c.as_slice-bounds.result.now c.args.game.now.bounds c.loop-below.below c.index-bounds-below.result
      c.as_slice-level_bounds.result.now c.as_slice-bounds.ensures
      (let h = bounds_left in omega (arith, ap (λ (xs : List (List Bound)). length xs) c.as_slice-bounds.ensures)) c.index-bounds-below.is c.as_slice-level_bounds.ensures

pub masked_level-requires-clause-lower : goal.masked_level-requires-clause-lower
masked_level-requires-clause-lower c =
    let d = (goal.at.masked_level-requires-clause-lower c).After-as_slice in
    let h = members_left d in
    subst (λ (xs : List ℕ). IsTrue (are_below most_masked xs)) (sym (lower_is d))
    (base-below c.args.game.now c.requires.valid most_masked c.requires.few c.loop-below.below
    (omega (arith, ap (λ (xs : List (List ℕ)). length xs) c.as_slice-members.ensures)))

pub masked_level-requires-clause-base : goal.masked_level-requires-clause-base
masked_level-requires-clause-base c =
    let d = (goal.at.masked_level-requires-clause-base c).After-as_slice in
    let h = members_left d in
    subst (λ (xs : List ℕ). IsTrue (are_below most_masked xs)) (sym (base_is d))
    (base-below c.args.game.now c.requires.valid most_masked c.requires.few (c.loop-below.below + 1)
    (omega (arith, ap (λ (xs : List (List ℕ)). length xs) c.as_slice-members.ensures)))

pub masked_level-requires-clause-rules : goal.masked_level-requires-clause-rules
masked_level-requires-clause-rules c =
    let d = (goal.at.masked_level-requires-clause-rules c).After-as_slice in
    subst (λ (rs : List GroundRule). IsTrue (list_all (is_rule_below most_masked) rs)) (sym (rules_are d))
    (rules-below c.args.game.now c.requires.valid most_masked c.requires.few c.loop-below.below (rules_left d))

pub masked_level-requires-clause-bounds : goal.masked_level-requires-clause-bounds
masked_level-requires-clause-bounds c =
    let d = (goal.at.masked_level-requires-clause-bounds c).After-as_slice in
    subst (λ (bs : List Bound). IsTrue (list_all (is_bound_below most_masked) bs)) (sym (bounds_are d))
    (bounds-below c.args.game.now c.requires.valid most_masked c.requires.few c.loop-below.below (bounds_left d))

pub loop-below-preserved : goal.loop-below-preserved
loop-below-preserved c =
    let d = (goal.at.loop-below-preserved c).After-as_slice in
    let levels = c.loop-below.levels.items in
    let level = c.in_ok-level.level in
    let number = c.loop-below.invariant.number in
    record {
      masked = subst (AreMasked c.args.game.now 0) (sym c.in_ok-push.ensures.items)
          (AreMasked-push c.args.game.now 0 levels level c.loop-below.below (omega arith) c.loop-below.invariant.masked
          (IsMasked-same c.as_slice-lower.result.now (base c.args.game.now c.loop-below.below) c.as_slice-base.result.now
          (base c.args.game.now (c.loop-below.below + 1)) c.as_slice.result.now
          (get_or c.args.game.now.rules c.loop-below.below []) c.as_slice-level_bounds.result.now
          (get_or c.args.game.now.bounds c.loop-below.below []) level (lower_is d) (base_is d) (rules_are d) (bounds_are d) c.in_ok-level.ensures));
      number = ap (λ (ls : List Level). length ls) c.in_ok-push.ensures.items ∙ (length_push levels level ∙ ap (λ (n : ℕ). n + 1) number);
    }
