use Rattle.std.proofs.Common.{◌+◌, ◌∙◌, ap, List, [], ◌∷◌, ◌++◌, map, take, length, arith}
use Rattle.std.specs.List.{enumerate_from}
use Rattle.asp_defs.specs.declared.syntax.Part.{Part}
use Rattle.asp_defs.specs.declared.syntax.Rule.{Rule}
use Rattle.asp_ground.specs.BoundTemplates.{level_bounds_by}
use Rattle.asp_template.proofs.Steps.{pair, enumerated_more, enumerated_last, mapped_more}
use Rattle.asp_ground.proofs.game.levels_bounds.Goals as goal

abbrev rules_of : List Part → List (List Rule)
rules_of levels = map (λ (part : Part). part.rules) levels

pub loop-place-preserved : goal.loop-place-preserved
loop-place-preserved c =
    mapped_more (level_bounds_by c.args.vocabulary.now) (enumerate_from 1 (rules_of (take c.loop-place.place c.as_slice-levels.result.now))) (enumerate_from 1 (rules_of (take (c.loop-place.place + 1) c.as_slice-levels.result.now)))
    (pair (c.loop-place.place + 1) c.index-levels-place.result.rules) c.loop-place.bounds.items c.push.new.self.items c.in_ok-level_bounds.field-0
    (enumerated_more (λ (part : Part). part.rules) c.as_slice-levels.result.now c.loop-place.place c.index-levels-place.result (omega arith) c.index-levels-place.is)
    c.loop-place.invariant c.in_ok-push.ensures.items
    (c.in_ok-level_bounds.ensures
    ∙ ap (λ (rules : List Rule). level_bounds_by c.args.vocabulary.now (pair (c.loop-place.place + 1) rules)) c.as_slice.ensures)

pub returns : goal.returns
returns c =
    c.from_vec.ensures
    ∙ (mapped_more (level_bounds_by c.args.vocabulary.now) (enumerate_from 1 (rules_of (take c.loop-place.place c.as_slice-levels.result.now))) (enumerate_from 1 (rules_of c.as_slice-levels.result.now ++ c.args.program.now.cons ∷ []))
    (pair (length c.as_slice-levels.result.now + 1) c.args.program.now.cons) c.loop-place.bounds.items c.push-2.new.self.items c.in_ok-level_bounds-2.field-0
    (enumerated_last (λ (part : Part). part.rules) c.as_slice-levels.result.now c.args.program.now.cons c.loop-place.place (omega arith))
    c.loop-place.invariant c.in_ok-push-2.ensures.items
    (c.in_ok-level_bounds-2.ensures
    ∙ ap (λ (rules : List Rule). level_bounds_by c.args.vocabulary.now (pair (length c.as_slice-levels.result.now + 1) rules)) c.as_slice-2.ensures)
    ∙ ap (λ (levels : List Part). map (level_bounds_by c.args.vocabulary.now) (enumerate_from 1 (rules_of levels ++ c.args.program.now.cons ∷ []))) c.as_slice-levels.ensures)
