use Rattle.std.proofs.Common.{ℕ, ◌+◌, ◌∙◌, ap, List, [], ◌∷◌, ◌++◌, map, take, length, get_or, arith}
use Rattle.std.specs.List.{flat_map, enumerate_from}
use Rattle.asp_defs.specs.declared.ground.GroundRule.{GroundRule}
use Rattle.asp_atoms.specs.declared.vocabularies.Vocabulary.{Vocabulary}
use Rattle.asp_defs.specs.declared.syntax.Part.{Part}
use Rattle.asp_defs.specs.declared.syntax.Rule.{Rule}
use Rattle.asp_template.specs.Compiled.{compiled_instances}
use Rattle.asp_ground.specs.Levels.{level_instances}
use Rattle.asp_ground.proofs.Signed.{constraints_long, read_constraints}
use Rattle.asp_template.proofs.Steps.{pair, enumerated_more, enumerated_last, mapped_more}
use Rattle.asp_ground.proofs.game.levels_rules.Goals as goal

abbrev rules_of : List Part → List (List Rule)
rules_of levels = map (λ (part : Part). part.rules) levels

-- the instances of a level's rules and of more
abbrev instances_of : Vocabulary → ℕ → List Rule → List Rule → List GroundRule
instances_of v level own more = flat_map (compiled_instances v (get_or v.universes level [])) (own ++ more)

pub index-requires : goal.index-requires
index-requires c =
    let long = constraints_long c.args.program.now c.in_ok-constraints.constraints.items c.in_ok-constraints.ensures in
    let o = c.in_ok-constraints.constraints.ok in
    let l = c.loop-place-test.true in
    omega (arith, long, o, l, ap (λ (xs : List Part). length xs) c.as_slice-levels.ensures)

pub index-requires-2 : goal.index-requires-2
index-requires-2 c =
    let long = constraints_long c.args.program.now c.in_ok-constraints.constraints.items c.in_ok-constraints.ensures in
    let o = c.in_ok-constraints.constraints.ok in
    omega (arith, long, o, ap (λ (xs : List Part). length xs) c.as_slice-levels.ensures)

pub loop-place-preserved : goal.loop-place-preserved
loop-place-preserved c =
    mapped_more (level_instances c.args.vocabulary.now c.args.program.now) (enumerate_from 1 (rules_of (take c.loop-place.place c.as_slice-levels.result.now))) (enumerate_from 1 (rules_of (take (c.loop-place.place + 1) c.as_slice-levels.result.now)))
    (pair (c.loop-place.place + 1) c.index-levels-place.result.rules) c.loop-place.rules.items c.push.new.self.items c.in_ok-level_rules.field-0
    (enumerated_more (λ (part : Part). part.rules) c.as_slice-levels.result.now c.loop-place.place c.index-levels-place.result (omega arith) c.index-levels-place.is)
    c.loop-place.invariant c.in_ok-push.ensures.items
    (c.in_ok-level_rules.ensures
    ∙ (ap (λ (more : List Rule). instances_of c.args.vocabulary.now (c.loop-place.place + 1) c.as_slice-own.result.now more)
    (c.as_slice-more.ensures
    ∙ read_constraints c.args.program.now c.in_ok-constraints.constraints.items (c.loop-place.place + 1) c.index.result.now c.in_ok-constraints.ensures
    (omega (arith, ap (λ (xs : List Part). length xs) c.as_slice-levels.ensures)) c.index.ensures)
    ∙ ap (λ (rules : List Rule). level_instances c.args.vocabulary.now c.args.program.now (pair (c.loop-place.place + 1) rules)) c.as_slice-own.ensures))

pub returns : goal.returns
returns c =
    c.from_vec.ensures
    ∙ (mapped_more (level_instances c.args.vocabulary.now c.args.program.now) (enumerate_from 1 (rules_of (take c.loop-place.place c.as_slice-levels.result.now))) (enumerate_from 1 (rules_of c.as_slice-levels.result.now ++ c.args.program.now.cons ∷ []))
    (pair (length c.as_slice-levels.result.now + 1) c.args.program.now.cons) c.loop-place.rules.items c.push-2.new.self.items c.in_ok-level_rules-2.field-0
    (enumerated_last (λ (part : Part). part.rules) c.as_slice-levels.result.now c.args.program.now.cons c.loop-place.place (omega arith))
    c.loop-place.invariant c.in_ok-push-2.ensures.items
    (c.in_ok-level_rules-2.ensures
    ∙ (ap (λ (more : List Rule). instances_of c.args.vocabulary.now (length c.as_slice-levels.result.now + 1) c.as_slice-own-2.result.now more)
    (c.as_slice-last.ensures
    ∙ read_constraints c.args.program.now c.in_ok-constraints.constraints.items (length c.as_slice-levels.result.now + 1) c.index-2.result.now c.in_ok-constraints.ensures
    (omega (arith, ap (λ (xs : List Part). length xs) c.as_slice-levels.ensures)) c.index-2.ensures)
    ∙ ap (λ (rules : List Rule). level_instances c.args.vocabulary.now c.args.program.now (pair (length c.as_slice-levels.result.now + 1) rules)) c.as_slice-own-2.ensures))
    ∙ ap (λ (levels : List Part). map (level_instances c.args.vocabulary.now c.args.program.now) (enumerate_from 1 (rules_of levels ++ c.args.program.now.cons ∷ []))) c.as_slice-levels.ensures)
