use Rattle.std.proofs.Common.{ℕ, ◌+◌, ◌∙◌, ap, List, [], ◌∷◌, ◌++◌, map, take, length, arith}
use Rattle.std.specs.List.{sum_by, enumerate_from}
use Rattle.asp_defs.specs.declared.syntax.Part.{Part}
use Rattle.asp_defs.specs.declared.syntax.Program.{Program}
use Rattle.asp_defs.specs.declared.syntax.Rule.{Rule}
use Rattle.asp_defs.specs.Constants.{level_rules}
use Rattle.asp_atoms.specs.declared.vocabularies.Vocabulary.{Vocabulary}
use Rattle.asp_atoms.specs.Counts.{shown}
use Rattle.asp_atoms.specs.Vocabularies.{vocabulary_of}
use Rattle.asp_ground.specs.Counts.{level_count}
use Rattle.asp_ground.proofs.Counted.{total_by_universes}
use Rattle.asp_template.proofs.Steps.{pair, enumerated_more, enumerated_last, shown_more}
use Rattle.asp_ground.proofs.counts.instance_count.Goals as goal

abbrev rules_of : List Part → List (List Rule)
rules_of levels = map (λ (part : Part). part.rules) levels

pub loop-place-preserved : goal.loop-place-preserved
loop-place-preserved c =
    shown_more (level_count c.as_slice-universes.result.now) (enumerate_from 1 (rules_of (take c.loop-place.place c.as_slice-levels.result.now))) (enumerate_from 1 (rules_of (take (c.loop-place.place + 1) c.as_slice-levels.result.now)))
    (pair (c.loop-place.place + 1) c.index-levels-place.result.rules) c.loop-place.count c.sum-count.result c.level_count.result
    (enumerated_more (λ (part : Part). part.rules) c.as_slice-levels.result.now c.loop-place.place c.index-levels-place.result (omega arith) c.index-levels-place.is)
    c.loop-place.invariant c.sum-count.ensures
    (c.level_count.ensures
    ∙ ap (λ (rules : List Rule). shown (level_count c.as_slice-universes.result.now (pair (c.loop-place.place + 1) rules))) c.as_slice.ensures)

pub returns : goal.returns
returns c =
    shown_more (level_count c.as_slice-universes.result.now) (enumerate_from 1 (rules_of (take c.loop-place.place c.as_slice-levels.result.now))) (enumerate_from 1 (rules_of c.as_slice-levels.result.now ++ c.program-program.result.now.cons ∷ []))
    (pair (length c.as_slice-levels.result.now + 1) c.program-program.result.now.cons) c.loop-place.count c.sum.result c.level_count-2.result
    (enumerated_last (λ (part : Part). part.rules) c.as_slice-levels.result.now c.program-program.result.now.cons c.loop-place.place (omega arith))
    c.loop-place.invariant c.sum.ensures
    (c.level_count-2.ensures
    ∙ ap (λ (rules : List Rule). shown (level_count c.as_slice-universes.result.now (pair (length c.as_slice-levels.result.now + 1) rules))) c.as_slice-2.ensures)
    ∙ (ap (λ (us : List (List ℕ)). shown (sum_by (level_count us) (enumerate_from 1 (rules_of c.as_slice-levels.result.now ++ c.program-program.result.now.cons ∷ []))))
    (c.as_slice-universes.ensures ∙ ap (λ (v : Vocabulary). v.universes) c.requires.known)
    ∙ (ap (λ (levels : List Part). shown (sum_by (level_count (vocabulary_of c.args.checked.now).universes) (enumerate_from 1 (rules_of levels ++ c.program-program.result.now.cons ∷ [])))) c.as_slice-levels.ensures
    ∙ (ap (λ (p : Program). shown (sum_by (level_count (vocabulary_of c.args.checked.now).universes) (enumerate_from 1 (level_rules p)))) c.program-program.ensures.program
    ∙ ap shown (total_by_universes c.args.checked.now c.program-program.ensures.checked c.program-program.ensures.checkable))))
