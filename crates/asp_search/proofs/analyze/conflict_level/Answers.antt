use Rattle.std.proofs.Common.{◌/◌, ℕ, List, get_or, ap, ◌∙◌, subst}
use Rattle.std.specs.List.{Contains}
use Rattle.std.proofs.lemmas.List.{take_more}
use Rattle.asp_clauses.specs.Literal.{negated}
use Rattle.asp_clauses.specs.Trail.{IsPlaced}
use Rattle.asp_clauses.proofs.LiteralLemmas.{negated-half}
use Rattle.asp_clauses.proofs.ReorderLemmas.{Contains-at}
use Rattle.asp_search.proofs.Marking.{IsTopLevel-more, ord_max-highest}
use Rattle.asp_search.proofs.analyze.conflict_level.Goals as goal
use Rattle.asp_search.proofs.analyze.conflict_level.Goals.{In-loop-literal}

-- the literal of this turn is false
placed : (c : In-loop-literal) → IsPlaced c.args.trail.now.steps (negated (get_or c.lits-literal-items.result.now c.loop-literal.literal-index 0))
placed c =
    c.requires.fails _ (subst (λ (l : List ℕ). Contains l (get_or c.lits-literal-items.result.now c.loop-literal.literal-index 0)) c.lits-literal-items.ensures.value (Contains-at c.lits-literal-items.result.now c.loop-literal.literal-index c.loop-literal-test.true))

pub level-requires : goal.level-requires
level-requires c =
    let p = placed (goal.at.level-requires c).In-loop-literal in
    (p.0, (p.1, ap (λ (l : ℕ). l / 2) p.2 ∙ negated-half _))

pub loop-literal-preserved : goal.loop-literal-preserved
loop-literal-preserved c =
    let p = placed (goal.at.loop-literal-preserved c).In-loop-literal in
    let items = c.lits-literal-items.result.now in
    let literal = get_or items c.loop-literal.literal-index 0 in
    rw (take_more items c.loop-literal.literal-index 0 c.loop-literal-test.true, c.max-most.ensures)
    (IsTopLevel-more c.args.trail.now.steps c.requires.goes.lawful.distinct _ literal p.0 c.loop-literal.most c.level.result _ p.1 p.2 (c.level.ensures p.0 (p.1, ap (λ (l : ℕ). l / 2) p.2 ∙ negated-half _)) (ord_max-highest c.loop-literal.most c.level.result) c.loop-literal.invariant)
