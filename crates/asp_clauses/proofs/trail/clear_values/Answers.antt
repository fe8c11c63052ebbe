use Rattle.std.proofs.Common.{◌+◌, ℕ, arith, ap, ◌∙◌, sym, subst, set, length-set}
use Rattle.asp_clauses.specs.declared.trail.Truth.TheVariants.{Unassigned}
use Rattle.asp_clauses.specs.Literal.{negated}
use Rattle.asp_clauses.specs.Trail.{literal_at}
use Rattle.asp_clauses.proofs.LiteralLemmas.{negated-le}
use Rattle.asp_clauses.proofs.TableLemmas.{ClearedTo, ClearedTo-none, ClearedTo-more}
use Rattle.asp_clauses.proofs.trail.clear_values.Goals as goal

pub bounds-values-negation : goal.bounds-values-negation
bounds-values-negation c =
    let literal = literal_at c.args.steps.now c.loop-place.place in
    let code = c.requires.codes c.loop-place.place c.loop-place-test.true in
    let l = length-set c.loop-place.values c.literal-literal.result Unassigned in
    let n = negated-le literal in
    omega (arith, code, l, n, c.literal-literal.ensures, c.negation.ensures, ap negated c.literal-literal.ensures, c.loop-place.auto.values)

pub loop-place-init : goal.loop-place-init
loop-place-init c = ClearedTo-none c.args.steps.now c.args.values.now c.args.from

pub loop-place-preserved : goal.loop-place-preserved
loop-place-preserved c =
    let steps = c.args.steps.now in
    let literal = literal_at steps c.loop-place.place in
    let more = ClearedTo-more steps c.args.values.now c.loop-place.values c.args.from c.loop-place.place (omega arith) c.loop-place.invariant in
    subst (λ (m : ℕ). ClearedTo steps c.args.values.now (set (set c.loop-place.values m Unassigned) c.negation.result Unassigned) c.args.from (c.loop-place.place + 1)) (sym c.literal-literal.ensures)
    (subst (λ (n : ℕ). ClearedTo steps c.args.values.now (set (set c.loop-place.values literal Unassigned) n Unassigned) c.args.from (c.loop-place.place + 1)) (sym (c.negation.ensures ∙ ap negated c.literal-literal.ensures)) more)

pub returns-clause-others : goal.returns-clause-others
returns-clause-others c = λ code o. c.loop-place.invariant.kept code (λ place a b. o place a (omega arith))
