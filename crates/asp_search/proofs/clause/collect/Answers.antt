use Rattle.std.proofs.Common.{ℕ, get_or, take, ◌∙◌, sym, subst}
use Rattle.std.specs.List.{Contains}
use Rattle.std.proofs.lemmas.List.{take_more}
use Rattle.std.proofs.lemmas.Bool.{false≢true}
use Rattle.asp_clauses.specs.Literal.{negated}
use Rattle.asp_clauses.proofs.ReorderLemmas.{Contains-at}
use Rattle.asp_search.proofs.Adding.{Contains-take, Collects-had, Collects-new}
use Rattle.asp_search.proofs.clause.collect.Goals as goal
use Rattle.asp_search.proofs.clause.collect.Goals.{then-not-contains+in_ok-insert, else-not-contains}

pub returns-then-contains-clause-collected : goal.returns-then-contains-clause-collected
returns-then-contains-clause-collected c = λ _.
    let clause = c.args.clause.now in
    let literal = get_or clause c.loop-literal.literal-index 0 in
    let marked : Contains c.loop-literal.seen.marked (negated literal) = subst (λ (l : ℕ). Contains c.loop-literal.seen.marked l) c.opposite.ensures (c.contains.ensures.0 c.if-contains.true) in
    record {
      literal = literal;
      has = Contains-at clause c.loop-literal.literal-index c.loop-literal-test.true;
      has_opposite = Contains-take c.loop-literal.literal-index clause (negated literal) (c.loop-literal.invariant.1.from (negated literal) marked);
    }

pub loop-literal-preserved : goal.loop-literal-preserved
loop-literal-preserved c =
    let clause = c.args.clause.now in
    let literal = get_or clause c.loop-literal.literal-index 0 in
    let marked = c.loop-literal.seen.marked in
    let absent : Contains marked (negated literal) → ⊥ = λ h. false≢true (sym c.if-contains.false ∙ c.contains.ensures.1 (subst (λ (l : ℕ). Contains marked l) (sym c.opposite.ensures) h)) in
    elim c.if-not-contains.branch [
      | then-not-contains+in_ok-insert w ↦
          rw w.seen-is (
            w.in_ok-insert.ensures.codes ∙ c.loop-literal.invariant.0,
            rw (take_more clause c.loop-literal.literal-index 0 c.loop-literal-test.true, w.in_ok-insert.ensures.ok)
                (Collects-new (take c.loop-literal.literal-index clause) marked literal absent c.loop-literal.invariant.1),
          )
      | else-not-contains w ↦
          rw w.seen-is (
            c.loop-literal.invariant.0,
            rw (take_more clause c.loop-literal.literal-index 0 c.loop-literal-test.true)
                (Collects-had (take c.loop-literal.literal-index clause) marked literal (c.contains-in-loop-literal.ensures.0 w.if-not-contains.false) c.loop-literal.invariant.1),
          )
    ]
