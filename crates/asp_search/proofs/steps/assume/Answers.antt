use Rattle.std.proofs.Common.{◌<◌, ◌+◌, ◌*◌, ◌++◌, ◌∷◌, [], ℕ, List, None, ap, ◌∙◌, sym, subst, refl, inl, arith}
use Rattle.std.specs.List.{Contains}
use Rattle.std.proofs.lemmas.Bool.{false≢true}
use Rattle.asp_clauses.specs.declared.trail.Step.{Step}
use Rattle.asp_clauses.specs.Trail.{IsPlaced, decisions}
use Rattle.asp_search.specs.Solver.{IsCursor}
use Rattle.asp_clauses.proofs.LiteralLemmas.{negated-lt}
use Rattle.asp_clauses.proofs.ReorderLemmas.{Contains-at}
use Rattle.asp_search.proofs.Stepping.{Stays-kept, Stays-decided, DecidesAssumed-decided, IsOrderly-decided}
use Rattle.asp_search.proofs.Deciding.{IsCursor-decided, unassigned_from}
use Rattle.asp_search.proofs.steps.assume.Goals as goal

pub is_true-requires : goal.is_true-requires
is_true-requires c =
    let s = c.args.solver.now in
    let low : c.args.literal < 2 * s.trail.atoms = subst (λ (l : ℕ). l < 2 * s.trail.atoms) c.requires.next.is (c.requires.ready.assumptions.codes s.cursor c.requires.next.within) in
    rw c.opposite.ensures (negated-lt c.args.literal s.trail.atoms low)

pub decide-requires-clause-unassigned : goal.decide-requires-clause-unassigned
decide-requires-clause-unassigned c =
    unassigned_from c.args.solver.now.trail.steps c.args.literal c.requires.next.waits
    (λ p. false≢true (sym c.if-is_true.false ∙ c.is_true.ensures.1 (subst (λ (l : ℕ). IsPlaced c.args.solver.now.trail.steps l) (sym c.opposite.ensures) p)))

pub returns-in-Ok-clause-stays : goal.returns-in-Ok-clause-stays
returns-in-Ok-clause-stays c =
    let old = c.args.solver.now in
    let has : Contains old.assumed.items c.args.literal = subst (λ (l : ℕ). Contains old.assumed.items l) c.requires.next.is (Contains-at old.assumed.items old.cursor c.requires.next.within) in
    Stays-decided old _ (record { literal = c.args.literal; reason = None }) c.requires.ready c.in-Ok.ensures.placed (c.in-Ok.ensures.goes old.book c.requires.ready.fitted.goes) refl refl refl refl refl refl
    (DecidesAssumed-decided old.assumed.items old.trail.steps (record { literal = c.args.literal; reason = None }) (inl has) c.requires.ready.assumed)
    (subst (λ (held : ℕ). IsCursor old.assumed.items (old.trail.steps ++ record { literal = c.args.literal; reason = None } ∷ []) (old.cursor + 1) held) (sym (c.decisions-solver.ensures ∙ ap (λ (steps : List Step). decisions steps) c.in-Ok.ensures.placed.steps))
    (IsCursor-decided old.assumed.items old.trail.steps (record { literal = c.args.literal; reason = None }) old.cursor old.held c.requires.next.within c.requires.next.is c.requires.ready.cursor))
    (IsOrderly-decided old.assumed.items old.trail.steps (record { literal = c.args.literal; reason = None }) old.front old.in_order (λ ordered. inl has) c.requires.ready.order)
    refl (omega (arith, c.saturating_add-solver.ensures)) refl

pub returns-in-Err-clause-stays : goal.returns-in-Err-clause-stays
returns-in-Err-clause-stays c =
    Stays-kept c.args.solver.now _ c.requires.ready refl c.in-Err.ensures.unchanged refl refl refl refl refl refl refl refl c.requires.ready.unmarked refl refl refl
