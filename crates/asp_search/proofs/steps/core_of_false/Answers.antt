use Rattle.std.proofs.Common.{◌≡◌, ℕ, List, ◌∙◌, sym, subst}
use Rattle.std.specs.List.{Contains}
use Rattle.asp_search.specs.Cores.{IsCore}
use Rattle.asp_clauses.proofs.ReorderLemmas.{Contains-at}
use Rattle.asp_search.proofs.Tracing.{IsCore-from}
use Rattle.asp_search.proofs.steps.core_of_false.Goals as goal

pub returns-in-Ok-clause-core : goal.returns-in-Ok-clause-core
returns-in-Ok-clause-core c = λ core e.
    let s = c.args.solver.now in
    let same : c.from_vec.result ≡ core = cc in
    let has : Contains s.assumed.items c.args.literal = subst (λ (l : ℕ). Contains s.assumed.items l) c.requires.next.is (Contains-at s.assumed.items s.cursor c.requires.next.within) in
    subst (λ (l : List ℕ). IsCore s.book.clauses s.assumed.items l) (sym c.from_vec.ensures ∙ same)
    (IsCore-from s.trail.atoms s.book.clauses s.trail.steps c.requires.ready.fitted.goes.lawful s.assumed.items c.core_of-core.new.seen.marked c.in-Ok.core.items c.args.literal c.requires.ready.assumptions c.requires.ready.assumed has c.requires.fails c.in-Ok.ensures.first c.in-Ok.ensures.trace)
