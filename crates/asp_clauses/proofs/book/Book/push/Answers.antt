use Rattle.std.proofs.Common.{◌≡◌, ℕ, ◌+◌, ◌*◌, ◌≤◌, List, [], ◌∷◌, ◌++◌, length, refl, sym, ◌∙◌, ap, subst, arith}
use Rattle.std.proofs.lemmas.Bool.{ne_eqb}
use Rattle.std.proofs.lemmas.List.{length-map, length_push}
use Rattle.asp_clauses.specs.declared.kind.Kind.{Kind}
use Rattle.asp_clauses.specs.Kept.{AreFirmBelow}
use Rattle.asp_clauses.specs.declared.watches.Watches.{Watches}
use Rattle.asp_clauses.specs.Records.{record_of, literals_of}
use Rattle.asp_clauses.specs.Book.{BookState, IsClause, Goes}
use Rattle.asp_clauses.specs.Watches.{book_of}
use Rattle.asp_clauses.proofs.GoesLemmas.{Goes-added}
use Rattle.asp_clauses.proofs.StoreLemmas.{AreWatches-push, clauses_longer, clause_at-push}
use Rattle.asp_clauses.proofs.BookLemmas.{not_true, not_both, AreFirm-counted}
use Rattle.asp_clauses.proofs.book.Book.push.Goals as goal
use Rattle.asp_clauses.proofs.book.Book.push.Goals.{then-self-number, else-self-number}

pub invariant_of-self-in-Ok : goal.invariant_of-self-in-Ok
invariant_of-self-in-Ok c =
    let w = c.self.inside.watches in
    let atoms = ap (λ (b : BookState). b.atoms) c.self.view_is in
    let ok = c.in-Ok.ensures.ok in
    let kinds = c.self.invariant.1 in
    let counted = AreFirm-counted c.self.inside.kinds.items c.args.kind c.self.inside.firm c.from.result c.if-self-number.from c.self.invariant.2 c.self.invariant.3 (λ t. elim c.if-self-number.branch [
      | then-self-number v ↦ (v.if-self-number.true ∙ ok.0 ∙ sym kinds, not_true c.args.kind.loose (sym v.from-is ∙ t))
      | else-self-number v ↦ not_both c.if-self-number.from c.self.inside.firm (length c.self.inside.kinds.items) c.args.kind.loose (v.from-is ∙ ne_eqb c.self.inside.firm c.in-Ok.number v.if-self-number.false) t
    ]) c.from.ensures in let items = c.in_ok-push.ensures.items in (
      AreWatches-push w (record w { records = c.push-2.new.self }) c.args.lits.now c.self.invariant.0 (subst (λ (n : ℕ). IsClause n c.args.lits.now) (sym atoms) c.requires) refl refl refl ok.1 (omega (arith, c.in-Ok.ensures.numbers, ok.0)),
      ap length c.in_ok-push.ensures.items ∙ length_push c.self.inside.kinds.items c.args.kind ∙ ap (λ (n : ℕ). n + 1) kinds ∙ sym (ap length ok.1 ∙ length_push w.records (record_of (2 * w.atoms) c.args.lits.now)),
      subst (λ (x : List Kind). c.self.inside.firm + c.from.result ≤ length x) (sym items) counted.0,
      subst (λ (x : List Kind). AreFirmBelow x (c.self.inside.firm + c.from.result)) (sym items) counted.1,
    )

pub returns-after-self-number-clause-goes : goal.returns-after-self-number-clause-goes
returns-after-self-number-clause-goes c = λ trail g.
    let w = c.self.inside.watches in
    let row = record_of (2 * w.atoms) c.args.lits.now in
    let old : BookState = record (book_of w) { kinds = c.self.inside.kinds.items } in
    let new : Watches = record w { records = c.push-2.new.self } in
    let pushed : Watches = record w { records = w.records ++ row ∷ [] } in
    let state : Watches → BookState = λ x. record (book_of x) { kinds = c.push.new.self.items } in
    let is : pushed ≡ new = ap (λ (r : List (List ℕ)). let x : Watches = record w { records = r } in x) (sym c.in-Ok.ensures.ok.1) in
    let s = c.self.invariant.0.store in
    subst (λ (b : BookState). Goes b trail → Goes (state new) trail) c.self.view_is
    (λ before. subst (λ (x : Watches). Goes (state x) trail) is
    (Goes-added old (state pushed) trail refl refl (omega (arith, s.watched, length-map w.records literals_of)) (clauses_longer w.records row) (λ clause h. clause_at-push w.records row clause h) before)) g
