use Rattle.std.proofs.Common.{◌≡◌, ◌≤◌, List, length, map, ap, sym, ◌∙◌, arith, subst}
use Rattle.std.proofs.lemmas.List.{length-map}
use Rattle.asp_clauses.specs.declared.kind.Kind.{Kind}
use Rattle.asp_clauses.specs.declared.watches.Watches.{Watches}
use Rattle.asp_clauses.specs.Records.{literals_of}
use Rattle.asp_clauses.specs.Book.{BookState, Goes}
use Rattle.asp_clauses.specs.Watches.{book_of}
use Rattle.asp_clauses.specs.Kept.{kept, is_firm, AreFirmBelow, AreNumbered}
use Rattle.asp_clauses.proofs.NumberedLemmas.{AreWatches-numbered}
use Rattle.asp_clauses.proofs.BookLemmas.{Shrinks, Removes-from, Goes-settled, no_reason, kinds_still, still_not_empty, clauses_kept, kinds_kept, firm_marked, AreFirm-kept}
use Rattle.asp_clauses.proofs.book.Book.settle.Goals as goal

pub number_firm-requires-clause-kinds : goal.number_firm-requires-clause-kinds
number_firm-requires-clause-kinds c = ap length c.as_slice.ensures.value ∙ c.self.invariant.1 ∙ sym c.unwatch_from.ensures.unlinked.as_many

pub number_firm-requires-clause-from : goal.number_firm-requires-clause-from
number_firm-requires-clause-from c = let e = ap length c.as_slice.ensures.value in omega (arith, e, c.self.invariant.2)

pub number_firm-requires-clause-firm : goal.number_firm-requires-clause-firm
number_firm-requires-clause-firm c = subst (λ (x : List Kind). AreFirmBelow x c.self.inside.firm) (sym c.as_slice.ensures.value) c.self.invariant.3

pub compact-requires-clause-watches : goal.compact-requires-clause-watches
compact-requires-clause-watches c =
    let old = c.self.inside.watches in let unlinked = c.unwatch_from.new.watches in let numbered = c.number_firm.new.watches in
    let kinds = c.self.inside.kinds.items in let from = c.self.inside.firm in
    let a : AreNumbered unlinked numbered (map is_firm kinds) from (length unlinked.records) = subst (λ (x : List Kind). AreNumbered unlinked numbered (map is_firm x) from (length unlinked.records)) c.as_slice.ensures.value c.number_firm.ensures in
    AreWatches-numbered unlinked numbered (map is_firm kinds) from (length unlinked.records) c.unwatch_from.ensures.watches a c.unwatch_from.ensures.within

pub compact-requires-clause-kinds : goal.compact-requires-clause-kinds
compact-requires-clause-kinds c = c.self.invariant.1 ∙ sym (c.number_firm.ensures.as_many ∙ c.unwatch_from.ensures.unlinked.as_many)

pub compact-requires-clause-from : goal.compact-requires-clause-from
compact-requires-clause-from c =
    let a = c.number_firm.ensures.as_many in let b = c.unwatch_from.ensures.unlinked.as_many in
    omega (arith, a, b, c.self.invariant.1, c.self.invariant.2)

pub compact-requires-clause-unwatched : goal.compact-requires-clause-unwatched
compact-requires-clause-unwatched c =
    let e = ap (λ (w : Watches). w.watched) c.number_firm.ensures.same in omega (arith, e, c.unwatch_from.ensures.within)

pub compact-requires-clause-more : goal.compact-requires-clause-more
compact-requires-clause-more c =
    let e = ap (λ (w : Watches). w.watched) c.number_firm.ensures.same in let l = c.unwatch_from.ensures.unlinked.watched in omega (arith, e, l)

pub compact-requires-clause-within : goal.compact-requires-clause-within
compact-requires-clause-within c =
    let a = c.number_firm.ensures.as_many in let b = c.unwatch_from.ensures.unlinked.as_many in let most = c.self.invariant.0.store.watched in
    omega (arith, a, b, most)

pub compact-requires-clause-not_empty : goal.compact-requires-clause-not_empty
compact-requires-clause-not_empty c =
    let old = c.self.inside.watches in let unlinked = c.unwatch_from.new.watches in let numbered = c.number_firm.new.watches in
    let kinds = c.self.inside.kinds.items in let from = c.self.inside.firm in
    let a : AreNumbered unlinked numbered (map is_firm kinds) from (length unlinked.records) = subst (λ (x : List Kind). AreNumbered unlinked numbered (map is_firm x) from (length unlinked.records)) c.as_slice.ensures.value c.number_firm.ensures in
    still_not_empty old unlinked numbered (map is_firm kinds) from c.self.invariant.0.store c.unwatch_from.ensures.unlinked a

pub invariant_of-self : goal.invariant_of-self
invariant_of-self c =
    let old = c.self.inside.watches in let unlinked = c.unwatch_from.new.watches in let numbered = c.number_firm.new.watches in let new = c.compact.new.watches in
    let kinds = c.self.inside.kinds.items in let from = c.self.inside.firm in
    let a : AreNumbered unlinked numbered (map is_firm kinds) from (length unlinked.records) = subst (λ (x : List Kind). AreNumbered unlinked numbered (map is_firm x) from (length unlinked.records)) c.as_slice.ensures.value c.number_firm.ensures in
    let shrinks : Shrinks old unlinked numbered new (map is_firm kinds) from = record {
      unlinked_is = c.unwatch_from.ensures.unlinked;
      numbered_is = a;
      front = firm_marked kinds from c.self.invariant.2 c.self.invariant.3;
      many = length-map kinds is_firm ∙ c.self.invariant.1;
      within = omega (arith, c.self.invariant.2, c.self.invariant.1);
      atoms = c.compact.ensures.atoms;
      clauses = c.compact.ensures.clauses;
      watched = c.compact.ensures.watched;
    } in
    let rest = c.compact.new.kinds.items in
    let still = kinds_still old unlinked numbered new (map is_firm kinds) from kinds rest c.self.invariant.1 shrinks c.compact.ensures.kinds in
    let within : c.len-self-inside.result ≤ length rest = omega (arith, still, c.len-self-inside.ensures.value) in
    (c.compact.ensures.watches, still, within, AreFirm-kept kinds rest c.len-self-inside.result (kinds_kept old unlinked numbered new (map is_firm kinds) from kinds rest shrinks c.compact.ensures.kinds) within)

-- the clauses are numbered by the kinds
pub returns-clause-clauses : goal.returns-clause-clauses
returns-clause-clauses c =
    let old = c.self.inside.watches in let unlinked = c.unwatch_from.new.watches in let numbered = c.number_firm.new.watches in let new = c.compact.new.watches in
    let kinds = c.self.inside.kinds.items in let from = c.self.inside.firm in
    let a : AreNumbered unlinked numbered (map is_firm kinds) from (length unlinked.records) = subst (λ (x : List Kind). AreNumbered unlinked numbered (map is_firm x) from (length unlinked.records)) c.as_slice.ensures.value c.number_firm.ensures in
    let shrinks : Shrinks old unlinked numbered new (map is_firm kinds) from = record {
      unlinked_is = c.unwatch_from.ensures.unlinked;
      numbered_is = a;
      front = firm_marked kinds from c.self.invariant.2 c.self.invariant.3;
      many = length-map kinds is_firm ∙ c.self.invariant.1;
      within = omega (arith, c.self.invariant.2, c.self.invariant.1);
      atoms = c.compact.ensures.atoms;
      clauses = c.compact.ensures.clauses;
      watched = c.compact.ensures.watched;
    } in
    subst (λ (b : BookState). map literals_of new.records ≡ kept (map is_firm b.kinds) b.clauses) c.self.view_is
    (clauses_kept old unlinked numbered new (map is_firm kinds) from shrinks)

pub returns-clause-kinds : goal.returns-clause-kinds
returns-clause-kinds c =
    let old = c.self.inside.watches in let unlinked = c.unwatch_from.new.watches in let numbered = c.number_firm.new.watches in let new = c.compact.new.watches in
    let kinds = c.self.inside.kinds.items in let from = c.self.inside.firm in
    let a : AreNumbered unlinked numbered (map is_firm kinds) from (length unlinked.records) = subst (λ (x : List Kind). AreNumbered unlinked numbered (map is_firm x) from (length unlinked.records)) c.as_slice.ensures.value c.number_firm.ensures in
    let shrinks : Shrinks old unlinked numbered new (map is_firm kinds) from = record {
      unlinked_is = c.unwatch_from.ensures.unlinked;
      numbered_is = a;
      front = firm_marked kinds from c.self.invariant.2 c.self.invariant.3;
      many = length-map kinds is_firm ∙ c.self.invariant.1;
      within = omega (arith, c.self.invariant.2, c.self.invariant.1);
      atoms = c.compact.ensures.atoms;
      clauses = c.compact.ensures.clauses;
      watched = c.compact.ensures.watched;
    } in
    subst (λ (b : BookState). c.compact.new.kinds.items ≡ kept (map is_firm b.kinds) b.kinds) c.self.view_is
    (kinds_kept old unlinked numbered new (map is_firm kinds) from kinds c.compact.new.kinds.items shrinks c.compact.ensures.kinds)

pub returns-clause-goes : goal.returns-clause-goes
returns-clause-goes c =
    let old = c.self.inside.watches in let unlinked = c.unwatch_from.new.watches in let numbered = c.number_firm.new.watches in let new = c.compact.new.watches in
    let kinds = c.self.inside.kinds.items in let from = c.self.inside.firm in
    let a : AreNumbered unlinked numbered (map is_firm kinds) from (length unlinked.records) = subst (λ (x : List Kind). AreNumbered unlinked numbered (map is_firm x) from (length unlinked.records)) c.as_slice.ensures.value c.number_firm.ensures in
    let shrinks : Shrinks old unlinked numbered new (map is_firm kinds) from = record {
      unlinked_is = c.unwatch_from.ensures.unlinked;
      numbered_is = a;
      front = firm_marked kinds from c.self.invariant.2 c.self.invariant.3;
      many = length-map kinds is_firm ∙ c.self.invariant.1;
      within = omega (arith, c.self.invariant.2, c.self.invariant.1);
      atoms = c.compact.ensures.atoms;
      clauses = c.compact.ensures.clauses;
      watched = c.compact.ensures.watched;
    } in
    let rest = c.compact.new.kinds.items in let marks = map is_firm kinds in let trail = c.args.trail.now in
    let none = no_reason trail.steps marks c.requires.empty in
    let was : BookState = record (book_of old) { kinds = kinds } in
    let is : BookState = record (book_of new) { kinds = rest } in
    let s = c.self.invariant.0.store in
    Goes-settled was is marks trail c.requires.empty none (Removes-from old unlinked numbered new kinds rest marks from trail.steps shrinks none)
    (omega (arith, s.watched, length-map old.records literals_of)) (subst (λ (b : BookState). Goes b trail) (sym c.self.view_is) c.requires.goes)
