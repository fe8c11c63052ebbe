use Rattle.std.proofs.Common.{◌≡◌, ℕ, ◌<◌, List, length, map, ap, sym, ◌∙◌, arith, subst}
use Rattle.std.proofs.lemmas.List.{length-map}
use Rattle.asp_clauses.specs.declared.trail.Step.{Step}
use Rattle.asp_clauses.specs.declared.watches.Watches.{Watches}
use Rattle.asp_clauses.specs.Records.{literals_of}
use Rattle.asp_clauses.specs.Trail.{TrailState}
use Rattle.asp_clauses.specs.Book.{BookState, Goes}
use Rattle.asp_clauses.specs.Watches.{book_of}
use Rattle.asp_clauses.specs.Kept.{kept, IsReason}
use Rattle.asp_clauses.proofs.FrontLemmas.{AllMarked-none}
use Rattle.asp_clauses.proofs.NumberedLemmas.{AreWatches-numbered, AreLong-store}
use Rattle.asp_clauses.proofs.BookLemmas.{Shrinks, Removes-from, kinds_still, firm_left, still_not_empty, clauses_kept, kinds_kept, relabelled_is, reason_within, new_number_small, marked_reasons, marks_many}
use Rattle.asp_clauses.proofs.RenamedLemmas.{Goes-removed}
use Rattle.asp_clauses.proofs.book.Book.remove.Goals as goal

pub number_clauses-requires-clause-marks : goal.number_clauses-requires-clause-marks
number_clauses-requires-clause-marks c =
    let old = c.self.inside.watches in
    marks_many old c.self.inside.kinds.items c.args.self.now c.args.stays.now c.keep_added.new.stays c.mark_reasons.new.stays c.self.view_is c.requires.marks c.keep_added.ensures.as_many c.mark_reasons.ensures.as_many ∙ sym c.unlink_all.ensures.unlinked.as_many

pub compact-requires-clause-watches : goal.compact-requires-clause-watches
compact-requires-clause-watches c =
    let old = c.self.inside.watches in let unlinked = c.unlink_all.new.self in let numbered = c.number_clauses.new.watches in
    let marks = c.mark_reasons.new.stays in
    let none = c.unlink_all.ensures.none in
    AreWatches-numbered unlinked numbered marks 0 (length unlinked.records) c.unlink_all.ensures.watches c.number_clauses.ensures (omega (arith, none))

pub compact-requires-clause-kinds : goal.compact-requires-clause-kinds
compact-requires-clause-kinds c = c.self.invariant.1 ∙ sym (c.number_clauses.ensures.as_many ∙ c.unlink_all.ensures.unlinked.as_many)

pub compact-requires-clause-unwatched : goal.compact-requires-clause-unwatched
compact-requires-clause-unwatched c =
    let e = ap (λ (w : Watches). w.watched) c.number_clauses.ensures.same in omega (arith, e, c.unlink_all.ensures.none)

pub compact-requires-clause-more : goal.compact-requires-clause-more
compact-requires-clause-more c =
    let e = ap (λ (w : Watches). w.watched) c.number_clauses.ensures.same in omega (arith, e, c.unlink_all.ensures.none)

pub compact-requires-clause-within : goal.compact-requires-clause-within
compact-requires-clause-within c =
    let a = c.number_clauses.ensures.as_many in let b = c.unlink_all.ensures.unlinked.as_many in let most = c.self.invariant.0.store.watched in
    omega (arith, a, b, most)

pub compact-requires-clause-not_empty : goal.compact-requires-clause-not_empty
compact-requires-clause-not_empty c =
    let old = c.self.inside.watches in let unlinked = c.unlink_all.new.self in let numbered = c.number_clauses.new.watches in
    let marks = c.mark_reasons.new.stays in
    still_not_empty old unlinked numbered marks 0 c.self.invariant.0.store c.unlink_all.ensures.unlinked c.number_clauses.ensures

pub count_kept-firm-requires-clause-within : goal.count_kept-firm-requires-clause-within
count_kept-firm-requires-clause-within c =
    let a = c.number_clauses.ensures.as_many in let b = c.unlink_all.ensures.unlinked.as_many in
    omega (arith, a, b, c.self.invariant.1, c.self.invariant.2)

pub count_kept-firm-requires-clause-rows : goal.count_kept-firm-requires-clause-rows
count_kept-firm-requires-clause-rows c = AreLong-store c.number_clauses.new.watches c.number_clauses.ensures.store

pub invariant_of-self : goal.invariant_of-self
invariant_of-self c =
    let old = c.self.inside.watches in let unlinked = c.unlink_all.new.self in let numbered = c.number_clauses.new.watches in
    let marks = c.mark_reasons.new.stays in
    let new = c.compact.new.watches in
    let shrinks : Shrinks old unlinked numbered new marks 0 = record {
      unlinked_is = c.unlink_all.ensures.unlinked;
      numbered_is = c.number_clauses.ensures;
      front = AllMarked-none marks;
      many = marks_many old c.self.inside.kinds.items c.args.self.now c.args.stays.now c.keep_added.new.stays marks c.self.view_is c.requires.marks c.keep_added.ensures.as_many c.mark_reasons.ensures.as_many;
      within = omega arith;
      atoms = c.compact.ensures.atoms;
      clauses = c.compact.ensures.clauses;
      watched = c.compact.ensures.watched;
    } in
    let kinds = c.self.inside.kinds.items in let rest = c.compact.new.kinds.items in
    let still = kinds_still old unlinked numbered new marks 0 kinds rest c.self.invariant.1 shrinks c.compact.ensures.kinds in
    let firm = firm_left old unlinked numbered new marks 0 kinds rest c.self.inside.firm c.count_kept-firm.result c.self.invariant.1 shrinks c.compact.ensures.kinds c.self.invariant.2 c.self.invariant.3 c.count_kept-firm.ensures in
    (c.compact.ensures.watches, still, firm.0, firm.1)

pub returns-clause-clauses : goal.returns-clause-clauses
returns-clause-clauses c =
    let old = c.self.inside.watches in let unlinked = c.unlink_all.new.self in let numbered = c.number_clauses.new.watches in
    let marks = c.mark_reasons.new.stays in
    let new = c.compact.new.watches in
    let shrinks : Shrinks old unlinked numbered new marks 0 = record {
      unlinked_is = c.unlink_all.ensures.unlinked;
      numbered_is = c.number_clauses.ensures;
      front = AllMarked-none marks;
      many = marks_many old c.self.inside.kinds.items c.args.self.now c.args.stays.now c.keep_added.new.stays marks c.self.view_is c.requires.marks c.keep_added.ensures.as_many c.mark_reasons.ensures.as_many;
      within = omega arith;
      atoms = c.compact.ensures.atoms;
      clauses = c.compact.ensures.clauses;
      watched = c.compact.ensures.watched;
    } in
    subst (λ (b : BookState). map literals_of new.records ≡ kept marks b.clauses) c.self.view_is
    (clauses_kept old unlinked numbered new marks 0 shrinks)

pub returns-clause-kinds : goal.returns-clause-kinds
returns-clause-kinds c =
    let old = c.self.inside.watches in let unlinked = c.unlink_all.new.self in let numbered = c.number_clauses.new.watches in
    let marks = c.mark_reasons.new.stays in
    let new = c.compact.new.watches in
    let shrinks : Shrinks old unlinked numbered new marks 0 = record {
      unlinked_is = c.unlink_all.ensures.unlinked;
      numbered_is = c.number_clauses.ensures;
      front = AllMarked-none marks;
      many = marks_many old c.self.inside.kinds.items c.args.self.now c.args.stays.now c.keep_added.new.stays marks c.self.view_is c.requires.marks c.keep_added.ensures.as_many c.mark_reasons.ensures.as_many;
      within = omega arith;
      atoms = c.compact.ensures.atoms;
      clauses = c.compact.ensures.clauses;
      watched = c.compact.ensures.watched;
    } in
    subst (λ (b : BookState). c.compact.new.kinds.items ≡ kept marks b.kinds) c.self.view_is
    (kinds_kept old unlinked numbered new marks 0 c.self.inside.kinds.items c.compact.new.kinds.items shrinks c.compact.ensures.kinds)

pub returns-clause-trail : goal.returns-clause-trail
returns-clause-trail c =
    let old = c.self.inside.watches in let unlinked = c.unlink_all.new.self in let numbered = c.number_clauses.new.watches in
    let marks = c.mark_reasons.new.stays in
    let kinds = c.self.inside.kinds.items in let trail = c.args.trail.now in
    let was : BookState = record (book_of old) { kinds = kinds } in
    let goes = subst (λ (b : BookState). Goes b trail) (sym c.self.view_is) c.requires.goes in
    let many = c.unlink_all.ensures.unlinked.as_many in
    let within : (clause : ℕ) → IsReason trail.steps clause → clause < length unlinked.records = λ clause r. let w = reason_within was trail goes clause r in omega (arith, w, many, length-map old.records literals_of) in
    c.renumber.ensures ∙ ap (λ (s : List Step). let t : TrailState = record trail { steps = s } in t) (relabelled_is unlinked numbered marks trail.steps c.number_clauses.ensures within (marked_reasons trail.steps c.keep_added.new.stays marks c.mark_reasons.ensures))

pub returns-clause-goes : goal.returns-clause-goes
returns-clause-goes c =
    let old = c.self.inside.watches in let unlinked = c.unlink_all.new.self in let numbered = c.number_clauses.new.watches in
    let marks = c.mark_reasons.new.stays in
    let new = c.compact.new.watches in
    let shrinks : Shrinks old unlinked numbered new marks 0 = record {
      unlinked_is = c.unlink_all.ensures.unlinked;
      numbered_is = c.number_clauses.ensures;
      front = AllMarked-none marks;
      many = marks_many old c.self.inside.kinds.items c.args.self.now c.args.stays.now c.keep_added.new.stays marks c.self.view_is c.requires.marks c.keep_added.ensures.as_many c.mark_reasons.ensures.as_many;
      within = omega arith;
      atoms = c.compact.ensures.atoms;
      clauses = c.compact.ensures.clauses;
      watched = c.compact.ensures.watched;
    } in
    let kinds = c.self.inside.kinds.items in let rest = c.compact.new.kinds.items in let trail = c.args.trail.now in
    let was : BookState = record (book_of old) { kinds = kinds } in
    let is : BookState = record (book_of new) { kinds = rest } in
    let goes = subst (λ (b : BookState). Goes b trail) (sym c.self.view_is) c.requires.goes in
    let many = c.unlink_all.ensures.unlinked.as_many in
    let within : (clause : ℕ) → IsReason trail.steps clause → clause < length unlinked.records = λ clause r. let w = reason_within was trail goes clause r in omega (arith, w, many, length-map old.records literals_of) in
    let reasons = marked_reasons trail.steps c.keep_added.new.stays marks c.mark_reasons.ensures in
    let after = c.renumber.ensures ∙ ap (λ (s : List Step). let t : TrailState = record trail { steps = s } in t) (relabelled_is unlinked numbered marks trail.steps c.number_clauses.ensures within reasons) in
    let s = c.self.invariant.0.store in
    subst (Goes is) (sym after) (Goes-removed was is marks trail (Removes-from old unlinked numbered new kinds rest marks 0 trail.steps shrinks reasons) (omega (arith, s.watched, length-map old.records literals_of)) goes)

pub renumber-requires-clause-numbers : goal.renumber-requires-clause-numbers
renumber-requires-clause-numbers c = λ clause r.
    let old = c.self.inside.watches in let unlinked = c.unlink_all.new.self in let numbered = c.number_clauses.new.watches in
    let marks = c.mark_reasons.new.stays in
    let kinds = c.self.inside.kinds.items in let trail = c.args.trail.now in
    let was : BookState = record (book_of old) { kinds = kinds } in
    let goes = subst (λ (b : BookState). Goes b trail) (sym c.self.view_is) c.requires.goes in
    let w = reason_within was trail goes clause r in let many = c.unlink_all.ensures.unlinked.as_many in
    new_number_small unlinked numbered marks clause c.number_clauses.ensures (omega (arith, w, many, length-map old.records literals_of)) (marked_reasons trail.steps c.keep_added.new.stays marks c.mark_reasons.ensures clause r)
