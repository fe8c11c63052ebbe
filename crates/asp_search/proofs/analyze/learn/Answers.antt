use Rattle.std.proofs.Common.{◌≡◌, ◌<◌, ◌++◌, ◌∷◌, [], ℕ, List, length, get_or, ap, ◌∙◌, subst, arith}
use Rattle.std.specs.List.{Contains}
use Rattle.asp_clauses.specs.Literal.{negated}
use Rattle.asp_clauses.specs.Trail.{literal_at}
use Rattle.asp_search.specs.Seen.{AreDistinct}
use Rattle.asp_search.specs.Learned.{base_of}
use Rattle.asp_search.specs.Analysis.{IsLearning, Takes}
use Rattle.asp_clauses.proofs.ReorderLemmas.{Contains-at}
use Rattle.asp_search.proofs.Learning.{IsLearning-start, IsLearning-more, IsLearned-from}
use Rattle.asp_search.proofs.analyze.learn.Goals as goal

pub loop-literal-init : goal.loop-literal-init
loop-literal-init c =
    let first : c.push.new.self.items ≡ negated (literal_at c.args.trail.now.steps c.args.place) ∷ [] =
    c.in_ok-push.ensures.items ∙ (ap (λ (l : List ℕ). l ++ c.opposite.result ∷ []) c.clear.ensures.items ∙ ap (λ (x : ℕ). x ∷ []) (c.opposite.ensures ∙ ap (λ (x : ℕ). negated x) c.at.ensures.literal)) in
    rw first (IsLearning-start c.args.trail.now.atoms (base_of c.args.book.now c.args.loose) c.args.book.now.clauses c.args.trail.now.steps c.requires.goes.lawful c.requires.grounded c.args.seen.now.marked c.args.level c.args.place c.requires.cut)

pub take_marked-requires-clause-placed : goal.take_marked-requires-clause-placed
take_marked-requires-clause-placed c =
    let items = c.as_slice-literal-items.result.now in
    let inside : Contains c.args.seen.now.marked (get_or items c.loop-literal.literal-index 0) = subst (λ (l : List ℕ). Contains l (get_or items c.loop-literal.literal-index 0)) c.as_slice-literal-items.ensures.marked (Contains-at items c.loop-literal.literal-index c.loop-literal-test.true) in
    let m = c.requires.cut.levels (get_or items c.loop-literal.literal-index 0) inside in
    (m.place, m.within, m.is)

pub loop-literal-preserved : goal.loop-literal-preserved
loop-literal-preserved c =
    let marked_is = c.as_slice-literal-items.ensures.marked in
    let separate : AreDistinct c.args.seen.now.marked = subst (λ (l : List ℕ). AreDistinct l) marked_is c.as_slice-literal-items.ensures.distinct in
    let inside : c.loop-literal.literal-index < length c.args.seen.now.marked = omega (arith, c.loop-literal-test.true, ap (λ (l : List ℕ). length l) marked_is) in
    IsLearning-more c.args.trail.now.atoms (base_of c.args.book.now c.args.loose) c.args.book.now.clauses c.args.trail.now.steps c.requires.goes.lawful c.requires.grounded c.args.seen.now.marked c.args.level c.args.place c.requires.cut separate c.loop-literal.literal-index inside c.loop-literal.learned.items c.take_marked.new.learned.items c.loop-literal.target c.in_ok-target.target c.loop-literal.invariant
    (subst (λ (l : List ℕ). Takes (base_of c.args.book.now c.args.loose) c.args.book.now.clauses c.args.trail.now.steps c.args.seen.now.marked (get_or l c.loop-literal.literal-index 0) c.args.level c.loop-literal.learned.items c.take_marked.new.learned.items c.loop-literal.target c.in_ok-target.target) marked_is c.in_ok-target.ensures)

pub returns : goal.returns
returns c =
    let whole : c.loop-literal.literal-index ≡ length c.args.seen.now.marked = omega (arith, c.loop-literal-test.false, c.loop-literal.auto.literal-index-end, ap (λ (l : List ℕ). length l) c.as_slice-literal-items.ensures.marked) in
    IsLearned-from c.args.trail.now.atoms (base_of c.args.book.now c.args.loose) c.args.book.now.clauses c.args.trail.now.steps c.requires.goes.lawful c.requires.grounded c.args.seen.now.marked c.args.level c.args.place c.requires.cut c.loop-literal.learned.items c.loop-literal.target
    (subst (λ (i : ℕ). IsLearning (base_of c.args.book.now c.args.loose) c.args.book.now.clauses c.args.trail.now.steps c.args.seen.now.marked c.args.level c.args.place c.loop-literal.learned.items i c.loop-literal.target) whole c.loop-literal.invariant)
