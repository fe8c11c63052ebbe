use Rattle.std.proofs.Common.{◌≡◌, ◌<◌, length, ◌∙◌, below_more, arith}
use Rattle.std.proofs.lemmas.List.{get_or_read}
use Rattle.asp_bits.specs.Words.{IsPacked, truth_values}
use Rattle.asp_bits.proofs.Packed.{same_size, ComesBefore-at, ComesAfter-at, equal_values}
use Rattle.asp_bits.proofs.Bits.compare.Goals as goal
use Rattle.asp_bits.proofs.Bits.compare.Goals.{In-loop-index}

-- the words of `self`, as the loop's list of items
mine_is : (c : In-loop-index) → truth_values c.deref-mine-items.result.now c.self.inside.len ≡ c.args.self.now
mine_is c = rw c.deref-mine-items.ensures.value c.self.view_is

mine_packed : (c : In-loop-index) → IsPacked c.deref-mine-items.result.now c.self.inside.len
mine_packed c = rw c.deref-mine-items.ensures.value c.self.invariant

inside_theirs : (c : In-loop-index) → c.loop-index.index < length c.other.inside.words.items
inside_theirs c =
    omega (arith, same_size _ _ _ _ _ _ (mine_is c) c.other.view_is (mine_packed c) c.other.invariant c.requires)

pub index-theirs-requires : goal.index-theirs-requires
index-theirs-requires c = omega (arith, c.other.inside.words.ok.0, inside_theirs c)

pub returns-then-mine-theirs-clause-less : goal.returns-then-mine-theirs-clause-less
returns-then-mine-theirs-clause-less c = λ is.
    let d = (goal.at.returns-then-mine-theirs-clause-less c).In-loop-index in
    let read = get_or_read _ _ _ (inside_theirs d) c.index-theirs.ensures 0 in
    ComesBefore-at _ _ _ _ _ _ (mine_is d) c.other.view_is (mine_packed d) c.other.invariant c.requires c.loop-index.index c.loop-index-test.true c.loop-index.invariant (rw (← read) (c.compare_words.ensures.less is))

pub returns-then-mine-theirs-clause-greater : goal.returns-then-mine-theirs-clause-greater
returns-then-mine-theirs-clause-greater c = λ is.
    let d = (goal.at.returns-then-mine-theirs-clause-greater c).In-loop-index in
    let read = get_or_read _ _ _ (inside_theirs d) c.index-theirs.ensures 0 in
    ComesAfter-at _ _ _ _ _ _ (mine_is d) c.other.view_is (mine_packed d) c.other.invariant c.requires c.loop-index.index c.loop-index-test.true c.loop-index.invariant (rw (← read) (c.compare_words.ensures.greater is))

pub loop-index-preserved : goal.loop-index-preserved
loop-index-preserved c =
    let d = (goal.at.loop-index-preserved c).In-loop-index in
    let read = get_or_read _ _ _ (inside_theirs d) c.index-theirs.ensures 0 in
    below_more _ _ c.loop-index.invariant (c.if-mine-theirs.false ∙ read)

pub returns-clause-equal : goal.returns-clause-equal
returns-clause-equal c = λ _.
    let items = c.deref-mine-items.result.now in
    let is : truth_values items c.self.inside.len ≡ c.args.self.now = rw c.deref-mine-items.ensures.value c.self.view_is in
    let packed : IsPacked items c.self.inside.len = rw c.deref-mine-items.ensures.value c.self.invariant in
    equal_values _ _ _ _ _ _ is c.other.view_is packed c.other.invariant c.requires (λ k h. c.loop-index.invariant k (omega arith))
