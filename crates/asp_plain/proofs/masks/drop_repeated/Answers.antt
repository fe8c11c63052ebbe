use Rattle.std.proofs.lemmas.List.Filters.{dedup_is}
use Rattle.std.proofs.lemmas.List.Kept.{Contains-dedup, Contains-from_dedup}
use Rattle.std.proofs.lemmas.List.Sorted.{Contains-permutation, IsPermutation-sym}
use Rattle.asp_plain.proofs.Repeated.{same_rule-true, same_rule-equivalence}
use Rattle.asp_plain.proofs.masks.drop_repeated.Goals as goal

pub returns : goal.returns
returns c =
    let is = dedup_is _ _ _ c.dedup.ensures.filtered in
    let moved = c.sort_unstable.ensures.permutation in
    record {
      within = λ x h. Contains-permutation _ _ x (IsPermutation-sym _ _ moved) (Contains-from_dedup _ _ x (rw is at h));
      whole = λ x h. rw is (Contains-dedup same_rule-equivalence same_rule-true _ x (Contains-permutation _ _ x moved h));
    }
