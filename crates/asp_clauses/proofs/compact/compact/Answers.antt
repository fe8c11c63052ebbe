use Rattle.std.proofs.Common.{◌≡◌, ℕ, ◌<◌, List, length, get_or, map, refl, subst, sym, ◌∙◌, ap, arith}
use Rattle.std.proofs.lemmas.List.{length-map}
use Rattle.asp_clauses.specs.Records.{row_at, literals_of}
use Rattle.asp_clauses.specs.Kept.{is_kept, from_on}
use Rattle.asp_clauses.proofs.KeptLemmas.{map-kept, new_number-mono, new_number-le-kept}
use Rattle.asp_clauses.proofs.FrontLemmas.{count_front, length-from_on, marked_before}
use Rattle.asp_clauses.proofs.NumberedLemmas.{kept_not_empty, AreWatches-compacted}
use Rattle.asp_clauses.proofs.compact.compact.Goals as goal

pub watch_first-requires-clause-watches : goal.watch_first-requires-clause-watches
watch_first-requires-clause-watches c =
    let w = c.args.watches.now in let from = c.args.from in let told = map is_kept w.records in
    let lm : length (from_on from told) ≡ length w.records = length-from_on from told (let l = length-map w.records is_kept in omega (arith, l, c.requires.from)) ∙ length-map w.records is_kept in
    AreWatches-compacted w _ (from_on from told) from c.requires.watches c.compact.ensures refl refl refl (marked_before from told) lm c.requires.from c.requires.unwatched

pub watch_first-requires-clause-fewer : goal.watch_first-requires-clause-fewer
watch_first-requires-clause-fewer c =
    let w = c.args.watches.now in let from = c.args.from in let told = map is_kept w.records in
    let lm : length (from_on from told) ≡ length w.records = length-from_on from told (let l = length-map w.records is_kept in omega (arith, l, c.requires.from)) ∙ length-map w.records is_kept in
    let front = count_front (from_on from told) w.watched (λ k h. marked_before from told k (omega (arith, h, c.requires.unwatched))) (omega (arith, lm, c.requires.from, c.requires.unwatched)) in
    let mono = new_number-mono (from_on from told) w.watched c.args.watched c.requires.more in
    omega (arith, front, mono, c.count_kept-left.ensures)

pub watch_first-requires-clause-within : goal.watch_first-requires-clause-within
watch_first-requires-clause-within c =
    let w = c.args.watches.now in let from = c.args.from in let told = map is_kept w.records in
    let lm : length (from_on from told) ≡ length w.records = length-from_on from told (let l = length-map w.records is_kept in omega (arith, l, c.requires.from)) ∙ length-map w.records is_kept in
    let e = ap length c.compact.ensures in
    let n = new_number-le-kept (from_on from told) w.records c.args.watched lm c.requires.within in
    omega (arith, e, n, c.count_kept-left.ensures)

pub watch_first-requires-clause-not_empty : goal.watch_first-requires-clause-not_empty
watch_first-requires-clause-not_empty c = λ clause h.
    let w = c.args.watches.now in let from = c.args.from in let told = map is_kept w.records in
    let lm : length (from_on from told) ≡ length w.records = length-from_on from told (let l = length-map w.records is_kept in omega (arith, l, c.requires.from)) ∙ length-map w.records is_kept in
    subst (λ (x : List (List ℕ)). 0 < get_or (row_at x clause) 0 0) (sym c.compact.ensures)
    (kept_not_empty w.records (from_on from told) c.args.watched c.requires.not_empty lm c.requires.within clause (omega (arith, h, c.count_kept-left.ensures)))

pub returns-clause-clauses : goal.returns-clause-clauses
returns-clause-clauses c =
    let w = c.args.watches.now in
    c.watch_first.ensures.clauses ∙ ap (map literals_of) c.compact.ensures ∙ map-kept literals_of (from_on c.args.from (map is_kept w.records)) w.records
