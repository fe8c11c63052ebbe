use Rattle.std.proofs.Common.{◌≡◌, ◌++◌, ◌∙◌, ap, List, map, take, arith, Bor, Vec, Global}
use Rattle.std.specs.List.{flat_map}
use Rattle.std.proofs.lemmas.List.{take_all}
use Rattle.std.specs.Ordering.{int_cmp}
use Rattle.asp_defs.specs.declared.syntax.Term.{Term}
use Rattle.asp_defs.specs.Constants.{distinct}
use Rattle.asp_atoms.specs.declared.intervals.Interval.{Interval}
use Rattle.asp_atoms.specs.Gaps.{apart_from, first_low}
use Rattle.asp_atoms.specs.Universes.{integers_of, term_intervals}
use Rattle.asp_atoms.proofs.Integers.{apart_is}
use Rattle.std.proofs.lemmas.Result.{IfOk-weaker}
use Rattle.asp_atoms.proofs.intervals.intervals_with.Goals as goal

pub returns : goal.returns
returns c =
    let whole : take c.loop-term.term-index c.args.terms.now ≡ c.args.terms.now = take_all c.loop-term.term-index c.args.terms.now (omega arith) in
    IfOk-weaker c.apart.result
    (λ (out : Vec Interval Global). out.items ≡ apart_from (first_low c.as_slice.result.now) c.as_slice.result.now)
    (λ (out : Vec Interval Global). integers_of out.items ≡ distinct int_cmp (integers_of (c.args.before.now ++ flat_map term_intervals (map (λ (t : Bor Term). t.now) c.args.terms.now))))
    (λ out e.
    ap integers_of (e ∙ ap (λ (l : List Interval). apart_from (first_low l) l) c.as_slice.ensures.value)
    ∙ (apart_is c.loop-term.intervals.items c.sort_unstable.new.self.items c.sort_unstable.ensures.permutation c.sort_unstable.ensures.sorted
    ∙ ap (λ (l : List Interval). distinct int_cmp (integers_of l)) (c.loop-term.invariant
    ∙ ap (λ (ts : List (Bor Term)). c.args.before.now ++ flat_map term_intervals (map (λ (t : Bor Term). t.now) ts)) whole)))
    c.apart.ensures
