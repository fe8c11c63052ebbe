use Rattle.std.proofs.Common.{ℕ, ◌∙◌, ◌++◌, List, ap, map, Bor}
use Rattle.std.specs.List.{flat_map}
use Rattle.std.specs.Ordering.{nat_cmp, int_cmp}
use Rattle.std.specs.Cmp.Lexicographic.{slice_cmp}
use Rattle.asp_defs.specs.declared.syntax.Term.{Term}
use Rattle.asp_defs.specs.Constants.{distinct}
use Rattle.asp_atoms.specs.declared.intervals.Interval.{Interval}
use Rattle.asp_atoms.specs.Universes.{integers_of, term_intervals, term_symbols}
use Rattle.asp_atoms.proofs.Mixing.{joined}
use Rattle.asp_atoms.proofs.constants.constants_with.Goals as goal

pub returns : goal.returns
returns c =
    joined c.args.before.now.intervals.items (map (λ (s : Bor (List ℕ)). s.now) c.args.before.now.symbols.items) c.args.rules.now
    (integers_of c.in_ok-intervals.intervals.items) (map (λ (s : Bor (List ℕ)). s.now) c.in_ok-symbols.symbols.items)
    (c.in_ok-intervals.ensures
    ∙ (ap (λ (l : List Interval). distinct int_cmp (integers_of (l ++ flat_map term_intervals (map (λ (t : Bor Term). t.now) c.as_slice-2.result.now)))) c.as_slice.ensures.value
    ∙ (ap (λ (l : List (Bor Term)). distinct int_cmp (integers_of (c.args.before.now.intervals.items ++ flat_map term_intervals (map (λ (t : Bor Term). t.now) l)))) c.as_slice-2.ensures.value
    ∙ ap (λ (l : List Term). distinct int_cmp (integers_of (c.args.before.now.intervals.items ++ flat_map term_intervals l))) c.in_ok-terms.ensures)))
    (c.in_ok-symbols.ensures
    ∙ (ap (λ (l : List (Bor (List ℕ))). distinct (slice_cmp nat_cmp) (map (λ (s : Bor (List ℕ)). s.now) l ++ flat_map term_symbols (map (λ (t : Bor Term). t.now) c.as_slice-4.result.now))) c.as_slice-3.ensures.value
    ∙ (ap (λ (l : List (Bor Term)). distinct (slice_cmp nat_cmp) (map (λ (s : Bor (List ℕ)). s.now) c.args.before.now.symbols.items ++ flat_map term_symbols (map (λ (t : Bor Term). t.now) l))) c.as_slice-4.ensures.value
    ∙ ap (λ (l : List Term). distinct (slice_cmp nat_cmp) (map (λ (s : Bor (List ℕ)). s.now) c.args.before.now.symbols.items ++ flat_map term_symbols l)) c.in_ok-terms.ensures)))
