use Rattle.std.proofs.Common.{ℕ, ◌≡◌, ◌++◌, ◌∙◌, ap, List, map, take, arith, Bor}
use Rattle.std.specs.Prelude.{nat_eq}
use Rattle.std.specs.List.{flat_map}
use Rattle.std.specs.Ordering.{nat_cmp}
use Rattle.std.specs.Cmp.Lexicographic.{slice_cmp, pointwise, texts_ties}
use Rattle.std.proofs.lemmas.List.{take_all}
use Rattle.std.proofs.lemmas.List.Filters.{dedup_is}
use Rattle.asp_defs.specs.declared.syntax.Term.{Term}
use Rattle.asp_defs.specs.Constants.{distinct}
use Rattle.asp_atoms.specs.Universes.{term_symbols}
use Rattle.asp_atoms.proofs.Orders.{bytes_lawful}
use Rattle.asp_atoms.proofs.Settled.{settled}
use Rattle.asp_atoms.proofs.constants.symbols_with.Goals as goal

pub returns : goal.returns
returns c =
    let is = dedup_is _ _ _ c.dedup.ensures.filtered in
    let whole : take c.loop-term.term-index c.args.terms.now ≡ c.args.terms.now = take_all c.loop-term.term-index c.args.terms.now (omega arith) in
    ap (map (λ (s : Bor (List ℕ)). s.now)) is
    ∙ (settled bytes_lawful (λ (s : Bor (List ℕ)). s.now) (λ (x y : Bor (List ℕ)). pointwise nat_eq x.now y.now) (λ x y. texts_ties x.now y.now)
    c.loop-term.symbols.items c.sort_unstable.new.self.items c.sort_unstable.ensures.permutation c.sort_unstable.ensures.sorted
    ∙ ap (distinct (slice_cmp nat_cmp)) (c.loop-term.invariant
    ∙ ap (λ (ts : List (Bor Term)). map (λ (s : Bor (List ℕ)). s.now) c.args.before.now ++ flat_map term_symbols (map (λ (t : Bor Term). t.now) ts)) whole))
