use Rattle.std.proofs.Common.{◌≡◌, ◌++◌, ℕ, List, sym, ap, subst, ◌∙◌, append_assoc}
use Rattle.std.specs.Prelude.{OnOk}
use Rattle.std.specs.List.{filter}
use Rattle.std.specs.Int.RustNames.{bit_or}
use Rattle.asp_plain.specs.Levels.{is_won}
use Rattle.asp_plain.specs.Masks.{candidates}
use Rattle.asp_plain.proofs.Claims.{filter-candidates}
use Rattle.asp_plain.proofs.sets.+add_won.Goals as goal

pub returns-in-Some : goal.returns-in-Some
returns-in-Some t c =
    let won = is_won c.args.quants.now c.args.levels.now in
    let set = c.args.set in
    let bit = c.in-Some.bit.now in
    let others = c.in-Some.others.now in
    let old = c.args.found.now.items in
    let with_bit = filter won (candidates (bit_or set bit) others) in
    subst (λ (sets : List ℕ). OnOk c.add_won-in-Some.result (c.add_won-in-Some.new.found.items ≡ sets))
    (ap (λ (sets : List ℕ). sets ++ with_bit) c.in_ok-add_won.ensures
    ∙ append_assoc old (filter won (candidates set others)) with_bit
    ∙ ap (λ (sets : List ℕ). old ++ sets) (sym (filter-candidates won set bit others))
    ∙ ap (λ (rest : List ℕ). old ++ filter won (candidates set rest)) (sym c.in-Some.ensures.cases.0))
    c.add_won-in-Some.ensures
