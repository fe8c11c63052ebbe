use Rattle.std.proofs.Common.{◌≡◌, ℕ, Bool, List, length, map, drop, sym, ap, ◌∙◌, subst}
use Rattle.std.specs.Prelude.{All}
use Rattle.std.specs.List.{filter}
use Rattle.std.proofs.lemmas.List.{take_rest}
use Rattle.std.proofs.lemmas.Result.{IfOk-weaker}
use Rattle.asp_bits.specs.Places.{true_places}
use Rattle.asp_defs.specs.declared.syntax.Quant.{Quant}
use Rattle.asp_defs.specs.Values.{quantified_answer_sets}
use Rattle.asp_plain.specs.declared.masks.Level.{Level}
use Rattle.asp_plain.specs.Levels.{first_own, is_won}
use Rattle.asp_plain.specs.Masks.{candidates}
use Rattle.asp_plain.specs.Sets.{values_of}
use Rattle.asp_plain.proofs.Listed.{listed, all_places}
use Rattle.asp_plain.proofs.listing.Goals as goal

pub returns-clause-sets : goal.returns-clause-sets
returns-clause-sets c =
    let masks_are : c.as_slice-3.result.now ≡ filter (is_won (drop 1 c.args.game.now.quants) c.in_ok-levels.levels.items) (candidates 0 (first_own c.in_ok-levels.levels.items)) =
    c.as_slice-3.ensures.value ∙ c.in_ok-won.ensures
    ∙ ap (λ (quants : List Quant). filter (is_won quants c.as_slice-2.result.now) (candidates 0 (first_own c.as_slice-2.result.now))) (take_rest c.as_slice.result.now 1)
    ∙ ap (λ (quants : List Quant). filter (is_won (drop 1 quants) c.as_slice-2.result.now) (candidates 0 (first_own c.as_slice-2.result.now))) c.as_slice.ensures
    ∙ ap (λ (levels : List Level). filter (is_won (drop 1 c.args.game.now.quants) levels) (candidates 0 (first_own levels))) c.as_slice-2.ensures.value in
    IfOk-weaker c.interpretations.result (λ all. all ≡ map (values_of c.len.result) c.as_slice-3.result.now)
    (λ all. map true_places all ≡ quantified_answer_sets c.args.game.now)
    (λ all is.
    ap (map true_places) is
    ∙ listed c.args.game.now c.in_ok-levels.levels.items c.as_slice-3.result.now c.len.result c.requires.valid
    c.in_ok-levels.ensures.masked c.in_ok-levels.ensures.number c.len.ensures masks_are)
    c.interpretations.ensures

pub returns-clause-places : goal.returns-clause-places
returns-clause-places c =
    IfOk-weaker c.interpretations.result (λ all. all ≡ map (values_of c.len.result) c.as_slice-3.result.now)
    (All (λ (set : List Bool). length set ≡ length c.args.game.now.bases.atoms))
    (λ all is.
    subst (All (λ (set : List Bool). length set ≡ length c.args.game.now.bases.atoms)) (sym is)
    (subst (λ (n : ℕ). All (λ (set : List Bool). length set ≡ n) (map (values_of c.len.result) c.as_slice-3.result.now)) c.len.ensures
    (all_places c.len.result c.as_slice-3.result.now)))
    c.interpretations.ensures
