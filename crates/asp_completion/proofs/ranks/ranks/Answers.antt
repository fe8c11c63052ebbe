use Rattle.std.proofs.Common.{◌≡◌, ◌<◌, ◌≤◌, ◌∙◌, ℕ, List, length, ap, subst, arith}
use Rattle.std.proofs.lemmas.Result.{IfOk-weaker}
use Rattle.asp_defs.specs.Games.{ascends, base}
use Rattle.asp_completion.specs.Levels.{AreRanks}
use Rattle.asp_completion.proofs.Bases.{base-ascends, read-list, read-below, atom-below}
use Rattle.asp_completion.proofs.LevelFacts.{few-below}
use Rattle.asp_completion.proofs.ranks.ranks.Goals as goal
use Rattle.asp_completion.proofs.ranks.ranks.Goals.{After-as_slice-base}

base_is : (c : After-as_slice-base) → c.as_slice-base.result.now ≡ base c.args.game.now c.args.level
base_is c =
    let h : c.args.level < length c.as_slice-bases.result.now =
    omega (arith, c.requires.valid.base_lists, c.requires.last, ap (λ (ls : List (List ℕ)). length ls) c.as_slice-bases.ensures) in
    read-list c.args.game.now.bases.members c.as_slice-bases.result.now c.args.level c.index-bases-level.result
    c.as_slice-base.result.now c.as_slice-bases.ensures h c.index-bases-level.is c.as_slice-base.ensures

pub places-requires-clause-ascending : goal.places-requires-clause-ascending
places-requires-clause-ascending c =
    let e = base_is (goal.at.places-requires-clause-ascending c).After-as_slice-base in
    ap ascends e ∙ base-ascends c.args.game.now c.args.level c.requires.valid c.requires.first c.requires.last c.args.level

pub places-requires-clause-below : goal.places-requires-clause-below
places-requires-clause-below c =
    let e = base_is (goal.at.places-requires-clause-below c).After-as_slice-base in
    read-below c.args.game.now c.args.level c.as_slice-base.result.now _ c.requires.valid c.requires.first c.requires.last e c.len-atoms.ensures

pub places-requires-clause-few : goal.places-requires-clause-few
places-requires-clause-few c =
    let e = base_is (goal.at.places-requires-clause-few c).After-as_slice-base in
    let sizes = ap (λ (xs : List ℕ). length xs) e in
    let g = c.args.game.now in
    let most : length (base g c.args.level) ≤ length g.bases.atoms =
    few-below (base g c.args.level) (length g.bases.atoms)
    (base-ascends g c.args.level c.requires.valid c.requires.first c.requires.last c.args.level)
    (atom-below g c.args.level c.requires.valid c.requires.first c.requires.last) in
    let atoms = c.requires.valid.few_atoms in
    omega (arith, sizes)

pub returns : goal.returns
returns c =
    let e = base_is (goal.at.returns c).After-as_slice-base in
    let g = c.args.game.now in
    IfOk-weaker c.places.result (λ r. AreRanks c.as_slice-base.result.now c.len-atoms.result r.items) (λ r. AreRanks (base g c.args.level) (length g.bases.atoms) r.items)
    (λ r h.
    subst (λ (n : ℕ). AreRanks (base g c.args.level) n r.items) c.len-atoms.ensures
    (subst (λ (xs : List ℕ). AreRanks xs c.len-atoms.result r.items) e h))
    c.places.ensures
