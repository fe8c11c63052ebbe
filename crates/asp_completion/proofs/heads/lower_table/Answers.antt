use Rattle.std.proofs.Common.{◌∙◌, ap, replicate, ◌<◌, ℕ, List, false, length, subst, arith}
use Rattle.std.proofs.lemmas.List.{take_all}
use Rattle.asp_completion.specs.Levels.{game_at}
use Rattle.asp_completion.specs.Chains.{AreLower}
use Rattle.asp_completion.proofs.LevelFacts.{lower-atom}
use Rattle.asp_completion.proofs.Linking.{lower-none, lower-step}
use Rattle.asp_completion.proofs.heads.lower_table.Goals as goal

pub loop-atom-init : goal.loop-atom-init
loop-atom-init c =
    lower-none (length (game_at c.args.level.now).bases.atoms) c.in_ok-table.table.items
    (c.in_ok-table.ensures.items_if_clones_equal (λ y e. e) ∙ ap (λ n. replicate n false) c.atoms.ensures)

pub index_mut-requires : goal.index_mut-requires
index_mut-requires c =
    let k = c.loop-atom.atom-index in
    let h : k < length c.lower-base.result.now = omega arith in
    let low = (lower-atom c.args.level.now c.requires.ready c.lower-base.result.now k c.lower-base.ensures h).1 in
    let size = c.loop-atom.invariant.size in
    let ok = c.loop-atom.table.ok in
    omega (arith, low, size, ok)

pub loop-atom-preserved : goal.loop-atom-preserved
loop-atom-preserved c =
    let k = c.loop-atom.atom-index in
    let h : k < length c.lower-base.result.now = omega arith in
    lower-step c.lower-base.result.now c.loop-atom.table.items (length (game_at c.args.level.now).bases.atoms) k 0 h
    ((lower-atom c.args.level.now c.requires.ready c.lower-base.result.now k c.lower-base.ensures h).1)
    c.loop-atom.invariant

pub returns : goal.returns
returns c =
    subst (λ (xs : List ℕ). AreLower xs (length (game_at c.args.level.now).bases.atoms) c.loop-atom.table.items)
    (take_all c.loop-atom.atom-index c.lower-base.result.now c.loop-atom-test.false ∙ c.lower-base.ensures)
    c.loop-atom.invariant
