use Rattle.std.proofs.Common.{◌∙◌, ◌<◌, ℕ, List, length, get_or, ap, subst, arith}
use Rattle.std.proofs.lemmas.List.{take_all}
use Rattle.asp_defs.specs.declared.ground.GroundRule.{GroundRule}
use Rattle.asp_completion.specs.Levels.{game_at, rules_at}
use Rattle.asp_completion.specs.Chains.{no_rule, AreHeads}
use Rattle.asp_completion.proofs.Loops.{item-in}
use Rattle.asp_completion.proofs.Headed.{head-read}
use Rattle.asp_completion.proofs.Linking.{wanted_so_far, heads-more, heads-whole}
use Rattle.asp_completion.proofs.heads.add_heads.Goals as goal

pub push_link-requires-clause-inside : goal.push_link-requires-clause-inside
push_link-requires-clause-inside c =
    let l = c.args.level.now in
    let heads = c.as_slice-atoms.result.now in
    let h : c.loop-atom.atom-index < length heads = omega arith in
    let low =
    head-read l c.requires.ready (get_or (rules_at l) c.args.place no_rule) heads c.loop-atom.atom-index
    (item-in (rules_at l) c.args.place no_rule c.requires.place)
    (c.as_slice-atoms.ensures ∙ ap (λ (r : GroundRule). r.head) c.rule_at-rule.ensures) h in
    let size = c.loop-atom.invariant.size in
    omega (arith, low, size)

pub loop-atom-preserved : goal.loop-atom-preserved
loop-atom-preserved c =
    let l = c.args.level.now in
    let heads = c.as_slice-atoms.result.now in
    let k = c.loop-atom.atom-index in
    let h : k < length heads = omega arith in
    let low =
    head-read l c.requires.ready (get_or (rules_at l) c.args.place no_rule) heads k
    (item-in (rules_at l) c.args.place no_rule c.requires.place)
    (c.as_slice-atoms.ensures ∙ ap (λ (r : GroundRule). r.head) c.rule_at-rule.ensures) h in
    heads-more (rules_at l) (length (game_at l).bases.atoms) c.args.place heads k c.loop-atom.heads.chains.items c.push_link.new.heads.chains.items
    c.loop-atom.heads.links.items c.push_link.new.heads.links.items h c.loop-atom.invariant low c.requires.place
    c.in_ok-push_link.ensures.links c.in_ok-push_link.ensures.chains

pub returns : goal.returns
returns c =
    let l = c.args.level.now in
    let heads = c.as_slice-atoms.result.now in
    heads-whole (rules_at l) (length (game_at l).bases.atoms) c.args.place heads c.loop-atom.heads.chains.items c.loop-atom.heads.links.items
    (c.as_slice-atoms.ensures ∙ ap (λ (r : GroundRule). r.head) c.rule_at-rule.ensures) c.requires.place
    (subst
    (λ (xs : List ℕ). AreHeads (rules_at l) (length (game_at l).bases.atoms) (wanted_so_far (rules_at l) c.args.place xs) c.loop-atom.heads.chains.items c.loop-atom.heads.links.items)
    (take_all c.loop-atom.atom-index heads c.loop-atom-test.false) c.loop-atom.invariant)
