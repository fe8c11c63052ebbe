use Rattle.std.proofs.Common.{ℕ, List, ◌∙◌, ◌+◌, ◌<◌, [], get_or, length, take, subst, arith}
use Rattle.std.proofs.lemmas.List.{take_all}
use Rattle.asp_defs.specs.Lists.{IsIn}
use Rattle.asp_defs.proofs.Subsets.{holds_from}
use Rattle.asp_completion.specs.Levels.{upper}
use Rattle.asp_completion.specs.Completions.{Completes, IsSupported, AreSupported}
use Rattle.asp_completion.proofs.Loops.{item-in}
use Rattle.asp_completion.proofs.Headed.{completes-self, completes-both, has-rules, supported-forth, supported-back}
use Rattle.asp_completion.proofs.completing.add_atoms.Goals as goal

pub loop-atom-init : goal.loop-atom-init
loop-atom-init c =
    completes-self c.args.level.now (AreSupported c.args.level.now []) c.args.search.now c.requires.rules (λ N a i. absurd i)

pub add_atom-requires-clause-rules : goal.add_atom-requires-clause-rules
add_atom-requires-clause-rules c =
    has-rules c.args.level.now (AreSupported c.args.level.now (take c.loop-atom.atom-index c.upper-base.result.now)) c.args.search.now c.loop-atom.search
    c.requires.rules c.loop-atom.invariant

pub add_atom-requires-clause-inside : goal.add_atom-requires-clause-inside
add_atom-requires-clause-inside c =
    let k = c.loop-atom.atom-index in
    let xs = c.upper-base.result.now in
    let h : k < length xs = omega arith in
    holds_from (upper c.args.level.now) (get_or xs k 0) (subst (λ (ys : List ℕ). IsIn (get_or xs k 0) ys) c.upper-base.ensures (item-in xs k 0 h))

pub loop-atom-preserved : goal.loop-atom-preserved
loop-atom-preserved c =
    let l = c.args.level.now in
    let k = c.loop-atom.atom-index in
    let base = c.upper-base.result.now in
    let h : k < length base = omega arith in
    completes-both l (AreSupported l (take k base)) (IsSupported l (get_or base k 0)) (AreSupported l (take (k + 1) base)) c.args.search.now
    c.loop-atom.search c.add_atom.new.search (λ N. supported-forth l base k h N) (λ N. supported-back l base k h N)
    c.loop-atom.invariant c.in_ok-add_atom.ensures

pub returns : goal.returns
returns c =
    subst (λ (xs : List ℕ). Completes c.args.level.now (AreSupported c.args.level.now xs) c.args.search.now c.loop-atom.search)
    (take_all c.loop-atom.atom-index c.upper-base.result.now c.loop-atom-test.false ∙ c.upper-base.ensures) c.loop-atom.invariant
