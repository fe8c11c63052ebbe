use Rattle.std.proofs.Common.{◌≡◌, ◌∙◌, ◌++◌, ◌∷◌, [], true, false, List, length, get_or, sym, ap, subst, arith}
use Rattle.std.proofs.lemmas.List.{get_or_read}
use Rattle.std.proofs.lemmas.Result.{on_ok_weaker}
use Rattle.asp_defs.specs.declared.ground.GroundRule.{GroundRule}
use Rattle.asp_defs.specs.declared.ground.Lit.{Lit}
use Rattle.asp_defs.specs.Interpretations.{holds}
use Rattle.asp_defs.proofs.Subsets.{true_is_not_false}
use Rattle.asp_completion.specs.declared.heads.Chain.{Chain}
use Rattle.asp_completion.specs.Codes.{literal}
use Rattle.asp_completion.specs.Levels.{game_at, lower, rules_at}
use Rattle.asp_completion.specs.Supporters.{supporters, AreFew}
use Rattle.asp_completion.specs.Chains.{no_chain, IsChain, rules_along}
use Rattle.asp_completion.specs.Completions.{IsSoundChoice, IsSupported}
use Rattle.asp_completion.proofs.LevelFacts.{below}
use Rattle.asp_completion.proofs.Linking.{lower-true, lower-false}
use Rattle.asp_completion.proofs.Chaining.{atom-chain, atom-along}
use Rattle.asp_completion.proofs.Headed.{completes-self}
use Rattle.asp_completion.proofs.Completion.{atom-choice}
use Rattle.asp_completion.proofs.Distributing.{supported-added}
use Rattle.asp_completion.proofs.completing.add_atom.Goals as goal
use Rattle.asp_completion.proofs.completing.add_atom.Goals.{After-index-chain}

-- the chain that was read is that of the atom
chain_is : (c : After-index-chain) → c.index-chain.result.now ≡ get_or c.args.heads.now.chains.items c.args.atom no_chain
chain_is c =
    let low = below c.args.level.now c.requires.ready c.args.atom c.requires.inside in
    let size = c.requires.heads.size in
    get_or_read c.args.heads.now.chains.items c.args.atom c.index-chain.result.now (omega (arith, low, size)) c.index-chain.ensures no_chain

chain_fits : (c : After-index-chain) → IsChain c.args.level.now c.args.heads.now c.index-chain.result.now
chain_fits c =
    let l = c.args.level.now in
    subst (λ (k : Chain). IsChain l c.args.heads.now k) (sym (chain_is c))
    (atom-chain l c.args.heads.now c.args.atom c.requires.heads (below l c.requires.ready c.args.atom c.requires.inside))

rules_are : (c : After-index-chain)
    → rules_along c.args.level.now c.args.heads.now c.index-chain.result.now ≡ supporters (rules_at c.args.level.now) c.args.atom
rules_are c =
    let l = c.args.level.now in
    atom-along l c.args.heads.now c.args.atom c.index-chain.result.now c.requires.heads (below l c.requires.ready c.args.atom c.requires.inside)
    (chain_is c)

pub bounds-below-atom : goal.bounds-below-atom
bounds-below-atom c =
    let low = below c.args.level.now c.requires.ready c.args.atom c.requires.inside in
    let size = c.requires.below.size in
    omega (arith, low, size)

pub returns-then-below-atom : goal.returns-then-below-atom
returns-then-below-atom c =
    let l = c.args.level.now in
    let low = below l c.requires.ready c.args.atom c.requires.inside in
    let there : holds (lower l) c.args.atom ≡ true =
    lower-true (lower l) c.args.below.now (length (game_at l).bases.atoms) c.args.atom c.requires.below low c.if-below-atom.true in
    completes-self l (IsSupported l c.args.atom) c.args.search.now c.requires.rules
    (λ N own. absurd (true_is_not_false (holds (lower l) c.args.atom) there own))

pub index-chain-requires : goal.index-chain-requires
index-chain-requires c =
    let low = below c.args.level.now c.requires.ready c.args.atom c.requires.inside in
    let size = c.requires.heads.size in
    let ok = c.args.heads.now.chains.ok in
    omega (arith, low, size, ok)

pub is_few-requires-clause-chain : goal.is_few-requires-clause-chain
is_few-requires-clause-chain c = chain_fits (goal.at.is_few-requires-clause-chain c).After-index-chain

pub returns-then-not-is_few : goal.returns-then-not-is_few
returns-then-not-is_few c =
    let l = c.args.level.now in
    let same = rules_are (goal.at.returns-then-not-is_few c).After-index-chain in
    completes-self l (IsSupported l c.args.atom) c.args.search.now c.requires.rules
    (λ N own few. absurd (c.is_few.ensures.many c.if-not-is_few.true (subst AreFew (sym same) few)))

pub distribute-requires-clause-chain : goal.distribute-requires-clause-chain
distribute-requires-clause-chain c = chain_fits (goal.at.distribute-requires-clause-chain c).After-index-chain

pub distribute-requires-clause-sound : goal.distribute-requires-clause-sound
distribute-requires-clause-sound c =
    let l = c.args.level.now in
    let a = c.args.atom in
    let own : holds (lower l) a ≡ false = lower-false (lower l) c.args.below.now (length (game_at l).bases.atoms) a c.requires.below c.if-below-atom.false in
    let items : c.push.new.self.items ≡ literal false a ∷ [] =
    c.in_ok-push.ensures.items ∙ ap (λ (xs : List Lit). xs ++ literal false a ∷ []) c.clear.ensures.items in
    let same = rules_are (goal.at.distribute-requires-clause-sound c).After-index-chain in
    subst (λ (xs : List Lit). IsSoundChoice (game_at l) l.number xs (rules_along l c.args.heads.now c.index-chain.result.now)) (sym items)
    (subst (λ (rs : List GroundRule). IsSoundChoice (game_at l) l.number (literal false a ∷ []) rs) (sym same)
    (atom-choice (game_at l) l.number a c.requires.inside own))

pub returns : goal.returns
returns c =
    let l = c.args.level.now in
    let a = c.args.atom in
    let own : holds (lower l) a ≡ false = lower-false (lower l) c.args.below.now (length (game_at l).bases.atoms) a c.requires.below c.if-below-atom.false in
    let items : c.push.new.self.items ≡ literal false a ∷ [] =
    c.in_ok-push.ensures.items ∙ ap (λ (xs : List Lit). xs ++ literal false a ∷ []) c.clear.ensures.items in
    on_ok_weaker c.distribute.result
    (supported-added l a c.push.new.self.items (rules_along l c.args.heads.now c.index-chain.result.now) c.args.search.now c.distribute.new.search items
    (rules_are (goal.at.returns c).After-index-chain) own (c.is_few.ensures.few c.if-not-is_few.false))
    c.distribute.ensures.added
