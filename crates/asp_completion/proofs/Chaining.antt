-- A chain of rules: its first rule and the rest, and in how many ways one literal of each body can be taken.
use Rattle.std.proofs.Common.{◌≡◌, ℕ, zero, suc, ◌*◌, ◌-◌, ◌<◌, ◌≤◌, min, List, [], ◌∷◌, length, get_or, refl, sym, ap, ◌∙◌, inl, inr, arith}
use Rattle.std.proofs.lemmas.Bool.{cases_lt}
use Rattle.asp_defs.specs.declared.ground.GroundRule.{GroundRule}
use Rattle.asp_completion.specs.declared.heads.Chain.{Chain}
use Rattle.asp_completion.specs.declared.heads.Heads.{Heads}
use Rattle.asp_completion.specs.declared.level.Level.{Level}
use Rattle.asp_completion.specs.Levels.{game_at, rules_at}
use Rattle.asp_completion.specs.Supporters.{supporters, ways, body_size, AreFew}
use Rattle.asp_completion.specs.Chains.{no_chain, walk, HasHeads, IsChain, rules_along, first_of, rest_of}
use Rattle.asp_completion.proofs.Linking.{walk-length}

-- ---- first and rest

pub along-none : (l : Level) (heads : Heads) (chain : Chain) → chain.count ≡ 0 → rules_along l heads chain ≡ []
along-none l heads chain e = ap (λ (n : ℕ). walk (rules_at l) heads.links.items n chain.link) e

pub some_from : (n : ℕ) → (n ≡ 0 → ⊥) → 0 < n
some_from zero other = absurd (other refl)
some_from (suc n) other = omega arith

pub along-cons : (l : Level) (heads : Heads) (chain : Chain) → 0 < chain.count
    → rules_along l heads chain ≡ first_of l heads chain ∷ rules_along l heads (rest_of heads chain)
along-cons l heads chain some =
    let n : ℕ = chain.count - 1 in
    let e : chain.count ≡ suc n = omega arith in
    ap (λ (m : ℕ). walk (rules_at l) heads.links.items m chain.link) e

-- the same with the first rule and the rest as they were read
pub along-parts : (l : Level) (heads : Heads) (chain : Chain) (r : GroundRule) (others : Chain) → 0 < chain.count → r ≡ first_of l heads chain
    → others ≡ rest_of heads chain → rules_along l heads chain ≡ r ∷ rules_along l heads others
along-parts l heads chain r others some rule_is rest_is =
    along-cons l heads chain some
    ∙ (ap (λ (q : GroundRule). q ∷ rules_along l heads (rest_of heads chain)) (sym rule_is)
    ∙ ap (λ (k : Chain). r ∷ rules_along l heads k) (sym rest_is))

pub rest-less : (heads : Heads) (chain others : Chain) → 0 < chain.count → others ≡ rest_of heads chain → others.count < chain.count
rest-less heads chain others some is =
    let e : others.count ≡ chain.count - 1 = ap (λ (k : Chain). k.count) is in
    omega (arith, e, some)

pub chain-inside : (l : Level) (heads : Heads) (chain : Chain) → IsChain l heads chain → 0 < chain.count → chain.link < length heads.links.items
chain-inside l heads chain is some = is.inside (λ e. absurd (omega arith))

pub chain-rest : (l : Level) (heads : Heads) (chain : Chain) → IsChain l heads chain → 0 < chain.count → IsChain l heads (rest_of heads chain)
chain-rest l heads chain is some = record {
  links = is.links;
  inside = λ more. is.links.next chain.link (chain-inside l heads chain is some);
}

-- the chain of an atom
pub atom-chain : (l : Level) (heads : Heads) (a : ℕ) → HasHeads l heads → a < length (game_at l).bases.atoms
    → IsChain l heads (get_or heads.chains.items a no_chain)
atom-chain l heads a has h = record { links = has.linked; inside = has.some a h }

pub atom-along : (l : Level) (heads : Heads) (a : ℕ) (chain : Chain) → HasHeads l heads → a < length (game_at l).bases.atoms
    → chain ≡ get_or heads.chains.items a no_chain → rules_along l heads chain ≡ supporters (rules_at l) a
atom-along l heads a chain has h is = ap (λ (k : Chain). rules_along l heads k) is ∙ has.along a h

-- ---- ways

few_ways : (s w x : ℕ) → x ≡ min 65 w → min 65 (s * x) ≡ min 65 (s * w)
few_ways zero w x e = omega arith
few_ways (suc t) w x e = elim (cases_lt 65 w) [
  | inl many ↦
      let same : x ≡ 65 = omega arith in
      let left : 65 ≤ suc t * 65 = omega arith in
      let right : 65 ≤ suc t * w = omega arith in
      let here : min 65 (suc t * 65) ≡ min 65 (suc t * w) = omega (arith, left, right) in
      ap (λ (y : ℕ). min 65 (suc t * y)) same ∙ here
  | inr few ↦
      let same : x ≡ w = omega arith in
      ap (λ (y : ℕ). min 65 (suc t * y)) same
]

pub ways-cons : (l : Level) (heads : Heads) (chain : Chain) (s w : ℕ) → 0 < chain.count → s ≡ body_size (first_of l heads chain)
    → w ≡ min 65 (ways (rules_along l heads (rest_of heads chain))) → min 65 (s * w) ≡ min 65 (ways (rules_along l heads chain))
ways-cons l heads chain s w some size others =
    few_ways s (ways (rules_along l heads (rest_of heads chain))) w others
    ∙ (ap (λ (n : ℕ). min 65 (n * ways (rules_along l heads (rest_of heads chain)))) size
    ∙ sym (ap (λ (rs : List GroundRule). min 65 (ways rs)) (along-cons l heads chain some)))

pub ways-none : (l : Level) (heads : Heads) (chain : Chain) → chain.count ≡ 0 → 1 ≡ min 65 (ways (rules_along l heads chain))
ways-none l heads chain e = sym (ap (λ (rs : List GroundRule). min 65 (ways rs)) (along-none l heads chain e))

-- ---- few rules

pub count-along : (l : Level) (heads : Heads) (chain : Chain) → length (rules_along l heads chain) ≡ chain.count
count-along l heads chain = walk-length (rules_at l) heads.links.items chain.count chain.link

pub few-one : (rules : List GroundRule) (n : ℕ) → length rules ≡ n → n ≤ 1 → AreFew rules
few-one rules n size few = inl (omega arith)

pub few-ways : (rules : List GroundRule) (n w : ℕ) → length rules ≡ n → w ≡ min 65 (ways rules) → n ≤ 7 → 0 < w → w ≤ 64 → AreFew rules
few-ways rules n w size is few some low = inr (omega arith, omega arith, omega arith)

pub many-rules : (rules : List GroundRule) (n : ℕ) → length rules ≡ n → 7 < n → AreFew rules → ⊥
many-rules rules n size many (inl few) = absurd (omega arith)
many-rules rules n size many (inr few) = let h = few.0 in absurd (omega (arith, h))

pub many-ways : (rules : List GroundRule) (n w : ℕ) → length rules ≡ n → w ≡ min 65 (ways rules) → 1 < n → ((0 < w) × (w ≤ 64) → ⊥) → AreFew rules → ⊥
many-ways rules n w size is more out (inl few) = absurd (omega arith)
many-ways rules n w size is more out (inr few) =
    let low = few.1 in
    let high = few.2 in
    out (omega (arith, is, low), omega (arith, is, high))
