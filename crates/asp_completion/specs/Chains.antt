-- What contracts say of the chains of rules that head atoms.
use Rattle.std.specs.Prelude.{ℕ, zero, suc, ◌≡◌, ◌≢◌, ◌-◌, ◌+◌, ◌<◌, ◌≤◌, Bool, true, false, List, [], ◌∷◌, ◌++◌, length, get_or, slice_set}
use Rattle.asp_defs.specs.declared.ground.GroundRule.{GroundRule}
use Rattle.asp_defs.specs.Lists.{IsIn}
use Rattle.asp_completion.specs.declared.heads.Link.{Link}
use Rattle.asp_completion.specs.declared.heads.Chain.{Chain}
use Rattle.asp_completion.specs.declared.heads.Heads.{Heads}
use Rattle.asp_completion.specs.declared.level.Level.{Level}
use Rattle.asp_completion.specs.Levels.{game_at, rules_at}
use Rattle.asp_completion.specs.Supporters.{supporters}

abbrev pub link_to : ℕ → ℕ → Link
link_to rule next = record { rule = rule; next = next }

abbrev pub no_link : Link
no_link = link_to 0 0

abbrev pub chain_from : ℕ → ℕ → Chain
chain_from count link = record { count = count; link = link }

abbrev pub no_chain : Chain
no_chain = chain_from 0 0

abbrev pub no_rule : GroundRule
no_rule = record { choice = false; head = []; pos = []; neg = [] }

-- the rules along so many links
abbrev pub walk : List GroundRule → List Link → ℕ → ℕ → List GroundRule
walk rules links zero at = []
walk rules links (suc n) at = get_or rules (get_or links at no_link).rule no_rule ∷ walk rules links n (get_or links at no_link).next

-- each link has a rule, and each leads to a link
pub record AreLinks (rules : List GroundRule) (links : List Link) : Type 0 where
  pub rule : (k : ℕ) → k < length links → (get_or links k no_link).rule < length rules
  pub next : (k : ℕ) → k < length links → (get_or links k no_link).next < length links

-- for each atom a chain of the wanted rules
pub record AreHeads (rules : List GroundRule) (atoms : ℕ) (wanted : ℕ → List GroundRule) (chains : List Chain) (links : List Link) : Type 0 where
  pub size : length chains ≡ atoms
  pub linked : AreLinks rules links
  pub inside : (a : ℕ) → a < atoms → (get_or chains a no_chain).link ≤ length links
  pub some : (a : ℕ) → a < atoms → (get_or chains a no_chain).count ≢ 0 → (get_or chains a no_chain).link < length links
  pub counted : (a : ℕ) → a < atoms → (get_or chains a no_chain).count ≤ length links
  pub along : (a : ℕ) → a < atoms → walk rules links (get_or chains a no_chain).count (get_or chains a no_chain).link ≡ wanted a

abbrev pub Headed : Level → (ℕ → List GroundRule) → Heads → Type 0
Headed l wanted heads = AreHeads (rules_at l) (length (game_at l).bases.atoms) wanted heads.chains.items heads.links.items

-- for each atom of the game a chain of the level's rules that head it
abbrev pub HasHeads : Level → Heads → Type 0
HasHeads l heads = Headed l (supporters (rules_at l)) heads

-- a chain of rules of the level, its rules, its first rule and the chain without it
pub record IsChain (l : Level) (heads : Heads) (chain : Chain) : Type 0 where
  pub links : AreLinks (rules_at l) heads.links.items
  pub inside : chain.count ≢ 0 → chain.link < length heads.links.items

abbrev pub rules_along : Level → Heads → Chain → List GroundRule
rules_along l heads chain = walk (rules_at l) heads.links.items chain.count chain.link

abbrev pub first_of : Level → Heads → Chain → GroundRule
first_of l heads chain = get_or (rules_at l) (get_or heads.links.items chain.link no_link).rule no_rule

abbrev pub rest_of : Heads → Chain → Chain
rest_of heads chain = chain_from (chain.count - 1) (get_or heads.links.items chain.link no_link).next

-- a link with a rule was put before those of an atom's chain
pub record PushesLink (atom rule : ℕ) (old new : Heads) : Type 0 where
  pub links : new.links.items
      ≡ old.links.items ++ link_to rule (get_or old.chains.items atom no_chain).link ∷ []
  pub chains : new.chains.items
      ≡ slice_set old.chains.items atom (chain_from ((get_or old.chains.items atom no_chain).count + 1) (length old.links.items))

-- the table says of each atom whether a base has it
pub record AreLower (L : List ℕ) (atoms : ℕ) (table : List Bool) : Type 0 where
  pub size : length table ≡ atoms
  pub there : (a : ℕ) → IsIn a L → get_or table a false ≡ true
  pub rest : (a : ℕ) → a < atoms → (IsIn a L → ⊥) → get_or table a false ≡ false
