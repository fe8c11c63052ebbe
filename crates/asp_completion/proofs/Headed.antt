-- The chains of a level, and what clauses say that complete its rules.
use Rattle.std.proofs.Common.{◌≡◌, ℕ, ◌+◌, ◌<◌, true, List, [], ◌++◌, length, get_or, take, refl, sym, ◌∙◌, subst, inl, inr}
use Rattle.asp_defs.specs.declared.ground.GroundRule.{GroundRule}
use Rattle.asp_defs.specs.declared.ground.Lit.{Lit}
use Rattle.asp_defs.specs.Lists.{IsIn}
use Rattle.asp_defs.specs.Interpretations.{holds}
use Rattle.asp_defs.specs.Games.{rule_atoms, within}
use Rattle.asp_defs.specs.Truth.{is_model}
use Rattle.asp_defs.proofs.Lists.{all_at, append_left}
use Rattle.asp_defs.proofs.Subsets.{holds_at, holds_from}
use Rattle.asp_search.specs.State.{SearchState}
use Rattle.asp_completion.specs.declared.level.Level.{Level}
use Rattle.asp_completion.specs.Codes.{codes, is_met}
use Rattle.asp_completion.specs.Levels.{game_at, upper, lower, rules_at, IsLevel}
use Rattle.asp_completion.specs.Meanings.{IsSoundClause, IsFilled, AddsTo}
use Rattle.asp_completion.specs.Says.{Extends}
use Rattle.asp_completion.specs.Completions.{IsCompleted, HasRules, Completes, IsSupported, AreSupported}
use Rattle.asp_completion.proofs.Saying.{in_more, in_before, in_last, says-none, says-then, says-as, says-clause}
use Rattle.asp_completion.proofs.Learning.{means-add}
use Rattle.asp_completion.proofs.LevelFacts.{below, rules-in}
use Rattle.asp_completion.proofs.Loops.{item-in}

-- ---- what loops read

-- the item at a place of a list that is another
item-as : (xs ys : List ℕ) (k : ℕ) → xs ≡ ys → k < length xs → IsIn (get_or xs k 0) ys
item-as xs ys k same h = subst (λ (zs : List ℕ). IsIn (get_or xs k 0) zs) same (item-in xs k 0 h)

module _ (l : Level) (ready : IsLevel l) where
  pub rule-within : (r : GroundRule) → IsIn r (rules_at l) → within (rule_atoms r) (upper l) ≡ true
  rule-within r member = all_at (λ q. within (rule_atoms q) (upper l)) (rules_at l) r (rules-in l ready) member

  head-inside : (r : GroundRule) (a : ℕ) → IsIn r (rules_at l) → IsIn a r.head → holds (upper l) a ≡ true
  head-inside r a member head =
      all_at (holds (upper l)) (rule_atoms r) a (rule-within r member) (append_left r.head (r.pos ++ r.neg) a head)

  pub head-below : (r : GroundRule) (a : ℕ) → IsIn r (rules_at l) → IsIn a r.head → a < length (game_at l).bases.atoms
  head-below r a member head = below l ready a (head-inside r a member head)

  pub head-read : (r : GroundRule) (heads : List ℕ) (k : ℕ) → IsIn r (rules_at l) → heads ≡ r.head → k < length heads
      → get_or heads k 0 < length (game_at l).bases.atoms
  head-read r heads k member same h = head-below r (get_or heads k 0) member (item-as heads r.head k same h)

pub completes-self : (l : Level) (P : List ℕ → Type 0) (search : SearchState) → HasRules l search → ((N : List ℕ) → P N) → Completes l P search search
completes-self l P search has all = record {
  atoms = refl;
  budget = refl;
  means = has.means;
  firm = has.firm;
  says = says-none (upper l) P search.clauses all;
  says_firm = says-none (upper l) P search.firm all;
}

pub completes-both : (l : Level) (P Q R : List ℕ → Type 0) (old mid new : SearchState) → ((N : List ℕ) → P N → Q N → R N)
    → ((N : List ℕ) → R N → P N × Q N) → Completes l P old mid → Completes l Q mid new → Completes l R old new
completes-both l P Q R old mid new join parts one two = record {
  atoms = two.atoms ∙ one.atoms;
  budget = two.budget ∙ one.budget;
  means = two.means;
  firm = two.firm;
  says = says-then (upper l) P Q R old.clauses mid.clauses new.clauses join parts one.says two.says;
  says_firm = says-then (upper l) P Q R old.firm mid.firm new.firm join parts one.says_firm two.says_firm;
}

pub completes-as : (l : Level) (P Q : List ℕ → Type 0) (old new : SearchState) → ((N : List ℕ) → P N → Q N) → ((N : List ℕ) → Q N → P N)
    → Completes l P old new → Completes l Q old new
completes-as l P Q old new there back one = record {
  atoms = one.atoms;
  budget = one.budget;
  means = one.means;
  firm = one.firm;
  says = says-as (upper l) P Q old.clauses new.clauses there back one.says;
  says_firm = says-as (upper l) P Q old.firm new.firm there back one.says_firm;
}

-- a search that was extended has the clauses of the rules still
pub has-rules : (l : Level) (P : List ℕ → Type 0) (old new : SearchState) → HasRules l old → Completes l P old new → HasRules l new
has-rules l P old new has one = record { atoms = one.atoms ∙ has.atoms; means = one.means; firm = one.firm }

-- what stays of the exact meaning of the rules' clauses and those of the completion
pub completes-then : (l : Level) (old mid new : SearchState)
    → Extends (game_at l) l.number (rules_at l) (λ N. is_model N (rules_at l) ≡ true) old mid
    → Completes l (IsCompleted (lower l) (upper l) (rules_at l)) mid new → IsFilled (game_at l) l.number (rules_at l) old new
completes-then l old mid new one two = record {
  atoms = two.atoms ∙ one.atoms;
  budget = two.budget ∙ one.budget;
  means = two.means;
  firm = two.firm;
}

-- further clauses leave a search filled
pub filled-then : (l : Level) (P : List ℕ → Type 0) (old mid new : SearchState) → IsFilled (game_at l) l.number (rules_at l) old mid
    → Completes l P mid new → IsFilled (game_at l) l.number (rules_at l) old new
filled-then l P old mid new one two = record {
  atoms = two.atoms ∙ one.atoms;
  budget = two.budget ∙ one.budget;
  means = two.means;
  firm = two.firm;
}

-- a clause of literals was added
pub completes-clause : (l : Level) (P : List ℕ → Type 0) (old new : SearchState) (lits : List Lit) → HasRules l old
    → IsSoundClause (game_at l) l.number [] lits → ((N : List ℕ) → is_met N lits ≡ true → P N) → ((N : List ℕ) → P N → is_met N lits ≡ true)
    → AddsTo old new (codes (upper l) lits) → Completes l P old new
completes-clause l P old new lits has sound there back adds = record {
  atoms = adds.atoms;
  budget = adds.budget;
  means = means-add (game_at l) l.number (rules_at l) [] old.clauses new.clauses lits has.means sound adds.clauses;
  firm = means-add (game_at l) l.number (rules_at l) [] old.firm new.firm lits has.firm sound adds.firm;
  says = says-as (upper l) (λ N. is_met N lits ≡ true) P old.clauses new.clauses there back
      (says-clause (upper l) lits old.clauses new.clauses sound.atoms adds.clauses);
  says_firm = says-as (upper l) (λ N. is_met N lits ≡ true) P old.firm new.firm there back
      (says-clause (upper l) lits old.firm new.firm sound.atoms adds.firm);
}

-- one atom more
module _ (l : Level) (base : List ℕ) (k : ℕ) (h : k < length base) (N : List ℕ) where
  pub supported-forth : AreSupported l (take k base) N → IsSupported l (get_or base k 0) N → AreSupported l (take (k + 1) base) N
  supported-forth before here a i = elim (in_more base k 0 a h i) [
    | inl low ↦ before a low
    | inr e ↦ subst (λ (b : ℕ). IsSupported l b N) (sym e) here
  ]

  pub supported-back : AreSupported l (take (k + 1) base) N → AreSupported l (take k base) N × IsSupported l (get_or base k 0) N
  supported-back all = (λ a i. all a (in_before base k 0 a h i), all (get_or base k 0) (in_last base k 0 h))

-- all atoms
pub completed-from : (l : Level) (N : List ℕ) → AreSupported l (upper l) N → IsCompleted (lower l) (upper l) (rules_at l) N
completed-from l N all = record { supported = λ a inside. all a (holds_at (upper l) a inside) }

pub completed-at : (l : Level) (N : List ℕ) → IsCompleted (lower l) (upper l) (rules_at l) N → AreSupported l (upper l) N
completed-at l N done a i = done.supported a (holds_from (upper l) a i)
