-- The steps of loops over atoms, literals and rules.
use Rattle.std.proofs.Common.{◌≡◌, ℕ, zero, suc, ◌+◌, ◌*◌, ◌<◌, true, false, List, [], ◌∷◌, ◌++◌, map, length, get_or, take, refl, sym, ap, ◌∙◌, subst, inl, inr, arith, append_assoc}
use Rattle.std.specs.List.{list_all}
use Rattle.std.proofs.lemmas.List.{take_more, map_more, map-append}
use Rattle.asp_defs.specs.declared.ground.Game.{Game}
use Rattle.asp_defs.specs.declared.ground.GroundRule.{GroundRule}
use Rattle.asp_defs.specs.declared.ground.Lit.{Lit}
use Rattle.asp_defs.specs.Lists.{IsIn}
use Rattle.asp_defs.specs.Interpretations.{holds}
use Rattle.asp_defs.specs.Games.{base, rules_of, rule_atoms, within}
use Rattle.asp_defs.specs.Truth.{satisfies, is_model}
use Rattle.asp_defs.proofs.AnswerSetLaws.{rule-satisfies_from}
use Rattle.std.proofs.lemmas.List.Folds.{list_all-append}
use Rattle.asp_search.specs.Meaning.{AddsClause}
use Rattle.asp_defs.proofs.Lists.{both, and_true, true_or_false, all_at, all_from, append_left, append_right}
use Rattle.asp_defs.proofs.Subsets.{true_is_not_false}
use Rattle.asp_search.specs.declared.stage.Stage.{Stage}
use Rattle.asp_search.specs.declared.stage.Stage.TheVariants.{New, Begun, Found, Extended, Spent, NoMemory}
use Rattle.asp_search.specs.Seen.{AreCodes}
use Rattle.asp_search.specs.State.{SearchState, Adds, AddsLoose, stage_after_add}
use Rattle.asp_completion.specs.Codes.{code, codes, literal, rule_literals}
use Rattle.asp_completion.specs.Codes.{is_met}
use Rattle.asp_completion.specs.Meanings.{Means, IsSoundClause, HasRule, AddsTo, AddsLooselyTo}
use Rattle.asp_completion.specs.Says.{SaysAlso, Extends}
use Rattle.asp_completion.proofs.Learning.{rule_literal-atom, rule-sound, satisfied_where_met, met_where_satisfied, means-none, means-rule, means-choice}
use Rattle.asp_completion.proofs.Saying.{says-none, says-then, says-as, says-clause}
use Rattle.asp_completion.proofs.Places.{codes-below}

-- ---- lists that are mapped as far as a loop has come

pub map-step : {A C : Type 0} (f : A → C) (old items : List C) (xs : List A) (i : ℕ) (d : A) → i < length xs
    → items ≡ old ++ map f (take i xs) → items ++ f (get_or xs i d) ∷ [] ≡ old ++ map f (take (i + 1) xs)
map-step {A} {C} f old items xs i d h e =
    let last : List C = f (get_or xs i d) ∷ [] in
    ap (λ (t : List C). t ++ last) e
    ∙ (append_assoc old (map f (take i xs)) last ∙ ap (λ (t : List C). old ++ t) (sym (map_more f xs i d h)))

pub map-twice : {A B C : Type 0} (f : B → C) (g : A → B) (xs : List A) → map f (map g xs) ≡ map (λ x. f (g x)) xs
map-twice f g [] = refl
map-twice {A} {B} {C} f g (x ∷ xs) = ap (λ (t : List C). f (g x) ∷ t) (map-twice f g xs)

-- the item at a place is a member
pub item-in : {A : Type 0} (xs : List A) (i : ℕ) (d : A) → i < length xs → IsIn (get_or xs i d) xs
item-in [] i d h = absurd (omega arith)
item-in (x ∷ xs) zero d h = inl refl
item-in (x ∷ xs) (suc i) d h = inr (item-in xs i d (omega arith))

-- ---- rules

-- the codes of a rule's literals, part by part
pub rule-codes : (B : List ℕ) (r : GroundRule)
    → (([] ++ map (λ a. code B (literal true a)) r.head) ++ map (λ a. code B (literal false a)) r.pos) ++ map (λ a. code B (literal true a)) r.neg
    ≡ codes B (rule_literals r)
rule-codes B r =
    let up : List ℕ → List ℕ = λ atoms. map (λ a. code B (literal true a)) atoms in
    let down : List ℕ → List ℕ = λ atoms. map (λ a. code B (literal false a)) atoms in
    let heads : List Lit = map (literal true) r.head in
    let poses : List Lit = map (literal false) r.pos in
    let negs : List Lit = map (literal true) r.neg in
    let one : codes B heads ≡ up r.head = map-twice (code B) (literal true) r.head in
    let two : codes B poses ≡ down r.pos = map-twice (code B) (literal false) r.pos in
    let three : codes B negs ≡ up r.neg = map-twice (code B) (literal true) r.neg in
    append_assoc (up r.head) (down r.pos) (up r.neg)
    ∙ (ap (λ (t : List ℕ). t ++ (down r.pos ++ up r.neg)) (sym one)
    ∙ (ap (λ (t : List ℕ). codes B heads ++ (t ++ up r.neg)) (sym two)
    ∙ (ap (λ (t : List ℕ). codes B heads ++ (codes B poses ++ t)) (sym three)
    ∙ (ap (λ (t : List ℕ). codes B heads ++ t) (sym (map-append (code B) poses negs))
    ∙ sym (map-append (code B) heads (poses ++ negs))))))

-- the parts of a rule lie where the rule lies
pub parts-within : (r : GroundRule) (B : List ℕ) → within (rule_atoms r) B ≡ true
    → (within r.head B ≡ true) × (within r.pos B ≡ true) × (within r.neg B ≡ true)
parts-within r B h = (
  all_from (holds B) r.head (λ a i. all_at (holds B) (rule_atoms r) a h (append_left r.head (r.pos ++ r.neg) a i)),
  all_from (holds B) r.pos (λ a i.
      all_at (holds B) (rule_atoms r) a h (append_right r.head (r.pos ++ r.neg) a (append_left r.pos r.neg a i))),
  all_from (holds B) r.neg (λ a i.
      all_at (holds B) (rule_atoms r) a h (append_right r.head (r.pos ++ r.neg) a (append_right r.pos r.neg a i))),
)

-- the codes of a rule's literals are the search's
pub rule-below : (B : List ℕ) (r : GroundRule) (n : ℕ) (xs : List ℕ) → n ≡ length B → within (rule_atoms r) B ≡ true
    → xs ≡ codes B (rule_literals r) → AreCodes (2 * n) xs
rule-below B r n xs size inside e =
    subst (λ (ys : List ℕ). AreCodes (2 * n) ys) (sym e)
    (subst (λ (m : ℕ). AreCodes (2 * m) (codes B (rule_literals r))) (sym size)
    (codes-below B (rule_literals r) (λ l h. all_at (holds B) (rule_atoms r) l.atom inside (rule_literal-atom r l h))))

-- the clause of a rule, written part by part
pub rule-written : (B : List ℕ) (r : GroundRule) (i0 i1 i2 i3 s1 s2 s3 : List ℕ) → i0 ≡ [] → s1 ≡ r.head → s2 ≡ r.pos → s3 ≡ r.neg
    → i1 ≡ i0 ++ map (λ a. code B (literal true a)) s1 → i2 ≡ i1 ++ map (λ a. code B (literal false a)) s2
    → i3 ≡ i2 ++ map (λ a. code B (literal true a)) s3 → i3 ≡ codes B (rule_literals r)
rule-written B r i0 i1 i2 i3 s1 s2 s3 none head pos neg one two three =
    let up : List ℕ → List ℕ = λ atoms. map (λ a. code B (literal true a)) atoms in
    let down : List ℕ → List ℕ = λ atoms. map (λ a. code B (literal false a)) atoms in
    let first : i1 ≡ [] ++ up r.head = one ∙ (ap (λ (t : List ℕ). t ++ up s1) none ∙ ap (λ (t : List ℕ). [] ++ up t) head) in
    let second : i2 ≡ ([] ++ up r.head) ++ down r.pos =
    two ∙ (ap (λ (t : List ℕ). t ++ down s2) first ∙ ap (λ (t : List ℕ). ([] ++ up r.head) ++ down t) pos) in
    three ∙ (ap (λ (t : List ℕ). t ++ up s3) second
    ∙ (ap (λ (t : List ℕ). (([] ++ up r.head) ++ down r.pos) ++ up t) neg ∙ rule-codes B r))

-- ---- added clauses

begun_after_add : (s : Stage) → (s ≡ New → ⊥) → stage_after_add s ≡ New → ⊥
begun_after_add New h e = h refl
begun_after_add Begun h e = cc
begun_after_add Found h e = cc
begun_after_add Extended h e = cc
begun_after_add Spent h e = cc
begun_after_add NoMemory h e = cc

pub adds-to : (old new : SearchState) (clause : List ℕ) → Adds old new clause → AddsTo old new clause
adds-to old new clause adds = record {
  clauses = adds.clauses;
  firm = adds.firm;
  atoms = ap (λ (s : SearchState). s.atoms) adds.rest;
  budget = ap (λ (s : SearchState). s.budget) adds.rest;
  assumed = ap (λ (s : SearchState). s.assumed) adds.rest;
  count = ap (λ (s : SearchState). s.count) adds.rest;
  trail = ap (λ (s : SearchState). s.trail) adds.rest;
  ordered = ap (λ (s : SearchState). s.ordered) adds.rest;
  begun = λ h e. begun_after_add old.stage h (sym (ap (λ (s : SearchState). s.stage) adds.rest) ∙ e);
}

pub adds_to_as : (old new : SearchState) (clause xs : List ℕ) → xs ≡ clause → Adds old new xs → AddsTo old new clause
adds_to_as old new clause xs e adds =
    subst (λ (ys : List ℕ). AddsTo old new ys) e (adds-to old new xs adds)

pub loosely-to : (old new : SearchState) (clause : List ℕ) → AddsLoose old new clause → AddsLooselyTo old new clause
loosely-to old new clause adds = record {
  clauses = adds.clauses;
  firm = ap (λ (s : SearchState). s.firm) adds.rest;
  atoms = ap (λ (s : SearchState). s.atoms) adds.rest;
  budget = ap (λ (s : SearchState). s.budget) adds.rest;
  assumed = ap (λ (s : SearchState). s.assumed) adds.rest;
  count = ap (λ (s : SearchState). s.count) adds.rest;
  trail = ap (λ (s : SearchState). s.trail) adds.rest;
  ordered = ap (λ (s : SearchState). s.ordered) adds.rest;
  begun = λ h e. begun_after_add old.stage h (sym (ap (λ (s : SearchState). s.stage) adds.rest) ∙ e);
}

pub loosely_to_as : (old new : SearchState) (clause xs : List ℕ) → xs ≡ clause → AddsLoose old new xs → AddsLooselyTo old new clause
loosely_to_as old new clause xs e adds =
    subst (λ (ys : List ℕ). AddsLooselyTo old new ys) e (loosely-to old new xs adds)

-- the clause of a rule that is no choice was added
pub rule-added : (B : List ℕ) (r : GroundRule) (old new : SearchState) (xs : List ℕ) → xs ≡ codes B (rule_literals r)
    → r.choice ≡ false → Adds old new xs → HasRule B r old new
rule-added B r old new xs e plain adds = record {
  choice = λ choice. absurd (true_is_not_false r.choice choice plain);
  plain = λ _. subst (λ (ys : List ℕ). Adds old new ys) e adds;
}

pub rule-skipped : (B : List ℕ) (r : GroundRule) (search : SearchState) → r.choice ≡ true → HasRule B r search search
rule-skipped B r search choice = record {
  choice = λ _. refl;
  plain = λ plain. absurd (true_is_not_false r.choice choice plain);
}

-- one rule more is satisfied
rules-join : (N : List ℕ) (rules : List GroundRule) (r : GroundRule) → is_model N rules ≡ true → satisfies N r ≡ true → is_model N (rules ++ r ∷ []) ≡ true
rules-join N rules r one two = list_all-append (satisfies N) rules (r ∷ []) ∙ and_true (is_model N rules) (is_model N (r ∷ [])) one (and_true (satisfies N r) true two refl)

rules-parts : (N : List ℕ) (rules : List GroundRule) (r : GroundRule) → is_model N (rules ++ r ∷ []) ≡ true → (is_model N rules ≡ true) × (satisfies N r ≡ true)
rules-parts N rules r all =
    let parts = both (is_model N rules) (is_model N (r ∷ [])) (sym (list_all-append (satisfies N) rules (r ∷ [])) ∙ all) in
    (parts.0, (both (satisfies N r) true parts.1).0)

-- a choice is satisfied always
says-choice : (B : List ℕ) (rules : List GroundRule) (r : GroundRule) (old new : List (List ℕ)) → r.choice ≡ true
    → SaysAlso B (λ N. is_model N rules ≡ true) old new → SaysAlso B (λ N. is_model N (rules ++ r ∷ []) ≡ true) old new
says-choice B rules r old new choice =
    says-as B (λ N. is_model N rules ≡ true) (λ N. is_model N (rules ++ r ∷ []) ≡ true) old new
    (λ N one. rules-join N rules r one (rule-satisfies_from N r (λ plain. absurd (true_is_not_false r.choice choice plain))))
    (λ N all. (rules-parts N rules r all).0)

-- the literals of another rule say that it is satisfied
says-rule : (B : List ℕ) (rules : List GroundRule) (r : GroundRule) (old mid new : List (List ℕ)) → r.choice ≡ false
    → ((l : Lit) → IsIn l (rule_literals r) → holds B l.atom ≡ true) → SaysAlso B (λ N. is_model N rules ≡ true) old mid
    → AddsClause mid new (codes B (rule_literals r)) → SaysAlso B (λ N. is_model N (rules ++ r ∷ []) ≡ true) old new
says-rule B rules r old mid new plain inside before adds =
    says-then B (λ N. is_model N rules ≡ true) (λ N. is_met N (rule_literals r) ≡ true) (λ N. is_model N (rules ++ r ∷ []) ≡ true) old mid new
    (λ N one met. rules-join N rules r one (satisfied_where_met N r met))
    (λ N all. ((rules-parts N rules r all).0, met_where_satisfied N r plain ((rules-parts N rules r all).1)))
    before (says-clause B (rule_literals r) mid new inside adds)

-- a search whose clauses say that these rules are satisfied, and nothing else beside what the old ones say
abbrev pub HasRulesSoFar : Game → ℕ → List GroundRule → SearchState → SearchState → Type 0
HasRulesSoFar g i rules old new = Extends g i rules (λ N. is_model N rules ≡ true) old new

-- the search has the clauses of one more rule
pub filled-step : (g : Game) (i : ℕ) (rules : List GroundRule) (k : ℕ) (r : GroundRule) (old mid new : SearchState)
    → rules ≡ rules_of g i → list_all (λ q. within (rule_atoms q) (base g i)) (rules_of g i) ≡ true → k < length rules
    → r ≡ get_or rules k r → HasRulesSoFar g i (take k rules) old mid → HasRule (base g i) r mid new
    → HasRulesSoFar g i (take (k + 1) rules) old new
filled-step g i rules k r old mid new same inside h is filled has =
    let member : IsIn r (rules_of g i) =
    subst (λ (rs : List GroundRule). IsIn r rs) same (subst (λ (q : GroundRule). IsIn q rules) (sym is) (item-in rules k r h)) in
    let more : take (k + 1) rules ≡ take k rules ++ r ∷ [] =
    take_more rules k r h ∙ ap (λ (q : GroundRule). take k rules ++ q ∷ []) (sym is) in
    subst (λ (rs : List GroundRule). HasRulesSoFar g i rs old new) (sym more)
    (elim (true_or_false r.choice) [
      | inl choice ↦
          subst (λ (s : SearchState). HasRulesSoFar g i (take k rules ++ r ∷ []) old s) (sym (has.choice choice))
          (record {
            atoms = filled.atoms;
            budget = filled.budget;
            means = means-choice g i (take k rules) [] mid.clauses r filled.means choice;
            firm = means-choice g i (take k rules) [] mid.firm r filled.firm choice;
            says = says-choice (base g i) (take k rules) r old.clauses mid.clauses choice filled.says;
            says_firm = says-choice (base g i) (take k rules) r old.firm mid.firm choice filled.says_firm;
          })
      | inr plain ↦
          let adds = has.plain plain in
          let sound : IsSoundClause g i [] (rule_literals r) =
          rule-sound g i [] r member plain (all_at (λ q. within (rule_atoms q) (base g i)) (rules_of g i) r inside member) in
          record {
            atoms = ap (λ (s : SearchState). s.atoms) adds.rest ∙ filled.atoms;
            budget = ap (λ (s : SearchState). s.budget) adds.rest ∙ filled.budget;
            means = means-rule g i (take k rules) [] mid.clauses new.clauses r filled.means sound adds.clauses;
            firm = means-rule g i (take k rules) [] mid.firm new.firm r filled.firm sound adds.firm;
            says = says-rule (base g i) (take k rules) r old.clauses mid.clauses new.clauses plain sound.atoms filled.says adds.clauses;
            says_firm = says-rule (base g i) (take k rules) r old.firm mid.firm new.firm plain sound.atoms filled.says_firm adds.firm;
          }
    ])

-- a search without clauses has those of no rule
pub filled-none : (g : Game) (i : ℕ) (search : SearchState) → search.clauses ≡ [] → search.firm ≡ []
    → HasRulesSoFar g i [] search search
filled-none g i search none no_firm = record {
  atoms = refl;
  budget = refl;
  means = subst (λ (cs : List (List ℕ)). Means g i [] [] cs) (sym none) (means-none g i);
  firm = subst (λ (cs : List (List ℕ)). Means g i [] [] cs) (sym no_firm) (means-none g i);
  says = says-none (base g i) (λ N. is_model N [] ≡ true) search.clauses (λ N. refl);
  says_firm = says-none (base g i) (λ N. is_model N [] ≡ true) search.firm (λ N. refl);
}
