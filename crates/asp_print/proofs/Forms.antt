-- The texts of lists and rules that aren't empty.
use Rattle.std.proofs.Common.{rules, ◌≡◌, ◌∙◌, ap, sym, subst, ◌↔◌, refl, IsTrue, Bool, true, false, List, [], ◌∷◌, ◌++◌, ℕ, codes}
use Rattle.std.specs.List.{flat_map, join_by}
use Rattle.asp_defs.specs.declared.syntax.Literal.{Literal}
use Rattle.asp_defs.specs.declared.syntax.Head.{Head}
use Rattle.asp_defs.specs.declared.syntax.Head.TheVariants.{Disj, Choice}
use Rattle.asp_defs.specs.declared.syntax.Rule.{Rule}
use Rattle.asp_defs.specs.ConstraintPart.{is_no_head}
use Rattle.asp_defs.specs.Lines.{line}
use Rattle.asp_defs.specs.Canonical.{applied_text, behind_sign, literals_text, statement_text, headed_text, rule_line, constraint_part_text}

-- what a false test says
pub untrue : {A : Type 0} (b : Bool) (x y : A) → IsTrue b ↔ (x ≡ y) → b ≡ false → x ≡ y → ⊥
untrue b x y same fails is = let holds : IsTrue b = same.1 is in absurd (cc)

-- what a true test says
pub truly : {A : Type 0} (b : Bool) (x y : A) → IsTrue b ↔ (x ≡ y) → b ≡ true → x ≡ y
truly b x y same holds = let h : IsTrue b = search rules in same.0 h

pub applied_none : {A : Type 0} (text : A → List ℕ) (name : List ℕ) (xs : List A) → xs ≡ [] → name ≡ applied_text text name xs
applied_none text name xs none = subst (λ ys. name ≡ applied_text text name ys) (sym none) refl

pub applied_some : {A : Type 0} (text : A → List ℕ) (name : List ℕ) (xs : List A) → (xs ≡ [] → ⊥) → name ++ codes "(" ++ join_by text (codes ",") xs ++ codes ")" ≡ applied_text text name xs
applied_some text name [] some = absurd (some refl)
applied_some text name (x ∷ xs) some = refl

pub behind_some : (sign : List ℕ) (body : List Literal) → (body ≡ [] → ⊥) → sign ++ literals_text body ≡ behind_sign sign body
behind_some sign [] some = absurd (some refl)
behind_some sign (l ∷ body) some = refl

-- the statement of a constraint, and of a rule with a head
pub headless : (head : Head) (body : List Literal) (b : Bool) → b ≡ is_no_head head → b ≡ true → codes ":- " ++ literals_text body ≡ statement_text head body
headless (Disj []) body b same holds = refl
headless (Disj (a ∷ atoms)) body b same holds = let fails : b ≡ false = same in absurd (cc)
headless (Choice low elements high) body b same holds = let fails : b ≡ false = same in absurd (cc)

pub headed : (head : Head) (body : List Literal) → (head ≡ Disj [] → ⊥) → headed_text head body ≡ statement_text head body
headed (Disj []) body some = absurd (some refl)
headed (Disj (a ∷ atoms)) body some = refl
headed (Choice low elements high) body some = refl

-- what a false test for a constraint says
pub has_head : (head : Head) (b : Bool) → b ≡ is_no_head head → b ≡ false → head ≡ Disj [] → ⊥
has_head head b same fails none = let holds : b ≡ true = same ∙ ap is_no_head none in absurd (cc)

pub constraint_part_some : (rules : List Rule) → (rules ≡ [] → ⊥) → line (codes "%@constraint") ++ flat_map rule_line rules ≡ constraint_part_text rules
constraint_part_some [] some = absurd (some refl)
constraint_part_some (r ∷ rules) some = refl
