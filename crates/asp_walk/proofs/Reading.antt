-- The variables, constants, atoms and predicates of a rule by what is written in it.
use Rattle.std.proofs.Common.{◌≡◌, refl, ◌∙◌, ap, List, [], ◌∷◌, ◌++◌, map, append-nil}
use Rattle.std.specs.List.{flat_map}
use Rattle.std.proofs.lemmas.List.{map-append, map-id}
use Rattle.std.proofs.lemmas.List.Concat.{flat_map-append, flat_map_single}
use Rattle.std.proofs.lemmas.List.Folds.{flat_map-map}
use Rattle.asp_defs.specs.declared.syntax.Term.{Term}
use Rattle.asp_defs.specs.declared.syntax.Atom.{Atom}
use Rattle.asp_defs.specs.declared.syntax.Literal.{Literal}
use Rattle.asp_defs.specs.declared.syntax.Literal.TheVariants.{Pos, Neg, Cmp}
use Rattle.asp_defs.specs.declared.syntax.Head.{Head}
use Rattle.asp_defs.specs.declared.syntax.Head.TheVariants.{Disj, Choice}
use Rattle.asp_defs.specs.declared.syntax.Rule.{Rule}
use Rattle.asp_defs.specs.Constants.{term_constants, literal_constants, element_constants, head_constants, rule_constants}
use Rattle.asp_defs.specs.Bases.{atom_predicate, literal_predicates, element_predicates, head_predicates, rule_predicates}
use Rattle.asp_defs.specs.Instances.{term_variables, atom_variables, literal_variables}
use Rattle.asp_defs.specs.Safety.{element_variables, head_variables, rule_variables}
use Rattle.asp_defs.specs.Limits.{literal_atoms, element_atoms, head_atoms, rule_atoms}
use Rattle.asp_walk.specs.Written.{atoms_written, element_written, head_written, rule_written, literal_terms, rule_terms}
use Rattle.asp_walk.proofs.Lists.{nested, nested_map}

-- a head and a body
both : {A : Type 0} (f : Literal → List A) (head body : List Literal) (us : List A) → flat_map f head ≡ us → flat_map f (head ++ body) ≡ us ++ flat_map f body
both f head body us e = flat_map-append f head body ∙ ap (λ vs. vs ++ flat_map f body) e

-- ---- variables

literal_by_terms : (l : Literal) → flat_map term_variables (literal_terms l) ≡ literal_variables l
literal_by_terms (Pos a) = refl
literal_by_terms (Neg a) = refl
literal_by_terms (Cmp x op y) = ap (λ vs. term_variables x ++ vs) (append-nil (term_variables y))

pub literals_variables_are : (ls : List Literal) → flat_map term_variables (flat_map literal_terms ls) ≡ flat_map literal_variables ls
literals_variables_are = nested term_variables literal_terms literal_variables literal_by_terms

head_variables_are : (h : Head) → flat_map literal_variables (head_written h) ≡ head_variables h
head_variables_are (Disj atoms) = flat_map-map literal_variables Pos atoms
head_variables_are (Choice low elements high) = nested literal_variables element_written element_variables (λ e. refl) elements

pub rule_variables_are : (r : Rule) → flat_map term_variables (rule_terms r) ≡ rule_variables r
rule_variables_are r =
    literals_variables_are (rule_written r)
    ∙ both literal_variables (head_written r.head) r.body (head_variables r.head) (head_variables_are r.head)

pub atoms_variables_are : (atoms : List Atom) → flat_map term_variables (flat_map literal_terms (map Pos atoms ++ [])) ≡ flat_map atom_variables atoms
atoms_variables_are atoms =
    literals_variables_are (map Pos atoms ++ []) ∙ (ap (flat_map literal_variables) (append-nil (map Pos atoms)) ∙ flat_map-map literal_variables Pos atoms)

pub element_variables_are : (a : Atom) (cond : List Literal) → flat_map term_variables (a.args ++ flat_map literal_terms cond) ≡ atom_variables a ++ flat_map literal_variables cond
element_variables_are a cond =
    flat_map-append term_variables a.args (flat_map literal_terms cond) ∙ ap (λ vs. atom_variables a ++ vs) (literals_variables_are cond)

-- ---- constants

literal_constants_are : (l : Literal) → flat_map term_constants (literal_terms l) ≡ literal_constants l
literal_constants_are (Pos a) = refl
literal_constants_are (Neg a) = refl
literal_constants_are (Cmp x op y) = ap (λ cs. term_constants x ++ cs) (append-nil (term_constants y))

head_constants_are : (h : Head) → flat_map literal_constants (head_written h) ≡ head_constants h
head_constants_are (Disj atoms) = flat_map-map literal_constants Pos atoms
head_constants_are (Choice low elements high) = nested literal_constants element_written element_constants (λ e. refl) elements

pub rule_constants_are : (r : Rule) → flat_map term_constants (rule_terms r) ≡ rule_constants r
rule_constants_are r =
    nested term_constants literal_terms literal_constants literal_constants_are (rule_written r)
    ∙ both literal_constants (head_written r.head) r.body (head_constants r.head) (head_constants_are r.head)

-- ---- atoms and predicates

head_atoms_are : (h : Head) → flat_map literal_atoms (head_written h) ≡ head_atoms h
head_atoms_are (Disj atoms) = flat_map-map literal_atoms Pos atoms ∙ (flat_map_single (λ a. a) atoms ∙ map-id atoms)
head_atoms_are (Choice low elements high) = nested literal_atoms element_written element_atoms (λ e. refl) elements

pub rule_atoms_are : (r : Rule) → flat_map literal_atoms (rule_written r) ≡ rule_atoms r
rule_atoms_are r = both literal_atoms (head_written r.head) r.body (head_atoms r.head) (head_atoms_are r.head)

literal_predicates_are : (l : Literal) → map atom_predicate (literal_atoms l) ≡ literal_predicates l
literal_predicates_are (Pos a) = refl
literal_predicates_are (Neg a) = refl
literal_predicates_are (Cmp x op y) = refl

literals_predicates_are : (ls : List Literal) → map atom_predicate (flat_map literal_atoms ls) ≡ flat_map literal_predicates ls
literals_predicates_are = nested_map atom_predicate literal_atoms literal_predicates literal_predicates_are

head_predicates_are : (h : Head) → map atom_predicate (head_atoms h) ≡ head_predicates h
head_predicates_are (Disj atoms) = refl
head_predicates_are (Choice low elements high) =
    nested_map atom_predicate element_atoms element_predicates (λ e. ap (λ ps. atom_predicate e.atom ∷ ps) (literals_predicates_are e.cond)) elements

pub rule_predicates_are : (r : Rule) → map atom_predicate (rule_atoms r) ≡ rule_predicates r
rule_predicates_are r =
    map-append atom_predicate (head_atoms r.head) (flat_map literal_atoms r.body)
    ∙ (ap (λ ps. ps ++ map atom_predicate (flat_map literal_atoms r.body)) (head_predicates_are r.head)
    ∙ ap (λ ps. head_predicates r.head ++ ps) (literals_predicates_are r.body))

-- ---- rules

pub rules_constants_are : (rs : List Rule) → flat_map term_constants (flat_map rule_terms rs) ≡ flat_map rule_constants rs
rules_constants_are = nested term_constants rule_terms rule_constants rule_constants_are

pub rules_predicates_are : (rs : List Rule) → map atom_predicate (flat_map rule_atoms rs) ≡ flat_map rule_predicates rs
rules_predicates_are = nested_map atom_predicate rule_atoms rule_predicates rule_predicates_are

-- the terms of the atoms of a disjunction are their arguments
pub atoms_terms_are : (atoms : List Atom) → flat_map literal_terms (atoms_written atoms ++ []) ≡ flat_map (λ a. a.args) atoms
atoms_terms_are [] = refl
atoms_terms_are (a ∷ atoms) = ap (λ (ts : List Term). a.args ++ ts) (atoms_terms_are atoms)
