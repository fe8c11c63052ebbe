-- Templates that are put together from parts.
use Rattle.std.proofs.Common.{ℕ, ◌≡◌, refl, sym, ◌∙◌, ap, Bool, true, false, List, [], ◌∷◌, ◌++◌, append-nil, append_assoc, map, length, replicate}
use Rattle.std.specs.List.{flat_map, fold}
use Rattle.std.proofs.lemmas.List.{length-map, map-append}
use Rattle.std.proofs.lemmas.List.Concat.{flat_map-append}
use Rattle.asp_defs.specs.declared.syntax.Term.{Term}
use Rattle.asp_defs.specs.declared.syntax.Atom.{Atom}
use Rattle.asp_defs.specs.declared.syntax.Literal.{Literal}
use Rattle.asp_defs.specs.declared.syntax.Literal.TheVariants.{Pos, Neg, Cmp}
use Rattle.asp_defs.specs.declared.syntax.Element.{Element}
use Rattle.asp_defs.specs.Instances.{Schema, pos_atoms, neg_atoms}
use Rattle.asp_atoms.specs.declared.vocabularies.Vocabulary.{Vocabulary}
use Rattle.asp_template.specs.declared.template.AtomTemplate.{AtomTemplate}
use Rattle.asp_template.specs.declared.template.Comparison.{Comparison}
use Rattle.asp_template.specs.declared.template.Template.{Template}
use Rattle.asp_safety.specs.declared.variable.Variable.{Variable}
use Rattle.asp_template.specs.Ranks.{capped}
use Rattle.asp_safety.specs.Variables.{term_of}
use Rattle.asp_template.specs.Variables.{disjunctive_variables, element_variables, found_disjunctive, found_element}
use Rattle.asp_template.specs.Templates.{instances_over}
use Rattle.asp_template.specs.Compiled.{atom_template, comparisons_of, compiled, with_literal, template_of, schema_instances}

-- ---- literals one by one

abbrev make : Bool → List AtomTemplate → List Comparison → List AtomTemplate → List AtomTemplate → Template
make choice heads comparisons pos neg =
    record { choice = choice; heads = heads; comparisons = comparisons; pos = pos; neg = neg }

same_parts : (choice : Bool) (heads : List AtomTemplate) (cs ds : List Comparison) (ps qs ns ms : List AtomTemplate) → cs ≡ ds → ps ≡ qs → ns ≡ ms → make choice heads cs ps ns ≡ make choice heads ds qs ms
same_parts choice heads cs ds ps qs ns ms e f g =
    ap (λ c. make choice heads c ps ns) e ∙ (ap (λ p. make choice heads ds p ns) f ∙ ap (λ n. make choice heads ds qs n) g)

one_more : {A B : Type 0} (f : A → List B) (done : List A) (x : A) → flat_map f done ++ f x ≡ flat_map f (done ++ x ∷ [])
one_more f done x =
    sym (flat_map-append f done (x ∷ []) ∙ ap (λ ys. flat_map f done ++ ys) (append-nil (f x)))

none_more : {A B : Type 0} (f : A → List B) (done : List A) (x : A) → f x ≡ [] → flat_map f done ≡ flat_map f (done ++ x ∷ [])
none_more f done x e =
    sym (append-nil (flat_map f done)) ∙ (ap (λ ys. flat_map f done ++ ys) (sym e) ∙ one_more f done x)

one_mapped : {A B C : Type 0} (g : B → C) (f : A → List B) (done : List A) (x : A) → map g (flat_map f done) ++ map g (f x) ≡ map g (flat_map f (done ++ x ∷ []))
one_mapped g f done x = sym (map-append g (flat_map f done) (f x)) ∙ ap (map g) (one_more f done x)

module _ (v : Vocabulary) (ts : List Term) (choice : Bool) (heads : List AtomTemplate) where
  literal_more : (done : List Literal) (l : Literal) → with_literal v ts (compiled v ts choice heads done) l ≡ compiled v ts choice heads (done ++ l ∷ [])
  literal_more done (Pos a) =
      same_parts choice heads _ _ _ _ _ _ (none_more (comparisons_of v.constants ts) done (Pos a) refl)
      (one_mapped (atom_template v ts) pos_atoms done (Pos a)) (ap (map (atom_template v ts)) (none_more neg_atoms done (Pos a) refl))
  literal_more done (Neg a) =
      same_parts choice heads _ _ _ _ _ _ (none_more (comparisons_of v.constants ts) done (Neg a) refl)
      (ap (map (atom_template v ts)) (none_more pos_atoms done (Neg a) refl)) (one_mapped (atom_template v ts) neg_atoms done (Neg a))
  literal_more done (Cmp x op y) =
      same_parts choice heads _ _ _ _ _ _ (one_more (comparisons_of v.constants ts) done (Cmp x op y))
      (ap (map (atom_template v ts)) (none_more pos_atoms done (Cmp x op y) refl)) (ap (map (atom_template v ts)) (none_more neg_atoms done (Cmp x op y) refl))

  pub literals_more : (done rest : List Literal) → fold (with_literal v ts) (compiled v ts choice heads done) rest ≡ compiled v ts choice heads (done ++ rest)
  literals_more done [] = ap (compiled v ts choice heads) (sym (append-nil done))
  literals_more done (l ∷ rest) =
      ap (λ t. fold (with_literal v ts) t rest) (literal_more done l)
      ∙ (literals_more (done ++ l ∷ []) rest ∙ ap (compiled v ts choice heads) (append_assoc done (l ∷ []) rest))

-- ---- instances over the templates

same_over : (v : Vocabulary) (ranks : List ℕ) (s : Schema) (size count : ℕ) (t : Template) → size ≡ capped (length v.constants) → t ≡ template_of v s → count ≡ length s.variables → instances_over size t (replicate count ranks) ≡ schema_instances v ranks s
same_over v ranks s size count t e f g =
    ap (λ n. instances_over n t (replicate count ranks)) e
    ∙ (ap (λ u. instances_over (capped (length v.constants)) u (replicate count ranks)) f
    ∙ ap (λ n. instances_over (capped (length v.constants)) (template_of v s) (replicate n ranks)) g)

counted : (variables : List Variable) (ts : List Term) → map term_of variables ≡ ts → length variables ≡ length ts
counted variables ts e = sym (length-map variables term_of) ∙ ap length e

pub disjunctive_over : (v : Vocabulary) (ranks : List ℕ) (atoms : List Atom) (body : List Literal) (variables : List Variable) (heads : List AtomTemplate) (size count : ℕ) (t : Template) → map term_of variables ≡ disjunctive_variables atoms body → heads ≡ map (atom_template v (map term_of variables)) atoms → t ≡ compiled v (map term_of variables) false heads (body ++ []) → size ≡ capped (length v.constants) → count ≡ length variables → instances_over size t (replicate count ranks) ≡ schema_instances v ranks (found_disjunctive atoms body)
disjunctive_over v ranks atoms body variables heads size count t found head is e f =
    same_over v ranks (found_disjunctive atoms body) size count t e
    (is
    ∙ (ap (λ hs. compiled v (map term_of variables) false hs (body ++ [])) head
    ∙ (ap (λ ls. compiled v (map term_of variables) false (map (atom_template v (map term_of variables)) atoms) ls) (append-nil body)
    ∙ ap (λ ts. compiled v ts false (map (atom_template v ts) atoms) body) found)))
    (f ∙ counted variables (disjunctive_variables atoms body) found)

pub element_over : (v : Vocabulary) (ranks : List ℕ) (e : Element) (body : List Literal) (variables : List Variable) (heads : List AtomTemplate) (size count : ℕ) (t : Template) → map term_of variables ≡ element_variables body e → heads ≡ atom_template v (map term_of variables) e.atom ∷ [] → t ≡ compiled v (map term_of variables) true heads (body ++ e.cond) → size ≡ capped (length v.constants) → count ≡ length variables → instances_over size t (replicate count ranks) ≡ schema_instances v ranks (found_element body e)
element_over v ranks e body variables heads size count t found head is s f =
    same_over v ranks (found_element body e) size count t s
    (is
    ∙ (ap (λ hs. compiled v (map term_of variables) true hs (body ++ e.cond)) head
    ∙ ap (λ ts. compiled v ts true (atom_template v ts e.atom ∷ []) (body ++ e.cond)) found))
    (f ∙ counted variables (element_variables body e) found)
