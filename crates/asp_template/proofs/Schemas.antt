-- The instances of a schema are those of its template.
use Rattle.std.proofs.Common.{ℕ, ◌≡◌, ◌<◌, refl, sym, ◌∙◌, ap, subst, inl, inr, Bool, ◌&&◌, List, [], ◌∷◌, map, length, replicate}
use Rattle.std.specs.Prelude.{if◌then◌else◌}
use Rattle.std.specs.List.{flat_map, list_all}
use Rattle.std.specs.Ordering.{nat_cmp}
use Rattle.std.proofs.lemmas.List.{length-replicate}
use Rattle.asp_defs.specs.declared.ground.Const.{Const}
use Rattle.asp_defs.specs.declared.ground.GroundAtom.{GroundAtom}
use Rattle.asp_defs.specs.declared.ground.GroundRule.{GroundRule}
use Rattle.asp_defs.specs.declared.syntax.Op.{Op}
use Rattle.asp_defs.specs.declared.syntax.Term.{Term}
use Rattle.asp_defs.specs.declared.syntax.Atom.{Atom}
use Rattle.asp_defs.specs.declared.syntax.Literal.{Literal}
use Rattle.asp_defs.specs.declared.syntax.Literal.TheVariants.{Pos, Neg, Cmp}
use Rattle.asp_defs.specs.Lists.{IsIn}
use Rattle.asp_defs.specs.Constants.{const_cmp}
use Rattle.asp_defs.specs.Bases.{product, atom_number}
use Rattle.asp_defs.specs.Instances.{Schema, term_value, atom_instance, op_holds, comparison_true, pos_atoms, neg_atoms, instance, assignments}
use Rattle.asp_walk.proofs.Lists.{flat_at}
use Rattle.asp_atoms.specs.declared.vocabularies.Vocabulary.{Vocabulary}
use Rattle.asp_template.specs.Ranks.{capped}
use Rattle.asp_template.specs.Templates.{slot_rank, number_at, is_true, instance_at}
use Rattle.asp_template.specs.Compiled.{slot_of, atom_template, comparisons_of, template_of, schema_instances}
use Rattle.asp_atoms.proofs.Choosing.{flat_map_agrees}
use Rattle.asp_atoms.proofs.Numbering.{map_agrees, map_map}
use Rattle.asp_template.proofs.Products.{flat_map_map, product_map, replicate_map, in_replicate, tuple_length, tuple_member}
use Rattle.asp_template.proofs.Known.{Numbers, KnownTerm, KnownAtom, KnownLiteral, KnownSchema}
use Rattle.asp_template.proofs.Numbers.{const_at, valued, compared, atom_is}

-- ranks that the variables of a schema may have
pub record Fits (v : Vocabulary) (variables : List Term) (ranks : List ℕ) : Type 0 where
  pub same : length ranks ≡ length variables
  pub below : (rank : ℕ) → IsIn rank ranks → rank < length v.constants

-- ---- comparisons

comparison_is : (atoms : List GroundAtom) (v : Vocabulary) (variables : List Term) (ranks : List ℕ) (x y : Term) (op : Op) → Numbers atoms v → Fits v variables ranks → KnownTerm v variables x → KnownTerm v variables y → op_holds op (const_cmp (term_value variables (map (const_at v.constants) ranks) x) (term_value variables (map (const_at v.constants) ranks) y)) ≡ op_holds op (nat_cmp (slot_rank ranks (slot_of v.constants variables x)) (slot_rank ranks (slot_of v.constants variables y)))
comparison_is atoms v variables ranks x y op n fits left right =
    let first = valued v variables ranks x n.ordered.constants n.few fits.same fits.below left in
    let second = valued v variables ranks y n.ordered.constants n.few fits.same fits.below right in
    ap (λ (c : Const). op_holds op (const_cmp c (term_value variables (map (const_at v.constants) ranks) y))) first.value
    ∙ (ap (λ (c : Const). op_holds op (const_cmp (const_at v.constants (slot_rank ranks (slot_of v.constants variables x))) c)) second.value
    ∙ compared v op (slot_rank ranks (slot_of v.constants variables x)) (slot_rank ranks (slot_of v.constants variables y)) n.ordered.constants first.inside second.inside)

pub comparisons_are : (atoms : List GroundAtom) (v : Vocabulary) (variables : List Term) (ranks : List ℕ) (body : List Literal) → Numbers atoms v → Fits v variables ranks → ((l : Literal) → IsIn l body → KnownLiteral v variables l) → list_all (comparison_true variables (map (const_at v.constants) ranks)) body ≡ list_all (is_true ranks) (flat_map (comparisons_of v.constants variables) body)
comparisons_are atoms v variables ranks [] n fits known = refl
comparisons_are atoms v variables ranks (Pos a ∷ body) n fits known =
    comparisons_are atoms v variables ranks body n fits (λ l i. known l (inr i))
comparisons_are atoms v variables ranks (Neg a ∷ body) n fits known =
    comparisons_are atoms v variables ranks body n fits (λ l i. known l (inr i))
comparisons_are atoms v variables ranks (Cmp x op y ∷ body) n fits known =
    let sides = known (Cmp x op y) (inl refl) in
    ap (λ b. b && list_all (comparison_true variables (map (const_at v.constants) ranks)) body) (comparison_is atoms v variables ranks x y op n fits sides.0 sides.1)
    ∙ ap (λ b. op_holds op (nat_cmp (slot_rank ranks (slot_of v.constants variables x)) (slot_rank ranks (slot_of v.constants variables y))) && b) (comparisons_are atoms v variables ranks body n fits (λ l i. known l (inr i)))

-- ---- atoms

pub atoms_are : (atoms : List GroundAtom) (v : Vocabulary) (variables : List Term) (ranks : List ℕ) (written : List Atom) → Numbers atoms v → Fits v variables ranks → ((a : Atom) → IsIn a written → KnownAtom v variables a) → map (λ (a : Atom). atom_number atoms (atom_instance variables (map (const_at v.constants) ranks) a)) written ≡ map (number_at (capped (length v.constants)) ranks) (map (atom_template v variables) written)
atoms_are atoms v variables ranks written n fits known =
    map_agrees (λ (a : Atom). atom_number atoms (atom_instance variables (map (const_at v.constants) ranks) a)) (λ (a : Atom). number_at (capped (length v.constants)) ranks (atom_template v variables a)) written (λ a i. sym (atom_is atoms v variables ranks a n fits.same fits.below (known a i)))
    ∙ sym (map_map (number_at (capped (length v.constants)) ranks) (atom_template v variables) written)

pub known_pos : (v : Vocabulary) (variables : List Term) (body : List Literal) → ((l : Literal) → IsIn l body → KnownLiteral v variables l) → (a : Atom) → IsIn a (flat_map pos_atoms body) → KnownAtom v variables a
known_pos v variables body known a i =
    let found = flat_at pos_atoms body a i in of found.0 (known found.0 found.1) found.2
  where
    of : (l : Literal) → KnownLiteral v variables l → IsIn a (pos_atoms l) → KnownAtom v variables a
    of (Pos b) k (inl e) = subst (λ (c : Atom). KnownAtom v variables c) (sym e) k
    of (Pos b) k (inr j) = absurd j
    of (Neg b) k j = absurd j
    of (Cmp x op y) k j = absurd j

pub known_neg : (v : Vocabulary) (variables : List Term) (body : List Literal) → ((l : Literal) → IsIn l body → KnownLiteral v variables l) → (a : Atom) → IsIn a (flat_map neg_atoms body) → KnownAtom v variables a
known_neg v variables body known a i =
    let found = flat_at neg_atoms body a i in of found.0 (known found.0 found.1) found.2
  where
    of : (l : Literal) → KnownLiteral v variables l → IsIn a (neg_atoms l) → KnownAtom v variables a
    of (Pos b) k j = absurd j
    of (Neg b) k (inl e) = subst (λ (c : Atom). KnownAtom v variables c) (sym e) k
    of (Neg b) k (inr j) = absurd j
    of (Cmp x op y) k j = absurd j

-- ---- an instance

abbrev pub make_rules : Bool → Bool → List ℕ → List ℕ → List ℕ → List GroundRule
make_rules passes choice head pos neg =
    if passes then record { choice = choice; head = head; pos = pos; neg = neg } ∷ [] else []

abbrev numbers_under : List GroundAtom → Vocabulary → List Term → List ℕ → List Atom → List ℕ
numbers_under atoms v variables ranks written =
    map (λ (a : Atom). atom_number atoms (atom_instance variables (map (const_at v.constants) ranks) a)) written

abbrev reckoned : Vocabulary → List Term → List ℕ → List Atom → List ℕ
reckoned v variables ranks written =
    map (number_at (capped (length v.constants)) ranks) (map (atom_template v variables) written)

abbrev passes_at : Vocabulary → Schema → List ℕ → Bool
passes_at v s ranks = list_all (is_true ranks) (flat_map (comparisons_of v.constants s.variables) s.body)

pub instance_is : (atoms : List GroundAtom) (v : Vocabulary) (s : Schema) (ranks : List ℕ) → Numbers atoms v → Fits v s.variables ranks → KnownSchema v s → instance atoms s (map (const_at v.constants) ranks) ≡ instance_at (capped (length v.constants)) (template_of v s) ranks
instance_is atoms v s ranks n fits known =
    ap (λ passes. make_rules passes s.choice (numbers_under atoms v s.variables ranks s.heads) (numbers_under atoms v s.variables ranks (flat_map pos_atoms s.body)) (numbers_under atoms v s.variables ranks (flat_map neg_atoms s.body))) (comparisons_are atoms v s.variables ranks s.body n fits known.body)
    ∙ (ap (λ head. make_rules (passes_at v s ranks) s.choice head (numbers_under atoms v s.variables ranks (flat_map pos_atoms s.body)) (numbers_under atoms v s.variables ranks (flat_map neg_atoms s.body))) (atoms_are atoms v s.variables ranks s.heads n fits known.heads)
    ∙ (ap (λ pos. make_rules (passes_at v s ranks) s.choice (reckoned v s.variables ranks s.heads) pos (numbers_under atoms v s.variables ranks (flat_map neg_atoms s.body))) (atoms_are atoms v s.variables ranks (flat_map pos_atoms s.body) n fits (known_pos v s.variables s.body known.body))
    ∙ ap (λ neg. make_rules (passes_at v s ranks) s.choice (reckoned v s.variables ranks s.heads) (reckoned v s.variables ranks (flat_map pos_atoms s.body)) neg) (atoms_are atoms v s.variables ranks (flat_map neg_atoms s.body) n fits (known_neg v s.variables s.body known.body))))

-- ---- all instances

pub schema_is : (atoms : List GroundAtom) (v : Vocabulary) (s : Schema) (U : List Const) (ranks : List ℕ) → Numbers atoms v → U ≡ map (const_at v.constants) ranks → ((rank : ℕ) → IsIn rank ranks → rank < length v.constants) → KnownSchema v s → flat_map (instance atoms s) (assignments U s) ≡ schema_instances v ranks s
schema_is atoms v s U ranks n same below known =
    ap (λ V. flat_map (instance atoms s) (product (replicate (length s.variables) V))) same
    ∙ (ap (λ xss. flat_map (instance atoms s) (product xss)) (sym (replicate_map (map (const_at v.constants)) (length s.variables) ranks))
    ∙ (ap (flat_map (instance atoms s)) (product_map (const_at v.constants) (replicate (length s.variables) ranks))
    ∙ (flat_map_map (instance atoms s) (map (const_at v.constants)) (product (replicate (length s.variables) ranks))
    ∙ flat_map_agrees (λ tuple. instance atoms s (map (const_at v.constants) tuple)) (instance_at (capped (length v.constants)) (template_of v s)) (product (replicate (length s.variables) ranks)) each)))
  where
    fits : (tuple : List ℕ) → IsIn tuple (product (replicate (length s.variables) ranks)) → Fits v s.variables tuple
    fits tuple i = record {
      same = tuple_length (replicate (length s.variables) ranks) tuple i ∙ length-replicate (length s.variables) ranks;
      below = λ rank j.
          let from = tuple_member (replicate (length s.variables) ranks) tuple rank i j in
          below rank (subst (λ (xs : List ℕ). IsIn rank xs) (in_replicate (length s.variables) ranks from.0 from.1) from.2);
    }

    each : (tuple : List ℕ) → IsIn tuple (product (replicate (length s.variables) ranks)) → instance atoms s (map (const_at v.constants) tuple) ≡ instance_at (capped (length v.constants)) (template_of v s) tuple
    each tuple i = instance_is atoms v s tuple n (fits tuple i) known
