-- The atoms of a rule's instances over a level's universe stand in the level's base.
use Rattle.std.proofs.Common.{ℕ, ◌≡◌, ◌<◌, refl, sym, subst, inl, inr, Bool, true, false, cond, List, [], ◌∷◌, ◌++◌, map, length, get_or, replicate, arith}
use Rattle.std.specs.List.{flat_map, list_all, position_or_len}
use Rattle.std.proofs.lemmas.List.{length-map, length-replicate}
use Rattle.asp_defs.specs.declared.ground.Const.{Const}
use Rattle.asp_defs.specs.declared.ground.Const.TheVariants as const
use Rattle.asp_defs.specs.declared.ground.GroundAtom.{GroundAtom}
use Rattle.asp_defs.specs.declared.ground.GroundRule.{GroundRule}
use Rattle.asp_defs.specs.declared.syntax.Term.{Term}
use Rattle.asp_defs.specs.declared.syntax.Term.TheVariants.{Int, Sym, Var, Anon, Range}
use Rattle.asp_defs.specs.declared.syntax.Atom.{Atom}
use Rattle.asp_defs.specs.declared.syntax.Literal.{Literal}
use Rattle.asp_defs.specs.declared.syntax.Literal.TheVariants.{Pos, Neg, Cmp}
use Rattle.asp_defs.specs.declared.syntax.Program.{Program}
use Rattle.asp_defs.specs.Lists.{IsIn}
use Rattle.asp_defs.specs.Constants.{universe, term_constants, atom_constants, literal_constants}
use Rattle.asp_defs.specs.Bases.{Predicate, predicates, atom_predicate, literal_predicates, base_atoms, atom_number, last_level, product}
use Rattle.asp_defs.specs.Instances.{same_variable, term_variables, atom_variables, literal_variables, Schema, term_value, atom_instance, comparison_true, pos_atoms, neg_atoms, instance, assignments}
use Rattle.asp_defs.specs.Safety.{is_variable_of}
use Rattle.asp_defs.specs.Games.{within, rule_atoms}
use Rattle.asp_defs.proofs.Lists.{all_at, append_at, map_at, map_from}
use Rattle.asp_defs.proofs.TextRefutations.{clash}
use Rattle.asp_checked.specs.Condition.{is_single, is_single_atom, is_single_literal}
use Rattle.asp_walk.proofs.Lists.{flat_at, flat_from, get_is_in}
use Rattle.asp_defs.proofs.SafetyLaws.{itself as same_self}
use Rattle.asp_template.proofs.Parts.{make_predicate}
use Rattle.asp_template.proofs.Products.{tuple_length, tuple_member, in_replicate}
use Rattle.asp_template.proofs.Occurrences.{any_place}
use Rattle.asp_ground.proofs.BaseAtoms.{base_from, base_numbers, within_from}

-- what is written in a part of a rule is known: its constants, its predicates and its variables
pub record Part (U : List Const) (Q : List Predicate) (vars : List Term) (cs : List Const) (qs : List Predicate) (ws : List Term) : Type 0 where
  pub constants : (c : Const) → IsIn c cs → IsIn c U
  pub predicates : (q : Predicate) → IsIn q qs → IsIn q Q
  pub variables : (w : Term) → same_variable w w ≡ true → IsIn w ws → is_variable_of vars w ≡ true

pub each_part : {A : Type 0} {U : List Const} {Q : List Predicate} {vars : List Term} (f : A → List Const) (g : A → List Predicate) (h : A → List Term) (xs : List A) (x : A) → IsIn x xs → Part U Q vars (flat_map f xs) (flat_map g xs) (flat_map h xs) → Part U Q vars (f x) (g x) (h x)
each_part f g h xs x m part = record {
  constants = λ c i. part.constants c (flat_from f xs x c m i);
  predicates = λ q i. part.predicates q (flat_from g xs x q m i);
  variables = λ w same i. part.variables w same (flat_from h xs x w m i);
}

-- ---- the values of terms

-- a term whose constants and variables are known, and which is no interval
pub record KnownTerm (U : List Const) (vars : List Term) (t : Term) : Type 0 where
  pub constants : (c : Const) → IsIn c (term_constants t) → IsIn c U
  pub variables : (w : Term) → IsIn w (term_variables t) → is_variable_of vars w ≡ true
  pub single : is_single t ≡ true

variable_in : (U : List Const) (vars : List Term) (values : List Const) (d : Const) (v : Term) → IsIn values (product (replicate (length vars) U)) → is_variable_of vars v ≡ true → IsIn (get_or values (position_or_len (same_variable v) vars) d) U
variable_in U vars values d v i h =
    let at = position_or_len (same_variable v) vars in
    let long = tuple_length (replicate (length vars) U) values i in
    let count = length-replicate (length vars) U in
    let place = any_place (same_variable v) vars h in
    let there : at < length values = omega (arith, long, count, place) in
    let from = tuple_member (replicate (length vars) U) values (get_or values at d) i (get_is_in values at d there) in
    subst (λ xs. IsIn (get_or values at d) xs) (in_replicate (length vars) U from.0 from.1) from.2

value_in : (U : List Const) (vars : List Term) (values : List Const) (t : Term) → IsIn values (product (replicate (length vars) U)) → KnownTerm U vars t → IsIn (term_value vars values t) U
value_in U vars values (Int x) i known = known.constants (const.Int x) (inl refl)
value_in U vars values (Sym s) i known = known.constants (const.Sym s) (inl refl)
value_in U vars values (Var v) i known = variable_in U vars values (const.Sym []) (Var v) i (known.variables (Var v) (inl refl))
value_in U vars values (Anon k) i known = variable_in U vars values (const.Sym []) (Anon k) i (known.variables (Anon k) (inl refl))
value_in U vars values (Range low high) i known = clash known.single

-- ---- atoms of a schema

pub record KnownAtom (U : List Const) (Q : List Predicate) (vars : List Term) (a : Atom) : Type 0 where
  pub predicate : IsIn (atom_predicate a) Q
  pub terms : (t : Term) → IsIn t a.args → KnownTerm U vars t

pub known_atom : (U : List Const) (Q : List Predicate) (vars : List Term) (a : Atom) → Part U Q vars (atom_constants a) (atom_predicate a ∷ []) (atom_variables a) → is_single_atom a ≡ true → KnownAtom U Q vars a
known_atom U Q vars a part single = record {
  predicate = part.predicates (atom_predicate a) (inl refl);
  terms = λ t i. record {
    constants = λ c j. part.constants c (flat_from term_constants a.args t c i j);
    variables = λ w j. part.variables w (same_self t w j) (flat_from term_variables a.args t w i j);
    single = all_at is_single a.args t single i;
  };
}

pub atom_in : (p : Program) (i : ℕ) (vars : List Term) (values : List Const) (a : Atom) → IsIn values (product (replicate (length vars) (universe p i))) → KnownAtom (universe p i) (predicates p i) vars a → IsIn (atom_instance vars values a) (base_atoms p i)
atom_in p i vars values a m known =
    let long : length (map (term_value vars values) a.args) ≡ length a.args = length-map a.args (term_value vars values) in
    base_from p i a.name (map (term_value vars values) a.args)
    (subst (λ n. IsIn (make_predicate a.name n) (predicates p i)) (sym long) known.predicate)
    (λ x j.
    let t = map_at (term_value vars values) a.args x j in
    subst (λ c. IsIn c (universe p i)) (sym t.2) (value_in (universe p i) vars values t.0 m (known.terms t.0 t.1)))

-- ---- literals

pub record KnownLiteral (U : List Const) (Q : List Predicate) (vars : List Term) (l : Literal) : Type 0 where
  pub part : Part U Q vars (literal_constants l) (literal_predicates l) (literal_variables l)
  pub single : is_single_literal l ≡ true

pos_known : (U : List Const) (Q : List Predicate) (vars : List Term) (l : Literal) → KnownLiteral U Q vars l → (a : Atom) → IsIn a (pos_atoms l) → KnownAtom U Q vars a
pos_known U Q vars (Pos b) known a (inl e) = subst (λ c. KnownAtom U Q vars c) (sym e) (known_atom U Q vars b known.part known.single)
pos_known U Q vars (Pos b) known a (inr i) = absurd i
pos_known U Q vars (Neg b) known a i = absurd i
pos_known U Q vars (Cmp x op y) known a i = absurd i

neg_known : (U : List Const) (Q : List Predicate) (vars : List Term) (l : Literal) → KnownLiteral U Q vars l → (a : Atom) → IsIn a (neg_atoms l) → KnownAtom U Q vars a
neg_known U Q vars (Neg b) known a (inl e) = subst (λ c. KnownAtom U Q vars c) (sym e) (known_atom U Q vars b known.part known.single)
neg_known U Q vars (Neg b) known a (inr i) = absurd i
neg_known U Q vars (Pos b) known a i = absurd i
neg_known U Q vars (Cmp x op y) known a i = absurd i

pub body_known : (U : List Const) (Q : List Predicate) (vars : List Term) (body : List Literal) → Part U Q vars (flat_map literal_constants body) (flat_map literal_predicates body) (flat_map literal_variables body) → list_all is_single_literal body ≡ true → (l : Literal) → IsIn l body → KnownLiteral U Q vars l
body_known U Q vars body part single l i = record {
  part = each_part literal_constants literal_predicates literal_variables body l i part;
  single = all_at is_single_literal body l single i;
}

-- ---- schemas

pub record KnownSchema (U : List Const) (Q : List Predicate) (s : Schema) : Type 0 where
  pub heads : (a : Atom) → IsIn a s.heads → KnownAtom U Q s.variables a
  pub body : (l : Literal) → IsIn l s.body → KnownLiteral U Q s.variables l

abbrev pub rule_under : List GroundAtom → Schema → List Const → GroundRule
rule_under atoms s values = record {
  choice = s.choice;
  head = map (λ (a : Atom). atom_number atoms (atom_instance s.variables values a)) s.heads;
  pos = map (λ (a : Atom). atom_number atoms (atom_instance s.variables values a)) (flat_map pos_atoms s.body);
  neg = map (λ (a : Atom). atom_number atoms (atom_instance s.variables values a)) (flat_map neg_atoms s.body);
}

one_or_none : (b : Bool) (x r : GroundRule) → IsIn r (cond b (x ∷ []) []) → r ≡ x
one_or_none true x r (inl e) = e
one_or_none true x r (inr i) = absurd i
one_or_none false x r i = absurd i

-- an instance of a schema is the schema's rule under the values
pub instance_is : (atoms : List GroundAtom) (s : Schema) (values : List Const) (r : GroundRule) → IsIn r (instance atoms s values) → r ≡ rule_under atoms s values
instance_is atoms s values r i = one_or_none (list_all (comparison_true s.variables values) s.body) (rule_under atoms s values) r i

pub under_within : (p : Program) (i : ℕ) (s : Schema) (values : List Const) → IsIn values (assignments (universe p i) s) → KnownSchema (universe p i) (predicates p i) s → (n : ℕ) → IsIn n (rule_atoms (rule_under (base_atoms p (last_level p)) s values)) → IsIn n (base_numbers p i)
under_within p i s values m known n j =
    elim (append_at (map number s.heads) (map number (flat_map pos_atoms s.body) ++ map number (flat_map neg_atoms s.body)) n j) [
      | inl k ↦ numbered s.heads (λ a h. known.heads a h) k
      | inr k ↦ elim (append_at (map number (flat_map pos_atoms s.body)) (map number (flat_map neg_atoms s.body)) n k) [
        | inl h ↦ numbered (flat_map pos_atoms s.body) (λ a g.
            let l = flat_at pos_atoms s.body a g in pos_known (universe p i) (predicates p i) s.variables l.0 (known.body l.0 l.1) a l.2) h
        | inr h ↦ numbered (flat_map neg_atoms s.body) (λ a g.
            let l = flat_at neg_atoms s.body a g in neg_known (universe p i) (predicates p i) s.variables l.0 (known.body l.0 l.1) a l.2) h
      ]
    ]
  where
    number : Atom → ℕ
    number a = atom_number (base_atoms p (last_level p)) (atom_instance s.variables values a)

    numbered : (xs : List Atom) → ((a : Atom) → IsIn a xs → KnownAtom (universe p i) (predicates p i) s.variables a) → IsIn n (map (λ (a : Atom). atom_number (base_atoms p (last_level p)) (atom_instance s.variables values a)) xs) → IsIn n (base_numbers p i)
    numbered xs all k =
        let a = map_at (λ (a : Atom). atom_number (base_atoms p (last_level p)) (atom_instance s.variables values a)) xs n k in
        subst (λ x. IsIn x (base_numbers p i)) (sym a.2)
        (map_from (atom_number (base_atoms p (last_level p))) (base_atoms p i) (atom_instance s.variables values a.0) (atom_in p i s.variables values a.0 m (all a.0 a.1)))

pub instance_within : (p : Program) (i : ℕ) (s : Schema) (values : List Const) → IsIn values (assignments (universe p i) s) → KnownSchema (universe p i) (predicates p i) s → (r : GroundRule) → IsIn r (instance (base_atoms p (last_level p)) s values) → within (rule_atoms r) (base_numbers p i) ≡ true
instance_within p i s values m known r j =
    subst (λ g. within (rule_atoms g) (base_numbers p i) ≡ true) (sym (instance_is (base_atoms p (last_level p)) s values r j))
    (within_from (rule_atoms (rule_under (base_atoms p (last_level p)) s values)) (base_numbers p i) (under_within p i s values m known))
