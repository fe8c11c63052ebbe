-- The atoms of a set and their texts, one place after another.
use Rattle.std.proofs.Common.{arith, ◌≡◌, ℕ, zero, suc, ◌+◌, ◌<◌, Bool, true, false, not, if◌then◌else◌, List, [], ◌∷◌, ◌++◌, length, take, drop, get_or, refl, sym, ◌∙◌, ap, codes, append-nil, append_assoc, add-one, option_to_list, map}
use Rattle.std.specs.List.{flat_map, filter_map, cons_option, join_by, slice_get}
use Rattle.std.specs.Prelude.{Option, None, Some, Result, Ok, Err, IfOk}
use Rattle.std.proofs.lemmas.Grind.{flat_map-append}
use Rattle.asp_bits.specs.Places.{true_from, true_places}
use Rattle.asp_defs.specs.declared.ground.Bases.{Bases}
use Rattle.asp_defs.specs.declared.ground.GroundAtom.{GroundAtom}
use Rattle.asp_defs.specs.Lists.{is_empty}
use Rattle.asp_defs.specs.Lines.{line}
use Rattle.asp_defs.specs.Sets.{ground_atom_text, set_text, set_lines}
use Rattle.asp_print.specs.Members.{members, member_at, member_text, leads_next}
use Rattle.asp_print.proofs.Writing.{each_more, each_rest}

-- ---- the atoms

cons_option-append : {X : Type 0} (o : Option X) (xs ys : List X) → cons_option o (xs ++ ys) ≡ cons_option o xs ++ ys
cons_option-append None xs ys = refl
cons_option-append (Some x) xs ys = refl

cons_option-nil : {X : Type 0} (o : Option X) → cons_option o [] ≡ option_to_list o
cons_option-nil None = refl
cons_option-nil (Some x) = refl

-- what the first places give, and one more
more_from : {X : Type 0} (f : ℕ → Option X) (first k : ℕ) (values : List Bool) → k < length values
    → filter_map f (true_from first (take (suc k) values))
    ≡ filter_map f (true_from first (take k values)) ++ option_to_list (if get_or values k false then f (first + k) else None)
more_from f first k [] inside = absurd (omega arith)
more_from f first zero (true ∷ values) inside = cons_option-nil (f first) ∙ ap (λ n. option_to_list (f n)) (omega arith)
more_from f first zero (false ∷ values) inside = refl
more_from f first (suc k) (true ∷ values) inside =
    ap (cons_option (f first)) (more_from f (suc first) k values (omega arith))
    ∙ cons_option-append (f first) (filter_map f (true_from (suc first) (take k values))) (option_to_list (if get_or values k false then f (suc first + k) else None))
    ∙ ap (λ n. cons_option (f first) (filter_map f (true_from (suc first) (take k values))) ++ option_to_list (if get_or values k false then f n else None)) (omega arith)
more_from f first (suc k) (false ∷ values) inside =
    more_from f (suc first) k values (omega arith)
    ∙ ap (λ n. filter_map f (true_from (suc first) (take k values)) ++ option_to_list (if get_or values k false then f n else None)) (omega arith)

pub members_more : (atoms : List GroundAtom) (values : List Bool) (k : ℕ) → k < length values
    → members atoms (take k values) ++ option_to_list (member_at atoms values k) ≡ members atoms (take (k + 1) values)
members_more atoms values k inside =
    ap (λ n. members atoms (take k values) ++ option_to_list (if get_or values k false then slice_get atoms n else None)) (omega arith)
    ∙ sym (ap (λ n. members atoms (take n values)) (add-one k) ∙ more_from (slice_get atoms) 0 k values inside)

-- what all places give begins with what the first ones do
rest_from : {X : Type 0} (f : ℕ → Option X) (first k : ℕ) (values : List Bool)
    → (rest : List X) × (filter_map f (true_from first (take k values)) ++ rest ≡ filter_map f (true_from first values))
rest_from f first zero values = (filter_map f (true_from first values), refl)
rest_from f first (suc k) [] = ([], refl)
rest_from f first (suc k) (true ∷ values) =
    let (rest, e) = rest_from f (suc first) k values in
    (rest, sym (cons_option-append (f first) (filter_map f (true_from (suc first) (take k values))) rest) ∙ ap (cons_option (f first)) e)
rest_from f first (suc k) (false ∷ values) =
    let (rest, e) = rest_from f (suc first) k values in (rest, e)

-- ---- their texts

joined_more : (xs : List GroundAtom) (atom : Option GroundAtom)
    → join_by ground_atom_text (codes ", ") xs ++ member_text (not (is_empty xs)) atom ≡ join_by ground_atom_text (codes ", ") (xs ++ option_to_list atom)
joined_more xs None =
    append-nil (join_by ground_atom_text (codes ", ") xs) ∙ ap (join_by ground_atom_text (codes ", ")) (sym (append-nil xs))
joined_more [] (Some a) = sym (append-nil (ground_atom_text a))
joined_more (x ∷ xs) (Some a) =
    append_assoc (ground_atom_text x) (flat_map (λ z. codes ", " ++ ground_atom_text z) xs) (codes ", " ++ ground_atom_text a)
    ∙ ap (λ l. ground_atom_text x ++ l)
    (ap (λ l. flat_map (λ z. codes ", " ++ ground_atom_text z) xs ++ l) (sym (append-nil (codes ", " ++ ground_atom_text a)))
    ∙ sym (flat_map-append (λ z. codes ", " ++ ground_atom_text z) xs (a ∷ [])))

joined_rest : (xs more : List GroundAtom)
    → (rest : List ℕ) × (join_by ground_atom_text (codes ", ") xs ++ rest ≡ join_by ground_atom_text (codes ", ") (xs ++ more))
joined_rest [] more = (join_by ground_atom_text (codes ", ") more, refl)
joined_rest (x ∷ xs) more = (
  flat_map (λ z. codes ", " ++ ground_atom_text z) more,
  append_assoc (ground_atom_text x) (flat_map (λ z. codes ", " ++ ground_atom_text z) xs) (flat_map (λ z. codes ", " ++ ground_atom_text z) more)
      ∙ ap (λ l. ground_atom_text x ++ l) (sym (flat_map-append (λ z. codes ", " ++ ground_atom_text z) xs more)),
)

next_led : (xs : List GroundAtom) (atom : Option GroundAtom) → leads_next (not (is_empty xs)) atom ≡ not (is_empty (xs ++ option_to_list atom))
next_led [] None = refl
next_led [] (Some a) = refl
next_led (x ∷ xs) None = refl
next_led (x ∷ xs) (Some a) = refl

-- ---- a place more

-- whether an atom stands among the first places
abbrev pub has_some : List GroundAtom → List Bool → Bool
has_some atoms values = not (is_empty (members atoms values))

-- what the first places and the next one make
pub text_more : (atoms : List GroundAtom) (values : List Bool) (k : ℕ) (is_led : Bool) (atom : Option GroundAtom) → k < length values
    → is_led ≡ has_some atoms (take k values) → atom ≡ member_at atoms values k
    → join_by ground_atom_text (codes ", ") (members atoms (take k values)) ++ member_text is_led atom
    ≡ join_by ground_atom_text (codes ", ") (members atoms (take (k + 1) values))
text_more atoms values k is_led atom inside led is =
    ap (λ b. join_by ground_atom_text (codes ", ") (members atoms (take k values)) ++ member_text b atom) led
    ∙ joined_more (members atoms (take k values)) atom
    ∙ ap (λ o. join_by ground_atom_text (codes ", ") (members atoms (take k values) ++ option_to_list o)) is
    ∙ ap (join_by ground_atom_text (codes ", ")) (members_more atoms values k inside)

pub led_more : (atoms : List GroundAtom) (values : List Bool) (k : ℕ) (is_led next : Bool) (atom : Option GroundAtom) → k < length values
    → is_led ≡ has_some atoms (take k values) → atom ≡ member_at atoms values k → next ≡ leads_next is_led atom
    → next ≡ has_some atoms (take (k + 1) values)
led_more atoms values k is_led next atom inside led is e =
    e ∙ ap (λ b. leads_next b atom) led ∙ next_led (members atoms (take k values)) atom
    ∙ ap (λ o. not (is_empty (members atoms (take k values) ++ option_to_list o))) is
    ∙ ap (λ xs. not (is_empty xs)) (members_more atoms values k inside)

-- an atom that there is leads the next one
pub some_leads : {E : Type 0} (result : Result Bool E) (is_led : Bool) (atom : Option GroundAtom) (a : GroundAtom) → atom ≡ Some a
    → IfOk result (λ next. next ≡ true) → IfOk result (λ next. next ≡ leads_next is_led atom)
some_leads (Ok next) is_led atom a is h = h ∙ sym (ap (leads_next is_led) is)
some_leads (Err e) is_led atom a is h = tt

-- the whole text begins with that of the first places
pub text_rest : (atoms : List GroundAtom) (values : List Bool) (k : ℕ)
    → (rest : List ℕ) × (join_by ground_atom_text (codes ", ") (members atoms (take k values)) ++ rest ≡ join_by ground_atom_text (codes ", ") (members atoms values))
text_rest atoms values k =
    let (more, e) = rest_from (slice_get atoms) 0 k values in
    let (rest, f) = joined_rest (members atoms (take k values)) more in
    (rest, f ∙ ap (join_by ground_atom_text (codes ", ")) e)

-- ---- a line for each set

-- the lines of sets are the lines of parts, each with its own text
set_lines-each : (bases : Bases) (sets : List (List Bool)) → set_lines bases (map true_places sets) ≡ flat_map (λ values. line (set_text bases (true_places values))) sets
set_lines-each bases [] = refl
set_lines-each bases (values ∷ sets) = ap (λ l. line (set_text bases (true_places values)) ++ l) (set_lines-each bases sets)

pub lines_more : (bases : Bases) (sets : List (List Bool)) (i : ℕ) (values : List Bool) → i < length sets → values ≡ get_or sets i values
    → set_lines bases (map true_places (take i sets)) ++ line (set_text bases (true_places values)) ≡ set_lines bases (map true_places (take (i + 1) sets))
lines_more bases sets i values inside is =
    ap (λ l. l ++ line (set_text bases (true_places values))) (set_lines-each bases (take i sets))
    ∙ sym (each_more (λ values. line (set_text bases (true_places values))) sets i values inside is)
    ∙ sym (set_lines-each bases (take (i + 1) sets))

pub lines_rest : (bases : Bases) (sets : List (List Bool)) (i : ℕ) (values : List Bool) → i < length sets → values ≡ get_or sets i values
    → (set_lines bases (map true_places (take i sets)) ++ line (set_text bases (true_places values))) ++ flat_map (λ values. line (set_text bases (true_places values))) (drop (i + 1) sets)
    ≡ set_lines bases (map true_places sets)
lines_rest bases sets i values inside is =
    ap (λ l. l ++ flat_map (λ values. line (set_text bases (true_places values))) (drop (i + 1) sets))
    (lines_more bases sets i values inside is ∙ set_lines-each bases (take (i + 1) sets))
    ∙ each_rest (λ values. line (set_text bases (true_places values))) sets (i + 1)
    ∙ sym (set_lines-each bases sets)
