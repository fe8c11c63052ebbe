-- Sets of atoms of a base, and the literals that are true in a set.
use Rattle.std.proofs.Common.{◌≡◌, ◌≢◌, refl, sym, ap, ◌∙◌, subst, ℕ, zero, suc, ◌<◌, inl, inr, Bool, true, false, not, if◌then◌else◌, List, [], ◌∷◌, ◌++◌, length, get_or, set, replicate, arith}
use Rattle.std.specs.Prelude.{slice_set}
use Rattle.std.specs.List.{list_all}
use Rattle.std.proofs.lemmas.Bool.{cases_eq}
use Rattle.std.proofs.lemmas.List.{get_or-set_other}
use Rattle.std.proofs.lemmas.List.Folds.{list_all-append}
use Rattle.asp_bits.specs.Places.{true_from, true_places}
use Rattle.asp_reduct.proofs.Truths.{get_or-member, ascends-true_from, holds-true_places}
use Rattle.asp_defs.specs.declared.ground.Lit.{Lit}
use Rattle.asp_defs.specs.Entries.{lit_true}
use Rattle.asp_defs.specs.Interpretations.{holds}
use Rattle.asp_defs.specs.Games.{ascends, within, is_subset}
use Rattle.asp_defs.proofs.Lists.{and_true, all_from}
use Rattle.asp_defs.proofs.Subsets.{true_is_not_false, holds_from}
use Rattle.asp_defs.specs.declared.ground.Game.{Game}
use Rattle.asp_defs.specs.Games.{base}
use Rattle.asp_game.specs.State.{MovesState, Last, Unasked, Asked, FoundMove, FoundCore, asked, with_blocked}
use Rattle.asp_game.specs.Answers.{GoesOn, IsBlockable, is_on_base}
use Rattle.asp_game.specs.Questions.{atoms_differ}
use Rattle.asked_moves.specs.Asking.{IsWithin, IsCubeOf, IsAsked}

blank-from : (first n : ℕ) → true_from first (replicate n false) ≡ []
blank-from first zero = refl
blank-from first (suc n) = blank-from (suc first) n

pub within_none : (B : List ℕ) (n : ℕ) (values : List Bool) → values ≡ replicate n false → IsWithin (true_places values) B
within_none B n values is a i =
    absurd (true_is_not_false (holds (true_places values) a) i
    (ap (λ vs. holds (true_places vs) a) is ∙ ap (λ (ps : List ℕ). holds ps a) (blank-from 0 n)))

pub within_with : (B : List ℕ) (place d : ℕ) (values now : List Bool) → place < length B → IsWithin (true_places values) B
    → now ≡ slice_set values (get_or B place d) true → IsWithin (true_places now) B
within_with B place d values now h inside is a i =
    let p : ℕ = get_or B place d in
    let there : holds (true_places (set values p true)) a ≡ true = sym (ap (λ vs. holds (true_places vs) a) is) ∙ i in
    elim (cases_eq a p) [
      | inl e ↦ subst (λ (b : ℕ). holds B b ≡ true) (sym e) (holds_from B p (get_or-member B place d h))
      | inr other ↦
          inside a
          (holds-true_places values a ∙ (sym (get_or-set_other values p a true false other) ∙ (sym (holds-true_places (set values p true) a) ∙ there)))
    ]

pub subset_within : (B : List ℕ) (values : List Bool) → IsWithin (true_places values) B → is_subset (true_places values) B ≡ true
subset_within B values inside =
    and_true (ascends (true_places values)) (within (true_places values) B) (ascends-true_from 0 values)
    (all_from (holds B) (true_places values) (λ a i. inside a (holds_from (true_places values) a i)))

-- a literal of an atom with its value
pub is_true : (I : List ℕ) (l : Lit) (value : Bool) → l.positive ≡ value → holds I l.atom ≡ value → lit_true I l ≡ true
is_true I l true up is = ap (λ t. if t then holds I l.atom else not (holds I l.atom)) up ∙ is
is_true I l false up is = ap (λ t. if t then holds I l.atom else not (holds I l.atom)) up ∙ ap not is

-- fewer than two literals
pub none_differ : (xs : List Lit) → length xs < 2 → atoms_differ xs ≡ true
none_differ [] h = refl
none_differ (x ∷ []) h = refl
none_differ (x ∷ y ∷ xs) h = absurd (omega arith)

pub cube_none : (B I : List ℕ) → IsCubeOf B I []
cube_none B I = record { inside = refl; atoms = refl }

pub cube_more : (B I : List ℕ) (cube now : List Lit) (l : Lit) → now ≡ cube ++ l ∷ [] → IsCubeOf B I cube → lit_true I l ≡ true → holds B l.atom ≡ true
    → IsCubeOf B I now
cube_more B I cube now l is c one in_base = subst (λ (ls : List Lit). IsCubeOf B I ls) (sym is) (record {
  inside = list_all-append (lit_true I) cube (l ∷ []) ∙ and_true (list_all (lit_true I) cube) (list_all (lit_true I) (l ∷ [])) c.inside (and_true (lit_true I l) true one refl);
  atoms = list_all-append (λ m. holds B m.atom) cube (l ∷ [])
      ∙ and_true (list_all (λ m. holds B m.atom) cube) (list_all (λ m. holds B m.atom) (l ∷ [])) c.atoms (and_true (holds B l.atom) true in_base refl);
})

-- ---- questions

pub asked_from : (s : MovesState) → s.last ≢ Unasked → IsAsked s s
asked_from s h = record { game = refl; level = refl; asked = h }

pub asked_then : (r s t : MovesState) → IsAsked r s → IsAsked s t → IsAsked r t
asked_then r s t one two = record { game = two.game ∙ one.game; level = two.level ∙ one.level; asked = two.asked }

-- what is asked next is asked of the same level
pub base_then : (r s : MovesState) (B : List ℕ) → B ≡ base r.game r.level → IsAsked r s → B ≡ base s.game s.level
base_then r s B is asked = is ∙ (ap (λ (g : Game). base g r.level) (sym asked.game) ∙ ap (base s.game) (sym asked.level))

pub blockable : (s : MovesState) (B I : List ℕ) (cube xs : List Lit) → xs ≡ cube → B ≡ base s.game s.level → s.last ≡ FoundMove I → IsCubeOf B I cube
    → IsBlockable s xs
blockable s B I cube xs xs_are base_is last c = record {
  set = I;
  found = last;
  inside = ap (list_all (lit_true I)) xs_are ∙ c.inside;
  atoms = ap (list_all (λ l. holds (base s.game s.level) l.atom)) xs_are
      ∙ subst (λ (C : List ℕ). list_all (λ l. holds C l.atom) cube ≡ true) base_is c.atoms;
}

-- a cube of the level's atoms
pub on_base : (s : MovesState) (g : Game) (i : ℕ) (B : List ℕ) (cube : List Lit) → s.game ≡ g → s.level ≡ i → B ≡ base g i
    → list_all (λ l. holds B l.atom) cube ≡ true → is_on_base s cube ≡ true
on_base s g i B cube game_is level_is base_is h =
    let same : B ≡ base s.game s.level = base_is ∙ (ap (λ (f : Game). base f i) (sym game_is) ∙ ap (base s.game) (sym level_is)) in
    subst (λ (C : List ℕ). list_all (λ l. holds C l.atom) cube ≡ true) same h

found_is_asked : (last : Last) (I : List ℕ) → last ≡ FoundMove I → last ≢ Unasked
found_is_asked last I e f = absurd (let never : FoundMove I ≡ Unasked = sym e ∙ f in cc)

core_is_asked : (last : Last) → last ≡ FoundCore → last ≢ Unasked
core_is_asked last e f = absurd (let never : FoundCore ≡ Unasked = sym e ∙ f in cc)

pub asked_blocked : (s t : MovesState) (I : List ℕ) (cube : List Lit) → s.last ≡ FoundMove I → t ≡ with_blocked s cube → IsAsked s t
asked_blocked s t I cube last is = record {
  game = ap (λ (m : MovesState). m.game) is;
  level = ap (λ (m : MovesState). m.level) is;
  asked = found_is_asked t.last I (ap (λ (m : MovesState). m.last) is ∙ last);
}

pub asked_found : (s t : MovesState) (I : List ℕ) → GoesOn s t → t.last ≡ FoundMove I → IsAsked s t
asked_found s t I goes last = record {
  game = ap (λ (m : MovesState). m.game) goes.question;
  level = ap (λ (m : MovesState). m.level) goes.question;
  asked = found_is_asked t.last I last;
}

pub asked_core : (s t : MovesState) → GoesOn s t → t.last ≡ FoundCore → IsAsked s t
asked_core s t goes last = record {
  game = ap (λ (m : MovesState). m.game) goes.question;
  level = ap (λ (m : MovesState). m.level) goes.question;
  asked = core_is_asked t.last last;
}

pub asked_begun : (s t : MovesState) (outer : List ℕ) (region : List Lit) (order : Bool) → t ≡ asked s outer region order → IsAsked s t
asked_begun s t outer region order is = record {
  game = ap (λ (m : MovesState). m.game) is;
  level = ap (λ (m : MovesState). m.level) is;
  asked = λ e. let never : Asked ≡ Unasked = sym (ap (λ (m : MovesState). m.last) is) ∙ e in absurd (cc);
}
