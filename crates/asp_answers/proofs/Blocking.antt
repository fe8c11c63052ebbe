-- What the clauses of a search say once a cube is blocked.
use Rattle.std.proofs.Common.{◌≡◌, ℕ, ◌<◌, Bool, true, false, not, ◌&&◌, ◌||◌, List, [], ◌∷◌, ◌++◌, map, length, get_or, refl, sym, ap, ◌∙◌, subst, inl, inr}
use Rattle.std.specs.Prelude.{◌==◌, if◌then◌else◌}
use Rattle.std.specs.List.{list_any}
use Rattle.std.proofs.lemmas.Bool.{eq-eqb}
use Rattle.std.proofs.lemmas.List.Folds.{list_all-append}
use Rattle.asp_defs.specs.declared.ground.Game.{Game}
use Rattle.asp_defs.specs.declared.ground.GroundRule.{GroundRule}
use Rattle.asp_defs.specs.declared.ground.Lit.{Lit}
use Rattle.asp_defs.specs.Lists.{IsIn}
use Rattle.asp_defs.specs.Interpretations.{holds}
use Rattle.asp_defs.specs.Games.{base}
use Rattle.asp_defs.specs.Entries.{lit_true, cube_holds, stands_at}
use Rattle.asp_defs.proofs.Lists.{both, and_true, either, or_left, or_right, all_at, all_from, any_at, any_from, append_at, append_left, append_right, map_at}
use Rattle.asp_defs.proofs.Subsets.{holds_at}
use Rattle.asp_search.specs.Meaning.{AddsClause}
use Rattle.asp_game.specs.Questions.{is_outside}
use Rattle.asp_completion.specs.Codes.{codes, literal, opposite, is_met}
use Rattle.asp_completion.specs.Meanings.{Means, IsSoundClause, is_named_at}
use Rattle.asp_completion.proofs.Places.{get_or-rank, rank-within, satisfies_from, satisfies_to}
use Rattle.asp_completion.proofs.Learning.{mentioned-code}

-- ---- blocked cubes

lit_true-opposite : (N : List ℕ) (l : Lit) → lit_true N (opposite l) ≡ not (lit_true N l)
lit_true-opposite N l = go l.positive
  where
    twice : (b : Bool) → b ≡ not (not b)
    twice true = refl
    twice false = refl

    go : (p : Bool) → lit_true N (elim p as (λ _. Lit) [ true ↦ literal false l.atom | false ↦ literal true l.atom ])
        ≡ not (if p then holds N l.atom else not (holds N l.atom))
    go true = refl
    go false = twice (holds N l.atom)

pub opposite-atom : (l : Lit) → (opposite l).atom ≡ l.atom
opposite-atom l = go l.positive
  where
    go : (p : Bool) → (elim p as (λ _. Lit) [ true ↦ literal false l.atom | false ↦ literal true l.atom ]).atom ≡ l.atom
    go true = refl
    go false = refl

-- one of the opposite literals is true exactly where the cube doesn't hold the interpretation
pub met-opposites : (N : List ℕ) (cube : List Lit) → is_met N (map opposite cube) ≡ not (cube_holds cube N)
met-opposites N [] = refl
met-opposites N (l ∷ cube) =
    ap (λ t. t || is_met N (map opposite cube)) (lit_true-opposite N l)
    ∙ (ap (λ t. not (lit_true N l) || t) (met-opposites N cube) ∙ go (lit_true N l) (cube_holds cube N))
  where
    go : (p q : Bool) → (not p || not q) ≡ not (p && q)
    go true q = refl
    go false q = refl

outside-more : (blocked : List (List Lit)) (cube : List Lit) (N : List ℕ)
    → is_outside (blocked ++ cube ∷ []) N ≡ (is_outside blocked N && not (cube_holds cube N))
outside-more blocked cube N =
    list_all-append (λ c. not (cube_holds c N)) blocked (cube ∷ [])
    ∙ ap (λ t. is_outside blocked N && t) (go (not (cube_holds cube N)))
  where
    go : (p : Bool) → (p && true) ≡ p
    go true = refl
    go false = refl

named-more : (g : Game) (i : ℕ) (blocked : List (List Lit)) (cube : List Lit) (a : ℕ)
    → is_named_at g i blocked a ≡ true → is_named_at g i (blocked ++ cube ∷ []) a ≡ true
named-more g i blocked cube a h =
    let in_rules : Bool = stands_at g i a in
    let has : List Lit → Bool = λ c. list_any (λ l. l.atom == a) c in
    elim (either in_rules (list_any has blocked) h) [
      | inl one ↦ or_left in_rules (list_any has (blocked ++ cube ∷ [])) one
      | inr two ↦
          let found = any_at has blocked two in
          or_right in_rules (list_any has (blocked ++ cube ∷ []))
          (any_from has (blocked ++ cube ∷ []) found.0 (append_left blocked (cube ∷ []) found.0 found.1) found.2)
    ]

named-cube : (g : Game) (i : ℕ) (blocked : List (List Lit)) (cube : List Lit) (l : Lit) → IsIn l cube
    → is_named_at g i (blocked ++ cube ∷ []) l.atom ≡ true
named-cube g i blocked cube l member =
    let in_rules : Bool = stands_at g i l.atom in
    let has : List Lit → Bool = λ c. list_any (λ m. m.atom == l.atom) c in
    or_right in_rules (list_any has (blocked ++ cube ∷ []))
    (any_from has (blocked ++ cube ∷ []) cube (append_right blocked (cube ∷ []) cube (inl refl))
    (any_from (λ m. m.atom == l.atom) cube l member (eq-eqb l.atom l.atom refl)))

-- the opposite literals of a cube leave out the moves that it holds
pub means-block : (g : Game) (i : ℕ) (rules : List GroundRule) (blocked : List (List Lit)) (old new : List (List ℕ)) (cube : List Lit)
    → Means g i rules blocked old → ((l : Lit) → IsIn l cube → holds (base g i) l.atom ≡ true)
    → AddsClause old new (codes (base g i) (map opposite cube)) → Means g i rules (blocked ++ cube ∷ []) new
means-block g i rules blocked old new cube means atoms adds =
    let B : List ℕ = base g i in
    let lits : List Lit = map opposite cube in
    let inside : (l : Lit) → IsIn l lits → holds B l.atom ≡ true = λ l h.
    let found = map_at opposite cube l h in
    ap (λ (m : Lit). holds B m.atom) found.2 ∙ (ap (holds B) (opposite-atom found.0) ∙ atoms found.0 found.1) in
    let cubes : List (List Lit) = blocked ++ cube ∷ [] in
    record {
      sound = λ M N v outer move out agrees.
          let parts = both (is_outside blocked N) (not (cube_holds cube N)) (sym (outside-more blocked cube N) ∙ out) in
          adds.forth v (means.sound M N v outer move parts.0 agrees)
          (satisfies_from B v N lits agrees inside (met-opposites N cube ∙ parts.1));
      models = λ v N agrees sat. means.models v N agrees (adds.back v sat);
      outside = λ v N agrees sat.
          outside-more blocked cube N
          ∙ and_true (is_outside blocked N) (not (cube_holds cube N)) (means.outside v N agrees (adds.back v sat))
          (sym (met-opposites N cube) ∙ satisfies_to B v N lits agrees inside (adds.satisfied v sat));
      named = λ k m low.
          elim (adds.atoms k m) [
            | inl before ↦ named-more g i blocked cube (get_or B k 0) (means.named k before low)
            | inr here ↦
                let found = mentioned-code B lits k here in
                let at : get_or B k 0 ≡ found.0.atom =
                ap (λ n. get_or B n 0) (sym found.2) ∙ get_or-rank B found.0.atom (holds_at B found.0.atom (inside found.0 found.1)) in
                let from_cube = map_at opposite cube found.0 found.1 in
                let same_atom : found.0.atom ≡ from_cube.0.atom =
                ap (λ (m : Lit). m.atom) from_cube.2 ∙ opposite-atom from_cube.0 in
                ap (is_named_at g i cubes) (at ∙ same_atom) ∙ named-cube g i blocked cube from_cube.0 from_cube.1
          ];
      range = λ k m.
          elim (adds.atoms k m) [
            | inl before ↦ means.range k before
            | inr here ↦
                let found = mentioned-code B lits k here in
                subst (λ (n : ℕ). n < length B) found.2 (rank-within B found.0.atom (holds_at B found.0.atom (inside found.0 found.1)))
          ];
    }

-- what is sound without blocked cubes is sound beside them
pub sound-beside : (g : Game) (i : ℕ) (blocked : List (List Lit)) (lits : List Lit) → IsSoundClause g i [] lits → IsSoundClause g i blocked lits
sound-beside g i blocked lits sound = record {
  met = λ M N outer move out. sound.met M N outer move refl;
  atoms = sound.atoms;
  named = λ l h low.
      or_left (stands_at g i l.atom) (list_any (λ cube. list_any (λ m. m.atom == l.atom) cube) blocked)
      (or_none (stands_at g i l.atom) (sound.named l h low));
}
  where
    or_none : (b : Bool) → b || false ≡ true → b ≡ true
    or_none true e = refl
    or_none false e = absurd (cc)

-- ---- the same cubes in another order

-- what clauses say doesn't depend on the order of the cubes
pub means-members : (g : Game) (i : ℕ) (rules : List GroundRule) (cubes others : List (List Lit)) (clauses : List (List ℕ))
    → ((c : List Lit) → IsIn c cubes → IsIn c others) → ((c : List Lit) → IsIn c others → IsIn c cubes)
    → Means g i rules cubes clauses → Means g i rules others clauses
means-members g i rules cubes others clauses there back means =
    record {
      sound = λ M N v outer move out agrees.
          means.sound M N v outer move
          (all_from (λ c. not (cube_holds c N)) cubes (λ c h. all_at (λ d. not (cube_holds d N)) others c out (there c h))) agrees;
      models = means.models;
      outside = λ v N agrees sat.
          all_from (λ c. not (cube_holds c N)) others
          (λ c h. all_at (λ d. not (cube_holds d N)) cubes c (means.outside v N agrees sat) (back c h));
      named = λ k m low.
          let a : ℕ = get_or (base g i) k 0 in
          let has : List Lit → Bool = λ c. list_any (λ l. l.atom == a) c in
          elim (either (stands_at g i a) (list_any has cubes) (means.named k m low)) [
            | inl one ↦ or_left (stands_at g i a) (list_any has others) one
            | inr two ↦
                let found = any_at has cubes two in
                or_right (stands_at g i a) (list_any has others) (any_from has others found.0 (there found.0 found.1) found.2)
          ];
      range = means.range;
    }

-- a cube more at the end of the kept ones, before the blocked ones
pub means-keep : (g : Game) (i : ℕ) (rules : List GroundRule) (kept blocked : List (List Lit)) (old new : List (List ℕ)) (cube : List Lit)
    → Means g i rules (kept ++ blocked) old → ((l : Lit) → IsIn l cube → holds (base g i) l.atom ≡ true)
    → AddsClause old new (codes (base g i) (map opposite cube)) → Means g i rules ((kept ++ cube ∷ []) ++ blocked) new
means-keep g i rules kept blocked old new cube means atoms adds =
    let one : List (List Lit) = cube ∷ [] in
    means-members g i rules ((kept ++ blocked) ++ one) ((kept ++ one) ++ blocked) new
    (λ c h.
    elim (append_at (kept ++ blocked) one c h) [
      | inl both_lists ↦ elim (append_at kept blocked c both_lists) [
        | inl k ↦ append_left (kept ++ one) blocked c (append_left kept one c k)
        | inr b ↦ append_right (kept ++ one) blocked c b
      ]
      | inr last ↦ append_left (kept ++ one) blocked c (append_right kept one c last)
    ])
    (λ c h.
    elim (append_at (kept ++ one) blocked c h) [
      | inl front ↦ elim (append_at kept one c front) [
        | inl k ↦ append_left (kept ++ blocked) one c (append_left kept blocked c k)
        | inr last ↦ append_right (kept ++ blocked) one c last
      ]
      | inr b ↦ append_left (kept ++ blocked) one c (append_right kept blocked c b)
    ])
    (means-block g i rules (kept ++ blocked) old new cube means atoms adds)
