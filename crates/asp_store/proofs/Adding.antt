-- What an addition answers, and what it leaves.
use Rattle.std.proofs.Common.{◌≡◌, refl, sym, ap, ◌∙◌, subst, ℕ, ◌+◌, ◌-◌, ◌<◌, ◌≤◌, true, ◌&&◌, nat_lt, List, [], ◌∷◌, ◌++◌, length, map, Some, None, arith}
use Rattle.std.specs.Prelude.{nat_le}
use Rattle.std.specs.List.{list_all}
use Rattle.std.proofs.lemmas.Bool.{leb-true}
use Rattle.asp_defs.specs.declared.faults.Kind.TheVariants.{Store as StoreKind}
use Rattle.asp_defs.specs.declared.faults.Unknown.{Unknown}
use Rattle.asp_defs.specs.declared.ground.Game.{Game}
use Rattle.asp_defs.specs.Interpretations.{holds}
use Rattle.asp_defs.specs.Games.{level_count, base, is_subset, within, ascends, IsValid}
use Rattle.asp_defs.specs.Entries.{Entry, is_entry, stands_from, cube_holds, cost}
use Rattle.asp_defs.specs.History.{is_justified}
use Rattle.asp_defs.proofs.Lists.{both, all_at, all_from}
use Rattle.asp_defs.proofs.Subsets.{holds_at}
use Rattle.asp_reduct.specs.Bounds.{are_below}
use Rattle.asp_store.specs.Histories.{StoreState, first_held}
use Rattle.asp_store.specs.Stores.{IsKept, IsFull, IsAppended, IsKnown, snoc_at}
use Rattle.asp_store.proofs.Held.{first_held-same}
use Rattle.asp_store.proofs.Keeping.{atom-below, kept-more}

-- what an addition needs of a formed entry
pub record Parts (g : Game) (e : Entry) : Type 0 where
  pub last : e.level ≤ level_count g + 1
  pub seed : within e.seed (base g (e.level - 1)) ≡ true

pub parts : (g : Game) (e : Entry) → is_entry g e ≡ true → Parts g e
parts g e h =
    let B = base g (e.level - 1) in
    let one = both (nat_le 1 e.level && nat_le e.level (level_count g + 1)) ((is_subset (map (λ l. l.atom) e.cube) B && list_all (λ l. stands_from g e.level l.atom) e.cube) && (is_subset e.seed B && cube_holds e.cube e.seed)) h in
    let levels = both (nat_le 1 e.level) (nat_le e.level (level_count g + 1)) one.0 in
    let two = both (is_subset (map (λ l. l.atom) e.cube) B && list_all (λ l. stands_from g e.level l.atom) e.cube) (is_subset e.seed B && cube_holds e.cube e.seed) one.1 in
    let seeds = both (is_subset e.seed B) (cube_holds e.cube e.seed) two.1 in
    record {
      last = leb-true e.level (level_count g + 1) levels.1;
      seed = (both (ascends e.seed) (within e.seed B) seeds.0).1;
    }

-- the atoms of a seed are atoms of the game
pub seed-below : (g : Game) (e : Entry) (count : ℕ) (atoms : List ℕ) → IsValid g → is_entry g e ≡ true → count ≡ length g.bases.atoms → atoms ≡ e.seed → are_below count atoms ≡ true
seed-below g e count atoms valid formed same is =
    let p = parts g e formed in
    let low = p.last in
    subst (λ (k : ℕ). are_below k atoms ≡ true) (sym same)
    (subst (λ (xs : List ℕ). are_below (length g.bases.atoms) xs ≡ true) (sym is)
    (all_from (λ a. nat_lt a (length g.bases.atoms)) e.seed (λ a i.
    atom-below g (e.level - 1) a valid (omega (arith, low))
    (holds_at (base g (e.level - 1)) a (all_at (holds (base g (e.level - 1))) e.seed a p.seed i)))))

-- an entry of the level holds the seed, and the first such one was found
pub known : (s : StoreState) (e : Entry) (M : List ℕ) (found at : ℕ) → ((a : ℕ) → holds M a ≡ holds e.seed a) → Some found ≡ first_held s.history e.level M → found ≡ at → IsKnown s s e at
known s e M found at same told is = record {
  held = sym (first_held-same M e.seed same s.history e.level) ∙ (sym told ∙ ap Some is);
  unchanged = refl;
}

-- none does, and the cells don't suffice
pub full : (g : Game) (allowed kept price : ℕ) (H : List Entry) (levels : List (List ℕ)) (e : Entry) (M : List ℕ) (u : Unknown) → IsKept g allowed kept H levels
    → ((a : ℕ) → holds M a ≡ holds e.seed a) → None ≡ first_held H e.level M → price ≡ cost e → allowed - kept < price → record { kind = StoreKind; level = e.level; budget = allowed } ≡ u
    → IsFull (record { game = g; allowed = allowed; history = H }) e u
full g allowed kept price H levels e M u k same none price_is past is =
    let counted = k.counted in
    let within = k.within in
    record {
      fresh = sym (first_held-same M e.seed same H e.level) ∙ sym none;
      exceeds = omega (arith, counted, within, price_is, past);
      unknown = sym is;
    }

-- none does, and they suffice
pub appended : (g : Game) (allowed kept price : ℕ) (H after : List Entry) (levels : List (List ℕ)) (e : Entry) (M : List ℕ) (place at : ℕ) → IsKept g allowed kept H levels
    → ((a : ℕ) → holds M a ≡ holds e.seed a) → None ≡ first_held H e.level M → price ≡ cost e → price ≤ allowed - kept → place ≡ length H → place ≡ at → after ≡ H ++ e ∷ []
    → IsAppended (record { game = g; allowed = allowed; history = H }) (record { game = g; allowed = allowed; history = after }) e at
appended g allowed kept price H after levels e M place at k same none price_is fits place_is at_is is =
    let counted = k.counted in
    let within = k.within in
    record {
      fresh = sym (first_held-same M e.seed same H e.level) ∙ sym none;
      fits = omega (arith, counted, within, price_is, fits);
      place = sym at_is ∙ place_is;
      appended = ap (λ (xs : List Entry). record { game = g; allowed = allowed; history = xs }) is;
    }

pub keeps : (g : Game) (allowed kept price : ℕ) (H after : List Entry) (levels later : List (List ℕ)) (e : Entry) (M : List ℕ) → IsKept g allowed kept H levels
    → is_entry g e ≡ true → is_justified g H e ≡ true → ((a : ℕ) → holds M a ≡ holds e.seed a) → None ≡ first_held H e.level M → price ≡ cost e → price ≤ allowed - kept
    → after ≡ H ++ e ∷ [] → later ≡ snoc_at levels e.level (length H) → IsKept g allowed (kept + price) after later
keeps g allowed kept price H after levels later e M k formed justified same none price_is fits is later_is =
    let counted = k.counted in
    let within = k.within in
    let low = (parts g e formed).last in
    kept-more g allowed kept (kept + price) H after levels later e k formed justified (sym (first_held-same M e.seed same H e.level) ∙ sym none)
    (omega (arith, counted, within, price_is, fits)) (ap (λ p. kept + p) price_is) is later_is (omega (arith, low))
