-- A level's worker with those of the later levels: what holds of both holds of them together, and back.
use Rattle.std.proofs.Common.{◌≡◌, ◌≢◌, refl, sym, ap, ◌∙◌, subst, ℕ, zero, suc, ◌+◌, ◌<◌, ◌≤◌, inl, inr, true, List, [], ◌∷◌, get_or, arith}
use Rattle.asp_defs.specs.declared.faults.Kind.{Kind}
use Rattle.asp_defs.specs.declared.faults.Kind.TheVariants.{Search, Minimal, Store}
use Rattle.asp_defs.specs.declared.faults.Unknown.{Unknown}
use Rattle.asp_defs.specs.declared.ground.Game.{Game}
use Rattle.asp_defs.specs.Games.{IsValid, level_count}
use Rattle.asp_defs.specs.Entries.{Entry}
use Rattle.asp_defs.specs.History.{is_legal}
use Rattle.asp_defs.specs.Unknowns.{enough_placements}
use Rattle.asp_game.specs.State.{MovesState}
use Rattle.asp_game.specs.Answers.{IsSpent, KindRose, Rose}
use Rattle.asp_store.specs.Shelves.{ShelfState}
use Rattle.asp_node.specs.Children.{ChildState, ChildGoesOn, RestsOn, count_at}
use Rattle.asp_node.specs.Causes.{IsSearchSpent, IsAskSpent, IsRegionSpent}
use Rattle.asp_node.specs.Ends.{AreRefuted}
use Rattle.asp_node.specs.Places.{FitTogether}
use Rattle.asp_node.specs.Works.{MovesGoOn}
use Rattle.asp_team.specs.States.{layer_state, IsLayered, IsFresh}

no-place : (i : ℕ) → i + 0 ≡ i
no-place i = omega arith

next-place : (place : ℕ) → suc place ≡ place + 1
next-place place = omega arith

further : (i j place : ℕ) → j ≡ i + 1 → i + (place + 1) ≡ j + place
further i j place next = omega (arith, next)

behind-next : (i j place : ℕ) → j ≡ i + 1 → j + place ≡ i + suc place
behind-next i j place next = omega (arith, next)

pub same-level : (own first level : ℕ) → own ≡ first → first ≤ level → level ≤ own → own ≡ level
same-level own first level same low high = omega (arith, same, low, high)

-- ---- what is left out for good

pub rests-child : (m : MovesState) (c : ChildState) (seen : List Entry) → IsLayered m c → RestsOn seen (layer_state m c) → RestsOn seen c
rests-child m c seen l rests place =
    subst (λ (k : ℕ). AreRefuted c.game k seen (get_or c.kept place [])) (further m.level c.level place l.next)
    (subst (λ (g : Game). AreRefuted g (m.level + (place + 1)) seen (get_or c.kept place [])) (sym l.game)
    (subst (λ (k : ℕ). AreRefuted m.game (m.level + k) seen (get_or c.kept place [])) (next-place place) (rests (suc place))))

pub rests-own : (m : MovesState) (c : ChildState) (seen : List Entry) → RestsOn seen (layer_state m c) → AreRefuted m.game m.level seen m.kept
rests-own m c seen rests = subst (λ (k : ℕ). AreRefuted m.game k seen m.kept) (no-place m.level) (rests 0)

pub rests-both : (m : MovesState) (c : ChildState) (seen : List Entry) → IsLayered m c → AreRefuted m.game m.level seen m.kept → RestsOn seen c → RestsOn seen (layer_state m c)
rests-both m c seen l own rests zero = subst (λ (k : ℕ). AreRefuted m.game k seen m.kept) (sym (no-place m.level)) own
rests-both m c seen l own rests (suc place) =
    subst (λ (k : ℕ). AreRefuted m.game k seen (get_or c.kept place [])) (behind-next m.level c.level place l.next)
    (subst (λ (g : Game). AreRefuted g (c.level + place) seen (get_or c.kept place [])) l.game (rests place))

-- ---- what stays

pub layered-stays : (m n : MovesState) (c d : ChildState) → IsLayered m c → MovesGoOn m n → ChildGoesOn c d → IsLayered n d
layered-stays m n c d l moves child = record {
  valid = subst (λ (g : Game). IsValid g) (sym moves.game) l.valid;
  first = subst (λ (k : ℕ). 1 ≤ k) (sym moves.level) l.first;
  last = subst (λ (g : Game). n.level ≤ level_count g) (sym moves.game) (subst (λ (k : ℕ). k ≤ level_count m.game) (sym moves.level) l.last);
  game = child.game ∙ (l.game ∙ sym moves.game);
  next = child.level ∙ (l.next ∙ ap (λ k. k + 1) (sym moves.level));
  budget = child.budget ∙ (l.budget ∙ sym moves.budget);
}

counts-grow : (m n : MovesState) (c d : ChildState) (kind : Kind) (place : ℕ) → MovesGoOn m n → ChildGoesOn c d
    → count_at (layer_state m c) kind place ≤ count_at (layer_state n d) kind place
counts-grow m n c d Search zero moves child = moves.searches
counts-grow m n c d Search (suc place) moves child = child.counts Search place
counts-grow m n c d Minimal zero moves child = moves.checks
counts-grow m n c d Minimal (suc place) moves child = child.counts Minimal place
counts-grow m n c d Store place moves child = omega arith

pub layer-goes : (m n : MovesState) (c d : ChildState) → MovesGoOn m n → ChildGoesOn c d → ChildGoesOn (layer_state m c) (layer_state n d)
layer-goes m n c d moves child = record {
  game = moves.game;
  level = moves.level;
  budget = moves.budget;
  counts = λ kind place. counts-grow m n c d kind place moves child;
}

-- ---- what fits together

pub fits : (m : MovesState) (c : ChildState) (s : ShelfState) (g : Game) (i : ℕ) → IsLayered m c → g ≡ m.game → i ≡ m.level → s.game ≡ m.game → is_legal s.game s.seen ≡ true
    → RestsOn s.seen (layer_state m c) → FitTogether g i s m c
fits m c s g i l game level shelf legal rests =
    subst (λ (h : Game). FitTogether h i s m c) (sym game)
    (subst (λ (k : ℕ). FitTogether m.game k s m c) (sym level) (record {
      shelf = shelf;
      legal = subst (λ (h : Game). is_legal h s.seen ≡ true) shelf legal;
      moves = refl;
      level = refl;
      child = l.game;
      next = l.next;
      budget = l.budget;
      rests = rests-child m c s.seen l rests;
      kept = rests-own m c s.seen rests;
    }))

pub rests-after : (m n : MovesState) (c d : ChildState) (s : ShelfState) (g : Game) (i : ℕ) → IsLayered m c → g ≡ m.game → i ≡ m.level → MovesGoOn m n → ChildGoesOn c d
    → FitTogether g i s n d → RestsOn s.seen (layer_state n d)
rests-after m n c d s g i l game level moves child fit =
    rests-both n d s.seen (layered-stays m n c d l moves child)
    (subst (λ (h : Game). AreRefuted h n.level s.seen n.kept) (sym fit.moves) (subst (λ (k : ℕ). AreRefuted g k s.seen n.kept) (sym fit.level) fit.kept))
    fit.rests

-- ---- causes

own-rose : (m n : MovesState) (c d : ChildState) (kind : Kind) → KindRose kind m n → Rose (count_at (layer_state m c) kind 0) (count_at (layer_state n d) kind 0)
own-rose m n c d Search rose = rose
own-rose m n c d Minimal rose = rose
own-rose m n c d Store rose = absurd rose

child-rose : (m n : MovesState) (c d : ChildState) (kind : Kind) (place : ℕ) → kind ≢ Store → Rose (count_at c kind place) (count_at d kind place)
    → Rose (count_at (layer_state m c) kind (suc place)) (count_at (layer_state n d) kind (suc place))
child-rose m n c d Search place other rose = rose
child-rose m n c d Minimal place other rose = rose
child-rose m n c d Store place other rose = absurd (other refl)

no-store : (kind : Kind) (m n : MovesState) → KindRose kind m n → kind ≢ Store
no-store Search m n rose same = absurd (cc)
no-store Minimal m n rose same = absurd (cc)
no-store Store m n rose same = absurd rose

own-spent : (m n : MovesState) (c d : ChildState) (u : Unknown) → IsLayered m c → IsSpent m n u → IsSearchSpent (layer_state m c) (layer_state n d) u
own-spent m n c d u l s = record {
  kind = no-store u.kind m n s.rose;
  first = subst (λ (k : ℕ). 1 ≤ k) (sym s.level) l.first;
  last = subst (λ (k : ℕ). k ≤ level_count m.game) (sym s.level) l.last;
  budget = s.budget;
  few = subst (λ (k : ℕ). m.budget < enough_placements m.game k) (sym s.level) s.few;
  place = 0;
  behind = s.level ∙ sym (no-place m.level);
  rose = own-rose m n c d u.kind s.rose;
}

child-spent : (m n : MovesState) (c d : ChildState) (u : Unknown) → IsLayered m c → IsSearchSpent c d u → IsSearchSpent (layer_state m c) (layer_state n d) u
child-spent m n c d u l s = record {
  kind = s.kind;
  first = s.first;
  last = subst (λ (g : Game). u.level ≤ level_count g) l.game s.last;
  budget = s.budget ∙ l.budget;
  few = subst (λ (g : Game). m.budget < enough_placements g u.level) l.game (subst (λ (k : ℕ). k < enough_placements c.game u.level) l.budget s.few);
  place = suc s.place;
  behind = s.behind ∙ behind-next m.level c.level s.place l.next;
  rose = child-rose m n c d u.kind s.place s.kind s.rose;
}

pub ask-spent : (s t : ShelfState) (m n : MovesState) (c d : ChildState) (u : Unknown) → IsLayered m c → IsAskSpent s t c d u
    → IsAskSpent s t (layer_state m c) (layer_state n d) u
ask-spent s t m n c d u l (inl search) = inl (child-spent m n c d u l search)
ask-spent s t m n c d u l (inr store) = inr store

pub region-spent : (s t : ShelfState) (m n : MovesState) (c d : ChildState) (u : Unknown) → IsLayered m c → IsRegionSpent s t m n c d u
    → IsAskSpent s t (layer_state m c) (layer_state n d) u
region-spent s t m n c d u l (inl own) = inl (own-spent m n c d u l own)
region-spent s t m n c d u l (inr below) = ask-spent s t m n c d u l below

-- ---- of whom nothing was asked yet

pub fresh-layer : (m : MovesState) (c : ChildState) (g : Game) (i most : ℕ) → m.game ≡ g → m.level ≡ i → m.budget ≡ most → m.kept ≡ [] → m.searches ≡ 0 → m.checks ≡ 0
    → IsFresh g (i + 1) most c → IsFresh g i most (layer_state m c)
fresh-layer m c g i most game level budget kept searches checks f = record {
  game = game;
  level = level;
  budget = budget;
  kept = left;
  spent = counts;
}
  where
    left : (place : ℕ) → get_or (m.kept ∷ c.kept) place [] ≡ []
    left zero = kept
    left (suc place) = f.kept place

    counts : (kind : Kind) (place : ℕ) → count_at (layer_state m c) kind place ≡ 0
    counts Search zero = searches
    counts Search (suc place) = f.spent Search place
    counts Minimal zero = checks
    counts Minimal (suc place) = f.spent Minimal place
    counts Store place = refl

pub fresh-layered : (m : MovesState) (c : ChildState) (g : Game) (i most : ℕ) → IsValid g → 1 ≤ i → i ≤ level_count g → m.game ≡ g → m.level ≡ i → m.budget ≡ most
    → IsFresh g (i + 1) most c → IsLayered m c
fresh-layered m c g i most valid first last game level budget f = record {
  valid = subst (λ (h : Game). IsValid h) (sym game) valid;
  first = subst (λ (k : ℕ). 1 ≤ k) (sym level) first;
  last = subst (λ (h : Game). m.level ≤ level_count h) (sym game) (subst (λ (k : ℕ). k ≤ level_count g) (sym level) last);
  game = f.game ∙ sym game;
  next = f.level ∙ ap (λ k. k + 1) (sym level);
  budget = f.budget ∙ sym budget;
}
