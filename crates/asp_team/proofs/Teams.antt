-- A history with all who answer, one question after another.
use Rattle.std.proofs.Common.{◌≡◌, ◌≢◌, refl, sym, ap, ◌∙◌, subst, ℕ, zero, suc, ◌+◌, ◌-◌, ◌*◌, ◌<◌, ◌≤◌, inl, inr, true, List, [], get_or, replicate, arith}
use Rattle.asp_defs.specs.declared.faults.Kind.{Kind}
use Rattle.asp_defs.specs.declared.faults.Kind.TheVariants.{Search, Minimal, Store}
use Rattle.asp_defs.specs.declared.faults.Unknown.{Unknown}
use Rattle.asp_defs.specs.declared.ground.Game.{Game}
use Rattle.asp_defs.specs.Games.{IsValid, level_count, base_size}
use Rattle.asp_defs.specs.Entries.{Entry}
use Rattle.asp_defs.specs.Lists.{IsIn}
use Rattle.asp_defs.specs.declared.ground.Lit.{Lit}
use Rattle.asp_defs.specs.History.{is_legal, cells}
use Rattle.asp_defs.specs.Unknowns.{enough_cells}
use Rattle.asp_game.specs.Answers.{Rose}
use Rattle.asp_store.specs.Histories.{StoreState}
use Rattle.asp_store.specs.Shelves.{ShelfState, GoesOn, opened, refusals_at}
use Rattle.asp_node.specs.Children.{ChildState, ChildGoesOn, RestsOn, count_at}
use Rattle.asp_node.specs.Causes.{IsAskSpent}
use Rattle.asp_defs.specs.Shown.{spent_count}
use Rattle.asp_team.specs.States.{evidence_of, IsFresh, IsNew, TeamGoesOn, HasSpent}
use Rattle.asp_team.specs.Works.{IsAtWork}

counts-grow : (s t : ShelfState) (c d : ChildState) (kind : Kind) (level : ℕ) → GoesOn s t → ChildGoesOn c d
    → spent_count (evidence_of s c) kind level ≤ spent_count (evidence_of t d) kind level
counts-grow s t c d kind zero shelf child = none kind
  where
    none : (k : Kind) → spent_count (evidence_of s c) k 0 ≤ spent_count (evidence_of t d) k 0
    none Search = omega arith
    none Minimal = omega arith
    none Store = omega arith
counts-grow s t c d Search (suc place) shelf child = child.counts Search place
counts-grow s t c d Minimal (suc place) shelf child = child.counts Minimal place
counts-grow s t c d Store (suc place) shelf child = shelf.refusals (suc place)

pub team-goes : (s t : ShelfState) (c d : ChildState) → IsAtWork s c → GoesOn s t → ChildGoesOn c d → TeamGoesOn (evidence_of s c) (evidence_of t d)
team-goes s t c d w shelf child = record {
  game = child.game;
  budget = child.budget;
  allowed = shelf.allowed;
  counts = λ kind level. counts-grow s t c d kind level shelf child;
  more = shelf.more;
  prefix = shelf.prefix;
  legal = subst (λ (g : Game). is_legal g t.seen ≡ true) (shelf.game ∙ (w.game ∙ sym child.game)) shelf.legal;
}

pub work-goes : (s t : ShelfState) (c d : ChildState) → IsAtWork s c → GoesOn s t → ChildGoesOn c d → RestsOn t.seen d → IsAtWork t d
work-goes s t c d w shelf child rests = record {
  valid = subst (λ (g : Game). IsValid g) (sym child.game) w.valid;
  game = shelf.game ∙ (w.game ∙ sym child.game);
  level = child.level ∙ w.level;
  legal = shelf.legal;
  rests = rests;
}

search-count : (s t : ShelfState) (c d : ChildState) (kind : Kind) (place : ℕ) → kind ≢ Store → Rose (count_at c kind place) (count_at d kind place)
    → Rose (spent_count (evidence_of s c) kind (suc place)) (spent_count (evidence_of t d) kind (suc place))
search-count s t c d Search place other rose = rose
search-count s t c d Minimal place other rose = rose
search-count s t c d Store place other rose = absurd (other refl)

search-count-at : (s t : ShelfState) (c d : ChildState) (kind : Kind) (level place : ℕ) → kind ≢ Store → level ≡ suc place → Rose (count_at c kind place) (count_at d kind place)
    → Rose (spent_count (evidence_of s c) kind level) (spent_count (evidence_of t d) kind level)
search-count-at s t c d kind level place other at rose =
    subst (λ (k : ℕ). Rose (spent_count (evidence_of s c) kind k) (spent_count (evidence_of t d) kind k)) (sym at)
    (search-count s t c d kind place other rose)

store-count : (s t : ShelfState) (c d : ChildState) (kind : Kind) (level : ℕ) → kind ≡ Store → 1 ≤ level → Rose (refusals_at s level) (refusals_at t level)
    → Rose (spent_count (evidence_of s c) kind level) (spent_count (evidence_of t d) kind level)
store-count s t c d kind zero is first rose = absurd (omega (arith, first))
store-count s t c d kind (suc place) is first rose =
    subst (λ (k : Kind). Rose (spent_count (evidence_of s c) k (suc place)) (spent_count (evidence_of t d) k (suc place))) (sym is) rose

first-level : (level first place : ℕ) → level ≡ first + place → first ≡ 1 → level ≡ suc place
first-level level first place behind one = omega (arith, behind, one)

pub team-spent : (s t : ShelfState) (c d : ChildState) (u : Unknown) → IsAtWork s c → IsAtWork t d → IsAskSpent s t c d u → HasSpent (evidence_of s c) (evidence_of t d) u
team-spent s t c d u before w (inl x) = inl (record {
  kind = x.kind;
  first = x.first;
  last = x.last;
  budget = x.budget;
  few = x.few;
  rose = search-count-at s t c d u.kind u.level x.place x.kind (first-level u.level c.level x.place x.behind before.level) x.rose;
})
team-spent s t c d u before w (inr x) = inr (record {
  kind = x.kind;
  first = x.first;
  last = subst (λ (g : Game). u.level ≤ level_count g + 1) w.game x.last;
  budget = x.budget;
  exceeds = subst (λ (g : Game). t.allowed < cells t.seen + (1 + 2 * base_size g (u.level - 1))) w.game x.exceeds;
  few = subst (λ (g : Game). t.allowed < enough_cells g) w.game x.few;
  rose = store-count s t c d u.kind u.level x.kind x.first x.rose;
})

pub new-team : (g : Game) (most allowed : ℕ) (s : ShelfState) (c : ChildState) → s.allowed ≡ allowed → s.seen ≡ [] → ((level : ℕ) → refusals_at s level ≡ 0)
    → IsFresh g 1 most c → IsNew g most allowed (evidence_of s c)
new-team g most allowed s c cells_are seen none f = record {
  game = f.game;
  budget = f.budget;
  allowed = cells_are;
  history = seen;
  spent = counts;
}
  where
    counts : (kind : Kind) (level : ℕ) → spent_count (evidence_of s c) kind level ≡ 0
    counts Search zero = refl
    counts Search (suc place) = f.spent Search place
    counts Minimal zero = refl
    counts Minimal (suc place) = f.spent Minimal place
    counts Store zero = refl
    counts Store (suc place) = none (suc place)

pub new-work : (g : Game) (most : ℕ) (s : ShelfState) (c : ChildState) → IsValid g → s.game ≡ g → s.seen ≡ [] → IsFresh g 1 most c → IsAtWork s c
new-work g most s c valid shelf seen f = record {
  valid = subst (λ (h : Game). IsValid h) (sym f.game) valid;
  game = shelf ∙ sym f.game;
  level = f.level;
  legal = subst (λ (H : List Entry). is_legal s.game H ≡ true) (sym seen) refl;
  rests = λ place cube inside. absurd (subst (λ (cubes : List (List Lit)). IsIn cube cubes) (f.kept place) inside);
}

zeros : (n i : ℕ) → ◌≡◌ {A = ℕ} (get_or (replicate n 0) i 0) 0
zeros zero i = refl
zeros (suc n) zero = refl
zeros (suc n) (suc i) = zeros n i

none-refused : (store : StoreState) (level : ℕ) → refusals_at (opened store) level ≡ 0
none-refused store zero = refl
none-refused store (suc i) = zeros 17 i

pub opened-team : (g : Game) (most allowed : ℕ) (store : StoreState) (s : ShelfState) (c : ChildState) → store ≡ record { game = g; allowed = allowed; history = [] }
    → s ≡ opened store → IsFresh g 1 most c → IsNew g most allowed (evidence_of s c)
opened-team g most allowed store s c empty begun f =
    new-team g most allowed s c (ap (λ (t : ShelfState). t.allowed) begun ∙ ap (λ (t : StoreState). t.allowed) empty)
    (ap (λ (t : ShelfState). t.seen) begun ∙ ap (λ (t : StoreState). t.history) empty)
    (λ level. subst (λ (t : ShelfState). refusals_at t level ≡ 0) (sym begun) (none-refused store level)) f

pub opened-work : (g : Game) (most allowed : ℕ) (store : StoreState) (s : ShelfState) (c : ChildState) → IsValid g → store ≡ record { game = g; allowed = allowed; history = [] }
    → s ≡ opened store → IsFresh g 1 most c → IsAtWork s c
opened-work g most allowed store s c valid empty begun f =
    new-work g most s c valid (ap (λ (t : ShelfState). t.game) begun ∙ ap (λ (t : StoreState). t.game) empty)
    (ap (λ (t : ShelfState). t.seen) begun ∙ ap (λ (t : StoreState). t.history) empty) f
