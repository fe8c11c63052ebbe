-- One step after another: what is seen grows, no count falls, and what was said of what was seen stays.
use Rattle.std.proofs.Common.{◌≡◌, refl, sym, ap, ◌∙◌, subst, ℕ, zero, suc, ◌+◌, ◌-◌, ◌<◌, ◌≤◌, inl, inr, Bool, true, false, List, [], ◌∷◌, ◌++◌, length, map, get_or, append-nil, arith}
use Rattle.std.specs.Prelude.{◌==◌, Option, Some, None, Result, Ok, Err}
use Rattle.std.specs.List.{list_all, filter}
use Rattle.std.proofs.lemmas.List.{append_assoc}
use Rattle.std.proofs.lemmas.Bool.{eqb-true, eq-eqb}
use Rattle.asp_bits.specs.Places.{true_places}
use Rattle.asp_defs.specs.declared.faults.Give.{Give}
use Rattle.asp_defs.specs.declared.faults.Give.TheVariants.{Spent, NoMemory}
use Rattle.asp_defs.specs.declared.faults.Kind.{Kind}
use Rattle.asp_defs.specs.declared.faults.Kind.TheVariants.{Search, Minimal, Store}
use Rattle.asp_defs.specs.declared.faults.Unknown.{Unknown}
use Rattle.asp_defs.specs.declared.ground.Game.{Game}
use Rattle.asp_defs.specs.declared.ground.Lit.{Lit}
use Rattle.asp_defs.specs.Lists.{IsIn}
use Rattle.asp_defs.specs.Interpretations.{holds, subsets}
use Rattle.asp_defs.specs.Games.{level_count, base, is_subset, within, ascends, IsValid}
use Rattle.asp_defs.specs.Values.{moves}
use Rattle.asp_defs.specs.Entries.{Entry, cube_holds, is_entry}
use Rattle.asp_defs.specs.History.{is_legal}
use Rattle.asp_defs.specs.Unknowns.{enough_placements}
use Rattle.asp_defs.proofs.Lists.{both, and_true, all_at, all_from, filter_at, append_at, append_left, map_from, true_or_false}
use Rattle.asp_defs.proofs.Subsets.{true_is_not_false}
use Rattle.asp_defs.proofs.SubsetLaws.{subsets_are_listed}
use Rattle.asp_defs.proofs.Irrelevance.{base-up}
use Rattle.asp_reduct.proofs.Truths.{get_or-member}
use Rattle.asp_game.specs.State.{MovesState, asked, with_kept, left_out}
use Rattle.asp_game.specs.Questions.{is_open}
use Rattle.asp_game.specs.Answers.{IsFound, GoesOn as MovesStay, IsSpent, KindRose}
use Rattle.asp_game.proofs.Fewer.{fewer, open_before}
use Rattle.asp_store.specs.Histories.{holds_at}
use Rattle.asp_store.specs.Stores.{no_entry}
use Rattle.asp_store.specs.Shelves.{ShelfState, GoesOn, IsHolding, StandsAt}
use Rattle.asp_node.specs.declared.place.RegionEnd.{RegionEnd}
use Rattle.asp_node.specs.declared.place.RegionEnd.TheVariants.{Decided, Exhausted}
use Rattle.asp_node.specs.Children.{ChildState, ChildGoesOn, RestsOn}
use Rattle.asp_node.specs.Causes.{IsSearchSpent, IsStoreSpent, IsAskSpent, IsRegionSpent}
use Rattle.asp_node.specs.Ends.{RefutingEntry, AreRefuted}
use Rattle.asp_node.specs.Places.{FitTogether}
use Rattle.asp_node.specs.Works.{MovesGoOn, IsAskedFor, open_count}
use Rattle.asp_node.proofs.Formed.{legal-parts, parts_at}

-- ---- states

pub shelf-then : (a b c : ShelfState) → GoesOn a b → GoesOn b c → GoesOn a c
shelf-then a b c first second =
    let looks = first.looks in
    let more_looks = second.looks in
    record {
      game = second.game ∙ first.game;
      allowed = second.allowed ∙ first.allowed;
      looks = omega (arith, looks, more_looks);
      refusals = λ level. let one = first.refusals level in let two = second.refusals level in omega (arith, one, two);
      more = first.more ++ second.more;
      prefix = second.prefix ∙ (ap (λ xs. xs ++ second.more) first.prefix ∙ append_assoc a.seen first.more second.more);
      legal = second.legal;
    }

pub shelf-same : (a : ShelfState) → is_legal a.game a.seen ≡ true → GoesOn a a
shelf-same a legal = record {
  game = refl;
  allowed = refl;
  looks = omega arith;
  refusals = λ level. omega arith;
  more = [];
  prefix = sym (append-nil a.seen);
  legal = legal;
}

pub child-then : (a b c : ChildState) → ChildGoesOn a b → ChildGoesOn b c → ChildGoesOn a c
child-then a b c first second = record {
  game = second.game ∙ first.game;
  level = second.level ∙ first.level;
  budget = second.budget ∙ first.budget;
  counts = λ kind place. let one = first.counts kind place in let two = second.counts kind place in omega (arith, one, two);
}

pub child-same : (a : ChildState) → ChildGoesOn a a
child-same a = record { game = refl; level = refl; budget = refl; counts = λ kind place. omega arith }

pub moves-then : (a b c : MovesState) → MovesGoOn a b → MovesGoOn b c → MovesGoOn a c
moves-then a b c first second =
    let searches = first.searches in
    let more_searches = second.searches in
    let checks = first.checks in
    let more_checks = second.checks in
    record {
      game = second.game ∙ first.game;
      level = second.level ∙ first.level;
      budget = second.budget ∙ first.budget;
      searches = omega (arith, searches, more_searches);
      checks = omega (arith, checks, more_checks);
    }

pub moves-same : (a : MovesState) → MovesGoOn a a
moves-same a = record { game = refl; level = refl; budget = refl; searches = omega arith; checks = omega arith }

-- a step of the same question
pub moves-on : (a b : MovesState) → MovesStay a b → MovesGoOn a b
moves-on a b goes = record {
  game = ap (λ s. s.game) goes.question;
  level = ap (λ s. s.level) goes.question;
  budget = ap (λ s. s.budget) goes.question;
  searches = goes.searches;
  checks = goes.checks;
}

-- a state that differs in what doesn't count
pub moves-like : (a b c : MovesState) → b ≡ c → MovesGoOn a c → MovesGoOn a b
moves-like a b c same goes = subst (λ (s : MovesState). MovesGoOn a s) (sym same) goes

-- ---- what was seen

get-front : (H more : List Entry) (at : ℕ) → at < length H → get_or (H ++ more) at no_entry ≡ get_or H at no_entry
get-front [] more at h = absurd (omega arith)
get-front (e ∷ H) more zero h = refl
get-front (e ∷ H) more (suc at) h = get-front H more at (omega arith)

length-front : (H more : List Entry) → length H ≤ length (H ++ more)
length-front [] more = omega arith
length-front (e ∷ H) more = let h = length-front H more in omega (arith, h)

pub holding-stays : (a b : ShelfState) (level at : ℕ) (M : List ℕ) → GoesOn a b → IsHolding a.seen level M at → IsHolding b.seen level M at
holding-stays a b level at M goes h =
    let longer = length-front a.seen goes.more in
    let inside = h.inside in
    subst (λ (H : List Entry). IsHolding H level M at) (sym goes.prefix) (record {
      inside = omega (arith, longer, inside);
      holds = ap (holds_at level M) (get-front a.seen goes.more at inside) ∙ h.holds;
    })

refuting-stays : (g : Game) (i : ℕ) (H more : List Entry) (cube : List Lit) → RefutingEntry g i H cube → RefutingEntry g i (H ++ more) cube
refuting-stays g i H more cube r = record {
  entry = r.entry;
  member = append_left H more r.entry r.member;
  level = r.level;
  verdict = r.verdict;
  cube = r.cube;
}

pub refuted-stay : (g : Game) (i : ℕ) (a b : ShelfState) (cubes : List (List Lit)) → GoesOn a b → AreRefuted g i a.seen cubes → AreRefuted g i b.seen cubes
refuted-stay g i a b cubes goes refuted =
    subst (λ (H : List Entry). AreRefuted g i H cubes) (sym goes.prefix)
    (λ cube inside. refuting-stays g i a.seen goes.more cube (refuted cube inside))

pub back_one : (n k : ℕ) → k ≡ n + 1 → k - 1 ≡ n
back_one n k same = omega (arith, same)

pub rests-still : (a b : ShelfState) (c : ChildState) → GoesOn a b → RestsOn a.seen c → RestsOn b.seen c
rests-still a b c goes h place = refuted-stay c.game (c.level + place) a b (get_or c.kept place []) goes (h place)

pub refuted-more : (g : Game) (i : ℕ) (H : List Entry) (cubes : List (List Lit)) (last : List Lit) → AreRefuted g i H cubes → RefutingEntry g i H last → AreRefuted g i H (cubes ++ last ∷ [])
refuted-more g i H cubes last refuted r cube inside = elim (append_at cubes (last ∷ []) cube inside) [
  | inl earlier ↦ refuted cube earlier
  | inr same ↦ elim same [
    | inl is ↦ subst (λ (c : List Lit). RefutingEntry g i H c) (sym is) r
    | inr none ↦ absurd none
  ]
]

-- an entry that stands where one holds an interpretation
pub record Answer (H : List Entry) (i : ℕ) (N : List ℕ) (e : Entry) : Type 0 where
  pub member : IsIn e H
  pub level : e.level ≡ i + 1
  pub holds : cube_holds e.cube N ≡ true

pub answer : (H : List Entry) (i at : ℕ) (N : List ℕ) (e : Entry) → IsHolding H (i + 1) N at → StandsAt H e at → Answer H i N e
answer H i at N e h s =
    let holds : holds_at (i + 1) N e ≡ true = subst (λ (d : Entry). holds_at (i + 1) N d ≡ true) s.entry h.holds in
    let parts = both (e.level == i + 1) (cube_holds e.cube N) holds in
    record {
      member = subst (λ (d : Entry). IsIn d H) s.entry (get_or-member H at no_entry s.inside);
      level = eqb-true e.level (i + 1) parts.0;
      holds = parts.1;
    }

-- ---- moves

pub move-inside : (g : Game) (i : ℕ) (M N : List ℕ) → IsValid g → IsIn N (moves g i M) → is_subset N (base g i) ≡ true
move-inside g i M N valid member = (subsets_are_listed (base g i) N (base-up g i valid)).0 ((filter_at _ (subsets (base g i)) N member).0)

-- the atoms of the answer's cube lie in the base of the level
pub cube-inside : (g : Game) (i : ℕ) (H : List Entry) (N : List ℕ) (e : Entry) → is_legal g H ≡ true → Answer H i N e → list_all (λ l. holds (base g i) l.atom) e.cube ≡ true
cube-inside g i H N e legal a =
    let p = legal-parts g H legal e a.member in
    let back : e.level - 1 ≡ i = let level = a.level in omega (arith, level) in
    let inside : within (map (λ l. l.atom) e.cube) (base g i) ≡ true =
    subst (λ (k : ℕ). within (map (λ l. l.atom) e.cube) (base g k) ≡ true) back
    ((both (ascends (map (λ l. l.atom) e.cube)) (within (map (λ l. l.atom) e.cube) (base g (e.level - 1))) p.atoms).1) in
    all_from (λ l. holds (base g i) l.atom) e.cube (λ l member.
    all_at (holds (base g i)) (map (λ l. l.atom) e.cube) l.atom inside (map_from (λ l. l.atom) e.cube l member))

-- a move that was found is one after the place's outer move
pub found-move : (g : Game) (i : ℕ) (M : List ℕ) (region : List Lit) (s : MovesState) (set : List Bool) → s.game ≡ g → s.level ≡ i → IsAskedFor s M region → IsFound s set
    → IsIn (true_places set) (moves g i M)
found-move g i M region s set game level asked f =
    subst (λ (h : Game). IsIn (true_places set) (moves h i M)) game
    (subst (λ (k : ℕ). IsIn (true_places set) (moves s.game k M)) level
    (subst (λ (J : List ℕ). IsIn (true_places set) (moves s.game s.level J)) asked.outer
    ((filter_at (is_open s.region (left_out s)) (moves s.game s.level s.outer) (true_places set) f.open_move).0)))

-- after a cube that has the move was left out for good, fewer moves are left
own-fewer : (s : MovesState) (set : List Bool) (cube : List Lit) → s.blocked ≡ [] → IsFound s set → cube_holds cube (true_places set) ≡ true
    → open_count (with_kept s cube) s.outer s.region < open_count s s.outer s.region
own-fewer s set cube none f inside =
    let N : List ℕ = true_places set in
    let p : List ℕ → Bool = is_open s.region (s.kept ++ cube ∷ []) in
    let q : List ℕ → Bool = is_open s.region s.kept in
    let kept : s.kept ++ s.blocked ≡ s.kept = ap (λ (cs : List (List Lit)). s.kept ++ cs) none ∙ append-nil s.kept in
    let member = filter_at q (moves s.game s.level s.outer) N
    (subst (λ (cs : List (List Lit)). IsIn N (filter (is_open s.region cs) (moves s.game s.level s.outer))) kept f.open_move) in
    let drops : p N ≡ false =
    elim (true_or_false (p N)) [
      | inl open_still ↦ absurd (true_is_not_false (cube_holds cube N) inside ((open_before s.region s.kept cube N open_still).1))
      | inr closed ↦ closed
    ] in
    fewer p q (moves s.game s.level s.outer) N (λ J h. (open_before s.region s.kept cube J h).0) member.0 member.1 drops

pub fewer_left : (old mid new : MovesState) (M : List ℕ) (region : List Lit) (set : List Bool) (cube : List Lit) → MovesStay old mid → IsAskedFor old M region → IsFound old set
    → cube_holds cube (true_places set) ≡ true → new ≡ with_kept mid cube → open_count new M region < open_count old M region
fewer_left old mid new M region set cube goes asked f inside is =
    let P : MovesState → Type 0 = λ s. open_count s M region < open_count old M region in
    subst P (sym is) (subst (λ (s : MovesState). P (with_kept s cube)) (sym goes.question)
    (subst (λ (J : List ℕ). open_count (with_kept old cube) J region < open_count old J region) asked.outer
    (subst (λ (R : List Lit). open_count (with_kept old cube) old.outer R < open_count old old.outer R) asked.region
    (own-fewer old set cube asked.blocked f inside))))

-- ---- what fits together

pub fit-stays : (g : Game) (i : ℕ) (s s' : ShelfState) (m m' : MovesState) (c c' : ChildState) → FitTogether g i s m c → GoesOn s s' → MovesGoOn m m' → ChildGoesOn c c'
    → RestsOn s'.seen c' → AreRefuted g i s'.seen m'.kept → FitTogether g i s' m' c'
fit-stays g i s s' m m' c c' fit shelf moves child rests kept = record {
  shelf = shelf.game ∙ fit.shelf;
  legal = subst (λ (h : Game). is_legal h s'.seen ≡ true) (shelf.game ∙ fit.shelf) shelf.legal;
  moves = moves.game ∙ fit.moves;
  level = moves.level ∙ fit.level;
  child = child.game ∙ fit.child;
  next = child.level ∙ fit.next;
  budget = child.budget ∙ (fit.budget ∙ sym moves.budget);
  rests = rests;
  kept = kept;
}

-- ---- causes

pub search-earlier : (a b c : ChildState) (u : Unknown) → ChildGoesOn a b → IsSearchSpent b c u → IsSearchSpent a c u
search-earlier a b c u goes s =
    let fewer_counts = goes.counts u.kind s.place in
    let rose = s.rose in
    record {
      kind = s.kind;
      first = s.first;
      last = subst (λ (g : Game). u.level ≤ level_count g) goes.game s.last;
      budget = s.budget ∙ goes.budget;
      few = subst (λ (g : Game). a.budget < enough_placements g u.level) goes.game (subst (λ (k : ℕ). k < enough_placements b.game u.level) goes.budget s.few);
      place = s.place;
      behind = s.behind ∙ ap (λ k. k + s.place) goes.level;
      rose = omega (arith, fewer_counts, rose);
    }

pub store-earlier : (a b c : ShelfState) (u : Unknown) → GoesOn a b → IsStoreSpent b c u → IsStoreSpent a c u
store-earlier a b c u goes s =
    let fewer_counts = goes.refusals u.level in
    let rose = s.rose in
    record {
      kind = s.kind;
      first = s.first;
      last = s.last;
      budget = s.budget;
      exceeds = s.exceeds;
      few = s.few;
      rose = omega (arith, fewer_counts, rose);
    }

pub ask-earlier : (s t v : ShelfState) (a b c : ChildState) (u : Unknown) → GoesOn s t → ChildGoesOn a b → IsAskSpent t v b c u → IsAskSpent s v a c u
ask-earlier s t v a b c u shelf child (inl search) = inl (search-earlier a b c u child search)
ask-earlier s t v a b c u shelf child (inr store) = inr (store-earlier s t v u shelf store)

kind-earlier : (kind : Kind) (a b c : MovesState) → MovesGoOn a b → KindRose kind b c → KindRose kind a c
kind-earlier Search a b c goes rose = let fewer_counts = goes.searches in omega (arith, fewer_counts, rose)
kind-earlier Minimal a b c goes rose = let fewer_counts = goes.checks in omega (arith, fewer_counts, rose)
kind-earlier Store a b c goes rose = absurd rose

pub moves-earlier : (a b c : MovesState) (u : Unknown) → MovesGoOn a b → IsSpent b c u → IsSpent a c u
moves-earlier a b c u goes s = record {
  level = s.level ∙ goes.level;
  budget = s.budget ∙ goes.budget;
  few =
      subst (λ (g : Game). a.budget < enough_placements g a.level) goes.game
      (subst (λ (k : ℕ). a.budget < enough_placements b.game k) goes.level
      (subst (λ (k : ℕ). k < enough_placements b.game b.level) goes.budget s.few));
  rose = kind-earlier u.kind a b c goes s.rose;
}

pub region-earlier : (s t v : ShelfState) (m n o : MovesState) (a b c : ChildState) (u : Unknown) → GoesOn s t → MovesGoOn m n → ChildGoesOn a b
    → IsRegionSpent t v n o b c u → IsRegionSpent s v m o a c u
region-earlier s t v m n o a b c u shelf moves child (inl own) = inl (moves-earlier m n o u moves own)
region-earlier s t v m n o a b c u shelf moves child (inr below) = inr (ask-earlier s t v a b c u shelf child below)

-- ---- answers

abbrev position_in : {E : Type 0} → Result ℕ E → ℕ
position_in (Ok at) = at
position_in (Err e) = 0

pub ok-same : {E : Type 0} (x y : ℕ) → ◌≡◌ {A = Result ℕ E} (Ok x) (Ok y) → x ≡ y
ok-same {E} x y same = ap (position_in {E = E}) same

abbrev unknown_in : {A : Type 0} → Unknown → Result A Give → Unknown
unknown_in d (Ok x) = d
unknown_in d (Err (Spent u)) = u
unknown_in d (Err NoMemory) = d

pub spent-same : {A : Type 0} (u v : Unknown) → ◌≡◌ {A = Result A Give} (Err (Spent u)) (Err (Spent v)) → u ≡ v
spent-same {A} u v same = ap (unknown_in {A = A} u) same

abbrev end_place : Result (Option RegionEnd) Give → ℕ
end_place (Ok (Some (Decided at))) = at
end_place (Ok (Some (Exhausted cube))) = 0
end_place (Ok None) = 0
end_place (Err give) = 0

pub decided-same : (x y : ℕ) → ◌≡◌ {A = Result (Option RegionEnd) Give} (Ok (Some (Decided x))) (Ok (Some (Decided y))) → x ≡ y
decided-same x y same = ap end_place same

abbrev end_cube : Result (Option RegionEnd) Give → List Lit
end_cube (Ok (Some (Decided at))) = []
end_cube (Ok (Some (Exhausted cube))) = cube
end_cube (Ok None) = []
end_cube (Err give) = []

pub exhausted-same : (x y : List Lit) → ◌≡◌ {A = Result (Option RegionEnd) Give} (Ok (Some (Exhausted x))) (Ok (Some (Exhausted y))) → x ≡ y
exhausted-same x y same = ap end_cube same

-- an entry that was added holds its own seed
pub holding-own : (g : Game) (H : List Entry) (e : Entry) (at : ℕ) → is_entry g e ≡ true → StandsAt H e at → IsHolding H e.level e.seed at
holding-own g H e at formed s = record {
  inside = s.inside;
  holds =
      subst (λ (d : Entry). holds_at e.level e.seed d ≡ true) (sym s.entry)
      (and_true (e.level == e.level) (cube_holds e.cube e.seed) (eq-eqb e.level e.level refl) ((parts_at g e formed).held));
}
