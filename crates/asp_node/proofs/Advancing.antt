-- Shelf, moves and child go on together, from one call to the next.
use Rattle.std.proofs.Common.{◌≡◌, ◌≢◌, refl, sym, ap, ◌∙◌, subst, ℕ, Bool, true, false, not, List, length, arith}
use Rattle.std.specs.Bool.{beq}
use Rattle.std.specs.List.{list_all}
use Rattle.asp_bits.specs.Places.{true_places}
use Rattle.asp_defs.specs.declared.ground.Game.{Game}
use Rattle.asp_defs.specs.declared.ground.Lit.{Lit}
use Rattle.asp_defs.specs.Interpretations.{holds}
use Rattle.asp_defs.specs.Games.{base, is_subset, IsValid}
use Rattle.asp_defs.specs.Entries.{Entry}
use Rattle.asp_defs.specs.History.{is_legal}
use Rattle.asp_defs.proofs.Lists.{append_left}
use Rattle.asp_game.specs.State.{MovesState, Unasked, Asked, asked, with_kept, without_cube}
use Rattle.asp_game.specs.Answers.{GoesOn as MovesStay, IsFound, is_on_base}
use Rattle.asp_store.specs.Shelves.{ShelfState, GoesOn}
use Rattle.asp_node.specs.Children.{ChildState, ChildGoesOn, RestsOn}
use Rattle.asp_node.specs.Ends.{winning_at, RefutingEntry, AreRefuted}
use Rattle.asp_node.specs.Places.{FitTogether}
use Rattle.asp_node.specs.Works.{Advances, IsAskedFor, IsWon}
use Rattle.asp_node.proofs.Steps.{shelf-then, shelf-same, child-then, child-same, moves-then, moves-same, moves-on, refuted-stay, rests-still, refuted-more, fit-stays, Answer, cube-inside, move-inside, found-move}

-- ---- what goes on

pub then : (g : Game) (i : ℕ) (s t v : ShelfState) (m n o : MovesState) (a b c : ChildState) → Advances g i s t m n a b → Advances g i t v n o b c → Advances g i s v m o a c
then g i s t v m n o a b c first second = record {
  shelf = shelf-then s t v first.shelf second.shelf;
  moves = moves-then m n o first.moves second.moves;
  child = child-then a b c first.child second.child;
  fit = second.fit;
}

pub legal-here : (g : Game) (i : ℕ) (s : ShelfState) (m : MovesState) (c : ChildState) → FitTogether g i s m c → is_legal s.game s.seen ≡ true
legal-here g i s m c fit = subst (λ (h : Game). is_legal h s.seen ≡ true) (sym fit.shelf) fit.legal

pub advances-same : (g : Game) (i : ℕ) (s : ShelfState) (m : MovesState) (c : ChildState) → FitTogether g i s m c → Advances g i s s m m c c
advances-same g i s m c fit = record {
  shelf = shelf-same s (legal-here g i s m c fit);
  moves = moves-same m;
  child = child-same c;
  fit = fit;
}

-- a question, or an answer to it, changes nothing of what is left out for good
own-kept : (g : Game) (i : ℕ) (H : List Entry) (m n : MovesState) → MovesStay m n → AreRefuted g i H m.kept → AreRefuted g i H n.kept
own-kept g i H m n goes refuted = subst (λ (cubes : List (List Lit)). AreRefuted g i H cubes) (sym (ap (λ s. s.kept) goes.question)) refuted

-- the moves answered, and then the shelf and the child went on
pub advances-asked : (g : Game) (i : ℕ) (s t : ShelfState) (m n : MovesState) (a b : ChildState) → FitTogether g i s m a → MovesStay m n → GoesOn s t → ChildGoesOn a b
    → RestsOn t.seen b → Advances g i s t m n a b
advances-asked g i s t m n a b fit goes shelf child rests = record {
  shelf = shelf;
  moves = moves-on m n goes;
  child = child;
  fit = fit-stays g i s t m n a b fit shelf (moves-on m n goes) child rests (refuted-stay g i s t n.kept shelf (own-kept g i s.seen m n goes fit.kept));
}

-- the moves alone did
pub advances-answered : (g : Game) (i : ℕ) (s : ShelfState) (m n : MovesState) (c : ChildState) → FitTogether g i s m c → MovesStay m n → Advances g i s s m n c c
advances-answered g i s m n c fit goes =
    advances-asked g i s s m n c c fit goes (shelf-same s (legal-here g i s m c fit)) (child-same c) fit.rests

-- and then the shelf went on
pub advances-shelf : (g : Game) (i : ℕ) (s t v : ShelfState) (m n : MovesState) (a b : ChildState) → Advances g i s t m n a b → GoesOn t v → Advances g i s v m n a b
advances-shelf g i s t v m n a b before goes = record {
  shelf = shelf-then s t v before.shelf goes;
  moves = before.moves;
  child = before.child;
  fit = fit-stays g i t v n n b b before.fit goes (moves-same n) (child-same b) (rests-still t v b goes before.fit.rests) (refuted-stay g i t v n.kept goes before.fit.kept);
}

-- the moves answered, and then the shelf and the child went on, and then the shelf
pub advances-copied : (g : Game) (i : ℕ) (s t v : ShelfState) (m n : MovesState) (a b : ChildState) → FitTogether g i s m a → MovesStay m n → GoesOn s t → ChildGoesOn a b
    → RestsOn t.seen b → GoesOn t v → Advances g i s v m n a b
advances-copied g i s t v m n a b fit goes shelf child rests more = advances-shelf g i s t v m n a b (advances-asked g i s t m n a b fit goes shelf child rests) more

pub advances-decided : (g : Game) (i : ℕ) (s t v w : ShelfState) (m n : MovesState) (a b : ChildState) → FitTogether g i s m a → MovesStay m n → GoesOn s t → ChildGoesOn a b
    → RestsOn t.seen b → GoesOn t v → GoesOn v w → Advances g i s w m n a b
advances-decided g i s t v w m n a b fit goes shelf child rests more last =
    advances-shelf g i s v w m n a b (advances-copied g i s t v m n a b fit goes shelf child rests more) last

-- a cube that an entry refutes is left out for good
pub advances-kept : (g : Game) (i : ℕ) (s t : ShelfState) (m n o : MovesState) (a b : ChildState) (cube : List Lit) → Advances g i s t m n a b
    → RefutingEntry g i t.seen cube → o ≡ with_kept n cube → Advances g i s t m o a b
advances-kept g i s t m n o a b cube before r is =
    subst (λ (p : MovesState). Advances g i s t m p a b) (sym is) (record {
      shelf = before.shelf;
      moves = record { game = before.moves.game; level = before.moves.level; budget = before.moves.budget; searches = before.moves.searches; checks = before.moves.checks };
      child = before.child;
      fit = record {
        shelf = before.fit.shelf;
        legal = before.fit.legal;
        moves = before.fit.moves;
        level = before.fit.level;
        child = before.fit.child;
        next = before.fit.next;
        budget = before.fit.budget;
        rests = before.fit.rests;
        kept = refuted-more g i t.seen n.kept cube before.fit.kept r;
      };
    })

-- memory for it was refused
pub advances-refused : (g : Game) (i : ℕ) (s t : ShelfState) (m n o : MovesState) (a b : ChildState) → Advances g i s t m n a b
    → o ≡ without_cube n → Advances g i s t m o a b
advances-refused g i s t m n o a b before is =
    subst (λ (p : MovesState). Advances g i s t m p a b) (sym is) (record {
      shelf = before.shelf;
      moves = record { game = before.moves.game; level = before.moves.level; budget = before.moves.budget; searches = before.moves.searches; checks = before.moves.checks };
      child = before.child;
      fit = record {
        shelf = before.fit.shelf;
        legal = before.fit.legal;
        moves = before.fit.moves;
        level = before.fit.level;
        child = before.fit.child;
        next = before.fit.next;
        budget = before.fit.budget;
        rests = before.fit.rests;
        kept = before.fit.kept;
      };
    })

-- a question was put
pub advances-begun : (g : Game) (i : ℕ) (s : ShelfState) (m n : MovesState) (c : ChildState) (M : List ℕ) (lits : List Lit) (ordered : Bool) → FitTogether g i s m c
    → n ≡ asked m M lits ordered → Advances g i s s m n c c
advances-begun g i s m n c M lits ordered fit is =
    subst (λ (p : MovesState). Advances g i s s m p c c) (sym is) (record {
      shelf = shelf-same s (legal-here g i s m c fit);
      moves = record { game = refl; level = refl; budget = refl; searches = omega arith; checks = omega arith };
      child = child-same c;
      fit = record {
        shelf = fit.shelf;
        legal = fit.legal;
        moves = fit.moves;
        level = fit.level;
        child = fit.child;
        next = fit.next;
        budget = fit.budget;
        rests = fit.rests;
        kept = fit.kept;
      };
    })

-- a question wasn't put
pub advances-unmoved : (g : Game) (i : ℕ) (s t : ShelfState) (m n o : MovesState) (a b : ChildState) → Advances g i s t m n a b → o ≡ n → Advances g i s t m o a b
advances-unmoved g i s t m n o a b before is = subst (λ (p : MovesState). Advances g i s t m p a b) (sym is) before

-- a question was put, and then the search went on
pub advances-put : (g : Game) (i : ℕ) (s t : ShelfState) (m n o : MovesState) (a b : ChildState) (M : List ℕ) (lits : List Lit) (ordered : Bool) → Advances g i s t m n a b
    → o ≡ asked n M lits ordered → Advances g i s t m o a b
advances-put g i s t m n o a b M lits ordered before is = then g i s t t m n o a b b before (advances-begun g i t n o b M lits ordered before.fit is)

begun-apart : Asked ≢ Unasked
begun-apart same = cc

pub asked-for : (m n : MovesState) (M : List ℕ) (lits : List Lit) (ordered : Bool) → n ≡ asked m M lits ordered → IsAskedFor n M lits
asked-for m n M lits ordered is =
    subst (λ (p : MovesState). IsAskedFor p M lits) (sym is) (record { begun = begun-apart; outer = refl; region = refl; blocked = refl })

-- ---- the answer to a question

pub answer-stays : (s t : ShelfState) (i : ℕ) (N : List ℕ) (e : Entry) → GoesOn s t → Answer s.seen i N e → Answer t.seen i N e
answer-stays s t i N e goes a =
    subst (λ (H : List Entry). Answer H i N e) (sym goes.prefix) (record {
      member = append_left s.seen goes.more e a.member;
      level = a.level;
      holds = a.holds;
    })

pub answer-wins : (g : Game) (i : ℕ) (H : List Entry) (N : List ℕ) (e : Entry) → Answer H i N e → e.verdict ≡ winning_at g i → IsWon g i H N e
answer-wins g i H N e a wins = record { member = a.member; level = a.level; verdict = wins; holds = a.holds }

same_verdict : (x y : Bool) → beq x y ≡ true → x ≡ y
same_verdict true true h = refl
same_verdict true false h = absurd (cc)
same_verdict false true h = absurd (cc)
same_verdict false false h = refl

-- of an entry as it was copied: its verdict, which was compared with the winning one
pub verdict-wins : (e d : Entry) (w v : Bool) → e ≡ d → beq e.verdict w ≡ true → w ≡ v → d.verdict ≡ v
verdict-wins e d w v is equal wins = ap (λ (x : Entry). x.verdict) (sym is) ∙ (same_verdict e.verdict w equal ∙ wins)

other_verdict : (x y : Bool) → beq x y ≡ false → x ≡ not y
other_verdict true true h = absurd (cc)
other_verdict true false h = refl
other_verdict false true h = refl
other_verdict false false h = absurd (cc)

pub answer-refutes : (g : Game) (i : ℕ) (H : List Entry) (N : List ℕ) (e : Entry) → Answer H i N e → beq e.verdict (winning_at g i) ≡ false → RefutingEntry g i H e.cube
answer-refutes g i H N e a loses = record {
  entry = e;
  member = a.member;
  level = a.level;
  verdict = other_verdict e.verdict (winning_at g i) loses;
  cube = refl;
}

-- the cube of an answer is on the base of the level
pub answer-base : (g : Game) (i : ℕ) (H : List Entry) (N : List ℕ) (e : Entry) (m : MovesState) → is_legal g H ≡ true → m.game ≡ g → m.level ≡ i → Answer H i N e
    → is_on_base m e.cube ≡ true
answer-base g i H N e m legal game level a =
    subst (λ (h : Game). list_all (λ l. holds (base h m.level) l.atom) e.cube ≡ true) (sym game)
    (subst (λ (k : ℕ). list_all (λ l. holds (base g k) l.atom) e.cube ≡ true) (sym level) (cube-inside g i H N e legal a))

-- ---- the question

pub found-places : (g : Game) (m : MovesState) (set : List Bool) → m.game ≡ g → IsFound m set → length set ≡ length g.bases.atoms
found-places g m set game f = f.places ∙ ap (λ (h : Game). length h.bases.atoms) game

pub found-inside : (g : Game) (i : ℕ) (M : List ℕ) (lits : List Lit) (s : ShelfState) (m : MovesState) (c : ChildState) (set : List Bool) → IsValid g
    → FitTogether g i s m c → IsAskedFor m M lits → IsFound m set → is_subset (true_places set) (base c.game i) ≡ true
found-inside g i M lits s m c set valid fit asked f =
    subst (λ (h : Game). is_subset (true_places set) (base h i) ≡ true) (sym fit.child)
    (move-inside g i M (true_places set) valid (found-move g i M lits m set fit.moves fit.level asked f))
