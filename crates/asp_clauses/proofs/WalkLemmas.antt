-- The walk along a list of watching clauses.
use Rattle.std.proofs.Common.{◌≡◌, ◌≢◌, ℕ, zero, suc, ◌+◌, ◌-◌, ◌*◌, ◌<◌, ◌≤◌, ◌⊎◌, List, ◌++◌, length, get_or, map, refl, sym, ◌∙◌, ap, arith, inl, inr, subst}
use Rattle.std.specs.List.{remove}
use Rattle.std.proofs.lemmas.List.{get_or_append_left, length-append, get_or_past, get_or_default}
use Rattle.std.proofs.lemmas.List.Edits.{get_or-remove_below, get_or-remove_above, length-remove}
use Rattle.std.proofs.lemmas.Bool.{cases_lt, cases_eq}
use Rattle.asp_clauses.specs.declared.trail.Step.{Step}
use Rattle.asp_clauses.specs.declared.watches.Watches.{Watches}
use Rattle.asp_clauses.specs.Literal.{negated}
use Rattle.asp_clauses.specs.Records.{row_at, literals_of, end}
use Rattle.asp_clauses.specs.Trail.{TrailState, IsPlaced, no_step}
use Rattle.asp_clauses.specs.Book.{visit_at, IsGuarded, IsWatched, AllWatched, Goes}
use Rattle.asp_clauses.specs.Watches.{IsStore, IsListed, AreWatches, link_of, WatchingBelow, Watching, book_of}
use Rattle.asp_clauses.specs.Visits.{other_watch, moved, removed, IsAt, Extends, Propagates}
use Rattle.asp_clauses.specs.Choices.{IsVisit, StaysWatched, MovesOn}
use Rattle.asp_clauses.proofs.FewLemmas.{distinct_few}
use Rattle.asp_clauses.proofs.ListLemmas.{consed_other, removed_same}
use Rattle.asp_clauses.proofs.StoreLemmas.{clause_at-book}
use Rattle.asp_clauses.proofs.WatchLemmas.{side_first, side_second, watches_differ}
use Rattle.asp_clauses.proofs.ReorderLemmas.{SameClauses-refl, SameClauses-trans, IsWatched-row}
use Rattle.asp_clauses.proofs.ExamineLemmas.{Extends-refl, Extends-trans}
use Rattle.asp_clauses.proofs.VisitLemmas.{IsPlaced-extends, same_moved, watched_cells}

-- a visit is the same in a trail that grows
visit_at-append : (atoms : ℕ) (steps more : List Step) (visit : ℕ) → visit ≤ length steps → visit_at atoms (steps ++ more) visit ≡ visit_at atoms steps visit
visit_at-append atoms steps more zero h = refl
visit_at-append atoms steps more (suc place) h = ap (λ (s : Step). negated s.literal) (get_or_append_left steps more no_step place (omega arith))

pub IsVisit-extends : (old new : TrailState) (falsified : ℕ) → Extends old new → new.head ≡ old.head → IsVisit old falsified → IsVisit new falsified
IsVisit-extends old new falsified e head v =
    let len = length-append old.steps e.0 in
    let longer = ap length e.1.steps in
    let left = v.left in let within = v.within in
    let atoms = e.1.atoms in
    record {
      left = omega (arith, len, longer, left, head);
      is = ap (visit_at new.atoms new.steps) head ∙ ap (λ (n : ℕ). visit_at n new.steps old.head) atoms ∙ ap (λ (s : List Step). visit_at old.atoms s old.head) e.1.steps ∙ visit_at-append old.atoms old.steps e.0 old.head left ∙ v.is;
      within = omega (arith, within, atoms);
    }

-- where the walk stands in the list
pub record IsWalk (watches : Watches) (trail : TrailState) (falsified previous clause turn turns : ℕ) (lists : ℕ → List ℕ) (k : ℕ) : Type 0 where
  pub listed : IsListed watches lists
  pub within : k ≤ length (lists falsified)
  pub here : clause ≡ get_or (lists falsified) k end
  pub first : k ≡ 0 → previous ≡ end
  pub later : (j : ℕ) → k ≡ j + 1 → get_or (lists falsified) j end ≡ previous
  pub done : (i : ℕ) → i < k → IsPlaced trail.steps (other_watch (row_at watches.records (get_or (lists falsified) i end)) falsified)
  pub enough : length (lists falsified) + turn ≤ k + turns

pub record IsVisiting (first watches : Watches) (start trail : TrailState) (falsified previous clause turn turns : ℕ) : Type 0 where
  pub propagates : Propagates first watches start trail
  pub watched : watches.watched ≡ first.watched
  pub head : trail.head ≡ start.head
  pub visit : IsVisit trail falsified
  pub walk : (lists : ℕ → List ℕ) × (k : ℕ) × IsWalk watches trail falsified previous clause turn turns lists k

-- a list has no more clauses than there are
pub list_few : (watches : Watches) (lists : ℕ → List ℕ) (literal : ℕ) → IsStore watches → IsListed watches lists → literal ≤ 2 * watches.atoms → length (lists literal) ≤ watches.watched
list_few watches lists literal s l h =
    let xs = lists literal in
    distinct_few xs watches.watched
    (λ i lt. subst (λ (n : ℕ). n < watches.watched) (get_or_default xs i end 0 lt) (l.members.sound literal i h lt).0)
    (λ i j ij lt e. l.members.distinct literal i j h ij lt (get_or_default xs i end 0 (omega arith) ∙ e ∙ get_or_default xs j 0 end lt))

pub IsVisiting-start : (first : Watches) (start : TrailState) (falsified clause turns : ℕ) → AreWatches first → Goes (book_of first) start → IsVisit start falsified → clause ≡ get_or first.heads.items falsified 0 → turns ≡ length first.records → IsVisiting first first start start falsified end clause 0 turns
IsVisiting-start first start falsified clause turns w g v read many =
    let lists = w.listed.0 in let l = w.listed.1 in
    let code : falsified ≤ 2 * first.atoms = let c = v.within in let e = g.same_atoms in omega (arith, c, e) in
    let few = list_few first lists falsified w.store l code in
    let watched = w.store.watched in
    record {
      propagates = record { watches = w; goes = g; clauses = SameClauses-refl (map literals_of first.records); atoms = refl; extended = Extends-refl start };
      watched = refl;
      head = refl;
      visit = v;
      walk = (
        lists,
        0,
        record {
          listed = l;
          within = omega arith;
          here = read ∙ l.threads.head falsified code;
          first = λ z. refl;
          later = λ j e. absurd (omega arith);
          done = λ i h. absurd (omega arith);
          enough = omega (arith, few, watched, many);
        },
      );
    }

-- what is known of the clause where the walk stands
pub record AtClause (watches : Watches) (falsified previous clause k : ℕ) (lists : ℕ → List ℕ) : Type 0 where
  pub code : falsified ≤ 2 * watches.atoms
  pub at : IsAt lists falsified k previous clause
  pub watching : WatchingBelow watches.records watches.watched falsified clause
  pub before : (previous < length watches.records) ⊎ (previous ≡ end)
  pub row : clause < length watches.records
  pub next : link_of watches.records falsified clause ≡ get_or (lists falsified) (k + 1) end

pub at_clause : (first watches : Watches) (start trail : TrailState) (falsified previous clause turn turns : ℕ) (v : IsVisiting first watches start trail falsified previous clause turn turns) → clause ≢ end → AtClause watches falsified previous clause v.walk.1 v.walk.0
at_clause first watches start trail falsified previous clause turn turns v not_end =
    let lists = v.walk.0 in let k = v.walk.1 in let w = v.walk.2 in
    let s = v.propagates.watches.store in
    let code : falsified ≤ 2 * watches.atoms = let c = v.visit.within in let e = v.propagates.goes.same_atoms in omega (arith, c, e) in
    let lt : k < length (lists falsified) = elim (cases_lt k (length (lists falsified))) [ inl a ↦ a | inr b ↦ absurd (not_end (w.here ∙ get_or_past (lists falsified) k end b)) ] in
    let sound = w.listed.members.sound falsified k code lt in
    let watching = subst (WatchingBelow watches.records watches.watched falsified) (sym w.here) sound in
    let low = watching.0 in let most = s.watched in
    record {
      code = code;
      at = record { within = lt; here = sym w.here; first = w.first; later = w.later };
      watching = watching;
      before = elim (cases_eq k 0) [
        | inl z ↦ inr (w.first z)
        | inr nz ↦
            let one : k ≡ (k - 1) + 1 = omega (arith, nz) in
            let b = (w.listed.members.sound falsified (k - 1) code (omega (arith, lt, nz))).0 in
            let e = w.later (k - 1) one in
            inl (omega (arith, b, e, most))
      ];
      row = omega (arith, low, most);
      next = ap (link_of watches.records falsified) w.here ∙ w.listed.threads.link falsified k code lt;
    }

-- the clause goes on watching the literal
pub IsVisiting-stays : (first watches new : Watches) (start trail after : TrailState) (falsified previous clause next turn turns : ℕ) → IsVisiting first watches start trail falsified previous clause turn turns → clause ≢ end → next ≡ link_of watches.records falsified clause →
    StaysWatched watches new after falsified clause → Goes (book_of new) after → Extends trail after → after.head ≡ trail.head → IsVisiting first new start after falsified clause next (turn + 1) turns
IsVisiting-stays first watches new start trail after falsified previous clause next turn turns v not_end next_is stays goes extends head =
    let lists = v.walk.0 in let k = v.walk.1 in let w = v.walk.2 in
    let a = at_clause first watches start trail falsified previous clause turn turns v not_end in
    let p = v.propagates in
    let lt = a.at.within in let enough = w.enough in
    subst (λ (x : Watches). IsVisiting first x start after falsified clause next (turn + 1) turns) (sym stays.same) (record {
      propagates = record { watches = p.watches; goes = subst (λ (x : Watches). Goes (book_of x) after) stays.same goes; clauses = p.clauses; atoms = p.atoms; extended = Extends-trans start trail after p.extended extends };
      watched = v.watched;
      head = head ∙ v.head;
      visit = IsVisit-extends trail after falsified extends head v.visit;
      walk = (
        lists,
        k + 1,
        record {
          listed = w.listed;
          within = omega (arith, lt);
          here = next_is ∙ a.next;
          first = λ z. absurd (omega (arith, z));
          later = λ j e. let same : j ≡ k = omega (arith, e) in ap (λ (n : ℕ). get_or (lists falsified) n end) same ∙ sym w.here;
          done = λ i h. elim (cases_lt i k) [
            | inl low ↦ IsPlaced-extends trail after (other_watch (row_at watches.records (get_or (lists falsified) i end)) falsified) extends (w.done i low)
            | inr high ↦
                let same : i ≡ k = omega (arith, h, high) in
                subst (λ (n : ℕ). IsPlaced after.steps (other_watch (row_at watches.records n) falsified)) (w.here ∙ sym (ap (λ (n : ℕ). get_or (lists falsified) n end) same)) stays.other
          ];
          enough = omega (arith, enough);
        },
      );
    })

-- the clause watches another literal
pub IsVisiting-moves : (first watches new : Watches) (start trail after : TrailState) (falsified previous clause next turn turns : ℕ) → IsVisiting first watches start trail falsified previous clause turn turns → clause ≢ end → next ≡ link_of watches.records falsified clause →
    MovesOn watches new trail after falsified previous clause → Goes (book_of new) after → IsVisiting first new start after falsified previous next (turn + 1) turns
IsVisiting-moves first watches new start trail after falsified previous clause next turn turns v not_end next_is m goes =
    let lists = v.walk.0 in let k = v.walk.1 in let w = v.walk.2 in
    let a = at_clause first watches start trail falsified previous clause turn turns v not_end in
    let p = v.propagates in
    let xs = lists falsified in
    let jl = a.at.within in let enough = w.enough in
    let moving = m.listed lists k w.listed a.at in
    let to = moving.0 in
    let new_lists = moved lists clause falsified k to in
    let ne : falsified ≢ to = λ e. moving.1 (sym e) in
    let list_is : new_lists falsified ≡ remove xs k = consed_other (removed lists falsified k) to clause falsified ne ∙ removed_same lists falsified k falsified refl in
    let len = length-remove xs k jl in
    let new_len = ap length list_is in
    let mv = m.watch.3 in
    let same_trail : after ≡ trail = m.trail in
    let below : (i : ℕ) → i < k → get_or (new_lists falsified) i end ≡ get_or xs i end = λ i h. ap (λ (ys : List ℕ). get_or ys i end) list_is ∙ get_or-remove_below xs k end i h jl in
    let clauses = same_moved watches new falsified clause m.watch.0 p.watches.store mv m.watch.1 m.watch.2 a.row in
    record {
      propagates = record { watches = record { store = m.store; listed = (new_lists, moving.2) }; goes = goes; clauses = SameClauses-trans (map literals_of first.records) (map literals_of watches.records) (map literals_of new.records) p.clauses clauses; atoms = mv.atoms ∙ p.atoms; extended = subst (Extends start) (sym same_trail) p.extended };
      watched = mv.watched ∙ v.watched;
      head = ap (λ (t : TrailState). t.head) same_trail ∙ v.head;
      visit = subst (λ (t : TrailState). IsVisit t falsified) (sym same_trail) v.visit;
      walk = (
        new_lists,
        k,
        record {
          listed = moving.2;
          within = omega (arith, jl, len, new_len);
          here = next_is ∙ a.next ∙ sym (ap (λ (ys : List ℕ). get_or ys k end) list_is ∙ get_or-remove_above xs k end k (omega arith) jl);
          first = w.first;
          later = λ j e. below j (omega (arith, e)) ∙ w.later j e;
          done = λ i h.
              let apart : get_or xs i end ≢ clause = λ e. w.listed.members.distinct falsified i k a.code h jl (e ∙ w.here) in
              subst (λ (t : TrailState). IsPlaced t.steps (other_watch (row_at new.records (get_or (new_lists falsified) i end)) falsified)) (sym same_trail)
              (subst (λ (n : ℕ). IsPlaced trail.steps (other_watch (row_at new.records n) falsified)) (sym (below i h))
              (subst (IsPlaced trail.steps) (sym (mv.watches (get_or xs i end) falsified apart)) (w.done i h)));
          enough = omega (arith, enough, len, new_len);
        },
      );
    }

-- the walk has come to the end of the list
pub walk_ended : (first watches : Watches) (start trail : TrailState) (falsified previous clause turn turns : ℕ) (v : IsVisiting first watches start trail falsified previous clause turn turns) → (clause ≡ end) ⊎ (turns ≤ turn) → v.walk.1 ≡ length (v.walk.0 falsified)
walk_ended first watches start trail falsified previous clause turn turns v stop =
    let lists = v.walk.0 in let k = v.walk.1 in let w = v.walk.2 in
    let s = v.propagates.watches.store in
    let within = w.within in let enough = w.enough in
    elim stop [
      | inl e ↦ elim (cases_lt k (length (lists falsified))) [
        | inl lt ↦
            let code : falsified ≤ 2 * watches.atoms = let c = v.visit.within in let a = v.propagates.goes.same_atoms in omega (arith, c, a) in
            let low = (w.listed.members.sound falsified k code lt).0 in
            let here = w.here in let most = s.watched in let few = s.few in
            absurd (omega (arith, low, here, e, most, few))
        | inr ge ↦ omega (arith, within)
      ]
      | inr t ↦ omega (arith, within, enough)
    ]

pub AllWatched-visited : (first watches : Watches) (start trail : TrailState) (falsified previous clause turn turns : ℕ) (v : IsVisiting first watches start trail falsified previous clause turn turns) → (clause ≡ end) ⊎ (turns ≤ turn) → AllWatched (book_of watches) trail.steps (trail.head + 1)
AllWatched-visited first watches start trail falsified previous clause turn turns v stop number low =
    let lists = v.walk.0 in let k = v.walk.1 in let w = v.walk.2 in
    let ended = walk_ended first watches start trail falsified previous clause turn turns v stop in
    let s = v.propagates.watches.store in
    let g = v.propagates.goes in
    let most = s.watched in
    let in_rows : number < length watches.records = omega (arith, low, most) in
    let row = row_at watches.records number in
    let r = s.records number in_rows in
    let some = s.not_empty number low in
    let code : falsified ≤ 2 * watches.atoms = let c = v.visit.within in let a = g.same_atoms in omega (arith, c, a) in
    let cells = watched_cells watches.atoms row trail.steps trail.head r (subst (IsWatched watches.atoms trail.steps trail.head) (clause_at-book watches.records number in_rows) (g.watches.now number low)) in
    let same_visit : (visit : ℕ) → visit ≡ trail.head → visit_at watches.atoms trail.steps visit ≡ falsified = λ visit e. ap (visit_at watches.atoms trail.steps) e ∙ ap (λ (n : ℕ). visit_at n trail.steps trail.head) g.same_atoms ∙ v.visit.is in
    let other_placed : Watching watches.records falsified number → IsPlaced trail.steps (other_watch row falsified) = λ x.
    let p = w.listed.members.complete falsified number code (low, x) in
    subst (λ (n : ℕ). IsPlaced trail.steps (other_watch (row_at watches.records n) falsified)) p.2 (w.done p.0 (let q = p.1 in omega (arith, q, ended))) in
    let one : IsGuarded watches.atoms trail.steps (trail.head + 1) (get_or row 3 0) (get_or row 4 0) = λ visit lt e. elim (cases_lt visit trail.head) [
      | inl before ↦ cells.0 visit before e
      | inr now ↦
          let is : get_or row 3 0 ≡ falsified = sym e ∙ same_visit visit (omega (arith, lt, now)) in
          let side = side_first row falsified is in
          subst (IsPlaced trail.steps) (ap (λ (n : ℕ). get_or row (4 - n) 0) side) (other_placed (inl is))
    ] in
    let two : IsGuarded watches.atoms trail.steps (trail.head + 1) (get_or row 4 0) (get_or row 3 0) = λ visit lt e. elim (cases_lt visit trail.head) [
      | inl before ↦ cells.1 visit before e
      | inr now ↦
          let is : get_or row 4 0 ≡ falsified = sym e ∙ same_visit visit (omega (arith, lt, now)) in
          let side = side_second row falsified (λ q. watches_differ watches.atoms row r some (q ∙ sym is)) in
          subst (IsPlaced trail.steps) (ap (λ (n : ℕ). get_or row (4 - n) 0) side) (other_placed (inr is))
    ] in
    subst (IsWatched watches.atoms trail.steps (trail.head + 1)) (sym (clause_at-book watches.records number in_rows)) (IsWatched-row watches.atoms row trail.steps (trail.head + 1) r one two)

-- a visit that ends the walk leaves the watches
pub Propagates-step : (first watches new : Watches) (start trail after : TrailState) → Propagates first watches start trail → new ≡ watches → Goes (book_of watches) after → Extends trail after → Propagates first new start after
Propagates-step first watches new start trail after p same goes e = subst (λ (x : Watches). Propagates first x start after) (sym same) (record {
  watches = p.watches;
  goes = goes;
  clauses = p.clauses;
  atoms = p.atoms;
  extended = Extends-trans start trail after p.extended e;
})
