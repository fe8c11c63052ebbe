use Rattle.std.proofs.Common.{◌≡◌, ◌≢◌, ℕ, ◌*◌, ◌<◌, ◌≤◌, get_or, length, refl, sym, ◌∙◌, arith, subst}
use Rattle.std.proofs.lemmas.List.{length-map}
use Rattle.asp_clauses.specs.Literal.{negated}
use Rattle.asp_clauses.specs.Records.{row_at, literals_of}
use Rattle.asp_clauses.specs.Trail.{IsPlaced, IsUnassigned}
use Rattle.asp_clauses.specs.Book.{Goes, visit_at}
use Rattle.asp_clauses.specs.Watches.{book_of}
use Rattle.asp_clauses.specs.Visits.{IsStopped, IsConflict}
use Rattle.asp_clauses.specs.Choices.{MadeTrue}
use Rattle.asp_clauses.proofs.WatchLemmas.{cell_in_range, watch_code}
use Rattle.asp_clauses.proofs.ReorderLemmas.{Goes-made_true}
use Rattle.asp_clauses.proofs.ExamineLemmas.{Extends-refl, Extends-same, Extends-trans, Extends-made_true, Extends-lowered, stays_placed, made_true_atoms, ordered, conflict_of, implies_first, stopped_of, Goes-open, Examined-trail, Goes-true, Propagates-from, SameClauses-one_more}
use Rattle.asp_clauses.proofs.examine.examine.Goals as goal

-- what is read of a number that isn't 0, and bounds of numbers that are the same
positive : (n m : ℕ) → n ≡ m → n ≢ 0 → 0 < m
positive n m e differ = omega arith

one_below_two : 1 < 2
one_below_two = omega arith

at_most : (x y n m : ℕ) → y ≤ 2 * n → x ≡ y → m ≡ n → x ≤ 2 * m
at_most x y n m h e a = omega arith

below : (x y n m : ℕ) → y < 2 * n → x ≡ y → m ≡ n → x < 2 * m
below x y n m h e a = omega arith

same_below : (x y n : ℕ) → x < 2 * n → x ≡ y → y < 2 * n
same_below x y n h e = omega arith

below_same : (x y n : ℕ) → y < 2 * n → x ≡ y → x < 2 * n
below_same x y n h e = omega arith

pub returns-then-is_false-clause-propagates : goal.returns-then-is_false-clause-propagates
returns-then-is_false-clause-propagates c =
    let old = c.args.watches.now in let one = c.order.new.watches in let t = c.args.trail.now in
    let x = ordered old one t c.requires.watches c.requires.goes c.requires.left (positive _ _ c.cell.ensures c.if-cell-eq0.false) c.order.ensures in
    Propagates-from old one t t x.watches x.goes x.clauses x.atoms (Extends-refl t)

pub returns-then-is_false-clause-conflict : goal.returns-then-is_false-clause-conflict
returns-then-is_false-clause-conflict c = λ clause e.
    let old = c.args.watches.now in let one = c.order.new.watches in let t = c.args.trail.now in
    let x = ordered old one t c.requires.watches c.requires.goes c.requires.left (positive _ _ c.cell.ensures c.if-cell-eq0.false) c.order.ensures in
    let row = row_at one.records old.watched in
    let code0 = cell_in_range one.atoms row 0 x.is_record x.some in
    let atoms = x.trail_atoms in
    let first : IsPlaced t.steps (negated (get_or row 3 0)) = subst (λ (n : ℕ). IsPlaced t.steps (negated n)) c.cell-first.ensures (c.is_false.ensures.fails c.if-is_false.true (below _ _ _ _ code0 c.cell-first.ensures atoms)) in
    let same : old.watched ≡ clause = cc in
    subst (IsConflict (book_of one) t.steps) same (conflict_of old one t x c.order.ensures first)

pub is_false-requires-2 : goal.is_false-requires-2
is_false-requires-2 c =
    let old = c.args.watches.now in let one = c.order.new.watches in let t = c.args.trail.now in
    let x = ordered old one t c.requires.watches c.requires.goes c.requires.left (positive _ _ c.cell.ensures c.if-cell-eq0.false) c.order.ensures in
    let row = row_at one.records old.watched in
    let code1 = watch_code one.atoms row 1 x.is_record one_below_two in
    let atoms = x.trail_atoms in
    at_most _ _ _ _ code1 c.cell-second.ensures atoms

pub watch-requires-clause-watches : goal.watch-requires-clause-watches
watch-requires-clause-watches c =
    let old = c.args.watches.now in let one = c.order.new.watches in let t = c.args.trail.now in
    let x = ordered old one t c.requires.watches c.requires.goes c.requires.left (positive _ _ c.cell.ensures c.if-cell-eq0.false) c.order.ensures in
    x.watches

pub returns-then-not-is_false-clause-propagates : goal.returns-then-not-is_false-clause-propagates
returns-then-not-is_false-clause-propagates c =
    let old = c.args.watches.now in let one = c.order.new.watches in let t = c.args.trail.now in
    let x = ordered old one t c.requires.watches c.requires.goes c.requires.left (positive _ _ c.cell.ensures c.if-cell-eq0.false) c.order.ensures in
    let row = row_at one.records old.watched in
    let first : IsPlaced t.steps (negated (get_or row 3 0)) → ⊥ = λ p. c.is_false.ensures.stands c.if-is_false.false (subst (λ (n : ℕ). IsPlaced t.steps (negated n)) (sym c.cell-first.ensures) p) in
    let second : IsPlaced t.steps (negated (get_or row 4 0)) → ⊥ = λ p. c.is_false-2.ensures.stands c.if-not-is_false.true (subst (λ (n : ℕ). IsPlaced t.steps (negated n)) (sym c.cell-second.ensures) p) in
    let open_code = c.is_false-2.ensures.other c.if-not-is_false.true in
    let two = c.watch.new.self in
    Propagates-from old two t t c.watch.ensures.watches (Goes-open old one two t x c.watch.ensures.one_more first second (same_below _ _ _ open_code c.cell-second.ensures)) (SameClauses-one_more old one two x.clauses c.watch.ensures.one_more) (c.watch.ensures.one_more.atoms ∙ x.atoms) (Extends-refl t)

pub returns-in_err-make_true-clause-propagates : goal.returns-in_err-make_true-clause-propagates
returns-in_err-make_true-clause-propagates c =
    let old = c.args.watches.now in let one = c.order.new.watches in let t = c.args.trail.now in
    let x = ordered old one t c.requires.watches c.requires.goes c.requires.left (positive _ _ c.cell.ensures c.if-cell-eq0.false) c.order.ensures in
    let same = c.in_err-make_true.ensures.err.same in
    Propagates-from old one t c.make_true.new.trail x.watches (subst (Goes (book_of one)) (sym same) x.goes) x.clauses x.atoms (Extends-same t c.make_true.new.trail same)

pub returns-in_err-make_true-clause-spent : goal.returns-in_err-make_true-clause-spent
returns-in_err-make_true-clause-spent c = λ _.
    let old = c.args.watches.now in let one = c.order.new.watches in let t = c.args.trail.now in
    let x = ordered old one t c.requires.watches c.requires.goes c.requires.left (positive _ _ c.cell.ensures c.if-cell-eq0.false) c.order.ensures in
    let row = row_at one.records old.watched in
    let second : get_or row 4 0 < 2 * t.atoms → IsPlaced t.steps (negated (get_or row 4 0)) = λ h. subst (λ (n : ℕ). IsPlaced t.steps (negated n)) c.cell-second.ensures (c.is_false-2.ensures.fails c.if-not-is_false.false (below_same _ _ _ h c.cell-second.ensures)) in
    let barred = c.in_err-make_true.ensures.err in
    let un : IsUnassigned t.steps (get_or row 3 0) = subst (IsUnassigned t.steps) c.cell-first.ensures barred.unassigned in
    subst (IsStopped (book_of one)) (sym barred.same) (stopped_of old one t x c.order.ensures second barred.spent un)

pub position-visit-requires-clause-code : goal.position-visit-requires-clause-code
position-visit-requires-clause-code c =
    let old = c.args.watches.now in let one = c.order.new.watches in let t = c.args.trail.now in
    let x = ordered old one t c.requires.watches c.requires.goes c.requires.left (positive _ _ c.cell.ensures c.if-cell-eq0.false) c.order.ensures in
    let row = row_at one.records old.watched in
    let code1 = watch_code one.atoms row 1 x.is_record one_below_two in
    let atoms = x.trail_atoms in
    let m : MadeTrue t c.make_true.new.trail (get_or row 3 0) old.watched = subst (λ (n : ℕ). MadeTrue t c.make_true.new.trail n old.watched) c.cell-first.ensures c.in_ok-make_true.ensures.ok in
    let later = made_true_atoms t c.make_true.new.trail (get_or row 3 0) old.watched m in
    at_most _ _ _ _ code1 c.cell-second.ensures (later ∙ atoms)

pub position-visit-requires-clause-fails : goal.position-visit-requires-clause-fails
position-visit-requires-clause-fails c = λ h.
    let old = c.args.watches.now in let one = c.order.new.watches in let t = c.args.trail.now in
    let row = row_at one.records old.watched in
    let m : MadeTrue t c.make_true.new.trail (get_or row 3 0) old.watched = subst (λ (n : ℕ). MadeTrue t c.make_true.new.trail n old.watched) c.cell-first.ensures c.in_ok-make_true.ensures.ok in
    let later = made_true_atoms t c.make_true.new.trail (get_or row 3 0) old.watched m in
    stays_placed t c.make_true.new.trail (get_or row 3 0) old.watched (negated c.cell-second.result) m (c.is_false-2.ensures.fails c.if-not-is_false.false (subst (λ (n : ℕ). c.cell-second.result < 2 * n) later h))

pub watch-requires-2-clause-watches : goal.watch-requires-2-clause-watches
watch-requires-2-clause-watches c =
    let old = c.args.watches.now in let one = c.order.new.watches in let t = c.args.trail.now in
    let x = ordered old one t c.requires.watches c.requires.goes c.requires.left (positive _ _ c.cell.ensures c.if-cell-eq0.false) c.order.ensures in
    x.watches

pub returns-clause-propagates : goal.returns-clause-propagates
returns-clause-propagates c =
    let old = c.args.watches.now in let one = c.order.new.watches in let t = c.args.trail.now in
    let x = ordered old one t c.requires.watches c.requires.goes c.requires.left (positive _ _ c.cell.ensures c.if-cell-eq0.false) c.order.ensures in
    let row = row_at one.records old.watched in
    let code0 = cell_in_range one.atoms row 0 x.is_record x.some in
    let atoms = x.trail_atoms in
    let second : get_or row 4 0 < 2 * t.atoms → IsPlaced t.steps (negated (get_or row 4 0)) = λ h. subst (λ (n : ℕ). IsPlaced t.steps (negated n)) c.cell-second.ensures (c.is_false-2.ensures.fails c.if-not-is_false.false (below_same _ _ _ h c.cell-second.ensures)) in
    let m : MadeTrue t c.make_true.new.trail (get_or row 3 0) old.watched = subst (λ (n : ℕ). MadeTrue t c.make_true.new.trail n old.watched) c.cell-first.ensures c.in_ok-make_true.ensures.ok in
    let made = c.make_true.new.trail in let low = c.lower.new.self in let two = c.watch-2.new.self in
    let within = x.within in
    let clauses_len = length-map one.records literals_of in
    let g = Goes-made_true (book_of one) t made (get_or row 3 0) old.watched m (below _ _ _ _ code0 refl atoms) (subst (λ (n : ℕ). old.watched < n) (sym clauses_len) within) (λ _. implies_first old one t x c.order.ensures second) x.goes in
    let later = made_true_atoms t made (get_or row 3 0) old.watched m in
    let y = Examined-trail old one t made x g later in
    let only : (visit : ℕ) → visit ≤ length made.steps → visit_at made.atoms made.steps visit ≡ get_or row 4 0 → visit ≡ c.position-visit.result = λ visit l e. c.position-visit.ensures.only visit l (e ∙ sym c.cell-second.ensures) in
    Propagates-from old two t low c.watch-2.ensures.watches (Goes-true old one two made low c.position-visit.result y c.watch-2.ensures.one_more c.lower.ensures m.holds only)
    (SameClauses-one_more old one two x.clauses c.watch-2.ensures.one_more) (c.watch-2.ensures.one_more.atoms ∙ x.atoms)
    (Extends-trans t made low (Extends-made_true t made (get_or row 3 0) old.watched m) (Extends-lowered made low c.position-visit.result c.lower.ensures))
