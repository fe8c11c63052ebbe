use Rattle.std.proofs.Common.{◌≡◌, ◌≢◌, ℕ, ◌+◌, ◌-◌, ◌*◌, ◌<◌, ◌≤◌, List, get_or, refl, sym, ◌∙◌, ap, subst, arith}
use Rattle.std.proofs.lemmas.List.{length-map}
use Rattle.asp_clauses.specs.Literal.{negated}
use Rattle.asp_clauses.specs.Records.{row_at, literals_of}
use Rattle.asp_clauses.specs.Trail.{IsPlaced, IsUnassigned}
use Rattle.asp_clauses.specs.Watches.{side_of, book_of}
use Rattle.asp_clauses.specs.Visits.{IsStopped, other_watch}
use Rattle.asp_clauses.specs.Choices.{MadeTrue, RestIsFalse}
use Rattle.asp_clauses.proofs.WatchLemmas.{cell_in_range}
use Rattle.asp_clauses.proofs.ReorderLemmas.{Goes-made_true}
use Rattle.asp_clauses.proofs.VisitLemmas.{visited_row, visit_false, conflict_visited, implied_visited, stopped_visited, Goes-moved}
use Rattle.asp_clauses.proofs.propagation.visit_clause.Goals as goal

-- bounds of numbers that are the same
at_most : (x y n : ℕ) → y ≤ 2 * n → x ≡ y → x ≤ 2 * n
at_most x y n h e = omega arith

same_below : (x y n : ℕ) → x < 2 * n → x ≡ y → y < 2 * n
same_below x y n h e = omega arith

below_same : (x y n : ℕ) → y < 2 * n → x ≡ y → x < 2 * n
below_same x y n h e = omega arith

below_in : (x y n m : ℕ) → x < 2 * n → m ≡ n → x ≡ y → y < 2 * m
below_in x y n m h a e = omega arith

-- the literal on the other side is the other watch
other_side : (row : List ℕ) (side literal x : ℕ) → side ≡ side_of row literal → x ≡ get_or row (4 - side) 0 → x ≡ other_watch row literal
other_side row side literal x s e = e ∙ ap (λ (n : ℕ). get_or row (4 - n) 0) s

pub is_true-requires : goal.is_true-requires
is_true-requires c =
    let x = visited_row c.args.watches.now c.args.trail.now c.args.falsified c.args.clause c.requires.watches.store c.requires.goes c.requires.clause in
    at_most _ _ _ x.code (other_side _ _ _ _ c.side-side.ensures c.other-other.ensures)

pub is_false-requires : goal.is_false-requires
is_false-requires c =
    let x = visited_row c.args.watches.now c.args.trail.now c.args.falsified c.args.clause c.requires.watches.store c.requires.goes c.requires.clause in
    at_most _ _ _ x.code (other_side _ _ _ _ c.side-side.ensures c.other-other.ensures)

pub returns-in-Some-clause-goes : goal.returns-in-Some-clause-goes
returns-in-Some-clause-goes c =
    let old = c.args.watches.now in let t = c.args.trail.now in
    let x = visited_row old t c.args.falsified c.args.clause c.requires.watches.store c.requires.goes c.requires.clause in
    let f = c.in-Some.ensures.found c.in-Some.index refl in
    Goes-moved old c.move_watch.new.self t c.args.falsified c.args.clause c.in-Some.index c.requires.watches.store c.move_watch.ensures.store c.requires.goes c.requires.visit x c.move_watch.ensures.clause f.unwatched f.within f.stands

pub returns-in-Some-clause-moved : goal.returns-in-Some-clause-moved
returns-in-Some-clause-moved c = λ _.
    let old = c.args.watches.now in let t = c.args.trail.now in
    let row = row_at old.records c.args.clause in
    let x = visited_row old t c.args.falsified c.args.clause c.requires.watches.store c.requires.goes c.requires.clause in
    let f = c.in-Some.ensures.found c.in-Some.index refl in
    let code = cell_in_range old.atoms row c.in-Some.index x.is_record f.within in
    let atoms = x.atoms in
    let apart : get_or row (3 + c.in-Some.index) 0 ≢ c.args.falsified = λ e. f.stands (subst (λ (n : ℕ). IsPlaced t.steps (negated n)) (sym e) (visit_false t c.args.falsified c.requires.visit (below_in _ _ _ _ code atoms e))) in
    record {
      trail = refl;
      store = c.move_watch.ensures.store;
      watch = (c.in-Some.index, f.unwatched, f.within, c.move_watch.ensures.clause);
      listed = λ lists k l at. (get_or row (3 + c.in-Some.index) 0, apart, c.move_watch.ensures.listed lists k l at);
    }

pub returns-then-is_false-clause-conflict : goal.returns-then-is_false-clause-conflict
returns-then-is_false-clause-conflict c = λ _.
    let old = c.args.watches.now in let t = c.args.trail.now in
    let x = visited_row old t c.args.falsified c.args.clause c.requires.watches.store c.requires.goes c.requires.clause in
    let rest : RestIsFalse old t.steps c.args.clause = c.replacement.ensures.none c.in_default.is in
    (refl, conflict_visited old t c.args.falsified c.args.clause x c.requires.visit rest (λ h. subst (λ (n : ℕ). IsPlaced t.steps (negated n)) (other_side _ _ _ _ c.side-side.ensures c.other-other.ensures) (c.is_false.ensures.fails c.if-is_false.true (below_same _ _ _ h (other_side _ _ _ _ c.side-side.ensures c.other-other.ensures)))))

pub returns-in_err-make_true-clause-spent : goal.returns-in_err-make_true-clause-spent
returns-in_err-make_true-clause-spent c = λ _.
    let old = c.args.watches.now in let t = c.args.trail.now in
    let x = visited_row old t c.args.falsified c.args.clause c.requires.watches.store c.requires.goes c.requires.clause in
    let rest : RestIsFalse old t.steps c.args.clause = c.replacement.ensures.none c.in_default.is in
    let b = c.in_err-make_true.ensures.err in
    let code = c.is_false.ensures.other c.if-is_false.false in
    (refl, subst (IsStopped (book_of old)) (sym b.same) (stopped_visited old t c.args.falsified c.args.clause x c.requires.visit rest (same_below _ _ _ code (other_side _ _ _ _ c.side-side.ensures c.other-other.ensures)) b.spent (subst (IsUnassigned t.steps) (other_side _ _ _ _ c.side-side.ensures c.other-other.ensures) b.unassigned)))

pub returns-clause-goes : goal.returns-clause-goes
returns-clause-goes c =
    let old = c.args.watches.now in let t = c.args.trail.now in
    let row = row_at old.records c.args.clause in
    let x = visited_row old t c.args.falsified c.args.clause c.requires.watches.store c.requires.goes c.requires.clause in
    let rest : RestIsFalse old t.steps c.args.clause = c.replacement.ensures.none c.in_default.is in
    let code = c.is_false.ensures.other c.if-is_false.false in
    let other_code : other_watch row c.args.falsified < 2 * t.atoms = same_below _ _ _ code (other_side _ _ _ _ c.side-side.ensures c.other-other.ensures) in
    let m : MadeTrue t c.make_true.new.trail (other_watch row c.args.falsified) c.args.clause = subst (λ (n : ℕ). MadeTrue t c.make_true.new.trail n c.args.clause) (other_side _ _ _ _ c.side-side.ensures c.other-other.ensures) c.in_ok-make_true.ensures.ok in
    let len = length-map old.records literals_of in let within = x.within in
    Goes-made_true (book_of old) t c.make_true.new.trail (other_watch row c.args.falsified) c.args.clause m other_code (subst (λ (n : ℕ). c.args.clause < n) (sym len) within) (λ _. implied_visited old t c.args.falsified c.args.clause x c.requires.visit rest other_code) c.requires.goes
