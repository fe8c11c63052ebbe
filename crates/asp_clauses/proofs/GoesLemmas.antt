-- What keeps a book and a trail together.
use Rattle.std.proofs.Common.{◌≡◌, ℕ, zero, suc, ◌+◌, ◌*◌, ◌/◌, ◌<◌, ◌≤◌, List, [], ◌∷◌, ◌++◌, length, take, drop, refl, sym, ◌∙◌, ap, arith, inl, inr, subst, Some, None}
use Rattle.std.proofs.lemmas.List.{length_push, take-append-le, take_all, length-take-le, take-take, take-append-drop, drop_more, get_or-take}
use Rattle.std.proofs.lemmas.Bool.{cases_lt}
use Rattle.asp_clauses.specs.declared.trail.Step.{Step}
use Rattle.asp_clauses.specs.declared.trail.Mark.{Mark}
use Rattle.asp_clauses.specs.Literal.{negated}
use Rattle.asp_clauses.specs.Trail.{TrailState, no_step, step_at, literal_at, no_mark, mark_at, is_decision, decisions, IsUnassigned, IsReasoned, IsLawful, Implies, clause_at, number, back_to}
use Rattle.asp_clauses.specs.Tables.{IsMark, AreMarks}
use Rattle.asp_clauses.specs.Book.{BookState, visit_at, first_watch, second_watch, IsGuarded, IsWatched, AllWatched, WatchesFit, Goes}
use Rattle.asp_clauses.specs.Moves.{placed, gone_back}
use Rattle.asp_clauses.proofs.StepsLemmas.{place_cases, step_at-push, step_at-last, step_at-take, IsPlaced-push, back_to-take, decisions-take-mono}
use Rattle.asp_clauses.proofs.NumberLemmas.{number_raised, number_replaced, number-lt, three_pos}
use Rattle.asp_clauses.proofs.TableLemmas.{AreMarks-implied, AreMarks-decided, mark_here, mark_at-push, mark_at-last, level_cases}

-- a visit that the shorter trail has is the same in the longer one
pub visit_at-push : (atoms : ℕ) (steps : List Step) (step : Step) (visit : ℕ) → visit ≤ length steps → visit_at atoms (steps ++ step ∷ []) visit ≡ visit_at atoms steps visit
visit_at-push atoms steps step zero h = refl
visit_at-push atoms steps step (suc place) h = ap (λ (s : Step). negated s.literal) (step_at-push steps step place (omega arith))

pub visit_at-take : (atoms : ℕ) (steps : List Step) (n visit : ℕ) → visit ≤ n → visit_at atoms (take n steps) visit ≡ visit_at atoms steps visit
visit_at-take atoms steps n zero h = refl
visit_at-take atoms steps n (suc place) h = ap (λ (s : Step). negated s.literal) (step_at-take steps n place (omega arith))

pub IsGuarded-push : (atoms : ℕ) (steps : List Step) (step : Step) (head watch other : ℕ) → head ≤ length steps + 1 → IsGuarded atoms steps head watch other → IsGuarded atoms (steps ++ step ∷ []) head watch other
IsGuarded-push atoms steps step head watch other h g visit lt e =
    IsPlaced-push steps step other (g visit lt (sym (visit_at-push atoms steps step visit (omega arith)) ∙ e))

pub AllWatched-push : (book : BookState) (steps : List Step) (step : Step) (head : ℕ) → head ≤ length steps + 1 → AllWatched book steps head → AllWatched book (steps ++ step ∷ []) head
AllWatched-push book steps step head h w clause lt =
    let k = clause_at book.clauses clause in
    record {
      first = IsGuarded-push book.atoms steps step head (first_watch book.atoms k) (second_watch book.atoms k) h (w clause lt).first;
      second = IsGuarded-push book.atoms steps step head (second_watch book.atoms k) (first_watch book.atoms k) h (w clause lt).second;
    }

-- fewer visits ask for less
pub AllWatched-fewer : (book : BookState) (steps : List Step) (head less : ℕ) → less ≤ head → AllWatched book steps head → AllWatched book steps less
AllWatched-fewer book steps head less h w clause lt = record {
  first = λ visit v e. (w clause lt).first visit (omega arith) e;
  second = λ visit v e. (w clause lt).second visit (omega arith) e;
}

-- a lawful trail, and one more step
pub IsLawful-push : (atoms : ℕ) (clauses : List (List ℕ)) (steps : List Step) (step : Step) → IsLawful atoms clauses steps → step.literal < 2 * atoms → IsUnassigned steps step.literal → IsReasoned clauses steps step → IsLawful atoms clauses (steps ++ step ∷ [])
IsLawful-push atoms clauses steps step l code un r = record {
  in_range = λ place h. elim (place_cases steps step place h) [
    | inl lt ↦ subst (λ (s : Step). s.literal < 2 * atoms) (sym (step_at-push steps step place lt)) (l.in_range place lt)
    | inr eq ↦ subst (λ (s : Step). s.literal < 2 * atoms) (sym (step_at-last steps step place eq)) code
  ];
  distinct = λ p q pq h e. elim (place_cases steps step q h) [
    | inl lt ↦ l.distinct p q pq lt (sym (ap (λ (s : Step). s.literal / 2) (step_at-push steps step p (omega arith))) ∙ e ∙ ap (λ (s : Step). s.literal / 2) (step_at-push steps step q lt))
    | inr eq ↦ un p (omega arith) (sym (ap (λ (s : Step). s.literal / 2) (step_at-push steps step p (omega arith))) ∙ e ∙ ap (λ (s : Step). s.literal / 2) (step_at-last steps step q eq))
  ];
  reasoned = λ place h. elim (place_cases steps step place h) [
    | inl lt ↦ subst (λ (x : List Step). IsReasoned clauses x (step_at (steps ++ step ∷ []) place)) (sym (take-append-le place steps (step ∷ []) (omega arith)))
        (subst (IsReasoned clauses (take place steps)) (sym (step_at-push steps step place lt)) (l.reasoned place lt))
    | inr eq ↦ subst (λ (x : List Step). IsReasoned clauses x (step_at (steps ++ step ∷ []) place)) (sym (take-append-le place steps (step ∷ []) (omega arith) ∙ take_all place steps (omega arith)))
        (subst (IsReasoned clauses steps) (sym (step_at-last steps step place eq)) r)
  ];
}

pub IsLawful-take : (atoms : ℕ) (clauses : List (List ℕ)) (steps : List Step) (n : ℕ) → n ≤ length steps → IsLawful atoms clauses steps → IsLawful atoms clauses (take n steps)
IsLawful-take atoms clauses steps n le l =
    let len = length-take-le n steps le in
    record {
      in_range = λ place h. subst (λ (s : Step). s.literal < 2 * atoms) (sym (step_at-take steps n place (omega (arith, len)))) (l.in_range place (omega (arith, len)));
      distinct = λ p q pq h e. l.distinct p q pq (omega (arith, len)) (sym (ap (λ (s : Step). s.literal / 2) (step_at-take steps n p (omega (arith, len)))) ∙ e ∙ ap (λ (s : Step). s.literal / 2) (step_at-take steps n q (omega (arith, len))));
      reasoned = λ place h. subst (λ (x : List Step). IsReasoned clauses x (step_at (take n steps) place)) (sym (take-take place n steps (omega (arith, len))))
          (subst (IsReasoned clauses (take place steps)) (sym (step_at-take steps n place (omega (arith, len)))) (l.reasoned place (omega (arith, len))));
    }

-- a decision is placed
pub Goes-decided : (book : BookState) (trail : TrailState) (literal : ℕ) → Goes book trail → length trail.steps < trail.atoms → literal < 2 * trail.atoms → IsUnassigned trail.steps literal → Goes book (placed trail (record { literal = literal; reason = None }))
Goes-decided book trail literal g few code un =
    let step : Step = record { literal = literal; reason = None } in
    let steps = trail.steps ++ step ∷ [] in
    let raised = number_raised trail.atoms trail.steps step in
    let len = length_push trail.steps step in
    let below = number-lt trail.atoms steps (omega (arith, len)) in
    let visits = g.marks.visits in
    let counted = g.counted in
    record {
      same_atoms = g.same_atoms;
      lawful = IsLawful-push trail.atoms book.clauses trail.steps step g.lawful code un (λ number e. cc);
      counted = omega (arith, raised, counted);
      bounded = omega (arith, raised, below, counted);
      marks = AreMarks-decided trail.steps trail.marks trail.head step g.marks refl;
      watches = record {
        now = AllWatched-push book trail.steps step trail.head visits g.watches.now;
        back = λ level h. elim (level_cases trail.marks (mark_here trail.steps trail.head) level h) [
          | inl lt ↦
              let m = g.marks.each level lt in
              subst (λ (x : Mark). AllWatched book (take x.start steps) x.head) (sym (mark_at-push trail.marks (mark_here trail.steps trail.head) level lt))
              (subst (λ (x : List Step). AllWatched book x (mark_at trail.marks level).head) (sym (take-append-le (mark_at trail.marks level).start trail.steps (step ∷ []) (omega (arith, m.within)))) (g.watches.back level lt))
          | inr eq ↦
              subst (λ (x : Mark). AllWatched book (take x.start steps) x.head) (sym (mark_at-last trail.marks (mark_here trail.steps trail.head) level eq))
              (subst (λ (x : List Step). AllWatched book x trail.head) (sym (take-append-le (length trail.steps) trail.steps (step ∷ []) (omega arith) ∙ take_all (length trail.steps) trail.steps (omega arith))) g.watches.now)
        ];
      };
    }

-- the clause that implies the literal, as the step's reason
pub reason_is : (book : BookState) (steps : List Step) (literal clause : ℕ) → clause < length book.clauses → Implies steps (clause_at book.clauses clause) literal → IsReasoned book.clauses steps (record { literal = literal; reason = Some clause })
reason_is book steps literal clause h i number e =
    let is : clause ≡ number = cc in
    (subst (λ (x : ℕ). x < length book.clauses) is h, subst (λ (x : ℕ). Implies steps (clause_at book.clauses x) literal) is i)

-- an implied literal is placed, and the number is large enough for one more placement
implied_placed : (book : BookState) (trail : TrailState) (literal clause : ℕ) → book.atoms ≡ trail.atoms → IsLawful trail.atoms book.clauses trail.steps → AreMarks trail.steps trail.marks trail.head → WatchesFit book trail →
    length trail.steps < trail.atoms → literal < 2 * trail.atoms → IsUnassigned trail.steps literal → clause < length book.clauses → Implies trail.steps (clause_at book.clauses clause) literal →
    trail.count + 1 ≤ number trail.atoms (trail.steps ++ (record { literal = literal; reason = Some clause }) ∷ []) → Goes book (placed trail (record { literal = literal; reason = Some clause }))
implied_placed book trail literal clause same lawful marks watches few code un in_book implied raised =
    let step : Step = record { literal = literal; reason = Some clause } in
    let steps = trail.steps ++ step ∷ [] in
    let len = length_push trail.steps step in
    let below = number-lt trail.atoms steps (omega (arith, len)) in
    let visits = marks.visits in
    record {
      same_atoms = same;
      lawful = IsLawful-push trail.atoms book.clauses trail.steps step lawful code un (reason_is book trail.steps literal clause in_book implied);
      counted = raised;
      bounded = omega (arith, raised, below);
      marks = AreMarks-implied trail.steps trail.marks trail.head step marks refl;
      watches = record {
        now = AllWatched-push book trail.steps step trail.head visits watches.now;
        back = λ level lt.
            let m = marks.each level lt in
            subst (λ (x : List Step). AllWatched book x (mark_at trail.marks level).head) (sym (take-append-le (mark_at trail.marks level).start trail.steps (step ∷ []) (omega (arith, m.within)))) (watches.back level lt);
      };
    }

pub Goes-implied : (book : BookState) (trail : TrailState) (literal clause : ℕ) → Goes book trail → length trail.steps < trail.atoms → literal < 2 * trail.atoms → IsUnassigned trail.steps literal → clause < length book.clauses → Implies trail.steps (clause_at book.clauses clause) literal → Goes book (placed trail (record { literal = literal; reason = Some clause }))
Goes-implied book trail literal clause g few code un in_book implied =
    let step : Step = record { literal = literal; reason = Some clause } in
    let raised = number_raised trail.atoms trail.steps step in
    let counted = g.counted in
    implied_placed book trail literal clause g.same_atoms g.lawful g.marks g.watches few code un in_book implied (omega (arith, raised, counted))

-- earlier decisions stand before later ones
pub marks_nested : (trail : TrailState) → AreMarks trail.steps trail.marks trail.head → (i j : ℕ) → i < j → j < length trail.marks → (mark_at trail.marks i).start < (mark_at trail.marks j).start
marks_nested trail m i j ij h =
    let a = (m.each i (omega arith)).before in
    let b = (m.each j h).before in
    elim (cases_lt (mark_at trail.marks i).start (mark_at trail.marks j).start) [
      | inl lt ↦ lt
      | inr ge ↦ let mono = decisions-take-mono trail.steps (mark_at trail.marks j).start (mark_at trail.marks i).start ge in absurd (omega (arith, a, b, mono))
    ]

pub mark_at-take : (marks : List Mark) (n level : ℕ) → level < n → mark_at (take n marks) level ≡ mark_at marks level
mark_at-take marks n level h = get_or-take n marks level no_mark h

-- where a jump goes back to
pub back_is : (trail : TrailState) (level : ℕ) → AreMarks trail.steps trail.marks trail.head → level < decisions trail.steps → back_to level trail.steps ≡ take (mark_at trail.marks level).start trail.steps
back_is trail level m h =
    let k = m.each level (omega (arith, m.as_many)) in
    back_to-take level trail.steps (mark_at trail.marks level).start k.within k.decision k.before

pub AreMarks-back : (trail : TrailState) (level : ℕ) → AreMarks trail.steps trail.marks trail.head → level < length trail.marks →
    AreMarks (take (mark_at trail.marks level).start trail.steps) (take level trail.marks) (mark_at trail.marks level).head
AreMarks-back trail level m h =
    let mark = mark_at trail.marks level in
    let k = m.each level h in
    let within = k.within in
    let len = length-take-le mark.start trail.steps (omega arith) in
    let few = length-take-le level trail.marks (omega arith) in
    record {
      as_many = few ∙ sym k.before;
      each = λ i lt.
          let i_level : i < level = omega (arith, few) in
          let nested = marks_nested trail m i level i_level h in
          let e = m.each i (omega arith) in
          subst (IsMark (take mark.start trail.steps) i) (sym (mark_at-take trail.marks level i i_level)) (record {
            within = omega (arith, len, nested);
            decision = ap is_decision (step_at-take trail.steps mark.start (mark_at trail.marks i).start nested) ∙ e.decision;
            before = ap decisions (take-take (mark_at trail.marks i).start mark.start trail.steps (omega arith)) ∙ e.before;
            visits = e.visits;
          });
      ordered = λ i j ij lt.
          let j_level : j < level = omega (arith, few) in
          subst (λ (x : Mark). x.head ≤ (mark_at (take level trail.marks) j).head) (sym (mark_at-take trail.marks level i (omega arith)))
          (subst (λ (x : Mark). (mark_at trail.marks i).head ≤ x.head) (sym (mark_at-take trail.marks level j j_level)) (m.ordered i j ij (omega arith)));
      last = λ i lt.
          let i_level : i < level = omega (arith, few) in
          subst (λ (x : Mark). x.head ≤ mark.head) (sym (mark_at-take trail.marks level i i_level)) (m.ordered i level (omega arith) h);
      visits = let v = k.visits in omega (arith, len, v);
    }

WatchesFit-back : (book : BookState) (trail : TrailState) (level : ℕ) → Goes book trail → level < decisions trail.steps → WatchesFit book (gone_back trail level)
WatchesFit-back book trail level g h =
    let m = g.marks in
    let lt : level < length trail.marks = omega (arith, m.as_many) in
    let mark = mark_at trail.marks level in
    let e = back_is trail level m h in
    let few = length-take-le level trail.marks (omega arith) in
    record {
      now = subst (λ (x : List Step). AllWatched book x mark.head) (sym e) (g.watches.back level lt);
      back = λ i il.
          let i_level : i < level = omega (arith, few) in
          let nested = marks_nested trail m i level i_level lt in
          subst (λ (x : List Step). AllWatched book (take (mark_at (take level trail.marks) i).start x) (mark_at (take level trail.marks) i).head) (sym e)
          (subst (λ (x : Mark). AllWatched book (take x.start (take mark.start trail.steps)) x.head) (sym (mark_at-take trail.marks level i i_level))
          (subst (λ (x : List Step). AllWatched book x (mark_at trail.marks i).head) (sym (take-take (mark_at trail.marks i).start mark.start trail.steps (omega arith))) (g.watches.back i (omega arith))));
    }

-- a jump
pub Goes-jumped : (book : BookState) (trail : TrailState) (level literal clause : ℕ) → Goes book trail → level < decisions trail.steps → length trail.steps ≤ trail.atoms → literal < 2 * trail.atoms → IsUnassigned (back_to level trail.steps) literal → clause < length book.clauses → Implies (back_to level trail.steps) (clause_at book.clauses clause) literal → Goes book (placed (gone_back trail level) (record { literal = literal; reason = Some clause }))
Goes-jumped book trail level literal clause g h few code un in_book implied =
    let step : Step = record { literal = literal; reason = Some clause } in
    let m = g.marks in
    let lt : level < length trail.marks = omega (arith, m.as_many) in
    let mark = mark_at trail.marks level in
    let k = m.each level lt in
    let within = k.within in
    let e = back_is trail level m h in
    let len = length-take-le mark.start trail.steps (omega arith) in
    let old = step_at trail.steps mark.start in
    let later = drop (mark.start + 1) trail.steps in
    let parts : trail.steps ≡ take mark.start trail.steps ++ old ∷ later = sym (take-append-drop mark.start trail.steps) ∙ ap (λ (x : List Step). take mark.start trail.steps ++ x) (drop_more trail.steps mark.start no_step within) in
    let parts_few : length (take mark.start trail.steps ++ old ∷ later) ≤ trail.atoms = subst (λ (x : List Step). length x ≤ trail.atoms) parts few in
    let replaced = number_replaced trail.atoms (take mark.start trail.steps) later old step parts_few k.decision refl in
    let was = ap (number trail.atoms) parts in
    let is = ap (λ (x : List Step). number trail.atoms (x ++ step ∷ [])) e in
    let counted = g.counted in
    let short = ap length e in
    implied_placed book (gone_back trail level) literal clause g.same_atoms
    (subst (IsLawful trail.atoms book.clauses) (sym e) (IsLawful-take trail.atoms book.clauses trail.steps mark.start (omega arith) g.lawful))
    (subst (λ (x : List Step). AreMarks x (take level trail.marks) mark.head) (sym e) (AreMarks-back trail level m lt))
    (WatchesFit-back book trail level g h) (omega (arith, short, len, within, few)) code un in_book implied (omega (arith, replaced, was, is, counted))

-- an empty trail goes with every book over as many atoms
pub Goes-empty : (book : BookState) (trail : TrailState) → book.atoms ≡ trail.atoms → trail.steps ≡ [] → trail.count ≡ 0 → trail.marks ≡ [] → trail.head ≡ 0 → Goes book trail
Goes-empty book trail same steps count marks head =
    let none = ap length steps in
    let no_marks = ap length marks in
    let power = three_pos trail.atoms in
    record {
      same_atoms = same;
      lawful = record {
        in_range = λ place h. absurd (omega (arith, none));
        distinct = λ p q pq h. absurd (omega (arith, none));
        reasoned = λ place h. absurd (omega (arith, none));
      };
      counted = omega (arith, count);
      bounded = omega (arith, count, power);
      marks = record {
        as_many = no_marks ∙ sym (ap decisions steps);
        each = λ level h. absurd (omega (arith, no_marks));
        ordered = λ i j ij h. absurd (omega (arith, no_marks));
        last = λ level h. absurd (omega (arith, no_marks));
        visits = omega (arith, head);
      };
      watches = record {
        now = λ clause h. record { first = λ visit v. absurd (omega (arith, head)); second = λ visit v. absurd (omega (arith, head)) };
        back = λ level h. absurd (omega (arith, no_marks));
      };
    }

pub AreMarks-empty : AreMarks [] [] 0
AreMarks-empty = record {
  as_many = refl;
  each = λ level h. absurd (omega arith);
  ordered = λ i j ij h. absurd (omega arith);
  last = λ level h. absurd (omega arith);
  visits = omega arith;
}

-- more clauses, none of them watched
pub Goes-added : (old new : BookState) (trail : TrailState) → new.atoms ≡ old.atoms → new.watched ≡ old.watched → old.watched ≤ length old.clauses → length old.clauses ≤ length new.clauses → ((clause : ℕ) → clause < length old.clauses → clause_at new.clauses clause ≡ clause_at old.clauses clause) → Goes old trail → Goes new trail
Goes-added old new trail atoms watched within longer same g =
    let each : (steps : List Step) (head : ℕ) → AllWatched old steps head → AllWatched new steps head = λ steps head a clause h.
    let lt : clause < old.watched = omega (arith, h, watched) in
    subst (λ (n : ℕ). IsWatched n steps head (clause_at new.clauses clause)) (sym atoms) (subst (IsWatched old.atoms steps head) (sym (same clause (omega (arith, lt, within)))) (a clause lt)) in
    record {
      same_atoms = atoms ∙ g.same_atoms;
      lawful = record {
        in_range = g.lawful.in_range;
        distinct = g.lawful.distinct;
        reasoned = λ place h number e.
            let r = g.lawful.reasoned place h number e in
            (omega (arith, r.0, longer), subst (λ (c : List ℕ). Implies (take place trail.steps) c (literal_at trail.steps place)) (sym (same number r.0)) r.1);
      };
      counted = g.counted;
      bounded = g.bounded;
      marks = g.marks;
      watches = record {
        now = each trail.steps trail.head g.watches.now;
        back = λ level h. each (take (mark_at trail.marks level).start trail.steps) (mark_at trail.marks level).head (g.watches.back level h);
      };
    }
