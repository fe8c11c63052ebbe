-- lemmas on the marks that a false clause sets
use Rattle.std.proofs.Common.{◌≡◌, ◌≢◌, ℕ, suc, ◌+◌, ◌-◌, ◌/◌, ◌<◌, ◌≤◌, Bool, true, false, List, [], ◌∷◌, ◌++◌, length, Some, IsTrue, ◌↔◌, refl, sym, ap, ◌∙◌, subst, ⊎_elim, inl, inr, arith}
use Rattle.std.specs.List.{Contains}
use Rattle.std.proofs.lemmas.List.Elements.{Contains-append_left, Contains-push, Contains-push_cases}
use Rattle.std.proofs.lemmas.Bool.{cases_eq, cases_lt, false≢true}
use Rattle.std.specs.Ordering.{ord_max, nat_cmp}
use Rattle.std.proofs.lemmas.Bool.Decides.{nat_tests}
use Rattle.asp_clauses.specs.declared.trail.Step.{Step}
use Rattle.asp_clauses.specs.Literal.{negated}
use Rattle.asp_clauses.specs.Trail.{literal_at, step_at, level_at, is_decision, IsFalse, IsLawful, clause_at}
use Rattle.asp_search.specs.Meaning.{MentionedIn, Mentions}
use Rattle.asp_search.specs.Learned.{Has, IsGrounded}
use Rattle.asp_search.specs.Analysis.{IsFixed, AreMarked, open_below, AreApart, AtMost, Before, MarksReason, IsTopLevel, IsWalk, IsCut, IsHighest}
use Rattle.asp_clauses.proofs.LiteralLemmas.{negated-half}
use Rattle.asp_clauses.proofs.FewLemmas.{not_both}
use Rattle.asp_search.proofs.Truth.{Contains-cases}
use Rattle.asp_search.proofs.Trails.{level_at-le, level_at-before-decision, placed_before}
use Rattle.asp_search.proofs.Resolution.{Refutes-conflict, Refutes-resolved, Refutes-passed}
use Rattle.asp_search.proofs.Counting.{open_below-push, open_below-push_other, open_below-none, open_below-some, open_below-marked, open_below-passed}

only_one : (x y : ℕ) → Contains (x ∷ []) y → x ≡ y
only_one x y c =
    ⊎_elim (λ (e : x ≡ y). e) (λ (t : Contains [] y). absurd (omega (arith, t.1))) (Contains-cases x [] y c)

-- two places of one atom are the same
pub same_place : (steps : List Step) → AreApart steps → (p q : ℕ) → p < length steps → q < length steps → literal_at steps p / 2 ≡ literal_at steps q / 2 → p ≡ q
same_place steps apart p q hp hq e =
    ⊎_elim
    (λ (b : p < q). absurd (apart p q b hq e))
    (λ (u : q ≤ p). ⊎_elim (λ (c : q < p). absurd (apart q p c hp (sym e))) (λ (v : p ≤ q). omega (arith, u, v)) (cases_lt q p))
    (cases_lt p q)

pub same_place-literal : (steps : List Step) → AreApart steps → (p q : ℕ) → p < length steps → q < length steps → literal_at steps p ≡ literal_at steps q → p ≡ q
same_place-literal steps apart p q hp hq e = same_place steps apart p q hp hq (ap (λ (l : ℕ). l / 2) e)

-- one new mark
module _ (steps : List Step) (apart : AreApart steps) (literal level place : ℕ) (old : List ℕ) (marked : AreMarked steps level old) (within : place < length steps) (is : literal_at steps place ≡ negated literal) (above : 0 < level_at steps place) (most : level_at steps place ≤ level) (fresh : Contains old (negated literal) → ⊥) where
  fresh_there : Contains old (literal_at steps place) → ⊥
  fresh_there c = fresh (subst (λ (x : ℕ). Contains old x) is c)

  MarksReason-mark : (pending : ℕ) → ((end : ℕ) → end ≤ length steps → place < end → open_below (old ++ negated literal ∷ []) steps level end ≡ open_below old steps level end + pending) → MarksReason steps (literal ∷ []) level old (old ++ negated literal ∷ []) pending
  MarksReason-mark pending counts = record {
    grows = λ l c. Contains-append_left old (negated literal ∷ []) l c;
    covers = λ l c placed. inr (subst (λ (x : ℕ). Contains (old ++ negated literal ∷ []) (negated x)) (only_one literal l c) (Contains-push old (negated literal)));
    marked = λ l c.
        ⊎_elim
        (λ (h : Contains old l). marked l h)
        (λ (e : negated literal ≡ l). record { place = place; within = within; is = is ∙ e; above = above; most = most })
        (Contains-push_cases old (negated literal) l c);
    counts = λ end h b. counts end h (b literal place (0, omega arith, refl) within is);
    mentions = λ l c.
        ⊎_elim
        (λ (h : Contains old l). inl h)
        (λ (e : negated literal ≡ l). inr (record { literal = literal; has = (0, omega arith, refl); of_atom = sym (negated-half literal) ∙ ap (λ (x : ℕ). x / 2) e }))
        (Contains-push_cases old (negated literal) l c);
  }

  pub MarksReason-one : level_at steps place ≡ level → MarksReason steps (literal ∷ []) level old (old ++ negated literal ∷ []) 1
  MarksReason-one at = MarksReason-mark 1 (λ end h b.
      subst (λ (x : ℕ). open_below (old ++ x ∷ []) steps level end ≡ open_below old steps level end + 1) is (open_below-push steps apart old level place within fresh_there at end h b))

  pub MarksReason-lower : level_at steps place ≢ level → MarksReason steps (literal ∷ []) level old (old ++ negated literal ∷ []) 0
  MarksReason-lower not_at = MarksReason-mark 0 (λ end h b.
      subst (λ (x : ℕ). open_below (old ++ x ∷ []) steps level end ≡ open_below old steps level end + 0) is (omega (arith, open_below-push_other steps apart old level place within not_at end h)))

-- one literal more
pub MarksReason-more : (steps : List Step) (front : List ℕ) (literal level : ℕ) (old middle new : List ℕ) (m n : ℕ) → MarksReason steps front level old middle m → MarksReason steps (literal ∷ []) level middle new n → MarksReason steps (front ++ literal ∷ []) level old new (m + n)
MarksReason-more steps front literal level old middle new m n a b = record {
  grows = λ l c. b.grows l (a.grows l c);
  covers = λ l c placed.
      ⊎_elim
      (λ (h : Contains front l). ⊎_elim (λ (f : IsFixed steps (negated l)). inl f) (λ (k : Contains middle (negated l)). inr (b.grows (negated l) k)) (a.covers l h placed))
      (λ (e : literal ≡ l). b.covers l (0, omega arith, e) placed)
      (Contains-push_cases front literal l c);
  marked = b.marked;
  counts = λ end h before.
      omega (
        arith,
        a.counts end h (λ l p c. before l p (Contains-append_left front (literal ∷ []) l c)),
        b.counts end h (λ l p c. before l p (subst (λ (x : ℕ). Contains (front ++ literal ∷ []) x) (only_one literal l c) (Contains-push front literal))),
      );
  mentions = λ l c.
      ⊎_elim
      (λ (h : Contains middle l).
      ⊎_elim
      (λ (o : Contains old l). inl o)
      (λ (f : MentionedIn front (l / 2)). inr (record { literal = f.literal; has = Contains-append_left front (literal ∷ []) f.literal f.has; of_atom = f.of_atom }))
      (a.mentions l h))
      (λ (f : MentionedIn (literal ∷ []) (l / 2)). inr (record { literal = literal; has = Contains-push front literal; of_atom = ap (λ (x : ℕ). x / 2) (only_one literal f.literal f.has) ∙ f.of_atom }))
      (b.mentions l c);
}

none_open : (steps : List Step) (level end : ℕ) → open_below [] steps level end ≡ 0
none_open steps level end =
    ⊎_elim
    (λ (h : 0 < open_below [] steps level end). absurd (omega (arith, (open_below-some [] steps level end h).is_marked.1)))
    (λ (u : open_below [] steps level end ≤ 0). omega (arith, u))
    (cases_lt 0 (open_below [] steps level end))

-- ---- the level of a conflict

pub ord_max-highest : (a b : ℕ) → IsHighest a b (ord_max nat_cmp a b)
ord_max-highest a b =
    ⊎_elim
    (λ (h : a < b).
    let e : ord_max nat_cmp a b ≡ b = grind (arith, nat_tests) in
    record { left = omega (arith, e, h); right = omega (arith, e); one = inr e })
    (λ (h : b ≤ a).
    let e : ord_max nat_cmp a b ≡ a = grind (arith, nat_tests) in
    record { left = omega (arith, e, h); right = omega (arith, e, h); one = inl e })
    (cases_lt a b)

pub IsTopLevel-more : (steps : List Step) → AreApart steps → (front : List ℕ) (literal place level at highest : ℕ) → place < length steps → literal_at steps place ≡ negated literal → at ≡ level_at steps place → IsHighest level at highest → IsTopLevel steps front level → IsTopLevel steps (front ++ literal ∷ []) highest
IsTopLevel-more steps apart front literal place level at highest within is at_is high top = record {
  most = λ l p c inside there.
      ⊎_elim
      (λ (h : Contains front l). omega (arith, top.most l p h inside there, high.left))
      (λ (e : literal ≡ l).
      let same : p ≡ place = same_place-literal steps apart p place inside within (there ∙ (ap (λ (x : ℕ). negated x) (sym e) ∙ sym is)) in
      omega (arith, at_is, ap (λ (x : ℕ). level_at steps x) same, high.right))
      (Contains-push_cases front literal l c);
  reached = λ h.
      ⊎_elim
      (λ (u : highest ≡ level).
      let r = top.reached (omega (arith, h, u)) in
      (r.0, r.1, Contains-append_left front (literal ∷ []) r.0 r.2, r.3, r.4, omega (arith, r.5, u)))
      (λ (b : highest ≡ at). (literal, place, Contains-push front literal, within, is, omega (arith, at_is, b)))
      high.one;
}

-- what one of the clauses mentions, they mention
pub mentions_based : (base : List (List ℕ)) (clause : List ℕ) (atom : ℕ) → Has base clause → MentionedIn clause atom → Mentions base atom
mentions_based base clause atom based m = record { number = based.0; within = based.1; mentioned = rw based.2 m }

-- the walk begins with the conflict
pub IsWalk-start : (atoms : ℕ) (base clauses : List (List ℕ)) (steps : List Step) → IsLawful atoms clauses steps → IsGrounded base clauses steps → (number level pending : ℕ) (marked : List ℕ) → Has base (clause_at clauses number) → IsFalse steps (clause_at clauses number) → IsTopLevel steps (clause_at clauses number) level → 0 < level → MarksReason steps (clause_at clauses number) level [] marked pending → IsWalk base steps marked level (length steps) pending
IsWalk-start atoms base clauses steps lawful grounded number level pending marked based fails top decided b =
    let count : pending ≡ open_below marked steps level (length steps) = omega (arith, b.counts (length steps) (omega arith) (λ l p c inside is. inside), none_open steps level (length steps)) in
    let r = top.reached decided in
    record {
      refutes = Refutes-conflict atoms base clauses steps lawful grounded number marked based fails b.covers;
      count = count;
      some = ⊎_elim
          (λ (h : 0 < pending). h)
          (λ (z : pending ≤ 0).
          absurd (⊎_elim
          (λ (f : IsFixed steps (negated r.0)).
          let same : f.place ≡ r.1 = same_place-literal steps lawful.distinct f.place r.1 f.within r.3 (f.is ∙ sym r.4) in
          omega (arith, f.low, r.5, ap (λ (x : ℕ). level_at steps x) same, decided))
          (λ (c : Contains marked (negated r.0)). open_below-none marked steps level (length steps) r.1 (omega (arith, count, z)) r.3 (subst (λ (x : ℕ). Contains marked x) (sym r.4) c) r.5)
          (b.covers r.0 r.2 (r.1, r.3, r.4))))
          (cases_lt 0 pending);
      within = omega arith;
      levels = b.marked;
      mentions = λ l c.
          ⊎_elim
          (λ (h : Contains [] l). absurd (omega (arith, h.1)))
          (λ (m : MentionedIn (clause_at clauses number) (l / 2)). mentions_based base (clause_at clauses number) (l / 2) based m)
          (b.mentions l c);
    }

-- ---- a step of the walk

module _ (atoms : ℕ) (base clauses : List (List ℕ)) (steps : List Step) (lawful : IsLawful atoms clauses steps) (grounded : IsGrounded base clauses steps) (marked : List ℕ) (level place pending : ℕ) (walk : IsWalk base steps marked level (suc place) pending) where
  -- a literal that isn't marked is passed over
  pub IsWalk-passed : (Contains marked (literal_at steps place) → ⊥) → IsWalk base steps marked level place pending
  IsWalk-passed unmarked = record {
    refutes = Refutes-passed atoms base clauses steps lawful grounded marked [] place unmarked walk.refutes;
    count = omega (arith, walk.count, open_below-passed marked steps level place unmarked);
    some = walk.some;
    within = omega (arith, walk.within);
    levels = walk.levels;
    mentions = walk.mentions;
  }

  -- a marked one is of the level
  pub walk_level : Contains marked (literal_at steps place) → level_at steps place ≡ level
  walk_level m =
      let within : place < length steps = omega (arith, walk.within) in
      let o = open_below-some marked steps level (suc place) (omega (arith, walk.count, walk.some)) in
      let k = walk.levels (literal_at steps place) m in
      let same : k.place ≡ place = same_place-literal steps lawful.distinct k.place place k.within within k.is in
      omega (arith, o.at_level, level_at-le steps o.place place (omega (arith, o.before)), k.most, ap (λ (x : ℕ). level_at steps x) same)

  marked_count : Contains marked (literal_at steps place) → pending ≡ open_below marked steps level place + 1
  marked_count m = omega (arith, walk.count, open_below-marked marked steps level place m (walk_level m))

  IsCut-none : Contains marked (literal_at steps place) → open_below marked steps level place ≡ 0 → IsCut base steps marked level place
  IsCut-none m none = record {
    refutes = walk.refutes;
    within = omega (arith, walk.within);
    is_marked = m;
    at_level = walk_level m;
    alone = λ p lower c.
        let k = walk.levels (literal_at steps p) c in
        let inside : p < length steps = omega (arith, lower, walk.within) in
        let same : k.place ≡ p = same_place-literal steps lawful.distinct k.place p k.within inside k.is in
        ⊎_elim
        (λ (e : level_at steps p ≡ level). absurd (open_below-none marked steps level place p none lower c e))
        (λ (n : level_at steps p ≡ level → ⊥). omega (arith, n, k.most, ap (λ (x : ℕ). level_at steps x) same))
        (cases_eq (level_at steps p) level);
    levels = walk.levels;
    mentions = walk.mentions;
  }

  -- nothing else of the level is left
  pub IsCut-one : Contains marked (literal_at steps place) → pending ≡ 1 → IsCut base steps marked level place
  IsCut-one m one = IsCut-none m (omega (arith, one, marked_count m))

  -- before a decision nothing is of its level
  pub IsCut-decision : Contains marked (literal_at steps place) → is_decision (step_at steps place) ≡ true → IsCut base steps marked level place
  IsCut-decision m d =
      IsCut-none m (⊎_elim
      (λ (h : 0 < open_below marked steps level place).
      let o = open_below-some marked steps level place h in
      absurd (omega (arith, o.at_level, walk_level m, level_at-before-decision steps o.place place o.before (omega (arith, walk.within)) d)))
      (λ (u : open_below marked steps level place ≤ 0). omega (arith, u))
      (cases_lt 0 (open_below marked steps level place)))

  -- what makes the reason's other literals false stands before
  pub reason_before : (number : ℕ) → (step_at steps place).reason ≡ Some number → Before steps (clause_at clauses number) place
  reason_before number reason l p c inside is =
      let within : place < length steps = omega (arith, walk.within) in
      let r = lawful.reasoned place within number reason in
      ⊎_elim
      (λ (e : l ≡ literal_at steps place).
      absurd (not_both steps l lawful.distinct (place, within, sym e) (p, inside, is)))
      (λ (n : l ≡ literal_at steps place → ⊥).
      let b = placed_before steps place (negated l) (r.1.others_fail l c n) in
      let same : p ≡ b.0 = same_place-literal steps lawful.distinct p b.0 inside b.2 (is ∙ sym b.3) in
      omega (arith, same, b.1))
      (cases_eq l (literal_at steps place))

  pub reason_most : (number : ℕ) → (step_at steps place).reason ≡ Some number → Contains marked (literal_at steps place) → AtMost steps (clause_at clauses number) level
  reason_most number reason m l p c inside is =
      omega (arith, walk_level m, level_at-le steps p place (omega (arith, reason_before number reason l p c inside is)))

  -- the literal is resolved with its reason
  pub IsWalk-resolved : (number newly : ℕ) (more : List ℕ) → (step_at steps place).reason ≡ Some number → Has base (clause_at clauses number) → Contains marked (literal_at steps place) → pending ≢ 1 → MarksReason steps (clause_at clauses number) level marked more newly → IsWalk base steps more level place (pending - 1 + newly)
  IsWalk-resolved number newly more reason based m several b =
      let within : place < length steps = omega (arith, walk.within) in
      let r = lawful.reasoned place within number reason in
      record {
        refutes = Refutes-resolved atoms base clauses steps lawful grounded marked more [] place number within reason based b.grows b.covers walk.refutes;
        count = omega (arith, marked_count m, b.counts place (omega (arith, within)) (reason_before number reason));
        some = omega (arith, several, walk.some);
        within = omega (arith, within);
        levels = b.marked;
        mentions = λ l c.
            ⊎_elim
            (λ (h : Contains marked l). walk.mentions l h)
            (λ (f : MentionedIn (clause_at clauses number) (l / 2)). mentions_based base (clause_at clauses number) (l / 2) based f)
            (b.mentions l c);
      }

-- what a test of the marks tells of the literal at a place
pub marked_at : (seen : List ℕ) (literal there : ℕ) (result : Bool) → IsTrue result ↔ Contains seen literal → result ≡ true → literal ≡ there → Contains seen there
marked_at seen literal there result tells is same = subst (λ (l : ℕ). Contains seen l) same (tells.0 is)

pub unmarked_at : (seen : List ℕ) (literal there : ℕ) (result : Bool) → IsTrue result ↔ Contains seen literal → result ≡ false → literal ≡ there → Contains seen there → ⊥
unmarked_at seen literal there result tells is same c =
    false≢true (sym is ∙ tells.1 (subst (λ (l : ℕ). Contains seen l) (sym same) c))
