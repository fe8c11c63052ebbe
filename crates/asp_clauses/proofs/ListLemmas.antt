-- Lists of watching clauses: one more at the front, and one taken out.
use Rattle.std.proofs.Common.{◌≡◌, ◌≢◌, ℕ, zero, suc, ◌+◌, ◌-◌, ◌*◌, ◌<◌, ◌≤◌, ◌⊎◌, Bool, true, false, cond, eqb, List, ◌∷◌, length, get_or, sym, ◌∙◌, ap, arith, inl, inr, subst}
use Rattle.std.specs.List.{remove}
use Rattle.std.proofs.lemmas.Bool.{cases_lt, cases_eq}
use Rattle.std.proofs.lemmas.Bool.Decides.{nat_tests}
use Rattle.std.proofs.lemmas.List.Edits.{get_or-remove_below, get_or-remove_above, length-remove}
use Rattle.asp_clauses.specs.Records.{end}
use Rattle.asp_clauses.specs.Watches.{ListsOf}
use Rattle.asp_clauses.specs.Visits.{consed, removed}

eqb_same : (x y : ℕ) → x ≡ y → eqb x y ≡ true
eqb_same x y e = grind (arith, nat_tests)

eqb_other : (x y : ℕ) → x ≢ y → eqb x y ≡ false
eqb_other x y e = grind (arith, nat_tests)

pub consed_same : (lists : ℕ → List ℕ) (to clause literal : ℕ) → literal ≡ to → consed lists to clause literal ≡ clause ∷ lists to
consed_same lists to clause literal e = ap (λ (b : Bool). cond b (clause ∷ lists to) (lists literal)) (eqb_same literal to e)

pub consed_other : (lists : ℕ → List ℕ) (to clause literal : ℕ) → literal ≢ to → consed lists to clause literal ≡ lists literal
consed_other lists to clause literal e = ap (λ (b : Bool). cond b (clause ∷ lists to) (lists literal)) (eqb_other literal to e)

pub removed_same : (lists : ℕ → List ℕ) (from k literal : ℕ) → literal ≡ from → removed lists from k literal ≡ remove (lists from) k
removed_same lists from k literal e = ap (λ (b : Bool). cond b (remove (lists from) k) (lists literal)) (eqb_same literal from e)

pub removed_other : (lists : ℕ → List ℕ) (from k literal : ℕ) → literal ≢ from → removed lists from k literal ≡ lists literal
removed_other lists from k literal e = ap (λ (b : Bool). cond b (remove (lists from) k) (lists literal)) (eqb_other literal from e)

-- heads and links, as functions, run through the lists
pub record Threaded (most : ℕ) (head : ℕ → ℕ) (next : ℕ → ℕ → ℕ) (lists : ℕ → List ℕ) : Type 0 where
  pub first : (literal : ℕ) → literal ≤ most → head literal ≡ get_or (lists literal) 0 end
  pub later : (literal k : ℕ) → literal ≤ most → k < length (lists literal) → next literal (get_or (lists literal) k end) ≡ get_or (lists literal) (k + 1) end

-- a thread of one list, for the same heads and links at its members
thread_of : (next : ℕ → ℕ) (xs ys : List ℕ) → xs ≡ ys → ((k : ℕ) → k < length ys → next (get_or ys k end) ≡ get_or ys (k + 1) end) → (k : ℕ) → k < length xs → next (get_or xs k end) ≡ get_or xs (k + 1) end
thread_of next xs ys e h k l = subst (λ (zs : List ℕ). next (get_or zs k end) ≡ get_or zs (k + 1) end) (sym e) (h k (let n = ap length e in omega (arith, n, l)))

pub Threaded-cons : (most : ℕ) (head head' : ℕ → ℕ) (next next' : ℕ → ℕ → ℕ) (lists : ℕ → List ℕ) (to clause : ℕ) → Threaded most head next lists → to ≤ most →
    head' to ≡ clause → ((literal : ℕ) → literal ≤ most → literal ≢ to → head' literal ≡ head literal) →
    next' to clause ≡ head to → ((literal k : ℕ) → literal ≤ most → k < length (lists literal) → next' literal (get_or (lists literal) k end) ≡ next literal (get_or (lists literal) k end)) →
    Threaded most head' next' (consed lists to clause)
Threaded-cons most head head' next next' lists to clause t within leads others links same = record {
  first = λ literal h. elim (cases_eq literal to) [
    | inl e ↦ ap head' e ∙ leads ∙ sym (ap (λ (xs : List ℕ). get_or xs 0 end) (consed_same lists to clause literal e))
    | inr ne ↦ others literal h ne ∙ t.first literal h ∙ sym (ap (λ (xs : List ℕ). get_or xs 0 end) (consed_other lists to clause literal ne))
  ];
  later = λ literal k h lt. elim (cases_eq literal to) [
    | inl e ↦ thread_of (next' literal) (consed lists to clause literal) (clause ∷ lists to) (consed_same lists to clause literal e) (λ j jl. at_front literal e j jl) k lt
    | inr ne ↦ thread_of (next' literal) (consed lists to clause literal) (lists literal) (consed_other lists to clause literal ne) (λ j jl. same literal j h jl ∙ t.later literal j h jl) k lt
  ];
}
  where
    at_front : (literal : ℕ) → literal ≡ to → (j : ℕ) → j < length (clause ∷ lists to) → next' literal (get_or (clause ∷ lists to) j end) ≡ get_or (clause ∷ lists to) (j + 1) end
    at_front literal e zero h = ap (λ (x : ℕ). next' x clause) e ∙ links ∙ t.first to within
    at_front literal e (suc j) h = ap (λ (x : ℕ). next' x (get_or (lists to) j end)) e ∙ same to j within (omega arith) ∙ t.later to j within (omega arith) ∙ (let next_place : suc (j + 1) ≡ suc j + 1 = omega arith in ap (λ (n : ℕ). get_or (clause ∷ lists to) n end) next_place)

-- taken out: the link before the clause now leads past it
pub Threaded-remove : (most : ℕ) (head head' : ℕ → ℕ) (next next' : ℕ → ℕ → ℕ) (lists : ℕ → List ℕ) (from j : ℕ) → Threaded most head next lists → from ≤ most → j < length (lists from) →
    (j ≡ 0 → head' from ≡ next from (get_or (lists from) j end)) → (0 < j → head' from ≡ head from) → ((literal : ℕ) → literal ≤ most → literal ≢ from → head' literal ≡ head literal) →
    ((i : ℕ) → j ≡ i + 1 → next' from (get_or (lists from) i end) ≡ next from (get_or (lists from) j end)) →
    ((literal k : ℕ) → literal ≤ most → k < length (lists literal) → (literal ≡ from → (k + 1 ≢ j) × (k ≢ j)) → next' literal (get_or (lists literal) k end) ≡ next literal (get_or (lists literal) k end)) →
    Threaded most head' next' (removed lists from j)
Threaded-remove most head head' next next' lists from j t within jl first0 first1 others before same =
    let xs = lists from in let ys = remove xs j in let len = length-remove xs j jl in record {
      first = λ literal h. elim (cases_eq literal from) [
        | inl e ↦ ap head' e ∙ elim (cases_eq j 0) [
          | inl z ↦ first0 z ∙ t.later from j within jl ∙ ap (λ (n : ℕ). get_or xs (n + 1) end) z ∙ sym (get_or-remove_above xs j end 0 (omega arith) jl)
          | inr nz ↦ first1 (omega (arith, nz)) ∙ t.first from within ∙ sym (get_or-remove_below xs j end 0 (omega (arith, nz)) jl)
        ]
            ∙ sym (ap (λ (zs : List ℕ). get_or zs 0 end) (removed_same lists from j literal e))
        | inr ne ↦ others literal h ne ∙ t.first literal h ∙ sym (ap (λ (zs : List ℕ). get_or zs 0 end) (removed_other lists from j literal ne))
      ];
      later = λ literal k h lt. elim (cases_eq literal from) [
        | inl e ↦ thread_of (next' literal) (removed lists from j literal) ys (removed_same lists from j literal e)
            (λ i il. ap (λ (x : ℕ). next' x (get_or ys i end)) e ∙ elim (cases_lt i j) [
              | inl lower ↦ ap (next' from) (get_or-remove_below xs j end i lower jl) ∙ elim (cases_eq (i + 1) j) [
                | inl last ↦ before i (sym last) ∙ t.later from j within jl ∙ sym (get_or-remove_above xs j end (i + 1) (omega arith) jl ∙ ap (λ (n : ℕ). get_or xs (n + 1) end) last)
                | inr not_last ↦ same from i within (omega arith) (λ _. (not_last, omega arith)) ∙ t.later from i within (omega arith) ∙ sym (get_or-remove_below xs j end (i + 1) (omega (arith, not_last)) jl)
              ]
              | inr upper ↦ ap (next' from) (get_or-remove_above xs j end i upper jl) ∙ same from (i + 1) within (omega (arith, len, il)) (λ _. (omega arith, omega arith)) ∙ t.later from (i + 1) within (omega (arith, len, il)) ∙ sym (get_or-remove_above xs j end (i + 1) (omega arith) jl)
            ]) k lt
        | inr ne ↦ thread_of (next' literal) (removed lists from j literal) (lists literal) (removed_other lists from j literal ne)
            (λ i il. same literal i h il (λ e. absurd (ne e)) ∙ t.later literal i h il) k lt
      ];
    }

-- a member of a list
abbrev pub StandsAt : List ℕ → ℕ → Type 0
StandsAt xs x = (k : ℕ) × (k < length xs) × (get_or xs k end ≡ x)

along : (P : ℕ → Type 0) (xs ys : List ℕ) → xs ≡ ys → ((k : ℕ) → k < length ys → P (get_or ys k end)) → (k : ℕ) → k < length xs → P (get_or xs k end)
along P xs ys e h k l = subst (λ (zs : List ℕ). P (get_or zs k end)) (sym e) (h k (let n = ap length e in omega (arith, n, l)))

stands_along : (xs ys : List ℕ) (x : ℕ) → xs ≡ ys → StandsAt ys x → StandsAt xs x
stands_along xs ys x e s = subst (λ (zs : List ℕ). StandsAt zs x) (sym e) s

differ_along : (xs ys : List ℕ) → xs ≡ ys → ((j k : ℕ) → j < k → k < length ys → get_or ys j end ≢ get_or ys k end) → (j k : ℕ) → j < k → k < length xs → get_or xs j end ≢ get_or xs k end
differ_along xs ys e h j k jk l = subst (λ (zs : List ℕ). get_or zs j end ≢ get_or zs k end) (sym e) (h j k jk (let n = ap length e in omega (arith, n, l)))

pub ListsOf-cons : (Belongs Belongs' : ℕ → ℕ → Type 0) (atoms : ℕ) (lists : ℕ → List ℕ) (to clause : ℕ) → ListsOf Belongs atoms lists → to ≤ 2 * atoms → (Belongs to clause → ⊥) → Belongs' to clause →
    ((literal c : ℕ) → Belongs literal c → Belongs' literal c) → ((literal c : ℕ) → Belongs' literal c → Belongs literal c ⊎ ((literal ≡ to) × (c ≡ clause))) → ListsOf Belongs' atoms (consed lists to clause)
ListsOf-cons Belongs Belongs' atoms lists to clause l within absent new keeps cases = record {
  sound = λ literal k h lt. elim (cases_eq literal to) [
    | inl e ↦ along (Belongs' literal) (consed lists to clause literal) (clause ∷ lists to) (consed_same lists to clause literal e) (sound_front literal e) k lt
    | inr ne ↦ along (Belongs' literal) (consed lists to clause literal) (lists literal) (consed_other lists to clause literal ne) (λ i il. keeps literal (get_or (lists literal) i end) (l.sound literal i h il)) k lt
  ];
  complete = λ literal c h b. elim (cases literal c b) [
    | inl old ↦ let p = l.complete literal c h old in elim (cases_eq literal to) [
      | inl e ↦ let q = subst (λ (x : ℕ). StandsAt (lists x) c) e p in stands_along (consed lists to clause literal) (clause ∷ lists to) c (consed_same lists to clause literal e) (suc q.0, omega (arith, q.1), q.2)
      | inr ne ↦ stands_along (consed lists to clause literal) (lists literal) c (consed_other lists to clause literal ne) p
    ]
    | inr is ↦ stands_along (consed lists to clause literal) (clause ∷ lists to) c (consed_same lists to clause literal is.0) (0, omega arith, sym is.1)
  ];
  distinct = λ literal j k h jk lt. elim (cases_eq literal to) [
    | inl e ↦ differ_along (consed lists to clause literal) (clause ∷ lists to) (consed_same lists to clause literal e) distinct_front j k jk lt
    | inr ne ↦ differ_along (consed lists to clause literal) (lists literal) (consed_other lists to clause literal ne) (λ a b ab bl. l.distinct literal a b h ab bl) j k jk lt
  ];
}
  where
    sound_front : (literal : ℕ) → literal ≡ to → (k : ℕ) → k < length (clause ∷ lists to) → Belongs' literal (get_or (clause ∷ lists to) k end)
    sound_front literal e zero h = subst (λ (x : ℕ). Belongs' x clause) (sym e) new
    sound_front literal e (suc k) h = subst (λ (x : ℕ). Belongs' x (get_or (lists to) k end)) (sym e) (keeps to (get_or (lists to) k end) (l.sound to k within (omega arith)))

    distinct_front : (j k : ℕ) → j < k → k < length (clause ∷ lists to) → get_or (clause ∷ lists to) j end ≢ get_or (clause ∷ lists to) k end
    distinct_front j zero jk h = absurd (omega arith)
    distinct_front zero (suc k) jk h = λ e. absent (subst (Belongs to) (sym e) (l.sound to k within (omega arith)))
    distinct_front (suc j) (suc k) jk h = l.distinct to j k within (omega arith) (omega arith)

pub ListsOf-remove : (Belongs Belongs' : ℕ → ℕ → Type 0) (atoms : ℕ) (lists : ℕ → List ℕ) (from j : ℕ) → ListsOf Belongs atoms lists → from ≤ 2 * atoms → j < length (lists from) →
    ((literal c : ℕ) → Belongs' literal c → Belongs literal c × (literal ≡ from → c ≢ get_or (lists from) j end)) → ((literal c : ℕ) → Belongs literal c → (literal ≡ from → c ≢ get_or (lists from) j end) → Belongs' literal c) → ListsOf Belongs' atoms (removed lists from j)
ListsOf-remove Belongs Belongs' atoms lists from j l within jl old new =
    let xs = lists from in let ys = remove xs j in let len = length-remove xs j jl in record {
      sound = λ literal k h lt. elim (cases_eq literal from) [
        | inl e ↦ along (Belongs' literal) (removed lists from j literal) ys (removed_same lists from j literal e)
            (λ i il. subst (λ (x : ℕ). Belongs' x (get_or ys i end)) (sym e) (elim (cases_lt i j) [
              | inl lower ↦ subst (Belongs' from) (sym (get_or-remove_below xs j end i lower jl)) (new from (get_or xs i end) (l.sound from i within (omega arith)) (λ _. l.distinct from i j within lower jl))
              | inr upper ↦ subst (Belongs' from) (sym (get_or-remove_above xs j end i upper jl)) (new from (get_or xs (i + 1) end) (l.sound from (i + 1) within (omega (arith, len, il))) (λ _ x. l.distinct from j (i + 1) within (omega arith) (omega (arith, len, il)) (sym x)))
            ])) k lt
        | inr ne ↦ along (Belongs' literal) (removed lists from j literal) (lists literal) (removed_other lists from j literal ne) (λ i il. new literal (get_or (lists literal) i end) (l.sound literal i h il) (λ e. absurd (ne e))) k lt
      ];
      complete = λ literal c h b.
          let o = old literal c b in let p = l.complete literal c h o.0 in
          elim (cases_eq literal from) [
            | inl e ↦
                let q = subst (λ (x : ℕ). StandsAt (lists x) c) e p in
                let there : q.0 ≢ j = λ x. o.1 e (sym q.2 ∙ ap (λ (n : ℕ). get_or xs n end) x) in
                stands_along (removed lists from j literal) ys c (removed_same lists from j literal e) (elim (cases_lt q.0 j) [
                  | inl lower ↦ (q.0, omega (arith, len, lower, jl), get_or-remove_below xs j end q.0 lower jl ∙ q.2)
                  | inr upper ↦ (q.0 - 1, omega (arith, len, upper, there, q.1), get_or-remove_above xs j end (q.0 - 1) (omega (arith, upper, there)) jl ∙ ap (λ (n : ℕ). get_or xs n end) (let back : q.0 - 1 + 1 ≡ q.0 = omega (arith, upper, there) in back) ∙ q.2)
                ])
            | inr ne ↦ stands_along (removed lists from j literal) (lists literal) c (removed_other lists from j literal ne) p
          ];
      distinct = λ literal a b h ab lt. elim (cases_eq literal from) [
        | inl e ↦ differ_along (removed lists from j literal) ys (removed_same lists from j literal e) (distinct_rest len) a b ab lt
        | inr ne ↦ differ_along (removed lists from j literal) (lists literal) (removed_other lists from j literal ne) (λ x y xy yl. l.distinct literal x y h xy yl) a b ab lt
      ];
    }
  where
    distinct_rest : length (remove (lists from) j) + 1 ≡ length (lists from) → (a b : ℕ) → a < b → b < length (remove (lists from) j) → get_or (remove (lists from) j) a end ≢ get_or (remove (lists from) j) b end
    distinct_rest len a b ab bl e = elim (cases_lt b j) [
      | inl lower ↦ l.distinct from a b within ab (omega arith) (sym (get_or-remove_below (lists from) j end a (omega arith) jl) ∙ e ∙ get_or-remove_below (lists from) j end b lower jl)
      | inr upper ↦ elim (cases_lt a j) [
        | inl a_lower ↦ l.distinct from a (b + 1) within (omega arith) (omega (arith, len)) (sym (get_or-remove_below (lists from) j end a a_lower jl) ∙ e ∙ get_or-remove_above (lists from) j end b upper jl)
        | inr a_upper ↦ l.distinct from (a + 1) (b + 1) within (omega arith) (omega (arith, len)) (sym (get_or-remove_above (lists from) j end a a_upper jl) ∙ e ∙ get_or-remove_above (lists from) j end b upper jl)
      ]
    ]
