-- lemmas on loose reasons before the first decision
use Rattle.std.proofs.Common.{◌≡◌, ℕ, ◌+◌, ◌<◌, ◌≤◌, Bool, true, false, List, [], ◌∷◌, ◌++◌, length, map, Option, Some, None, option_map, refl, sym, ap, ◌∙◌, subst, ⊎_elim, arith}
use Rattle.std.proofs.lemmas.List.{get_or_append_left, length-map}
use Rattle.std.proofs.lemmas.Bool.{cases_lt, cases_Bool, false≢true}
use Rattle.asp_clauses.specs.declared.kind.Kind.{Kind}
use Rattle.asp_clauses.specs.declared.trail.Step.{Step}
use Rattle.asp_clauses.specs.Trail.{TrailState, step_at, level_at, IsLawful}
use Rattle.asp_clauses.specs.Book.{BookState, Goes}
use Rattle.asp_clauses.specs.Kept.{kept, kind_at, no_kind, mark_of, new_number, renumbered, IsReason}
use Rattle.asp_clauses.proofs.KeptLemmas.{at_new}
use Rattle.asp_clauses.proofs.RenamedLemmas.{step_at-renamed, decisions-take-renamed}
use Rattle.asp_search.specs.Learned.{base_of, AreFirm, IsGround, IsGrounded}
use Rattle.asp_search.proofs.Basing.{has_any, marked_within}
use Rattle.asp_search.proofs.Trails.{level_at-le}

pub IsGround-none : (kinds : List Kind) (steps : List Step) (loose : Bool) → IsGround kinds steps 0 loose
IsGround-none kinds steps loose = record {
  low = λ place h. absurd (omega (arith, h));
  firm = λ firm place h. absurd (omega (arith, h));
}

-- one clause more
pub IsGround-push : (atoms : ℕ) (clauses : List (List ℕ)) (kinds : List Kind) (kind : Kind) (steps : List Step) (looked : ℕ) (loose : Bool) → IsLawful atoms clauses steps → length kinds ≡ length clauses → IsGround kinds steps looked loose → IsGround (kinds ++ kind ∷ []) steps looked loose
IsGround-push atoms clauses kinds kind steps looked loose lawful as_many g = record {
  low = g.low;
  firm = λ firm place h number is.
      let within = (lawful.reasoned place (g.low place h).0 number is).0 in
      ap (λ (k : Kind). k.loose) (get_or_append_left kinds (kind ∷ []) no_kind number (omega (arith, within, as_many))) ∙ g.firm firm place h number is;
}

-- one place more
pub IsGround-more : (kinds : List Kind) (steps : List Step) (looked : ℕ) (loose new : Bool) → looked < length steps → level_at steps looked ≡ 0 → (loose ≡ true → new ≡ true) → (new ≡ false → AreFirm kinds steps looked) → IsGround kinds steps looked loose → IsGround kinds steps (looked + 1) new
IsGround-more kinds steps looked loose new within low grows firm g = record {
  low = λ place h.
      ⊎_elim
      (λ (b : place < looked). g.low place b)
      (λ (u : looked ≤ place).
      let e : looked ≡ place = omega (arith, h, u) in
      subst (λ (p : ℕ). (p < length steps) × (level_at steps p ≡ 0)) e (within, low))
      (cases_lt place looked);
  firm = λ is place h.
      ⊎_elim
      (λ (b : place < looked).
      g.firm (⊎_elim (λ (t : loose ≡ true). absurd (false≢true (sym is ∙ grows t))) (λ (f : loose ≡ false). f) (cases_Bool loose)) place b)
      (λ (u : looked ≤ place).
      let e : looked ≡ place = omega (arith, h, u) in
      subst (λ (p : ℕ). AreFirm kinds steps p) e (firm is))
      (cases_lt place looked);
}

-- all of them were looked at
pub IsGrounded-from : (book : BookState) (trail : TrailState) (looked : ℕ) (loose : Bool) → Goes book trail → length book.kinds ≡ length book.clauses → (looked < length trail.steps → 0 < level_at trail.steps looked) → IsGround book.kinds trail.steps looked loose
    → IsGrounded (base_of book loose) book.clauses trail.steps
IsGrounded-from book trail looked loose goes as_many behind g place number within low reason =
    has_any book loose number (goes.lawful.reasoned place within number reason).0 as_many (λ firm.
    ⊎_elim
    (λ (b : place < looked). g.firm firm place b number reason)
    (λ (u : looked ≤ place). absurd (omega (arith, low, behind (omega (arith, u, within)), level_at-le trail.steps looked place u)))
    (cases_lt place looked))

-- ---- learned clauses are removed

named : (g : ℕ → ℕ) (reason : Option ℕ) (number : ℕ) → option_map g reason ≡ Some number → (old : ℕ) × (reason ≡ Some old) × (g old ≡ number)
named g None number e = absurd (none_some e) where
  none_some : (let none : Option ℕ = None in none) ≡ Some number → ⊥
  none_some e = cc
named g (Some old) number e = (old, refl, cc)

pub IsGround-renumbered : (kinds : List Kind) (steps : List Step) (stays : List Bool) (looked : ℕ) (loose : Bool) → length stays ≡ length kinds → ((clause : ℕ) → IsReason steps clause → mark_of stays clause ≡ true) → IsGround kinds steps looked loose → IsGround (kept stays kinds) (map (renumbered stays) steps) looked loose
IsGround-renumbered kinds steps stays looked loose as_many stay g = record {
  low = λ place h.
      let low = g.low place h in
      (omega (arith, low.0, length-map steps (renumbered stays)), decisions-take-renamed (new_number stays) steps (place + 1) ∙ low.1);
  firm = λ firm place h number is.
      let n = named (new_number stays) (step_at steps place).reason number (ap (λ (s : Step). s.reason) (sym (step_at-renamed (new_number stays) steps place)) ∙ is) in
      let marked = stay n.0 (place, (g.low place h).0, n.1) in
      let low : n.0 < length kinds = omega (arith, marked_within stays n.0 marked, as_many) in
      let k = at_new stays kinds n.0 no_kind (omega (arith, low, as_many)) low marked in
      subst (λ (x : ℕ). (kind_at (kept stays kinds) x).loose ≡ false) n.2 (ap (λ (x : Kind). x.loose) k.is ∙ g.firm firm place h n.0 n.1);
}
