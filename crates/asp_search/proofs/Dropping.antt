-- lemmas on a search of which learned clauses were removed
use Rattle.std.proofs.Common.{◌≡◌, ℕ, ◌+◌, ◌*◌, ◌/◌, ◌<◌, Bool, true, List, length, map, take, sym, ap, ◌∙◌, subst, ⊎_elim, inl, inr, arith}
use Rattle.std.specs.List.{Contains}
use Rattle.std.proofs.lemmas.List.{take-map, length-map}
use Rattle.asp_clauses.specs.declared.trail.Step.{Step}
use Rattle.asp_clauses.specs.Trail.{step_at, literal_at, level_at, is_decision, IsPlaced}
use Rattle.asp_clauses.specs.Kept.{renumbered, new_number}
use Rattle.asp_clauses.proofs.RenamedLemmas.{step_at-renamed, literal_at-renamed, is_decision-renamed, decisions-renamed, decisions-take-renamed, IsPlaced-renamed}
use Rattle.asp_decide.specs.Total.{IsTotal, DeniesFirst}
use Rattle.asp_search.specs.Solver.{DecidesAssumed, IsCursor, IsOrderly}

module _ (assumed : List ℕ) (steps : List Step) (marks : List Bool) where
  pub DecidesAssumed-renumbered : DecidesAssumed assumed steps → DecidesAssumed assumed (map (renumbered marks) steps)
  DecidesAssumed-renumbered decides place within is =
      let inside : place < length steps = omega (arith, within, length-map steps (renumbered marks)) in
      let decided : is_decision (step_at steps place) ≡ true = sym (ap (λ (s : Step). is_decision s) (step_at-renamed (new_number marks) steps place) ∙ is_decision-renamed (new_number marks) (step_at steps place)) ∙ is in
      ⊎_elim
      (λ (c : Contains assumed (literal_at steps place)). inl (subst (λ (l : ℕ). Contains assumed l) (sym (literal_at-renamed (new_number marks) steps place)) c))
      (λ (all : (literal : ℕ) → Contains assumed literal → IsPlaced (take place steps) literal).
      inr (λ literal c. subst (λ (s : List Step). IsPlaced s literal) (sym (take-map (renumbered marks) place steps)) (IsPlaced-renamed (new_number marks) (take place steps) literal (all literal c))))
      (decides place inside decided)

  pub IsOrderly-renumbered : (front : ℕ) (in_order : Bool) → IsOrderly assumed steps front in_order → IsOrderly assumed (map (renumbered marks) steps) front in_order
  IsOrderly-renumbered front in_order o = record {
    valued = IsTotal-renumbered front steps o.valued;
    decides = λ ordered place within is.
        let inside : place < length steps = omega (arith, within, length-map steps (renumbered marks)) in
        let decided : is_decision (step_at steps place) ≡ true = sym (ap (λ (s : Step). is_decision s) (step_at-renamed (new_number marks) steps place) ∙ is_decision-renamed (new_number marks) (step_at steps place)) ∙ is in
        ⊎_elim
        (λ (c : Contains assumed (literal_at steps place)). inl (subst (λ (l : ℕ). Contains assumed l) (sym (literal_at-renamed (new_number marks) steps place)) c))
        (λ (d : DeniesFirst (take place steps) (literal_at steps place)).
        inr (subst (λ (l : ℕ). DeniesFirst (take place (map (renumbered marks) steps)) l) (sym (literal_at-renamed (new_number marks) steps place))
        (record {
          negative = d.negative;
          lower = subst (λ (s : List Step). IsTotal (literal_at steps place / 2) s) (sym (take-map (renumbered marks) place steps)) (IsTotal-renumbered (literal_at steps place / 2) (take place steps) d.lower);
        })))
        (o.decides ordered place inside decided);
  }
    where
      IsTotal-renumbered : (atoms : ℕ) (some : List Step) → IsTotal atoms some → IsTotal atoms (map (renumbered marks) some)
      IsTotal-renumbered atoms some total atom low =
          ⊎_elim
          (λ (p : IsPlaced some (2 * atom + 1)). inl (IsPlaced-renamed (new_number marks) some (2 * atom + 1) p))
          (λ (p : IsPlaced some (2 * atom)). inr (IsPlaced-renamed (new_number marks) some (2 * atom) p))
          (total atom low)

  pub IsCursor-renumbered : (cursor held : ℕ) → IsCursor assumed steps cursor held → IsCursor assumed (map (renumbered marks) steps) cursor held
  IsCursor-renumbered cursor held c = record {
    within = c.within;
    placed = λ i h.
        let q = c.placed i h in
        let level : level_at (map (renumbered marks) steps) q.place ≡ level_at steps q.place = decisions-take-renamed (new_number marks) steps (q.place + 1) in
        record {
          place = q.place;
          within = omega (arith, q.within, length-map steps (renumbered marks));
          is = literal_at-renamed (new_number marks) steps q.place ∙ q.is;
          level = omega (arith, level, q.level);
          by_held = omega (arith, level, q.by_held);
        };
    decided = λ h. omega (arith, decisions-renamed (new_number marks) steps, c.decided h);
  }
