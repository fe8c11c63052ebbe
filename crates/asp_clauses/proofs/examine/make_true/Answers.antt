use Rattle.std.proofs.Common.{List, sym, ap, subst, inl, inr, Some}
use Rattle.asp_clauses.specs.declared.trail.Step.{Step}
use Rattle.asp_clauses.specs.Trail.{TrailState, IsPlaced}
use Rattle.asp_clauses.proofs.StepsLemmas.{IsPlaced-last}
use Rattle.asp_clauses.proofs.examine.make_true.Goals as goal

pub returns-clause-ok : goal.returns-clause-ok
returns-clause-ok c =
    let step : Step = record { literal = c.args.literal; reason = Some c.args.clause } in
    record {
      holds = subst (λ (x : List Step). IsPlaced x c.args.literal) (sym (ap (λ (t : TrailState). t.steps) c.place.ensures)) (IsPlaced-last c.args.trail.now.steps step);
      how = inr (c.place.ensures, elim (c.is_true.ensures.other c.if-is_true.false c.requires.code) [ inl u ↦ u | inr f ↦ absurd (c.requires.stands f) ]);
    }
