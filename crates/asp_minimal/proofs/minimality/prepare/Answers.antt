use Rattle.std.proofs.Common.{refl, ap, ◌∙◌}
use Rattle.std.specs.List.{list_any, list_all}
use Rattle.asp_bits.specs.Places.{true_places}
use Rattle.asp_search.specs.State.{SearchState}
use Rattle.asp_minimal.specs.Numbers.{leaves}
use Rattle.asp_minimal.specs.Demands.{allows, HasBegun}
use Rattle.asp_minimal.proofs.Stating.{demands_both, demands_since, on_ok}
use Rattle.asp_minimal.proofs.Verdicts.{demanded}
use Rattle.asp_minimal.proofs.minimality.prepare.Goals as goal
use Rattle.asp_minimal.proofs.minimality.prepare.Goals.{In_ok-begin}

-- the search has begun before it gets its clauses
has_begun : (c : In_ok-begin) → HasBegun c.begin.new.self
has_begun c = record {
  stage = ap (λ (s : SearchState). s.stage) c.in_ok-begin.ensures.begun;
  assumed = ap (λ (s : SearchState). s.assumed) c.in_ok-begin.ensures.begun;
  ordered = ap (λ (s : SearchState). s.ordered) c.in_ok-begin.ensures.begun;
}

pub returns-clause-demands : goal.returns-clause-demands
returns-clause-demands c =
    let test = demanded c.args.rules.now c.args.set.now c.args.part.now c.args.numbers.now in
    on_ok c.add_rules.result
    (λ demands.
    demands_since c.args.search.now c.begin.new.self c.add_rules.new.search test
    (ap (λ (s : SearchState). s.clauses) c.in_ok-begin.ensures.begun ∙ c.requires.firm) (ap (λ (s : SearchState). s.atoms) c.in_ok-begin.ensures.begun)
    (ap (λ (s : SearchState). s.budget) c.in_ok-begin.ensures.begun) (has_begun (goal.at.returns-clause-demands c).In_ok-begin)
    (demands_both c.begin.new.self c.add_leaving.new.search c.add_rules.new.search
    (λ v. list_any (leaves v) c.args.numbers.now)
    (λ v. list_all (allows (true_places c.args.set.now) (true_places c.args.part.now) c.args.numbers.now v) c.args.rules.now)
    test (λ v. refl) c.in_ok-add_leaving.ensures demands))
    c.add_rules.ensures

pub returns-clause-begun : goal.returns-clause-begun
returns-clause-begun c =
    on_ok c.add_rules.result
    (λ demands. demands.begun (c.in_ok-add_leaving.ensures.begun (has_begun (goal.at.returns-clause-begun c).In_ok-begin)))
    c.add_rules.ensures
