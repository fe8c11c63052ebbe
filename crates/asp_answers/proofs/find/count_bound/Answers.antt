use Rattle.std.proofs.Common.{◌≡◌, ◌∙◌, ◌≤◌, ◌+◌, ℕ, List, length, sym, ap, arith}
use Rattle.asp_bits.specs.Places.{true_places}
use Rattle.asp_defs.specs.Interpretations.{holds}
use Rattle.asp_minimal.specs.Choices.{bound_atoms}
use Rattle.asp_completion.specs.Levels.{upper, lower}
use Rattle.asp_completion.proofs.LevelFacts.{bases, below, upper-few, lower-few}
use Rattle.asp_answers.proofs.Steps.{bound-split, bound-small}
use Rattle.asp_answers.proofs.find.count_bound.Goals as goal
use Rattle.asp_answers.proofs.find.count_bound.Goals.{After-count_true-low}

pub count_true-all-requires-clause-few : goal.count_true-all-requires-clause-few
count_true-all-requires-clause-few c =
    let few : length (upper c.args.level.now) ≤ 262144 = upper-few c.args.level.now c.requires.ready in
    let e = ap (λ (xs : List ℕ). length xs) c.upper.ensures in
    omega (arith, e)

pub count_true-all-requires-clause-below : goal.count_true-all-requires-clause-below
count_true-all-requires-clause-below c = λ a h.
    let low = below c.args.level.now c.requires.ready a (ap (λ (xs : List ℕ). holds xs a) (sym c.upper.ensures) ∙ h) in
    let places = c.requires.places in
    omega (arith, low, places)

pub count_true-low-requires-clause-few : goal.count_true-low-requires-clause-few
count_true-low-requires-clause-few c =
    let few : length (lower c.args.level.now) ≤ 262144 = lower-few c.args.level.now c.requires.ready in
    let e = ap (λ (xs : List ℕ). length xs) c.lower.ensures in
    omega (arith, e)

pub count_true-low-requires-clause-below : goal.count_true-low-requires-clause-below
count_true-low-requires-clause-below c = λ a h.
    let up = (bases c.args.level.now c.requires.ready).nested a (ap (λ (xs : List ℕ). holds xs a) (sym c.lower.ensures) ∙ h) in
    let low = below c.args.level.now c.requires.ready a up in
    let places = c.requires.places in
    omega (arith, low, places)

-- all true atoms are those of the base below and the others
split : (c : After-count_true-low)
    → c.count_true-all.result ≡ c.count_true-low.result + length (bound_atoms (lower c.args.level.now) (true_places c.args.set.now))
split c =
    bound-split c.args.level.now c.requires.ready c.args.set.now c.upper.result.now c.lower.result.now c.count_true-all.result
    c.count_true-low.result c.upper.ensures c.lower.ensures c.requires.inside c.count_true-all.ensures c.count_true-low.ensures

pub overflow_sub-result : goal.overflow_sub-result
overflow_sub-result c =
    let e = split (goal.at.overflow_sub-result c).After-count_true-low in omega (arith, e)

pub returns-clause-is : goal.returns-clause-is
returns-clause-is c =
    let e = split (goal.at.returns-clause-is c).After-count_true-low in omega (arith, e)

pub returns-clause-few : goal.returns-clause-few
returns-clause-few c =
    let e = split (goal.at.returns-clause-few c).After-count_true-low in
    let small = bound-small c.args.level.now c.requires.ready c.args.set.now c.requires.inside in
    let few : length (upper c.args.level.now) ≤ 262144 = upper-few c.args.level.now c.requires.ready in
    omega (arith, e, small)
