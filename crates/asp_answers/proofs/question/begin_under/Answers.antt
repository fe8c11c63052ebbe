use Rattle.std.proofs.Common.{◌≡◌, ◌∙◌, ◌*◌, [], ℕ, List, sym, ap, subst}
use Rattle.std.specs.Prelude.{None}
use Rattle.std.proofs.lemmas.Result.{on_ok_weaker}
use Rattle.asp_bits.specs.Places.{true_places}
use Rattle.asp_search.specs.declared.stage.Stage.TheVariants.{Begun}
use Rattle.asp_search.specs.Seen.{AreCodes}
use Rattle.asp_search.specs.State.{AreDifferent}
use Rattle.asp_completion.specs.Codes.{codes}
use Rattle.asp_answers.specs.Assumptions.{assumed_literals}
use Rattle.asp_completion.specs.Levels.{game_at, upper, lower}
use Rattle.asp_completion.proofs.Places.{codes-below}
use Rattle.asp_answers.proofs.Assumed.{codes-different, assumed-inside, assumed-differ}
use Rattle.asp_completion.proofs.LevelFacts.{bases}
use Rattle.asp_answers.proofs.question.begin_under.Goals as goal
use Rattle.asp_answers.proofs.question.begin_under.Goals.{After-as_slice}

assumed_is : (c : After-as_slice) → c.as_slice.result.now
    ≡ codes (upper c.args.level.now) (assumed_literals (lower c.args.level.now) (true_places c.args.outer.now) c.args.region.now)
assumed_is c = c.as_slice.ensures.value ∙ c.in_ok-assumed.ensures

pub begin-requires-clause-codes : goal.begin-requires-clause-codes
begin-requires-clause-codes c =
    let l = c.args.level.now in
    subst (λ (xs : List ℕ). AreCodes (2 * c.args.search.now.atoms) xs)
    (sym (assumed_is (goal.at.begin-requires-clause-codes c).After-as_slice))
    (subst (λ (n : ℕ). AreCodes (2 * n) (codes (upper l) (assumed_literals (lower l) (true_places c.args.outer.now) c.args.region.now))) (sym c.requires.atoms)
    (codes-below (upper l) (assumed_literals (lower l) (true_places c.args.outer.now) c.args.region.now)
    (assumed-inside (game_at l) l.number (true_places c.args.outer.now) c.args.region.now (bases l c.requires.ready) c.requires.region)))

pub begin-requires-clause-different : goal.begin-requires-clause-different
begin-requires-clause-different c =
    let l = c.args.level.now in
    subst (λ (xs : List ℕ). AreDifferent xs) (sym (assumed_is (goal.at.begin-requires-clause-different c).After-as_slice))
    (codes-different (upper l) (assumed_literals (lower l) (true_places c.args.outer.now) c.args.region.now)
    (assumed-inside (game_at l) l.number (true_places c.args.outer.now) c.args.region.now (bases l c.requires.ready) c.requires.region)
    (assumed-differ (game_at l) l.number (true_places c.args.outer.now) c.args.region.now (bases l c.requires.ready) c.requires.region))

pub returns-clause-begun : goal.returns-clause-begun
returns-clause-begun c =
    on_ok_weaker c.begin.result
    (λ begun.
    begun
    ∙ ap (λ (xs : List ℕ).
    record c.args.search.now {
      count = 0;
      clauses = c.args.search.now.firm;
      assumed = xs;
      trail = [];
      ordered = None;
      stage = Begun;
    }) (assumed_is (goal.at.returns-clause-begun c).After-as_slice))
    c.begin.ensures.begun
