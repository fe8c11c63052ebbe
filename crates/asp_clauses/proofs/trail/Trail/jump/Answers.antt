use Rattle.std.proofs.Common.{◌≡◌, arith, subst, sym, ◌∙◌, ap}
use Rattle.std.proofs.Common.{Some}
use Rattle.asp_clauses.specs.declared.trail.Step.{Step}
use Rattle.asp_clauses.specs.Book.{Goes}
use Rattle.asp_clauses.specs.Trail.{TrailState}
use Rattle.asp_clauses.specs.Moves.{placed}
use Rattle.asp_clauses.proofs.FewLemmas.{steps_few}
use Rattle.asp_clauses.proofs.GoesLemmas.{Goes-jumped}
use Rattle.asp_clauses.proofs.trail.Trail.jump.Goals as goal

pub returns-clause-goes : goal.returns-clause-goes
returns-clause-goes c =
    let now = c.args.self.now in let g = c.requires.goes in let book = c.args.book.now in
    let few = steps_few now.atoms now.steps g.lawful.in_range g.lawful.distinct in
    let step : Step = record { literal = c.args.lit; reason = Some c.args.clause } in
    subst (λ (t : TrailState). Goes book t) (sym (c.place.ensures ∙ ap (λ (t : TrailState). placed t step) c.go_back.ensures))
    (Goes-jumped book now c.args.level c.args.lit c.args.clause g c.requires.level few c.requires.code c.requires.unassigned c.requires.clause c.requires.implied)

pub place-requires-clause-number : goal.place-requires-clause-number
place-requires-clause-number c = λ number e. let same : c.args.clause ≡ number = cc in omega (arith, same, c.requires.clause, c.show_numbers.ensures)
