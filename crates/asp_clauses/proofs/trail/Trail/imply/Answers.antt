use Rattle.std.proofs.Common.{◌≡◌, arith, subst, sym}
use Rattle.asp_clauses.specs.Book.{Goes}
use Rattle.asp_clauses.specs.Trail.{TrailState}
use Rattle.asp_clauses.proofs.FewLemmas.{unassigned_few}
use Rattle.asp_clauses.proofs.GoesLemmas.{Goes-implied}
use Rattle.asp_clauses.proofs.trail.Trail.imply.Goals as goal

pub returns-clause-goes : goal.returns-clause-goes
returns-clause-goes c =
    let now = c.args.self.now in let g = c.requires.goes in
    let few = unassigned_few now.atoms now.steps c.args.lit g.lawful.in_range g.lawful.distinct c.requires.code c.requires.unassigned in
    subst (λ (t : TrailState). Goes c.args.book.now t) (sym c.place.ensures) (Goes-implied c.args.book.now now c.args.lit c.args.clause g few c.requires.code c.requires.unassigned c.requires.clause c.requires.implied)

pub place-requires-clause-number : goal.place-requires-clause-number
place-requires-clause-number c = λ number e. let same : c.args.clause ≡ number = cc in omega (arith, same, c.requires.clause, c.show_numbers.ensures)
