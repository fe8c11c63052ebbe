use Rattle.std.proofs.Common.{subst, sym}
use Rattle.asp_clauses.specs.Book.{Goes}
use Rattle.asp_clauses.specs.Trail.{TrailState}
use Rattle.asp_clauses.proofs.FewLemmas.{unassigned_few}
use Rattle.asp_clauses.proofs.GoesLemmas.{Goes-decided}
use Rattle.asp_clauses.proofs.trail.Trail.decide.Goals as goal

pub returns-clause-goes : goal.returns-clause-goes
returns-clause-goes c = λ book g.
    let now = c.args.self.now in
    let few = unassigned_few now.atoms now.steps c.args.lit g.lawful.in_range g.lawful.distinct c.requires.code c.requires.unassigned in
    subst (λ (t : TrailState). Goes book t) (sym c.place.ensures) (Goes-decided book now c.args.lit g few c.requires.code c.requires.unassigned)
