use Rattle.std.proofs.Common.{sym, ◌∙◌, ap, Ok}
use Rattle.asp_clauses.specs.Watches.{book_of}
use Rattle.asp_clauses.proofs.ExamineLemmas.{Extends-trans}
use Rattle.asp_clauses.proofs.WalkLemmas.{IsVisit-extends}
use Rattle.asp_clauses.proofs.RunLemmas.{Propagates-trans, IsVisit-next, Goes-advanced, Extends-advanced, as_many}
use Rattle.asp_clauses.proofs.propagation.run.Goals as goal

pub returns-in_err-clause-clause-propagates : goal.returns-in_err-clause-clause-propagates
returns-in_err-clause-clause-propagates c = Propagates-trans c.args.watches.now c.examining.watches c.examine.new.watches c.args.trail.now c.examining.trail c.examine.new.trail c.examining.invariant c.examine.ensures.propagates

pub returns-in-Some-clause-propagates : goal.returns-in-Some-clause-propagates
returns-in-Some-clause-propagates c = Propagates-trans c.args.watches.now c.examining.watches c.examine.new.watches c.args.trail.now c.examining.trail c.examine.new.trail c.examining.invariant c.examine.ensures.propagates

pub examining-preserved : goal.examining-preserved
examining-preserved c = Propagates-trans c.args.watches.now c.examining.watches c.examine.new.watches c.args.trail.now c.examining.trail c.examine.new.trail c.examining.invariant c.examine.ensures.propagates

pub returns-in_err-clause-2-clause-propagates : goal.returns-in_err-clause-2-clause-propagates
returns-in_err-clause-2-clause-propagates c = Propagates-trans c.args.watches.now c.visiting.watches c.visit.new.watches c.args.trail.now c.visiting.trail c.visit.new.trail c.visiting.invariant.0 c.visit.ensures.propagates

pub returns-in-Some-2-clause-propagates : goal.returns-in-Some-2-clause-propagates
returns-in-Some-2-clause-propagates c = Propagates-trans c.args.watches.now c.visiting.watches c.visit.new.watches c.args.trail.now c.visiting.trail c.visit.new.trail c.visiting.invariant.0 c.visit.ensures.propagates

pub visiting-preserved : goal.visiting-preserved
visiting-preserved c =
    let first = c.args.watches.now in let start = c.args.trail.now in
    let watches = c.visiting.watches in let trail = c.visiting.trail in
    let new = c.visit.new.watches in let after = c.visit.new.trail in let done = c.advance.new.self in
    let falsified = c.in-Some-next_visit.falsified in
    let p = Propagates-trans first watches new start trail after c.visiting.invariant.0 c.visit.ensures.propagates in
    let visited = c.visit.ensures.visited (c.in_ok-clause-2.was ∙ ap Ok c.in_default-2.is) in
    let is = IsVisit-extends trail after falsified c.visit.ensures.propagates.extended c.visit.ensures.head (IsVisit-next trail falsified (c.next_visit.ensures.some falsified c.in-Some-next_visit.is)) in (
      record {
        watches = p.watches;
        goes = Goes-advanced (book_of new) after done c.advance.ensures is.left visited p.goes;
        clauses = p.clauses;
        atoms = p.atoms;
        extended = Extends-trans start after done p.extended (Extends-advanced after done c.advance.ensures);
      },
      c.visit.ensures.watched ∙ c.visiting.invariant.1 ∙ sym (as_many watches new trail after c.visit.ensures.propagates),
    )
