use Rattle.std.proofs.Common.{◌∙◌, ◌∷◌, List, sym, ap, subst}
use Rattle.asp_defs.specs.declared.syntax.Term.{Term}
use Rattle.asp_defs.specs.Lists.{IsIn}
use Rattle.asp_safety.specs.Variables.{term_of, terms_of}
use Rattle.asp_safety.specs.Bindings.{links_of}
use Rattle.asp_safety.specs.Representatives.{representative_of, Represents}
use Rattle.asp_safety.proofs.Representing.{some_represented, represents_kept, represents_member, represent_more, represent_start}
use Rattle.asp_safety.proofs.representatives.represent.Goals as goal
use Rattle.asp_safety.proofs.representatives.represent.Goals.{After-represent_each}

-- what all that is joined with the start has got
got : (c : After-represent_each) → Represents c.args.representatives.now.entries c.represent_each.new.representatives.entries (terms_of c.as_slice-2.result.now) (term_of c.shortest-representative.result) → Represents c.args.representatives.now.entries c.represent_each.new.representatives.entries (terms_of c.in_ok-joined.joined.items) (term_of c.shortest-representative.result)
got c represents =
    subst (λ (vs : List Term). Represents c.args.representatives.now.entries c.represent_each.new.representatives.entries vs (term_of c.shortest-representative.result)) (ap terms_of c.as_slice-2.ensures.value)
    represents

pub returns-then-is_some-clause-represented : goal.returns-then-is_some-clause-represented
returns-then-is_some-clause-represented c =
    some_represented c.representative_of.result (representative_of c.args.representatives.now.entries (term_of c.args.start)) c.representative_of.ensures (sym c.is_some.ensures ∙ c.if-is_some.true)

pub returns-then-is_some-clause-kept : goal.returns-then-is_some-clause-kept
returns-then-is_some-clause-kept c = λ v represented. represented

pub returns-clause-represent : goal.returns-clause-represent
returns-clause-represent c =
    represent_more c.args.links.now c.args.representatives.now.entries c.represent_each.new.representatives.entries c.in_ok-joined.joined.items (term_of c.args.start) (term_of c.shortest-representative.result)
    c.in_ok-joined.ensures c.requires.symmetric c.requires.represent
    (subst (λ (vs : List Term). IsIn (term_of c.shortest-representative.result) (term_of c.args.start ∷ vs)) (ap terms_of c.as_slice.ensures.value) c.shortest-representative.ensures)
    (got (goal.at.returns-clause-represent c).After-represent_each c.in_ok-represent_each.ensures)

pub returns-clause-represented : goal.returns-clause-represented
returns-clause-represented c =
    represents_member c.args.representatives.now.entries c.represent_each.new.representatives.entries (terms_of c.in_ok-joined.joined.items) (term_of c.shortest-representative.result)
    (got (goal.at.returns-clause-represented c).After-represent_each c.in_ok-represent_each.ensures) c.args.start
    (represent_start c.in_ok-joined.joined.items c.args.start (links_of c.args.links.now) c.in_ok-joined.ensures)

pub returns-clause-kept : goal.returns-clause-kept
returns-clause-kept c =
    represents_kept c.args.representatives.now.entries c.represent_each.new.representatives.entries (terms_of c.in_ok-joined.joined.items) (term_of c.shortest-representative.result)
    (got (goal.at.returns-clause-kept c).After-represent_each c.in_ok-represent_each.ensures)
