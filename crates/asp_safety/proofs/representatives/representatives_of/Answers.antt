use Rattle.std.proofs.Common.{List, [], sym, subst, arith}
use Rattle.std.proofs.lemmas.List.{take_all}
use Rattle.asp_safety.specs.declared.variable.Variable.{Variable}
use Rattle.asp_safety.specs.declared.bindings.Link.{Link}
use Rattle.asp_safety.specs.Bindings.{links_of}
use Rattle.asp_safety.specs.Representatives.{RepresentSome}
use Rattle.asp_safety.proofs.Representing.{represent_none, represent_step}
use Rattle.asp_safety.proofs.representatives.representatives_of.Goals as goal

pub loop-link-init : goal.loop-link-init
loop-link-init c =
    subst (λ (es : List (Variable × Variable)). RepresentSome (links_of c.args.links.now) [] es) (sym c.new-representatives.ensures.empty) (represent_none (links_of c.args.links.now))

pub represent-requires-clause-represent : goal.represent-requires-clause-represent
represent-requires-clause-represent c = c.loop-link.invariant.represent

pub loop-link-preserved : goal.loop-link-preserved
loop-link-preserved c =
    represent_step c.args.links.now c.loop-link.link-index _ (omega arith) c.loop-link.representatives.entries c.represent.new.representatives.entries
    c.loop-link.invariant c.in_ok-represent.ensures.represent c.in_ok-represent.ensures.represented c.in_ok-represent.ensures.kept

pub returns : goal.returns
returns c =
    subst (λ (ls : List Link). RepresentSome (links_of c.args.links.now) (links_of ls) c.loop-link.representatives.entries)
    (take_all c.loop-link.link-index c.args.links.now (omega arith)) c.loop-link.invariant
