use Rattle.std.proofs.Common.{◌≡◌, List, rules, sym, subst}
use Rattle.std.specs.List.{flat_map}
use Rattle.std.proofs.lemmas.Result.{IfOk-weaker}
use Rattle.asp_defs.specs.declared.syntax.Term.{Term}
use Rattle.asp_safety.specs.Bindings.{literal_links, links_of}
use Rattle.asp_safety.specs.Representatives.{IsSymmetric, RepresentAll}
use Rattle.asp_safety.proofs.Safe.{links_are_symmetric}
use Rattle.asp_safety.proofs.safety.representatives_of_body.Goals as goal

pub representatives_of-requires : goal.representatives_of-requires
representatives_of-requires c =
    let links : links_of c.as_slice.result.now ≡ flat_map literal_links c.args.body.now = search rules in
    subst (λ (ls : List (Term × Term)). IsSymmetric ls) (sym links) (links_are_symmetric c.args.body.now)

pub returns : goal.returns
returns c =
    let links : links_of c.as_slice.result.now ≡ flat_map literal_links c.args.body.now = search rules in
    IfOk-weaker c.representatives_of.result (λ representatives. RepresentAll (links_of c.as_slice.result.now) representatives.entries)
    (λ representatives. RepresentAll (flat_map literal_links c.args.body.now) representatives.entries)
    (λ representatives. subst (λ (ls : List (Term × Term)). RepresentAll ls representatives.entries) links)
    c.representatives_of.ensures
