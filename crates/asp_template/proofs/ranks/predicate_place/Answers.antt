use Rattle.std.proofs.Common.{ℕ, ◌≡◌, ◌∙◌, sym, List, Ok, Err, rules}
use Rattle.std.proofs.lemmas.Fn.{always_returns_same}
use Rattle.std.proofs.lemmas.List.{length-map}
use Rattle.asp_defs.specs.Bases.{Predicate, predicate_cmp}
use Rattle.asp_atoms.specs.Vocabularies.{unnumbered}
use Rattle.asp_atoms.proofs.Orders.{predicate_lawful}
use Rattle.asp_atoms.proofs.Positions.{found_by}
use Rattle.asp_template.proofs.ranks.predicate_place.Goals as goal

abbrev sought : List ℕ → ℕ → Predicate
sought name arity = record { name = name; arity = arity }

pub returns-in-Ok : goal.returns-in-Ok
returns-in-Ok c =
    sym ((found_by predicate_lawful unnumbered c.args.predicates.now c.requires (sought c.args.name.now c.args.arity) (Ok c.in-Ok.place) c.in-Ok.ensures.bound
    (c.in-Ok.ensures.position (λ other. predicate_cmp (unnumbered other) (sought c.args.name.now c.args.arity))
    (always_returns_same _ (λ a r. r ≡ predicate_cmp (unnumbered a.0.now) (sought c.args.name.now c.args.arity)) _ (λ a r f k. search rules)))).1)

pub returns-in-Err : goal.returns-in-Err
returns-in-Err c =
    sym (found_by predicate_lawful unnumbered c.args.predicates.now c.requires (sought c.args.name.now c.args.arity) (Err c.in-Err.field-0) c.in-Err.ensures.bound
    (c.in-Err.ensures.position (λ other. predicate_cmp (unnumbered other) (sought c.args.name.now c.args.arity))
    (always_returns_same _ (λ a r. r ≡ predicate_cmp (unnumbered a.0.now) (sought c.args.name.now c.args.arity)) _ (λ a r f k. search rules)))
    ∙ length-map c.args.predicates.now unnumbered)
