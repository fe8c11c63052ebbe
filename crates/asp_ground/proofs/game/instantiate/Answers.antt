use Rattle.std.proofs.Common.{◌≡◌, ◌≤◌, ◌∙◌, sym, ap, subst, List, map}
use Rattle.asp_defs.specs.declared.ground.Bases.{Bases}
use Rattle.asp_defs.specs.declared.ground.Game.{Game}
use Rattle.asp_defs.specs.declared.ground.GroundRule.{GroundRule}
use Rattle.asp_defs.specs.declared.ground.Bound.{Bound}
use Rattle.asp_defs.specs.declared.syntax.Part.{Part}
use Rattle.asp_defs.specs.declared.syntax.Program.{Program}
use Rattle.asp_defs.specs.declared.syntax.Quant.{Quant}
use Rattle.asp_defs.specs.Lists.{IsIn}
use Rattle.asp_defs.specs.Bases.{Predicate, predicates, last_level, bases_of}
use Rattle.asp_defs.specs.Games.{game_of}
use Rattle.asp_atoms.specs.declared.vocabularies.Vocabulary.{Vocabulary}
use Rattle.asp_atoms.specs.Vocabularies.{vocabulary_of}
use Rattle.asp_template.specs.Ranks.{IsOrdered}
use Rattle.asp_ground.specs.Levels.{compiled_levels}
use Rattle.asp_ground.specs.BoundTemplates.{compiled_level_bounds}
use Rattle.asp_atoms.proofs.Counting.{short_predicates}
use Rattle.asp_ground.proofs.Levels.{vocabulary_is_ordered, levels_are, level_bounds_are, few_in_bases}
use Rattle.asp_ground.proofs.game.instantiate.Goals as goal

abbrev make_game : List Quant → Bases → List (List GroundRule) → List (List Bound) → Game
make_game quants bases rules bounds = record { quants = quants; bases = bases; rules = rules; bounds = bounds }

pub levels_rules-requires-clause-ordered : goal.levels_rules-requires-clause-ordered
levels_rules-requires-clause-ordered c =
    subst (λ (v : Vocabulary). IsOrdered v) (sym c.requires.known) (vocabulary_is_ordered c.args.checked.now)

pub levels_rules-requires-clause-short : goal.levels_rules-requires-clause-short
levels_rules-requires-clause-short c =
    subst (λ (p : Program). (q : Predicate) → IsIn q (predicates p (last_level p)) → q.arity ≤ 16) (sym c.program-program.ensures.program)
    (λ q i. short_predicates c.args.checked.now c.program-program.ensures.checked q i)

pub levels_bounds-requires : goal.levels_bounds-requires
levels_bounds-requires c =
    subst (λ (v : Vocabulary). IsOrdered v) (sym c.requires.known) (vocabulary_is_ordered c.args.checked.now)

pub returns : goal.returns
returns c =
    let quants : c.in_ok-quants.quants ≡ map (λ (part : Part). part.quant) c.args.checked.now.levels =
    c.in_ok-quants.ensures
    ∙ (ap (map (λ (part : Part). part.quant)) c.as_slice.ensures
    ∙ ap (λ (p : Program). map (λ (part : Part). part.quant) p.levels) c.program-program.ensures.program) in
    let rules : c.in_ok-rules.rules ≡ (game_of c.args.checked.now).rules =
    c.in_ok-rules.ensures
    ∙ (ap (λ (v : Vocabulary). compiled_levels v c.program-program.result.now) c.requires.known
    ∙ (ap (compiled_levels (vocabulary_of c.args.checked.now)) c.program-program.ensures.program
    ∙ levels_are c.args.checked.now c.program-program.ensures.checked c.program-program.ensures.checkable (few_in_bases c.args.checked.now c.requires.small))) in
    let bounds : c.in_ok-bounds.bounds ≡ (game_of c.args.checked.now).bounds =
    c.in_ok-bounds.ensures
    ∙ (ap (λ (v : Vocabulary). compiled_level_bounds v c.program-program.result.now) c.requires.known
    ∙ (ap (compiled_level_bounds (vocabulary_of c.args.checked.now)) c.program-program.ensures.program
    ∙ level_bounds_are c.args.checked.now c.program-program.ensures.checked c.program-program.ensures.checkable (few_in_bases c.args.checked.now c.requires.small))) in
    ap (λ (q : List Quant). make_game q c.args.bases c.in_ok-rules.rules c.in_ok-bounds.bounds) quants
    ∙ (ap (λ (b : Bases). make_game (map (λ (part : Part). part.quant) c.args.checked.now.levels) b c.in_ok-rules.rules c.in_ok-bounds.bounds) c.requires.bases
    ∙ (ap (λ (r : List (List GroundRule)). make_game (map (λ (part : Part). part.quant) c.args.checked.now.levels) (bases_of c.args.checked.now) r c.in_ok-bounds.bounds) rules
    ∙ ap (make_game (map (λ (part : Part). part.quant) c.args.checked.now.levels) (bases_of c.args.checked.now) (game_of c.args.checked.now).rules) bounds))
