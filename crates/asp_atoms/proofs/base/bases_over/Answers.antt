use Rattle.std.proofs.Common.{ℕ, ◌≡◌, ◌∙◌, ◌+◌, ◌≤◌, IsTrue, sym, ap, subst, List, map, length, Vec, Global, Bor}
use Rattle.asp_defs.specs.declared.ground.Const.{Const}
use Rattle.asp_defs.specs.declared.ground.GroundAtom.{GroundAtom}
use Rattle.asp_defs.specs.declared.syntax.Program.{Program}
use Rattle.asp_defs.specs.declared.syntax.Rule.{Rule}
use Rattle.asp_defs.specs.Lists.{IsIn, numbers_from}
use Rattle.asp_defs.specs.Constants.{level_rules, universe}
use Rattle.asp_defs.specs.Games.{atoms_ascend}
use Rattle.asp_defs.specs.Bases.{Predicate, predicate_cmp, predicates, base_atoms, last_level}
use Rattle.asp_defs.proofs.Lists.{map_at}
use Rattle.asp_atoms.specs.declared.signatures.Signature.{Signature}
use Rattle.asp_atoms.specs.declared.vocabularies.Vocabulary.{Vocabulary}
use Rattle.asp_atoms.specs.Ascending.{Ascends}
use Rattle.asp_atoms.specs.Signatures.{predicates_of, predicates_to}
use Rattle.asp_atoms.specs.Members.{AreSmall, AreRanks}
use Rattle.asp_atoms.proofs.Assembling.{base_atoms_ascend, predicates_ascend, program_ranks, program_small, program_ranked}
use Rattle.asp_atoms.proofs.Gathering.{few_atoms, all_levels, as_long, same_atoms, same_bases}
use Rattle.asp_atoms.proofs.base.bases_over.Goals as goal

abbrev listed : List (Vec Signature Global) → List (List Predicate)
listed = map (λ (s : Vec Signature Global). predicates_of s.items)

-- the predicates of the levels
signed : (p : Program) (levels slice : List (Bor (List Rule))) (all lists : List (Vec Signature Global)) → slice ≡ levels → map (λ (l : Bor (List Rule)). l.now) levels ≡ level_rules p → listed all ≡ map (predicates_to (map (λ (l : Bor (List Rule)). l.now) slice)) (numbers_from 0 (length slice + 1)) → lists ≡ all → listed lists ≡ map (predicates p) (numbers_from 0 (last_level p + 1))
signed p levels slice all lists same are found read =
    ap listed read ∙ all_levels (λ (s : Vec Signature Global). predicates_of s.items) predicates_to p levels slice all same are found

pub members-requires-clause-small : goal.members-requires-clause-small
members-requires-clause-small c =
    subst (λ (us : List Const). AreSmall (length us) c.as_slice-predicates.result.now) (sym (c.as_slice-constants.ensures ∙ ap (λ (v : Vocabulary). v.constants) c.requires.known))
    (subst (AreSmall (length (universe c.args.checked.now (last_level c.args.checked.now)))) (sym (c.as_slice-predicates.ensures ∙ ap (λ (v : Vocabulary). v.predicates) c.requires.known))
    (program_small c.args.checked.now (few_atoms c.args.checked.now c.requires.small)))

pub members-requires-clause-ranked : goal.members-requires-clause-ranked
members-requires-clause-ranked c = λ ranks i.
    subst (λ (us : List Const). AreRanks (length us) ranks) (sym (c.as_slice-constants.ensures ∙ ap (λ (v : Vocabulary). v.constants) c.requires.known))
    (program_ranked c.args.checked.now ranks (subst (λ (l : List (List ℕ)). IsIn ranks l) (c.as_slice-universes.ensures ∙ ap (λ (v : Vocabulary). v.universes) c.requires.known) i))

pub members-requires-clause-ordered : goal.members-requires-clause-ordered
members-requires-clause-ordered c = λ ps i.
    let all = signed c.args.checked.now c.in_ok-levels.levels.items c.as_slice.result.now c.in_ok-signatures.signatures.items c.as_slice-lists.result.now
    c.as_slice.ensures.value (c.in_ok-levels.ensures ∙ ap level_rules c.program.ensures.program) c.in_ok-signatures.ensures c.as_slice-lists.ensures.value in
    let level = map_at (predicates c.args.checked.now) (numbers_from 0 (last_level c.args.checked.now + 1)) ps (subst (λ (l : List (List Predicate)). IsIn ps l) all i) in
    subst (Ascends predicate_cmp) (sym level.2) (predicates_ascend c.args.checked.now level.0)

pub members-requires-clause-together : goal.members-requires-clause-together
members-requires-clause-together c =
    as_long (program_ranks c.args.checked.now) (λ (s : Vec Signature Global). predicates_of s.items) (predicates c.args.checked.now) c.as_slice-universes.result.now c.as_slice-lists.result.now (numbers_from 0 (last_level c.args.checked.now + 1))
    (c.as_slice-universes.ensures ∙ ap (λ (v : Vocabulary). v.universes) c.requires.known)
    (signed c.args.checked.now c.in_ok-levels.levels.items c.as_slice.result.now c.in_ok-signatures.signatures.items c.as_slice-lists.result.now
    c.as_slice.ensures.value (c.in_ok-levels.ensures ∙ ap level_rules c.program.ensures.program) c.in_ok-signatures.ensures c.as_slice-lists.ensures.value)

pub returns-clause-bases : goal.returns-clause-bases
returns-clause-bases c =
    same_bases c.args.checked.now c.as_slice-constants.result.now c.as_slice-predicates.result.now c.as_slice-universes.result.now (listed c.as_slice-lists.result.now) c.in_ok-atoms.atoms c.in_ok-members.members
    (c.as_slice-constants.ensures ∙ ap (λ (v : Vocabulary). v.constants) c.requires.known)
    (c.as_slice-predicates.ensures ∙ ap (λ (v : Vocabulary). v.predicates) c.requires.known)
    (c.as_slice-universes.ensures ∙ ap (λ (v : Vocabulary). v.universes) c.requires.known)
    (signed c.args.checked.now c.in_ok-levels.levels.items c.as_slice.result.now c.in_ok-signatures.signatures.items c.as_slice-lists.result.now
    c.as_slice.ensures.value (c.in_ok-levels.ensures ∙ ap level_rules c.program.ensures.program) c.in_ok-signatures.ensures c.as_slice-lists.ensures.value)
    c.in_ok-atoms.ensures c.in_ok-members.ensures

pub returns-clause-searchable : goal.returns-clause-searchable
returns-clause-searchable c =
    let all : c.in_ok-atoms.atoms ≡ base_atoms c.args.checked.now (last_level c.args.checked.now) =
    same_atoms c.args.checked.now c.as_slice-constants.result.now c.as_slice-predicates.result.now c.in_ok-atoms.atoms (c.as_slice-constants.ensures ∙ ap (λ (v : Vocabulary). v.constants) c.requires.known) (c.as_slice-predicates.ensures ∙ ap (λ (v : Vocabulary). v.predicates) c.requires.known) c.in_ok-atoms.ensures in
    record {
      ordered = subst (λ (atoms : List GroundAtom). IsTrue (atoms_ascend atoms)) (sym all) (base_atoms_ascend c.args.checked.now (last_level c.args.checked.now));
      few = subst (λ (atoms : List GroundAtom). length atoms ≤ 262144) (sym all) (few_atoms c.args.checked.now c.requires.small);
    }
