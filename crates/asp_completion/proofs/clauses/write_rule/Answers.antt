use Rattle.std.proofs.Common.{◌∙◌, ℕ, List, ap}
use Rattle.std.proofs.lemmas.Result.{on_ok_weaker}
use Rattle.asp_defs.specs.Games.{within}
use Rattle.asp_completion.specs.Levels.{upper}
use Rattle.asp_completion.proofs.Loops.{parts-within, rule-written}
use Rattle.asp_completion.proofs.clauses.write_rule.Goals as goal

pub push_atoms-requires-clause-inside : goal.push_atoms-requires-clause-inside
push_atoms-requires-clause-inside c =
    let B = upper c.args.level.now in
    ap (λ (xs : List ℕ). within xs B) c.as_slice.ensures ∙ (parts-within c.args.rule.now B c.requires.inside).0

pub push_atoms-requires-2-clause-inside : goal.push_atoms-requires-2-clause-inside
push_atoms-requires-2-clause-inside c =
    let B = upper c.args.level.now in
    ap (λ (xs : List ℕ). within xs B) c.as_slice-2.ensures ∙ (parts-within c.args.rule.now B c.requires.inside).1

pub push_atoms-requires-3-clause-inside : goal.push_atoms-requires-3-clause-inside
push_atoms-requires-3-clause-inside c =
    let B = upper c.args.level.now in
    ap (λ (xs : List ℕ). within xs B) c.as_slice-3.ensures ∙ (parts-within c.args.rule.now B c.requires.inside).2

pub returns : goal.returns
returns c =
    on_ok_weaker c.push_atoms-3.result
    (rule-written (upper c.args.level.now) c.args.rule.now c.clear.new.self.items c.push_atoms.new.clause.items
    c.push_atoms-2.new.clause.items c.push_atoms-3.new.clause.items
    c.as_slice.result.now c.as_slice-2.result.now c.as_slice-3.result.now
    c.clear.ensures.items c.as_slice.ensures c.as_slice-2.ensures c.as_slice-3.ensures
    c.in_ok-push_atoms.ensures c.in_ok-push_atoms-2.ensures)
    c.push_atoms-3.ensures
