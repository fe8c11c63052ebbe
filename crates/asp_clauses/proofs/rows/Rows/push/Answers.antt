use Rattle.std.proofs.Common.{◌≡◌, ℕ, ◌+◌, length, List, [], ◌∷◌, ◌++◌, ap, ◌∙◌, arith, drop, min, length-append, length-drop}
use Rattle.std.proofs.lemmas.Grind.{common_steps}
use Rattle.asp_clauses.specs.Rows.{rows_of}
use Rattle.asp_clauses.specs.Records.{row_for}
use Rattle.asp_clauses.proofs.RowsLemmas.{length-rows_of, rows_of-push}
use Rattle.asp_clauses.proofs.rows.Rows.push.Goals as goal

pub returns-then-is_ok-2-clause-ok : goal.returns-then-is_ok-2-clause-ok
returns-then-is_ok-2-clause-ok c =
    let i = c.self.inside in
    let rec = row_for c.args.origin c.args.literals.now in
    let words : c.write_row-written.new.words.items ≡ i.words.items ++ rec = grind (arith, common_steps) in
    let pushed : c.push.new.self.items ≡ i.starts.items ++ (c.len-start.result + 1 + c.max.result) ∷ [] = grind (arith, common_steps) in
    let sized : c.len-start.result + 1 + c.max.result ≡ length i.words.items + length rec = omega (arith, length-append c.args.literals.now (drop (min (length c.args.literals.now) 2) (c.args.origin ∷ c.args.origin ∷ [])), length-drop (min (length c.args.literals.now) 2) (c.args.origin ∷ c.args.origin ∷ []), c.max.ensures, c.len-start.ensures, i.words.ok) in (
      omega (arith, length-rows_of i.words.items i.starts.items, ap length c.self.view_is, c.len-number.ensures, i.starts.ok),
      ap (λ (x : List ℕ). rows_of x c.push.new.self.items) words ∙ ap (rows_of (i.words.items ++ rec)) (pushed ∙ ap (λ (n : ℕ). i.starts.items ++ n ∷ []) sized)
          ∙ rows_of-push i.words.items i.starts.items rec c.self.invariant ∙ ap (λ (x : List (List ℕ)). x ++ rec ∷ []) c.self.view_is,
    )
