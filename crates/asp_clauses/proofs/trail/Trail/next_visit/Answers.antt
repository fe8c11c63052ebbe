use Rattle.std.proofs.Common.{◌≡◌, ◌<◌, ◌≤◌, ◌-◌, ◌*◌, length, ℕ, Some, ap, sym, ◌∙◌, arith, subst}
use Rattle.std.proofs.lemmas.List.{get_or-take, length-take-le}
use Rattle.asp_clauses.specs.declared.trail.Step.{Step}
use Rattle.asp_clauses.specs.Literal.{negated}
use Rattle.asp_clauses.specs.Trail.{TrailState, no_step, step_at}
use Rattle.asp_clauses.specs.TrailFields.{steps_of}
use Rattle.asp_clauses.specs.Moves.{NextVisit}
use Rattle.asp_clauses.proofs.LiteralLemmas.{negated-lt}
use Rattle.asp_clauses.proofs.TableLemmas.{next_read}
use Rattle.asp_clauses.proofs.trail.Trail.next_visit.Goals as goal

next_code : (code literal result is : ℕ) → Some result ≡ Some code → literal ≡ is → result ≡ negated literal → code ≡ negated is
next_code code literal result is e l n = let same : result ≡ code = cc in sym same ∙ n ∙ ap negated l

pub returns-clause-some : goal.returns-clause-some
returns-clause-some c = λ code e.
    let i = c.self.inside in let v = c.self.invariant in
    let s = step_at i.steps (i.head - 1) in
    let some : 0 < i.head = omega (arith, c.if-self-eq0.false) in
    let len : length (steps_of i) ≡ i.len = length-take-le i.len i.steps (omega (arith, v.len, v.steps_size)) in
    let within : i.head ≤ length (steps_of i) = omega (arith, len, c.if-self.false) in
    let read : s ≡ step_at (steps_of i) (i.head - 1) = sym (get_or-take i.len i.steps (i.head - 1) no_step (omega (arith, some, c.if-self.false))) in
    let is : code ≡ negated s.literal = next_code code c.literal.result c.negation.result s.literal e c.literal.ensures c.negation.ensures in
    let codes : s.literal < 2 * i.atoms = subst (λ (x : Step). x.literal < 2 * i.atoms) (sym read) (v.tables.codes (i.head - 1) (omega (arith, some, within))) in
    let neg = negated-lt s.literal i.atoms codes in
    subst (λ (t : TrailState). NextVisit t code) c.self.view_is (record {
      left = within;
      is = next_read i.atoms (steps_of i) i.head s code some within read is;
      within = omega (arith, neg, is);
      few = omega (arith, v.len, c.if-self.false);
    })
