use Rattle.std.proofs.Common.{◌≡◌, ℕ, false, List, [], ◌∷◌, length, Ok, Some, sym, ap, ◌∙◌, subst}
use Rattle.asp_bits.specs.Places.{true_places}
use Rattle.asp_minimal.specs.Choices.{Refutes}
use Rattle.asp_search.specs.Found.{assignment_of}
use Rattle.asp_minimal.specs.Numbers.{numbers_from, leaving_places}
use Rattle.asp_minimal.proofs.Places.{length-written, length-numbers_from, numbers_fit}
use Rattle.asp_minimal.proofs.Lone.{part_inside, alone_refutes, none_alone}
use Rattle.asp_minimal.specs.declared.minimality.Minimality.TheVariants as minimality
use Rattle.asp_minimal.proofs.Settled.{refutes_from_part, answer_set_when_founded}
use Rattle.asp_minimal.proofs.Verdicts.{refutes_when_found, not_answer_set, answer_set_when_core}
use Rattle.asp_minimal.proofs.minimality.minimal.Goals as goal
use Rattle.asp_minimal.proofs.minimality.minimal.Goals.{After-as_slice, After-drop-part-inside-in-Some, After-drop-part-inside-in-Some-2, After-drop-part-inside-in-Ok-Found}

pub unsupported-requires-clause-inside : goal.unsupported-requires-clause-inside
unsupported-requires-clause-inside c = part_inside c.args.set.now c.in_ok-part.part c.args.free.now c.in_ok-part.ensures

numbers_are : (c : After-as_slice) → c.as_slice.result.now ≡ numbers_from 0 c.in_ok-part.part
numbers_are c = c.as_slice.ensures.value ∙ c.in_ok-numbers.ensures

pub prepare-requires-clause-same_length : goal.prepare-requires-clause-same_length
prepare-requires-clause-same_length c = ap length c.in_ok-part.ensures ∙ length-written false c.args.set.now c.args.free.now

pub prepare-requires-clause-numbered : goal.prepare-requires-clause-numbered
prepare-requires-clause-numbered c =
    ap length (numbers_are c) ∙ length-numbers_from 0 c.in_ok-part.part
    ∙ ap length c.in_ok-part.ensures ∙ length-written false c.args.set.now c.args.free.now

pub prepare-requires-clause-numbers : goal.prepare-requires-clause-numbers
prepare-requires-clause-numbers c =
    numbers_fit c.args.set.now c.in_ok-part.part c.args.free.now c.as_slice.result.now c.args.search.now.atoms c.in_ok-part.ensures (numbers_are c) c.requires.fresh.atoms_are

pub prepare-requires-clause-small : goal.prepare-requires-clause-small
prepare-requires-clause-small c = c.requires.fresh.few

pub leaving-requires-clause-numbers : goal.leaving-requires-clause-numbers
leaving-requires-clause-numbers c =
    numbers_fit c.args.set.now c.in_ok-part.part c.args.free.now c.as_slice-in-Ok-Found.result.now c.next.new.self.atoms c.in_ok-part.ensures
    (c.as_slice-in-Ok-Found.ensures.value ∙ c.in_ok-numbers.ensures)
    (c.in-Ok-Found.ensures.goes_on.atoms ∙ c.in_ok-prepare.ensures.demands.atoms ∙ c.requires.fresh.atoms_are)

pub leaving-requires-clause-len : goal.leaving-requires-clause-len
leaving-requires-clause-len c =
    c.len.ensures ∙ sym (ap length (c.as_slice-in-Ok-Found.ensures.value ∙ c.in_ok-numbers.ensures) ∙ length-numbers_from 0 c.in_ok-part.part
    ∙ ap length c.in_ok-part.ensures ∙ length-written false c.args.set.now c.args.free.now)

-- what the answer names refutes the set
refutes : (c : After-drop-part-inside-in-Ok-Found) → Refutes c.args.rules.now c.args.free.now (true_places c.args.set.now) c.in_ok-atoms-in-Ok-Found.atoms
refutes c =
    refutes_when_found c.args.rules.now c.args.free.now c.args.set.now c.in_ok-part.part c.as_slice.result.now c.in_ok-atoms-in-Ok-Found.atoms
    c.args.search.now c.prepare.new.search c.next.new.self
    c.in_ok-part.ensures (c.as_slice.ensures.value ∙ c.in_ok-numbers.ensures) c.in_ok-prepare.ensures.demands c.in-Ok-Found.ensures.goes_on.clauses
    (c.in-Ok-Found.ensures.found (ap (λ o. Ok o) c.in-Ok-Found.field-0-is))
    (c.in_ok-atoms-in-Ok-Found.ensures
    ∙ ap (leaving_places (assignment_of c.next.new.self.trail)) (c.as_slice-in-Ok-Found.ensures.value ∙ sym c.as_slice.ensures.value))

pub returns-in-Ok-Found-clause-no : goal.returns-in-Ok-Found-clause-no
returns-in-Ok-Found-clause-no c = λ u e.
    not_answer_set c.args.rules.now c.args.free.now (true_places c.args.set.now) c.in_ok-atoms-in-Ok-Found.atoms (refutes c)

pub returns-in-Ok-Found-clause-unfounded : goal.returns-in-Ok-Found-clause-unfounded
returns-in-Ok-Found-clause-unfounded c = λ u e.
    let same : c.in_ok-atoms-in-Ok-Found.atoms ≡ u = cc in
    subst (λ (W : List ℕ). Refutes c.args.rules.now c.args.free.now (true_places c.args.set.now) W) same (refutes c)

pub returns-in-Ok-Core-clause-yes : goal.returns-in-Ok-Core-clause-yes
returns-in-Ok-Core-clause-yes c = λ e.
    answer_set_when_core c.args.rules.now c.args.free.now c.args.set.now c.in_ok-part.part c.as_slice.result.now c.in-Ok-Core.field-0-0
    c.args.search.now c.prepare.new.search
    c.in_ok-part.ensures (c.as_slice.ensures.value ∙ c.in_ok-numbers.ensures) c.requires.model c.requires.fresh.clauses c.in_ok-prepare.ensures.begun.assumed
    c.in_ok-prepare.ensures.demands
    (c.in-Ok-Core.ensures.core c.in-Ok-Core.field-0-0 (ap (λ o. Ok o) c.in-Ok-Core.field-0-is))

-- the atom that is answered refutes the set alone
refutes_alone : (c : After-drop-part-inside-in-Some) → Refutes c.args.rules.now c.args.free.now (true_places c.args.set.now) (c.in-Some.atom ∷ [])
refutes_alone c =
    alone_refutes c.args.rules.now c.args.free.now c.args.set.now c.in_ok-part.part c.in-Some.atom c.in_ok-part.ensures
    (rw c.in-Some.is at c.in_ok-atom.ensures)

pub returns-in-Some-clause-no : goal.returns-in-Some-clause-no
returns-in-Some-clause-no c = λ u e.
    not_answer_set c.args.rules.now c.args.free.now (true_places c.args.set.now) (c.in-Some.atom ∷ []) (refutes_alone c)

pub returns-in-Some-clause-unfounded : goal.returns-in-Some-clause-unfounded
returns-in-Some-clause-unfounded c = λ u e.
    let same : c.in_ok-from_slice.field-0 ≡ u = cc in
    subst (λ (W : List ℕ). Refutes c.args.rules.now c.args.free.now (true_places c.args.set.now) W) (sym c.in_ok-from_slice.ensures ∙ same) (refutes_alone c)

pub returns-in-Ok-Found-clause-alone : goal.returns-in-Ok-Found-clause-alone
returns-in-Ok-Found-clause-alone c = λ u a e h.
    absurd (none_alone c.args.rules.now c.args.free.now c.args.set.now c.in_ok-part.part a c.in_ok-part.ensures (rw c.in_default.is at c.in_ok-atom.ensures) h)

pub prepare-requires-clause-firm : goal.prepare-requires-clause-firm
prepare-requires-clause-firm c = c.requires.fresh.firm ∙ sym c.requires.fresh.clauses

-- ---- the answer that wants no search

pub settled-requires-clause-same_length : goal.settled-requires-clause-same_length
settled-requires-clause-same_length c = ap length c.in_ok-part.ensures ∙ length-written false c.args.set.now c.args.free.now

pub returns-in-Some-2-clause-yes : goal.returns-in-Some-2-clause-yes
returns-in-Some-2-clause-yes c = λ e.
    let same : c.in-Some-2.answer ≡ minimality.Yes = cc in
    answer_set_when_founded c.args.rules.now c.args.free.now c.args.set.now c.in_ok-part.part c.in_ok-part.ensures c.requires.model
    (c.in_ok-answer.ensures.yes (c.in-Some-2.is ∙ ap (λ m. Some m) same))

refutes_settled : (c : After-drop-part-inside-in-Some-2) → (u : List ℕ) → c.in-Some-2.answer ≡ minimality.No u
    → Refutes c.args.rules.now c.args.free.now (true_places c.args.set.now) u
refutes_settled c u is =
    refutes_from_part c.args.rules.now c.args.free.now c.args.set.now c.in_ok-part.part u c.in_ok-part.ensures
    (c.in_ok-answer.ensures.no u (c.in-Some-2.is ∙ ap (λ m. Some m) is))

pub returns-in-Some-2-clause-no : goal.returns-in-Some-2-clause-no
returns-in-Some-2-clause-no c = λ u e.
    let same : c.in-Some-2.answer ≡ minimality.No u = cc in
    not_answer_set c.args.rules.now c.args.free.now (true_places c.args.set.now) u (refutes_settled c u same)

pub returns-in-Some-2-clause-unfounded : goal.returns-in-Some-2-clause-unfounded
returns-in-Some-2-clause-unfounded c = λ u e.
    let same : c.in-Some-2.answer ≡ minimality.No u = cc in
    refutes_settled c u same

pub returns-in-Some-2-clause-alone : goal.returns-in-Some-2-clause-alone
returns-in-Some-2-clause-alone c = λ u a e h.
    absurd (none_alone c.args.rules.now c.args.free.now c.args.set.now c.in_ok-part.part a c.in_ok-part.ensures (rw c.in_default.is at c.in_ok-atom.ensures) h)
