use Rattle.std.proofs.Common.{◌∷◌, [], true, refl}
use Rattle.asp_bits.specs.Places.{true_places}
use Rattle.asp_explain.proofs.Marking.{marks-atoms, few_marked, nothing_new}
use Rattle.asp_explain.proofs.thinning.mark_if.Goals as goal

pub returns-then-wanted : goal.returns-then-wanted
returns-then-wanted c = few_marked (true_places c.args.outer.now) c.args.atom c.args.marks.now c.mark.new.marks (marks-atoms (true_places c.args.outer.now) c.mark.ensures)

pub returns-else-wanted : goal.returns-else-wanted
returns-else-wanted c =
    nothing_new (λ C a. true) (λ a. a ∷ []) (true_places c.args.outer.now) c.args.atom c.args.marks.now c.args.marks.now refl refl
