use Rattle.std.proofs.Common.{◌≡◌, refl, sym, ◌∙◌, ap, subst, Bool, false, List, length, take, nat_lt}
use Rattle.std.proofs.lemmas.Iterator.Adapters.{YieldsList-from_vec}
use Rattle.std.proofs.lemmas.Iterator.Consumers.{YieldsList-end}
use Rattle.asp_pages.specs.Collected.{in_a_row, IsPageOf}
use Rattle.asp_pages.proofs.Collecting.{map_same, no_sets, one_more_part}
use Rattle.asp_pages.proofs.page.collect.Goals as goal

pub loop-part-init : goal.loop-part-init
loop-part-init c = no_sets c.args.count (record { sets = c.new.result; more = false }) c.new.ensures refl

pub loop-part-preserved : goal.loop-part-preserved
loop-part-preserved c =
    subst (λ (xs : List (List Bool)). IsPageOf xs c.args.count c.add_part.new.page)
    (sym (one_more_part c.loop-part.yielded c.in-Some.part))
    (c.in_ok-add_part.ensures (in_a_row c.loop-part.yielded) c.loop-part.invariant)

all_taken : (c : goal.After-drop-part-iterator-2) → c.loop-part.yielded ≡ c.args.parts
all_taken c =
    let all = YieldsList-from_vec {s = c.into_iter-part-iterator.result} c.args.parts (c.into_iter-part-iterator.ensures.into_iter_gives.0 ∙ c.into_vec-part-items.ensures) (c.into_iter-part-iterator.ensures.into_iter_gives.1 ∙ (c.into_vec-part-items.result.ok.0 ∙ ap length c.into_vec-part-items.ensures)) in
    let end = YieldsList-end all c.loop-part.yielded c.loop-part.part-iterator c.loop-part.yielded_by c.next.result c.next.new.self c.in-None.is c.next.ensures.steps in
    sym (map_same c.loop-part.yielded) ∙ end.0

pub returns-clause-sets : goal.returns-clause-sets
returns-clause-sets c =
    c.loop-part.invariant.first ∙ ap (λ (xs : List (List (List Bool))). take c.args.count (in_a_row xs)) (all_taken c)

pub returns-clause-more : goal.returns-clause-more
returns-clause-more c =
    c.loop-part.invariant.more ∙ ap (λ (xs : List (List (List Bool))). nat_lt c.args.count (length (in_a_row xs))) (all_taken c)
