use Rattle.std.proofs.Common.{sym, ◌∙◌, ap, subst, Bool, List, [], ◌∷◌, ◌++◌, length, append-nil}
use Rattle.std.proofs.lemmas.List.{append_assoc}
use Rattle.std.proofs.lemmas.Iterator.Adapters.{YieldsList-from_vec}
use Rattle.std.proofs.lemmas.Iterator.Consumers.{YieldsList-end}
use Rattle.asp_pages.specs.Collected.{IsPageOf}
use Rattle.asp_pages.proofs.Collecting.{map_same}
use Rattle.asp_pages.proofs.page.add_part.Goals as goal

pub loop-set-init : goal.loop-set-init
loop-set-init c = λ sets h. subst (λ (xs : List (List Bool)). IsPageOf xs c.args.count c.args.page.now) (sym (append-nil sets)) h

pub loop-set-preserved : goal.loop-set-preserved
loop-set-preserved c =
    λ sets h.
    subst (λ (xs : List (List Bool)). IsPageOf xs c.args.count c.add_set.new.page)
    (append_assoc sets c.loop-set.yielded (c.in-Some.set ∷ []))
    (c.in_ok-add_set.ensures (sets ++ c.loop-set.yielded) (c.loop-set.invariant sets h))

pub returns : goal.returns
returns c =
    λ sets h.
    let all = YieldsList-from_vec {s = c.into_iter-set-iterator.result} c.args.part (c.into_iter-set-iterator.ensures.into_iter_gives.0 ∙ c.into_vec-set-items.ensures) (c.into_iter-set-iterator.ensures.into_iter_gives.1 ∙ (c.into_vec-set-items.result.ok.0 ∙ ap length c.into_vec-set-items.ensures)) in
    let end = YieldsList-end all c.loop-set.yielded c.loop-set.set-iterator c.loop-set.yielded_by c.next.result c.next.new.self c.in-None.is c.next.ensures.steps in
    subst (λ (xs : List (List Bool)). IsPageOf (sets ++ xs) c.args.count c.loop-set.page) (sym (map_same c.loop-set.yielded) ∙ end.0) (c.loop-set.invariant sets h)
