use Rattle.std.proofs.Common.{◌≡◌, refl, sym, subst}
use Rattle.std.specs.Prelude.{Result, Ok}
use Rattle.asp_store.specs.declared.added.Added.{Added}
use Rattle.asp_store.specs.declared.added.Added.TheVariants.{New}
use Rattle.asp_store.specs.declared.added.AddFault.{AddFault}
use Rattle.store_tests.proofs.shelves.copy_is_right.Goals as goal

pub copy-requires : goal.copy-requires
copy-requires c =
    (c.in-Ok-New.ensures.added c.in-Ok-New.at
    (subst (λ (a : Added). ◌≡◌ {A = Result Added AddFault} (Ok a) (Ok (New c.in-Ok-New.at))) (sym c.in-Ok-New.field-0-is) refl)).inside
