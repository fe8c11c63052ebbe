use Rattle.std.proofs.Common.{◌≡◌, sym, Ok, Err, rules}
use Rattle.std.proofs.lemmas.Fn.{always_returns_same}
use Rattle.asp_defs.specs.Constants.{const_cmp}
use Rattle.asp_atoms.specs.ConstRefs.{const_of}
use Rattle.asp_atoms.proofs.Orders.{const_lawful}
use Rattle.asp_atoms.proofs.Positions.{found}
use Rattle.asp_atoms.proofs.search.place_of.Goals as goal

pub returns-in-Ok : goal.returns-in-Ok
returns-in-Ok c =
    sym ((found const_lawful c.args.constants.now c.requires (const_of c.args.constant) (Ok c.in-Ok.at) c.in-Ok.ensures.bound
    (c.in-Ok.ensures.position (λ other. const_cmp other (const_of c.args.constant))
    (always_returns_same _ (λ a r. r ≡ const_cmp a.0.now (const_of c.args.constant)) _ (λ a r f k. search rules)))).1)

pub returns-in-Err : goal.returns-in-Err
returns-in-Err c =
    sym (found const_lawful c.args.constants.now c.requires (const_of c.args.constant) (Err c.in-Err.field-0) c.in-Err.ensures.bound
    (c.in-Err.ensures.position (λ other. const_cmp other (const_of c.args.constant))
    (always_returns_same _ (λ a r. r ≡ const_cmp a.0.now (const_of c.args.constant)) _ (λ a r f k. search rules))))
