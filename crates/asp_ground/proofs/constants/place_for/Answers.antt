use Rattle.std.proofs.Common.{◌≡◌, rules}
use Rattle.std.proofs.lemmas.Fn.{always_returns_same}
use Rattle.asp_defs.specs.Constants.{const_cmp}
use Rattle.asp_atoms.specs.ConstRefs.{const_of}
use Rattle.asp_ground.proofs.Gathered.{placed}
use Rattle.asp_ground.proofs.constants.place_for.Goals as goal

pub returns : goal.returns
returns c =
    placed c.args.found.now c.requires (const_of c.args.constant) c.binary_search_by.result c.binary_search_by.ensures.bound
    (c.binary_search_by.ensures.position (λ other. const_cmp (const_of other) (const_of c.args.constant))
    (always_returns_same _ (λ a r. r ≡ const_cmp (const_of a.0.now) (const_of c.args.constant)) _ (λ a r f k. search rules)))
