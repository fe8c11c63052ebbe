use Rattle.std.proofs.Common.{[], ◌∷◌, sym}
use Rattle.std.proofs.lemmas.Result.{IfOk-weaker}
use Rattle.asp_bits.specs.Places.{true_places}
use Rattle.asp_minimal.specs.Nogoods.{denied, IsAtomNogood, BlocksAll}
use Rattle.asp_minimal.proofs.Reasons.{unfounded-same, blocks-same, atom_nogood_from_blocks, marked-length, marked-same}
use Rattle.asp_minimal.proofs.blocking.nogood_of_atom.Goals as goal

pub clause_denying-requires-clause-same_length : goal.clause_denying-requires-clause-same_length
clause_denying-requires-clause-same_length c =
    marked-length c.args.set.now c.in_ok-part.part c.args.unfounded.now c.as_slice.result.now c.len.result c.in_ok-part.ensures c.len.ensures c.as_slice.ensures

pub clause_denying-requires-clause-unfounded : goal.clause_denying-requires-clause-unfounded
clause_denying-requires-clause-unfounded c =
    unfounded-same c.args.rules.now (true_places c.args.set.now) c.args.unfounded.now (true_places c.in_ok-part.part)
    (λ a. sym (marked-same c.args.set.now c.in_ok-part.part c.args.unfounded.now c.as_slice.result.now c.len.result c.in_ok-part.ensures c.len.ensures c.as_slice.ensures c.requires.inside a))
    c.requires.unfounded

pub returns : goal.returns
returns c =
    let G = c.args.rules.now in
    let I = true_places c.args.set.now in
    let K = true_places c.in_ok-part.part in
    let U = c.args.unfounded.now in
    let O = true_places c.args.outer.now in
    IfOk-weaker c.clause_denying.result (λ clause. BlocksAll G G I K O (denied c.args.atom ∷ []) clause) (λ clause. IsAtomNogood G I U O c.args.atom clause)
    (λ clause all.
    atom_nogood_from_blocks G I U O c.args.atom clause c.requires.member c.requires.inside
    (blocks-same G I K U O (denied c.args.atom ∷ []) clause
    (marked-same c.args.set.now c.in_ok-part.part U c.as_slice.result.now c.len.result c.in_ok-part.ensures c.len.ensures c.as_slice.ensures c.requires.inside)
    all))
    c.clause_denying.ensures
