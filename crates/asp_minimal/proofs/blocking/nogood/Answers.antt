use Rattle.std.proofs.Common.{ℕ, List, map, sym, subst}
use Rattle.std.proofs.lemmas.Result.{IfOk-weaker}
use Rattle.asp_bits.specs.Places.{true_places}
use Rattle.asp_minimal.specs.Nogoods.{denied, IsNogood, BlocksAll}
use Rattle.asp_minimal.proofs.Reasons.{unfounded-same, blocks-same, nogood_from_blocks, members_within, marked-length, marked-same}
use Rattle.asp_minimal.proofs.blocking.nogood.Goals as goal

pub clause_denying-requires-clause-same_length : goal.clause_denying-requires-clause-same_length
clause_denying-requires-clause-same_length c =
    marked-length c.args.set.now c.in_ok-part.part c.args.unfounded.now c.as_slice.result.now c.len.result c.in_ok-part.ensures c.len.ensures c.as_slice.ensures

pub clause_denying-requires-clause-outer_length : goal.clause_denying-requires-clause-outer_length
clause_denying-requires-clause-outer_length c =
    marked-length c.args.set.now c.in_ok-part.part c.args.unfounded.now c.as_slice.result.now c.len.result c.in_ok-part.ensures c.len.ensures c.as_slice.ensures

pub clause_denying-requires-clause-unfounded : goal.clause_denying-requires-clause-unfounded
clause_denying-requires-clause-unfounded c =
    unfounded-same c.args.rules.now (true_places c.args.set.now) c.args.unfounded.now (true_places c.in_ok-part.part)
    (λ a. sym (marked-same c.args.set.now c.in_ok-part.part c.args.unfounded.now c.as_slice.result.now c.len.result c.in_ok-part.ensures c.len.ensures c.as_slice.ensures c.requires.inside a))
    c.requires.unfounded

pub returns : goal.returns
returns c =
    let G = c.args.rules.now in
    let I = true_places c.args.set.now in
    let K = true_places c.in_ok-part.part in
    let U = c.args.unfounded.now in
    IfOk-weaker c.clause_denying.result (λ clause. BlocksAll G G I K K (map denied c.as_slice-2.result.now) clause) (λ clause. IsNogood G I U clause)
    (λ clause all.
    nogood_from_blocks G I U K U clause c.requires.some (members_within U) c.requires.inside
    (blocks-same G I K U K (map denied U) clause
    (marked-same c.args.set.now c.in_ok-part.part U c.as_slice.result.now c.len.result c.in_ok-part.ensures c.len.ensures c.as_slice.ensures c.requires.inside)
    (subst (λ (D : List ℕ). BlocksAll G G I K K (map denied D) clause) c.as_slice-2.ensures all)))
    c.clause_denying.ensures
