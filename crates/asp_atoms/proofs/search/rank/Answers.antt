use Rattle.std.proofs.Common.{◌∙◌, ap, not, arith}
use Rattle.std.specs.Ordering.{is_eq}
use Rattle.std.proofs.lemmas.List.Sums.{prefix_len-le-length}
use Rattle.asp_defs.specs.declared.ground.Const.{Const}
use Rattle.asp_defs.specs.Constants.{const_cmp}
use Rattle.asp_atoms.specs.ConstRefs.{const_of}
use Rattle.asp_atoms.specs.Vocabularies.{const_rank}
use Rattle.asp_atoms.proofs.search.rank.Goals as goal

pub overflow_cast-result : goal.overflow_cast-result
overflow_cast-result c =
    let e = c.place_of.ensures in
    let few = c.requires.few in
    let within = prefix_len-le-length (λ (b : Const). not (is_eq (const_cmp (const_of c.const_ref.result) b))) c.args.constants.now in
    omega (arith, e, few, within)

pub returns : goal.returns
returns c = c.place_of.ensures ∙ ap (const_rank c.args.constants.now) c.const_ref.ensures
