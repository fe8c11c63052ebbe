use Rattle.asp_bits.proofs.Packed.{word_of_place, slice_get-values}
use Rattle.std.proofs.Common.{ap, ◌∙◌, sym, Some, Bool, arith}
use Rattle.asp_bits.proofs.Bits.get.Goals as goal

pub index-requires : goal.index-requires
index-requires c =
    omega (arith, c.self.inside.words.ok.0, word_of_place c.self.inside.words.items c.self.inside.len c.args.self.now c.self.view_is c.self.invariant c.args.at c.requires)

pub returns : goal.returns
returns c =
    slice_get-values c.self.inside.words.items c.self.inside.len c.args.self.now c.self.view_is c.self.invariant c.args.at c.requires c.index.result.now c.index.ensures ∙ ap (λ (b : Bool). Some b) (sym c.is_set.ensures)
