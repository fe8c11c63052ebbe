use Rattle.std.proofs.Common.{arith, ap, ◌∙◌, List, Bool, set}
use Rattle.asp_bits.proofs.Packed.{place_within, word_of_place, SetsBit-read, truth_values-set, IsPacked-set}
use Rattle.asp_bits.proofs.Bits.set.Goals as goal

pub index-requires : goal.index-requires
index-requires c =
    omega (arith, c.self.inside.words.ok.0, word_of_place c.self.inside.words.items c.self.inside.len c.args.self.now c.self.view_is c.self.invariant c.args.at c.requires)

pub index_mut-requires : goal.index_mut-requires
index_mut-requires c =
    omega (arith, c.self.inside.words.ok.0, word_of_place c.self.inside.words.items c.self.inside.len c.args.self.now c.self.view_is c.self.invariant c.args.at c.requires)

pub invariant_of-self : goal.invariant_of-self
invariant_of-self c =
    let words = c.self.inside.words.items in
    let len = c.self.inside.len in
    IsPacked-set words c.args.at c.with_bit.result c.args.value
    (SetsBit-read words len c.args.self.now c.self.view_is c.self.invariant c.args.at c.requires c.index.result.now c.with_bit.result c.args.value c.index.ensures c.with_bit.ensures)
    (word_of_place words len c.args.self.now c.self.view_is c.self.invariant c.args.at c.requires)
    len
    (place_within words len c.args.self.now c.self.view_is c.self.invariant c.args.at c.requires)
    c.self.invariant

pub returns : goal.returns
returns c =
    let words = c.self.inside.words.items in
    let len = c.self.inside.len in
    truth_values-set words c.args.at c.with_bit.result c.args.value
    (SetsBit-read words len c.args.self.now c.self.view_is c.self.invariant c.args.at c.requires c.index.result.now c.with_bit.result c.args.value c.index.ensures c.with_bit.ensures)
    (word_of_place words len c.args.self.now c.self.view_is c.self.invariant c.args.at c.requires)
    len
    (place_within words len c.args.self.now c.self.view_is c.self.invariant c.args.at c.requires)
    ∙ ap (λ (values : List Bool). set values c.args.at c.args.value) c.self.view_is
