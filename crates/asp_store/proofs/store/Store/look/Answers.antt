use Rattle.std.proofs.Common.{◌≡◌, ◌∙◌, None, true, List, sym, subst, length, arith}
use Rattle.std.specs.List.{list_all}
use Rattle.asp_bits.specs.Places.{true_places}
use Rattle.asp_defs.specs.Entries.{Entry}
use Rattle.asp_entry.specs.Cubes.{are_lits_below}
use Rattle.asp_store.specs.Histories.{StoreState, first_held}
use Rattle.asp_store.proofs.Keeping.{look-past, read-list, inside, looked, cubes-below}
use Rattle.asp_store.proofs.store.Store.look.Goals as goal

pub returns-then-level-len-clause-first : goal.returns-then-level-len-clause-first
returns-then-level-len-clause-first c =
    let many = c.len.ensures in
    let past = c.if-level-len.true in
    subst (λ (s : StoreState). None ≡ first_held s.history c.args.level (true_places c.args.set.now)) c.self.view_is
    (look-past c.self.inside.game.value c.self.inside.allowed c.self.inside.kept c.self.inside.entries.items c.self.inside.levels.items c.args.level (true_places c.args.set.now) c.self.invariant
    (omega (arith, many, past)))

pub first_of-requires-clause-inside : goal.first_of-requires-clause-inside
first_of-requires-clause-inside c =
    let many = c.len.ensures in
    let low = c.if-level-len.false in
    inside c.self.inside.entries.items c.deref.result.now c.args.level c.as_slice.result.now c.deref.ensures.value
    (c.as_slice.ensures.value ∙ read-list c.self.inside.game.value c.self.inside.allowed c.self.inside.kept c.self.inside.entries.items c.self.inside.levels.items c.args.level c.index-positions.result.now c.self.invariant
    (omega (arith, many, low)) c.index-positions.ensures)

pub first_of-requires-clause-below : goal.first_of-requires-clause-below
first_of-requires-clause-below c =
    subst (λ (xs : List Entry). list_all (λ e. are_lits_below (length c.args.set.now) e.cube) xs ≡ true) (sym c.deref.ensures.value)
    (cubes-below c.self.inside.game.value c.self.inside.entries.items (length c.args.set.now) c.self.invariant.valid c.self.invariant.legal
    (subst (λ (s : StoreState). length c.args.set.now ≡ length s.game.bases.atoms) (sym c.self.view_is) c.requires))

pub returns-clause-first : goal.returns-clause-first
returns-clause-first c =
    let many = c.len.ensures in
    let low = c.if-level-len.false in
    subst (λ (s : StoreState). c.first_of.result ≡ first_held s.history c.args.level (true_places c.args.set.now)) c.self.view_is
    (looked c.self.inside.entries.items c.deref.result.now c.args.level (true_places c.args.set.now) c.as_slice.result.now c.first_of.result c.deref.ensures.value
    (c.as_slice.ensures.value ∙ read-list c.self.inside.game.value c.self.inside.allowed c.self.inside.kept c.self.inside.entries.items c.self.inside.levels.items c.args.level c.index-positions.result.now c.self.invariant
    (omega (arith, many, low)) c.index-positions.ensures) c.first_of.ensures)
