use Rattle.std.proofs.Common.{◌≡◌, ◌∙◌, sym, ap, subst, ℕ, true, None, List, length, map, arith}
use Rattle.asp_bits.specs.Places.{true_places}
use Rattle.asp_defs.specs.declared.faults.Kind.TheVariants.{Store as StoreKind}
use Rattle.asp_defs.specs.declared.ground.Game.{Game}
use Rattle.asp_defs.specs.Interpretations.{holds}
use Rattle.asp_defs.specs.Entries.{Entry, is_entry}
use Rattle.asp_defs.specs.History.{is_justified}
use Rattle.asp_store.specs.Histories.{StoreState, first_held}
use Rattle.asp_store.specs.Stores.{IsFull, IsAppended}
use Rattle.asp_store.proofs.Adding.{seed-below, known, full, appended, keeps}
use Rattle.asp_store.proofs.store.Store.add.Goals as goal

pub places-requires : goal.places-requires
places-requires c =
    seed-below c.self.inside.game.value c.args.entry c.len-count.result c.as_slice.result.now c.self.invariant.valid
    (subst (λ (s : StoreState). is_entry s.game c.args.entry ≡ true) (sym c.self.view_is) c.requires.formed)
    (c.len-count.ensures ∙ ap (λ (g : Game). length g.bases.atoms) c.deref.ensures)
    (c.as_slice.ensures ∙ ap (λ (e : Entry). e.seed) c.entry.view_is)

pub returns-in-Some-clause-known : goal.returns-in-Some-clause-known
returns-in-Some-clause-known c at e =
    known c.args.self.now c.args.entry (true_places c.in_ok-seed.seed) c.in-Some.at at
    (λ a. c.in_ok-seed.ensures.each a ∙ ap (λ (xs : List ℕ). holds xs a) (c.as_slice.ensures ∙ ap (λ (e : Entry). e.seed) c.entry.view_is))
    (c.in-Some.ensures.first ∙ ap (λ (e : Entry). first_held c.args.self.now.history e.level (true_places c.in_ok-seed.seed)) c.entry.view_is)
    cc

pub returns-then-self-cost-clause-spent : goal.returns-then-self-cost-clause-spent
returns-then-self-cost-clause-spent c u e =
    let same : (a : ℕ) → holds (true_places c.in_ok-seed.seed) a ≡ holds c.args.entry.seed a =
    λ a. c.in_ok-seed.ensures.each a ∙ ap (λ (xs : List ℕ). holds xs a) (c.as_slice.ensures ∙ ap (λ (e : Entry). e.seed) c.entry.view_is) in
    let none : None ≡ first_held c.self.inside.entries.items c.args.entry.level (true_places c.in_ok-seed.seed) =
    subst (λ (s : StoreState). None ≡ first_held s.history c.args.entry.level (true_places c.in_ok-seed.seed)) (sym c.self.view_is)
    (c.in_default.ensures.first ∙ ap (λ (e : Entry). first_held c.args.self.now.history e.level (true_places c.in_ok-seed.seed)) c.entry.view_is) in
    let told : record { kind = StoreKind; level = c.entry.inside.level; budget = c.self.inside.allowed } ≡ u = cc in
    subst (λ (s : StoreState). IsFull s c.args.entry u) c.self.view_is
    (full c.self.inside.game.value c.self.inside.allowed c.self.inside.kept c.cost-cost.result c.self.inside.entries.items (map (λ v. v.items) c.self.inside.levels.items) c.args.entry
    (true_places c.in_ok-seed.seed) u c.self.invariant same none c.cost-cost.ensures c.if-self-cost.true
    (ap (λ (e : Entry). record { kind = StoreKind; level = e.level; budget = c.self.inside.allowed }) (sym c.entry.view_is) ∙ told))

pub invariant_of-self-2 : goal.invariant_of-self-2
invariant_of-self-2 c =
    let same : (a : ℕ) → holds (true_places c.in_ok-seed.seed) a ≡ holds c.args.entry.seed a =
    λ a. c.in_ok-seed.ensures.each a ∙ ap (λ (xs : List ℕ). holds xs a) (c.as_slice.ensures ∙ ap (λ (e : Entry). e.seed) c.entry.view_is) in
    let none : None ≡ first_held c.self.inside.entries.items c.args.entry.level (true_places c.in_ok-seed.seed) =
    subst (λ (s : StoreState). None ≡ first_held s.history c.args.entry.level (true_places c.in_ok-seed.seed)) (sym c.self.view_is)
    (c.in_default.ensures.first ∙ ap (λ (e : Entry). first_held c.args.self.now.history e.level (true_places c.in_ok-seed.seed)) c.entry.view_is) in
    let fits = c.if-self-cost.false in
    keeps c.self.inside.game.value c.self.inside.allowed c.self.inside.kept c.cost-cost.result c.self.inside.entries.items c.append.new.entries.items (map (λ v. v.items) c.self.inside.levels.items)
    (map (λ v. v.items) c.append.new.levels.items) c.args.entry (true_places c.in_ok-seed.seed) c.self.invariant
    (subst (λ (s : StoreState). is_entry s.game c.args.entry ≡ true) (sym c.self.view_is) c.requires.formed)
    (subst (λ (s : StoreState). is_justified s.game s.history c.args.entry ≡ true) (sym c.self.view_is) c.requires.justified)
    same none c.cost-cost.ensures (omega (arith, fits))
    c.in_ok-append.ensures.entries c.in_ok-append.ensures.levels

pub returns-clause-legal : goal.returns-clause-legal
returns-clause-legal c =
    let same : (a : ℕ) → holds (true_places c.in_ok-seed.seed) a ≡ holds c.args.entry.seed a =
    λ a. c.in_ok-seed.ensures.each a ∙ ap (λ (xs : List ℕ). holds xs a) (c.as_slice.ensures ∙ ap (λ (e : Entry). e.seed) c.entry.view_is) in
    let none : None ≡ first_held c.self.inside.entries.items c.args.entry.level (true_places c.in_ok-seed.seed) =
    subst (λ (s : StoreState). None ≡ first_held s.history c.args.entry.level (true_places c.in_ok-seed.seed)) (sym c.self.view_is)
    (c.in_default.ensures.first ∙ ap (λ (e : Entry). first_held c.args.self.now.history e.level (true_places c.in_ok-seed.seed)) c.entry.view_is) in
    let fits = c.if-self-cost.false in
    (keeps c.self.inside.game.value c.self.inside.allowed c.self.inside.kept c.cost-cost.result c.self.inside.entries.items c.append.new.entries.items (map (λ v. v.items) c.self.inside.levels.items)
    (map (λ v. v.items) c.append.new.levels.items) c.args.entry (true_places c.in_ok-seed.seed) c.self.invariant
    (subst (λ (s : StoreState). is_entry s.game c.args.entry ≡ true) (sym c.self.view_is) c.requires.formed)
    (subst (λ (s : StoreState). is_justified s.game s.history c.args.entry ≡ true) (sym c.self.view_is) c.requires.justified)
    same none c.cost-cost.ensures (omega (arith, fits))
    c.in_ok-append.ensures.entries c.in_ok-append.ensures.levels).legal

pub returns-clause-added : goal.returns-clause-added
returns-clause-added c at e =
    let same : (a : ℕ) → holds (true_places c.in_ok-seed.seed) a ≡ holds c.args.entry.seed a =
    λ a. c.in_ok-seed.ensures.each a ∙ ap (λ (xs : List ℕ). holds xs a) (c.as_slice.ensures ∙ ap (λ (e : Entry). e.seed) c.entry.view_is) in
    let none : None ≡ first_held c.self.inside.entries.items c.args.entry.level (true_places c.in_ok-seed.seed) =
    subst (λ (s : StoreState). None ≡ first_held s.history c.args.entry.level (true_places c.in_ok-seed.seed)) (sym c.self.view_is)
    (c.in_default.ensures.first ∙ ap (λ (e : Entry). first_held c.args.self.now.history e.level (true_places c.in_ok-seed.seed)) c.entry.view_is) in
    let fits = c.if-self-cost.false in
    let told : c.len-at.result ≡ at = cc in
    let place : c.len-at.result ≡ length c.self.inside.entries.items =
    subst (λ (s : StoreState). c.len-at.result ≡ length s.history) (sym c.self.view_is) c.len-at.ensures.count in
    subst (λ (s : StoreState). IsAppended s (record { game = c.self.inside.game.value; allowed = c.self.inside.allowed; history = c.append.new.entries.items }) c.args.entry at) c.self.view_is
    (appended c.self.inside.game.value c.self.inside.allowed c.self.inside.kept c.cost-cost.result c.self.inside.entries.items c.append.new.entries.items (map (λ v. v.items) c.self.inside.levels.items)
    c.args.entry (true_places c.in_ok-seed.seed) c.len-at.result at c.self.invariant same none c.cost-cost.ensures (omega (arith, fits)) place told
    c.in_ok-append.ensures.entries)
