-- An addition that is refused for its cells: they aren't enough for all entries of the game.
use Rattle.std.proofs.Common.{◌≡◌, refl, sym, subst, ◌+◌, ◌-◌, ◌*◌, ◌≤◌, true, List, [], ◌∷◌, ◌++◌, length, map, arith, inl}
use Rattle.std.proofs.lemmas.List.{length-map}
use Rattle.std.proofs.lemmas.List.Sums.{sum_by-append}
use Rattle.asp_defs.specs.declared.faults.Unknown.{Unknown}
use Rattle.asp_defs.specs.declared.ground.Game.{Game}
use Rattle.asp_defs.specs.Lists.{IsIn}
use Rattle.asp_defs.specs.Games.{level_count, base, base_size, IsValid}
use Rattle.asp_defs.specs.Entries.{Entry, is_entry, cost}
use Rattle.asp_defs.specs.History.{is_justified, is_legal, cells}
use Rattle.asp_defs.specs.Unknowns.{enough_cells}
use Rattle.asp_defs.proofs.Lists.{append_right}
use Rattle.asp_defs.proofs.HistoryLaws.{justifications_stay, legal-one_more}
use Rattle.asp_defs.proofs.CellLaws.{length-subset, follow-formed, cells_are_bounded}
use Rattle.asp_store.specs.Shelves.{ShelfState, GoesOn, IsRefused}
use Rattle.asp_node.specs.Causes.{IsStoreSpent}
use Rattle.asp_node.proofs.Formed.{parts_at}

-- what an entry of a legal history costs at most
cost-legal : (g : Game) (H : List Entry) (e : Entry) → IsValid g → is_legal g H ≡ true → IsIn e H → cost e ≤ 1 + 2 * base_size g (e.level - 1)
cost-legal g H e valid legal member =
    let f = follow-formed g [] H valid legal e member in
    let cube : length (map (λ l. l.atom) e.cube) ≤ base_size g (e.level - 1) = length-subset (base g (e.level - 1)) (map (λ l. l.atom) e.cube) f.cube in
    let same : length (map (λ l. l.atom) e.cube) ≡ length e.cube = length-map e.cube (λ l. l.atom) in
    let seed : length e.seed ≤ base_size g (e.level - 1) = length-subset (base g (e.level - 1)) e.seed f.seed in
    omega (arith, cube, same, seed)

pub refused : (old new : ShelfState) (e : Entry) (u : Unknown) → IsValid old.game → is_entry old.game e ≡ true → is_justified old.game old.seen e ≡ true
    → GoesOn old new → IsRefused old new e u → IsStoreSpent old new u
refused old new e u valid formed justified goes r =
    let g = new.game in
    let p = parts_at old.game e formed in
    let valid_now : IsValid g = subst (λ (h : Game). IsValid h) (sym goes.game) valid in
    let formed_now : is_entry g e ≡ true = subst (λ (h : Game). is_entry h e ≡ true) (sym goes.game) formed in
    let justified_now : is_justified g new.seen e ≡ true =
    subst (λ (h : Game). is_justified h new.seen e ≡ true) (sym goes.game)
    (subst (λ (H : List Entry). is_justified old.game H e ≡ true) (sym goes.prefix) (justifications_stay old.game old.seen goes.more e justified)) in
    let longer : is_legal g (new.seen ++ e ∷ []) ≡ true = legal-one_more g new.seen e goes.legal formed_now justified_now r.fresh in
    let most : cells (new.seen ++ e ∷ []) ≤ enough_cells g = cells_are_bounded g (new.seen ++ e ∷ []) valid_now longer in
    let sums : cells (new.seen ++ e ∷ []) ≡ cells new.seen + cells (e ∷ []) = sum_by-append cost new.seen (e ∷ []) in
    let one : cells (e ∷ []) ≡ 0 + cost e = refl in
    let dear : cost e ≤ 1 + 2 * base_size g (e.level - 1) =
    cost-legal g (new.seen ++ e ∷ []) e valid_now longer (append_right new.seen (e ∷ []) e (inl refl)) in
    let exceeds = r.exceeds in
    let last : e.level ≤ level_count g + 1 = subst (λ (h : Game). e.level ≤ level_count h + 1) (sym goes.game) p.last in
    subst (λ (v : Unknown). IsStoreSpent old new v) (sym r.unknown) (record {
      kind = refl;
      first = p.first;
      last = last;
      budget = refl;
      exceeds = omega (arith, exceeds, dear);
      few = omega (arith, exceeds, most, sums, one);
      rose = r.rose;
    })
