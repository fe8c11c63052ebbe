-- Histories of entries: when one is justified, sound and legal (of this project). All definitions are transparent.
use Rattle.std.specs.Prelude.{ℕ, ◌+◌, ◌-◌, Bool, true, false, ◌==◌, ◌&&◌, not, List, [], ◌∷◌, ◌++◌, drop}
use Rattle.std.specs.List.{list_all, list_any, sum_by}
use Rattle.asp_defs.specs.declared.ground.Game.{Game}
use Rattle.asp_defs.specs.declared.syntax.Quant.{Quant}
use Rattle.asp_defs.specs.Values.{moves, value}
use Rattle.asp_defs.specs.Entries.{Entry, cube_holds, held_moves, is_entry, cost, winning}

-- whether two truth values are the same
abbrev pub agrees : Bool → Bool → Bool
agrees true w = w
agrees false w = not w

-- whether an entry of a level in a list holds an interpretation, and whether one with this verdict does
abbrev pub is_held : List Entry → ℕ → List ℕ → Bool
is_held H level M = list_any (λ e. (e.level == level) && cube_holds e.cube M) H

abbrev pub is_held_with : List Entry → ℕ → Bool → List ℕ → Bool
is_held_with H level verdict M =
    list_any (λ e. (e.level == level) && (agrees e.verdict verdict && cube_holds e.cube M)) H

-- whether an entry of level 1 in a list has a verdict
abbrev pub has_verdict : List Entry → Bool → Bool
has_verdict H verdict = list_any (λ e. (e.level == 1) && agrees e.verdict verdict) H

-- whether a verdict on an outer move is justified by a list, where the levels from this one on have these quantifiers:
-- behind the last level by its value, the winning verdict by one move that an entry of the next level with the same
-- verdict holds, and the other verdict by all moves being so held
abbrev pub is_justified_at : Game → List Entry → List Quant → ℕ → Bool → List ℕ → Bool
is_justified_at g H [] level verdict M = agrees (value g level M) verdict
is_justified_at g H (q ∷ qs) level verdict M =
    elim (agrees (winning q) verdict) [
      | true ↦ list_any (is_held_with H (level + 1) verdict) (moves g level M)
      | false ↦ list_all (is_held_with H (level + 1) verdict) (moves g level M)
    ]

-- whether an entry is justified by a list: on every outer move that its cube holds
abbrev pub is_justified : Game → List Entry → Entry → Bool
is_justified g H e =
    list_all (is_justified_at g H (drop (e.level - 1) g.quants) e.level e.verdict) (held_moves g e.level e.cube)

-- whether an entry is sound: its verdict is the value of every outer move that its cube holds
abbrev pub is_sound : Game → Entry → Bool
is_sound g e = list_all (λ M. agrees (value g e.level M) e.verdict) (held_moves g e.level e.cube)

-- whether a list may follow earlier entries: each is formed, is justified by all before it, and has a seed that no
-- earlier entry of its level holds
abbrev pub may_follow : Game → List Entry → List Entry → Bool
may_follow g before [] = true
may_follow g before (e ∷ more) =
    (is_entry g e && (is_justified g before e && not (is_held before e.level e.seed)))
    && may_follow g (before ++ (e ∷ [])) more

-- whether a list of entries is a legal history
abbrev pub is_legal : Game → List Entry → Bool
is_legal g H = may_follow g [] H

-- the cells that a history takes
abbrev pub cells : List Entry → ℕ
cells H = sum_by cost H
