-- The entry behind the last level.
use Rattle.std.proofs.Common.{◌≡◌, sym, ap, ◌∙◌, subst, ℕ, ◌+◌, ◌-◌, ◌≤◌, Bool, true, List, [], map, drop, arith}
use Rattle.std.proofs.lemmas.List.{drop_all}
use Rattle.asp_defs.specs.declared.ground.Game.{Game}
use Rattle.asp_defs.specs.declared.ground.Lit.{Lit}
use Rattle.asp_defs.specs.declared.syntax.Quant.{Quant}
use Rattle.asp_defs.specs.Lists.{IsIn}
use Rattle.asp_defs.specs.Interpretations.{holds, subsets}
use Rattle.asp_defs.specs.Games.{level_count, base, is_subset, within, ascends, IsValid}
use Rattle.asp_defs.specs.Values.{value}
use Rattle.asp_defs.specs.Entries.{Entry, cube_holds, held_moves, is_entry, stands_from}
use Rattle.asp_defs.specs.History.{is_justified_at, is_justified}
use Rattle.asp_defs.proofs.Lists.{and_true, all_from, filter_at, map_at}
use Rattle.asp_defs.proofs.HistoryLaws.{agrees_from}
use Rattle.asp_defs.proofs.SubsetLaws.{subsets_are_listed}
use Rattle.asp_defs.proofs.Irrelevance.{base-up}
use Rattle.asp_eval.specs.Covers.{IsJudgement}
use Rattle.asp_node.proofs.Formed.{parts_from, stands-here}

-- an entry by its parts, and the one that is added
abbrev pub made : ℕ → List Lit → Bool → List ℕ → Entry
made level cube verdict seed = record { level = level; cube = cube; verdict = verdict; seed = seed }

abbrev pub judgement : Game → List Lit → Bool → List ℕ → Entry
judgement g cube verdict M = made (level_count g + 1) cube verdict M

pub back : (n : ℕ) → n + 1 - 1 ≡ n
back n = omega arith

pub judgement-formed : (g : Game) (M : List ℕ) (cube : List Lit) (verdict : Bool) → is_subset M (base g (level_count g)) ≡ true → IsJudgement g M verdict cube
    → is_entry g (judgement g cube verdict M) ≡ true
judgement-formed g M cube verdict outer j =
    let n = level_count g in
    let same : base g (n + 1 - 1) ≡ base g n = ap (base g) (back n) in
    let inside : within (map (λ l. l.atom) cube) (base g n) ≡ true =
    all_from (holds (base g n)) (map (λ l. l.atom) cube) (λ a member.
    let found = map_at (λ l. l.atom) cube a member in
    subst (λ (b : ℕ). holds (base g n) b ≡ true) (sym found.2) (j.on_base found.0 found.1)) in
    parts_from g (judgement g cube verdict M) (record {
      first = omega arith;
      last = omega arith;
      atoms = subst (λ (B : List ℕ). is_subset (map (λ l. l.atom) cube) B ≡ true) (sym same)
          (and_true (ascends (map (λ l. l.atom) cube)) (within (map (λ l. l.atom) cube) (base g n)) j.ascend inside);
      stand = all_from (λ l. stands_from g (n + 1) l.atom) cube (λ l member. stands-here g (n + 1) l.atom (j.stand l member));
      seed = subst (λ (B : List ℕ). is_subset M B ≡ true) (sym same) outer;
      held = j.held;
    })

pub judgement-justified : (g : Game) (H : List Entry) (M : List ℕ) (cube : List Lit) (verdict : Bool) → IsValid g → IsJudgement g M verdict cube
    → is_justified g H (judgement g cube verdict M) ≡ true
judgement-justified g H M cube verdict valid j =
    let n = level_count g in
    let none : drop (n + 1 - 1) g.quants ≡ [] = ap (λ k. drop k g.quants) (back n) ∙ drop_all n g.quants (omega arith) in
    all_from (is_justified_at g H (drop (n + 1 - 1) g.quants) (n + 1) verdict) (held_moves g (n + 1) cube) (λ K member.
    let parts = filter_at (cube_holds cube) (subsets (base g (n + 1 - 1))) K member in
    let inside : is_subset K (base g n) ≡ true =
    (subsets_are_listed (base g n) K (base-up g n valid)).0
    (subst (λ (k : ℕ). IsIn K (subsets (base g k))) (back n) parts.0) in
    subst (λ (qs : List Quant). is_justified_at g H qs (n + 1) verdict K ≡ true) (sym none)
    (agrees_from (value g (n + 1) K) verdict (j.sound K inside parts.1)))

-- a level from the one behind the last on is that one
pub last-level : (own level count : ℕ) → own ≡ count + 1 → own ≤ level → level ≤ count + 1 → own ≡ level
last-level own level count behind first last = omega (arith, behind, first, last)
