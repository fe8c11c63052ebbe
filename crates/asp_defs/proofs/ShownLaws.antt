-- Every valid game has a legal history that ends with its value. It is built from the last level down: for each outer move of a
-- level that no entry holds yet, an entry whose cube has all the literals of the move that an entry may have.
use Rattle.std.proofs.Common.{ℕ, suc, zero, ◌+◌, ◌-◌, ◌≤◌, ◌≡◌, refl, sym, ◌∙◌, ap, subst, inl, inr, Bool, true, false, not, ◌&&◌, if◌then◌else◌, List, [], ◌∷◌, ◌++◌, map, length, drop, arith, nat_le, append_assoc, append-nil}
use Rattle.std.proofs.lemmas.Bool.{le-leb, eq-eqb, eqb-true}
use Rattle.std.proofs.lemmas.List.{length-drop}
use Rattle.std.specs.Prelude.{◌==◌}
use Rattle.std.specs.List.{list_any, list_all, filter}
use Rattle.asp_defs.specs.declared.ground.Game.{Game}
use Rattle.asp_defs.specs.declared.ground.Lit.{Lit}
use Rattle.asp_defs.specs.declared.syntax.Quant.{Quant}
use Rattle.asp_defs.specs.declared.syntax.Quant.TheVariants.{Exists, Forall}
use Rattle.asp_defs.specs.Lists.{IsIn}
use Rattle.asp_defs.specs.Interpretations.{holds, subsets}
use Rattle.asp_defs.specs.Games.{level_count, base, ascends, is_subset, IsValid}
use Rattle.asp_defs.specs.Values.{moves, claims, value_from, value, is_coherent}
use Rattle.asp_defs.specs.Entries.{lit_true, cube_holds, Entry, held_moves, stands_from, is_entry, winning}
use Rattle.asp_defs.specs.History.{agrees, is_held, is_held_with, is_justified_at, is_justified, is_sound, is_legal}
use Rattle.asp_defs.specs.Laws.{MovesAreShown, ValuesAreShown}
use Rattle.asp_defs.proofs.Lists.{both, and_true, true_or_false, not_true, all_at, all_from, any_at, any_from, filter_at, filter_from, append_left, append_right, map_at, map_from}
use Rattle.asp_defs.proofs.Subsets.{true_is_not_false, holds_at, holds_from, subset-member, filter-subset}
use Rattle.asp_defs.proofs.HistoryLaws.{agrees_at, agrees_from, disagrees_at, drop-next, legal_is_sound, legal-one_more, prefixes_are_legal}
use Rattle.asp_defs.proofs.Fixing.{holds_not, is_subset_from, move-answer}
use Rattle.asp_defs.proofs.Irrelevance.{base-up, AgreeFrom, values_rest_on_rules_and_bounds}
use Rattle.asp_defs.proofs.FoundedLaws.{all_false}
use Rattle.asp_defs.proofs.CellLaws.{split}

-- ---- the cube of a move

-- the literal of an atom that is true in an outer move
abbrev literal_in : List ℕ → ℕ → Lit
literal_in M a = record { atom = a; positive = holds M a }

-- the literals of an outer move on the atoms that stand in a rule or bound of its level or of a later one
abbrev allowed_atoms : Game → ℕ → List ℕ
allowed_atoms g level = filter (stands_from g level) (base g (level - 1))

abbrev full_cube : Game → ℕ → List ℕ → List Lit
full_cube g level M = map (literal_in M) (allowed_atoms g level)

literals-atoms : (M atoms : List ℕ) → map (λ l. l.atom) (map (literal_in M) atoms) ≡ atoms
literals-atoms M [] = refl
literals-atoms M (a ∷ atoms) = ap (λ (more : List ℕ). a ∷ more) (literals-atoms M atoms)

literal-true : (M : List ℕ) (a : ℕ) → lit_true M (literal_in M a) ≡ true
literal-true M a = go (holds M a)
  where
    go : (t : Bool) → (if t then t else not t) ≡ true
    go true = refl
    go false = refl

literal-agrees : (M I : List ℕ) (a : ℕ) → lit_true I (literal_in M a) ≡ true → holds M a ≡ holds I a
literal-agrees M I a h = go (holds M a) (holds I a) h
  where
    go : (t u : Bool) → (if t then u else not u) ≡ true → t ≡ u
    go true u h = sym h
    go false u h = sym (not_true u h)

full_cube-holds : (g : Game) (level : ℕ) (M : List ℕ) → cube_holds (full_cube g level M) M ≡ true
full_cube-holds g level M =
    all_from (lit_true M) (full_cube g level M) (λ l i.
    let found = map_at (literal_in M) (allowed_atoms g level) l i in
    subst (λ (k : Lit). lit_true M k ≡ true) (sym found.2) (literal-true M found.0))

-- an outer move that the cube holds agrees with its own on the atoms that matter
full_cube-agrees : (g : Game) (level : ℕ) (M I : List ℕ) → IsIn M (subsets (base g (level - 1))) → IsIn I (subsets (base g (level - 1))) → cube_holds (full_cube g level M) I ≡ true → AgreeFrom g level M I
full_cube-agrees g level M I inside inside' held a stands = elim (true_or_false (holds (base g (level - 1)) a)) [
  | inl lower ↦
      literal-agrees M I a
      (all_at (lit_true I) (full_cube g level M) (literal_in M a) held
      (map_from (literal_in M) (allowed_atoms g level) a
      (filter_from (stands_from g level) (base g (level - 1)) a (holds_at (base g (level - 1)) a lower) stands)))
  | inr upper ↦
      let no : (J : List ℕ) → IsIn J (subsets (base g (level - 1))) → holds J a ≡ false = λ J i.
      holds_not J a (λ member. true_is_not_false _ (holds_from (base g (level - 1)) a (subset-member (base g (level - 1)) J a i member)) upper)
      in no M inside ∙ sym (no I inside')
]

-- ---- the entry of a move

abbrev full_entry : Game → ℕ → List ℕ → Entry
full_entry g level M = record { level = level; cube = full_cube g level M; verdict = value g level M; seed = M }

full-formed : (g : Game) (level : ℕ) (M : List ℕ) → IsValid g → 1 ≤ level → level ≤ level_count g + 1 → IsIn M (subsets (base g (level - 1))) → is_entry g (full_entry g level M) ≡ true
full-formed g level M valid first last inside =
    let B = base g (level - 1) in
    let cube = full_cube g level M in
    let up : ascends B ≡ true = base-up g (level - 1) valid in
    let atoms : is_subset (map (λ l. l.atom) cube) B ≡ true =
    subst (λ (I : List ℕ). is_subset I B ≡ true) (sym (literals-atoms M (allowed_atoms g level)))
    (is_subset_from B (allowed_atoms g level) up (filter-subset (stands_from g level) B)) in
    let standing : list_all (λ l. stands_from g level l.atom) cube ≡ true =
    all_from (λ l. stands_from g level l.atom) cube (λ l i.
    let found = map_at (literal_in M) (allowed_atoms g level) l i in
    subst (λ (k : Lit). stands_from g level k.atom ≡ true) (sym found.2) ((filter_at (stands_from g level) B found.0 found.1).1)) in
    and_true (nat_le 1 level && nat_le level (level_count g + 1)) ((is_subset (map (λ l. l.atom) cube) B && list_all (λ l. stands_from g level l.atom) cube) && (is_subset M B && cube_holds cube M))
    (and_true (nat_le 1 level) (nat_le level (level_count g + 1)) (le-leb 1 level first) (le-leb level (level_count g + 1) last))
    (and_true (is_subset (map (λ l. l.atom) cube) B && list_all (λ l. stands_from g level l.atom) cube) (is_subset M B && cube_holds cube M)
    (and_true (is_subset (map (λ l. l.atom) cube) B) (list_all (λ l. stands_from g level l.atom) cube) atoms standing)
    (and_true (is_subset M B) (cube_holds cube M) (is_subset_from B M up inside) (full_cube-holds g level M)))

-- a history in which every move of a level is held at the next one
abbrev HeldBehind : Game → ℕ → List Entry → Type 0
HeldBehind g level H =
    (q : Quant) (qs : List Quant) → drop (level - 1) g.quants ≡ q ∷ qs → (N : List ℕ) → IsIn N (subsets (base g level)) → is_held H (level + 1) N ≡ true

-- what holds a move in sound entries holds it with its value
held-with_value : (g : Game) (H : List Entry) (level : ℕ) (N : List ℕ) → list_all (is_sound g) H ≡ true → IsIn N (subsets (base g (level - 1))) → is_held H level N ≡ true → is_held_with H level (value g level N) N ≡ true
held-with_value g H level N sound inside h =
    let found = any_at (λ e. (e.level == level) && cube_holds e.cube N) H h in
    let e = found.0 in
    let parts = both (e.level == level) (cube_holds e.cube N) found.2 in
    let at_level : e.level ≡ level = eqb-true e.level level parts.0 in
    let held : IsIn N (held_moves g e.level e.cube) =
    filter_from (cube_holds e.cube) (subsets (base g (e.level - 1))) N (subst (λ (l : ℕ). IsIn N (subsets (base g (l - 1)))) (sym at_level) inside) parts.1 in
    let settled : value g e.level N ≡ e.verdict =
    agrees_at (value g e.level N) e.verdict (all_at (λ M. agrees (value g e.level M) e.verdict) (held_moves g e.level e.cube) N (all_at (is_sound g) H e sound found.1) held) in
    let verdict : e.verdict ≡ value g level N = sym settled ∙ ap (λ (l : ℕ). value g l N) at_level in
    any_from (λ d. (d.level == level) && (agrees d.verdict (value g level N) && cube_holds d.cube N)) H e found.1
    (and_true (e.level == level) (agrees e.verdict (value g level N) && cube_holds e.cube N) parts.0
    (and_true (agrees e.verdict (value g level N)) (cube_holds e.cube N) (agrees_from e.verdict (value g level N) verdict) parts.1))

-- a claim that comes out as the winning verdict has a move that shows it, and one that doesn't is shown by every move
winning-shown : (q : Quant) (test : List ℕ → Bool) (sets : List (List ℕ)) → claims q test sets ≡ winning q → (N : List ℕ) × IsIn N sets × (test N ≡ winning q)
winning-shown Exists test sets h = any_at test sets h
winning-shown Forall test sets h = all_false test sets h

losing-shown : (q : Quant) (test : List ℕ → Bool) (sets : List (List ℕ)) (N : List ℕ) → claims q test sets ≡ not (winning q) → IsIn N sets → test N ≡ not (winning q)
losing-shown Exists test sets N h i = elim (true_or_false (test N)) [
  | inl passes ↦ absurd (true_is_not_false _ (any_from test sets N i passes) h)
  | inr fails ↦ fails
]
losing-shown Forall test sets N h i = all_at test sets N h i

-- the value of a move is justified where the moves after it are held
value-justified : (g : Game) (H : List Entry) (quants : List Quant) (level : ℕ) (M : List ℕ) → 1 ≤ level → list_all (is_sound g) H ≡ true → drop (level - 1) g.quants ≡ quants → ((q : Quant) (qs : List Quant) → quants ≡ q ∷ qs → (N : List ℕ) → IsIn N (subsets (base g level)) → is_held H (level + 1) N ≡ true) → is_justified_at g H quants level (value g level M) M ≡ true
value-justified g H [] level M first sound e held = agrees_from (value g level M) (value g level M) refl
value-justified g H (q ∷ qs) level M first sound e held = go (value g level M) (ap (λ quants. value_from g quants level M) e) (agrees (winning q) (value g level M)) refl
  where
    back : level + 1 - 1 ≡ level
    back = omega arith

    behind : drop (level + 1 - 1) g.quants ≡ qs
    behind =
        let count : level - 1 + 1 ≡ level + 1 - 1 = omega (arith, first)
        in subst (λ (n : ℕ). drop n g.quants ≡ qs) count (drop-next (level - 1) g.quants q qs e)

    test : List ℕ → Bool
    test = value_from g qs (level + 1)

    shown : (N : List ℕ) (v : Bool) → IsIn N (moves g level M) → value_from g qs (level + 1) N ≡ v → is_held_with H (level + 1) v N ≡ true
    shown N v i is =
        let inside : IsIn N (subsets (base g level)) = (move-answer g level M N i).0 in
        let same : value g (level + 1) N ≡ v = ap (λ quants. value_from g quants (level + 1) N) behind ∙ is in
        subst (λ (w : Bool). is_held_with H (level + 1) w N ≡ true) same
        (held-with_value g H (level + 1) N sound (subst (λ (l : ℕ). IsIn N (subsets (base g l))) (sym back) inside) (held q qs refl N inside))

    go : (v : Bool) → v ≡ claims q (value_from g qs (level + 1)) (moves g level M) → (wins : Bool) → agrees (winning q) v ≡ wins
        → elim wins [
          | true ↦ list_any (is_held_with H (level + 1) v) (moves g level M)
          | false ↦ list_all (is_held_with H (level + 1) v) (moves g level M)
        ] ≡ true
    go v is true same =
        let won : winning q ≡ v = agrees_at (winning q) v same in
        let found = winning-shown q (value_from g qs (level + 1)) (moves g level M) (sym is ∙ sym won) in
        any_from (is_held_with H (level + 1) v) (moves g level M) found.0 found.1 (shown found.0 v found.1 (found.2 ∙ won))
    go v is false other =
        let lost : v ≡ not (winning q) = disagrees_at (winning q) v other in
        all_from (is_held_with H (level + 1) v) (moves g level M) (λ N i.
        shown N v i (losing-shown q (value_from g qs (level + 1)) (moves g level M) N (sym is ∙ lost) i ∙ sym lost))

full-justified : (g : Game) (H : List Entry) (level : ℕ) (M : List ℕ) → IsValid g → 1 ≤ level → level ≤ level_count g + 1 → IsIn M (subsets (base g (level - 1))) → is_legal g H ≡ true → HeldBehind g level H → is_justified g H (full_entry g level M) ≡ true
full-justified g H level M valid first last inside legal behind =
    all_from (is_justified_at g H (drop (level - 1) g.quants) level (value g level M)) (held_moves g level (full_cube g level M)) (λ I i.
    let found = filter_at (cube_holds (full_cube g level M)) (subsets (base g (level - 1))) I i in
    let same : value g level M ≡ value g level I =
    values_rest_on_rules_and_bounds g level M I valid first last inside found.0 (full_cube-agrees g level M I inside found.0 found.1) in
    subst (λ (v : Bool). is_justified_at g H (drop (level - 1) g.quants) level v I ≡ true) (sym same)
    (value-justified g H (drop (level - 1) g.quants) level I first (legal_is_sound g H legal) refl behind))

-- ---- longer histories

held-longer : (H more : List Entry) (level : ℕ) (M : List ℕ) → is_held H level M ≡ true → is_held (H ++ more) level M ≡ true
held-longer H more level M h =
    let found = any_at (λ e. (e.level == level) && cube_holds e.cube M) H h in
    any_from (λ e. (e.level == level) && cube_holds e.cube M) (H ++ more) found.0 (append_left H more found.0 found.1) found.2

-- ---- all moves of a level

-- a history made longer, so that each move of a list is held
record Grown (g : Game) (level : ℕ) (H : List Entry) (sets : List (List ℕ)) : Type 0 where
  more : List Entry
  legal : is_legal g (H ++ more) ≡ true
  held : (M : List ℕ) → IsIn M sets → is_held (H ++ more) level M ≡ true

grow_step : (g : Game) (level : ℕ) (H : List Entry) (M : List ℕ) (sets : List (List ℕ)) → IsValid g → 1 ≤ level → level ≤ level_count g + 1 → IsIn M (subsets (base g (level - 1))) → HeldBehind g level H → (grown : Grown g level H sets) → (known : Bool) → is_held (H ++ grown.more) level M ≡ known → Grown g level H (M ∷ sets)
grow_step g level H M sets valid first last inside behind grown true known = record {
  more = grown.more;
  legal = grown.legal;
  held = λ K i.
      elim i [
        | inl same ↦ subst (λ (J : List ℕ). is_held (H ++ grown.more) level J ≡ true) (sym same) known
        | inr later ↦ grown.held K later
      ];
}
grow_step g level H M sets valid first last inside behind grown false fresh =
    let e = full_entry g level M in
    let old = H ++ grown.more in
    let regroup : old ++ (e ∷ []) ≡ H ++ (grown.more ++ (e ∷ [])) = append_assoc H grown.more (e ∷ []) in
    let longer : HeldBehind g level old = λ q qs is N i. held-longer H grown.more (level + 1) N (behind q qs is N i) in
    let legal : is_legal g (old ++ (e ∷ [])) ≡ true =
    legal-one_more g old e grown.legal (full-formed g level M valid first last inside) (full-justified g old level M valid first last inside grown.legal longer) fresh in
    record {
      more = grown.more ++ (e ∷ []);
      legal = subst (λ (K : List Entry). is_legal g K ≡ true) regroup legal;
      held = λ K i.
          subst (λ (L : List Entry). is_held L level K ≡ true) regroup
          (elim i [
            | inl same ↦
                any_from (λ d. (d.level == level) && cube_holds d.cube K) (old ++ (e ∷ [])) e (append_right old (e ∷ []) e (inl refl))
                (and_true (level == level) (cube_holds (full_cube g level M) K) (eq-eqb level level refl)
                (subst (λ (J : List ℕ). cube_holds (full_cube g level M) J ≡ true) (sym same) (full_cube-holds g level M)))
            | inr later ↦ held-longer old (e ∷ []) level K (grown.held K later)
          ]);
    }

grow : (g : Game) (level : ℕ) (H : List Entry) (sets : List (List ℕ)) → IsValid g → 1 ≤ level → level ≤ level_count g + 1 → is_legal g H ≡ true → HeldBehind g level H → ((M : List ℕ) → IsIn M sets → IsIn M (subsets (base g (level - 1)))) → Grown g level H sets
grow g level H [] valid first last legal behind inside = record {
  more = [];
  legal = subst (λ (K : List Entry). is_legal g K ≡ true) (sym (append-nil H)) legal;
  held = λ M i. absurd i;
}
grow g level H (M ∷ sets) valid first last legal behind inside =
    let grown : Grown g level H sets = grow g level H sets valid first last legal behind (λ K i. inside K (inr i)) in
    grow_step g level H M sets valid first last (inside M (inl refl)) behind grown (is_held (H ++ grown.more) level M) refl

-- ---- all levels

-- a legal history that holds every outer move of a level
record Covered (g : Game) (level : ℕ) : Type 0 where
  history : List Entry
  legal : is_legal g history ≡ true
  held : (M : List ℕ) → IsIn M (subsets (base g (level - 1))) → is_held history level M ≡ true

cover_over : (g : Game) (level : ℕ) (H : List Entry) → IsValid g → 1 ≤ level → level ≤ level_count g + 1 → is_legal g H ≡ true → HeldBehind g level H → Covered g level
cover_over g level H valid first last legal behind =
    let grown = grow g level H (subsets (base g (level - 1))) valid first last legal behind (λ M i. i) in
    record { history = H ++ grown.more; legal = grown.legal; held = grown.held }

cover : (g : Game) (count level : ℕ) → IsValid g → 1 ≤ level → level + count ≡ level_count g + 1 → Covered g level
cover g zero level valid first e =
    let none : length (drop (level - 1) g.quants) ≡ length g.quants - (level - 1) = length-drop (level - 1) g.quants in
    cover_over g level [] valid first (omega (arith, e)) refl (λ q qs is N i.
    let some : length (drop (level - 1) g.quants) ≡ length (q ∷ qs) = ap length is in
    absurd (omega (arith, none, some, e)))
cover g (suc count) level valid first e =
    let next : Covered g (level + 1) = cover g count (level + 1) valid (omega arith) (omega (arith, e)) in
    let back : level + 1 - 1 ≡ level = omega arith in
    cover_over g level next.history valid first (omega (arith, e)) next.legal (λ q qs is N i.
    next.held N (subst (λ (l : ℕ). IsIn N (subsets (base g l))) (sym back) i))

-- ---- the value

pub moves_are_shown : MovesAreShown
moves_are_shown g i M valid first last inside =
    let covered = cover g (level_count g + 1 - i) i valid first (omega (arith, last)) in
    (covered.history, covered.legal, held-with_value g covered.history i M (legal_is_sound g covered.history covered.legal) inside (covered.held M inside))

-- a legal history with an entry of level 1 begins with one that ends with it
cut_behind : (g : Game) (H : List Entry) (e : Entry) (v : Bool) → is_legal g H ≡ true → IsIn e H → e.level ≡ 1 → e.verdict ≡ v → (K : List Entry) × (d : Entry) × (is_legal g (K ++ (d ∷ [])) ≡ true) × (d.level ≡ 1) × (d.verdict ≡ v)
cut_behind g H e v legal member level verdict =
    let cut = split e H member in
    let regroup : (cut.front ++ (e ∷ [])) ++ cut.back ≡ cut.front ++ (e ∷ cut.back) = append_assoc cut.front (e ∷ []) cut.back in
    let whole : H ≡ (cut.front ++ (e ∷ [])) ++ cut.back = cut.whole ∙ sym regroup in
    let longer : is_legal g ((cut.front ++ (e ∷ [])) ++ cut.back) ≡ true = subst (λ (K : List Entry). is_legal g K ≡ true) whole legal in
    (cut.front, e, prefixes_are_legal g (cut.front ++ (e ∷ [])) cut.back longer, level, verdict)

held_is_shown : (g : Game) (H : List Entry) (v : Bool) → is_legal g H ≡ true → is_held_with H 1 v [] ≡ true → (K : List Entry) × (d : Entry) × (is_legal g (K ++ (d ∷ [])) ≡ true) × (d.level ≡ 1) × (d.verdict ≡ v)
held_is_shown g H v legal held =
    let found = any_at (λ e. (e.level == 1) && (agrees e.verdict v && cube_holds e.cube [])) H held in
    let parts = both (found.0.level == 1) (agrees found.0.verdict v && cube_holds found.0.cube []) found.2 in
    let more = both (agrees found.0.verdict v) (cube_holds found.0.cube []) parts.1 in
    cut_behind g H found.0 v legal found.1 (eqb-true found.0.level 1 parts.0) (agrees_at found.0.verdict v more.0)

pub values_are_shown : ValuesAreShown
values_are_shown g valid =
    let covered = cover g (level_count g) 1 valid (omega arith) (omega arith) in
    let root : IsIn [] (subsets (base g 0)) = subst (λ (B : List ℕ). IsIn [] (subsets B)) (sym valid.first_base) (inl refl) in
    held_is_shown g covered.history (is_coherent g) covered.legal
    (held-with_value g covered.history 1 [] (legal_is_sound g covered.history covered.legal) root (covered.held [] root))
