-- Justifications stay and are sound, so that every entry of a legal history is sound, and so is each of its prefixes.
use Rattle.std.proofs.Common.{ℕ, zero, suc, ◌+◌, ◌-◌, ◌≤◌, ◌≡◌, refl, sym, ◌∙◌, ap, subst, inl, inr, Bool, true, false, not, ◌&&◌, List, [], ◌∷◌, ◌++◌, map, drop, arith, nat_le, append_assoc, append-nil}
use Rattle.std.specs.Prelude.{◌==◌}
use Rattle.std.specs.List.{list_any, list_all}
use Rattle.std.proofs.lemmas.Bool.{eqb-true, leb-true}
use Rattle.asp_defs.specs.declared.ground.Game.{Game}
use Rattle.asp_defs.specs.declared.syntax.Quant.{Quant}
use Rattle.asp_defs.specs.declared.syntax.Quant.TheVariants.{Exists, Forall}
use Rattle.asp_defs.specs.Lists.{IsIn}
use Rattle.asp_defs.specs.Interpretations.{subsets}
use Rattle.asp_defs.specs.AnswerSets.{is_bounded_answer_set}
use Rattle.asp_defs.specs.Games.{level_count, base, rules_of, bounds_of, is_subset}
use Rattle.asp_defs.specs.Values.{fix, moves, claims, value_from, value}
use Rattle.asp_defs.specs.Entries.{Entry, cube_holds, held_moves, stands_from, is_entry, winning}
use Rattle.asp_defs.specs.History.{agrees, is_held, is_held_with, is_justified_at, is_justified, is_sound, may_follow, is_legal}
use Rattle.asp_defs.specs.Laws.{JustificationsStay, JustifiedIsSound, LegalIsSound, PrefixesAreLegal}
use Rattle.asp_defs.proofs.Lists.{both, and_true, true_or_false, not_true, not_false, all_at, all_from, any_at, any_from, filter_at, filter_from, append_at, append_left}

-- agreement is equality
pub agrees_at : (v w : Bool) → agrees v w ≡ true → v ≡ w
agrees_at true w h = sym h
agrees_at false w h = sym (not_true w h)

pub agrees_from : (v w : Bool) → v ≡ w → agrees v w ≡ true
agrees_from true w e = sym e
agrees_from false w e = not_false w (sym e)

-- ---- justifications stay

pub held-stays : (H more : List Entry) (level : ℕ) (verdict : Bool) (M : List ℕ) → is_held_with H level verdict M ≡ true → is_held_with (H ++ more) level verdict M ≡ true
held-stays H more level verdict M h =
    let test : Entry → Bool = λ e. (e.level == level) && (agrees e.verdict verdict && cube_holds e.cube M) in
    let found = any_at test H h in
    any_from test (H ++ more) found.0 (append_left H more found.0 found.1) found.2

pub justified_at-stays : (g : Game) (H more : List Entry) (quants : List Quant) (level : ℕ) (verdict : Bool) (M : List ℕ) → is_justified_at g H quants level verdict M ≡ true → is_justified_at g (H ++ more) quants level verdict M ≡ true
justified_at-stays g H more [] level verdict M h = h
justified_at-stays g H more (q ∷ qs) level verdict M h = go (agrees (winning q) verdict) h
  where
    go : (wins : Bool)
        → elim wins [
          | true ↦ list_any (is_held_with H (level + 1) verdict) (moves g level M)
          | false ↦ list_all (is_held_with H (level + 1) verdict) (moves g level M)
        ] ≡ true
        → elim wins [
          | true ↦ list_any (is_held_with (H ++ more) (level + 1) verdict) (moves g level M)
          | false ↦ list_all (is_held_with (H ++ more) (level + 1) verdict) (moves g level M)
        ] ≡ true
    go true k =
        let found = any_at (is_held_with H (level + 1) verdict) (moves g level M) k in
        any_from (is_held_with (H ++ more) (level + 1) verdict) (moves g level M) found.0 found.1 (held-stays H more (level + 1) verdict found.0 found.2)
    go false k =
        all_from (is_held_with (H ++ more) (level + 1) verdict) (moves g level M) (λ N i.
        held-stays H more (level + 1) verdict N (all_at (is_held_with H (level + 1) verdict) (moves g level M) N k i))

pub justifications_stay : JustificationsStay
justifications_stay g H more e h =
    all_from (is_justified_at g (H ++ more) (drop (e.level - 1) g.quants) e.level e.verdict) (held_moves g e.level e.cube) (λ M i.
    justified_at-stays g H more (drop (e.level - 1) g.quants) e.level e.verdict M
    (all_at (is_justified_at g H (drop (e.level - 1) g.quants) e.level e.verdict) (held_moves g e.level e.cube) M h i))

-- ---- justified is sound

-- the value of a move of the next level that a sound entry holds is the entry's verdict
pub held-value : (g : Game) (H : List Entry) (level : ℕ) (verdict : Bool) (N : List ℕ) → list_all (is_sound g) H ≡ true → IsIn N (subsets (base g (level - 1))) → is_held_with H level verdict N ≡ true → value g level N ≡ verdict
held-value g H level verdict N sound inside h =
    let found = any_at (λ e. (e.level == level) && (agrees e.verdict verdict && cube_holds e.cube N)) H h in
    let e = found.0 in
    let parts = both (e.level == level) (agrees e.verdict verdict && cube_holds e.cube N) found.2 in
    let more = both (agrees e.verdict verdict) (cube_holds e.cube N) parts.1 in
    let at_level : e.level ≡ level = eqb-true e.level level parts.0 in
    let held : IsIn N (held_moves g e.level e.cube) =
    filter_from (cube_holds e.cube) (subsets (base g (e.level - 1))) N (subst (λ (l : ℕ). IsIn N (subsets (base g (l - 1)))) (sym at_level) inside) more.1 in
    let settled : value g e.level N ≡ e.verdict =
    agrees_at (value g e.level N) e.verdict (all_at (λ M. agrees (value g e.level M) e.verdict) (held_moves g e.level e.cube) N (all_at (is_sound g) H e sound found.1) held)
    in subst (λ (l : ℕ). value g l N ≡ e.verdict) at_level settled ∙ agrees_at e.verdict verdict more.0

-- what remains of the quantifiers behind a level
pub drop-next : {A : Type 0} (k : ℕ) (xs : List A) (y : A) (ys : List A) → drop k xs ≡ y ∷ ys → drop (k + 1) xs ≡ ys
drop-next zero [] y ys e = absurd (cc)
drop-next zero (x ∷ xs) y ys e = cc
drop-next (suc k) [] y ys e = absurd (cc)
drop-next (suc k) (x ∷ xs) y ys e =
    let count : suc (k + 1) ≡ suc k + 1 = omega arith
    in subst (λ (n : ℕ). drop n (x ∷ xs) ≡ ys) count (drop-next k xs y ys e)

-- the claim of a quantifier over moves that are held by sound entries
pub claim_winning : (q : Quant) (test : List ℕ → Bool) (sets : List (List ℕ)) (N : List ℕ) → IsIn N sets → test N ≡ winning q → claims q test sets ≡ winning q
claim_winning Exists test sets N i e = any_from test sets N i e
claim_winning Forall test sets N i e =
    elim (true_or_false (list_all test sets)) [
      | inl passes ↦ absurd (cc (all_at test sets N passes i))
      | inr fails ↦ fails
    ]

pub claim_losing : (q : Quant) (test : List ℕ → Bool) (sets : List (List ℕ)) → ((N : List ℕ) → IsIn N sets → test N ≡ not (winning q)) → claims q test sets ≡ not (winning q)
claim_losing Exists test sets h =
    elim (true_or_false (list_any test sets)) [
      | inl passes ↦ let found = any_at test sets passes in absurd (cc (h found.0 found.1))
      | inr fails ↦ fails
    ]
claim_losing Forall test sets h = all_from test sets h

pub disagrees_at : (v w : Bool) → agrees v w ≡ false → w ≡ not v
disagrees_at true w h = h
disagrees_at false true h = refl
disagrees_at false false h = absurd (cc)

-- the value of a move on which a verdict is justified by sound entries is that verdict
pub justified-value : (g : Game) (H : List Entry) (quants : List Quant) (level : ℕ) (verdict : Bool) (M : List ℕ) → 1 ≤ level → list_all (is_sound g) H ≡ true → drop (level - 1) g.quants ≡ quants → is_justified_at g H quants level verdict M ≡ true → value g level M ≡ verdict
justified-value g H [] level verdict M first sound e h = agrees_at (value g level M) verdict h
justified-value g H (q ∷ qs) level verdict M first sound e h =
    ap (λ quants. value_from g quants level M) e ∙ go (agrees (winning q) verdict) refl h
  where
    back : level + 1 - 1 ≡ level
    back = omega arith

    behind : drop (level + 1 - 1) g.quants ≡ qs
    behind =
        let count : level - 1 + 1 ≡ level + 1 - 1 = omega (arith, first)
        in subst (λ (n : ℕ). drop n g.quants ≡ qs) count (drop-next (level - 1) g.quants q qs e)

    within : (N : List ℕ) → IsIn N (moves g level M) → IsIn N (subsets (base g (level + 1 - 1)))
    within N i =
        subst (λ (l : ℕ). IsIn N (subsets (base g l))) (sym back)
        ((filter_at (is_bounded_answer_set (rules_of g level ++ fix (base g (level - 1)) M) (bounds_of g level)) (subsets (base g level)) N i).0)

    settled : (N : List ℕ) → IsIn N (moves g level M) → is_held_with H (level + 1) verdict N ≡ true → value_from g qs (level + 1) N ≡ verdict
    settled N i held =
        sym (ap (λ quants. value_from g quants (level + 1) N) behind) ∙ held-value g H (level + 1) verdict N sound (within N i) held

    go : (wins : Bool) → agrees (winning q) verdict ≡ wins
        → elim wins [
          | true ↦ list_any (is_held_with H (level + 1) verdict) (moves g level M)
          | false ↦ list_all (is_held_with H (level + 1) verdict) (moves g level M)
        ] ≡ true
        → claims q (value_from g qs (level + 1)) (moves g level M) ≡ verdict
    go true same k =
        let found = any_at (is_held_with H (level + 1) verdict) (moves g level M) k in
        let won : winning q ≡ verdict = agrees_at (winning q) verdict same in
        claim_winning q (value_from g qs (level + 1)) (moves g level M) found.0 found.1 (settled found.0 found.1 found.2 ∙ sym won) ∙ won
    go false other k =
        let lost : verdict ≡ not (winning q) = disagrees_at (winning q) verdict other in
        claim_losing q (value_from g qs (level + 1)) (moves g level M) (λ N i.
        settled N i (all_at (is_held_with H (level + 1) verdict) (moves g level M) N k i) ∙ lost) ∙ sym lost

pub justified_is_sound : JustifiedIsSound
justified_is_sound g H e first sound h =
    all_from (λ M. agrees (value g e.level M) e.verdict) (held_moves g e.level e.cube) (λ M i.
    agrees_from (value g e.level M) e.verdict
    (justified-value g H (drop (e.level - 1) g.quants) e.level e.verdict M first sound refl
    (all_at (is_justified_at g H (drop (e.level - 1) g.quants) e.level e.verdict) (held_moves g e.level e.cube) M h i)))

-- ---- legal histories

-- the parts of following earlier entries
pub record Follows (g : Game) (before : List Entry) (e : Entry) (more : List Entry) : Type 0 where
  pub formed : is_entry g e ≡ true
  pub justified : is_justified g before e ≡ true
  pub fresh : not (is_held before e.level e.seed) ≡ true
  pub rest : may_follow g (before ++ (e ∷ [])) more ≡ true

pub follows_at : (g : Game) (before : List Entry) (e : Entry) (more : List Entry) → may_follow g before (e ∷ more) ≡ true → Follows g before e more
follows_at g before e more h =
    let one = both (is_entry g e && (is_justified g before e && not (is_held before e.level e.seed))) (may_follow g (before ++ (e ∷ [])) more) h in
    let two = both (is_entry g e) (is_justified g before e && not (is_held before e.level e.seed)) one.0 in
    let three = both (is_justified g before e) (not (is_held before e.level e.seed)) two.1 in
    record { formed = two.0; justified = three.0; fresh = three.1; rest = one.1 }

pub follows_from : (g : Game) (before : List Entry) (e : Entry) (more : List Entry) → Follows g before e more → may_follow g before (e ∷ more) ≡ true
follows_from g before e more f =
    and_true (is_entry g e && (is_justified g before e && not (is_held before e.level e.seed))) (may_follow g (before ++ (e ∷ [])) more)
    (and_true (is_entry g e) (is_justified g before e && not (is_held before e.level e.seed)) f.formed
    (and_true (is_justified g before e) (not (is_held before e.level e.seed)) f.justified f.fresh))
    f.rest

-- a formed entry has a level from 1 on
pub entry-level : (g : Game) (e : Entry) → is_entry g e ≡ true → 1 ≤ e.level
entry-level g e h =
    let one = both (nat_le 1 e.level && nat_le e.level (level_count g + 1)) ((is_subset (map (λ l. l.atom) e.cube) (base g (e.level - 1)) && list_all (λ l. stands_from g e.level l.atom) e.cube) && (is_subset e.seed (base g (e.level - 1)) && cube_holds e.cube e.seed)) h in
    leb-true 1 e.level ((both (nat_le 1 e.level) (nat_le e.level (level_count g + 1)) one.0).0)

-- what sound entries are followed by is sound too
pub follow-sound : (g : Game) (before more : List Entry) → list_all (is_sound g) before ≡ true → may_follow g before more ≡ true → list_all (is_sound g) more ≡ true
follow-sound g before [] sound h = refl
follow-sound g before (e ∷ more) sound h =
    let f = follows_at g before e more h in
    let here : is_sound g e ≡ true = justified_is_sound g before e (entry-level g e f.formed) sound f.justified in
    let longer : list_all (is_sound g) (before ++ (e ∷ [])) ≡ true =
    all_from (is_sound g) (before ++ (e ∷ [])) (λ x i.
    elim (append_at before (e ∷ []) x i) [
      | inl old ↦ all_at (is_sound g) before x sound old
      | inr new ↦ elim new [ inl same ↦ subst (λ (y : Entry). is_sound g y ≡ true) (sym same) here | inr none ↦ absurd none ]
    ]) in
    and_true (is_sound g e) (list_all (is_sound g) more) here (follow-sound g (before ++ (e ∷ [])) more longer f.rest)

pub legal_is_sound : LegalIsSound
legal_is_sound g H h = follow-sound g [] H refl h

pub follow-prefix : (g : Game) (before H more : List Entry) → may_follow g before (H ++ more) ≡ true → may_follow g before H ≡ true
follow-prefix g before [] more h = refl
follow-prefix g before (e ∷ H) more h =
    let f = follows_at g before e (H ++ more) h in
    follows_from g before e H (record { formed = f.formed; justified = f.justified; fresh = f.fresh; rest = follow-prefix g (before ++ (e ∷ [])) H more f.rest })

pub prefixes_are_legal : PrefixesAreLegal
prefixes_are_legal g H more h = follow-prefix g [] H more h

-- ---- one more entry

follow-one_more : (g : Game) (before H : List Entry) (e : Entry) → may_follow g before H ≡ true → is_entry g e ≡ true → is_justified g (before ++ H) e ≡ true → is_held (before ++ H) e.level e.seed ≡ false → may_follow g before (H ++ (e ∷ [])) ≡ true
follow-one_more g before [] e h formed justified fresh =
    let none : before ++ [] ≡ before = append-nil before in
    follows_from g before e []
    (record {
      formed = formed;
      justified = subst (λ (K : List Entry). is_justified g K e ≡ true) none justified;
      fresh = not_false _ (subst (λ (K : List Entry). is_held K e.level e.seed ≡ false) none fresh);
      rest = refl;
    })
follow-one_more g before (d ∷ H) e h formed justified fresh =
    let f = follows_at g before d H h in
    let regroup : before ++ (d ∷ H) ≡ (before ++ (d ∷ [])) ++ H = sym (append_assoc before (d ∷ []) H) in
    follows_from g before d (H ++ (e ∷ []))
    (record {
      formed = f.formed;
      justified = f.justified;
      fresh = f.fresh;
      rest = follow-one_more g (before ++ (d ∷ [])) H e f.rest formed
          (subst (λ (K : List Entry). is_justified g K e ≡ true) regroup justified)
          (subst (λ (K : List Entry). is_held K e.level e.seed ≡ false) regroup fresh);
    })

pub legal-one_more : (g : Game) (H : List Entry) (e : Entry) → is_legal g H ≡ true → is_entry g e ≡ true → is_justified g H e ≡ true → is_held H e.level e.seed ≡ false → is_legal g (H ++ (e ∷ [])) ≡ true
legal-one_more g H e legal formed justified fresh = follow-one_more g [] H e legal formed justified fresh
