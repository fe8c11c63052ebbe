-- Derivations of logs: one that isn't ended, and one with a line that is none.
use Rattle.std.proofs.Common.{ℕ, zero, suc, ◌≡◌, refl, sym, ◌∙◌, ap, inl, inr, Bool, true, false, List, [], ◌∷◌, ◌++◌, drop, get_or, codes, append_assoc, arith}
use Rattle.std.proofs.lemmas.Bool.{leb-true}
use Rattle.std.specs.Prelude.{◌==◌, length, map, ◌&&◌, nat_le, decimal}
use Rattle.std.specs.List.{list_all}
use Rattle.std.specs.Fmt.{digits}
use Rattle.asp_defs.specs.Entries.{Entry}
use Rattle.asp_defs.specs.Lists.{is_empty}
use Rattle.asp_defs.specs.LogText.{IsLogOf, BeginsLog, IsBadLine, IsUnendedLog, entry_line, log_header, log_last, may_stand, verdict_text, cube_text}
use Rattle.asp_defs.specs.Sets.{set_text}
use Rattle.asp_defs.specs.TextExamples as texts
use Rattle.asp_defs.proofs.TextRefutations.{clash}

pub a_log : IsLogOf texts.no_bases (codes "ASPQ-LOG 2\n2 T [] {}\n1 T [] {}\nLOG 2\n") texts.two_entries
unfolding digits
a_log = (refl, refl)

pub unended : IsUnendedLog texts.no_bases (codes "ASPQ-LOG 2\n2 T [] {}\n1 T [] {}\n")
unfolding digits
unended = inr (texts.two_entries, refl, refl)

-- the byte of a text at a place, and 0 past the end
abbrev byte_at : ℕ → List ℕ → ℕ
byte_at k text = get_or text k 0

-- the third line of lines
abbrev third : List (List ℕ) → List ℕ
third lines = get_or lines 2 []

abbrev bad : List ℕ
bad = codes "1 X [] {}\n"

abbrev second : List ℕ
second = codes "2 T [] {}\n"

left : (b c : Bool) → (b && c) ≡ true → b ≡ true
left true c h = refl
left false c h = h

right : (b c : Bool) → (b && c) ≡ true → c ≡ true
right true c h = h
right false c h = clash h

-- no line of an entry of level 1 or 2 has an `X` at its verdict's place
differs : (level : ℕ) (v : Bool) (tail : List ℕ) → (nat_le 1 level && nat_le level 2) ≡ true → bad ≡ decimal level ++ codes " " ++ verdict_text v ++ tail → ⊥
unfolding digits
differs zero v tail h e = clash h
differs (suc zero) true tail h e = clash (sym (ap (λ t. byte_at 2 t == 88) e))
differs (suc zero) false tail h e = clash (sym (ap (λ t. byte_at 2 t == 88) e))
differs (suc (suc zero)) v tail h e = clash (sym (ap (λ t. byte_at 0 t == 49) e))
differs (suc (suc (suc n))) v tail h e =
    let small = leb-true (suc (suc (suc n))) 2 (right (nat_le 1 (suc (suc (suc n)))) _ h) in omega arith

regroup : (a p q r s : List ℕ) → a ++ p ++ q ++ r ++ s ≡ a ++ (p ++ (q ++ (r ++ s)))
regroup a p q r s = append_assoc (a ++ p ++ q) r s ∙ append_assoc (a ++ p) q (r ++ s) ∙ append_assoc a p (q ++ (r ++ s))

-- how an entry's line goes on behind its verdict
abbrev behind_verdict : Entry → List ℕ
behind_verdict x =
    codes " " ++ (cube_text texts.no_bases x.cube ++ (codes " " ++ (set_text texts.no_bases x.seed ++ 10 ∷ [])))

line_begins : (x : Entry) → entry_line texts.no_bases x ≡ decimal x.level ++ codes " " ++ verdict_text x.verdict ++ behind_verdict x
line_begins x =
    append_assoc (decimal x.level ++ codes " " ++ verdict_text x.verdict ++ codes " " ++ cube_text texts.no_bases x.cube ++ codes " ") (set_text texts.no_bases x.seed) (10 ∷ [])
    ∙ regroup (decimal x.level ++ codes " " ++ verdict_text x.verdict) (codes " ") (cube_text texts.no_bases x.cube) (codes " ") (set_text texts.no_bases x.seed ++ 10 ∷ [])

entry_differs : (x : Entry) → may_stand texts.no_bases x ≡ true → bad ≡ entry_line texts.no_bases x → ⊥
entry_differs x ok e = differs x.level x.verdict (behind_verdict x) (left _ _ ok) (e ∙ line_begins x)

open_differs : (entries : List Entry) → list_all (may_stand texts.no_bases) entries ≡ true → (log_header ∷ second ∷ bad ∷ [] ≡ log_header ∷ map (entry_line texts.no_bases) entries) → ⊥
open_differs [] ok e = clash (ap (λ ls. is_empty (drop 1 ls)) e)
open_differs (x ∷ []) ok e = clash (ap (λ ls. is_empty (drop 2 ls)) e)
open_differs (x ∷ y ∷ entries) ok e = entry_differs y (left _ _ (right (may_stand texts.no_bases x) _ ok)) (ap third e)

closed_differs : (entries : List Entry) → list_all (may_stand texts.no_bases) entries ≡ true → (log_header ∷ second ∷ bad ∷ [] ≡ log_header ∷ (map (entry_line texts.no_bases) entries ++ log_last (length entries) ∷ [])) → ⊥
closed_differs [] ok e = clash (ap (λ ls. is_empty (drop 2 ls)) e)
closed_differs (x ∷ []) ok e = clash (sym (ap (λ ls. byte_at 0 (third ls) == 49) e))
closed_differs (x ∷ y ∷ entries) ok e = entry_differs y (left _ _ (right (may_stand texts.no_bases x) _ ok)) (ap third e)

begins_none : BeginsLog texts.no_bases (log_header ∷ second ∷ bad ∷ []) → ⊥
begins_none (inl e) = clash (ap is_empty e)
begins_none (inr (inl (entries, ok, e))) = open_differs entries ok e
begins_none (inr (inr (entries, ok, e))) = closed_differs entries ok e

pub bad_line : IsBadLine texts.no_bases (codes "ASPQ-LOG 2\n2 T [] {}\n1 X [] {}\nLOG 2\n") 3
unfolding digits
bad_line = (
  log_header ∷ second ∷ [],
  bad,
  _ ∷ [],
  refl,
  refl,
  inr (inl (record { level = 2; cube = []; verdict = true; seed = [] } ∷ [], refl, refl)),
  begins_none,
)

-- the first line of another version
abbrev older : List ℕ
older = codes "ASPQ-LOG 1\n"

abbrev first : List (List ℕ) → List ℕ
first lines = get_or lines 0 []

older_begins_none : BeginsLog texts.no_bases (older ∷ []) → ⊥
older_begins_none (inl e) = clash (ap is_empty e)
older_begins_none (inr (inl (entries, ok, e))) = clash (sym (ap (λ ls. byte_at 9 (first ls) == 49) e))
older_begins_none (inr (inr (entries, ok, e))) = clash (sym (ap (λ ls. byte_at 9 (first ls) == 49) e))

pub other_version : IsBadLine texts.no_bases (codes "ASPQ-LOG 1\nLOG 0\n") 1
unfolding digits
other_version = ([], older, _ ∷ [], refl, refl, inl refl, older_begins_none)
