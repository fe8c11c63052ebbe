-- Texts in a row, and what stands before each of them.
use Rattle.std.proofs.Common.{ℕ, suc, ◌≡◌, ◌+◌, ◌-◌, ◌<◌, ◌≤◌, refl, sym, ◌∙◌, ap, subst, inl, inr, ◌⊎◌, Bool, true, false, arith, IsTrue, ◌↔◌, List, [], ◌∷◌, ◌++◌, length, take, drop, get_or, codes, append_assoc, Option, Some, None, option_copied, MatchOption, drop-cons}
use Rattle.std.proofs.lemmas.List.{length-append, take-append-drop, drop_at}
use Rattle.std.specs.Prelude.{nat_eq}
use Rattle.std.specs.List.{flat_map, join_by}
use Rattle.std.specs.Cmp.Lexicographic.{pointwise}
use Rattle.std.proofs.lemmas.Grind.{flat_map-append}
use Rattle.std.proofs.Math.Seq.{take-length}
use Rattle.asp_defs.specs.declared.ground.Const.{Const}
use Rattle.asp_defs.specs.Canonical.{applied_text}
use Rattle.asp_defs.specs.Sets.{const_text}
use Rattle.asp_defs.proofs.Subsets.{true_is_not_false}
use Rattle.asp_sets.specs.Ends.{IsBefore}
use denote.Ref.{Bor}
use lib.Pointwise.{bytes_decides}

-- ---- lists in a row

pub head_same : (x y : ℕ) (xs ys : List ℕ) → x ∷ xs ≡ y ∷ ys → x ≡ y
head_same x y xs ys e = ap (λ (l : List ℕ). get_or l 0 x) e

pub tail_same : (x y : ℕ) (xs ys : List ℕ) → x ∷ xs ≡ y ∷ ys → xs ≡ ys
tail_same x y xs ys e = ap (λ (l : List ℕ). drop 1 l) e

pub not_nil : (x : ℕ) (xs : List ℕ) → x ∷ xs ≡ [] → ⊥
not_nil x xs e = let long = ap length e in absurd (omega (arith, long))

pub cancel_left : (s xs ys : List ℕ) → s ++ xs ≡ s ++ ys → xs ≡ ys
cancel_left [] xs ys e = e
cancel_left (x ∷ s) xs ys e = cancel_left s xs ys (tail_same x x (s ++ xs) (s ++ ys) e)

pub cancel_right : (xs ys s : List ℕ) → xs ++ s ≡ ys ++ s → xs ≡ ys
cancel_right [] [] s e = refl
cancel_right [] (y ∷ ys) s e = let long = ap length e in let more = length-append ys s in absurd (omega (arith, long, more))
cancel_right (x ∷ xs) [] s e = let long = ap length e in let more = length-append xs s in absurd (omega (arith, long, more))
cancel_right (x ∷ xs) (y ∷ ys) s e =
    ap (λ b. b ∷ xs) (head_same x y (xs ++ s) (ys ++ s) e) ∙ ap (λ l. y ∷ l) (cancel_right xs ys s (tail_same x y (xs ++ s) (ys ++ s) e))

-- two ways to cut a list: the first cut lies behind the second one, or before it
pub two_cuts : (a b c d : List ℕ) → a ++ b ≡ c ++ d
    → ((w : List ℕ) × (a ≡ c ++ w) × (w ++ b ≡ d)) ⊎ ((w : List ℕ) × (c ≡ a ++ w) × (b ≡ w ++ d))
two_cuts [] b c d e = inr (c, refl, e)
two_cuts (x ∷ a) b [] d e = inl (x ∷ a, refl, e)
two_cuts (x ∷ a) b (y ∷ c) d e =
    let same : x ≡ y = head_same x y (a ++ b) (c ++ d) e in
    elim (two_cuts a b c d (tail_same x y (a ++ b) (c ++ d) e)) [
      | inl (w, f, g) ↦ inl (w, ap (λ z. z ∷ a) same ∙ ap (λ l. y ∷ l) f, g)
      | inr (w, f, g) ↦ inr (w, ap (λ z. z ∷ c) (sym same) ∙ ap (λ l. x ∷ l) f, g)
    ]

-- ---- what stands before an end

-- what std's function answers
pub stripped : (text end : List ℕ) (result : Option (Bor (List ℕ)))
    → MatchOption result (pointwise nat_eq (drop (length text - length end) text) end ≡ false)
    (λ x. (pointwise nat_eq (drop (length text - length end) text) end ≡ true) × (x.now ≡ take (length text - length end) text) × (length x.now + length end ≡ length text))
    → IsBefore text end (option_copied result)
stripped text end (Some x) h =
    ap (λ l. l ++ end) h.1 ∙ ap (λ l. take (length text - length end) text ++ l) (sym ((bytes_decides (drop (length text - length end) text) end).0 h.0))
    ∙ take-append-drop (length text - length end) text
stripped text end None h = λ before e.
    let long = length-append before end in
    let whole = ap length e in
    let at : length text - length end ≡ length before = omega (arith, long, whole) in
    let last : drop (length text - length end) text ≡ end = ap (drop (length text - length end)) (sym e) ∙ drop_at before end (length text - length end) (sym at) in
    let holds : pointwise nat_eq (drop (length text - length end) text) end ≡ true = (bytes_decides (drop (length text - length end) text) end).1 last in
    cc

-- an end of two parts
pub before_both : (text first second mid : List ℕ) (result : Option (List ℕ)) → mid ++ second ≡ text → IsBefore mid first result → IsBefore text (first ++ second) result
before_both text first second mid (Some before) e h = sym (append_assoc before first second) ∙ ap (λ l. l ++ second) h ∙ e
before_both text first second mid None e h = λ before f.
    h before (cancel_right (before ++ first) mid second (append_assoc before first second ∙ f ∙ sym e))

pub before_none : (text first second : List ℕ) → ((before : List ℕ) → before ++ second ≡ text → ⊥) → IsBefore text (first ++ second) None
before_none text first second h = λ before e. h (before ++ first) (append_assoc before first second ∙ e)

-- what fails to stand at the end of a text, with something in front of it
pub none_left : (text first second : List ℕ) (result : Option (Bor (List ℕ))) → result ≡ None → ((before : List ℕ) → before ++ second ≡ text → ⊥)
    → IsBefore text (first ++ second) (option_copied result)
none_left text first second result none h =
    subst (λ (o : Option (Bor (List ℕ))). IsBefore text (first ++ second) (option_copied o)) (sym none) (before_none text first second h)

-- the same of a middle part, where the end stands there
pub middle_none : (text first second third mid : List ℕ) (result : Option (Bor (List ℕ))) → mid ++ third ≡ text → ((before : List ℕ) → before ++ second ≡ mid → ⊥) → result ≡ None
    → IsBefore text (first ++ second ++ third) (option_copied result)
middle_none text first second third mid result e h none =
    subst (λ (o : Option (Bor (List ℕ))). IsBefore text (first ++ second ++ third) (option_copied o)) (sym none)
    (before_both text (first ++ second) third mid None e (before_none mid first second h))

-- ---- parts in a row, the last one first

pub each_none : {A : Type 0} (f : A → List ℕ) (xs : List A) (text left : List ℕ) (at : ℕ) (x : A) (result : Option (Bor (List ℕ))) → 0 < at → at ≤ length xs → x ≡ get_or xs (at - 1) x
    → left ++ flat_map f (drop at xs) ≡ text → ((before : List ℕ) → before ++ f x ≡ left → ⊥) → result ≡ None → IsBefore text (flat_map f xs) (option_copied result)
each_none {A} f xs text left at x result some inside is h fails none =
    subst (λ (o : Option (Bor (List ℕ))). IsBefore text (flat_map f xs) (option_copied o)) (sym none) (λ before e.
    let place : ℕ = at - 1 in
    let there : place < length xs = omega (arith, some, inside) in
    let next : suc place ≡ at = omega (arith, some) in
    let behind : List ℕ = flat_map f (drop at xs) in
    let rest : drop place xs ≡ x ∷ drop at xs =
    drop-cons xs place x there ∙ ap (λ (y : A). y ∷ drop (suc place) xs) (sym is) ∙ ap (λ n. x ∷ drop n xs) next in
    let cut : flat_map f xs ≡ flat_map f (take place xs) ++ (f x ++ behind) =
    ap (flat_map f) (sym (take-append-drop place xs)) ∙ flat_map-append f (take place xs) (drop place xs)
    ∙ ap (λ l. flat_map f (take place xs) ++ flat_map f l) rest in
    let whole : ((before ++ flat_map f (take place xs)) ++ f x) ++ behind ≡ left ++ behind =
    append_assoc (before ++ flat_map f (take place xs)) (f x) behind ∙ append_assoc before (flat_map f (take place xs)) (f x ++ behind)
    ∙ ap (λ l. before ++ l) (sym cut) ∙ e ∙ sym h in
    fails (before ++ flat_map f (take place xs)) (cancel_right ((before ++ flat_map f (take place xs)) ++ f x) left behind whole))

-- a first constant and further ones, where the further ones are those of a pattern
pub joined_is : {A : Type 0} (f : A → List ℕ) (sep : List ℕ) (xs : List A) (x : A) → 1 ≤ length xs → x ≡ get_or xs 0 x
    → f x ++ flat_map (λ y. sep ++ f y) (take (length xs - 1) (drop 1 xs)) ≡ join_by f sep xs
joined_is f sep [] x some is = absurd (omega arith)
joined_is f sep (y ∷ ys) x some is =
    let same : length (y ∷ ys) - 1 ≡ length ys = omega arith in
    ap (λ zs. f x ++ flat_map (λ z. sep ++ f z) zs) (ap (λ n. take n ys) same ∙ take-length ys) ∙ ap (λ z. f z ++ flat_map (λ z. sep ++ f z) ys) is

-- a text without arguments, and one with some
pub applied_none : {A : Type 0} (f : A → List ℕ) (name : List ℕ) (xs : List A) → xs ≡ [] → name ≡ applied_text f name xs
applied_none f name xs none = ap (λ ys. applied_text f name ys) (sym none)

pub applied_some : {A : Type 0} (f : A → List ℕ) (name : List ℕ) (xs : List A) → (xs ≡ [] → ⊥) → name ++ (codes "(" ++ join_by f (codes ",") xs ++ codes ")") ≡ applied_text f name xs
applied_some f name [] some = absurd (some refl)
applied_some f name (x ∷ xs) some =
    sym (append_assoc name (codes "(" ++ join_by f (codes ",") (x ∷ xs)) (codes ")")) ∙ ap (λ l. l ++ codes ")") (sym (append_assoc name (codes "(") (join_by f (codes ",") (x ∷ xs))))

-- what a test for arguments says
pub truly : {A : Type 0} (b : Bool) (x y : A) → IsTrue b ↔ (x ≡ y) → b ≡ true → x ≡ y
truly b x y same holds = same.0 holds

pub untrue : {A : Type 0} (b : Bool) (x y : A) → IsTrue b ↔ (x ≡ y) → b ≡ false → x ≡ y → ⊥
untrue b x y same fails is = true_is_not_false b (same.1 is) fails

-- constants in parentheses, with commas between them
abbrev pub enclosed : List Const → List ℕ
enclosed args = codes "(" ++ join_by const_text (codes ",") args ++ codes ")"

-- what isn't before some arguments isn't before the same
pub named : (f : List Const → List ℕ → List ℕ) (text : List ℕ) (args others : List Const) → args ≡ others
    → ((before : List ℕ) → f args before ≡ text → ⊥) → (before : List ℕ) → f others before ≡ text → ⊥
named f text args others e h before is = h before (ap (λ (l : List Const). f l before) e ∙ is)

pub as_end : (text end other : List ℕ) (result : Option (Bor (List ℕ))) → end ≡ other → IsBefore text end (option_copied result) → IsBefore text other (option_copied result)
as_end text end other result e h = subst (λ l. IsBefore text l (option_copied result)) e h
