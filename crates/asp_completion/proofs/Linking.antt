-- The chains of rules that head atoms, as they grow by one link.
use Rattle.std.proofs.Common.{◌≡◌, ℕ, zero, suc, ◌+◌, ◌<◌, ◌≤◌, Bool, true, false, List, [], ◌∷◌, ◌++◌, length, get_or, set, take, drop, replicate, ◌==◌, refl, sym, ap, ◌∙◌, subst, inl, inr, arith}
use Rattle.std.proofs.lemmas.Bool.{cases_eq, cases_lt, eq-eqb, ne_eqb}
use Rattle.std.proofs.lemmas.List.{take_more, length-set, get_or-set_same, get_or-set_other, get_or-replicate, length-replicate, length-append, get_or_append_left}
use Rattle.std.proofs.Math.Seq.{get_or-append_seam, drop-cons, drop-length}
use Rattle.asp_defs.specs.declared.ground.GroundRule.{GroundRule}
use Rattle.asp_defs.specs.Lists.{IsIn}
use Rattle.asp_defs.specs.Interpretations.{holds}
use Rattle.asp_defs.proofs.Lists.{true_or_false, append_at, append_left, append_right}
use Rattle.asp_defs.proofs.Subsets.{true_is_not_false, holds_at, holds_from}
use Rattle.asp_completion.specs.declared.heads.Link.{Link}
use Rattle.asp_completion.specs.declared.heads.Chain.{Chain}
use Rattle.asp_completion.specs.Supporters.{times, supporters}
use Rattle.asp_completion.specs.Chains.{link_to, no_link, chain_from, no_chain, no_rule, walk, AreLinks, AreHeads, AreLower}
use Rattle.asp_completion.proofs.Saying.{in_more, in_before, in_last}

-- ---- how often an atom stands in a list

times-append : (xs ys : List ℕ) (a : ℕ) → times (xs ++ ys) a ≡ times xs a + times ys a
times-append [] ys a = omega arith
times-append (x ∷ xs) ys a = go (x == a) (times (xs ++ ys) a) (times xs a) (times ys a) (times-append xs ys a)
  where
    go : (t : Bool) (m n k : ℕ) → m ≡ n + k → (elim t [ true ↦ suc m | false ↦ m ]) ≡ (elim t [ true ↦ suc n | false ↦ n ]) + k
    go true m n k e = omega arith
    go false m n k e = e

times-same : (a : ℕ) → times (a ∷ []) a ≡ 1
times-same a = ap (λ (t : Bool). elim t [ true ↦ 1 | false ↦ 0 ]) (eq-eqb a a refl)

times-other : (p a : ℕ) → (a ≡ p → ⊥) → times (p ∷ []) a ≡ 0
times-other p a other = ap (λ (t : Bool). elim t [ true ↦ 1 | false ↦ 0 ]) (ne_eqb p a (λ e. other (sym e)))

times-more : (xs : List ℕ) (k d a : ℕ) → k < length xs → times (take (k + 1) xs) a ≡ times (take k xs) a + times (get_or xs k d ∷ []) a
times-more xs k d a h = ap (λ (ys : List ℕ). times ys a) (take_more xs k d h) ∙ times-append (take k xs) (get_or xs k d ∷ []) a

-- a member stands in a list at least once
times-some : (xs : List ℕ) (a : ℕ) → IsIn a xs → (n : ℕ) × (times xs a ≡ suc n)
times-some [] a i = absurd i
times-some (b ∷ bs) a i = elim (cases_eq b a) [
  | inl e ↦ (times bs a, ap (λ (t : Bool). elim t [ true ↦ suc (times bs a) | false ↦ times bs a ]) (eq-eqb b a e))
  | inr other ↦ elim i [
    | inl e ↦ absurd (other (sym e))
    | inr more ↦
        let found = times-some bs a more in
        (found.0, ap (λ (t : Bool). elim t [ true ↦ suc (times bs a) | false ↦ times bs a ]) (ne_eqb b a other) ∙ found.1)
  ]
]

-- ---- the rules that head an atom

replicate-at : {A : Type 0} (n : ℕ) (x y : A) → IsIn y (replicate n x) → y ≡ x
replicate-at zero x y i = absurd i
replicate-at (suc n) x y (inl e) = e
replicate-at (suc n) x y (inr i) = replicate-at n x y i

pub supporters-from : (rules : List GroundRule) (a : ℕ) (r : GroundRule) → IsIn r rules → IsIn a r.head → IsIn r (supporters rules a)
supporters-from [] a r i head = absurd i
supporters-from (q ∷ rs) a r (inl e) head =
    let found = times-some q.head a (subst (λ (s : GroundRule). IsIn a s.head) e head) in
    append_left (replicate (times q.head a) q) (supporters rs a) r
    (subst (λ (n : ℕ). IsIn r (replicate n q)) (sym found.1) (inl e))
supporters-from (q ∷ rs) a r (inr i) head =
    append_right (replicate (times q.head a) q) (supporters rs a) r (supporters-from rs a r i head)

pub supporters-at : (rules : List GroundRule) (a : ℕ) (r : GroundRule) → IsIn r (supporters rules a) → IsIn r rules
supporters-at [] a r i = absurd i
supporters-at (q ∷ rs) a r i = elim (append_at (replicate (times q.head a) q) (supporters rs a) r i) [
  | inl here ↦ inl (replicate-at (times q.head a) q r here)
  | inr more ↦ inr (supporters-at rs a r more)
]

-- ---- links

-- a walk isn't changed by a further link
walk-more : (rules : List GroundRule) (links : List Link) (x : Link) → AreLinks rules links → (n at : ℕ)
    → ((n ≡ 0 → ⊥) → at < length links) → walk rules (links ++ x ∷ []) n at ≡ walk rules links n at
walk-more rules links x are zero at inside = refl
walk-more rules links x are (suc n) at inside =
    let h : at < length links = inside (λ e. absurd (omega arith)) in
    let more : List Link = links ++ x ∷ [] in
    let e : get_or more at no_link ≡ get_or links at no_link = get_or_append_left links (x ∷ []) no_link at h in
    ap (λ (k : Link). get_or rules k.rule no_rule ∷ walk rules more n k.next) e
    ∙ ap (λ (t : List GroundRule). get_or rules (get_or links at no_link).rule no_rule ∷ t)
    (walk-more rules links x are n (get_or links at no_link).next (λ some. are.next at h))

-- a further link at the end
at_last : (n k : ℕ) → k < n + 1 → (k < n → ⊥) → k ≡ n
at_last n k h less = elim (cases_lt k n) [
  | inl low ↦ absurd (less low)
  | inr high ↦ omega arith
]

links-more : (rules : List GroundRule) (links : List Link) (x : Link) → AreLinks rules links → x.rule < length rules
    → x.next ≤ length links → AreLinks rules (links ++ x ∷ [])
links-more rules links x are fits low =
    let more : List Link = links ++ x ∷ [] in
    let size : length more ≡ length links + 1 = length-append links (x ∷ []) in
    let one : (P : Link → Type 0) (k : ℕ) → k < length more → (k < length links → P (get_or links k no_link)) → P x → P (get_or more k no_link) =
    λ P k h old new.
    elim (cases_lt k (length links)) [
      | inl less ↦ subst P (sym (get_or_append_left links (x ∷ []) no_link k less)) (old less)
      | inr high ↦
          let e : k ≡ length links = omega (arith, h, high, size) in
          subst P (sym (ap (λ (n : ℕ). get_or more n no_link) e ∙ get_or-append_seam links x [] no_link)) new
    ] in
    record {
      rule = λ k h. one (λ (y : Link). y.rule < length rules) k h (are.rule k) fits;
      next = λ k h.
          one (λ (y : Link). y.next < length more) k h (λ less. let b = are.next k less in omega (arith, b, size)) (omega (arith, low, size));
    }

-- ---- chains

-- the wanted rules by another name
pub heads-as : (rules : List GroundRule) (atoms : ℕ) (wanted other : ℕ → List GroundRule) (chains : List Chain) (links : List Link)
    → ((a : ℕ) → wanted a ≡ other a) → AreHeads rules atoms wanted chains links → AreHeads rules atoms other chains links
heads-as rules atoms wanted other chains links same heads = record {
  size = heads.size;
  linked = heads.linked;
  inside = heads.inside;
  some = heads.some;
  counted = heads.counted;
  along = λ a h. heads.along a h ∙ same a;
}

-- a rule was put before those of one atom's chain
module _ (rules : List GroundRule) (atoms : ℕ) (wanted other : ℕ → List GroundRule) (old new : List Chain) (links more : List Link) (a k : ℕ) where
  pub heads-step : AreHeads rules atoms wanted old links → a < atoms → k < length rules
      → more ≡ links ++ link_to k (get_or old a no_chain).link ∷ []
      → new ≡ set old a (chain_from ((get_or old a no_chain).count + 1) (length links))
      → other a ≡ get_or rules k no_rule ∷ wanted a → ((b : ℕ) → (b ≡ a → ⊥) → other b ≡ wanted b)
      → AreHeads rules atoms other new more
  heads-step heads below fits links_is chains_is here there =
      let was : Chain = get_or old a no_chain in
      let x : Link = link_to k was.link in
      let y : Chain = chain_from (was.count + 1) (length links) in
      let size : length more ≡ length links + 1 = ap length links_is ∙ length-append links (x ∷ []) in
      let full = heads.size in
      let same : get_or new a no_chain ≡ y = ap (λ (cs : List Chain). get_or cs a no_chain) chains_is ∙ get_or-set_same old a y no_chain (omega arith) in
      let rest : (b : ℕ) → (b ≡ a → ⊥) → get_or new b no_chain ≡ get_or old b no_chain = λ b apart.
      ap (λ (cs : List Chain). get_or cs b no_chain) chains_is ∙ get_or-set_other old a b y no_chain apart in
      let one : (P : ℕ → Chain → Type 0) (b : ℕ) → P a y → ((b ≡ a → ⊥) → P b (get_or old b no_chain)) → P b (get_or new b no_chain) =
      λ P b at_a at_b.
      elim (cases_eq b a) [
        | inl e ↦ subst (λ (n : ℕ). P n (get_or new n no_chain)) (sym e) (subst (P a) (sym same) at_a)
        | inr apart ↦ subst (P b) (sym (rest b apart)) (at_b apart)
      ] in
      let walks : (n at : ℕ) → ((n ≡ 0 → ⊥) → at < length links) → walk rules more n at ≡ walk rules links n at = λ n at inside.
      ap (λ (ls : List Link). walk rules ls n at) links_is ∙ walk-more rules links x heads.linked n at inside in
      let seam : get_or more (length links) no_link ≡ x =
      ap (λ (ls : List Link). get_or ls (length links) no_link) links_is ∙ get_or-append_seam links x [] no_link in
      record {
        size = ap length chains_is ∙ (length-set old a y ∙ heads.size);
        linked = subst (λ (ls : List Link). AreLinks rules ls) (sym links_is) (links-more rules links x heads.linked fits (heads.inside a below));
        inside = λ b h.
            one (λ n c. c.link ≤ length more) b (omega (arith, size)) (λ apart. let low = heads.inside b h in omega (arith, low, size));
        some = λ b h.
            one (λ n c. (c.count ≡ 0 → ⊥) → c.link < length more) b (λ some. omega (arith, size))
            (λ apart some. let low = heads.some b h some in omega (arith, low, size));
        counted = λ b h.
            one (λ n c. c.count ≤ length more) b (let low = heads.counted a below in omega (arith, low, size))
            (λ apart. let low = heads.counted b h in omega (arith, low, size));
        along = λ b h.
            one (λ n c. walk rules more c.count c.link ≡ other n) b
            (let longer : was.count + 1 ≡ suc was.count = omega arith in
            ap (λ (n : ℕ). walk rules more n (length links)) longer
            ∙ (ap (λ (l : Link). get_or rules l.rule no_rule ∷ walk rules more was.count l.next) seam
            ∙ (ap (λ (t : List GroundRule). get_or rules k no_rule ∷ t) (walks was.count was.link (heads.some a below) ∙ heads.along a below)
            ∙ sym here)))
            (λ apart.
            walks (get_or old b no_chain).count (get_or old b no_chain).link (heads.some b h) ∙ (heads.along b h ∙ sym (there b apart)));
      }

-- the rules behind a place, and that at the place as often as the first atoms of its head say
abbrev pub wanted_so_far : List GroundRule → ℕ → List ℕ → ℕ → List GroundRule
wanted_so_far rules place atoms a = replicate (times atoms a) (get_or rules place no_rule) ++ supporters (drop (place + 1) rules) a

-- one atom of the head more
wanted_here : (rules : List GroundRule) (place : ℕ) (heads : List ℕ) (j : ℕ) → j < length heads
    → wanted_so_far rules place (take (j + 1) heads) (get_or heads j 0)
    ≡ get_or rules place no_rule ∷ wanted_so_far rules place (take j heads) (get_or heads j 0)
wanted_here rules place heads j h =
    let a : ℕ = get_or heads j 0 in
    let r : GroundRule = get_or rules place no_rule in
    let n : ℕ = times (take j heads) a in
    let once = times-same a in
    let more = times-more heads j 0 a h in
    let e : times (take (j + 1) heads) a ≡ suc n = omega (arith, once, more) in
    ap (λ (m : ℕ). replicate m r ++ supporters (drop (place + 1) rules) a) e

wanted_there : (rules : List GroundRule) (place : ℕ) (heads : List ℕ) (j b : ℕ) → j < length heads → (b ≡ get_or heads j 0 → ⊥)
    → wanted_so_far rules place (take (j + 1) heads) b ≡ wanted_so_far rules place (take j heads) b
wanted_there rules place heads j b h apart =
    let none = times-other (get_or heads j 0) b apart in
    let more = times-more heads j 0 b h in
    let e : times (take (j + 1) heads) b ≡ times (take j heads) b = omega (arith, none, more) in
    ap (λ (m : ℕ). replicate m (get_or rules place no_rule) ++ supporters (drop (place + 1) rules) b) e

pub heads-more : (rules : List GroundRule) (atoms place : ℕ) (heads : List ℕ) (j : ℕ) (old new : List Chain) (links more : List Link)
    → j < length heads → AreHeads rules atoms (wanted_so_far rules place (take j heads)) old links → get_or heads j 0 < atoms
    → place < length rules → more ≡ links ++ link_to place (get_or old (get_or heads j 0) no_chain).link ∷ []
    → new ≡ set old (get_or heads j 0) (chain_from ((get_or old (get_or heads j 0) no_chain).count + 1) (length links))
    → AreHeads rules atoms (wanted_so_far rules place (take (j + 1) heads)) new more
heads-more rules atoms place heads j old new links more h before below fits links_is chains_is =
    heads-step rules atoms (wanted_so_far rules place (take j heads)) (wanted_so_far rules place (take (j + 1) heads)) old new links more
    (get_or heads j 0) place before below fits links_is chains_is (wanted_here rules place heads j h)
    (λ b apart. wanted_there rules place heads j b h apart)

-- all atoms of the head
pub heads-whole : (rules : List GroundRule) (atoms place : ℕ) (heads : List ℕ) (chains : List Chain) (links : List Link)
    → heads ≡ (get_or rules place no_rule).head → place < length rules
    → AreHeads rules atoms (wanted_so_far rules place heads) chains links → AreHeads rules atoms (supporters (drop place rules)) chains links
heads-whole rules atoms place heads chains links is fits before =
    let next : suc place ≡ place + 1 = omega arith in
    let e : drop place rules ≡ get_or rules place no_rule ∷ drop (place + 1) rules =
    drop-cons rules place no_rule fits ∙ ap (λ (n : ℕ). get_or rules place no_rule ∷ drop n rules) next in
    heads-as rules atoms (wanted_so_far rules place heads) (supporters (drop place rules)) chains links
    (λ a.
    ap (λ (hs : List ℕ). replicate (times hs a) (get_or rules place no_rule) ++ supporters (drop (place + 1) rules) a) is
    ∙ sym (ap (λ (rs : List GroundRule). supporters rs a) e))
    before

-- no rule yet
pub heads-none : (rules : List GroundRule) (atoms : ℕ) (chains : List Chain) (links : List Link) → chains ≡ replicate atoms no_chain → links ≡ []
    → AreHeads rules atoms (supporters (drop (length rules) rules)) chains links
heads-none rules atoms chains links are none =
    let no_links : length links ≡ 0 = ap length none in
    let at : (a : ℕ) → a < atoms → get_or chains a no_chain ≡ no_chain = λ a h.
    ap (λ (cs : List Chain). get_or cs a no_chain) are ∙ get_or-replicate atoms a no_chain no_chain h in
    record {
      size = ap length are ∙ length-replicate atoms no_chain;
      linked = record {
        rule = λ k h. absurd (omega (arith, h, no_links));
        next = λ k h. absurd (omega (arith, h, no_links));
      };
      inside = λ a h. let e = ap (λ (c : Chain). c.link) (at a h) in omega (arith, e);
      some = λ a h some. absurd (some (ap (λ (c : Chain). c.count) (at a h)));
      counted = λ a h. let e = ap (λ (c : Chain). c.count) (at a h) in omega (arith, e);
      along = λ a h.
          ap (λ (c : Chain). walk rules links c.count c.link) (at a h)
          ∙ sym (ap (λ (rs : List GroundRule). supporters rs a) (drop-length rules));
    }

-- the walk along a chain has as many rules as it has links
pub walk-length : (rules : List GroundRule) (links : List Link) (n at : ℕ) → length (walk rules links n at) ≡ n
walk-length rules links zero at = refl
walk-length rules links (suc n) at = ap suc (walk-length rules links n (get_or links at no_link).next)

-- ---- the table of the base below

pub lower-none : (atoms : ℕ) (table : List Bool) → table ≡ replicate atoms false → AreLower [] atoms table
lower-none atoms table is = record {
  size = ap length is ∙ length-replicate atoms false;
  there = λ a i. absurd i;
  rest = λ a h out. ap (λ (t : List Bool). get_or t a false) is ∙ get_or-replicate atoms a false false h;
}

pub lower-step : (L : List ℕ) (table : List Bool) (atoms k d : ℕ) → k < length L → get_or L k d < atoms → AreLower (take k L) atoms table
    → AreLower (take (k + 1) L) atoms (set table (get_or L k d) true)
lower-step L table atoms k d h fits before =
    let p : ℕ = get_or L k d in
    let size = before.size in
    record {
      size = length-set table p true ∙ before.size;
      there = λ a i.
          elim (cases_eq a p) [
            | inl here ↦ ap (λ n. get_or (set table p true) n false) here ∙ get_or-set_same table p true false (omega arith)
            | inr other ↦ get_or-set_other table p a true false other ∙ elim (in_more L k d a h i) [
              | inl low ↦ before.there a low
              | inr e ↦ absurd (other e)
            ]
          ];
      rest = λ a h2 out.
          elim (cases_eq a p) [
            | inl here ↦ absurd (out (subst (λ (x : ℕ). IsIn x (take (k + 1) L)) (sym here) (in_last L k d h)))
            | inr other ↦ get_or-set_other table p a true false other ∙ before.rest a h2 (λ i. out (in_before L k d a h i))
          ];
    }

-- what is read of the table
pub lower-true : (L : List ℕ) (table : List Bool) (atoms a : ℕ) → AreLower L atoms table → a < atoms → get_or table a false ≡ true → holds L a ≡ true
lower-true L table atoms a lower fits e = elim (true_or_false (holds L a)) [
  | inl low ↦ low
  | inr out ↦
      absurd (true_is_not_false (get_or table a false) e
      (lower.rest a fits (λ i. true_is_not_false (holds L a) (holds_from L a i) out)))
]

pub lower-false : (L : List ℕ) (table : List Bool) (atoms a : ℕ) → AreLower L atoms table → get_or table a false ≡ false → holds L a ≡ false
lower-false L table atoms a lower e = elim (true_or_false (holds L a)) [
  | inl low ↦ absurd (true_is_not_false (get_or table a false) (lower.there a (holds_at L a low)) e)
  | inr out ↦ out
]
