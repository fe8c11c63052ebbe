-- Why a rule doesn't support a set, and the clause of all such reasons.
use Rattle.std.proofs.Common.{ℕ, ◌+◌, ◌<◌, ◌≤◌, ◌≡◌, refl, sym, ◌∙◌, ap, subst, inl, inr, Bool, true, false, not, ◌&&◌, ◌||◌, cond, ◌⊎◌, None, Some, List, [], ◌∷◌, ◌++◌, Option, length, get_or, replicate, map, take, append_assoc, arith}
use Rattle.std.specs.Prelude.{MatchOption}
use Rattle.std.specs.List.{list_any, list_all, filter, find}
use Rattle.std.proofs.lemmas.Bool.{cases_lt, and_from, and_parts}
use Rattle.std.proofs.lemmas.List.{get_or_past, get_or-replicate, length-replicate, append-nil, take_more, take_all}
use Rattle.std.proofs.lemmas.List.Folds.{list_all-append, list_all-map}
use Rattle.asp_bits.specs.Places.{true_places}
use Rattle.asp_reduct.proofs.Truths.{holds-true_places}
use Rattle.asp_reduct.proofs.Finding.{found_at, none_found, all_pass}
use Rattle.asp_defs.specs.declared.ground.GroundRule.{GroundRule}
use Rattle.asp_defs.specs.declared.ground.Lit.{Lit}
use Rattle.asp_defs.specs.Lists.{IsIn, is_empty}
use Rattle.asp_defs.specs.Interpretations.{holds}
use Rattle.asp_defs.specs.Entries.{lit_true}
use Rattle.asp_defs.specs.Games.{rule_atoms, within}
use Rattle.asp_defs.specs.AnswerSets.{is_answer_set}
use Rattle.asp_defs.specs.Unfounded.{supports, is_unfounded}
use Rattle.asp_defs.proofs.Lists.{both, and_true, or_left, or_right, true_or_false, not_true, not_false, all_at, all_from, any_at, any_from, filter_at, filter_from, append_at, append_left, append_right}
use Rattle.asp_defs.proofs.Subsets.{true_is_not_false, holds_at, holds_from}
use Rattle.asp_defs.proofs.FoundedLaws.{Support, supports_at, supports_from, closed_at}
use Rattle.asp_minimal.specs.Choices.{with_choices, is_apart}
use Rattle.asp_minimal.specs.Numbers.{written}
use Rattle.asp_minimal.specs.Nogoods.{is_false, is_true, stands_in, denied, is_outer_true, IsNogood, IsAtomNogood, Blocks, BlocksAll, IsReason, IsOuterReason, IsChosen, IsOpen}
use Rattle.asp_minimal.proofs.Choosing.{false_from, support-same, some_member, not_empty, refuted}
use Rattle.asp_minimal.proofs.Places.{written-at, length-written, read_member}

-- ---- one rule

-- the atoms of a rule
pub pos_atom : (r : GroundRule) (a : ℕ) → IsIn a r.pos → holds (rule_atoms r) a ≡ true
pos_atom r a i = holds_from (rule_atoms r) a (append_right r.head (r.pos ++ r.neg) a (append_left r.pos r.neg a i))

pub neg_atom : (r : GroundRule) (a : ℕ) → IsIn a r.neg → holds (rule_atoms r) a ≡ true
neg_atom r a i = holds_from (rule_atoms r) a (append_right r.head (r.pos ++ r.neg) a (append_right r.pos r.neg a i))

pub head_atom : (r : GroundRule) (a : ℕ) → IsIn a r.head → holds (rule_atoms r) a ≡ true
head_atom r a i = holds_from (rule_atoms r) a (append_left r.head (r.pos ++ r.neg) a i)

unsupported : (N U : List ℕ) (r : GroundRule) → (Support N U r → ⊥) → supports N U r ≡ false
unsupported N U r h = false_from (supports N U r) (λ s. h (supports_at N U r s))

-- a literal that an atom is false, where that is false
denied_false : (b : Bool) → not b ≡ false → b ≡ true
denied_false true h = refl
denied_false false h = absurd (cc)

-- a false atom of the positive body
pub reason_pos : (I U : List ℕ) (r : GroundRule) (a : ℕ) → IsIn a r.pos → holds I a ≡ false → IsReason I U r (record { atom = a; positive = true })
reason_pos I U r a i h = record {
  false_here = h;
  atom = pos_atom r a i;
  blocks = λ N f. unsupported N U r (λ s. true_is_not_false _ (all_at (holds N) r.pos a s.pos i) f);
}

-- a true atom of the negative body
pub reason_neg : (I U : List ℕ) (r : GroundRule) (a : ℕ) → IsIn a r.neg → holds I a ≡ true → IsReason I U r (record { atom = a; positive = false })
reason_neg I U r a i h = record {
  false_here = ap not h;
  atom = neg_atom r a i;
  blocks = λ N f.
      unsupported N U r (λ s.
      true_is_not_false _ (denied_false _ f) (not_true _ (all_at (λ b. not (holds N b)) r.neg a s.neg i)));
}

-- a true atom of the head outside the set
pub reason_head : (I U : List ℕ) (r : GroundRule) (a : ℕ) → IsIn a r.head → holds I a ≡ true → holds U a ≡ false → IsReason I U r (record { atom = a; positive = false })
reason_head I U r a i h outside = record {
  false_here = ap not h;
  atom = head_atom r a i;
  blocks = λ N f. unsupported N U r (λ s. true_is_not_false _ (closed_at N U r a s.closed i (denied_false _ f)) outside);
}

-- the same of atoms that are read as a slice
pub reason_in_pos : (I U : List ℕ) (r : GroundRule) (atoms : List ℕ) (a : ℕ) → atoms ≡ r.pos → Some a ≡ find (λ b. not (holds I b)) atoms → IsReason I U r (record { atom = a; positive = true })
reason_in_pos I U r atoms a e h =
    let found = found_at (λ b. not (holds I b)) atoms a h in
    reason_pos I U r a (subst (λ (xs : List ℕ). IsIn a xs) e found.0) (not_true (holds I a) found.1)

pub reason_in_neg : (I U : List ℕ) (r : GroundRule) (atoms : List ℕ) (a : ℕ) → atoms ≡ r.neg → Some a ≡ find (holds I) atoms → IsReason I U r (record { atom = a; positive = false })
reason_in_neg I U r atoms a e h =
    let found = found_at (holds I) atoms a h in
    reason_neg I U r a (subst (λ (xs : List ℕ). IsIn a xs) e found.0) found.1

pub reason_in_head : (I U : List ℕ) (r : GroundRule) (atoms : List ℕ) (a : ℕ) → atoms ≡ r.head → IsIn a atoms × (holds I a ≡ true) × (holds U a ≡ false) → IsReason I U r (record { atom = a; positive = false })
reason_in_head I U r atoms a e h = reason_head I U r a (subst (λ (xs : List ℕ). IsIn a xs) e h.0) h.1 h.2

-- a rule of which no such atom was found
pub open_without : (I U : List ℕ) (r : GroundRule) (pos neg head : List ℕ) → pos ≡ r.pos → neg ≡ r.neg → head ≡ r.head → None ≡ find (λ b. not (holds I b)) pos → None ≡ find (holds I) neg → list_all (λ a. not (holds I a && not (holds U a))) head ≡ true → IsOpen I U r
open_without I U r pos neg head pos_is neg_is head_is no_false no_true closed = record {
  body =
      and_true (list_all (holds I) r.pos) (list_all (λ a. not (holds I a)) r.neg)
      (subst (λ (xs : List ℕ). list_all (holds I) xs ≡ true) pos_is (all_pass (holds I) pos no_false))
      (subst (λ (xs : List ℕ). list_all (λ a. not (holds I a)) xs ≡ true) neg_is (none_found (holds I) neg no_true));
  closed = subst (λ (xs : List ℕ). list_all (λ a. not (holds I a && not (holds U a))) xs ≡ true) head_is closed;
}

-- another rule supports it nowhere
pub unconcerned : (N U : List ℕ) (r : GroundRule) → list_any (holds U) r.head && not (list_any (holds U) r.pos) ≡ false → supports N U r ≡ false
unconcerned N U r h = unsupported N U r (λ s.
    true_is_not_false _
    (and_true (list_any (holds U) r.head) (not (list_any (holds U) r.pos)) s.head
    (not_false _ (false_from (list_any (holds U) r.pos) (λ e.
    let found = any_at (holds U) r.pos e
    in true_is_not_false _ found.2 (not_true _ (all_at (λ a. not (holds U a)) r.pos found.0 s.free found.1))))))
    h)

-- a false literal of an outer atom of the body
pub outer_in_pos : (I O : List ℕ) (r : GroundRule) (atoms : List ℕ) (a : ℕ) → atoms ≡ r.pos → IsIn a atoms × (holds O a ≡ true) × (holds I a ≡ false) → IsOuterReason I O r (record { atom = a; positive = true })
outer_in_pos I O r atoms a e h = record {
  outer = h.1;
  reason = λ U. reason_pos I U r a (subst (λ (xs : List ℕ). IsIn a xs) e h.0) h.2;
}

pub outer_in_neg : (I O : List ℕ) (r : GroundRule) (atoms : List ℕ) (a : ℕ) → atoms ≡ r.neg → IsIn a atoms × (holds O a ≡ true) × (holds I a ≡ true) → IsOuterReason I O r (record { atom = a; positive = false })
outer_in_neg I O r atoms a e h = record {
  outer = h.1;
  reason = λ U. reason_neg I U r a (subst (λ (xs : List ℕ). IsIn a xs) e h.0) h.2;
}

-- no such literal was found
pub outer_true_without : (I O : List ℕ) (r : GroundRule) (pos neg : List ℕ) → pos ≡ r.pos → neg ≡ r.neg
    → list_all (λ a. not (holds O a && not (holds I a))) pos ≡ true → list_all (λ a. not (holds O a && holds I a)) neg ≡ true → is_outer_true I O r ≡ true
outer_true_without I O r pos neg pos_is neg_is no_false no_true =
    and_true (list_all (λ a. not (holds O a && not (holds I a))) r.pos) (list_all (λ a. not (holds O a && holds I a)) r.neg)
    (subst (λ (xs : List ℕ). list_all (λ a. not (holds O a && not (holds I a))) xs ≡ true) pos_is no_false)
    (subst (λ (xs : List ℕ). list_all (λ a. not (holds O a && holds I a)) xs ≡ true) neg_is no_true)

-- such a literal is chosen, and where there is none, any reason
pub chosen_outer : (I U O : List ℕ) (r : GroundRule) (l : Lit) → IsOuterReason I O r l → IsChosen I U O r l
chosen_outer I U O r l h = record {
  reason = h.reason U;
  outer_first = λ e. absurd (true_is_not_false _ h.outer e);
}

pub chosen_other : (I U O : List ℕ) (r : GroundRule) (o : Option Lit) → is_outer_true I O r ≡ true
    → MatchOption o (IsOpen I U r) (IsReason I U r) → MatchOption o (IsOpen I U r) (IsChosen I U O r)
chosen_other I U O r None h found = found
chosen_other I U O r (Some l) h found = record { reason = found; outer_first = λ e. h }

-- nothing is added for a rule that never supports the set
pub blocks_nothing : (I U O : List ℕ) (r : GroundRule) (clause : List Lit) → list_any (holds U) r.head && not (list_any (holds U) r.pos) ≡ false → Blocks I U O r clause clause
blocks_nothing I U O r clause h = record {
  more = [];
  grown = sym (append-nil clause);
  because = λ l i. absurd i;
  blocked = λ N f. unconcerned N U r h;
}

-- else one reason
pub blocks_one : (I U O : List ℕ) (r : GroundRule) (clause : List Lit) (l : Lit) → IsChosen I U O r l → Blocks I U O r clause (clause ++ l ∷ [])
blocks_one I U O r clause l h = record {
  more = l ∷ [];
  grown = refl;
  because = λ m i. elim i [ inl e ↦ subst (λ (x : Lit). IsChosen I U O r x) (sym e) h | inr none ↦ absurd none ];
  blocked = λ N f. h.reason.blocks N (not_true (lit_true N l) ((both (not (lit_true N l)) true f).0));
}

-- a rule without a reason supports the set
pub open_supports : (I U : List ℕ) (r : GroundRule) → list_any (holds U) r.head && not (list_any (holds U) r.pos) ≡ true → IsOpen I U r → supports I U r ≡ true
open_supports I U r concerned is =
    let parts = both (list_any (holds U) r.head) (not (list_any (holds U) r.pos)) concerned in
    let body = both (list_all (holds I) r.pos) (list_all (λ a. not (holds I a)) r.neg) is.body in
    supports_from I U r (record {
      head = parts.0;
      pos = body.0;
      neg = body.1;
      free = all_from (λ a. not (holds U a)) r.pos (λ a i.
          not_false _ (false_from (holds U a) (λ u. true_is_not_false _ (any_from (holds U) r.pos a i u) (not_true _ parts.1))));
      closed = is.closed;
    })

-- ---- all rules

-- no rule yet
pub blocks_start : (G : List GroundRule) (I U O : List ℕ) (start clause : List Lit) → clause ≡ start → BlocksAll G [] I U O start clause
blocks_start G I U O start clause is = record {
  reasons = [];
  is = is ∙ sym (append-nil start);
  because = λ l i. absurd i;
  blocked = λ N f. refl;
}

-- a clause in two parts is false where both are
false_parts : (N : List ℕ) (some more : List Lit) → is_false N (some ++ more) ≡ true → (is_false N some ≡ true) × (is_false N more ≡ true)
false_parts N some more f = and_parts (is_false N some) (is_false N more) (sym (list_all-append (λ l. not (lit_true N l)) some more) ∙ f)

-- one more rule
pub blocks_more : (G rules : List GroundRule) (I U O : List ℕ) (r : GroundRule) (start old new : List Lit) → IsIn r G
    → BlocksAll G rules I U O start old → Blocks I U O r old new → BlocksAll G (rules ++ r ∷ []) I U O start new
blocks_more G rules I U O r start old new member all one = record {
  reasons = all.reasons ++ one.more;
  is = one.grown ∙ ap (λ (c : List Lit). c ++ one.more) all.is ∙ append_assoc start all.reasons one.more;
  because = λ l i.
      elim (append_at all.reasons one.more l i) [
        | inl h ↦ all.because l h
        | inr h ↦ record { rule = r; member = member; chosen = one.because l h }
      ];
  blocked = λ N f.
      let parts = false_parts N all.reasons one.more f in
      list_all-append (λ q. not (supports N U q)) rules (r ∷ [])
      ∙ and_from _ _ (all.blocked N parts.0) (and_from (not (supports N U r)) true (not_false _ (one.blocked N parts.1)) refl);
}

-- one more rule of a program, from what is added for it
pub blocks_step : (G : List GroundRule) (I U O : List ℕ) (i : ℕ) (r : GroundRule) (start old new : List Lit)
    → i < length G → r ≡ get_or G i r
    → BlocksAll G (take i G) I U O start old → Blocks I U O r old new
    → BlocksAll G (take (i + 1) G) I U O start new
blocks_step G I U O i r start old new h is all one =
    subst (λ (rs : List GroundRule). BlocksAll G rs I U O start new) (sym (take_more G i r h ∙ ap (λ (q : GroundRule). take i G ++ q ∷ []) (sym is)))
    (blocks_more G (take i G) I U O r start old new (read_member G i r h is) all one)

-- all rules
pub blocks_end : (G : List GroundRule) (I U O : List ℕ) (i : ℕ) (start clause : List Lit) → length G ≤ i → BlocksAll G (take i G) I U O start clause → BlocksAll G G I U O start clause
blocks_end G I U O i start clause h all = subst (λ (rs : List GroundRule). BlocksAll G rs I U O start clause) (take_all i G h) all

-- no rule of the program supports the set
pub unsupported_at : (G : List GroundRule) (I U : List ℕ) (i : ℕ) (r : GroundRule) → i < length G → r ≡ get_or G i r → is_unfounded G I U ≡ true → supports I U r ≡ false
unsupported_at G I U i r h is unfounded = not_true _ (all_at (λ (q : GroundRule). not (supports I U q)) G r unfounded (read_member G i r h is))

-- what decides for a set decides for one with the same atoms
reason-same : (I U V : List ℕ) (r : GroundRule) (l : Lit) → ((a : ℕ) → holds U a ≡ holds V a) → IsReason I U r l → IsReason I V r l
reason-same I U V r l same h = record {
  false_here = h.false_here;
  atom = h.atom;
  blocks = λ N f. unsupported N V r (λ s. true_is_not_false _ (supports_from N U r (support-same N V U r (λ a. sym (same a)) s)) (h.blocks N f));
}

pub unfounded-same : (G : List GroundRule) (I U V : List ℕ) → ((a : ℕ) → holds U a ≡ holds V a) → is_unfounded G I U ≡ true → is_unfounded G I V ≡ true
unfounded-same G I U V same h = all_from (λ r. not (supports I V r)) G (λ r i.
    not_false _ (unsupported I V r (λ s.
    true_is_not_false _ (supports_from I U r (support-same I V U r (λ a. sym (same a)) s))
    (not_true _ (all_at (λ q. not (supports I U q)) G r h i)))))

pub blocks-same : (G : List GroundRule) (I U V O : List ℕ) (start clause : List Lit) → ((a : ℕ) → holds U a ≡ holds V a) → BlocksAll G G I U O start clause → BlocksAll G G I V O start clause
blocks-same G I U V O start clause same all = record {
  reasons = all.reasons;
  is = all.is;
  because = λ l i.
      let why = all.because l i in
      record {
        rule = why.rule;
        member = why.member;
        chosen = record { reason = reason-same I U V why.rule l same why.chosen.reason; outer_first = why.chosen.outer_first };
      };
  blocked = λ N f. unfounded-same G N U V same (all.blocked N f);
}

-- ---- the nogood

-- a clause isn't false where one of its literals is true
true_or_all_false : (N : List ℕ) (clause : List Lit) → (is_true N clause ≡ true) ⊎ (is_false N clause ≡ true)
true_or_all_false N [] = inr refl
true_or_all_false N (l ∷ clause) = elim (true_or_false (lit_true N l)) [
  | inl t ↦ inl (or_left (lit_true N l) (is_true N clause) t)
  | inr f ↦ elim (true_or_all_false N clause) [
    | inl t ↦ inl (or_right (lit_true N l) (is_true N clause) t)
    | inr all ↦ inr (and_true (not (lit_true N l)) (is_false N clause) (not_false _ f) all)
  ]
]

-- a rule that supports the part of a set that lies in an interpretation supports the whole set
support-whole : (N U V : List ℕ) (r : GroundRule) → ((a : ℕ) → holds V a ≡ true → holds U a ≡ true)
    → ((a : ℕ) → holds U a ≡ true → holds N a ≡ true → holds V a ≡ true) → Support N V r → Support N U r
support-whole N U V r part whole s =
    let hit = any_at (holds V) r.head s.head in
    record {
      head = any_from (holds U) r.head hit.0 hit.1 (part hit.0 hit.2);
      pos = s.pos;
      neg = s.neg;
      free = all_from (λ a. not (holds U a)) r.pos (λ a i.
          not_false _ (false_from (holds U a) (λ u.
          true_is_not_false _ (whole a u (all_at (holds N) r.pos a s.pos i)) (not_true _ (all_at (λ b. not (holds V b)) r.pos a s.free i)))));
      closed = all_from (λ a. not (holds N a && not (holds U a))) r.head (λ a i.
          not_false _ (false_from (holds N a && not (holds U a)) (λ free.
          let parts = both (holds N a) (not (holds U a)) free
          in true_is_not_false _ (part a (closed_at N V r a s.closed i parts.0)) (not_true _ parts.1))));
    }

-- so an interpretation with some of a set's atoms, by which no rule supports the set, is no answer set
refuted_in_part : (G : List GroundRule) (F N U : List ℕ) (a : ℕ) → holds U a ≡ true → holds N a ≡ true → is_apart U F ≡ true → is_unfounded G N U ≡ true
    → is_answer_set (with_choices G F) N ≡ false
refuted_in_part G F N U a inside there apart unfounded =
    let V = filter (holds N) U in
    let at : (b : ℕ) → holds V b ≡ true → IsIn b U × (holds N b ≡ true) = λ b h. filter_at (holds N) U b (holds_at V b h) in
    let part : (b : ℕ) → holds V b ≡ true → holds U b ≡ true = λ b h. holds_from U b ((at b h).0) in
    let whole : (b : ℕ) → holds U b ≡ true → holds N b ≡ true → holds V b ≡ true =
    λ b u n. holds_from V b (filter_from (holds N) U b (holds_at U b u) n) in
    refuted G F N V (not_empty V a (holds_at V a (whole a inside there)))
    (λ b h. (at b h).1)
    (all_from (λ b. not (holds F b)) V (λ b i. all_at (λ c. not (holds F c)) U b apart ((filter_at (holds N) U b i).0)))
    (all_from (λ r. not (supports N V r)) G (λ r i.
    not_false _ (unsupported N V r (λ s.
    true_is_not_false _ (supports_from N U r (support-whole N U V r part whole s))
    (not_true _ (all_at (λ q. not (supports N U q)) G r unfounded i))))))

pub members_within : (U : List ℕ) → within U U ≡ true
members_within U = all_from (holds U) U (λ a i. holds_from U a i)

-- the denials of some of the set's atoms and the reasons are a nogood
pub nogood_from_blocks : (G : List GroundRule) (I U O D : List ℕ) (clause : List Lit) → is_empty D ≡ false → within D U ≡ true → within U I ≡ true
    → BlocksAll G G I U O (map denied D) clause → IsNogood G I U clause
nogood_from_blocks G I U O D clause some part inside all =
    subst (λ (c : List Lit). IsNogood G I U c) (sym all.is) (record {
      false_here = list_all-append (λ l. not (lit_true I l)) (map denied D) all.reasons
          ∙ and_from _ _
          (list_all-map (λ l. not (lit_true I l)) denied D
          ∙ all_from (λ a. not (not (holds I a))) D (λ a i. ap (λ b. not (not b)) (all_at (holds I) U a inside (holds_at U a (member a i)))))
          (all_from (λ l. not (lit_true I l)) all.reasons (λ l i. not_false _ (all.because l i).chosen.reason.false_here));
      true_there = λ F N apart answer.
          elim (true_or_all_false N (map denied D ++ all.reasons)) [
            | inl t ↦ t
            | inr f ↦
                let parts = false_parts N (map denied D) all.reasons f in
                let first = some_member D some in
                absurd (true_is_not_false _ answer
                (refuted_in_part G F N U first.0 (member first.0 first.1)
                (denied_false _ (not_true _ (all_at (λ b. not (not (holds N b))) D first.0
                (sym (list_all-map (λ l. not (lit_true N l)) denied D) ∙ parts.0) first.1)))
                apart (all.blocked N parts.1)))
          ];
      atoms = list_all-append (λ l. holds U l.atom || stands_in G l.atom) (map denied D) all.reasons
          ∙ and_from _ _
          (list_all-map (λ l. holds U l.atom || stands_in G l.atom) denied D
          ∙ all_from (λ a. holds U a || stands_in G a) D (λ a i. or_left (holds U a) (stands_in G a) (member a i)))
          (all_from (λ l. holds U l.atom || stands_in G l.atom) all.reasons (λ l i.
          let why = all.because l i in
          or_right (holds U l.atom) (stands_in G l.atom) (any_from (λ q. holds (rule_atoms q) l.atom) G why.rule why.member why.chosen.reason.atom)));
    })
  where
    member : (a : ℕ) → IsIn a D → holds U a ≡ true
    member a i = all_at (holds U) D a part i

-- with one denial it is one that denies one atom
pub atom_nogood_from_blocks : (G : List GroundRule) (I U O : List ℕ) (a : ℕ) (clause : List Lit) → holds U a ≡ true → within U I ≡ true
    → BlocksAll G G I U O (denied a ∷ []) clause → IsAtomNogood G I U O a clause
atom_nogood_from_blocks G I U O a clause member inside all = record {
  nogood = nogood_from_blocks G I U O (a ∷ []) clause refl (and_true (holds U a) true member refl) inside all;
  reasons = all.reasons;
  is = all.is;
  because = all.because;
}

-- ---- the set as an interpretation

-- an interpretation of which just the set's atoms are true holds what the set holds
pub marked-holds : (values : List Bool) (U : List ℕ) → within U (true_places values) ≡ true → (a : ℕ)
    → holds (true_places (written true (replicate (length values) false) U)) a ≡ holds U a
marked-holds values U inside a =
    holds-true_places (written true (replicate (length values) false) U) a
    ∙ elim (cases_lt a (length values)) [
      | inl h ↦
          written-at true (replicate (length values) false) U a (omega (arith, length-replicate (length values) false))
          ∙ ap (λ t. cond (holds U a) true t) (get_or-replicate (length values) a false false h)
          ∙ same (holds U a)
      | inr h ↦
          get_or_past (written true (replicate (length values) false) U) a false
          (omega (arith, length-written true (replicate (length values) false) U, length-replicate (length values) false))
          ∙ sym (false_from (holds U a) (λ u.
          true_is_not_false _ (all_at (holds (true_places values)) U a inside (holds_at U a u))
          (holds-true_places values a ∙ get_or_past values a false h)))
    ]
  where
    same : (b : Bool) → cond b true false ≡ b
    same true = refl
    same false = refl

-- it is the one that was written
marked_is : (values part : List Bool) (U atoms : List ℕ) (len : ℕ) → part ≡ written true (replicate len false) atoms → len ≡ length values → atoms ≡ U
    → part ≡ written true (replicate (length values) false) U
marked_is values part U atoms len is len_is atoms_are =
    is ∙ ap (λ n. written true (replicate n false) atoms) len_is ∙ ap (written true (replicate (length values) false)) atoms_are

pub marked-length : (values part : List Bool) (U atoms : List ℕ) (len : ℕ) → part ≡ written true (replicate len false) atoms → len ≡ length values → atoms ≡ U
    → length part ≡ length values
marked-length values part U atoms len is len_is atoms_are =
    ap length (marked_is values part U atoms len is len_is atoms_are)
    ∙ length-written true (replicate (length values) false) U ∙ length-replicate (length values) false

pub marked-same : (values part : List Bool) (U atoms : List ℕ) (len : ℕ) → part ≡ written true (replicate len false) atoms → len ≡ length values → atoms ≡ U
    → within U (true_places values) ≡ true → (a : ℕ) → holds (true_places part) a ≡ holds U a
marked-same values part U atoms len is len_is atoms_are inside a =
    ap (λ (p : List Bool). holds (true_places p) a) (marked_is values part U atoms len is len_is atoms_are) ∙ marked-holds values U inside a
