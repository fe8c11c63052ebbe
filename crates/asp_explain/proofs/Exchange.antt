-- After each outer move that agrees with the first on the atoms on which a move rests, the move with the other outer atoms in
-- place of the first ones is a move.
use Rattle.std.proofs.Common.{ℕ, ◌+◌, ◌-◌, ◌≤◌, ◌≡◌, refl, sym, ◌∙◌, subst, inl, inr, Bool, true, false, not, ◌&&◌, ◌||◌, cond, List, ◌∷◌, ◌++◌}
use Rattle.std.specs.List.{list_any, list_all}
use Rattle.asp_defs.specs.declared.ground.GroundRule.{GroundRule}
use Rattle.asp_defs.specs.declared.ground.Bound.{Bound}
use Rattle.asp_defs.specs.declared.ground.Game.{Game}
use Rattle.asp_defs.specs.declared.ground.Lit.{Lit}
use Rattle.asp_defs.specs.Lists.{IsIn}
use Rattle.asp_defs.specs.Interpretations.{holds, subsets}
use Rattle.asp_defs.specs.Truth.{body_true, literals_true, satisfies, is_model}
use Rattle.asp_defs.specs.Bounds.{meets, meets_all, bound_atoms, is_at_least, is_at_most}
use Rattle.asp_defs.specs.AnswerSets.{is_answer_set}
use Rattle.asp_defs.specs.Unfounded.{supports, is_unfounded}
use Rattle.asp_defs.specs.Games.{level_count, base, rules_of, bounds_of, rule_atoms, ascends, within, is_subset, IsValid}
use Rattle.asp_defs.specs.Values.{fact, fix, moves}
use Rattle.asp_defs.specs.Entries.{lit_true, cube_holds}
use Rattle.asp_defs.proofs.Lists.{both, and_true, either, or_left, or_right, true_or_false, not_true, not_false, all_at, all_from, any_at, any_from, append_at, append_left, append_right, filter_at, filter_from}
use Rattle.asp_defs.proofs.Subsets.{true_is_not_false, holds_at, holds_from, subset-member, filter-subset}
use Rattle.asp_defs.proofs.CellLaws.{subset_from}
use Rattle.asp_defs.proofs.FoundedLaws.{supports_at, closed_at, all_false, founded_from_minimal, answer_set_from_founded}
use Rattle.asp_defs.proofs.Fixing.{same_test, subset-ascends, Fixes, is_fact, is_denial, fixes_at, fact_from, fact-says, fact-says_from, denial-says_from, supports-alike, supported, fact-supports, answer-agrees, move-answer, move_from, keeps, swapped}
use Rattle.asp_defs.proofs.BoundLaws.{meets-alike}
use Rattle.asp_defs.proofs.Irrelevance.{base-up, base-next}
use Rattle.asp_explain.specs.Resting.{is_known, are_known, has_known, is_blocked, is_safe, is_kept, may_support, is_settled, Supporter, RestsOn}
use Rattle.asp_explain.specs.Founding.{AreFounded}
use Rattle.asp_explain.specs.Cubes.{HeldMove}

-- what is known of rules, bounds and literals, of a base and the one over it, of two outer moves, of a move after the first and
-- of the atoms on which it rests
pub record Exchange (G : List GroundRule) (bounds : List Bound) (won : List Lit) (B over M K N C : List ℕ) : Type 0 where
  pub up : ascends over ≡ true
  pub nested : (a : ℕ) → IsIn a B → IsIn a over
  pub other_inside : (a : ℕ) → IsIn a K → IsIn a B
  pub within_over : IsIn N (subsets over)
  pub lower : (a : ℕ) → IsIn a B → holds N a ≡ holds M a
  pub agree : (a : ℕ) → holds C a ≡ true → holds K a ≡ holds M a
  pub rests : RestsOn G bounds won B C N
  pub met : meets_all N bounds ≡ true
  pub has_won : cube_holds won N ≡ true

module _ (G : List GroundRule) (bounds : List Bound) (won : List Lit) (B over M K N C : List ℕ) (s : Exchange G bounds won B over M K N C) where
  -- the move with the atoms of the second outer move
  abbrev new : List ℕ
  new = swapped B over K N

  new-inside : IsIn new (subsets over)
  new-inside = filter-subset (keeps B K N) over

  new-up : ascends new ≡ true
  new-up = subset-ascends over new s.up new-inside

  new-lower : (a : ℕ) → IsIn a B → holds new a ≡ holds K a
  new-lower a i =
      let lower : holds B a ≡ true = holds_from B a i in
      same_test (holds new a) (holds K a)
      (λ h.
      let kept : keeps B K N a ≡ true = (filter_at (keeps B K N) over a (holds_at new a h)).1 in
      subst (λ (t : Bool). cond t (holds K a) (holds N a) ≡ true) lower kept)
      (λ h.
      holds_from new a
      (filter_from (keeps B K N) over a (s.nested a i)
      (subst (λ (t : Bool). cond t (holds K a) (holds N a) ≡ true) (sym lower) h)))

  new-upper : (a : ℕ) → holds B a ≡ false → holds new a ≡ holds N a
  new-upper a upper =
      same_test (holds new a) (holds N a)
      (λ h.
      let kept : keeps B K N a ≡ true = (filter_at (keeps B K N) over a (holds_at new a h)).1 in
      subst (λ (t : Bool). cond t (holds K a) (holds N a) ≡ true) upper kept)
      (λ h.
      holds_from new a
      (filter_from (keeps B K N) over a (subset-member over N a s.within_over (holds_at N a h))
      (subst (λ (t : Bool). cond t (holds K a) (holds N a) ≡ true) (sym upper) h)))

  -- a known atom is in both or in neither
  same : (a : ℕ) → is_known B C a ≡ true → holds N a ≡ holds new a
  same a known = elim (true_or_false (holds B a)) [
    | inl lower ↦
        let i : IsIn a B = holds_at B a lower in
        let fixed : holds C a ≡ true = subst (λ (t : Bool). not t || holds C a ≡ true) lower known in
        s.lower a i ∙ (sym (s.agree a fixed) ∙ sym (new-lower a i))
    | inr upper ↦ sym (new-upper a upper)
  ]

  -- a known atom of this truth has it in both
  known-at : (truth : Bool) (atoms : List ℕ) → has_known B C N truth atoms ≡ true → (a : ℕ) × IsIn a atoms × (holds new a ≡ truth)
  known-at true atoms h =
      let found = any_at (λ a. holds N a && is_known B C a) atoms h in
      let parts = both (holds N found.0) (is_known B C found.0) found.2 in
      (found.0, found.1, sym (same found.0 parts.1) ∙ parts.0)
  known-at false atoms h =
      let found = any_at (λ a. not (holds N a) && is_known B C a) atoms h in
      let parts = both (not (holds N found.0)) (is_known B C found.0) found.2 in
      (found.0, found.1, sym (same found.0 parts.1) ∙ not_true (holds N found.0) parts.0)

  -- a body that is known to be false is
  blocked : (pos neg : List ℕ) → is_blocked B C N pos neg ≡ true → literals_true new pos neg ≡ false
  blocked pos neg h = elim (true_or_false (literals_true new pos neg)) [
    | inl body ↦
        let parts = both (list_all (holds new) pos) (list_all (λ a. not (holds new a)) neg) body in
        elim (either (has_known B C N false pos) (has_known B C N true neg) h) [
          | inl p ↦
              let found = known-at false pos p in
              absurd (true_is_not_false _ (all_at (holds new) pos found.0 parts.0 found.1) found.2)
          | inr n ↦
              let found = known-at true neg n in
              absurd (true_is_not_false _ found.2 (not_true _ (all_at (λ a. not (holds new a)) neg found.0 parts.1 found.1)))
        ]
    | inr fails ↦ fails
  ]

  safe-satisfies : (r : GroundRule) → is_safe B C N r ≡ true → satisfies new r ≡ true
  safe-satisfies r h = elim (either r.choice (has_known B C N true r.head || is_blocked B C N r.pos r.neg) h) [
    | inl choice ↦ or_left r.choice (not (body_true new r) || list_any (holds new) r.head) choice
    | inr plain ↦
        or_right r.choice (not (body_true new r) || list_any (holds new) r.head)
        (elim (either (has_known B C N true r.head) (is_blocked B C N r.pos r.neg) plain) [
          | inl head ↦
              let found = known-at true r.head head in
              or_right (not (body_true new r)) (list_any (holds new) r.head) (any_from (holds new) r.head found.0 found.1 found.2)
          | inr body ↦
              or_left (not (body_true new r)) (list_any (holds new) r.head) (not_false _ (blocked r.pos r.neg body))
        ])
  ]

  new-model : is_model new (G ++ fix B K) ≡ true
  new-model =
      all_from (satisfies new) (G ++ fix B K) (λ r i.
      elim (append_at G (fix B K) r i) [
        | inl plain ↦ safe-satisfies r (all_at (is_safe B C N) G r s.rests.safe plain)
        | inr fixing ↦ elim (fixes_at B K r fixing) [
          | is_fact a inside e ↦ rw e (fact-says_from (holds new a) (new-lower a (s.other_inside a inside) ∙ holds_from K a inside))
          | is_denial a lower outside e ↦ rw e (denial-says_from (holds new a) (new-lower a lower ∙ outside))
        ]
      ])

  -- a set with an outer atom is supported by that atom's fact
  founded_lower : (U : List ℕ) (b : ℕ) → IsIn U (subsets new) → IsIn b U → IsIn b B → is_unfounded (G ++ fix B K) new U ≡ false
  founded_lower U b inside member lower =
      let true_one : holds K b ≡ true = sym (new-lower b lower) ∙ holds_from new b (subset-member new U b inside member) in
      supported (G ++ fix B K) new U (fact b) (append_right G (fix B K) (fact b) (fact_from B K b (holds_at K b true_one)))
      (fact-supports new U b (holds_from U b member))

  -- a set of own atoms by the rule that supports it in the first move
  founded_upper : (u : ℕ) (U : List ℕ) → IsIn (u ∷ U) (subsets new) → ((b : ℕ) → IsIn b (u ∷ U) → holds B b ≡ false) → is_unfounded (G ++ fix B K) new (u ∷ U) ≡ false
  founded_upper u U inside upper =
      let old : IsIn (u ∷ U) (subsets N) =
      subset_from N (u ∷ U) (subset-ascends over N s.up s.within_over) (subset-ascends new (u ∷ U) new-up inside) (λ b i.
      holds_at N b (sym (new-upper b (upper b i)) ∙ holds_from new b (subset-member new (u ∷ U) b inside i))) in
      let found = s.rests.founded u U old upper in
      supported (G ++ fix B K) new (u ∷ U) found.rule (append_left G (fix B K) found.rule found.member)
      (sym (supports-alike N new (u ∷ U) found.rule (λ a i. same a (all_at (is_known B C) (rule_atoms found.rule) a found.known i))) ∙ found.supports_it)

  founded : (u : ℕ) (U : List ℕ) → IsIn (u ∷ U) (subsets new) → is_unfounded (G ++ fix B K) new (u ∷ U) ≡ false
  founded u U inside = elim (true_or_false (list_any (holds B) (u ∷ U))) [
    | inl some ↦
        let found = any_at (holds B) (u ∷ U) some in
        founded_lower (u ∷ U) found.0 inside found.1 (holds_at B found.0 found.2)
    | inr none ↦
        founded_upper u U inside (λ b i.
        elim (true_or_false (holds B b)) [
          | inl lower ↦ absurd (true_is_not_false _ (any_from (holds B) (u ∷ U) b i lower) none)
          | inr outer ↦ outer
        ])
  ]

  pub new-answer : is_answer_set (G ++ fix B K) new ≡ true
  new-answer = answer_set_from_founded (G ++ fix B K) new new-up new-model founded

  pub new-met : meets_all new bounds ≡ true
  new-met =
      all_from (meets new) bounds (λ b i.
      elim (either (is_blocked B C N b.pos b.neg) (are_known B C (bound_atoms b)) (all_at (is_kept B C N) bounds b s.rests.kept i)) [
        | inl body ↦
            or_left (not (literals_true new b.pos b.neg)) (is_at_least b.low _ && is_at_most b.high _) (not_false _ (blocked b.pos b.neg body))
        | inr known ↦
            sym (meets-alike b N new (subset-ascends over N s.up s.within_over) new-up (λ a j. same a (all_at (is_known B C) (bound_atoms b) a known j)))
            ∙ all_at (meets N) bounds b s.met i
      ])

  literal-same : (l : Lit) → holds N l.atom ≡ holds new l.atom → lit_true N l ≡ true → lit_true new l ≡ true
  literal-same l e h = subst (λ (t : Bool). cond l.positive t (not t) ≡ true) e h

  pub new-won : cube_holds won new ≡ true
  new-won =
      all_from (lit_true new) won (λ l i.
      literal-same l (same l.atom (all_at (λ l. is_known B C l.atom) won l s.rests.won_known i)) (all_at (lit_true N) won l s.has_won i))

-- so for a game: the level has a move with the literals after each outer move that agrees on the atoms
pub held-move : (g : Game) (i : ℕ) (won : List Lit) (M N C K : List ℕ) → IsValid g → 1 ≤ i → i ≤ level_count g + 1 → IsIn N (moves g i M) → cube_holds won N ≡ true
    → RestsOn (rules_of g i) (bounds_of g i) won (base g (i - 1)) C N → is_subset K (base g (i - 1)) ≡ true → ((a : ℕ) → holds C a ≡ true → holds K a ≡ holds M a) → HeldMove g i won K
held-move g i won M N C K valid first last move has_won rests subset agree =
    let B = base g (i - 1) in
    let over = base g i in
    let parts = move-answer g i M N move in
    let s : Exchange (rules_of g i) (bounds_of g i) won B over M K N C = record {
      up = base-up g i valid;
      nested = base-next g i valid first last;
      other_inside = λ a j. holds_at B a (all_at (holds B) K a ((both (ascends K) (within K B) subset).1) j);
      within_over = parts.0;
      lower = answer-agrees (rules_of g i) B M N parts.1;
      agree = agree;
      rests = rests;
      met = parts.2;
      has_won = has_won;
    } in
    record {
      move = swapped B over K N;
      is_move = move_from g i K (swapped B over K N) (filter-subset (keeps B K N) over) (new-answer (rules_of g i) (bounds_of g i) won B over M K N C s)
          (new-met (rules_of g i) (bounds_of g i) won B over M K N C s);
      held = new-won (rules_of g i) (bounds_of g i) won B over M K N C s;
    }

-- ---- sets without founded atoms: the atoms of all rules that may support them are known

-- an own atom of a set of own atoms that a rule supports makes the rule one that may support
may-support : (B N U : List ℕ) (r : GroundRule) → IsIn U (subsets N) → ((b : ℕ) → IsIn b U → holds B b ≡ false) → supports N U r ≡ true → may_support B N r ≡ true
may-support B N U r inside upper h =
    let parts = supports_at N U r h in
    let hit = any_at (holds U) r.head parts.head in
    let member : IsIn hit.0 U = holds_at U hit.0 hit.2 in
    and_true (body_true N r && list_any (λ a. holds N a && not (holds B a)) r.head) (not (list_any (λ a. holds N a && holds B a) r.head))
    (and_true (body_true N r) (list_any (λ a. holds N a && not (holds B a)) r.head)
    (and_true (list_all (holds N) r.pos) (list_all (λ a. not (holds N a)) r.neg) parts.pos parts.neg)
    (any_from (λ a. holds N a && not (holds B a)) r.head hit.0 hit.1
    (and_true (holds N hit.0) (not (holds B hit.0)) (holds_from N hit.0 (subset-member N U hit.0 inside member)) (not_false _ (upper hit.0 member)))))
    (elim (true_or_false (list_any (λ a. holds N a && holds B a) r.head)) [
      | inl some ↦
          let outer = any_at (λ a. holds N a && holds B a) r.head some in
          let sides = both (holds N outer.0) (holds B outer.0) outer.2 in
          absurd (true_is_not_false _ sides.1 (upper outer.0 (holds_at U outer.0 (closed_at N U r outer.0 parts.closed outer.1 sides.0))))
      | inr none ↦ not_false _ none
    ])

no-fix : (B M N U : List ℕ) (r : GroundRule) → ((a : ℕ) → IsIn a M → IsIn a B) → ((b : ℕ) → IsIn b U → holds B b ≡ false) → Fixes B M r → list_any (holds U) r.head ≡ true → ⊥
no-fix B M N U r first_inside upper (is_fact a true_one e) head =
    let hit : holds U a ≡ true = fact-says (holds U a) (subst (λ (q : GroundRule). list_any (holds U) q.head ≡ true) e head) in
    true_is_not_false _ (holds_from B a (first_inside a true_one)) (upper a (holds_at U a hit))
no-fix B M N U r first_inside upper (is_denial a lower outside e) head =
    true_is_not_false _ (subst (λ (q : GroundRule). list_any (holds U) q.head ≡ true) e head) refl

pub settled-founded : (G : List GroundRule) (B D C M N : List ℕ) → ((a : ℕ) → IsIn a M → IsIn a B) → is_answer_set (G ++ fix B M) N ≡ true → AreFounded G B C N D
    → list_all (is_settled B D C N) G ≡ true → (u : ℕ) (U : List ℕ) → IsIn (u ∷ U) (subsets N) → ((b : ℕ) → IsIn b (u ∷ U) → holds B b ≡ false) → Supporter G B C N (u ∷ U)
settled-founded G B D C M N first_inside answer before settled u U inside upper = elim (true_or_false (list_any (holds D) (u ∷ U))) [
  | inl some ↦ before u U inside upper some
  | inr none ↦
      let apart : (b : ℕ) → IsIn b (u ∷ U) → holds D b ≡ false = λ b i.
      elim (true_or_false (holds D b)) [
        | inl within ↦ absurd (true_is_not_false _ (any_from (holds D) (u ∷ U) b i within) none)
        | inr outside ↦ outside
      ] in
      let found = all_false (λ r. not (supports N (u ∷ U) r)) (G ++ fix B M) (founded_from_minimal (G ++ fix B M) N u U answer inside) in
      let support : supports N (u ∷ U) found.0 ≡ true = elim (true_or_false (supports N (u ∷ U) found.0)) [
        | inl it_does ↦ it_does
        | inr fails ↦ absurd (true_is_not_false _ (not_false _ fails) found.2)
      ] in
      elim (append_at G (fix B M) found.0 found.1) [
        | inl plain ↦ record {
          rule = found.0;
          member = plain;
          supports_it = support;
          known = elim (either (not (may_support D N found.0)) (are_known B C (rule_atoms found.0)) (all_at (is_settled B D C N) G found.0 settled plain)) [
            | inl never ↦ absurd (true_is_not_false _ (may-support D N (u ∷ U) found.0 inside apart support) (not_true _ never))
            | inr known ↦ known
          ];
        }
        | inr fixing ↦ absurd (no-fix B M N (u ∷ U) found.0 first_inside upper (fixes_at B M found.0 fixing) (supports_at N (u ∷ U) found.0 support).head)
      ]
]
