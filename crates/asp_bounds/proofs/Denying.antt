-- Clauses of a bound that an interpretation doesn't meet.
use Rattle.std.proofs.Common.{ℕ, zero, suc, nat_lt, ◌+◌, ◌<◌, ◌≤◌, ◌≡◌, refl, sym, ◌∙◌, ap, subst, inl, inr, Bool, true, false, not, ◌&&◌, List, [], ◌∷◌, ◌++◌, map, length, take, get_or, Option, None, Some, ℤ, arith, ◌||◌, if◌then◌else◌, ◌⊎◌}
use Rattle.std.specs.Prelude.{slice_set}
use Rattle.std.specs.List.{list_all}
use Rattle.std.proofs.lemmas.List.{take_more, take_all, length-take, length-set}
use Rattle.std.proofs.lemmas.Int.{ints}
use Rattle.std.proofs.lemmas.Bool.{cases_eq}
use Rattle.std.proofs.lemmas.List.Folds.{list_all-append}
use Rattle.asp_defs.specs.declared.ground.Bound.{Bound}
use Rattle.asp_defs.specs.declared.ground.Counted.{Counted}
use Rattle.asp_defs.specs.declared.ground.Lit.{Lit}
use Rattle.asp_defs.specs.Bounds.{counted_atoms, is_at_least, is_at_most, meets, meets_all, bound_atoms}
use Rattle.asp_bits.specs.Places.{true_places}
use Rattle.asp_defs.specs.Entries.{lit_true, stands_in_bounds}
use Rattle.asp_defs.specs.Games.{ascends}
use Rattle.asp_defs.specs.Interpretations.{holds, subsets}
use Rattle.asp_defs.specs.Lists.{IsIn}
use Rattle.asp_defs.specs.Truth.{literals_true}
use Rattle.asp_defs.proofs.Lists.{both, and_true, either, or_left, or_right, true_or_false, not_true, not_false, all_at, all_from, any_from, append_at, append_left, append_right, map_at, map_from}
use Rattle.asp_defs.proofs.Subsets.{true_is_not_false, holds_from}
use Rattle.asp_defs.proofs.CellLaws.{subset_from, length-subset}
use Rattle.asp_reduct.proofs.Truths.{get_or-member}
use Rattle.asp_reduct.specs.Bounds.{is_term_below, is_bound_below}
use Rattle.asp_bounds.specs.Terms.{literal, is_counted, IsReason}
use Rattle.asp_bounds.specs.Denials.{is_false, is_true, ArePlaces, Reasoned, Denied, denial_of, IsDenial, IsLowDenial, IsHighDenial, IsBoundClause, IsBoundsClause}
use Rattle.asp_bounds.proofs.Marking.{marked-same, marked-other, fits_in}
use Rattle.asp_bounds.proofs.Counting.{denied_false, term-atom, bound-term, pos-inside, neg-inside, term-inside, counted_at, counted_from, Counting, in_counted_from, in_counted_at}
use Rattle.asp_bounds.proofs.Sorting.{counted-ascends}

-- ---- literals

pub false-append : (N : List ℕ) (xs ys : List Lit) → is_false N (xs ++ ys) ≡ true → (is_false N xs ≡ true) × (is_false N ys ≡ true)
false-append N xs ys h =
    both (is_false N xs) (is_false N ys) (sym (list_all-append (λ l. not (lit_true N l)) xs ys) ∙ h)

pub false-both : (N : List ℕ) (xs ys : List Lit) → is_false N xs ≡ true → is_false N ys ≡ true → is_false N (xs ++ ys) ≡ true
false-both N xs ys one two = list_all-append (λ l. not (lit_true N l)) xs ys ∙ and_true (is_false N xs) (is_false N ys) one two

-- literals of atoms are all false where the atoms have the other value
pub denied-all : (N atoms : List ℕ) → is_false N (map (literal false) atoms) ≡ true → list_all (holds N) atoms ≡ true
denied-all N atoms h =
    all_from (holds N) atoms (λ a i.
    denied_false (holds N a) (not_true (not (holds N a)) (all_at (λ l. not (lit_true N l)) (map (literal false) atoms) (literal false a) h (map_from (literal false) atoms a i))))

pub denied-none : (N atoms : List ℕ) → is_false N (map (literal true) atoms) ≡ true → list_all (λ a. not (holds N a)) atoms ≡ true
denied-none N atoms h =
    all_from (λ a. not (holds N a)) atoms (λ a i.
    all_at (λ l. not (lit_true N l)) (map (literal true) atoms) (literal true a) h (map_from (literal true) atoms a i))

pub all-denied : (N atoms : List ℕ) → list_all (holds N) atoms ≡ true → is_false N (map (literal false) atoms) ≡ true
all-denied N atoms h =
    all_from (λ l. not (lit_true N l)) (map (literal false) atoms) (λ l i.
    let found = map_at (literal false) atoms l i in
    ap (λ (m : Lit). not (lit_true N m)) found.2 ∙ ap (λ t. not (not t)) (all_at (holds N) atoms found.0 h found.1))

pub none-denied : (N atoms : List ℕ) → list_all (λ a. not (holds N a)) atoms ≡ true → is_false N (map (literal true) atoms) ≡ true
none-denied N atoms h =
    all_from (λ l. not (lit_true N l)) (map (literal true) atoms) (λ l i.
    let found = map_at (literal true) atoms l i in
    ap (λ (m : Lit). not (lit_true N m)) found.2 ∙ all_at (λ a. not (holds N a)) atoms found.0 h found.1)

literal-atom : (positive : Bool) (atoms : List ℕ) (l : Lit) → IsIn l (map (literal positive) atoms) → IsIn l.atom atoms
literal-atom positive atoms l i =
    let found = map_at (literal positive) atoms l i in
    subst (λ (m : Lit). IsIn m.atom atoms) (sym found.2) found.1

-- ---- the body

pub body-denial : (b : Bound) (I ps ns : List ℕ) (first clause : List Lit) → ps ≡ b.pos → ns ≡ b.neg
    → literals_true I b.pos b.neg ≡ true → first ≡ map (literal false) ps → clause ≡ first ++ map (literal true) ns → IsDenial b I clause
body-denial b I ps ns first clause ps_is ns_is body first_is is =
    subst (λ (c : List Lit). IsDenial b I c) (sym (is ∙ (ap (λ (xs : List Lit). xs ++ map (literal true) ns) (first_is ∙ ap (map (literal false)) ps_is)
    ∙ ap (λ (ys : List ℕ). map (literal false) b.pos ++ map (literal true) ys) ns_is)))
    (let parts = both (list_all (holds I) b.pos) (list_all (λ a. not (holds I a)) b.neg) body in
    record {
      false_here = false-both I (map (literal false) b.pos) (map (literal true) b.neg) (all-denied I b.pos parts.0) (none-denied I b.neg parts.1);
      atoms = λ l i.
          elim (append_at (map (literal false) b.pos) (map (literal true) b.neg) l i) [
            | inl p ↦ pos-inside b l.atom (literal-atom false b.pos l p)
            | inr n ↦ neg-inside b l.atom (literal-atom true b.neg l n)
          ];
      body = λ N f.
          let two = false-append N (map (literal false) b.pos) (map (literal true) b.neg) f in
          and_true (list_all (holds N) b.pos) (list_all (λ a. not (holds N a)) b.neg) (denied-all N b.pos two.0) (denied-none N b.neg two.1);
    })

-- further literals that are false in the interpretation, of atoms of the bound
pub denial-more : (b : Bound) (I : List ℕ) (old more : List Lit) → IsDenial b I old → is_false I more ≡ true
    → ((l : Lit) → IsIn l more → IsIn l.atom (bound_atoms b)) → IsDenial b I (old ++ more)
denial-more b I old more d here atoms = record {
  false_here = false-both I old more d.false_here here;
  atoms = λ l i.
      elim (append_at old more l i) [
        | inl o ↦ d.atoms l o
        | inr m ↦ atoms l m
      ];
  body = λ N f. d.body N ((false-append N old more f).0);
}

-- ---- terms that are read

pub one-false : (N : List ℕ) (l : Lit) → is_false N (l ∷ []) ≡ true → lit_true N l ≡ false
one-false N l h = not_true (lit_true N l) ((both (not (lit_true N l)) true h).0)

false-one : (N : List ℕ) (l : Lit) → lit_true N l ≡ false → is_false N (l ∷ []) ≡ true
false-one N l h = and_true (not (lit_true N l)) true (not_false (lit_true N l) h) refl

-- a term as it was read
pub term-read : (b : Bound) (n : ℕ) (terms : List Counted) (k : ℕ) (c : Counted) → terms ≡ b.counted → k < length terms → c ≡ get_or terms k c
    → is_bound_below n b ≡ true → (is_term_below n c ≡ true) × IsIn c b.counted
term-read b n terms k c are h read below =
    let member : IsIn c b.counted =
    subst (λ (cs : List Counted). IsIn c cs) are (subst (λ (x : Counted). IsIn x terms) (sym read) (get_or-member terms k c h)) in
    (bound-term n b c member below, member)

-- a member of one term more
split : (terms : List Counted) (k : ℕ) (c d : Counted) → k < length terms → c ≡ get_or terms k c → IsIn d (take (k + 1) terms)
    → IsIn d (take k terms) ⊎ (d ≡ c)
split terms k c d h read i =
    elim (append_at (take k terms) (c ∷ []) d (subst (λ (cs : List Counted). IsIn d cs) (take_more terms k c h ∙ ap (λ (x : Counted). take k terms ++ x ∷ []) (sym read)) i)) [
      | inl before ↦ inl before
      | inr here ↦ elim here [
        | inl e ↦ inr e
        | inr none ↦ absurd none
      ]
    ]

-- ---- reasons

-- the terms so far, with the atoms that are settled: they are counted in the interpretation, or false wherever the literals are
pub record LowSteps (b : Bound) (I : List ℕ) (count : ℕ) (terms : List Counted) (settled : List Bool) (clause : List Lit) : Type 0 where
  pub low : IsLowDenial b I terms clause
  pub as_many : length settled ≡ count
  pub kept : (N : List ℕ) → is_false N clause ≡ true → (a : ℕ) → holds (true_places settled) a ≡ true
      → IsIn a (counted_atoms I b) ⊎ (holds N a ≡ false)

pub low-start : (b : Bound) (I : List ℕ) (count : ℕ) (settled : List Bool) (clause : List Lit) → IsDenial b I clause
    → ArePlaces count (counted_atoms I b) settled → LowSteps b I count [] settled clause
low-start b I count settled clause d places = record {
  low = record { denial = d; stops = λ N f c i. absurd i };
  as_many = places.as_many;
  kept = λ N f a h. inl (places.alone a h);
}

-- a further term that counts, or whose atom is settled
low-skip : (b : Bound) (I : List ℕ) (count : ℕ) (terms : List Counted) (k : ℕ) (c : Counted) (settled : List Bool) (clause : List Lit) → IsIn c b.counted
    → k < length terms → c ≡ get_or terms k c → LowSteps b I count (take k terms) settled clause
    → (holds (true_places settled) c.atom || is_counted I c) ≡ true → LowSteps b I count (take (k + 1) terms) settled clause
low-skip b I count terms k c settled clause member h read steps skipped = record {
  low = record {
    denial = steps.low.denial;
    stops = λ N f d i does.
        elim (split terms k c d h read i) [
          | inl before ↦ steps.low.stops N f d before does
          | inr e ↦
              subst (λ (x : Counted). IsIn x.atom (counted_atoms I b)) (sym e)
              (elim (either (holds (true_places settled) c.atom) (is_counted I c) skipped) [
                | inl is ↦ elim (steps.kept N f c.atom is) [
                  | inl counted ↦ counted
                  | inr fails ↦
                      absurd (true_is_not_false (holds N c.atom) ((counted_at N c (subst (λ (x : Counted). is_counted N x ≡ true) e does)).atom) fails)
                ]
                | inr here ↦ in_counted_from I b c member here
              ])
        ];
  };
  as_many = steps.as_many;
  kept = steps.kept;
}

-- a further term that doesn't count, with its reason
low-reason : (b : Bound) (I : List ℕ) (count : ℕ) (terms : List Counted) (k : ℕ) (c : Counted) (l : Lit) (settled later : List Bool) (clause : List Lit)
    → IsIn c b.counted → k < length terms → c ≡ get_or terms k c → LowSteps b I count (take k terms) settled clause → IsReason I c l
    → length later ≡ count
    → ((N : List ℕ) → is_false N clause ≡ true → lit_true N l ≡ false → (a : ℕ) → holds (true_places later) a ≡ true
    → IsIn a (counted_atoms I b) ⊎ (holds N a ≡ false))
    → LowSteps b I count (take (k + 1) terms) later (clause ++ l ∷ [])
low-reason b I count terms k c l settled later clause member h read steps because size kept = record {
  low = record {
    denial = denial-more b I clause (l ∷ []) steps.low.denial (false-one I l because.false_here) (λ m i.
        elim i [
          | inl e ↦ subst (λ (x : Lit). IsIn x.atom (bound_atoms b)) (sym e) (term-inside b c l.atom member because.atom)
          | inr none ↦ absurd none
        ]);
    stops = λ N f d i does.
        let parts = false-append N clause (l ∷ []) f in
        elim (split terms k c d h read i) [
          | inl before ↦ steps.low.stops N parts.0 d before does
          | inr e ↦
              absurd (true_is_not_false (is_counted N c) (subst (λ (x : Counted). is_counted N x ≡ true) e does)
              (because.stops N (one-false N l parts.1)))
        ];
  };
  as_many = size;
  kept = λ N f a on.
      let parts = false-append N clause (l ∷ []) f in
      kept N parts.0 (one-false N l parts.1) a on;
}

-- a literal that an atom is true, where it is false
plain-false : (N : List ℕ) (l : Lit) (a : ℕ) → l.positive ≡ true → l.atom ≡ a → lit_true N l ≡ false → holds N a ≡ false
plain-false N l a up is f = sym (ap (holds N) is) ∙ (sym (ap (λ t. if t then holds N l.atom else not (holds N l.atom)) up) ∙ f)

-- a further term, as it was read
pub low-next : (b : Bound) (I : List ℕ) (count : ℕ) (terms : List Counted) (k : ℕ) (c : Counted) (settled later : List Bool) (clause new : List Lit)
    → (is_term_below count c ≡ true) × IsIn c b.counted → k < length terms → c ≡ get_or terms k c → LowSteps b I count (take k terms) settled clause
    → Reasoned I c clause new settled later → LowSteps b I count (take (k + 1) terms) later new
low-next b I count terms k c settled later clause new its h read steps (inl e) =
    subst (λ (marks : List Bool). LowSteps b I count (take (k + 1) terms) marks new) (sym e.2)
    (subst (λ (ls : List Lit). LowSteps b I count (take (k + 1) terms) settled ls) (sym e.1)
    (low-skip b I count terms k c settled clause its.1 h read steps e.0))
low-next b I count terms k c settled later clause new its h read steps (inr e) =
    subst (λ (ls : List Lit). LowSteps b I count (take (k + 1) terms) later ls) (sym e.2)
    (elim e.3 [
      | inl same ↦
          low-reason b I count terms k c e.0 settled later clause its.1 h read steps e.1 (ap length same ∙ steps.as_many) (λ N f off a on.
          steps.kept N f a (ap (λ (marks : List Bool). holds (true_places marks) a) (sym same) ∙ on))
      | inr more ↦
          low-reason b I count terms k c e.0 settled later clause its.1 h read steps e.1
          (ap length more.2 ∙ (length-set settled c.atom true ∙ steps.as_many)) (λ N f off a on.
          elim (cases_eq a c.atom) [
            | inl same ↦ inr (ap (holds N) same ∙ plain-false N e.0 c.atom more.0 more.1 off)
            | inr other ↦
                steps.kept N f a
                (sym (marked-other settled c.atom a true other) ∙ (ap (λ (marks : List Bool). holds (true_places marks) a) (sym more.2) ∙ on))
          ])
    ])

pub low-end : (b : Bound) (I : List ℕ) (count : ℕ) (terms : List Counted) (k : ℕ) (settled : List Bool) (clause : List Lit) → terms ≡ b.counted → length terms ≤ k
    → LowSteps b I count (take k terms) settled clause → IsLowDenial b I b.counted clause
low-end b I count terms k settled clause are past steps =
    subst (λ (cs : List Counted). IsLowDenial b I cs clause) (take_all k terms past ∙ are) steps.low

-- ---- counted atoms that are denied

-- further literals make one more atom counted
pub record Counts (b : Bound) (I : List ℕ) (a : ℕ) (old new : List Lit) : Type 0 where
  pub denial : IsDenial b I new
  pub before : (N : List ℕ) → is_false N new ≡ true → is_false N old ≡ true
  pub counted : (N : List ℕ) → is_false N new ≡ true → IsIn a (counted_atoms N b)

-- the literals against the atom and the condition of a term that counts
counts-by : (b : Bound) (I : List ℕ) (c : Counted) (old : List Lit) → IsIn c b.counted → is_counted I c ≡ true → IsDenial b I old
    → Counts b I c.atom old (denial_of old c)
counts-by b I c old member does d =
    let at = counted_at I c does in
    let first : IsDenial b I (old ++ literal false c.atom ∷ []) =
    denial-more b I old (literal false c.atom ∷ []) d (false-one I (literal false c.atom) (ap not at.atom)) (λ m i.
    elim i [
      | inl e ↦ subst (λ (x : Lit). IsIn x.atom (bound_atoms b)) (sym e) (term-inside b c c.atom member (inl refl))
      | inr none ↦ absurd none
    ]) in
    let second : IsDenial b I ((old ++ literal false c.atom ∷ []) ++ map (literal false) c.pos) =
    denial-more b I (old ++ literal false c.atom ∷ []) (map (literal false) c.pos) first (all-denied I c.pos at.pos_true) (λ m i.
    term-inside b c m.atom member (inr (append_left c.pos c.neg m.atom (literal-atom false c.pos m i)))) in
    record {
      denial = denial-more b I ((old ++ literal false c.atom ∷ []) ++ map (literal false) c.pos) (map (literal true) c.neg) second
          (none-denied I c.neg at.neg_false) (λ m i.
          term-inside b c m.atom member (inr (append_right c.pos c.neg m.atom (literal-atom true c.neg m i))));
      before = λ N f.
          (false-append N old (literal false c.atom ∷ [])
          ((false-append N (old ++ literal false c.atom ∷ []) (map (literal false) c.pos)
          ((false-append N ((old ++ literal false c.atom ∷ []) ++ map (literal false) c.pos) (map (literal true) c.neg) f).0)).0)).0;
      counted = λ N f.
          let last = false-append N ((old ++ literal false c.atom ∷ []) ++ map (literal false) c.pos) (map (literal true) c.neg) f in
          let mid = false-append N (old ++ literal false c.atom ∷ []) (map (literal false) c.pos) last.0 in
          let head = false-append N old (literal false c.atom ∷ []) mid.0 in
          let held : holds N c.atom ≡ true = denied_false (holds N c.atom) (one-false N (literal false c.atom) head.1) in
          in_counted_from N b c member (counted_from N c held (denied-all N c.pos mid.1) (denied-none N c.neg last.1));
    }

-- what denies a term, as it was written
pub denial-written : (c : Counted) (ps ns : List ℕ) (old one two new : List Lit) → ps ≡ c.pos → ns ≡ c.neg
    → one ≡ old ++ literal false c.atom ∷ [] → two ≡ one ++ map (literal false) ps → new ≡ two ++ map (literal true) ns → new ≡ denial_of old c
denial-written c ps ns old one two new ps_is ns_is one_is two_is is =
    is ∙ (ap (λ (ls : List Lit). ls ++ map (literal true) ns) (two_is ∙ (ap (λ (ls : List Lit). ls ++ map (literal false) ps) one_is
    ∙ ap (λ (xs : List ℕ). (old ++ literal false c.atom ∷ []) ++ map (literal false) xs) ps_is))
    ∙ ap (λ (xs : List ℕ). ((old ++ literal false c.atom ∷ []) ++ map (literal false) c.pos) ++ map (literal true) xs) ns_is)

-- the terms so far, with the atoms that are wanted still: of the others those in a list are counted wherever the literals are
-- false, and no term so far counts a wanted one
pub record HighSteps (b : Bound) (I atoms : List ℕ) (count : ℕ) (terms : List Counted) (wanted : List Bool) (clause : List Lit) : Type 0 where
  pub denial : IsDenial b I clause
  pub as_many : length wanted ≡ count
  pub counted : (N : List ℕ) → is_false N clause ≡ true → (a : ℕ) → IsIn a atoms → holds (true_places wanted) a ≡ false → IsIn a (counted_atoms N b)
  pub missing : (c : Counted) → IsIn c terms → is_counted I c ≡ true → holds (true_places wanted) c.atom ≡ false

pub high-start : (b : Bound) (I atoms : List ℕ) (count : ℕ) (wanted : List Bool) (clause : List Lit) → IsDenial b I clause → ArePlaces count atoms wanted
    → HighSteps b I atoms count [] wanted clause
high-start b I atoms count wanted clause d places = record {
  denial = d;
  as_many = places.as_many;
  counted = λ N f a i off. absurd (true_is_not_false (holds (true_places wanted) a) (places.there a i) off);
  missing = λ c i does. absurd i;
}

other_side : (x y : Bool) → (x && y) ≡ false → y ≡ true → x ≡ false
other_side true true h e = h
other_side true false h e = absurd (cc)
other_side false y h e = refl

-- a further term that counts no wanted atom
high-skip : (b : Bound) (I atoms : List ℕ) (count : ℕ) (terms : List Counted) (k : ℕ) (c : Counted) (wanted : List Bool) (clause : List Lit)
    → k < length terms → c ≡ get_or terms k c → HighSteps b I atoms count (take k terms) wanted clause
    → (holds (true_places wanted) c.atom && is_counted I c) ≡ false → HighSteps b I atoms count (take (k + 1) terms) wanted clause
high-skip b I atoms count terms k c wanted clause h read steps skipped = record {
  denial = steps.denial;
  as_many = steps.as_many;
  counted = steps.counted;
  missing = λ d i does.
      elim (split terms k c d h read i) [
        | inl before ↦ steps.missing d before does
        | inr e ↦
            ap (λ (x : Counted). holds (true_places wanted) x.atom) e
            ∙ other_side (holds (true_places wanted) c.atom) (is_counted I c) skipped (subst (λ (x : Counted). is_counted I x ≡ true) e does)
      ];
}

-- a further term that counts a wanted atom is denied
high-more : (b : Bound) (I atoms : List ℕ) (count : ℕ) (terms : List Counted) (k : ℕ) (c : Counted) (wanted : List Bool) (clause : List Lit)
    → (is_term_below count c ≡ true) × IsIn c b.counted → k < length terms → c ≡ get_or terms k c → HighSteps b I atoms count (take k terms) wanted clause
    → is_counted I c ≡ true → HighSteps b I atoms count (take (k + 1) terms) (slice_set wanted c.atom false) (denial_of clause c)
high-more b I atoms count terms k c wanted clause its h read steps does =
    let one : Counts b I c.atom clause (denial_of clause c) = counts-by b I c clause its.1 does steps.denial in
    let fits : c.atom < length wanted = fits_in c.atom count (length wanted) (term-atom count c its.0) steps.as_many in
    let off : holds (true_places (slice_set wanted c.atom false)) c.atom ≡ false = marked-same wanted c.atom false fits in
    record {
      denial = one.denial;
      as_many = length-set wanted c.atom false ∙ steps.as_many;
      counted = λ N f a i out.
          elim (cases_eq a c.atom) [
            | inl same ↦ subst (λ (x : ℕ). IsIn x (counted_atoms N b)) (sym same) (one.counted N f)
            | inr other ↦ steps.counted N (one.before N f) a i (sym (marked-other wanted c.atom a false other) ∙ out)
          ];
      missing = λ d i counts_here.
          elim (cases_eq d.atom c.atom) [
            | inl same ↦ ap (holds (true_places (slice_set wanted c.atom false))) same ∙ off
            | inr other ↦ marked-other wanted c.atom d.atom false other ∙ elim (split terms k c d h read i) [
              | inl before ↦ steps.missing d before counts_here
              | inr e ↦ absurd (other (ap (λ (x : Counted). x.atom) e))
            ]
          ];
    }

-- a further term, as it was read
pub high-next : (b : Bound) (I atoms : List ℕ) (count : ℕ) (terms : List Counted) (k : ℕ) (c : Counted) (wanted later : List Bool) (clause new : List Lit)
    → (is_term_below count c ≡ true) × IsIn c b.counted → k < length terms → c ≡ get_or terms k c → HighSteps b I atoms count (take k terms) wanted clause
    → Denied I c clause new wanted later → HighSteps b I atoms count (take (k + 1) terms) later new
high-next b I atoms count terms k c wanted later clause new its h read steps (inl e) =
    subst (λ (marks : List Bool). HighSteps b I atoms count (take (k + 1) terms) marks new) (sym e.2)
    (subst (λ (ls : List Lit). HighSteps b I atoms count (take (k + 1) terms) wanted ls) (sym e.1)
    (high-skip b I atoms count terms k c wanted clause h read steps e.0))
high-next b I atoms count terms k c wanted later clause new its h read steps (inr e) =
    subst (λ (marks : List Bool). HighSteps b I atoms count (take (k + 1) terms) marks new) (sym e.2)
    (subst (λ (ls : List Lit). HighSteps b I atoms count (take (k + 1) terms) (slice_set wanted c.atom false) ls) (sym e.1)
    (high-more b I atoms count terms k c wanted clause its h read steps
    ((both (holds (true_places wanted) c.atom) (is_counted I c) e.0).1)))

-- each of the atoms is counted by some term, so none is wanted at the end
pub high-end : (b : Bound) (I atoms : List ℕ) (count : ℕ) (terms : List Counted) (k : ℕ) (wanted : List Bool) (clause : List Lit) → terms ≡ b.counted → length terms ≤ k
    → ((a : ℕ) → IsIn a atoms → IsIn a (counted_atoms I b)) → HighSteps b I atoms count (take k terms) wanted clause → IsHighDenial b I atoms clause
high-end b I atoms count terms k wanted clause are past all steps = record {
  denial = steps.denial;
  counted = λ N f a i.
      let at : Counting I b a = in_counted_at I b a (all a i) in
      steps.counted N f a i
      (ap (holds (true_places wanted)) (sym at.its_atom)
      ∙ steps.missing at.term (subst (λ (cs : List Counted). IsIn at.term cs) (sym (take_all k terms past ∙ are)) at.member) at.does);
}

-- ---- clauses

some_true : (N : List ℕ) (clause : List Lit) → (is_false N clause ≡ true → ⊥) → is_true N clause ≡ true
some_true N [] h = absurd (h refl)
some_true N (l ∷ ls) h = elim (true_or_false (lit_true N l)) [
  | inl holds_here ↦ or_left (lit_true N l) (is_true N ls) holds_here
  | inr fails ↦ or_right (lit_true N l) (is_true N ls) (some_true N ls (λ f. h (and_true (not (lit_true N l)) (is_false N ls) (not_false (lit_true N l) fails) f)))
]

record Met (N : List ℕ) (b : Bound) : Type 0 where
  least : is_at_least b.low (length (counted_atoms N b)) ≡ true
  most : is_at_most b.high (length (counted_atoms N b)) ≡ true

met_at : (N : List ℕ) (b : Bound) → meets N b ≡ true → literals_true N b.pos b.neg ≡ true → Met N b
met_at N b met body =
    let ends = is_at_least b.low (length (counted_atoms N b)) && is_at_most b.high (length (counted_atoms N b)) in
    elim (either (not (literals_true N b.pos b.neg)) ends met) [
      | inl out ↦ absurd (true_is_not_false (literals_true N b.pos b.neg) body (not_true (literals_true N b.pos b.neg) out))
      | inr inside ↦
          let parts = both (is_at_least b.low (length (counted_atoms N b))) (is_at_most b.high (length (counted_atoms N b))) inside in
          record { least = parts.0; most = parts.1 }
    ]

-- more are enough, too
more_enough : (low : Option ℤ) (m n : ℕ) → m ≤ n → is_at_least low m ≡ true → is_at_least low n ≡ true
more_enough None m n le h = refl
more_enough (Some low) m n le h = grind (arith, ints)

atoms-from : (b : Bound) (clause : List Lit) → ((l : Lit) → IsIn l clause → IsIn l.atom (bound_atoms b)) → list_all (λ l. holds (bound_atoms b) l.atom) clause ≡ true
atoms-from b clause h = all_from (λ l. holds (bound_atoms b) l.atom) clause (λ l i. holds_from (bound_atoms b) l.atom (h l i))

pub low-clause : (b : Bound) (I : List ℕ) (clause new : List Lit) → ascends I ≡ true → new ≡ clause → is_at_least b.low (length (counted_atoms I b)) ≡ false
    → IsLowDenial b I b.counted clause → IsBoundClause b I new
low-clause b I clause new up is few low = subst (λ (c : List Lit). IsBoundClause b I c) (sym is) (record {
  false_here = low.denial.false_here;
  true_there = λ N up_there met.
      some_true N clause (λ f.
      let counted : Met N b = met_at N b met (low.denial.body N f) in
      let inside : IsIn (counted_atoms N b) (subsets (counted_atoms I b)) =
      subset_from (counted_atoms I b) (counted_atoms N b) (counted-ascends I b up) (counted-ascends N b up_there) (λ a i.
      let at : Counting N b a = in_counted_at N b a i in
      subst (λ (x : ℕ). IsIn x (counted_atoms I b)) at.its_atom (low.stops N f at.term at.member at.does)) in
      true_is_not_false (is_at_least b.low (length (counted_atoms I b)))
      (more_enough b.low (length (counted_atoms N b)) (length (counted_atoms I b)) (length-subset (counted_atoms I b) (counted_atoms N b) inside) counted.least)
      few);
  atoms = atoms-from b clause low.denial.atoms;
})

pub high-clause : (b : Bound) (I atoms : List ℕ) (clause new : List Lit) → new ≡ clause → ascends atoms ≡ true
    → ((n : ℕ) → length atoms ≤ n → is_at_most b.high n ≡ false) → IsHighDenial b I atoms clause → IsBoundClause b I new
high-clause b I atoms clause new is up many high = subst (λ (c : List Lit). IsBoundClause b I c) (sym is) (record {
  false_here = high.denial.false_here;
  true_there = λ N up_there met.
      some_true N clause (λ f.
      let counted : Met N b = met_at N b met (high.denial.body N f) in
      let inside = subset_from (counted_atoms N b) atoms (counted-ascends N b up_there) up (λ a i. high.counted N f a i) in
      true_is_not_false (is_at_most b.high (length (counted_atoms N b))) counted.most
      (many (length (counted_atoms N b)) (length-subset (counted_atoms N b) atoms inside)));
  atoms = atoms-from b clause high.denial.atoms;
})

-- ---- bounds that are met

pub met-apart : (I : List ℕ) (b : Bound) → literals_true I b.pos b.neg ≡ false → meets I b ≡ true
met-apart I b out =
    or_left (not (literals_true I b.pos b.neg))
    (is_at_least b.low (length (counted_atoms I b)) && is_at_most b.high (length (counted_atoms I b))) (not_false (literals_true I b.pos b.neg) out)

pub met-between : (I : List ℕ) (b : Bound) (n : ℕ) → n ≡ length (counted_atoms I b) → is_at_least b.low n ≡ true → is_at_most b.high n ≡ true
    → meets I b ≡ true
met-between I b n e least most =
    or_right (not (literals_true I b.pos b.neg))
    (is_at_least b.low (length (counted_atoms I b)) && is_at_most b.high (length (counted_atoms I b)))
    (and_true (is_at_least b.low (length (counted_atoms I b))) (is_at_most b.high (length (counted_atoms I b)))
    (ap (is_at_least b.low) (sym e) ∙ least) (ap (is_at_most b.high) (sym e) ∙ most))

-- the clause of one of the bounds: what it says of all
pub bounds-clause-false : (bounds : List Bound) (I : List ℕ) (clause : List Lit) → IsBoundsClause bounds I clause → is_false I clause ≡ true
bounds-clause-false bounds I clause one = one.its_clause.false_here

pub bounds-clause-true : (bounds : List Bound) (I : List ℕ) (clause : List Lit) → IsBoundsClause bounds I clause
    → (N : List ℕ) → ascends N ≡ true → meets_all N bounds ≡ true → is_true N clause ≡ true
bounds-clause-true bounds I clause one N up met = one.its_clause.true_there N up (all_at (meets N) bounds one.bound met one.member)

pub bounds-clause-atoms : (bounds : List Bound) (I : List ℕ) (clause : List Lit) → IsBoundsClause bounds I clause
    → list_all (λ l. stands_in_bounds l.atom bounds) clause ≡ true
bounds-clause-atoms bounds I clause one =
    all_from (λ l. stands_in_bounds l.atom bounds) clause (λ l i.
    any_from (λ q. holds (bound_atoms q) l.atom) bounds one.bound one.member
    (all_at (λ m. holds (bound_atoms one.bound) m.atom) clause l one.its_clause.atoms i))

-- a prefix of an ascending list
pub take-ascends : (xs : List ℕ) (k : ℕ) → ascends xs ≡ true → ascends (take k xs) ≡ true
take-ascends xs zero up = refl
take-ascends [] (suc k) up = refl
take-ascends (x ∷ []) (suc zero) up = refl
take-ascends (x ∷ []) (suc (suc k)) up = refl
take-ascends (x ∷ y ∷ ys) (suc zero) up = refl
take-ascends (x ∷ y ∷ ys) (suc (suc k)) up =
    let parts = both (nat_lt x y) (ascends (y ∷ ys)) up in
    and_true (nat_lt x y) (ascends (y ∷ take k ys)) parts.0 (take-ascends (y ∷ ys) (suc k) parts.1)

pub take-member : (xs : List ℕ) (k a : ℕ) → IsIn a (take k xs) → IsIn a xs
take-member xs zero a i = absurd i
take-member [] (suc k) a i = absurd i
take-member (x ∷ xs) (suc k) a (inl e) = inl e
take-member (x ∷ xs) (suc k) a (inr i) = inr (take-member xs k a i)

-- the first of the counted atoms, as they were read
pub first-counted : (I : List ℕ) (b : Bound) (xs : List ℕ) (most a : ℕ) → xs ≡ counted_atoms I b → IsIn a (take most xs) → IsIn a (counted_atoms I b)
first-counted I b xs most a e i = subst (λ (ys : List ℕ). IsIn a ys) e (take-member xs most a i)

pub first-ascends : (I : List ℕ) (b : Bound) (xs : List ℕ) (most : ℕ) → ascends I ≡ true → xs ≡ counted_atoms I b → ascends (take most xs) ≡ true
first-ascends I b xs most up e = take-ascends xs most (ap ascends e ∙ counted-ascends I b up)

pub first-many : (xs : List ℕ) (most n : ℕ) → most ≤ length xs → length (take most xs) ≤ n → most ≤ n
first-many xs most n le h = let size = length-take most xs in omega arith

-- a bound as it was read
pub bounds-clause-read : (bounds : List Bound) (k : ℕ) (b : Bound) (I : List ℕ) (clause : List Lit) → k < length bounds → b ≡ get_or bounds k b
    → IsBoundClause b I clause → IsBoundsClause bounds I clause
bounds-clause-read bounds k b I clause h read one =
    record { bound = b; member = subst (λ (x : Bound). IsIn x bounds) (sym read) (get_or-member bounds k b h); its_clause = one }
