-- How representatives are found.
use Rattle.std.proofs.Common.{ℕ, ◌≡◌, ◌⊎◌, ◌+◌, ◌<◌, refl, sym, ◌∙◌, ap, subst, inl, inr, Bool, true, false, not, cond, List, [], ◌∷◌, ◌++◌, length, get_or, take, Option, Some, None}
use Rattle.std.specs.Prelude.{if◌then◌else◌, option_map, is_some}
use Rattle.std.specs.List.{filter}
use Rattle.std.specs.Map.{lookup}
use Rattle.asp_defs.specs.declared.syntax.Term.{Term}
use Rattle.asp_defs.specs.Lists.{IsIn}
use Rattle.asp_defs.specs.Instances.{same_variable}
use Rattle.asp_defs.specs.Safety.{is_variable_of}
use Rattle.asp_defs.proofs.Lists.{true_or_false, not_true, not_false, filter_at, filter_from, append_at, append_left, append_right, map_at, map_from}
use Rattle.asp_defs.proofs.TextRefutations.{clash}
use Rattle.asp_safety.specs.declared.variable.Variable.{Variable}
use Rattle.asp_safety.specs.declared.bindings.Link.{Link}
use Rattle.asp_safety.specs.contracts.variable.VariablePartialEq.TheImpl.{eq-value}
use Rattle.asp_safety.specs.Variables.{term_of, terms_of}
use Rattle.asp_safety.specs.Bindings.{link_of, links_of}
use Rattle.asp_safety.specs.Closure.{Within, IsSpread, IsLeast}
use Rattle.asp_safety.specs.Representatives.{IsSymmetric, AreJoined, representative_of, IsRepresented, Represent, RepresentSome, Represents, Keeps}
use Rattle.asp_defs.proofs.SafetyLaws.{equal}
use Rattle.asp_safety.proofs.Members.{itself, member_at, member_from, same_truth}
use Rattle.asp_safety.proofs.Sets.{eq_is}
use Rattle.asp_safety.proofs.Safe.{variable_self}
use Rattle.asp_safety.proofs.Steps.{map_more}
use Rattle.asp_walk.proofs.Lists.{get_is_in}

-- a look-up by `==` is one by terms
pub represented_is : (entries : List (Variable × Variable)) (v : Variable) → lookup ((eq-value).it v) entries ≡ lookup (λ w. same_variable (term_of v) (term_of w)) entries
represented_is [] v = refl
represented_is (e ∷ entries) v =
    ap (λ b. cond b (Some e.1) (lookup ((eq-value).it v) entries)) (eq_is v e.0)
    ∙ ap (λ o. cond (same_variable (term_of v) (term_of e.0)) (Some e.1) o) (represented_is entries v)

-- the value of an option, or another
abbrev some_or : Term → Option Term → Term
some_or d None = d
some_or d (Some t) = t

abbrev has_term : Option Term → Bool
has_term None = false
has_term (Some t) = true

pub some_represented : (o : Option Variable) (representative : Option Term) → option_map term_of o ≡ representative → is_some o ≡ true → (r : Term) × (representative ≡ Some r)
some_represented None representative e h = clash h
some_represented (Some v) representative e h = (term_of v, sym e)

-- a representative is a variable
variable_itself : (o : Option Variable) (r : Term) → option_map term_of o ≡ Some r → same_variable r r ≡ true
variable_itself None r e = clash (ap has_term e)
variable_itself (Some v) r e = subst (λ t. same_variable t t ≡ true) (ap (some_or r) e) (itself v)

pub representative_itself : (entries : List (Variable × Variable)) (u r : Term) → representative_of entries u ≡ Some r → same_variable r r ≡ true
representative_itself entries u r e = variable_itself (lookup (λ v. same_variable u (term_of v)) entries) r e

-- ---- variables get a representative

abbrev entry_of : Bool → Term → Option Term → Option Term
entry_of b r o = if b then Some r else o

pub represents_none : (before : List (Variable × Variable)) (r : Term) → Represents before before [] r
represents_none before r v = refl

pub represents_step : (xs : List Variable) (i : ℕ) (d : Variable) → i < length xs → (before mid after : List (Variable × Variable)) (representative : Variable) → Represents before mid (terms_of (take i xs)) (term_of representative) → ((q : Variable) → lookup ((eq-value).it q) after ≡ cond ((eq-value).it (get_or xs i d) q) (Some representative) (lookup ((eq-value).it q) mid)) → Represents before after (terms_of (take (i + 1) xs)) (term_of representative)
represents_step xs i d h before mid after representative old updates v =
    ap (option_map term_of) (sym (represented_is after v) ∙ updates v) ∙ go (true_or_false ((eq-value).it (get_or xs i d) v))
  where
    more : terms_of (take (i + 1) xs) ≡ terms_of (take i xs) ++ term_of (get_or xs i d) ∷ []
    more = map_more term_of xs i d h

    here : (eq-value).it (get_or xs i d) v ≡ true → is_variable_of (terms_of (take (i + 1) xs)) (term_of v) ≡ true
    here e =
        subst (λ (ws : List Term). is_variable_of ws (term_of v) ≡ true) (sym more)
        (member_from (terms_of (take i xs) ++ term_of (get_or xs i d) ∷ []) (term_of v) (itself v)
        (append_right (terms_of (take i xs)) (term_of (get_or xs i d) ∷ []) (term_of v)
        (inl (sym (equal (term_of (get_or xs i d)) (term_of v) (sym (eq_is (get_or xs i d) v) ∙ e))))))

    fewer : (eq-value).it (get_or xs i d) v ≡ false → is_variable_of (terms_of (take i xs) ++ term_of (get_or xs i d) ∷ []) (term_of v) ≡ true → is_variable_of (terms_of (take i xs)) (term_of v) ≡ true
    fewer e t = elim (append_at (terms_of (take i xs)) (term_of (get_or xs i d) ∷ []) (term_of v) (member_at (terms_of (take i xs) ++ term_of (get_or xs i d) ∷ []) (term_of v) t)) [
      | inl k ↦ member_from (terms_of (take i xs)) (term_of v) (itself v) k
      | inr k ↦ elim k [
        | inl s ↦ clash (sym e ∙ (eq_is (get_or xs i d) v ∙ subst (λ w. same_variable (term_of (get_or xs i d)) w ≡ true) (sym s) (itself (get_or xs i d))))
        | inr never ↦ absurd never
      ]
    ]

    same : (eq-value).it (get_or xs i d) v ≡ false → is_variable_of (terms_of (take (i + 1) xs)) (term_of v) ≡ is_variable_of (terms_of (take i xs)) (term_of v)
    same e =
        ap (λ (ws : List Term). is_variable_of ws (term_of v)) more
        ∙ same_truth (is_variable_of (terms_of (take i xs) ++ term_of (get_or xs i d) ∷ []) (term_of v)) (is_variable_of (terms_of (take i xs)) (term_of v)) (fewer e)
        (λ t. member_from (terms_of (take i xs) ++ term_of (get_or xs i d) ∷ []) (term_of v) (itself v)
        (append_left (terms_of (take i xs)) (term_of (get_or xs i d) ∷ []) (term_of v) (member_at (terms_of (take i xs)) (term_of v) t)))

    go : ((eq-value).it (get_or xs i d) v ≡ true) ⊎ ((eq-value).it (get_or xs i d) v ≡ false) → option_map term_of (cond ((eq-value).it (get_or xs i d) v) (Some representative) (lookup ((eq-value).it v) mid)) ≡ entry_of (is_variable_of (terms_of (take (i + 1) xs)) (term_of v)) (term_of representative) (representative_of before (term_of v))
    go (inl e) =
        ap (λ (b : Bool). option_map term_of (cond b (Some representative) (lookup ((eq-value).it v) mid))) e
        ∙ sym (ap (λ (b : Bool). entry_of b (term_of representative) (representative_of before (term_of v))) (here e))
    go (inr e) =
        ap (λ (b : Bool). option_map term_of (cond b (Some representative) (lookup ((eq-value).it v) mid))) e
        ∙ (ap (option_map term_of) (represented_is mid v)
        ∙ (old v ∙ sym (ap (λ (b : Bool). entry_of b (term_of representative) (representative_of before (term_of v))) (same e))))

pub represents_kept : (before after : List (Variable × Variable)) (R : List Term) (n : Term) → Represents before after R n → Keeps before after
represents_kept before after R n represents v represented = elim (true_or_false (is_variable_of R (term_of v))) [
  | inl h ↦ (n, represents v ∙ ap (λ (b : Bool). entry_of b n (representative_of before (term_of v))) h)
  | inr h ↦ (represented.0, represents v ∙ (ap (λ (b : Bool). entry_of b n (representative_of before (term_of v))) h ∙ represented.1))
]

pub represents_member : (before after : List (Variable × Variable)) (R : List Term) (n : Term) → Represents before after R n → (v : Variable) → IsIn (term_of v) R → IsRepresented after (term_of v)
represents_member before after R n represents v i =
    (n, represents v ∙ ap (λ (b : Bool). entry_of b n (representative_of before (term_of v))) (member_from R (term_of v) (itself v) i))

-- ---- what links reach from one variable is joined

-- all that is reached is closed into by what has the start
reach_there : (links : List (Term × Term)) (s : Term) (R : List Term) → IsLeast (s ∷ []) links R → (vs : List Term) → IsSpread [] links vs → IsIn s vs → Within R vs
reach_there links s R least vs spread i =
    least.least vs (record {
      has = λ v j. elim j [ inl e ↦ subst (λ w. IsIn w vs) (sym e) i | inr never ↦ absurd never ];
      goes = spread.goes;
    })

-- what has something that is reached has the start: else all that it hasn't would be closed without it
reach_back : (links : List (Term × Term)) (s : Term) (R : List Term) → IsLeast (s ∷ []) links R → ((w : Term) → IsIn w R → same_variable w w ≡ true) → IsSymmetric links → (vs : List Term) → IsSpread [] links vs → (u : Term) → IsIn u R → IsIn u vs → IsIn s vs
reach_back links s R least selfs symmetric vs spread u r i = elim (true_or_false (is_variable_of vs s)) [
  | inl h ↦ member_at vs s h
  | inr h ↦
      let j = least.least (filter (λ w. not (is_variable_of vs w)) R) (others h) u r in
      clash (sym (not_true (is_variable_of vs u) (filter_at (λ w. not (is_variable_of vs w)) R u j).1) ∙ member_from vs u (selfs u r) i)
]
  where
    outside : (x y : Term) → IsIn (x, y) links → IsIn x R → is_variable_of vs x ≡ false → is_variable_of vs y ≡ false
    outside x y l j h = elim (true_or_false (is_variable_of vs y)) [
      | inl k ↦ clash (sym h ∙ member_from vs x (selfs x j) (spread.goes y x (symmetric x y l) (member_at vs y k)))
      | inr k ↦ k
    ]

    others : is_variable_of vs s ≡ false → IsSpread (s ∷ []) links (filter (λ w. not (is_variable_of vs w)) R)
    others h = record {
      has = λ v j. elim j [
        | inl e ↦
            subst (λ w. IsIn w (filter (λ x. not (is_variable_of vs x)) R)) (sym e)
            (filter_from (λ w. not (is_variable_of vs w)) R s (least.spread.has s (inl refl)) (not_false (is_variable_of vs s) h))
        | inr never ↦ absurd never
      ];
      goes = λ x y l j.
          let k = filter_at (λ w. not (is_variable_of vs w)) R x j in
          filter_from (λ w. not (is_variable_of vs w)) R y (least.spread.goes x y l k.0)
          (not_false (is_variable_of vs y) (outside x y l k.0 (not_true (is_variable_of vs x) k.1)));
    }

reach_joined : (links : List (Term × Term)) (s : Term) (R : List Term) → IsLeast (s ∷ []) links R → ((w : Term) → IsIn w R → same_variable w w ≡ true) → IsSymmetric links → (u n : Term) → IsIn u R → IsIn n R → AreJoined links u n
reach_joined links s R least selfs symmetric u n i j = record {
  there = λ vs spread k. reach_there links s R least vs spread (reach_back links s R least selfs symmetric vs spread u i k) n j;
  back = λ vs spread k. reach_there links s R least vs spread (reach_back links s R least selfs symmetric vs spread n j k) u i;
}

-- ---- a step

-- the ends of a link of the checker's
ends : (ls : List Link) (u v : Term) → IsIn (u, v) (links_of ls) → (x : Variable) × (y : Variable) × (u ≡ term_of x) × (v ≡ term_of y)
ends ls u v i =
    let found = map_at link_of ls (u, v) i in
    ((found.0).from, (found.0).to, ap (λ (p : Term × Term). p.0) found.2, ap (λ (p : Term × Term). p.1) found.2)

pub represent_more : (ls : List Link) (before after : List (Variable × Variable)) (xs : List Variable) (s n : Term) → IsLeast (s ∷ []) (links_of ls) (terms_of xs) → IsSymmetric (links_of ls) → Represent (links_of ls) before → IsIn n (s ∷ terms_of xs) → Represents before after (terms_of xs) n → Represent (links_of ls) after
represent_more ls before after xs s n least symmetric old among represents = record {
  same = λ u v i.
      let e = ends ls u v i in
      is_now e.0 u e.2
      ∙ (ap (λ (b : Bool). entry_of b n (representative_of before u)) (tests u v i)
      ∙ (ap (λ (o : Option Term). entry_of (is_variable_of (terms_of xs) v) n o) (old.same u v i)
      ∙ sym (is_now e.1 v e.3)));
  joined = λ v r e. go v r e (true_or_false (is_variable_of (terms_of xs) (term_of v)));
}
  where
    within : IsIn n (terms_of xs)
    within = elim among [
      | inl e ↦ subst (λ w. IsIn w (terms_of xs)) (sym e) (least.spread.has s (inl refl))
      | inr i ↦ i
    ]

    is_now : (x : Variable) (u : Term) → u ≡ term_of x → representative_of after u ≡ entry_of (is_variable_of (terms_of xs) u) n (representative_of before u)
    is_now x u e =
        subst (λ w. representative_of after w ≡ entry_of (is_variable_of (terms_of xs) w) n (representative_of before w)) (sym e) (represents x)

    tests : (u v : Term) → IsIn (u, v) (links_of ls) → is_variable_of (terms_of xs) u ≡ is_variable_of (terms_of xs) v
    tests u v i =
        let e = ends ls u v i in
        same_truth (is_variable_of (terms_of xs) u) (is_variable_of (terms_of xs) v)
        (λ h. member_from (terms_of xs) v (subst (λ w. same_variable w w ≡ true) (sym e.3) (itself e.1)) (least.spread.goes u v i (member_at (terms_of xs) u h)))
        (λ h. member_from (terms_of xs) u (subst (λ w. same_variable w w ≡ true) (sym e.2) (itself e.0)) (least.spread.goes v u (symmetric u v i) (member_at (terms_of xs) v h)))

    go : (v : Variable) (r : Term) → representative_of after (term_of v) ≡ Some r → (is_variable_of (terms_of xs) (term_of v) ≡ true) ⊎ (is_variable_of (terms_of xs) (term_of v) ≡ false) → AreJoined (links_of ls) (term_of v) r
    go v r e (inl h) =
        let same : Some n ≡ Some r = sym (ap (λ (b : Bool). entry_of b n (representative_of before (term_of v))) h) ∙ (sym (represents v) ∙ e) in
        subst (λ w. AreJoined (links_of ls) (term_of v) w) (ap (some_or n) same)
        (reach_joined (links_of ls) s (terms_of xs) least (variable_self xs) symmetric (term_of v) n (member_at (terms_of xs) (term_of v) h) (within))
    go v r e (inr h) =
        old.joined v r (sym (ap (λ (b : Bool). entry_of b n (representative_of before (term_of v))) h) ∙ (sym (represents v) ∙ e))

pub represent_start : (xs : List Variable) (v : Variable) (links : List (Term × Term)) → IsLeast (term_of v ∷ []) links (terms_of xs) → IsIn (term_of v) (terms_of xs)
represent_start xs v links least = least.spread.has (term_of v) (inl refl)

-- ---- a loop over links

pub represent_none : (links : List (Term × Term)) → RepresentSome links [] []
represent_none links = record {
  represent = record { same = λ u v i. refl; joined = λ v r e. clash (ap has_term e) };
  represented = λ u v i. absurd i;
}

pub represent_step : (ls : List Link) (i : ℕ) (d : Link) → i < length ls → (mid after : List (Variable × Variable)) → RepresentSome (links_of ls) (links_of (take i ls)) mid → Represent (links_of ls) after → IsRepresented after (term_of (get_or ls i d).from) → Keeps mid after → RepresentSome (links_of ls) (links_of (take (i + 1) ls)) after
represent_step ls i d h mid after old represent start kept = record {
  represent = represent;
  represented = λ u v j. elim (append_at (links_of (take i ls)) (link_of (get_or ls i d) ∷ []) (u, v) (subst (λ (ks : List (Term × Term)). IsIn (u, v) ks) (map_more link_of ls i d h) j)) [
    | inl k ↦ before u v k
    | inr k ↦ elim k [
      | inl e ↦ subst (λ w. IsRepresented after w) (sym (ap (λ (p : Term × Term). p.0) e)) start
      | inr never ↦ absurd never
    ]
  ];
}
  where
    before : (u v : Term) → IsIn (u, v) (links_of (take i ls)) → IsRepresented after u
    before u v k =
        let e = ends (take i ls) u v k in
        subst (λ w. IsRepresented after w) (sym e.2) (kept e.0 (subst (λ w. IsRepresented mid w) e.2 (old.represented u v k)))

-- ---- the shortest variable

pub best_step : (xs : List Variable) (i : ℕ) (d : Variable) → i < length xs → (first best shorter : Term) → IsIn best (first ∷ terms_of xs) → (shorter ≡ best) ⊎ (shorter ≡ term_of (get_or xs i d)) → IsIn shorter (first ∷ terms_of xs)
best_step xs i d h first best shorter old (inl e) = subst (λ w. IsIn w (first ∷ terms_of xs)) (sym e) old
best_step xs i d h first best shorter old (inr e) =
    subst (λ w. IsIn w (first ∷ terms_of xs)) (sym e) (inr (map_from term_of xs (get_or xs i d) (get_is_in xs i d h)))
