-- Each step of the turn keeps its rule.
use Rattle.std.proofs.Common.{◌≡◌, ◌≢◌, ℕ, ◌==◌, ◌≤◌, List, [], ◌∷◌, ◌++◌, inl, inr, ⊎_elim, length, get_or, set, Option, Some, None, IfSome, refl, ap, sym, subst, ◌∙◌, arith, le_refl}
use mathlib.Core.Logic.{dite}
use mathlib.Core.Option.{some, none, some-injective}
use mathlib.Core.List.{IsPrefix}
use native.Mathlib.Decide.{ℕ_discrete}
use lib.ListN.{get_elem?}
use prog.Atomic.{either}
use Rattle.atomic_table.specs.Table.{State, Me, Act, keeps, takes, gives, step, stepped, carried_after, Valid, Allows, Splits, Joins, opening}
use Rattle.atomic_table.proofs.Lists.{at_snoc, at_longer, set_again, set_else}
use Rattle.asp_turn.specs.declared.view.View.{View}
use Rattle.asp_turn.specs.Rule.{Knows, IsCounted, AtHome, IsOut, Running}
use Rattle.asp_turn.specs.Steps.{seated, holding, refused_once, resting, informed, Takes, Attempts, Gives, Settles, longer, shorter}
use Rattle.asp_turn.proofs.Prefixes.{prefix_self, prefix_trans, prefix_shorter, prefix_of_longer, prefix_of_shorter}
use Rattle.asp_turn.proofs.Views.{each_set, each_snoc, each_one, set_there, counts_of, rises_set, rises_counting, rises_snoc, counted_set, counted_self, counted_snoc, counted_by}

module _ {A : Type 0} where
  if_some : (P Q : A → Type 0) → ((x : A) → P x → Q x) → (o : Option A) → IfSome o P → IfSome o Q
  if_some P Q f None p = tt
  if_some P Q f (Some x) p = f x p

  that_is : (o : Option A) (P : A → Type 0) (x : A) → o ≡ Some x → IfSome o P → P x
  that_is o P x e p = let Q : Option A → Type 0 = λ z. IfSome z P in subst Q e p

nothing_begins : {A : Type 0} (xs : List A) → IsPrefix [] xs
nothing_begins xs = (xs, refl)

no_some : {A : Type 0} (o : Option A) (x : A) → o ≡ Some x → o ≡ None → ⊥
no_some o x e n = cc

some_same : {A : Type 0} (o : Option A) (x y : A) → o ≡ Some x → o ≡ Some y → x ≡ y
some_same o x y e f = cc

-- a view that has what the other has, but for the story
pub record SameHand {W I : Type 0} (v w : View W I) : Type 0 where
  pub taken : w.taken ≡ v.taken
  pub refused : w.refused ≡ v.refused
  pub counted : w.counted ≡ v.counted

module _ {V W I : Type 0} where
  -- a seat's view has changed, and its hand has not
  still_out : (story : List I) (s : State (Option V) (View W I)) → IsOut story s → (me : ℕ) (v w : View W I) → get_elem? s.views me ≡ some v → SameHand v w
      → IsOut story record { words = s.words; homes = s.homes; views = set s.views me w }
  still_out story s h me v w at same = dite (ℕ_discrete h.holder me)
      (λ e. let here : get_elem? s.views h.holder ≡ some v = ap (λ (k : ℕ). get_elem? s.views k) e ∙ at in
      let same_view : h.view ≡ v = some-injective h.view v (sym h.sits ∙ here) in
      let mine : IsCounted s.views me v = subst (λ (x : ℕ × View W I). IsCounted s.views x.0 x.1) (λ i. (e i, same_view i)) h.counted in record {
        word = h.word;
        home = h.home;
        holder = me;
        view = w;
        sits = set_there s.views me v w at;
        holds = same.taken ∙ (ap (λ (u : View W I). u.taken) (sym same_view) ∙ h.holds);
        idle = λ j u ne a. each_set (λ (k : ℕ) (x : View W I). k ≢ me → x.taken ≡ None) s.views me w (λ other. absurd (other refl)) (λ k x _ b other. h.idle k x (λ f. other (f ∙ e)) b) j u a ne;
        counted = counted_self s.views me v w same.refused mine;
      })
      (λ ne. record {
        word = h.word;
        home = h.home;
        holder = h.holder;
        view = h.view;
        sits = set_else s.views me h.holder w ne ∙ h.sits;
        holds = h.holds;
        idle = λ j u apart a. each_set (λ (k : ℕ) (x : View W I). k ≢ h.holder → x.taken ≡ None) s.views me w
            (λ other. same.taken ∙ h.idle me v other at) (λ k x _ b other. h.idle k x other b) j u a apart;
        counted = counted_set s.views me v w h.holder h.view at same.counted h.counted;
      })

module _ {V W I : Type 0} (world : V → W) (story_of : V → List I) (one : W) where
  abbrev St : Type 0
  St = State (Option V) (View W I)

  abbrev Seated : Type 0
  Seated = Me (Option V) (View W I)

  abbrev Rule : St → Type 0
  Rule = Running world story_of one

  -- a step that moves nothing but what one seat knows of the story
  stays : (s : St) (r : Rule s) (me : ℕ) (v w : View W I) → get_elem? s.views me ≡ some v → SameHand v w → Knows one r.story w
      → Rule record { words = s.words; homes = s.homes; views = set s.views me w }
  stays s r me v w at same knows = record {
    story = r.story;
    knows = each_set (λ (_ : ℕ) (u : View W I). Knows one r.story u) s.views me w knows (λ j u _ a. r.knows j u a);
    rises = rises_set s.views me v w r.rises at same.counted (let h = same.refused in omega arith);
    place = ⊎_elim (λ (h : AtHome world story_of one r.story s). inl record {
      word = h.word;
      value = h.value;
      home = h.home;
      stands = h.stands;
      tells = h.tells;
      idle = each_set (λ (_ : ℕ) (u : View W I). u.taken ≡ None) s.views me w (same.taken ∙ h.idle me v at) (λ j u _ a. h.idle j u a);
      counted = each_set (λ (j : ℕ) (u : View W I). IsCounted (set s.views me w) j u) s.views me w (counted_self s.views me v w same.refused (h.counted me v at))
          (λ j u _ a. counted_set s.views me v w j u at same.counted (h.counted j u a));
    }) (λ (h : IsOut r.story s). inr (still_out r.story s h me v w at same)) r.place;
  }

  -- the words are the same list
  on_words : (s : St) (ws : List ℕ) (vs : List (View W I)) → s.words ≡ ws → Rule record { words = s.words; homes = s.homes; views = vs } → Rule record { words = ws; homes = s.homes; views = vs }
  on_words s ws vs e r = subst (λ (xs : List ℕ). Rule record { words = xs; homes = s.homes; views = vs }) e r

  -- a seat that holds nothing is refused while another holds
  refuses : (s : St) (r : Rule s) (h : IsOut r.story s) (me : ℕ) (v : View W I) → get_elem? s.views me ≡ some v → v.taken ≡ None
      → Rule record { words = s.words; homes = s.homes; views = set s.views me (refused_once v) }
  refuses s r h me v at idle = let k = r.knows me v at in let w : View W I = refused_once v in
      let apart : h.holder ≢ me = λ e. let here : get_elem? s.views h.holder ≡ some v = ap (λ (j : ℕ). get_elem? s.views j) e ∙ at in
      let same_view : h.view ≡ v = some-injective h.view v (sym h.sits ∙ here) in
      no_some v.taken r.story (ap (λ (u : View W I). u.taken) (sym same_view) ∙ h.holds) idle in record {
        story = r.story;
        knows = each_set (λ (_ : ℕ) (u : View W I). Knows one r.story u) s.views me w record { world = k.world; seen = k.seen; told = k.told } (λ j u _ a. r.knows j u a);
        rises = rises_set s.views me v w r.rises at refl (omega arith);
        place = inr record {
          word = h.word;
          home = h.home;
          holder = h.holder;
          view = h.view;
          sits = set_else s.views me h.holder w apart ∙ h.sits;
          holds = h.holds;
          idle = λ j u ne a. each_set (λ (i : ℕ) (x : View W I). i ≢ h.holder → x.taken ≡ None) s.views me w (λ _. idle) (λ i x _ b other. h.idle i x other b) j u a ne;
          counted = counted_set s.views me v w h.holder h.view at refl h.counted;
        };
      }

  -- a step is possible at the number found: a view, an act, and all that the step owes
  abbrev Goes : St → ℕ → Seated → (ℕ → ℕ) → (ℕ → Seated → Type 0) → ℕ → Type 0
  Goes s id me f then n = (w : View W I) × (a : Act (Option V)) × Valid s.homes me.1 a × Rule (stepped s 0 (f n) id me.1 w a) × then n (w, carried_after me.1 a)

  took : (s : St) (r : Rule s) (h : AtHome world story_of one r.story s) (id : ℕ) (me : Seated) → get_elem? s.views id ≡ some me.0
      → Rule (stepped s 0 1 id me.1 (holding me.0 (story_of h.value)) (takes 0 (Some h.value)))
  took s r h id me at = let k = r.knows id me.0 at in let w : View W I = holding me.0 (story_of h.value) in record {
    story = r.story;
    knows = each_set (λ (_ : ℕ) (u : View W I). Knows one r.story u) s.views id w record { world = k.world; seen = k.seen; told = k.told } (λ j u _ a. r.knows j u a);
    rises = rises_set s.views id me.0 w r.rises at refl (le_refl me.0.refused);
    place = inr record {
      word = ap (λ (ws : List ℕ). set ws 0 1) h.word;
      home = ap (λ (hs : List (mathlib.Core.Option.Option (Option V))). set hs 0 none) h.home;
      holder = id;
      view = w;
      sits = set_there s.views id me.0 w at;
      holds = ap Some h.tells;
      idle = λ j u ne a. each_set (λ (k : ℕ) (x : View W I). k ≢ id → x.taken ≡ None) s.views id w (λ other. absurd (other refl)) (λ k x _ b _. h.idle k x b) j u a ne;
      counted = counted_self s.views id me.0 w refl (h.counted id me.0 at);
    };
  }

  -- the attempt to take: it takes the value where the word is 0, and else the seat is refused
  pub attempts : (slots id : ℕ) (me : Seated) → me.0.taken ≡ None → Allows Rule slots id me 0 (λ n. either (n == 0) 1 n) (Attempts world story_of (step slots 0 0 1 none) me)
  attempts slots id me idle s r len at small = let f : ℕ → ℕ = λ n. either (n == 0) 1 n in let then = Attempts world story_of (step slots 0 0 1 none) me in
      let k = r.knows id me.0 at in let P : ℕ → Type 0 = Goes s id me f then in
      ⊎_elim
      (λ (h : AtHome world story_of one r.story s). let x : V = h.value in
      let told : Takes world story_of me (holding me.0 (story_of x), (0, Some x) ∷ me.1) = (
        x,
        refl,
        if_some (λ (y : W). y ≡ one) (λ (y : W). y ≡ world x) (λ y e. e ∙ sym h.stands) me.0.world k.world,
        subst (λ (xs : List I). IsPrefix me.0.seen xs) (sym h.tells) k.seen,
      ) in
      subst P (sym (ap (λ (ws : List ℕ). get_or ws 0 0) h.word))
      (holding me.0 (story_of x), takes 0 (Some x), ap (λ (hs : List (mathlib.Core.Option.Option (Option V))). get_elem? hs 0) h.home, took s r h id me at, ((λ _. told), (λ ne. absurd (ne refl)))))
      (λ (h : IsOut r.story s). let w : View W I = refused_once me.0 in
      let same : s.words ≡ set s.words 0 1 = h.word ∙ sym (ap (λ (ws : List ℕ). set ws 0 1) h.word) in
      subst P (sym (ap (λ (ws : List ℕ). get_or ws 0 0) h.word))
      (w, keeps, tt, on_words s (set s.words 0 1) (set s.views id w) same (refuses s r h id me.0 at idle), ((λ (e : 1 ≡ 0). absurd (omega arith)), (λ _. refl))))
      r.place

  abbrev value_in : V → List (ℕ × Option V) → V
  value_in d [] = d
  value_in d ((k, None) ∷ xs) = d
  value_in d ((k, Some x) ∷ xs) = x

  -- the one holder gives the value back, and counts the refused takes of all
  gave_back : (s : St) (r : Rule s) (h : IsOut r.story s) (id : ℕ) (v : View W I) (x : V) → id ≡ h.holder → get_elem? s.views id ≡ some v → h.view ≡ v → IsPrefix r.story (story_of x) → world x ≡ one
      → Rule (stepped s 0 0 id ((0, Some x) ∷ []) (resting v (story_of x) (counts_of s.views)) gives)
  gave_back s r h id v x e at same grown stands = let k = r.knows id v at in let w : View W I = resting v (story_of x) (counts_of s.views) in
      let more : (u : View W I) → Knows one r.story u → Knows one (story_of x) u = λ u known. record {
        world = known.world;
        seen = prefix_trans u.seen r.story (story_of x) known.seen grown;
        told = prefix_trans u.told r.story (story_of x) known.told grown;
      } in
      let mine : IsCounted s.views id v = subst (λ (y : ℕ × View W I). IsCounted s.views y.0 y.1) (λ i. (sym e i, same i)) h.counted in record {
        story = story_of x;
        knows = each_set (λ (_ : ℕ) (u : View W I). Knows one (story_of x) u) s.views id w
            record { world = k.world; seen = prefix_self (story_of x); told = (more v k).told } (λ j u _ a. more u (r.knows j u a));
        rises = rises_counting s.views id v w r.rises at refl refl;
        place = inl record {
          word = ap (λ (ws : List ℕ). set ws 0 0) h.word;
          value = x;
          home = ap (λ (hs : List (mathlib.Core.Option.Option (Option V))). set hs 0 (some (Some x))) h.home;
          stands = stands;
          tells = refl;
          idle = each_set (λ (_ : ℕ) (u : View W I). u.taken ≡ None) s.views id w refl (λ j u ne a. h.idle j u (λ other. ne (other ∙ sym e)) a);
          counted = each_set (λ (j : ℕ) (u : View W I). IsCounted (set s.views id w) j u) s.views id w (counted_self s.views id v w refl mine)
              (λ j u ne a. counted_by s.views id v w j u at refl ne a);
        };
      }

  gives_at : (slots id : ℕ) (v : View W I) (x : V) (taken : List I) → v.taken ≡ Some taken → IsPrefix taken (story_of x) → v.world ≡ Some (world x)
      → Allows Rule slots id (v, (0, Some x) ∷ []) 0 (λ _. 0) (λ _. Gives (λ u y counted. resting u (story_of y) counted) (step slots 0 0 0 none) (v, (0, Some x) ∷ []) 0)
  gives_at slots id v x taken holds grown stands s r len at small = let k = r.knows id v at in let me : Seated = (v, (0, Some x) ∷ []) in
      ⊎_elim
      (λ (h : AtHome world story_of one r.story s). absurd (no_some v.taken taken holds (h.idle id v at)))
      (λ (h : IsOut r.story s). dite (ℕ_discrete id h.holder)
      (λ e. let here : get_elem? s.views id ≡ some h.view = ap (λ (j : ℕ). get_elem? s.views j) e ∙ h.sits in
      let same : h.view ≡ v = some-injective h.view v (sym here ∙ at) in
      let story_is : taken ≡ r.story = some_same v.taken taken r.story holds (ap (λ (u : View W I). u.taken) (sym same) ∙ h.holds) in (
        resting v (story_of x) (counts_of s.views),
        gives,
        tt,
        gave_back s r h id v x e at same (subst (λ (xs : List I). IsPrefix xs (story_of x)) story_is grown) (that_is v.world (λ (y : W). y ≡ one) (world x) stands k.world),
        (λ y f. let is : x ≡ y = ap (λ (l : List (ℕ × Option V)). value_in x l) f in (counts_of s.views, ap (λ (z : V). (resting v (story_of z) (counts_of s.views), [])) is)),
      ))
      (λ ne. absurd (no_some v.taken taken holds (h.idle id v ne at))))
      r.place

  pub gives_back : (slots id : ℕ) (me : Seated) (v : View W I) (x : V) (taken : List I) → me ≡ (v, (0, Some x) ∷ []) → v.taken ≡ Some taken → IsPrefix taken (story_of x) → v.world ≡ Some (world x)
      → Allows Rule slots id me 0 (λ _. 0) (λ _. Gives (λ u y counted. resting u (story_of y) counted) (step slots 0 0 0 none) me 0)
  gives_back slots id me v x taken e holds grown stands =
      let P : Seated → Type 0 = λ m. Allows Rule slots id m 0 (λ _. 0) (λ _. Gives (λ u y counted. resting u (story_of y) counted) (step slots 0 0 0 none) m 0) in
      subst P (sym e) (gives_at slots id v x taken holds grown stands)

  -- a new seat comes, which holds nothing and was never refused
  arrives : (s : St) (r : Rule s) (w : View W I) → w.taken ≡ None → w.refused ≡ 0 → w.counted ≡ [] → Knows one r.story w → Rule record { words = s.words; homes = s.homes; views = s.views ++ w ∷ [] }
  arrives s r w idle never nothing knows = record {
    story = r.story;
    knows = each_snoc (λ (_ : ℕ) (u : View W I). Knows one r.story u) s.views w (λ _ _. knows) r.knows;
    rises = rises_snoc s.views w r.rises nothing never;
    place = ⊎_elim (λ (h : AtHome world story_of one r.story s). inl record {
      word = h.word;
      value = h.value;
      home = h.home;
      stands = h.stands;
      tells = h.tells;
      idle = each_snoc (λ (_ : ℕ) (u : View W I). u.taken ≡ None) s.views w (λ _ _. idle) h.idle;
      counted = each_snoc (λ (j : ℕ) (u : View W I). IsCounted (s.views ++ w ∷ []) j u) s.views w (λ _ _. inl never) (λ j u a. counted_snoc s.views w j u (h.counted j u a));
    }) (λ (h : IsOut r.story s). inr record {
      word = h.word;
      home = h.home;
      holder = h.holder;
      view = h.view;
      sits = at_longer s.views (w ∷ []) h.holder h.view h.sits;
      holds = h.holds;
      idle = λ j u ne a. ⊎_elim (λ (t : get_elem? s.views j ≡ some u). h.idle j u ne t) (λ (e : w ≡ u). ap (λ (x : View W I). x.taken) (sym e) ∙ idle) (at_snoc s.views w u j a);
      counted = counted_snoc s.views w h.holder h.view h.counted;
    }) r.place;
  }

  pub splits : (id : ℕ) (v : View W I) → Splits Rule id v v (seated v.world v.seen)
  splits id v s r at = let k = r.knows id v at in let w : View W I = seated v.world v.seen in
      let P : List (View W I) → Type 0 = λ vs. Rule record { words = s.words; homes = s.homes; views = vs ++ w ∷ [] } in
      subst P (sym (set_again s.views id v at)) (arrives s r w refl refl refl record { world = k.world; seen = k.seen; told = nothing_begins r.story })

  -- the other is a seat that was split off just now: it holds nothing, was never refused and has counted nothing
  pub joins : (id : ℕ) (v : View W I) (other : ℕ) (u : View W I) → u.taken ≡ None → u.refused ≡ 0 → u.counted ≡ []
      → Joins Rule id v other u (informed v (longer v.seen u.seen) (shorter v.seen u.seen)) (seated None [])
  joins id v other u idle never nothing s r at apart there = let k = r.knows id v at in let w : View W I = informed v (longer v.seen u.seen) (shorter v.seen u.seen) in
      let known = r.knows other u (sym (set_else s.views id other w apart) ∙ there) in
      let r' : Rule record { words = s.words; homes = s.homes; views = set s.views id w } = stays s r id v w at record { taken = refl; refused = refl; counted = refl } record {
        world = k.world;
        seen = prefix_of_longer v.seen u.seen r.story k.seen known.seen;
        told = prefix_of_shorter v.seen u.seen r.story k.seen known.seen;
      } in
      stays record { words = s.words; homes = s.homes; views = set s.views id w } r' other u (seated None []) there record { taken = sym idle; refused = sym never; counted = sym nothing }
      record { world = tt; seen = nothing_begins r'.story; told = nothing_begins r'.story }

  pub settles : (slots id : ℕ) (me : Seated) → length me.0.told ≤ length me.0.seen → Allows Rule slots id me 0 (λ n. n) (Settles (step slots 0 0 0 none) me)
  settles slots id me le s r len at small = let k = r.knows id me.0 at in let w : View W I = informed me.0 me.0.seen [] in
      let same : s.words ≡ set s.words 0 (get_or s.words 0 0) = ⊎_elim
      (λ (h : AtHome world story_of one r.story s). h.word ∙ sym (ap (λ (ws : List ℕ). set ws 0 (get_or ws 0 0)) h.word))
      (λ (h : IsOut r.story s). h.word ∙ sym (ap (λ (ws : List ℕ). set ws 0 (get_or ws 0 0)) h.word)) r.place in (
        w,
        keeps,
        tt,
        on_words s (set s.words 0 (get_or s.words 0 0)) (set s.views id w) same
            (stays s r id me.0 w at record { taken = refl; refused = refl; counted = refl } record { world = k.world; seen = k.seen; told = nothing_begins r.story }),
        (refl, prefix_shorter me.0.told me.0.seen r.story k.told k.seen le),
      )

-- the turn at the start: the value is at home, and the one seat has seen its story
pub opens : {V W I : Type 0} (world : V → W) (story_of : V → List I) (x : V)
    → Running world story_of (world x) (opening (0 ∷ []) (Some x ∷ []) (seated (Some (world x)) (story_of x)))
opens {V} {W} {I} world story_of x = let v : View W I = seated (Some (world x)) (story_of x) in record {
  story = story_of x;
  knows = each_one (λ (_ : ℕ) (u : View W I). Knows (world x) (story_of x) u) v record { world = refl; seen = prefix_self (story_of x); told = nothing_begins (story_of x) };
  rises = record {
    within = each_one (λ (_ : ℕ) (u : View W I). length u.counted ≤ 1) v (omega arith);
    below = each_one (λ (_ : ℕ) (u : View W I). (j : ℕ) (y : View W I) → get_elem? (v ∷ []) j ≡ some y → get_or u.counted j 0 ≤ y.refused) v
        (each_one (λ (j : ℕ) (y : View W I). get_or {A = ℕ} [] j 0 ≤ y.refused) v (omega arith));
  };
  place = inl record {
    word = refl;
    value = x;
    home = refl;
    stands = refl;
    tells = refl;
    idle = each_one (λ (_ : ℕ) (u : View W I). u.taken ≡ None) v refl;
    counted = each_one (λ (j : ℕ) (u : View W I). IsCounted (v ∷ []) j u) v (inl refl);
  };
}
