-- Recorded nogoods, while clauses are added and the search goes on.
use Rattle.std.proofs.Common.{◌≡◌, ℕ, ◌+◌, ◌<◌, ◌≤◌, Bool, true, List, [], ◌∷◌, ◌++◌, length, get_or, refl, sym, ap, ◌∙◌, subst, inl, inr, arith}
use Rattle.std.specs.Prelude.{None, Result, Ok, Err, OnOk, OnErr}
use Rattle.std.proofs.lemmas.Bool.{cases_lt}
use Rattle.std.proofs.lemmas.List.{length-append, get_or_append_left}
use Rattle.std.proofs.Math.Seq.{get_or-append_seam}
use Rattle.asp_defs.specs.declared.ground.Lit.{Lit}
use Rattle.asp_defs.specs.Lists.{IsIn}
use Rattle.asp_defs.specs.Interpretations.{holds}
use Rattle.asp_defs.proofs.Lists.{append_at}
use Rattle.asp_search.specs.declared.stage.Stage.TheVariants.{Begun}
use Rattle.asp_search.specs.Meaning.{Satisfies, SatisfiesAll}
use Rattle.asp_search.specs.State.{SearchState, GoesOn as SearchGoesOn}
use Rattle.asp_minimal.specs.Nogoods.{is_false}
use Rattle.asp_completion.specs.declared.level.Level.{Level}
use Rattle.asp_completion.specs.Codes.{codes, Agrees}
use Rattle.asp_completion.specs.Levels.{game_at, upper}
use Rattle.asp_completion.specs.Meanings.{IsSoundClause, AddsTo, AddsLooselyTo}
use Rattle.asp_completion.proofs.Places.{satisfies_to}
use Rattle.asp_completion.proofs.Loops.{item-in}
use Rattle.asp_answers.specs.declared.work.Work.{Work}
use Rattle.asp_answers.specs.Recorded.{AreDifferent, Grows, AreImplied, HasRecorded, IsRecorded, Learned}
use Rattle.asp_answers.proofs.Measure.{none_met}

-- ---- lists that grow

pub grows-self : (nogoods : List (List Lit)) → Grows nogoods nogoods
grows-self nogoods = record { longer = omega arith; same = λ k h. refl }

grows-then : (a b c : List (List Lit)) → Grows a b → Grows b c → Grows a c
grows-then a b c one two =
    let first : length a ≤ length b = one.longer in
    let second : length b ≤ length c = two.longer in
    record {
      longer = omega arith;
      same = λ k h. two.same k (omega arith) ∙ one.same k h;
    }

grows-last : (nogoods : List (List Lit)) (clause : List Lit) → Grows nogoods (nogoods ++ clause ∷ [])
grows-last nogoods clause =
    let size : length (nogoods ++ clause ∷ []) ≡ length nogoods + 1 = length-append nogoods (clause ∷ []) in
    record {
      longer = omega arith;
      same = λ k h. get_or_append_left nogoods (clause ∷ []) [] k h;
    }

-- ---- steps

pub learned-self : (l : Level) (search : SearchState) (nogoods : List (List Lit)) → Learned l search search nogoods nogoods
learned-self l search nogoods = record { recorded = λ h. h; grows = grows-self nogoods }

pub learned-then : (l : Level) (s t u : SearchState) (a b c : List (List Lit)) → Learned l s t a b → Learned l t u b c → Learned l s u a c
learned-then l s t u a b c one two = record {
  recorded = λ h. two.recorded (one.recorded h);
  grows = grows-then a b c one.grows two.grows;
}

-- another search, what satisfies it satisfies the one before
learned-moved : (l : Level) (old new : SearchState) (nogoods : List (List Lit))
    → ((v : ℕ → Bool) → SatisfiesAll v new.firm → SatisfiesAll v old.firm)
    → ((v : ℕ → Bool) → SatisfiesAll v new.clauses → SatisfiesAll v old.clauses) → Learned l old new nogoods nogoods
learned-moved l old new nogoods firm clauses = record {
  recorded = λ h.
      record {
        sound = h.sound;
        different = h.different;
        firm = λ clause m v sat. h.firm clause m v (firm v sat);
        now = λ clause m v sat. h.now clause m v (clauses v sat);
      };
  grows = grows-self nogoods;
}

pub learned-same : (l : Level) (old new : SearchState) (nogoods : List (List Lit)) → new ≡ old → Learned l old new nogoods nogoods
learned-same l old new nogoods e =
    subst (λ (s : SearchState). Learned l old s nogoods nogoods) (sym e) (learned-self l old nogoods)

pub learned-added : (l : Level) (old new : SearchState) (clause : List ℕ) (nogoods : List (List Lit)) → AddsTo old new clause
    → Learned l old new nogoods nogoods
learned-added l old new clause nogoods adds = learned-moved l old new nogoods adds.firm.back adds.clauses.back

pub learned-loosely : (l : Level) (old new : SearchState) (clause : List ℕ) (nogoods : List (List Lit)) → AddsLooselyTo old new clause
    → Learned l old new nogoods nogoods
learned-loosely l old new clause nogoods adds =
    learned-moved l old new nogoods (λ v sat. subst (λ (cs : List (List ℕ)). SatisfiesAll v cs) adds.firm sat) adds.clauses.back

pub learned-on : (l : Level) (old new : SearchState) (nogoods : List (List Lit)) → SearchGoesOn old new → Learned l old new nogoods nogoods
learned-on l old new nogoods goes = learned-moved l old new nogoods goes.firm.back goes.clauses.back

-- a further question
pub learned-begun : (l : Level) (old new : SearchState) (assumed : List ℕ) (nogoods more : List (List Lit))
    → new ≡ record old { count = 0; assumed = assumed; trail = []; ordered = None; stage = Begun; clauses = old.firm } → more ≡ nogoods
    → Learned l old new nogoods more
learned-begun l old new assumed nogoods more begun same =
    let firm : new.firm ≡ old.firm = ap (λ (s : SearchState). s.firm) begun in
    let clauses : new.clauses ≡ old.firm = ap (λ (s : SearchState). s.clauses) begun in
    subst (λ (ns : List (List Lit)). Learned l old new nogoods ns) (sym same) (record {
      recorded = λ h.
          record {
            sound = h.sound;
            different = h.different;
            firm = λ clause m v sat. h.firm clause m v (subst (λ (cs : List (List ℕ)). SatisfiesAll v cs) firm sat);
            now = λ clause m v sat. h.firm clause m v (subst (λ (cs : List (List ℕ)). SatisfiesAll v cs) clauses sat);
          };
      grows = grows-self nogoods;
    })

-- ---- one nogood more

-- it is one of the earlier ones, or the new one
last_or : (nogoods : List (List Lit)) (clause : List Lit) (P : List Lit → Type 0) → ((c : List Lit) → IsIn c nogoods → P c) → P clause
    → (c : List Lit) → IsIn c (nogoods ++ clause ∷ []) → P c
last_or nogoods clause P before here c m = elim (append_at nogoods (clause ∷ []) c m) [
  | inl earlier ↦ before c earlier
  | inr last ↦ elim last [
    | inl e ↦ subst P (sym e) here
    | inr none ↦ absurd none
  ]
]

-- a clause that an assignment doesn't satisfy is none of those that follow from what it satisfies
different-more : (B : List ℕ) (nogoods : List (List Lit)) (clauses : List (List ℕ)) (clause : List Lit) (v : ℕ → Bool) (N : List ℕ)
    → AreDifferent nogoods → AreImplied B nogoods clauses → Agrees B v N → SatisfiesAll v clauses
    → ((l : Lit) → IsIn l clause → holds B l.atom ≡ true) → is_false N clause ≡ true → AreDifferent (nogoods ++ clause ∷ [])
different-more B nogoods clauses clause v N different implied agrees sat atoms none i j less below e =
    let size : length (nogoods ++ clause ∷ []) ≡ length nogoods + 1 = length-append nogoods (clause ∷ []) in
    elim (cases_lt j (length nogoods)) [
      | inl early ↦
          different i j less early
          (sym (get_or_append_left nogoods (clause ∷ []) [] i (omega arith)) ∙ (e ∙ get_or_append_left nogoods (clause ∷ []) [] j early))
      | inr late ↦
          let before : i < length nogoods = omega arith in
          let at : j ≡ length nogoods = omega arith in
          let same : get_or nogoods i [] ≡ clause =
          sym (get_or_append_left nogoods (clause ∷ []) [] i before)
          ∙ (e ∙ (ap (λ n. get_or (nogoods ++ clause ∷ []) n []) at ∙ get_or-append_seam nogoods clause [] [])) in
          let holds_it : Satisfies v (codes B clause) =
          subst (λ (c : List Lit). Satisfies v (codes B c)) same
          (implied (get_or nogoods i []) (item-in nogoods i [] before) v sat) in
          none_met N clause none (satisfies_to B v N clause agrees atoms holds_it)
    ]

pub learned-new : (l : Level) (old new : SearchState) (nogoods more : List (List Lit)) (clause : List Lit) (v : ℕ → Bool) (N : List ℕ)
    → Agrees (upper l) v N → SatisfiesAll v old.clauses → is_false N clause ≡ true
    → IsSoundClause (game_at l) l.number [] clause → AddsTo old new (codes (upper l) clause) → more ≡ nogoods ++ clause ∷ []
    → Learned l old new nogoods more
learned-new l old new nogoods more clause v N agrees sat none sound adds e =
    let B : List ℕ = upper l in
    subst (λ (ns : List (List Lit)). Learned l old new nogoods ns) (sym e) (record {
      recorded = λ h.
          record {
            sound = last_or nogoods clause (λ c. IsSoundClause (game_at l) l.number [] c) h.sound sound;
            different = different-more B nogoods old.clauses clause v N h.different h.now agrees sat sound.atoms none;
            firm = last_or nogoods clause (λ c. (w : ℕ → Bool) → SatisfiesAll w new.firm → Satisfies w (codes B c))
                (λ c m w met. h.firm c m w (adds.firm.back w met)) adds.firm.satisfied;
            now = last_or nogoods clause (λ c. (w : ℕ → Bool) → SatisfiesAll w new.clauses → Satisfies w (codes B c))
                (λ c m w met. h.now c m w (adds.clauses.back w met)) adds.clauses.satisfied;
          };
      grows = grows-last nogoods clause;
    })

-- it was recorded, or memory was refused for that
pub learned-pushed : {T E : Type 0} (l : Level) (r : Result T E) (old new : SearchState) (nogoods more : List (List Lit)) (clause : List Lit)
    (v : ℕ → Bool) (N : List ℕ) → Agrees (upper l) v N → SatisfiesAll v old.clauses → is_false N clause ≡ true
    → IsSoundClause (game_at l) l.number [] clause → AddsTo old new (codes (upper l) clause)
    → OnOk r (more ≡ nogoods ++ clause ∷ []) → OnErr r (more ≡ nogoods) → Learned l old new nogoods more
learned-pushed l (Ok x) old new nogoods more clause v N agrees sat none sound adds pushed refused =
    learned-new l old new nogoods more clause v N agrees sat none sound adds pushed
learned-pushed l (Err x) old new nogoods more clause v N agrees sat none sound adds pushed refused =
    subst (λ (ns : List (List Lit)). Learned l old new nogoods ns) (sym refused)
    (learned-added l old new (codes (upper l) clause) nogoods adds)

-- ---- the first question

pub learned-none : (l : Level) (w : Work) → w.nogoods ≡ [] → IsRecorded l w
learned-none l w none =
    subst (λ (ns : List (List Lit)). HasRecorded (game_at l) l.number w.search ns) (sym none) (record {
      sound = λ clause m. absurd m;
      different = λ i j less below. absurd (omega arith);
      firm = λ clause m. absurd m;
      now = λ clause m. absurd m;
    })
