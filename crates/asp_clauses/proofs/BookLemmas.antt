-- The book as watches and kinds.
use Rattle.std.proofs.Common.{◌≡◌, ℕ, ◌+◌, ◌^◌, ◌<◌, ◌≤◌, Bool, true, false, not, List, [], ◌∷◌, ◌++◌, length, get_or, map, inl, inr, refl, sym, ◌∙◌, ap, arith, subst, Option, Some, None, option_map}
use Rattle.std.specs.Int.{from_bool}
use Rattle.std.proofs.lemmas.List.{length-map, get_or-map, same_lists, length_push, get_or_append_left, get_or_push}
use Rattle.std.proofs.lemmas.Bool.{cases_lt, cases_Bool}
use Rattle.asp_clauses.specs.declared.kind.Kind.{Kind}
use Rattle.asp_clauses.specs.declared.trail.Step.{Step}
use Rattle.asp_clauses.specs.declared.watches.Watches.{Watches}
use Rattle.asp_clauses.specs.Records.{row_at, literals_of, end}
use Rattle.asp_clauses.specs.Trail.{TrailState, step_at}
use Rattle.asp_clauses.specs.Book.{BookState, Goes}
use Rattle.asp_clauses.specs.Watches.{IsStore, book_of}
use Rattle.asp_clauses.specs.Visits.{IsStopped, IsUnlinked}
use Rattle.asp_clauses.specs.Kept.{kept, new_number, mark_of, kind_at, no_kind, is_firm, is_kept, from_on, AreFirmBelow, number_in, renamed, renumbered, relabelled, IsReason, AreNumbered, MarksReasons}
use Rattle.asp_clauses.proofs.RenamedLemmas.{Removes, Goes-removed}
use Rattle.asp_clauses.proofs.KeptLemmas.{length-kept, new_number-le, new_number-le-kept, from_old, from_before}
use Rattle.asp_clauses.proofs.FrontLemmas.{AllMarked}
use Rattle.asp_clauses.proofs.NumberedLemmas.{labels_tell, number_of_kept, size_same}

-- kinds don't matter to a trail
pub Goes-kinds : (book : BookState) (these those : List Kind) (trail : TrailState) → Goes (record book { kinds = these }) trail → Goes (record book { kinds = those }) trail
Goes-kinds book these those trail g = record {
  same_atoms = g.same_atoms;
  lawful = g.lawful;
  counted = g.counted;
  bounded = g.bounded;
  marks = g.marks;
  watches = record { now = g.watches.now; back = g.watches.back };
}

pub IsStopped-kinds : (book : BookState) (these those : List Kind) (trail : TrailState) → IsStopped (record book { kinds = these }) trail → IsStopped (record book { kinds = those }) trail
IsStopped-kinds book these those trail s = record { spent = s.spent; unit = s.unit }

-- reasons are numbers of clauses
pub reason_within : (book : BookState) (trail : TrailState) → Goes book trail → (clause : ℕ) → IsReason trail.steps clause → clause < length book.clauses
reason_within book trail g clause r = (g.lawful.reasoned r.0 r.1 clause r.2).0

-- ---- watches of which a part is unlinked, numbered, and then compacted
pub record Shrinks (old unlinked numbered new : Watches) (marks : List Bool) (from : ℕ) : Type 0 where
  pub unlinked_is : IsUnlinked old unlinked
  pub numbered_is : AreNumbered unlinked numbered marks from (length unlinked.records)
  pub front : AllMarked marks from
  pub many : length marks ≡ length old.records
  pub within : from ≤ length old.records
  pub atoms : new.atoms ≡ numbered.atoms
  pub clauses : map literals_of new.records ≡ kept (from_on from (map is_kept numbered.records)) (map literals_of numbered.records)
  pub watched : new.watched ≡ new_number (from_on from (map is_kept numbered.records)) old.watched

tell : (old unlinked numbered new : Watches) (marks : List Bool) (from : ℕ) → Shrinks old unlinked numbered new marks from → from_on from (map is_kept numbered.records) ≡ marks
tell old unlinked numbered new marks from s =
    let n = s.unlinked_is.as_many in let w = s.within in
    labels_tell unlinked numbered marks from s.numbered_is s.front (omega (arith, n, w)) (s.many ∙ sym n)

pub clauses_kept : (old unlinked numbered new : Watches) (marks : List Bool) (from : ℕ) → Shrinks old unlinked numbered new marks from → map literals_of new.records ≡ kept marks (map literals_of old.records)
clauses_kept old unlinked numbered new marks from s =
    s.clauses ∙ ap (λ (m : List Bool). kept m (map literals_of numbered.records)) (tell old unlinked numbered new marks from s) ∙ ap (kept marks) (s.numbered_is.clauses ∙ s.unlinked_is.clauses)

pub atoms_kept : (old unlinked numbered new : Watches) (marks : List Bool) (from : ℕ) → Shrinks old unlinked numbered new marks from → new.atoms ≡ old.atoms
atoms_kept old unlinked numbered new marks from s = s.atoms ∙ ap (λ (w : Watches). w.atoms) s.numbered_is.same ∙ s.unlinked_is.atoms

pub kinds_kept : (old unlinked numbered new : Watches) (marks : List Bool) (from : ℕ) (kinds rest : List Kind) → Shrinks old unlinked numbered new marks from → rest ≡ kept (from_on from (map is_kept numbered.records)) kinds → rest ≡ kept marks kinds
kinds_kept old unlinked numbered new marks from kinds rest s k = k ∙ ap (λ (m : List Bool). kept m kinds) (tell old unlinked numbered new marks from s)

pub Removes-from : (old unlinked numbered new : Watches) (these those : List Kind) (marks : List Bool) (from : ℕ) (steps : List Step) → Shrinks old unlinked numbered new marks from →
    ((clause : ℕ) → IsReason steps clause → mark_of marks clause ≡ true) → Removes (record (book_of old) { kinds = these }) (record (book_of new) { kinds = those }) marks steps
Removes-from old unlinked numbered new these those marks from steps s r = record {
  atoms = atoms_kept old unlinked numbered new marks from s;
  clauses = clauses_kept old unlinked numbered new marks from s;
  watched = s.watched ∙ ap (λ (m : List Bool). new_number m old.watched) (tell old unlinked numbered new marks from s);
  as_many = s.many ∙ sym (length-map old.records literals_of);
  reasons = r;
}

-- what the call that compacts asks for
pub kinds_as_many : (old unlinked numbered : Watches) (marks : List Bool) (from : ℕ) (kinds : List Kind) → IsUnlinked old unlinked → AreNumbered unlinked numbered marks from (length unlinked.records) → length kinds ≡ length old.records → length kinds ≡ length numbered.records
kinds_as_many old unlinked numbered marks from kinds u a e = e ∙ sym (a.as_many ∙ u.as_many)

pub still_not_empty : (old unlinked numbered : Watches) (marks : List Bool) (from : ℕ) → IsStore old → IsUnlinked old unlinked → AreNumbered unlinked numbered marks from (length unlinked.records) → (clause : ℕ) → clause < old.watched → 0 < get_or (row_at numbered.records clause) 0 0
still_not_empty old unlinked numbered marks from s u a clause h =
    let most = s.watched in
    subst (λ (n : ℕ). 0 < n) (sym (size_same old numbered clause s a.store (a.clauses ∙ u.clauses) (omega (arith, h, most)))) (s.not_empty clause h)

-- the numbers that stand in the records are the new ones
renamed_alike : (f g : ℕ → ℕ) (step : Step) → ((clause : ℕ) → step.reason ≡ Some clause → f clause ≡ g clause) → renamed f step ≡ renamed g step
renamed_alike f g step h = ap (λ (r : Option ℕ). let s : Step = record { literal = step.literal; reason = r } in s) (mapped_alike f g step.reason h)
  where
    mapped_alike : (f g : ℕ → ℕ) (reason : Option ℕ) → ((clause : ℕ) → reason ≡ Some clause → f clause ≡ g clause) → option_map f reason ≡ option_map g reason
    mapped_alike f g None h = refl
    mapped_alike f g (Some clause) h = ap Some (h clause refl)

pub relabelled_is : (old numbered : Watches) (marks : List Bool) (steps : List Step) → AreNumbered old numbered marks 0 (length old.records) →
    ((clause : ℕ) → IsReason steps clause → clause < length old.records) → ((clause : ℕ) → IsReason steps clause → mark_of marks clause ≡ true) →
    map (relabelled numbered.records) steps ≡ map (renumbered marks) steps
relabelled_is old numbered marks steps a within r =
    let f = number_in numbered.records in let g = new_number marks in
    let lf = length-map steps (renamed f) in let lg = length-map steps (renamed g) in
    same_lists (map (renamed f) steps) (map (renamed g) steps) (omega (arith, lf, lg)) (λ k d h.
    let in_steps : k < length steps = omega (arith, lf, h) in
    let no : Step = record { literal = 0; reason = None } in
    get_or-map (renamed f) steps k no d in_steps
    ∙ renamed_alike f g (step_at steps k) (λ clause e. number_of_kept old numbered marks clause a (within clause (k, in_steps, e)) (r clause (k, in_steps, e)))
    ∙ sym (get_or-map (renamed g) steps k no d in_steps))

pub kinds_still : (old unlinked numbered new : Watches) (marks : List Bool) (from : ℕ) (kinds rest : List Kind) → length kinds ≡ length old.records → Shrinks old unlinked numbered new marks from → rest ≡ kept (from_on from (map is_kept numbered.records)) kinds → length rest ≡ length new.records
kinds_still old unlinked numbered new marks from kinds rest e s k =
    ap length k ∙ length-kept (from_on from (map is_kept numbered.records)) kinds (map literals_of numbered.records) (kinds_as_many old unlinked numbered marks from kinds s.unlinked_is s.numbered_is e ∙ sym (length-map numbered.records literals_of))
    ∙ sym (ap length s.clauses) ∙ length-map new.records literals_of

-- kinds of which the firm ones are kept are all firm
pub AreFirm-kept : (kinds rest : List Kind) (firm : ℕ) → rest ≡ kept (map is_firm kinds) kinds → firm ≤ length rest → AreFirmBelow rest firm
AreFirm-kept kinds rest firm e h clause l =
    let len = ap length e in
    let f = from_old (map is_firm kinds) kinds clause no_kind (omega (arith, len, h, l)) in
    ap (λ (x : List Kind). is_firm (kind_at x clause)) e ∙ ap is_firm f.is ∙ sym (get_or-map is_firm kinds f.at no_kind false f.within) ∙ f.marked

-- of firm kinds those that are kept are firm
AreFirm-left : (marks : List Bool) (kinds rest : List Kind) (firm left : ℕ) → length marks ≡ length kinds → firm ≤ length kinds → AreFirmBelow kinds firm → rest ≡ kept marks kinds → left ≡ new_number marks firm → (left ≤ length rest) × AreFirmBelow rest left
AreFirm-left marks kinds rest firm left same h f e n =
    let len = ap length e in
    let most = new_number-le-kept marks kinds firm same h in (
      omega (arith, len, most, n),
      λ clause l.
          let was = from_old marks kinds clause no_kind (omega (arith, most, n, l)) in
          let before = from_before marks kinds clause firm no_kind was (omega (arith, n, l)) in
          ap (λ (x : List Kind). is_firm (kind_at x clause)) e ∙ ap is_firm was.is ∙ f was.at before,
    )

pub firm_left : (old unlinked numbered new : Watches) (marks : List Bool) (from : ℕ) (kinds rest : List Kind) (firm left : ℕ) → length kinds ≡ length old.records → Shrinks old unlinked numbered new marks from → rest ≡ kept (from_on from (map is_kept numbered.records)) kinds →
    firm ≤ length kinds → AreFirmBelow kinds firm → left ≡ new_number (from_on from (map is_kept numbered.records)) firm → (left ≤ length rest) × AreFirmBelow rest left
firm_left old unlinked numbered new marks from kinds rest firm left e s k h f n =
    AreFirm-left marks kinds rest firm left (s.many ∙ sym e) h f (kinds_kept old unlinked numbered new marks from kinds rest s k) (n ∙ ap (λ (m : List Bool). new_number m firm) (tell old unlinked numbered new marks from s))

pub firm_marked : (kinds : List Kind) (firm : ℕ) → firm ≤ length kinds → AreFirmBelow kinds firm → AllMarked (map is_firm kinds) firm
firm_marked kinds firm h f k l = get_or-map is_firm kinds k no_kind false (omega (arith, h, l)) ∙ f k l

-- one more kind
pub AreFirm-push : (kinds : List Kind) (kind : Kind) (firm : ℕ) → firm ≤ length kinds → AreFirmBelow kinds firm → AreFirmBelow (kinds ++ kind ∷ []) firm
AreFirm-push kinds kind firm h f clause l = ap is_firm (get_or_append_left kinds (kind ∷ []) no_kind clause (omega (arith, h, l))) ∙ f clause l

pub AreFirm-more : (kinds : List Kind) (kind : Kind) (firm : ℕ) → firm ≡ length kinds → AreFirmBelow kinds firm → kind.loose ≡ false → AreFirmBelow (kinds ++ kind ∷ []) (firm + 1)
AreFirm-more kinds kind firm e f stays clause l = elim (cases_lt clause firm) [
  | inl lt ↦ AreFirm-push kinds kind firm (omega (arith, e)) f clause lt
  | inr ge ↦ ap is_firm (get_or_push kinds kind no_kind clause (omega (arith, e, l, ge))) ∙ ap not stays
]

pub not_true : (b : Bool) → not b ≡ true → b ≡ false
not_true true e = cc
not_true false e = refl

-- what follows where none is counted and one is
pub not_both : (counted : Bool) (m n : ℕ) (loose : Bool) → counted ≡ false → counted ≡ true → (m ≡ n) × (loose ≡ false)
not_both counted m n loose f t = let e : false ≡ true = sym f ∙ t in (cc, cc)

-- one more firm clause is counted, or none
pub AreFirm-counted : (kinds : List Kind) (kind : Kind) (firm more : ℕ) (counted : Bool) → firm ≤ length kinds → AreFirmBelow kinds firm → (counted ≡ true → (firm ≡ length kinds) × (kind.loose ≡ false)) → more ≡ from_bool counted →
    (firm + more ≤ length (kinds ++ kind ∷ [])) × AreFirmBelow (kinds ++ kind ∷ []) (firm + more)
AreFirm-counted kinds kind firm more counted h f when is =
    let l = length_push kinds kind in
    elim (cases_Bool counted) [
      | inl t ↦
          let one : more ≡ 1 = is ∙ ap from_bool t in
          let sum : firm + more ≡ firm + 1 = omega (arith, one) in
          let both = when t in
          (omega (arith, l, both.0, one), subst (AreFirmBelow (kinds ++ kind ∷ [])) (sym sum) (AreFirm-more kinds kind firm both.0 f both.1))
      | inr n ↦
          let none : more ≡ 0 = is ∙ ap from_bool n in
          let sum : firm + more ≡ firm = omega (arith, none) in
          (omega (arith, l, h, none), subst (AreFirmBelow (kinds ++ kind ∷ [])) (sym sum) (AreFirm-push kinds kind firm h f))
    ]

-- an empty trail has no reasons
pub Goes-settled : (old new : BookState) (marks : List Bool) (trail : TrailState) → trail.steps ≡ [] → ((clause : ℕ) → IsReason trail.steps clause → mark_of marks clause ≡ true) → Removes old new marks trail.steps → old.watched ≤ length old.clauses → Goes old trail → Goes new trail
Goes-settled old new marks trail none r m few g =
    let same : (let t : TrailState = record trail { steps = map (renumbered marks) trail.steps } in t) ≡ trail =
    ap (λ (s : List Step). let t : TrailState = record trail { steps = map (renumbered marks) s } in t) none ∙ sym (ap (λ (s : List Step). let t : TrailState = record trail { steps = s } in t) none) in
    subst (Goes new) same (Goes-removed old new marks trail m few g)

pub no_reason : (steps : List Step) (marks : List Bool) → steps ≡ [] → (clause : ℕ) → IsReason steps clause → mark_of marks clause ≡ true
no_reason steps marks e clause r = let l = ap length e in let w = r.1 in absurd (omega (arith, l, w))

pub marked_reasons : (steps : List Step) (old new : List Bool) → MarksReasons steps (length steps) old new → (clause : ℕ) → IsReason steps clause → mark_of new clause ≡ true
marked_reasons steps old new m clause r = m.reasons r.0 clause r.1 r.2

pub marks_many : (watches : Watches) (kinds : List Kind) (book : BookState) (first second third : List Bool) → (let b : BookState = record (book_of watches) { kinds = kinds } in b) ≡ book → length first ≡ length book.clauses → length second ≡ length first → length third ≡ length second → length third ≡ length watches.records
marks_many watches kinds book first second third e a b c = c ∙ b ∙ a ∙ sym (ap (λ (x : BookState). length x.clauses) e) ∙ length-map watches.records literals_of

-- numbers of clauses are below the one that stands for no clause
pub numbers_small : (watches : Watches) (kinds : List Kind) (book : BookState) → (let b : BookState = record (book_of watches) { kinds = kinds } in b) ≡ book → length watches.records < 2 ^ 32 → length book.clauses ≤ end
numbers_small watches kinds book e few = let l = ap (λ (b : BookState). length b.clauses) e in let m = length-map watches.records literals_of in omega (arith, l, m, few)

-- a new number is, too
pub new_number_small : (old numbered : Watches) (marks : List Bool) (clause : ℕ) → AreNumbered old numbered marks 0 (length old.records) → clause < length old.records → mark_of marks clause ≡ true → number_in numbered.records clause < end
new_number_small old numbered marks clause a h m =
    let n = number_of_kept old numbered marks clause a h m in let l = new_number-le marks clause in
    let few = a.store.few in let many = a.as_many in
    omega (arith, n, l, few, many, h)
