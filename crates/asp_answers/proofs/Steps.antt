-- The work on a question from step to step.
use Rattle.std.proofs.Common.{◌≡◌, ℕ, ◌+◌, ◌*◌, ◌^◌, ◌<◌, ◌≤◌, Bool, true, false, List, [], ◌∷◌, ◌++◌, map, length, get_or, replicate, refl, sym, ap, ◌∙◌, subst, arith, append_assoc}
use Rattle.std.specs.Prelude.{Result, Ok, Err, OnOk, OnErr, Option, None, Some, IfSome, if◌then◌else◌, is_ok, IsOk}
use Rattle.std.specs.List.{filter}
use Rattle.std.proofs.lemmas.List.{length-replicate}
use Rattle.std.proofs.Math.Nat.{pow-le-pow_right}
use Rattle.std.proofs.lemmas.List.{append-nil}
use Rattle.asp_bits.specs.Places.{true_places}
use Rattle.asp_defs.specs.declared.faults.Give.{Give}
use Rattle.asp_defs.specs.declared.faults.Give.TheVariants as gives
use Rattle.asp_defs.specs.declared.faults.Kind.{Kind}
use Rattle.asp_defs.specs.declared.faults.Kind.TheVariants as kinds
use Rattle.asp_defs.specs.declared.faults.Kind.TheVariants.{Search, Minimal}
use Rattle.asp_defs.specs.declared.faults.Unknown.{Unknown}
use Rattle.asp_defs.specs.declared.ground.Game.{Game}
use Rattle.asp_defs.specs.declared.ground.Lit.{Lit}
use Rattle.asp_defs.specs.Lists.{IsIn}
use Rattle.asp_defs.specs.Interpretations.{holds, subsets}
use Rattle.asp_defs.specs.Truth.{is_model}
use Rattle.asp_defs.specs.AnswerSets.{is_answer_set}
use Rattle.asp_defs.specs.Bounds.{meets_all}
use Rattle.asp_defs.proofs.Lists.{map_at}
use Rattle.asp_defs.proofs.Subsets.{true_is_not_false}
use Rattle.asp_search.specs.declared.fault.SearchFault.{SearchFault}
use Rattle.asp_search.specs.declared.fault.SearchFault.TheVariants as faults
use Rattle.asp_search.specs.declared.outcome.Outcome.{Outcome}
use Rattle.asp_search.specs.declared.outcome.Outcome.TheVariants as outcomes
use Rattle.asp_search.specs.declared.stage.Stage.{Stage}
use Rattle.asp_search.specs.declared.stage.Stage.TheVariants.{New, Begun, Found, Spent, NoMemory}
use Rattle.asp_search.specs.Seen.{AreCodes}
use Rattle.asp_search.specs.Meaning.{AllTrue, SameMeaning}
use Rattle.asp_search.specs.Cores.{IsCore as IsSearchCore}
use Rattle.asp_search.specs.Found.{assignment_of}
use Rattle.asp_search.specs.State.{SearchState, IsFresh, GoesOn as SearchGoesOn, IsLeast as IsSearchLeast}
use Rattle.asp_minimal.specs.Choices.{with_choices, bound_atoms, Refutes}
use Rattle.asp_minimal.specs.Nogoods.{IsNogood, is_false}
use Rattle.asp_bounds.specs.Denials.{IsBoundsClause}
use Rattle.asp_game.specs.declared.step.Step.{Step}
use Rattle.asp_game.specs.declared.step.Step.TheVariants as steps
use Rattle.asp_game.specs.State.{MovesState, FoundMove, Gave}
use Rattle.asp_game.specs.Questions.{is_outer, is_region, open_moves}
use Rattle.asp_game.specs.Answers.{IsFound, IsFirst, IsCore, last_after}
use Rattle.asp_completion.specs.declared.level.Level.{Level}
use Rattle.asp_answers.specs.declared.work.Answered.{Answered}
use Rattle.asp_answers.specs.declared.work.Answered.TheVariants as answered
use Rattle.asp_answers.specs.declared.work.Work.{Work}
use Rattle.asp_answers.specs.Candidates.{candidates_left}
use Rattle.asp_completion.specs.Codes.{codes, opposite, Agrees}
use Rattle.asp_answers.specs.Assumptions.{outer_part, assumed_literals}
use Rattle.asp_completion.specs.Levels.{game_at, upper, lower, rules_at, bounds_at, IsLevel}
use Rattle.asp_completion.specs.Meanings.{Means, IsSoundClause, IsFilled, AddsTo, AddsLooselyTo}
use Rattle.asp_answers.specs.Works.{Serves, IsPrepared, Asked, IsAsked, Stays, KeepsQuestion, IsCandidate, IsTotal, Spends, HasSpent, IsSettled, unknown_of, last_with, question_of, answered_by, fault_of, Settled, IsCause}
use Rattle.asp_answers.proofs.Blocking.{opposite-atom, sound-beside, means-block, means-keep}
use Rattle.asp_completion.proofs.Learning.{means-same, means-add}
use Rattle.asp_completion.proofs.Bases.{AreBases, outer-subset}
use Rattle.asp_answers.proofs.Cores.{core-answer, found-answer}
use Rattle.asp_answers.proofs.Firsts.{first-answer}
use Rattle.asp_answers.proofs.Measure.{candidates-fall}
use Rattle.asp_completion.proofs.LevelFacts.{bases, rules-in, bounds-in}
use Rattle.asp_answers.proofs.Assumed.{own-at, assumed-inside}
use Rattle.asp_completion.proofs.Places.{codes-below}
use Rattle.asp_answers.proofs.Reading.{inside-subset, read-agrees, bound-count, bound-few}
use Rattle.asp_answers.proofs.Loops.{none-true}
use Rattle.asp_answers.proofs.Judging.{nogood-sound, bound-sound}

-- how a search was asked, after a clause was added, before it was asked, and then
order_kept : (order : Bool) (old new : Option Bool) → new ≡ old → IfSome old (λ was. was ≡ order) → IfSome new (λ was. was ≡ order)
order_kept order old new e h = subst (λ (o : Option Bool). IfSome o (λ was. was ≡ order)) (sym e) h

order_asked : {order : Bool} {new : Option Bool} → new ≡ Some order → IfSome new (λ was. was ≡ order)
order_asked {order} {new} e = subst (λ (o : Option Bool). IfSome o (λ was. was ≡ order)) (sym e) refl

no_order : (order : Bool) (new : Option Bool) → new ≡ None → IfSome new (λ was. was ≡ order)
no_order order new e = subst (λ (o : Option Bool). IfSome o (λ was. was ≡ order)) (sym e) tt

same_meaning : (clauses : List (List ℕ)) → SameMeaning clauses clauses
same_meaning clauses = record { forth = λ v sat. sat; back = λ v sat. sat; atoms = λ k m. m }

module _ (l : Level) (ready : IsLevel l) where
  module _ (budget : ℕ) (w : Work) (asked : IsAsked l budget w) where
    level-bases : AreBases (upper l) (lower l)
    level-bases = bases l ready

    pub outer-in : IsIn (true_places w.outer) (subsets (lower l))
    outer-in = outer-subset (game_at l) l.number ready.valid ready.first ready.last (true_places w.outer) asked.outer

    pub region-in : (m : Lit) → IsIn m w.region → holds (upper l) m.atom ≡ true
    region-in m i = (own-at (game_at l) l.number w.region asked.region m i).0

    -- a core of the search, cut down to the outer move, is one of the level
    pub work-core : (clauses : List (List ℕ)) (assumed core : List ℕ) → clauses ≡ w.search.clauses → assumed ≡ w.search.assumed
        → IsSearchCore clauses assumed core
        → IsCore (question_of l budget w) (outer_part (upper l) (lower l) (true_places w.outer) core)
    work-core clauses assumed core same_clauses same_assumed found =
        let one : IsSearchCore w.search.clauses assumed core =
        subst (λ (cs : List (List ℕ)). IsSearchCore cs assumed core) same_clauses found in
        let two : IsSearchCore w.search.clauses (codes (upper l) (assumed_literals (lower l) (true_places w.outer) w.region)) core =
        subst (λ (xs : List ℕ). IsSearchCore w.search.clauses xs core) (same_assumed ∙ asked.assumed) one in
        core-answer (question_of l budget w) w.search.clauses core level-bases outer-in region-in asked.means two

    -- what the search has found
    module _ (candidate : IsCandidate l w) where
      pub candidate-in : IsIn (true_places w.set) (subsets (upper l))
      candidate-in = inside-subset (upper l) w.set level-bases.upper candidate.read.inside

      pub candidate-agrees : Agrees (upper l) (assignment_of w.search.trail) (true_places w.set)
      candidate-agrees = read-agrees (upper l) (length (game_at l).bases.atoms) w.search.trail w.set candidate.read

      pub candidate-model : is_model (true_places w.set) (rules_at l) ≡ true
      candidate-model = asked.means.models (assignment_of w.search.trail) (true_places w.set) candidate-agrees candidate.found.clauses

      pub candidate-move : is_answer_set (with_choices (rules_at l) (lower l)) (true_places w.set) ≡ true
          → meets_all (true_places w.set) (bounds_at l) ≡ true → IsFound (question_of l budget w) w.set
      candidate-move chosen met = record {
        places = asked.set_places;
        open_move = found-answer (question_of l budget w) w.search.clauses (assignment_of w.search.trail) (true_places w.set)
            level-bases outer-in region-in asked.means candidate-agrees candidate-in candidate.found.clauses
            (subst (λ (xs : List ℕ). AllTrue (assignment_of w.search.trail) xs) asked.assumed candidate.found.assumed) chosen met;
      }

      -- and the first one where the assignment is
      pub candidate-first : IsSearchLeast w.search → IsFound (question_of l budget w) w.set → IsFirst (question_of l budget w) w.set
      candidate-first least found =
          first-answer (question_of l budget w) w.search.clauses w.search.trail w.set level-bases outer-in region-in asked.means
          (λ v sat all k low agree is. least v sat (subst (λ (xs : List ℕ). AllTrue v xs) (sym asked.assumed) all) k (subst (λ (n : ℕ). k < n) (sym asked.atoms) low) agree is)
          candidate.read.values found.open_move

      -- a nogood is sound, and what is sound and false in the candidate leaves fewer candidates
      pub candidate-nogood : (U : List ℕ) (clause : List Lit) → Refutes (rules_at l) (lower l) (true_places w.set) U
          → IsNogood (rules_at l) (true_places w.set) U clause → IsSoundClause (game_at l) l.number [] clause
      candidate-nogood U clause refutes nogood =
          nogood-sound (game_at l) l.number [] (true_places w.set) U clause (rules-in l ready) candidate-in refutes nogood

      -- and so is the clause of a bound
      pub candidate-bound : (clause : List Lit) → IsBoundsClause (bounds_at l) (true_places w.set) clause
          → IsSoundClause (game_at l) l.number [] clause
      candidate-bound clause is =
          bound-sound (game_at l) l.number [] (true_places w.set) clause level-bases.upper (bounds-in l ready) is

      pub candidate-fewer : (new : SearchState) (clause : List Lit) → IsSoundClause (game_at l) l.number [] clause
          → is_false (true_places w.set) clause ≡ true → AddsTo w.search new (codes (upper l) clause)
          → candidates_left (upper l) new.clauses < candidates_left (upper l) w.search.clauses
      candidate-fewer new clause sound false_here adds =
          candidates-fall (upper l) w.search.clauses w.search.clauses new.clauses (assignment_of w.search.trail) (true_places w.set)
          clause level-bases.upper (same_meaning w.search.clauses) asked.means.range adds.clauses candidate-agrees candidate-in
          candidate.found.clauses sound.atoms false_here

    -- ---- what stays asked

    -- with another search that stands for the same question
    pub asked-moved : (new : SearchState) (kept cubes : List (List Lit)) (set : List Bool) → new.atoms ≡ length (upper l)
        → new.budget ≡ budget → (new.stage ≡ New → ⊥) → IfSome new.ordered (λ was. was ≡ w.ordered) → new.assumed ≡ w.search.assumed
        → Means (game_at l) l.number (rules_at l) (kept ++ cubes) new.clauses → Means (game_at l) l.number (rules_at l) kept new.firm
        → length set ≡ length (game_at l).bases.atoms
        → ((a : ℕ) → get_or set a false ≡ true → holds (upper l) a ≡ true)
        → Asked l budget new w.outer w.region w.ordered kept cubes set
    asked-moved new kept cubes set atoms budget_is begun order assumed means firm places inside = record {
      atoms = atoms;
      budget_is = budget_is;
      begun = begun;
      same_order = order;
      assumed = assumed ∙ asked.assumed;
      places = asked.places;
      outer = asked.outer;
      region = asked.region;
      means = means;
      firm = firm;
      set_places = places;
      set_inside = inside;
    }

    -- with sound literals as a further clause
    pub asked-added : (new : SearchState) (clause : List Lit) → IsSoundClause (game_at l) l.number [] clause
        → AddsTo w.search new (codes (upper l) clause) → Asked l budget new w.outer w.region w.ordered w.kept.items w.blocked w.set
    asked-added new clause sound adds =
        asked-moved new w.kept.items w.blocked w.set (adds.atoms ∙ asked.atoms) (adds.budget ∙ asked.budget_is) (adds.begun asked.begun)
        (order_kept w.ordered w.search.ordered new.ordered adds.ordered asked.same_order) adds.assumed
        (means-add (game_at l) l.number (rules_at l) (w.kept.items ++ w.blocked) w.search.clauses new.clauses clause asked.means
        (sound-beside (game_at l) l.number (w.kept.items ++ w.blocked) clause sound) adds.clauses)
        (means-add (game_at l) l.number (rules_at l) w.kept.items w.search.firm new.firm clause asked.firm
        (sound-beside (game_at l) l.number w.kept.items clause sound) adds.firm)
        asked.set_places asked.set_inside

    -- while the search goes on
    pub asked-on : (new : SearchState) (set : List Bool) → SearchGoesOn w.search new → (new.stage ≡ New → ⊥)
        → new.ordered ≡ Some w.ordered → length set ≡ length (game_at l).bases.atoms → ((a : ℕ) → get_or set a false ≡ true → holds (upper l) a ≡ true)
        → Asked l budget new w.outer w.region w.ordered w.kept.items w.blocked set
    asked-on new set goes begun order places inside =
        asked-moved new w.kept.items w.blocked set (goes.atoms ∙ asked.atoms) (goes.budget ∙ asked.budget_is) begun
        (order_asked order) goes.assumed
        (means-same (game_at l) l.number (rules_at l) (w.kept.items ++ w.blocked) w.search.clauses new.clauses asked.means goes.clauses)
        (means-same (game_at l) l.number (rules_at l) w.kept.items w.search.firm new.firm asked.firm goes.firm) places inside

    -- with a further cube that is blocked
    pub asked-blocked : (new : SearchState) (cubes : List (List Lit)) (cube : List Lit)
        → ((m : Lit) → IsIn m cube → holds (upper l) m.atom ≡ true) → AddsLooselyTo w.search new (codes (upper l) (map opposite cube))
        → cubes ≡ w.blocked ++ cube ∷ [] → Asked l budget new w.outer w.region w.ordered w.kept.items cubes w.set
    asked-blocked new cubes cube inside adds more =
        asked-moved new w.kept.items cubes w.set (adds.atoms ∙ asked.atoms) (adds.budget ∙ asked.budget_is) (adds.begun asked.begun)
        (order_kept w.ordered w.search.ordered new.ordered adds.ordered asked.same_order) adds.assumed
        (subst (λ (cs : List (List Lit)). Means (game_at l) l.number (rules_at l) cs new.clauses)
        (append_assoc w.kept.items w.blocked (cube ∷ []) ∙ ap (λ (cs : List (List Lit)). w.kept.items ++ cs) (sym more))
        (means-block (game_at l) l.number (rules_at l) (w.kept.items ++ w.blocked) w.search.clauses new.clauses cube asked.means inside
        adds.clauses))
        (subst (λ (cs : List (List ℕ)). Means (game_at l) l.number (rules_at l) w.kept.items cs) (sym adds.firm) asked.firm)
        asked.set_places asked.set_inside

    -- with a further cube that is kept
    pub asked-kept : (new : SearchState) (cubes : List (List Lit)) (cube : List Lit)
        → ((m : Lit) → IsIn m cube → holds (upper l) m.atom ≡ true) → AddsTo w.search new (codes (upper l) (map opposite cube))
        → cubes ≡ w.kept.items ++ cube ∷ [] → Asked l budget new w.outer w.region w.ordered cubes w.blocked w.set
    asked-kept new cubes cube inside adds more =
        subst (λ (cs : List (List Lit)). Asked l budget new w.outer w.region w.ordered cs w.blocked w.set) (sym more)
        (asked-moved new (w.kept.items ++ cube ∷ []) w.blocked w.set (adds.atoms ∙ asked.atoms) (adds.budget ∙ asked.budget_is)
        (adds.begun asked.begun) (order_kept w.ordered w.search.ordered new.ordered adds.ordered asked.same_order) adds.assumed
        (means-keep (game_at l) l.number (rules_at l) w.kept.items w.blocked w.search.clauses new.clauses cube asked.means inside adds.clauses)
        (means-block (game_at l) l.number (rules_at l) w.kept.items w.search.firm new.firm cube asked.firm inside adds.firm)
        asked.set_places asked.set_inside)

-- a cause of a spent budget stays one while no literal is placed
spends-moved : (l : Level) (budget : ℕ) (old new check : SearchState) (unknown : Unknown) → new.count ≡ old.count → new.trail ≡ old.trail
    → Spends l budget old check unknown → Spends l budget new check unknown
spends-moved l budget old new check unknown count trail spends = record {
  is = spends.is;
  few = spends.few;
  cause = go unknown.kind spends.cause;
}
  where
    go : (k : Kind) → IsCause k l budget old check → IsCause k l budget new check
    go kinds.Search cause = count ∙ cause
    go kinds.Minimal cause = (subst (λ (xs : List ℕ). IsTotal (length (upper l)) xs) (sym trail) cause.0, cause.1)
    go kinds.Store cause = cause

pub serves-asked : (l : Level) (budget : ℕ) (w : Work) → IsAsked l budget w → Serves l budget w.kept.items w.search
serves-asked l budget w asked = record { atoms = asked.atoms; budget_is = asked.budget_is; firm = asked.firm }

pub serves-same : (l : Level) (budget : ℕ) (kept : List (List Lit)) (old new : SearchState) → new ≡ old → Serves l budget kept old
    → Serves l budget kept new
serves-same l budget kept old new e serves = subst (λ (s : SearchState). Serves l budget kept s) (sym e) serves

pub serves-loosely : (l : Level) (budget : ℕ) (kept : List (List Lit)) (old new : SearchState) (clause : List ℕ)
    → AddsLooselyTo old new clause → Serves l budget kept old → Serves l budget kept new
serves-loosely l budget kept old new clause adds serves = record {
  atoms = adds.atoms ∙ serves.atoms;
  budget_is = adds.budget ∙ serves.budget_is;
  firm = subst (λ (cs : List (List ℕ)). Means (game_at l) l.number (rules_at l) kept cs) (sym adds.firm) serves.firm;
}

-- a kept cube more
pub serves-kept : (l : Level) (budget : ℕ) (kept : List (List Lit)) (old new : SearchState) (cube : List Lit)
    → ((m : Lit) → IsIn m cube → holds (upper l) m.atom ≡ true) → AddsTo old new (codes (upper l) (map opposite cube))
    → Serves l budget kept old → Serves l budget (kept ++ cube ∷ []) new
serves-kept l budget kept old new cube inside adds serves = record {
  atoms = adds.atoms ∙ serves.atoms;
  budget_is = adds.budget ∙ serves.budget_is;
  firm = means-block (game_at l) l.number (rules_at l) kept old.firm new.firm cube serves.firm inside adds.firm;
}

-- what was settled stays so, with a kept cube more
pub settled-kept : (l : Level) (ready : IsLevel l) (budget : ℕ) (w : Work) (new : SearchState) (cubes : List (List Lit)) (cube : List Lit)
    → ((m : Lit) → IsIn m cube → holds (upper l) m.atom ≡ true) → AddsTo w.search new (codes (upper l) (map opposite cube))
    → cubes ≡ w.kept.items ++ cube ∷ [] → IsSettled l budget w
    → Settled l budget new w.check w.outer w.region w.ordered cubes w.blocked w.set w.last
settled-kept l ready budget w new cubes cube inside adds more settled = record {
  serves = subst (λ (cs : List (List Lit)). Serves l budget cs new) (sym more)
      (serves-kept l budget w.kept.items w.search new cube inside adds settled.serves);
  asked = λ put given. asked-kept l ready budget w (settled.asked put given) new cubes cube inside adds more;
  spent = λ k e. spends-moved l budget w.search new w.check (unknown_of l budget k) adds.count adds.trail (settled.spent k e);
}

-- nothing changed
pub settled-same : (l : Level) (budget : ℕ) (w : Work) (new : SearchState) (cubes : List (List Lit)) → new ≡ w.search → cubes ≡ w.kept.items
    → IsSettled l budget w → Settled l budget new w.check w.outer w.region w.ordered cubes w.blocked w.set w.last
settled-same l budget w new cubes same more settled =
    subst (λ (s : SearchState). Settled l budget s w.check w.outer w.region w.ordered cubes w.blocked w.set w.last) (sym same)
    (subst (λ (cs : List (List Lit)). Settled l budget w.search w.check w.outer w.region w.ordered cs w.blocked w.set w.last) (sym more) settled)

-- an answer to a question doesn't depend on what was answered and spent before
pub found-alike : (s t : MovesState) (set : List Bool) → s.game ≡ t.game → s.level ≡ t.level → s.outer ≡ t.outer
    → s.region ≡ t.region → s.kept ≡ t.kept → s.blocked ≡ t.blocked → IsFound s set → IsFound t set
found-alike s t set game level outer region kept blocked found =
    let parts : Game → ℕ → List ℕ → List Lit → List (List Lit) → List (List Lit) → MovesState = λ g i o r k c. record t {
      game = g;
      level = i;
      outer = o;
      region = r;
      kept = k;
      blocked = c;
    } in
    let at : IsFound (parts s.game s.level s.outer s.region s.kept s.blocked) set =
    record { places = found.places; open_move = found.open_move } in
    subst (λ (g : Game). IsFound (parts g t.level t.outer t.region t.kept t.blocked) set) game
    (subst (λ (i : ℕ). IsFound (parts s.game i t.outer t.region t.kept t.blocked) set) level
    (subst (λ (o : List ℕ). IsFound (parts s.game s.level o t.region t.kept t.blocked) set) outer
    (subst (λ (r : List Lit). IsFound (parts s.game s.level s.outer r t.kept t.blocked) set) region
    (subst (λ (k : List (List Lit)). IsFound (parts s.game s.level s.outer s.region k t.blocked) set) kept
    (subst (λ (c : List (List Lit)). IsFound (parts s.game s.level s.outer s.region s.kept c) set) blocked at)))))

pub first-alike : (s t : MovesState) (set : List Bool) → open_moves s s.outer ≡ open_moves t t.outer → IsFirst s set → IsFirst t set
first-alike s t set same f = record { later = f.later; first = sym same ∙ f.first }

pub core-alike : (s t : MovesState) (core : List Lit) → s.game ≡ t.game → s.level ≡ t.level → s.outer ≡ t.outer
    → s.region ≡ t.region → s.kept ≡ t.kept → s.blocked ≡ t.blocked → IsCore s core → IsCore t core
core-alike s t core game level outer region kept blocked found =
    let parts : Game → ℕ → List ℕ → List Lit → List (List Lit) → List (List Lit) → MovesState = λ g i o r k c. record t {
      game = g;
      level = i;
      outer = o;
      region = r;
      kept = k;
      blocked = c;
    } in
    let at : IsCore (parts s.game s.level s.outer s.region s.kept s.blocked) core =
    record { atoms = found.atoms; part = found.part; named = found.named; refuted = found.refuted } in
    subst (λ (g : Game). IsCore (parts g t.level t.outer t.region t.kept t.blocked) core) game
    (subst (λ (i : ℕ). IsCore (parts s.game i t.outer t.region t.kept t.blocked) core) level
    (subst (λ (o : List ℕ). IsCore (parts s.game s.level o t.region t.kept t.blocked) core) outer
    (subst (λ (r : List Lit). IsCore (parts s.game s.level s.outer r t.kept t.blocked) core) region
    (subst (λ (k : List (List Lit)). IsCore (parts s.game s.level s.outer s.region k t.blocked) core) kept
    (subst (λ (c : List (List Lit)). IsCore (parts s.game s.level s.outer s.region s.kept c) core) blocked at)))))

-- ---- a new question

pub filled-serves : (l : Level) (budget size : ℕ) (fresh filled : SearchState) → IsFresh fresh size budget → size ≡ length (upper l)
    → IsFilled (game_at l) l.number (rules_at l) fresh filled → Serves l budget [] filled
filled-serves l budget size fresh filled is_fresh size_is is_filled = record {
  atoms = is_filled.atoms ∙ (is_fresh.atoms_are ∙ size_is);
  budget_is = is_filled.budget ∙ is_fresh.budget_is;
  firm = is_filled.firm;
}

pub prepared-again : (l : Level) (budget : ℕ) (kept : List (List Lit)) (move : List Bool) (cube : List Lit) (old search : SearchState) (assumed : List ℕ)
    → Serves l budget kept old
    → search ≡ record old { count = 0; assumed = assumed; trail = []; ordered = None; stage = Begun; clauses = old.firm }
    → assumed ≡ codes (upper l) (assumed_literals (lower l) (true_places move) cube) → IsPrepared l budget kept search move cube
prepared-again l budget kept move cube old search assumed serves begun codes_are = record {
  atoms = ap (λ (s : SearchState). s.atoms) begun ∙ serves.atoms;
  budget_is = ap (λ (s : SearchState). s.budget) begun ∙ serves.budget_is;
  begun = λ h. let e : search.stage ≡ Begun = ap (λ (s : SearchState). s.stage) begun in cc;
  unordered = ap (λ (s : SearchState). s.ordered) begun;
  assumed = ap (λ (s : SearchState). s.assumed) begun ∙ codes_are;
  means = subst (λ (cs : List (List ℕ)). Means (game_at l) l.number (rules_at l) kept cs)
      (sym (ap (λ (s : SearchState). s.clauses) begun)) serves.firm;
  firm = subst (λ (cs : List (List ℕ)). Means (game_at l) l.number (rules_at l) kept cs)
      (sym (ap (λ (s : SearchState). s.firm) begun)) serves.firm;
  count = ap (λ (s : SearchState). s.count) begun;
  trail = ap (λ (s : SearchState). s.trail) begun;
}

pub asked-new : (l : Level) (budget n : ℕ) (move new_move set : List Bool) (cube new_cube : List Lit) (order : Bool)
    (kept cubes : List (List Lit)) (search : SearchState) → IsPrepared l budget kept search move cube → length move ≡ length (game_at l).bases.atoms
    → is_outer (game_at l) l.number (true_places move) ≡ true → is_region (game_at l) l.number cube ≡ true
    → new_move ≡ move → new_cube ≡ cube → cubes ≡ [] → set ≡ replicate n false → n ≡ length (game_at l).bases.atoms
    → Asked l budget search new_move new_cube order kept cubes set
asked-new l budget n move new_move set cube new_cube order kept cubes search ready places outer region same_move same_cube none blank n_is =
    subst (λ (m : List Bool). Asked l budget search m new_cube order kept cubes set) (sym same_move)
    (subst (λ (r : List Lit). Asked l budget search move r order kept cubes set) (sym same_cube)
    (record {
      atoms = ready.atoms;
      budget_is = ready.budget_is;
      begun = ready.begun;
      same_order = no_order order search.ordered ready.unordered;
      assumed = ready.assumed;
      places = places;
      outer = outer;
      region = region;
      means = subst (λ (cs : List (List Lit)). Means (game_at l) l.number (rules_at l) cs search.clauses)
          (sym (ap (λ (cs : List (List Lit)). kept ++ cs) none ∙ append-nil kept)) ready.means;
      firm = ready.firm;
      set_places = ap (λ (s : List Bool). length s) blank ∙ (length-replicate n false ∙ n_is);
      set_inside = λ a h.
          absurd (true_is_not_false (get_or set a false) h (ap (λ (s : List Bool). get_or s a false) blank ∙ none-true n a));
    }))

-- ---- counts

module _ (l : Level) (ready : IsLevel l) (set : List Bool) where
  pub bound-split : (ups lows : List ℕ) (all low : ℕ) → ups ≡ upper l → lows ≡ lower l
      → ((a : ℕ) → get_or set a false ≡ true → holds (upper l) a ≡ true)
      → all ≡ length (filter (holds (true_places set)) ups) → low ≡ length (filter (holds (true_places set)) lows)
      → all ≡ low + length (bound_atoms (lower l) (true_places set))
  bound-split ups lows all low up_is low_is inside all_is lower_is =
      let b = bases l ready in
      let J = true_places set in
      let parts : length (filter (holds J) (upper l)) ≡ length (filter (holds J) (lower l)) + length (bound_atoms (lower l) J) =
      bound-count (upper l) (lower l) J b.upper b.lower (inside-subset (upper l) set b.upper inside) in
      let one : all ≡ length (filter (holds J) (upper l)) = all_is ∙ ap (λ (xs : List ℕ). length (filter (holds J) xs)) up_is in
      let two : low ≡ length (filter (holds J) (lower l)) = lower_is ∙ ap (λ (xs : List ℕ). length (filter (holds J) xs)) low_is in
      omega arith

  pub bound-small : ((a : ℕ) → get_or set a false ≡ true → holds (upper l) a ≡ true)
      → length (bound_atoms (lower l) (true_places set)) ≤ length (upper l)
  bound-small inside =
      let b = bases l ready in
      bound-few (upper l) (lower l) (true_places set) b.upper b.lower (inside-subset (upper l) set b.upper inside)

-- ---- answers

-- what follows from both answers of a call
pub either_way : {T E P Q X : Type 0} (r : Result T E) → (P → X) → (Q → X) → OnOk r P → OnErr r Q → X
either_way (Ok x) f g p q = f p
either_way (Err e) f g p q = g q

-- where there is room, the kept cubes are more by one
pub pushed-more : {T E : Type 0} (r : Result T E) (old mid new : List (List Lit)) (copy cube : List Lit) → mid ≡ old → copy ≡ cube
    → new ≡ (if is_ok r then mid ++ copy ∷ [] else mid) → IsOk r → new ≡ old ++ cube ∷ []
pushed-more (Ok x) old mid new copy cube same copied e ok =
    e ∙ (ap (λ (cs : List (List Lit)). cs ++ copy ∷ []) same ∙ ap (λ (k : List Lit). old ++ k ∷ []) copied)
pushed-more (Err x) old mid new copy cube same copied e ok = absurd (let never : false ≡ true = ok in cc)

-- what holds, after a call that went well
pub on_ok_of : {T E P : Type 0} (r : Result T E) → P → OnOk r P
on_ok_of (Ok x) p = p
on_ok_of (Err e) p = tt

-- the search has spent the budget
pub spent-search : (l : Level) (budget : ℕ) (search check : SearchState) → search.atoms ≡ length (upper l)
    → search.budget ≡ budget → search.count ≡ search.budget → search.count < 3 ^ search.atoms
    → Spends l budget search check (unknown_of l budget Search)
spent-search l budget search check atoms budget_is spent few = record {
  is = refl;
  few = subst (λ (n : ℕ). n < 3 ^ length (upper l)) (spent ∙ budget_is)
      (subst (λ (k : ℕ). search.count < 3 ^ k) atoms few);
  cause = spent ∙ budget_is;
}

-- the check of a candidate has spent the budget
pub spent-check : (l : Level) (budget k : ℕ) (search check : SearchState) (unknown : Unknown)
    → unknown ≡ unknown_of l budget Minimal → IsTotal (length (upper l)) search.trail → check.count ≡ budget → budget < 3 ^ k
    → k ≤ length (upper l) → Spends l budget search check unknown
spent-check l budget k search check unknown e total spent few small =
    subst (λ (u : Unknown). Spends l budget search check u) (sym e) (record {
      is = refl;
      few = let some : 0 < 3 = omega arith in
          let more : 3 ^ k ≤ 3 ^ length (upper l) = pow-le-pow_right some small in
          omega arith;
      cause = (total, spent);
    })

-- the other literals of atoms of a base are of the same atoms
pub opposites-inside : (B : List ℕ) (cube : List Lit) → ((m : Lit) → IsIn m cube → holds B m.atom ≡ true)
    → (m : Lit) → IsIn m (map opposite cube) → holds B m.atom ≡ true
opposites-inside B cube inside m i =
    let found = map_at opposite cube m i in
    ap (λ (k : Lit). holds B k.atom) found.2 ∙ (ap (holds B) (opposite-atom found.0) ∙ inside found.0 found.1)

-- ---- runs

-- after each answer a search has begun
pub run-begun : (r : Result Outcome SearchFault) (s : Stage) → (r ≡ Ok outcomes.Found → s ≡ Found)
    → ((core : List ℕ) → r ≡ Ok (outcomes.Core core) → s ≡ Begun) → (r ≡ Err faults.Spent → s ≡ Spent)
    → (r ≡ Err faults.NoMemory → s ≡ NoMemory) → s ≡ New → ⊥
run-begun (Ok outcomes.Found) s found core spent memory e = let k = found refl in cc
run-begun (Ok (outcomes.Core xs)) s found core spent memory e = let k = core xs refl in cc
run-begun (Err faults.Spent) s found core spent memory e = let k = spent refl in cc
run-begun (Err faults.NoMemory) s found core spent memory e = let k = memory refl in cc

-- the codes of what is assumed are the search's
pub assumed-codes-below : (l : Level) (ready : IsLevel l) (budget : ℕ) (w : Work) → IsAsked l budget w
    → AreCodes (2 * length (upper l)) w.search.assumed
assumed-codes-below l ready budget w asked =
    subst (λ (xs : List ℕ). AreCodes (2 * length (upper l)) xs) (sym asked.assumed)
    (codes-below (upper l) (assumed_literals (lower l) (true_places w.outer) w.region)
    (assumed-inside (game_at l) l.number (true_places w.outer) w.region (bases l ready) asked.region))

-- ---- the question from step to step

pub stays-then : {A B C D : Type 0} (a0 a1 a2 : A) (b0 b1 b2 : B) (o0 o1 o2 : Bool) (k0 k1 k2 c0 c1 c2 : C) (d0 d1 d2 : D)
    → Stays a0 a1 b0 b1 o0 o1 k0 k1 c0 c1 d0 d1 → Stays a1 a2 b1 b2 o1 o2 k1 k2 c1 c2 d1 d2
    → Stays a0 a2 b0 b2 o0 o2 k0 k2 c0 c2 d0 d2
stays-then a0 a1 a2 b0 b1 b2 o0 o1 o2 k0 k1 k2 c0 c1 c2 d0 d1 d2 one two = record {
  same_outer = two.same_outer ∙ one.same_outer;
  same_region = two.same_region ∙ one.same_region;
  same_order = two.same_order ∙ one.same_order;
  same_kept = two.same_kept ∙ one.same_kept;
  same_blocked = two.same_blocked ∙ one.same_blocked;
  same_last = two.same_last ∙ one.same_last;
}

pub keeps-then : (old mid new : Work) → KeepsQuestion old mid → KeepsQuestion mid new → KeepsQuestion old new
keeps-then old mid new one two =
    stays-then old.outer mid.outer new.outer old.region mid.region new.region old.ordered mid.ordered new.ordered old.kept.items mid.kept.items
    new.kept.items old.blocked mid.blocked new.blocked old.last mid.last new.last one two

pub question-kept : (l : Level) (budget : ℕ) (old new : Work) → KeepsQuestion old new
    → question_of l budget new ≡ question_of l budget old
question-kept l budget old new kept =
    let with_parts : List Bool → List Lit → Bool → List (List Lit) → List (List Lit) → MovesState = λ o r d k b.
    record (question_of l budget old) { outer = true_places o; region = r; ordered = d; kept = k; blocked = b } in
    ap (λ (o : List Bool). with_parts o new.region new.ordered new.kept.items new.blocked) kept.same_outer
    ∙ (ap (λ (r : List Lit). with_parts old.outer r new.ordered new.kept.items new.blocked) kept.same_region
    ∙ (ap (λ (d : Bool). with_parts old.outer old.region d new.kept.items new.blocked) kept.same_order
    ∙ (ap (λ (k : List (List Lit)). with_parts old.outer old.region old.ordered k new.blocked) kept.same_kept
    ∙ ap (λ (b : List (List Lit)). with_parts old.outer old.region old.ordered old.kept.items b) kept.same_blocked)))

-- ---- the last answer

-- after an answer the last one is that answer
pub last-is : (l : Level) (budget : ℕ) (set : List Bool) (answer : Result Step Give)
    → ((s : List Bool) → answer ≡ Ok (steps.Found s) → s ≡ set)
    → ((u : Unknown) → answer ≡ Err (gives.Spent u) → u ≡ unknown_of l budget u.kind)
    → last_with l budget set (answered_by answer) ≡ last_after answer
last-is l budget set (Ok (steps.Found s)) found spent = ap (λ (x : List Bool). FoundMove (true_places x)) (sym (found s refl))
last-is l budget set (Ok (steps.Core core)) found spent = refl
last-is l budget set (Err (gives.Spent u)) found spent = ap (λ (x : Unknown). Gave (gives.Spent x)) (sym (spent u refl))
last-is l budget set (Err gives.NoMemory) found spent = refl

-- and a spent budget keeps its cause
pub spent-after : (l : Level) (budget : ℕ) (search check : SearchState) (answer : Result Step Give)
    → ((u : Unknown) → answer ≡ Err (gives.Spent u) → Spends l budget search check u)
    → (k : Kind) → answered_by answer ≡ answered.Spent k → Spends l budget search check (unknown_of l budget k)
spent-after l budget search check (Ok (steps.Found s)) spent k e = absurd (cc)
spent-after l budget search check (Ok (steps.Core core)) spent k e = absurd (cc)
spent-after l budget search check (Err (gives.Spent u)) spent k e =
    let s : Spends l budget search check u = spent u refl in
    let same : u.kind ≡ k = cc in
    subst (λ (x : Unknown). Spends l budget search check x) (s.is ∙ ap (unknown_of l budget) same) s
spent-after l budget search check (Err gives.NoMemory) spent k e = absurd (cc)

-- what the last fault says
pub fault-last : (l : Level) (budget : ℕ) (set : List Bool) (a : Answered) (g : Give)
    → fault_of l.number budget a ≡ Some g → last_with l budget set a ≡ Gave g
fault-last l budget set answered.Unasked g e = absurd (cc)
fault-last l budget set answered.Nothing g e = absurd (cc)
fault-last l budget set answered.Found g e = absurd (cc)
fault-last l budget set answered.Core g e = absurd (cc)
fault-last l budget set (answered.Spent k) g e = let same : gives.Spent (unknown_of l budget k) ≡ g = cc in ap Gave same
fault-last l budget set answered.NoMemory g e = let same : gives.NoMemory ≡ g = cc in ap Gave same

pub fault-spent : (l : Level) (budget : ℕ) (w : Work) (u : Unknown) → IsSettled l budget w
    → fault_of l.number budget w.last ≡ Some (gives.Spent u) → HasSpent l budget w u
fault-spent l budget w u settled e = go w.last refl e
  where
    go : (a : Answered) → w.last ≡ a → fault_of l.number budget a ≡ Some (gives.Spent u) → HasSpent l budget w u
    go answered.Unasked at h = absurd (cc)
    go answered.Nothing at h = absurd (cc)
    go answered.Found at h = absurd (cc)
    go answered.Core at h = absurd (cc)
    go (answered.Spent k) at h =
        let same : unknown_of l budget k ≡ u = cc in
        subst (λ (x : Unknown). HasSpent l budget w x) same (settled.spent k at)
    go answered.NoMemory at h = absurd (cc)

pub no_fault : (l : Level) (budget : ℕ) (set : List Bool) (a : Answered) → fault_of l.number budget a ≡ None
    → (a ≡ answered.NoMemory → ⊥) × ((g : Give) → last_with l budget set a ≡ Gave g → ⊥)
no_fault l budget set answered.Unasked e = (λ h. cc, λ g h. cc)
no_fault l budget set answered.Nothing e = (λ h. cc, λ g h. cc)
no_fault l budget set answered.Found e = (λ h. cc, λ g h. cc)
no_fault l budget set answered.Core e = (λ h. cc, λ g h. cc)
no_fault l budget set (answered.Spent k) e = absurd (cc)
no_fault l budget set answered.NoMemory e = absurd (cc)
