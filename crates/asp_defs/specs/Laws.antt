-- Laws of the definitions, each the contract of a function of `src/laws.rt`. All are transparent.
use Rattle.std.specs.Prelude.{ℕ, ◌+◌, ◌-◌, ◌≡◌, ◌<◌, ◌≤◌, ◌↔◌, Bool, true, false, not, ◌&&◌, List, [], ◌∷◌, ◌++◌, length, Some, Ok}
use Rattle.std.specs.List.{list_all}
use Rattle.asp_defs.specs.declared.ground.GroundRule.{GroundRule}
use Rattle.asp_defs.specs.declared.ground.Bound.{Bound}
use Rattle.asp_defs.specs.declared.ground.Game.{Game}
use Rattle.asp_defs.specs.declared.syntax.Program.{Program}
use Rattle.asp_defs.specs.Lists.{IsIn}
use Rattle.asp_defs.specs.Interpretations.{holds, subsets, proper_subsets}
use Rattle.asp_defs.specs.Truth.{is_model}
use Rattle.asp_defs.specs.Bounds.{meets, meets_all, bound_atoms}
use Rattle.asp_defs.specs.AnswerSets.{is_bounded_answer_set}
use Rattle.asp_defs.specs.Unfounded.{is_unfounded}
use Rattle.asp_defs.specs.Games.{game_of, level_count, base, rules_of, ascends, is_subset, IsValid}
use Rattle.asp_defs.specs.Pages.{comes_after}
use Rattle.asp_defs.specs.Values.{moves, value, is_coherent}
use Rattle.asp_defs.specs.Entries.{Entry, stands_from}
use Rattle.asp_defs.specs.History.{is_held_with, is_justified, is_sound, is_legal, cells}
use Rattle.asp_defs.specs.Machine.{State, Event, start, member, step, may_run, run}
use Rattle.asp_defs.specs.Unknowns.{enough_cells}
use Rattle.asp_defs.specs.Sizes.{IsAccepted}
use Rattle.asp_defs.specs.Words.{Tuning, SolveTask, task_of_words}
use Rattle.asp_defs.specs.Runs.{accepted_ending}
use Rattle.asp_defs.specs.Shown.{Evidence, shows_verdict, shows_set, IsEvidence}

-- an answer set satisfies the rules and meets the bounds
abbrev pub AnswerSetsAreModels : Type 0
AnswerSetsAreModels =
    (G : List GroundRule) (bounds : List Bound) (I : List ℕ) → is_bounded_answer_set G bounds I ≡ true
    → (is_model I G ≡ true) × (meets_all I bounds ≡ true)

-- no answer set of a program without choices is a proper subset of another
abbrev pub AnswerSetsAreMinimal : Type 0
AnswerSetsAreMinimal =
    (G : List GroundRule) (bounds : List Bound) (I J : List ℕ) → list_all (λ r. not r.choice) G ≡ true
    → is_bounded_answer_set G bounds I ≡ true → is_bounded_answer_set G bounds J ≡ true → ¬ IsIn J (proper_subsets I)

-- an interpretation is an answer set exactly where it satisfies the rules, meets the bounds, and none of its subsets but
-- the empty one is unfounded in it
abbrev pub AnswerSetsAreFounded : Type 0
AnswerSetsAreFounded =
    (G : List GroundRule) (bounds : List Bound) (I : List ℕ) → ascends I ≡ true
    → (is_bounded_answer_set G bounds I ≡ true)
    ↔ ((is_model I G ≡ true)
    × (meets_all I bounds ≡ true)
    × ((a : ℕ) (U : List ℕ) → IsIn (a ∷ U) (subsets I) → is_unfounded G I (a ∷ U) ≡ false))

-- whether an interpretation meets a bound rests on the bound's atoms alone
abbrev pub BoundsRestOnTheirAtoms : Type 0
BoundsRestOnTheirAtoms =
    (b : Bound) (I J : List ℕ) → ascends I ≡ true → ascends J ≡ true
    → ((a : ℕ) → holds (bound_atoms b) a ≡ true → holds I a ≡ holds J a) → meets I b ≡ meets J b

-- what a list justifies, every longer list that begins with it justifies
abbrev pub JustificationsStay : Type 0
JustificationsStay =
    (g : Game) (H more : List Entry) (e : Entry) → is_justified g H e ≡ true → is_justified g (H ++ more) e ≡ true

-- what sound entries justify is sound
abbrev pub JustifiedIsSound : Type 0
JustifiedIsSound =
    (g : Game) (H : List Entry) (e : Entry) → 1 ≤ e.level → list_all (is_sound g) H ≡ true
    → is_justified g H e ≡ true → is_sound g e ≡ true

-- every entry of a legal history is sound
abbrev pub LegalIsSound : Type 0
LegalIsSound = (g : Game) (H : List Entry) → is_legal g H ≡ true → list_all (is_sound g) H ≡ true

-- the cells of a legal history of a valid game are at most those that are enough
abbrev pub CellsAreBounded : Type 0
CellsAreBounded = (g : Game) (H : List Entry) → IsValid g → is_legal g H ≡ true → cells H ≤ enough_cells g

-- a legal history begins with legal histories
abbrev pub PrefixesAreLegal : Type 0
PrefixesAreLegal = (g : Game) (H more : List Entry) → is_legal g (H ++ more) ≡ true → is_legal g H ≡ true

-- each move of a level agrees with the outer move on the base below the level
abbrev pub MovesAgree : Type 0
MovesAgree =
    (g : Game) (i : ℕ) (M N : List ℕ) (a : ℕ) → IsIn N (moves g i M) → holds (base g (i - 1)) a ≡ true → holds N a ≡ holds M a

-- behind the last level the value of an outer move is that it breaks no constraint: atoms that the constraint part alone has
-- are not in it, and count as false
abbrev pub ConstraintsDecide : Type 0
ConstraintsDecide =
    (g : Game) (M : List ℕ) → IsValid g → IsIn M (subsets (base g (level_count g)))
    → value g (level_count g + 1) M ≡ is_model M (rules_of g (level_count g + 1))

-- outer moves that agree on the atoms that stand in a rule or bound of their level or of a later one have the same value
abbrev pub ValuesRestOnRulesAndBounds : Type 0
ValuesRestOnRulesAndBounds =
    (g : Game) (i : ℕ) (M N : List ℕ) → IsValid g → 1 ≤ i → i ≤ level_count g + 1 → IsIn M (subsets (base g (i - 1)))
    → IsIn N (subsets (base g (i - 1))) → ((a : ℕ) → stands_from g i a ≡ true → holds M a ≡ holds N a)
    → value g i M ≡ value g i N

-- for each outer move of each level of a valid game there is a legal history that holds it with its value
abbrev pub MovesAreShown : Type 0
MovesAreShown =
    (g : Game) (i : ℕ) (M : List ℕ) → IsValid g → 1 ≤ i → i ≤ level_count g + 1 → IsIn M (subsets (base g (i - 1)))
    → (H : List Entry) × (is_legal g H ≡ true) × (is_held_with H i (value g i M) M ≡ true)

-- a valid game has a legal history whose last entry is of level 1 and has the game's value
abbrev pub ValuesAreShown : Type 0
ValuesAreShown =
    (g : Game) → IsValid g
    → (H : List Entry) × (e : Entry) × (is_legal g (H ++ (e ∷ [])) ≡ true) × (e.level ≡ 1) × (e.verdict ≡ is_coherent g)

-- the subsets of a base are exactly the lists that the test of subsets accepts
abbrev pub SubsetsAreListed : Type 0
SubsetsAreListed =
    (B I : List ℕ) → ascends B ≡ true → IsIn I (subsets B) ↔ (is_subset I B ≡ true)

-- whether each set of a list comes before all that stand behind it
abbrev pub in_order : List (List ℕ) → Bool
in_order [] = true
in_order (I ∷ sets) = list_all (comes_after (Some I)) sets && in_order sets

-- the subsets of a base stand in the order of interpretations, in which no set comes after itself, so each stands there
-- once
abbrev pub SubsetsAreInOrder : Type 0
SubsetsAreInOrder = (B : List ℕ) → ascends B ≡ true → in_order (subsets B) ≡ true

abbrev pub NoSetIsAfterItself : Type 0
NoSetIsAfterItself = (I : List ℕ) → comes_after (Some I) I ≡ false

-- the first atom on which two sets differ is in the second
pub record FirstDifference (I J : List ℕ) : Type 0 where
  pub atom : ℕ
  pub here : holds J atom ≡ true
  pub not_there : holds I atom ≡ false
  pub same_before : (c : ℕ) → c < atom → holds I c ≡ holds J c

-- a set comes after another exactly where the first atom on which they differ is in it
abbrev pub SetsAreOrdered : Type 0
SetsAreOrdered =
    (I J : List ℕ) → ascends I ≡ true → ascends J ≡ true → (comes_after (Some I) J ≡ true) ↔ FirstDifference I J

-- what holds of a state of the core machine: its history is legal and within the cells, and each member has seen a prefix of
-- it
pub record IsOrderly (g : Game) (allowed : ℕ) (s : State) : Type 0 where
  pub legal : is_legal g s.history ≡ true
  pub within_cells : cells s.history ≤ allowed
  pub seen : (m : ℕ) → (member s m).seen ≤ length s.history

-- every state that the core machine reaches is so
abbrev pub RunsStayLegal : Type 0
RunsStayLegal =
    (g : Game) (allowed : ℕ) (events : List Event)
    → may_run g allowed start events ≡ true → IsOrderly g allowed (run allowed start events)

-- a later state: its history begins with the earlier one's, and each member has seen as much or more
pub record IsLater (s t : State) : Type 0 where
  pub longer : (more : List Entry) × (t.history ≡ s.history ++ more)
  pub seen : (m : ℕ) → (member s m).seen ≤ (member t m).seen

-- a step of the core machine takes nothing away of the history and of what each member has seen
abbrev pub StepsKeepWhatWasSeen : Type 0
StepsKeepWhatWasSeen =
    (allowed : ℕ) (s : State) (event : Event)
    → ((m : ℕ) → (member s m).seen ≤ length s.history) → IsLater s (step allowed s event)

-- what evidence of a valid game shows is right: a verdict is the game's value, and a set has the value true at level 2
abbrev pub ShownVerdictsAreRight : Type 0
ShownVerdictsAreRight =
    (used : Evidence) (verdict : Bool) → IsValid used.game → shows_verdict used verdict ≡ true → is_coherent used.game ≡ verdict

abbrev pub ShownSetsAreRight : Type 0
ShownSetsAreRight =
    (used : Evidence) (N : List ℕ) → IsIn N (subsets (base used.game 1)) → shows_set used N ≡ true → value used.game 2 N ≡ true

-- where a text's game is valid, there is evidence for what `solve` without a log says of it
abbrev pub VerdictsHaveEvidence : Type 0
VerdictsHaveEvidence =
    (words : List (List ℕ)) (bytes : List ℕ) (tuning : Tuning) (p : Program)
    → task_of_words words ≡ Ok (SolveTask tuning false) → IsAccepted bytes p → IsValid (game_of p)
    → (used : Evidence) × IsEvidence words bytes (accepted_ending (SolveTask tuning false) p) used
