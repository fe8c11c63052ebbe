-- What makes a piece the front of some bytes.
use Rattle.std.proofs.Common.{ℕ, zero, suc, ◌+◌, ◌-◌, ◌≤◌, ◌<◌, ◌≡◌, refl, sym, ◌∙◌, ap, subst, Bool, true, false, List, [], ◌∷◌, ◌++◌, length, take, arith}
use Rattle.std.specs.Prelude.{Option, None, Some, is_some, Result, Ok, Err, if◌then◌else◌}
use Rattle.std.specs.List.{list_all, prefix_len}
use Rattle.asp_defs.specs.declared.faults.TextFault.{TextFault}
use Rattle.asp_defs.specs.declared.faults.TextFault.TheVariants as faults
use Rattle.asp_defs.specs.Tokens as defs
use Rattle.asp_defs.proofs.Pieces.{longest_front_is}
use Rattle.asp_lex.specs.declared.pieces.Shape.{Shape}
use Rattle.asp_lex.specs.declared.pieces.Shape.TheVariants as shapes
use Rattle.asp_lex.specs.Fronts.{given, IsFront}
use Rattle.asp_lex.proofs.Runs.{prefix_within, prefix_passes, prefix_stops, take_behind, length_behind}

-- what a piece gives, by the shape of its bytes
abbrev pub piece_of : Option defs.Shape → ℕ → List ℕ → Result (List defs.Placed) TextFault
piece_of found place bytes = elim found [
  | None ↦ Err (faults.BadByte place)
  | Some defs.BlankShape ↦ Ok []
  | Some defs.CommentShape ↦ Ok []
  | Some defs.OpenShape ↦ Err (faults.OpenComment place)
  | Some (defs.TokenShape t) ↦
      if defs.is_bad_number t then Err (faults.BadNumber place)
      else Ok (record { token = t; begins = place; ends = place + length bytes } ∷ [])
]

-- bytes of a shape give what the lexer's shape gives
abbrev pub Gives : Option defs.Shape → Shape → List ℕ → Type 0
Gives found shape bytes = (place : ℕ) → piece_of found place bytes ≡ given shape place bytes

gives_as : (found : Option defs.Shape) (shape : Shape) (bytes : List ℕ) → defs.shape_of bytes ≡ found → Gives found shape bytes → (place : ℕ) → defs.piece_tokens (record { place = place; bytes = bytes }) ≡ given shape place bytes
gives_as found shape bytes is gives place = ap (λ f. piece_of f place bytes) is ∙ gives place

-- a front that is something, where no longer one is
pub front_from : (bytes : List ℕ) (shape : Shape) (len : ℕ) (found : defs.Shape) → 0 < len → len ≤ length bytes → defs.shape_of (take len bytes) ≡ Some found → ((more : ℕ) → len < more → more ≤ length bytes → defs.shape_of (take more bytes) ≡ None) → Gives (Some found) shape (take len bytes) → IsFront bytes (record { shape = shape; len = len })
front_from bytes shape len found some within is none gives = record {
  some = some;
  within = within;
  longest = longest_front_is bytes len some within (ap is_some is) none;
  gives = gives_as (Some found) shape (take len bytes) is gives;
}

-- one byte, where no front is something
front_none : (most : ℕ) (bytes : List ℕ) → ((more : ℕ) → 0 < more → more ≤ most → defs.shape_of (take more bytes) ≡ None) → defs.longest_front most bytes ≡ 1
front_none zero bytes none = refl
front_none (suc most) bytes none =
    let step : Bool → ℕ = λ found. elim found [ true ↦ suc most | false ↦ defs.longest_front most bytes ] in
    ap step (ap is_some (none (suc most) (omega arith) (omega arith))) ∙ front_none most bytes (λ more some short. none more some (omega arith))

pub nothing_from : (bytes : List ℕ) → 0 < length bytes → ((more : ℕ) → 0 < more → more ≤ length bytes → defs.shape_of (take more bytes) ≡ None) → IsFront bytes (record { shape = shapes.BadByte; len = 1 })
nothing_from bytes some none = record {
  some = omega arith;
  within = omega arith;
  longest = front_none (length bytes) bytes none;
  gives = gives_as None shapes.BadByte (take 1 bytes) (none 1 (omega arith) (omega arith)) (λ place. refl);
}

-- some bytes and those behind them that pass a test, where just those are something
pub run_from : (before cs : List ℕ) (p : ℕ → Bool) (s : List ℕ → defs.Shape) (shape : Shape) (len : ℕ) → 0 < length before → len ≡ length before + prefix_len p cs → ((m : ℕ) → defs.shape_of (before ++ take m cs) ≡ defs.only_if (list_all p (take m cs)) (s (take m cs))) → Gives (Some (s (take (prefix_len p cs) cs))) shape (before ++ take (prefix_len p cs) cs) → IsFront (before ++ cs) (record { shape = shape; len = len })
run_from before cs p s shape len some is shapes gives =
    front_from (before ++ cs) shape len (s run) (omega arith) (omega (arith, prefix_within p cs, length_behind before cs)) found none
    (subst (λ bytes. Gives (Some (s run)) shape bytes) (sym front) gives)
  where
    run : List ℕ
    run = take (prefix_len p cs) cs

    front : take len (before ++ cs) ≡ before ++ run
    front = ap (λ k. take k (before ++ cs)) is ∙ take_behind before cs (prefix_len p cs)

    found : defs.shape_of (take len (before ++ cs)) ≡ Some (s run)
    found = ap defs.shape_of front ∙ shapes (prefix_len p cs) ∙ ap (λ b. defs.only_if b (s run)) (prefix_passes p cs)

    none : (more : ℕ) → len < more → more ≤ length (before ++ cs) → defs.shape_of (take more (before ++ cs)) ≡ None
    none more long short =
        let m : ℕ = more - length before in
        let e : more ≡ length before + m = omega arith in
        ap (λ k. defs.shape_of (take k (before ++ cs))) e
        ∙ ap defs.shape_of (take_behind before cs m)
        ∙ shapes m
        ∙ ap (λ b. defs.only_if b (s (take m cs))) (prefix_stops p cs m (omega arith) (omega (arith, length_behind before cs)))
