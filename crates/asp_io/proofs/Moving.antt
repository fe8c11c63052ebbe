-- Steps of the loops that read and write.
use Rattle.std.proofs.Common.{◌≡◌, ℕ, ◌+◌, ◌-◌, ◌≤◌, List, [], ◌++◌, length, take, drop, refl, sym, ◌∙◌, ap, arith, Result, Ok, Err, OnErr, subst, append_assoc, length-append, take-append-drop}
use Rattle.std.proofs.KnownBytes.{Consumes-trans, Appends-trans, Appends-kept}
use Rattle.std.proofs.lemmas.List.{take_at, take_rest, drop-drop, length-take-le, length-drop}
use Rattle.std.specs.declared.option.Option.{Option}
use Rattle.std.specs.Io.KnownBytes.{Appends, Consumes, Keeps}
use Rattle.asp_io.specs.Moved.{AppendsPrefix, LosesFront}

-- a front of the bytes was written, and the rest was not
pub record Written (before now : Option (List ℕ)) (bytes rest : List ℕ) : Type 0 where
  pub front : List ℕ
  pub parts : bytes ≡ front ++ rest
  pub appended : Appends before now front

pub written_more : (before mid now : Option (List ℕ)) (bytes rest : List ℕ) (count : ℕ) → Written before mid bytes rest → Appends mid now (take count rest)
    → Written before now bytes (drop count rest)
written_more before mid now bytes rest count so_far next = record {
  front = so_far.front ++ take count rest;
  parts = so_far.parts ∙ ap (λ l. so_far.front ++ l) (sym (take-append-drop count rest)) ∙ sym (append_assoc so_far.front (take count rest) (drop count rest));
  appended = Appends-trans before mid now so_far.front (take count rest) so_far.appended next;
}

pub written_prefix : (before mid now : Option (List ℕ)) (bytes rest : List ℕ) → Written before mid bytes rest → Keeps mid now → AppendsPrefix before now bytes
written_prefix before mid now bytes rest so_far kept =
    let front : take (length so_far.front) bytes ≡ so_far.front =
    ap (take (length so_far.front)) so_far.parts ∙ take_at so_far.front rest (length so_far.front) refl in
    (length so_far.front, subst (Appends before now) (sym front) (Appends-kept before mid now so_far.front so_far.appended kept))

pub written_rest : (before now : Option (List ℕ)) (bytes rest : List ℕ) → Written before now bytes rest → bytes ≡ [] → length rest ≡ 0
written_rest before now bytes rest so_far none =
    omega (arith, ap length (sym none ∙ so_far.parts), length-append so_far.front rest)

pub loses_more : (before mid now : Option (List ℕ)) (taken : List ℕ) → Consumes before mid taken → LosesFront mid now → LosesFront before now
loses_more before mid now taken consumed lost = (taken ++ lost.0, Consumes-trans before mid now taken lost.0 consumed lost.1)

-- the bytes that were left are those copied out, which stand before others, and those behind them
pub copied_out : (bytes copied others : List ℕ) (given count : ℕ) → count + given ≤ length bytes → copied ≡ take count (take (length bytes - given) (drop given bytes))
    → drop given bytes ≡ take count (copied ++ others) ++ drop (given + count) bytes
copied_out bytes copied others given count enough is =
    let rest : List ℕ = drop given bytes in
    let front : copied ≡ take count rest = is ∙ ap (take count) (take_rest bytes given) in
    let size : length copied ≡ count = ap length front ∙ length-take-le count rest (omega (arith, length-drop given bytes)) in
    sym (take-append-drop count rest)
    ∙ ap (λ l. l ++ drop count rest) (sym front ∙ sym (take_at copied others count size))
    ∙ ap (λ l. take count (copied ++ others) ++ l) (drop-drop count given bytes)

-- what holds whatever the error is
pub on_err : {T E P : Type 0} (result : Result T E) → P → OnErr result P
on_err (Ok value) holds = tt
on_err (Err error) holds = holds
