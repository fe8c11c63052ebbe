use Rattle.std.proofs.Common.{ℕ, List, [], ◌∷◌, Err}
use Rattle.std.specs.declared.option.Option.{Option}
use Rattle.asp_defs.specs.Canonical.{applied_text}
use Rattle.asp_print.specs.Written.{Writes}
use Rattle.asp_print.proofs.Forms.{truly, untrue, applied_none, applied_some}
use Rattle.asp_print.proofs.Writing.{behind, cut, failed, as_text}
use Rattle.asp_print.proofs.pieces.print_applied.Goals as goal

pub returns-in_err-print_name : goal.returns-in_err-print_name
returns-in_err-print_name g c =
    failed _ c.from_residual.ensures.0 (whole g.T.Printed.text c.args.args.now c.in_err-print_name.ensures)
  where
    whole : {X T E : Type 0} {a b : Option (List ℕ)} {d d' : List ℕ} {f g : ℕ} {t : List ℕ} {e : E} (text : X → List ℕ) (args : List X) → Writes {T = T} a b d d' f g (Err e) t → Writes {T = T} a b d d' f g (Err e) (applied_text text t args)
    whole text [] h = h
    whole text (x ∷ xs) h = cut _ (cut _ (cut _ h))

pub returns-in_err-print_bytes : goal.returns-in_err-print_bytes
returns-in_err-print_bytes g c =
    as_text (applied_some g.T.Printed.text c.args.name.now c.args.args.now (untrue _ _ _ c.is_empty.ensures c.if-is_empty.false))
    (failed _ c.from_residual-in_err-print_bytes.ensures.0 (cut _ (cut _ (behind c.in_ok-print_name.ensures c.in_err-print_bytes.ensures))))

pub returns-in_err-print_joined : goal.returns-in_err-print_joined
returns-in_err-print_joined g c =
    as_text (applied_some g.T.Printed.text c.args.name.now c.args.args.now (untrue _ _ _ c.is_empty.ensures c.if-is_empty.false))
    (failed _ c.from_residual-in_err-print_joined.ensures.0 (cut _ (behind (behind c.in_ok-print_name.ensures c.in_ok-print_bytes.ensures) c.in_err-print_joined.ensures)))

pub returns : goal.returns
returns g c =
    as_text (applied_some g.T.Printed.text c.args.name.now c.args.args.now (untrue _ _ _ c.is_empty.ensures c.if-is_empty.false))
    (behind (behind (behind c.in_ok-print_name.ensures c.in_ok-print_bytes.ensures) c.in_ok-print_joined.ensures) c.print_bytes-2.ensures)

pub returns-then-is_empty : goal.returns-then-is_empty
returns-then-is_empty g c =
    as_text (applied_none g.T.Printed.text c.args.name.now c.args.args.now (truly _ _ _ c.is_empty.ensures c.if-is_empty.true)) c.in_ok-print_name.ensures
