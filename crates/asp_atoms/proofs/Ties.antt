-- Predicates are equal where their order doesn't tell them apart.
use Rattle.std.proofs.Common.{◌≡◌, refl, ap, ◌∙◌, Bool, ◌&&◌}
use Rattle.std.specs.Prelude.{nat_eq}
use Rattle.std.specs.Ordering.{nat_cmp, ordering_then, is_eq, on, eq_by_cmp}
use Rattle.std.specs.declared.cmp.Ordering.{Ordering}
use Rattle.std.specs.declared.cmp.Ordering.TheVariants.{Less, Equal, Greater}
use Rattle.std.specs.Cmp.{unsigned_ties}
use Rattle.std.specs.Cmp.Lexicographic.{slice_cmp, pointwise, texts_ties}
use Rattle.asp_defs.specs.Bases.{predicate_cmp}
use Rattle.asp_atoms.specs.declared.signatures.Signature.{Signature}
use Rattle.asp_atoms.specs.contracts.signatures.SignaturePartialEq.TheImpl.{eq-value}
use Rattle.asp_atoms.specs.Signatures.{predicate_of}

then_tied : (o p : Ordering) → is_eq o && is_eq p ≡ is_eq (ordering_then o p)
then_tied Less p = refl
then_tied Equal p = refl
then_tied Greater p = refl

both_tied : (a b : Bool) (o p : Ordering) → a ≡ is_eq o → b ≡ is_eq p → a && b ≡ is_eq (ordering_then o p)
both_tied a b o p e f = ap (λ c. c && b) e ∙ (ap (λ c. is_eq o && c) f ∙ then_tied o p)

pub signature_ties : (x y : Signature) → (eq-value).it x y ≡ eq_by_cmp (on predicate_of predicate_cmp) x y
signature_ties x y =
    both_tied (pointwise nat_eq x.name.now y.name.now) (nat_eq x.arity y.arity) (slice_cmp nat_cmp x.name.now y.name.now) (nat_cmp x.arity y.arity)
    (texts_ties x.name.now y.name.now) (unsigned_ties x.arity y.arity)
