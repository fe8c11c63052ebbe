-- Texts and refusals are apart: no bytes are the text of two programs, or a text and refused, or have two refusals.
use Rattle.std.proofs.Common.{◌≡◌, refl, sym, ◌∙◌, ap, subst, inl, inr, Bool, true, false, List, [], ◌∷◌, ◌++◌, drop, append_assoc}
use Rattle.std.specs.Prelude.{Result, Ok, Err}
use Rattle.asp_defs.specs.declared.faults.TextFault.{TextFault}
use Rattle.asp_defs.specs.declared.faults.TextFault.TheVariants.{NoLevel}
use Rattle.asp_defs.specs.declared.syntax.Program.{Program}
use Rattle.asp_defs.specs.Lists.{is_empty}
use Rattle.asp_defs.specs.Tokens.{Token, Placed, without_places}
use Rattle.asp_defs.specs.Grammar.{IsProgram}
use Rattle.asp_defs.specs.TextRefusals.{IsViable, Offends, IsRefusedAt, refusal_of}
use Rattle.asp_defs.specs.TextLaws.{TextsAreUnambiguous, TextsAreNotRefused, RefusalsAreUnique}
use Rattle.asp_defs.proofs.TextRefutations.{clash, program_begins}
use Rattle.asp_defs.proofs.UnambiguousRules.{programs_agree}

abbrev ok_or_none : Result (List Placed) TextFault → List Placed
ok_or_none (Ok ts) = ts
ok_or_none (Err fault) = []

abbrev err_or : Result (List Placed) TextFault → TextFault
err_or (Ok ts) = NoLevel
err_or (Err fault) = fault

abbrev was_read : Result (List Placed) TextFault → Bool
was_read (Ok ts) = true
was_read (Err fault) = false

pub texts_are_unambiguous : TextsAreUnambiguous
texts_are_unambiguous bytes p q (ts, e, h) (us, f, k) =
    let same : ts ≡ us = ap ok_or_none (sym e ∙ f) in
    programs_agree (without_places ts) p q h (subst (λ vs. IsProgram (without_places vs) q) (sym same) k)

without_append : (ts us : List Placed) → without_places (ts ++ us) ≡ without_places ts ++ without_places us
without_append [] us = refl
without_append (t ∷ ts) us = ap (λ vs. t.token ∷ vs) (without_append ts us)

-- a front of a program is viable
front_viable : (before : List Placed) (t : Placed) (behind : List Placed) (p : Program) → IsProgram (without_places (before ++ t ∷ behind)) p → IsViable (without_places before ++ t.token ∷ [])
front_viable before t behind p h =
    (without_places behind, p, subst (λ us. IsProgram us p) (without_append before (t ∷ behind) ∙ sym (append_assoc (without_places before) (t.token ∷ []) (without_places behind))) h)

text_not_refused : (ts : List Placed) (p : Program) (fault : TextFault) → IsProgram (without_places ts) p → IsRefusedAt ts fault → ⊥
text_not_refused ts p fault h (inl (none, e)) =
    clash (program_begins [] p (subst (λ us. IsProgram (without_places us) p) none h))
text_not_refused ts p fault h (inr (inl (some, viable, none, e))) = none p h
text_not_refused ts p fault h (inr (inr (before, t, behind, e, offends, f))) =
    offends.stuck (front_viable before t behind p (subst (λ us. IsProgram (without_places us) p) e h))

pub texts_are_not_refused : TextsAreNotRefused
texts_are_not_refused bytes p fault (ts, e, h) (inl f) = clash (ap was_read (sym f ∙ e))
texts_are_not_refused bytes p fault (ts, e, h) (inr (us, f, r)) =
    let same : ts ≡ us = ap ok_or_none (sym e ∙ f) in
    text_not_refused us p fault (subst (λ vs. IsProgram (without_places vs) p) same h) r

-- ---- two refusals

-- what begins viable tokens is viable
viable_front : (ts us : List Token) → IsViable (ts ++ us) → IsViable ts
viable_front ts us (more, p, h) = (us ++ more, p, subst (λ vs. IsProgram vs p) (append_assoc ts us more) h)

-- two places in one list are the same, or one token stands among those before the other
data Places (before : List Placed) (t : Placed) (before' : List Placed) (t' : Placed) : Type 0 where
  same_place : before ≡ before' → t ≡ t' → Places before t before' t'
  first_before : (rest : List Placed) → before' ≡ before ++ t ∷ rest → Places before t before' t'
  second_before : (rest : List Placed) → before ≡ before' ++ t' ∷ rest → Places before t before' t'

abbrev head_or : Placed → List Placed → Placed
head_or d [] = d
head_or d (t ∷ ts) = t

further : (v w : Placed) (before : List Placed) (t : Placed) (before' : List Placed) (t' : Placed) → v ≡ w → Places before t before' t' → Places (v ∷ before) t (w ∷ before') t'
further v w before t before' t' e (same_place f g) = same_place (ap (λ z. z ∷ before) e ∙ ap (λ zs. w ∷ zs) f) g
further v w before t before' t' e (first_before rest f) = first_before rest (ap (λ zs. w ∷ zs) f ∙ ap (λ z. z ∷ (before ++ t ∷ rest)) (sym e))
further v w before t before' t' e (second_before rest f) = second_before rest (ap (λ zs. v ∷ zs) f ∙ ap (λ z. z ∷ (before' ++ t' ∷ rest)) e)

places : (before : List Placed) (t : Placed) (behind before' : List Placed) (t' : Placed) (behind' : List Placed) → before ++ t ∷ behind ≡ before' ++ t' ∷ behind' → Places before t before' t'
places [] t behind [] t' behind' e = same_place refl (ap (head_or t) e)
places [] t behind (w ∷ before') t' behind' e = first_before before' (ap (λ z. z ∷ before') (sym (ap (head_or t) e)))
places (v ∷ before) t behind [] t' behind' e = second_before before (ap (λ z. z ∷ before) (ap (head_or t) e))
places (v ∷ before) t behind (w ∷ before') t' behind' e =
    further v w before t before' t' (ap (head_or t) e) (places before t behind before' t' behind' (ap (drop 1) e))

-- an offending token doesn't stand before viable tokens' end
not_before : (before : List Placed) (t : Placed) (rest whole : List Placed) → whole ≡ before ++ t ∷ rest → Offends (without_places before) t.token → IsViable (without_places whole) → ⊥
not_before before t rest whole e offends viable =
    offends.stuck (viable_front (without_places before ++ t.token ∷ []) (without_places rest)
    (subst IsViable (ap without_places e ∙ without_append before (t ∷ rest) ∙ sym (append_assoc (without_places before) (t.token ∷ []) (without_places rest))) viable))

same_refusal : (before : List Placed) (t : Placed) (before' : List Placed) (t' : Placed) → Places before t before' t' → Offends (without_places before) t.token → Offends (without_places before') t'.token → refusal_of (without_places before) t.token t.begins ≡ refusal_of (without_places before') t'.token t'.begins
same_refusal before t before' t' (same_place e f) o o' =
    ap (λ ts. refusal_of (without_places ts) t.token t.begins) e ∙ ap (λ (u : Placed). refusal_of (without_places before') u.token u.begins) f
same_refusal before t before' t' (first_before rest e) o o' = absurd (not_before before t rest before' e o o'.viable)
same_refusal before t before' t' (second_before rest e) o o' = absurd (not_before before' t' rest before e o' o.viable)

nothing_splits : (before : List Placed) (t : Placed) (behind : List Placed) → [] ≡ before ++ t ∷ behind → ⊥
nothing_splits [] t behind e = clash (sym (ap is_empty e))
nothing_splits (v ∷ before) t behind e = clash (sym (ap is_empty e))

refusals_agree : (ts : List Placed) (f g : TextFault) → IsRefusedAt ts f → IsRefusedAt ts g → f ≡ g
refusals_agree ts f g (inl (none, e)) (inl (none', e')) = e ∙ sym e'
refusals_agree ts f g (inl (none, e)) (inr (inl (some, v, n, k))) = absurd (some none)
refusals_agree ts f g (inl (none, e)) (inr (inr (before, t, behind, split, o, k))) = absurd (nothing_splits before t behind (sym none ∙ split))
refusals_agree ts f g (inr (inl (some, v, n, k))) (inl (none, e)) = absurd (some none)
refusals_agree ts f g (inr (inl (some, viable, none, e))) (inr (inl (some', viable', none', e'))) = e ∙ sym e'
refusals_agree ts f g (inr (inl (some, viable, none, e))) (inr (inr (before, t, behind, split, o, e'))) = absurd (not_before before t behind ts split o viable)
refusals_agree ts f g (inr (inr (before, t, behind, split, o, k))) (inl (none, e)) = absurd (nothing_splits before t behind (sym none ∙ split))
refusals_agree ts f g (inr (inr (before, t, behind, split, o, e))) (inr (inl (some, viable, none, e'))) = absurd (not_before before t behind ts split o viable)
refusals_agree ts f g (inr (inr (before, t, behind, split, o, e))) (inr (inr (before', t', behind', split', o', e'))) =
    e ∙ same_refusal before t before' t' (places before t behind before' t' behind' (sym split ∙ split')) o o' ∙ sym e'

pub refusals_are_unique : RefusalsAreUnique
refusals_are_unique bytes f g (inl e) (inl k) = ap err_or (sym e ∙ k)
refusals_are_unique bytes f g (inl e) (inr (us, k, r)) = clash (ap was_read (sym e ∙ k))
refusals_are_unique bytes f g (inr (ts, e, r)) (inl k) = clash (ap was_read (sym k ∙ e))
refusals_are_unique bytes f g (inr (ts, e, r)) (inr (us, k, r')) =
    let same : ts ≡ us = ap ok_or_none (sym e ∙ k) in
    refusals_agree us f g (subst (λ vs. IsRefusedAt vs f) same r) r'
