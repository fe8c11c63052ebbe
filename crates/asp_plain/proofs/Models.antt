-- Models of the reduct, by masks and by lists.
use Rattle.std.proofs.Common.{◌≡◌, ℕ, Bool, true, false, not, ◌&&◌, ◌||◌, eqb, cond, List, [], ◌∷◌, map, refl, sym, ap, ◌∙◌}
use Rattle.std.specs.List.{list_any, list_all, filter}
use Rattle.std.specs.Int.RustNames.{bit_and}
use Rattle.asp_defs.specs.declared.ground.GroundRule.{GroundRule}
use Rattle.asp_defs.specs.Interpretations.{holds}
use Rattle.asp_defs.specs.Truth.{satisfies, is_model}
use Rattle.asp_defs.specs.Reduct.{stays, positive_part, reduct}
use Rattle.asp_plain.specs.Masks.{mask_of, masked, satisfies_part, is_model_of_reduct}
use Rattle.asp_plain.proofs.Atoms.{bit, none_of, all_of, some_of}

-- n: no atom of the negative body is true; c: a choice, with its head true in the set or not; p and h: body and head
tests_agree : (n c set_head p h : Bool)
    → (not n || ((c && not set_head) || (not p || h)))
    ≡ (not (n && (not c || set_head)) || (not (p && true) || h))
tests_agree false c set_head p h = refl
tests_agree true false set_head true h = refl
tests_agree true false set_head false h = refl
tests_agree true true true true h = refl
tests_agree true true true false h = refl
tests_agree true true false p h = refl

not_not : (p : Bool) → p ≡ not (not p)
not_not true = refl
not_not false = refl

-- the masks of a rule are satisfied where its part in the reduct is, or where it has none
satisfies-same : (r : GroundRule) (I J : List ℕ) (set small : ℕ) → ((a : ℕ) → holds I a ≡ bit set a)
    → ((a : ℕ) → holds J a ≡ bit small a)
    → satisfies_part (masked r) set small ≡ (not (stays I r) || satisfies J (positive_part r))
satisfies-same r I J set small marks below =
    let n = list_all (λ a. not (holds I a)) r.neg in
    let head = bit_and (mask_of r.head) set in
    let p = eqb (bit_and (mask_of r.pos) small) (mask_of r.pos) in
    let h = not (eqb (bit_and (mask_of r.head) small) 0) in
    ap (λ t. not t || ((r.choice && eqb head 0) || (not p || h))) (none_of r.neg I set marks)
    ∙ ap (λ t. not n || ((r.choice && t) || (not p || h)))
    (not_not (eqb head 0) ∙ ap not (some_of r.head I set marks))
    ∙ ap (λ t. not n || ((r.choice && not (list_any (holds I) r.head)) || (not t || h))) (all_of r.pos J small below)
    ∙ ap (λ t. not n || ((r.choice && not (list_any (holds I) r.head)) || (not (list_all (holds J) r.pos) || t)))
    (some_of r.head J small below)
    ∙ tests_agree n r.choice (list_any (holds I) r.head) (list_all (holds J) r.pos) (list_any (holds J) r.head)

-- a rule that stays or doesn't
model-cond : (s : Bool) (r : GroundRule) (rest : List GroundRule) (J : List ℕ)
    → is_model J (map positive_part (cond s (r ∷ rest) rest))
    ≡ ((not s || satisfies J (positive_part r)) && is_model J (map positive_part rest))
model-cond true r rest J = refl
model-cond false r rest J = refl

-- a set is a model of the masks' reduct where it is one of the rules' reduct
pub models-same : (G : List GroundRule) (I J : List ℕ) (set small : ℕ) → ((a : ℕ) → holds I a ≡ bit set a)
    → ((a : ℕ) → holds J a ≡ bit small a)
    → is_model_of_reduct (map masked G) set small ≡ is_model J (reduct G I)
models-same [] I J set small marks below = refl
models-same (r ∷ G) I J set small marks below =
    ap (λ t. t && is_model_of_reduct (map masked G) set small) (satisfies-same r I J set small marks below)
    ∙ ap (λ t. (not (stays I r) || satisfies J (positive_part r)) && t) (models-same G I J set small marks below)
    ∙ sym (model-cond (stays I r) r (filter (stays I) G) J)
