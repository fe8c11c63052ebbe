-- One step of a loop over variables or links.
use Rattle.std.proofs.Common.{ℕ, ◌≡◌, ◌+◌, ◌<◌, sym, ◌∙◌, ap, subst, refl, List, [], ◌∷◌, ◌++◌, map, length, get_or, take, arith}
use Rattle.std.proofs.lemmas.List.{take_more, map-append}
use Rattle.asp_defs.specs.declared.syntax.Term.{Term}
use Rattle.asp_safety.specs.declared.variable.Variable.{Variable}
use Rattle.asp_safety.specs.Variables.{term_of, terms_of}
use Rattle.asp_safety.specs.Closure.{Settles, Gathers}
use Rattle.asp_safety.proofs.Spreading.{gathers_more}

pub map_more : {A B : Type 0} (f : A → B) (xs : List A) (i : ℕ) (d : A) → i < length xs → map f (take (i + 1) xs) ≡ map f (take i xs) ++ f (get_or xs i d) ∷ []
map_more f xs i d h = ap (map f) (take_more xs i d h) ∙ map-append f (take i xs) (get_or xs i d ∷ [])

pub none_left : {A : Type 0} (xs : List A) → length xs ≡ 0 → xs ≡ []
none_left [] e = refl
none_left (x ∷ xs) e = absurd (omega arith)

pub gathers_step : (xs : List Variable) (i : ℕ) (d : Variable) → i < length xs → (S T Q R : List Term) → Gathers (terms_of (take i xs)) S Q → Settles (term_of (get_or xs i d)) S T Q R → Gathers (terms_of (take (i + 1) xs)) T R
gathers_step xs i d h S T Q R g s =
    subst (λ vs. Gathers vs T R) (sym (map_more term_of xs i d h)) (gathers_more (terms_of (take i xs)) (term_of (get_or xs i d)) S T Q R g s)
