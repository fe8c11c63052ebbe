-- Bounds and their terms as they are made from parts.
use Rattle.std.proofs.Common.{ℕ, zero, suc, zero-add, ◌≡◌, ◌+◌, ◌-◌, refl, sym, ◌∙◌, ap, false, List, [], ◌∷◌, ◌++◌, append-nil, map, take, drop, length, replicate, length-append, arith}
use Rattle.std.specs.Prelude.{ℤ, Option, Bool, true, if◌then◌else◌}
use Rattle.std.specs.List.{flat_map}
use Rattle.std.proofs.lemmas.List.{length-map, length-replicate}
use Rattle.asp_defs.specs.declared.ground.Bound.{Bound}
use Rattle.asp_defs.specs.declared.syntax.Term.{Term}
use Rattle.asp_defs.specs.declared.syntax.Term.TheVariants.{Anon}
use Rattle.asp_defs.specs.declared.syntax.Literal.{Literal}
use Rattle.asp_defs.specs.declared.syntax.Element.{Element}
use Rattle.asp_defs.specs.Lists.{numbers_from}
use Rattle.asp_defs.specs.Bases.{product}
use Rattle.asp_atoms.specs.Counts.{shown}
use Rattle.asp_safety.specs.declared.variable.Variable.{Variable}
use Rattle.asp_safety.specs.Variables.{term_of}
use Rattle.asp_atoms.specs.declared.vocabularies.Vocabulary.{Vocabulary}
use Rattle.asp_template.specs.declared.template.AtomTemplate.{AtomTemplate}
use Rattle.asp_template.specs.declared.template.Template.{Template}
use Rattle.asp_ground.specs.declared.bound_template.ElementTemplate.{ElementTemplate}
use Rattle.asp_ground.specs.declared.bound_template.BoundTemplate.{BoundTemplate}
use Rattle.asp_template.specs.Ranks.{capped}
use Rattle.asp_template.specs.Variables.{disjunctive_variables, found_variables}
use Rattle.asp_template.specs.Compiled.{atom_template, compiled}
use Rattle.asp_ground.specs.BoundTemplates.{term_at, terms_at, bounds_over, element_template, bound_template, choice_bounds}

take_front : (xs ys : List ℕ) → take (length xs) (xs ++ ys) ≡ xs
take_front [] ys = refl
take_front (x ∷ xs) ys = ap (λ zs. x ∷ zs) (take_front xs ys)

drop_front : {A : Type 0} (m n : ℕ) (x : A) → drop m (replicate (m + n) x) ≡ replicate n x
drop_front zero n x = ap (λ k. replicate k x) (zero-add n)
drop_front (suc m) n x =
    let count : suc m + n ≡ suc (m + n) = omega arith in
    ap (λ k. drop (suc m) (replicate k x)) count ∙ drop_front m n x

-- the terms of an element where its own ranks have room behind those of the body
pub room : (size : ℕ) (universe ranks all : List ℕ) (e : ElementTemplate) (given count : ℕ) → given ≡ length ranks → count ≡ length all → all ≡ ranks ++ replicate e.own 0 → flat_map (λ rest. term_at size e (take given all ++ rest)) (product (drop given (replicate count universe))) ≡ terms_at size universe ranks e
room size universe ranks all e given count front long is =
    let whole = length-append ranks (replicate e.own 0) in
    let own : length (replicate e.own 0) ≡ e.own = length-replicate {A = ℕ} e.own 0 in
    let same : length all ≡ length (ranks ++ replicate e.own 0) = ap length is in
    let sum : count ≡ length ranks + e.own = omega (arith, whole, own, same, long) in
    let first : take given all ≡ ranks = ap (λ n. take n all) front ∙ (ap (take (length ranks)) is ∙ take_front ranks (replicate e.own 0)) in
    ap (λ xs. flat_map (λ rest. term_at size e (xs ++ rest)) (product (drop given (replicate count universe)))) first
    ∙ (ap (λ n. flat_map (λ rest. term_at size e (ranks ++ rest)) (product (drop n (replicate count universe)))) front
    ∙ (ap (λ n. flat_map (λ rest. term_at size e (ranks ++ rest)) (product (drop (length ranks) (replicate n universe)))) sum
    ∙ ap (λ Us. flat_map (λ rest. term_at size e (ranks ++ rest)) (product Us)) (drop_front (length ranks) e.own universe)))

counted : (variables : List Variable) (ts : List Term) → map term_of variables ≡ ts → length variables ≡ length ts
counted variables ts e = sym (length-map variables term_of) ∙ ap length e

abbrev make_element : ℕ → AtomTemplate → Template → ElementTemplate
make_element own atom cond = record { own = own; atom = atom; cond = cond }

pub element_over : (v : Vocabulary) (body : List Literal) (e : Element) (variables of_body : List Variable) (own : ℕ) (atom : AtomTemplate) (cond : Template) (heads : List AtomTemplate) → map term_of variables ≡ found_variables body e → map term_of of_body ≡ disjunctive_variables [] body → own ≡ length variables - length of_body → atom ≡ atom_template v (map term_of variables) e.atom → heads ≡ [] → cond ≡ compiled v (map term_of variables) false heads e.cond → make_element own atom cond ≡ element_template v body e
element_over v body e variables of_body own atom cond heads found fewer is atom_is none cond_is =
    ap (λ n. make_element n atom cond) (is ∙ (ap (λ n. n - length of_body) (counted variables (found_variables body e) found) ∙ ap (λ n. length (found_variables body e) - n) (counted of_body (disjunctive_variables [] body) fewer)))
    ∙ (ap (λ a. make_element (length (found_variables body e) - length (disjunctive_variables [] body)) a cond) (atom_is ∙ ap (λ ts. atom_template v ts e.atom) found)
    ∙ ap (make_element (length (found_variables body e) - length (disjunctive_variables [] body)) (atom_template v (found_variables body e) e.atom))
    (cond_is ∙ (ap (λ hs. compiled v (map term_of variables) false hs e.cond) none ∙ ap (λ ts. compiled v ts false [] e.cond) found)))

abbrev pub make_bound : Option ℤ → Option ℤ → Template → List ElementTemplate → BoundTemplate
make_bound low high body elements = record { body = body; low = low; high = high; elements = elements }

pub choice_over : (v : Vocabulary) (ranks : List ℕ) (low : Option ℤ) (elements : List Element) (high : Option ℤ) (body : List Literal) (variables : List Variable) (t : Template) (heads : List AtomTemplate) (es : List ElementTemplate) (size count : ℕ) → map term_of variables ≡ disjunctive_variables [] body → heads ≡ [] → t ≡ compiled v (map term_of variables) false heads (body ++ []) → es ≡ map (element_template v body) elements → size ≡ capped (length v.constants) → count ≡ length variables → bounds_over size ranks (make_bound low high t es) count ≡ choice_bounds v ranks low elements high body
choice_over v ranks low elements high body variables t heads es size count found none t_is es_is size_is count_is =
    let template : t ≡ compiled v (disjunctive_variables [] body) false [] body =
    t_is
    ∙ (ap (λ hs. compiled v (map term_of variables) false hs (body ++ [])) none
    ∙ (ap (compiled v (map term_of variables) false []) (append-nil body)
    ∙ ap (λ ts. compiled v ts false [] body) found)) in
    ap (λ n. bounds_over n ranks (make_bound low high t es) count) size_is
    ∙ (ap (λ u. bounds_over (capped (length v.constants)) ranks (make_bound low high u es) count) template
    ∙ (ap (λ us. bounds_over (capped (length v.constants)) ranks (make_bound low high (compiled v (disjunctive_variables [] body) false [] body) us) count) es_is
    ∙ ap (bounds_over (capped (length v.constants)) ranks (bound_template v low elements high body)) (count_is ∙ counted variables (disjunctive_variables [] body) found)))

-- ---- counts of a choice

pub unbounded_count : (n m : ℕ) (t : Bool) (count : ℕ) → t ≡ false → count ≡ shown n → count ≡ shown (n + (if t then m else 0))
unbounded_count n m t count e is =
    let none : n ≡ n + 0 = omega arith in
    is ∙ (ap shown none ∙ ap (λ b. shown (n + (if b then m else 0))) (sym e))

pub bounded_count : (n m : ℕ) (t : Bool) (first second count : ℕ) → t ≡ true → first ≡ shown n → second ≡ shown m → count ≡ shown (first + second) → count ≡ shown (n + (if t then m else 0))
bounded_count n m t first second count e one two is =
    let whole : count ≡ shown (n + m) = omega (arith, one, two, is) in
    whole ∙ ap (λ b. shown (n + (if b then m else 0))) (sym e)

pub no_bounds_more : (out bounds : List Bound) (t : Bool) → t ≡ false → out ≡ out ++ (if t then bounds else [])
no_bounds_more out bounds t e =
    sym (append-nil out) ∙ ap (λ b. out ++ (if b then bounds else [])) (sym e)

pub bounds_more : (out bounds : List Bound) (t : Bool) → t ≡ true → out ++ bounds ≡ out ++ (if t then bounds else [])
bounds_more out bounds t e = ap (λ b. out ++ (if b then bounds else [])) (sym e)

-- ---- nameless variables

numbers_more : (f : ℕ → Term) (first n : ℕ) → map f (numbers_from first (n + 1)) ≡ map f (numbers_from first n) ++ f (first + n) ∷ []
numbers_more f first zero =
    let here : first ≡ first + 0 = omega arith in ap (λ k. f k ∷ []) here
numbers_more f first (suc n) =
    let count : suc n + 1 ≡ suc (n + 1) = omega arith in
    let place : suc first + n ≡ first + suc n = omega arith in
    ap (λ k. map f (numbers_from first k)) count
    ∙ ap (λ ts. f first ∷ ts) (numbers_more f (suc first) n ∙ ap (λ k. map f (numbers_from (suc first) n) ++ f k ∷ []) place)

pub variables_more : (terms next : List Term) (n : ℕ) → terms ≡ map Anon (numbers_from 1 n) → next ≡ terms ++ Anon (n + 1) ∷ [] → next ≡ map Anon (numbers_from 1 (n + 1))
variables_more terms next n e is =
    let place : n + 1 ≡ 1 + n = omega arith in
    is ∙ (ap (λ ts. ts ++ Anon (n + 1) ∷ []) e ∙ (ap (λ k. map Anon (numbers_from 1 n) ++ Anon k ∷ []) place ∙ sym (numbers_more Anon 1 n)))
