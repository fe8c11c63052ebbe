-- Texts that are written one behind the other.
use Rattle.std.proofs.Common.{rules, arith, ◌≡◌, ℕ, zero, suc, ◌+◌, ◌-◌, ◌<◌, ◌≤◌, List, [], ◌∷◌, ◌++◌, length, take, drop, get_or, refl, sym, ◌∙◌, ap, subst, Result, Ok, Err, OnOk, OnErr, append-nil, append_assoc, add-one, take-append-drop}
use Rattle.std.proofs.Math.Seq.{take-length}
use Rattle.std.specs.List.{flat_map}
use Rattle.std.proofs.lemmas.Grind.{flat_map-append}
use Rattle.std.specs.Result.{IsErr}
use Rattle.std.specs.declared.option.Option.{Option}
use Rattle.std.specs.Io.KnownBytes.{Appends}
use Rattle.std.proofs.KnownBytes.{Appends-nil, Appends-trans}
use Rattle.asp_io.specs.Causes.{HasCause}
use Rattle.asp_io.specs.Moved.{AppendsPrefix}
use Rattle.asp_print.specs.Written.{Sends, Writes}

-- a front of a text is a front of a longer one
front_of_more : (count : ℕ) (t u : List ℕ) → (more : ℕ) × (take more (t ++ u) ≡ take count t)
front_of_more zero t u = (0, refl)
front_of_more (suc count) [] u = (0, refl)
front_of_more (suc count) (b ∷ t) u = let rest = front_of_more count t u in (suc rest.0, ap (λ bs. b ∷ bs) rest.1)

front_behind : (count : ℕ) (t u : List ℕ) → (more : ℕ) × (take more (t ++ u) ≡ t ++ take count u)
front_behind count [] u = (count, refl)
front_behind count (b ∷ t) u = let rest = front_behind count t u in (suc rest.0, ap (λ bs. b ∷ bs) rest.1)

-- a prefix of a text is one of a longer text
prefix_of_more : (a b : Option (List ℕ)) (t u : List ℕ) → AppendsPrefix a b t → AppendsPrefix a b (t ++ u)
prefix_of_more a b t u (count, appended) =
    let front = front_of_more count t u in (front.0, subst (Appends a b) (sym front.1) appended)

prefix_behind : (a b c : Option (List ℕ)) (t u : List ℕ) → Appends a b t → AppendsPrefix b c u → AppendsPrefix a c (t ++ u)
prefix_behind a b c t u first (count, appended) =
    let front = front_behind count t u in
    (front.0, subst (Appends a c) (sym front.1) (Appends-trans a b c t (take count u) first appended))

-- nothing is written
pub nothing : {E : Type 0} (a : Option (List ℕ)) (held : List ℕ) (f : ℕ) → Writes {T = Unit {0}} {E = E} a a held held f f (Ok tt) []
nothing a held f = record {
  all = record { sent = []; appended = Appends-nil a; parts = append-nil held };
  prefix = tt;
  cause = record { later = search rules; kept = refl; failed = tt };
}

-- another answer to the same text
pub answered : {T U E : Type 0} {a b : Option (List ℕ)} {d d' : List ℕ} {f g : ℕ} {t : List ℕ} {v : T} (w : U)
    → Writes {T = T} {E = E} a b d d' f g (Ok v) t → Writes {T = U} {E = E} a b d d' f g (Ok w) t
answered w h = record {
  all = h.all;
  prefix = tt;
  cause = record { later = h.cause.later; kept = h.cause.kept; failed = tt };
}

-- the texts of two calls
sends_both : (a b c : Option (List ℕ)) (d d' d'' t u : List ℕ) → Sends a b d d' t → Sends b c d' d'' u → Sends a c d d'' (t ++ u)
sends_both a b c d d' d'' t u first second = record {
  sent = first.sent ++ second.sent;
  appended = Appends-trans a b c first.sent second.sent first.appended second.appended;
  parts = sym (append_assoc d t u) ∙ ap (λ bs. bs ++ u) first.parts ∙ append_assoc first.sent d' u ∙ ap (λ bs. first.sent ++ bs) second.parts
      ∙ sym (append_assoc first.sent second.sent d'');
}

sends_prefix : (a b c : Option (List ℕ)) (d d' t u : List ℕ) → Sends a b d d' t → AppendsPrefix b c (d' ++ u) → AppendsPrefix a c (d ++ (t ++ u))
sends_prefix a b c d d' t u first second =
    subst (AppendsPrefix a c) (sym (append_assoc first.sent d' u) ∙ ap (λ bs. bs ++ u) (sym first.parts) ∙ append_assoc d t u)
    (prefix_behind a b c first.sent (d' ++ u) first.appended second)

-- a text, and then another one
pub behind : {T U E : Type 0} {a b c : Option (List ℕ)} {d d' d'' : List ℕ} {f g h : ℕ} {t u : List ℕ} {v : T} {result : Result U E}
    → Writes {E = E} a b d d' f g (Ok v) t → Writes b c d' d'' g h result u → Writes a c d d'' f h result (t ++ u)
behind {U = U} {E = E} {a = a} {b = b} {c = c} {d = d} {d' = d'} {d'' = d''} {h = h} {t = t} {u = u} {result = Ok w} first second = record {
  all = sends_both a b c d d' d'' t u first.all second.all;
  prefix = tt;
  cause = subst (λ (n : ℕ). HasCause {T = U} {E = E} n h (Ok w)) first.cause.kept second.cause;
}
behind {U = U} {E = E} {a = a} {b = b} {c = c} {d = d} {d' = d'} {h = h} {t = t} {u = u} {result = Err e} first second = record {
  all = tt;
  prefix = sends_prefix a b c d d' t u first.all second.prefix;
  cause = subst (λ (n : ℕ). HasCause {T = U} {E = E} n h (Err e)) first.cause.kept second.cause;
}

-- a text that wasn't written whole, and one behind it
pub cut : {T E : Type 0} {a b : Option (List ℕ)} {d d' : List ℕ} {f g : ℕ} {t : List ℕ} {e : E} (u : List ℕ)
    → Writes {T = T} a b d d' f g (Err e) t → Writes {T = T} a b d d' f g (Err e) (t ++ u)
cut {a = a} {b = b} {d = d} {t = t} u first = record {
  all = tt;
  prefix = subst (AppendsPrefix a b) (append_assoc d t u) (prefix_of_more a b (d ++ t) u first.prefix);
  cause = first.cause;
}

-- the answer at the exit of a `?`
pub failed : {T U E : Type 0} {a b : Option (List ℕ)} {d d' : List ℕ} {f g : ℕ} {t : List ℕ} {e : E} (result : Result U E)
    → IsErr result → Writes {T = T} a b d d' f g (Err e) t → Writes a b d d' f g result t
failed (Ok w) is_error written = absurd (cc)
failed (Err e') is_error written = record {
  all = tt;
  prefix = written.prefix;
  cause = record { later = written.cause.later; kept = tt; failed = written.cause.failed };
}

-- the same text in another form
pub as_text : {T E : Type 0} {a b : Option (List ℕ)} {d d' : List ℕ} {f g : ℕ} {t u : List ℕ} {result : Result T E}
    → t ≡ u → Writes a b d d' f g result t → Writes a b d d' f g result u
as_text {a = a} {b = b} {d = d} {d' = d'} {f = f} {g = g} {result = result} e h = subst (Writes a b d d' f g result) e h

-- the same with the held bytes in another form
pub as_held : {T E : Type 0} {a b : Option (List ℕ)} {d d' e e' : List ℕ} {f g : ℕ} {t : List ℕ} {result : Result T E}
    → d ≡ e → d' ≡ e' → Writes a b d d' f g result t → Writes a b e e' f g result t
as_held {a = a} {b = b} {d' = d'} {e = e} {f = f} {g = g} {t = t} {result = result} p q h =
    subst (λ l. Writes a b e l f g result t) q (subst (λ l. Writes a b l d' f g result t) p h)

-- ---- the sink alone

-- what a call that holds nothing before and afterwards does to the sink
pub record Prints {T E : Type 0} (before now : Option (List ℕ)) (faults_before faults_now : ℕ) (result : Result T E) (text : List ℕ) : Type 0 where
  pub all : OnOk result (Appends before now text)
  pub prefix : OnErr result (AppendsPrefix before now text)
  pub cause : HasCause faults_before faults_now result

-- all of a text was held, then sent
pub sent_whole : {T E : Type 0} {a b : Option (List ℕ)} {f g : ℕ} {t : List ℕ} (result : Result T E) → Writes a b [] [] f g result (t ++ []) → Prints a b f g result t
sent_whole {a = a} {b = b} {t = t} (Ok v) h = record {
  all = subst (Appends a b) (sym (append-nil h.all.sent) ∙ sym h.all.parts ∙ append-nil t) h.all.appended;
  prefix = tt;
  cause = h.cause;
}
sent_whole {a = a} {b = b} {t = t} (Err e) h = record {
  all = tt;
  prefix = subst (AppendsPrefix a b) (append-nil t) h.prefix;
  cause = h.cause;
}

-- a text that wasn't written whole
pub sent_part : {T E : Type 0} {a b : Option (List ℕ)} {d : List ℕ} {f g : ℕ} {t : List ℕ} (result : Result T E) → IsErr result → Writes a b [] d f g result t → Prints a b f g result t
sent_part (Ok v) is_error h = absurd (cc)
sent_part (Err e) is_error h = record { all = tt; prefix = h.prefix; cause = h.cause }

-- ---- lists of parts

-- the texts of the parts up to one, and that one's
pub each_more : {X : Type 0} (text : X → List ℕ) (xs : List X) (i : ℕ) (x : X) → i < length xs → x ≡ get_or xs i x
    → flat_map text (take (i + 1) xs) ≡ flat_map text (take i xs) ++ text x
each_more text xs i x inside is = ap (λ n. flat_map text (take n xs)) (add-one i) ∙ go text xs i x inside is
  where
    go : {X : Type 0} (text : X → List ℕ) (xs : List X) (i : ℕ) (x : X) → i < length xs → x ≡ get_or xs i x → flat_map text (take (suc i) xs) ≡ flat_map text (take i xs) ++ text x
    go text [] i x inside is = absurd (omega arith)
    go text (y ∷ ys) zero x inside is = append-nil (text y) ∙ ap text (sym is)
    go text (y ∷ ys) (suc i) x inside is =
        ap (λ bs. text y ++ bs) (go text ys i x (omega arith) is) ∙ sym (append_assoc (text y) (flat_map text (take i ys)) (text x))

-- the texts of the first parts, and of the others
pub each_rest : {X : Type 0} (text : X → List ℕ) (xs : List X) (n : ℕ) → flat_map text (take n xs) ++ flat_map text (drop n xs) ≡ flat_map text xs
each_rest text xs n = sym (flat_map-append text (take n xs) (drop n xs)) ∙ ap (flat_map text) (take-append-drop n xs)

-- a list is its first part and those that a pattern takes behind it
pub first_and_rest : {X : Type 0} (xs : List X) (x : X) → 1 ≤ length xs → x ≡ get_or xs 0 x → xs ≡ x ∷ take (length xs - 1) (drop 1 xs)
first_and_rest [] x some is = absurd (omega arith)
first_and_rest (y ∷ ys) x some is =
    let same : length (y ∷ ys) - 1 ≡ length ys = omega arith in
    ap (λ z. z ∷ ys) (sym is) ∙ ap (λ zs. x ∷ zs) (sym (take-length ys) ∙ ap (λ n. take n ys) (sym same))

-- the texts of the parts up to one, each behind a lead, and that one's
pub led_more : {X : Type 0} (text : X → List ℕ) (lead : List ℕ) (xs : List X) (i : ℕ) (x : X) → i < length xs → x ≡ get_or xs i x
    → (flat_map (λ y. lead ++ text y) (take i xs) ++ lead) ++ text x ≡ flat_map (λ y. lead ++ text y) (take (i + 1) xs)
led_more text lead xs i x inside is =
    append_assoc (flat_map (λ y. lead ++ text y) (take i xs)) lead (text x) ∙ sym (each_more (λ y. lead ++ text y) xs i x inside is)

-- the same, and those behind it
pub led_all : {X : Type 0} (text : X → List ℕ) (lead : List ℕ) (xs : List X) (i : ℕ) (x : X) → i < length xs → x ≡ get_or xs i x
    → ((flat_map (λ y. lead ++ text y) (take i xs) ++ lead) ++ text x) ++ flat_map (λ y. lead ++ text y) (drop (i + 1) xs) ≡ flat_map (λ y. lead ++ text y) xs
led_all text lead xs i x inside is =
    ap (λ bs. bs ++ flat_map (λ y. lead ++ text y) (drop (i + 1) xs)) (led_more text lead xs i x inside is)
    ∙ each_rest (λ y. lead ++ text y) xs (i + 1)
