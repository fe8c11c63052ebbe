-- Masks that are parts of others.
use Rattle.std.proofs.Common.{◌≡◌, ℕ, true, sym, ◌∙◌, inl, inr}
use Rattle.std.specs.Int.RustNames.{bit_or}
use Rattle.std.proofs.lemmas.Bool.{or_cases, or_left}
use Rattle.asp_plain.proofs.Atoms.{bit, bit-or}

-- the bits of a mask are bits of another
abbrev pub Within : ℕ → ℕ → Type 0
Within m s = (a : ℕ) → bit m a ≡ true → bit s a ≡ true

pub outer-within : (m part : ℕ) → Within m (bit_or m part)
outer-within m part a h = bit-or m part a ∙ or_left (bit m a) (bit part a) h

pub or-within : (m k s : ℕ) → Within m s → Within k s → Within (bit_or m k) s
or-within m k s ms ks a h =
    elim (or_cases (bit m a) (bit k a) (sym (bit-or m k a) ∙ h)) [ inl e ↦ ms a e | inr e ↦ ks a e ]
