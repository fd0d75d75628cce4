-- The rule of digits, one digit at a time. Assumes nothing.
use Prim.Native.Nat.{ℕ, zero, suc, ◌-◌, ◌/◌, ◌%◌, ◌<◌}
use native.Mathlib.Omega.{arith}
use mathlib.Core.Bool.{Bool, true, false, ◌||◌}
use mathlib.Core.Path.{◌≡◌, refl}
use mathlib.Core.List.{[], ◌∷◌, ◌++◌}
use lib.Dec.{leb}
use Rattle.line.specs.Digits.{glyph_of, digits_of}

pub digits-none : (base : ℕ) (zeros : Bool) (most n : ℕ) → most ≡ 0 → digits_of base zeros most n ≡ []
unfolding digits_of
digits-none base zeros zero n h = refl
digits-none base zeros (suc k) n h = absurd (omega arith)

-- a digit stands before the last one
pub digits_more : (base : ℕ) (zeros : Bool) (most n : ℕ) → 0 < most → (zeros || leb base n) ≡ true
    → digits_of base zeros (most - 1) (n / base) ++ glyph_of (n % base) ∷ [] ≡ digits_of base zeros most n
unfolding digits_of
digits_more base zeros zero n h t = absurd (omega arith)
digits_more base zeros (suc k) n h t =
    let e : suc k - 1 ≡ k = omega arith in
    rw (t, e)

-- none does
pub digits_last : (base : ℕ) (zeros : Bool) (most n : ℕ) → 0 < most → (zeros || leb base n) ≡ false
    → glyph_of (n % base) ∷ [] ≡ digits_of base zeros most n
unfolding digits_of
digits_last base zeros zero n h t = absurd (omega arith)
digits_last base zeros (suc k) n h t = rw t
