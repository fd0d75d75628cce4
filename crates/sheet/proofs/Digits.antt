-- The leading digits of a number are found: whatever place meets the number is the place that `lead` takes. Assumes nothing.
use mathlib.Core.Path.{◌≡◌}
use mathlib.Core.Logic.{⊎_elim}
use Prim.Native.Nat.{ℕ, suc, ◌+◌, ◌-◌, ◌*◌, ◌/◌, ◌^◌, ◌≤◌, ◌<◌}
use native.Mathlib.Nat.{le_trans, le_antisymm, lt_of_lt_of_le, mul-le-mul_right, div-eq_of_lt-le, lt_of_not-le, not-le_of_lt}
use native.Mathlib.Omega.{arith}
use lib.Pow.{pow-add, pow_mono}
use lib.Ieee.{size}
use lib.Ieee.Digits.{size-lt, size-le}
use Rattle.sheet.specs.Magnitude.{lead, Fit}
use Rattle.sheet.proofs.Gaps.{zero_or_pos}

size_is : (n j : ℕ) → 2 ^ j ≤ n → n < 2 ^ suc j → size n ≡ suc j
size_is n j h l =
    le_antisymm (size-le n (suc j) l) (lt_of_not-le (λ (g : size n ≤ j). not-le_of_lt (lt_of_lt_of_le (size-lt n) (pow_mono g)) h))

shift-low : (v e m n : ℕ) → 2 ^ v ≤ m → m * 2 ^ e ≤ n → 2 ^ (v + e) ≤ n
shift-low v e m n f h = rw pow-add (le_trans (mul-le-mul_right (2 ^ e) f) h)

shift-high : (v e m n : ℕ) → m < 2 ^ v → n < (m + 1) * 2 ^ e → n < 2 ^ (v + e)
shift-high v e m n s h =
    rw pow-add
    (lt_of_lt_of_le h (mul-le-mul_right (2 ^ e) (let t : m + 1 ≤ 2 ^ v = omega arith in t)))

-- the digits m at place e are the leading suc v digits of every n between m · 2^e and (m + 1) · 2^e
pub lead_is : (v n m e : ℕ) → Fit v m e → m * 2 ^ e ≤ n → n < (m + 1) * 2 ^ e → lead (suc v) n ≡ record { m = m; e = e }
unfolding lead
lead_is v n m e f low high = λ i. record { m = digits i; e = place i }
  where
    place : size n - suc v ≡ e
    place = ⊎_elim none some (zero_or_pos e)
      where
        none : e ≡ 0 → size n - suc v ≡ e
        none z =
            let h : n < 2 ^ (suc v + e) = shift-high (suc v) e m n f.small high in
            let g : size n ≤ suc v = rw (z, native.Mathlib.Nat.add-zero) at (size-le n (suc v + e) h) in
            omega arith

        some : 0 < e → size n - suc v ≡ e
        some p =
            let h : n < 2 ^ suc (v + e) = rw (native.Mathlib.Nat.suc-add) at (shift-high (suc v) e m n f.small high) in
            let g : size n ≡ suc (v + e) = size_is n (v + e) (shift-low v e m n (f.full p) low) h in
            omega arith

    digits : n / 2 ^ (size n - suc v) ≡ m
    digits = rw place (div-eq_of_lt-le (2 ^ e) low high)
