-- A given value from an f64 is in the range that the operations take, for every count of bits up to a thousand. Assumes nothing.
use Prim.Native.Nat.{ℕ, suc, ◌+◌, ◌*◌, ◌^◌, ◌≤◌, ◌<◌}
use mathlib.Core.Path.{◌≡◌, refl, sym, ap, ◌∙◌, subst}
use mathlib.Core.Logic.{inl, inr}
use mathlib.Core.Bool.{Bool}
use native.Mathlib.Omega.{arith}
use native.Mathlib.Nat.{le_trans, le_of_eq, le_of_lt, lt_of_le_of_lt, lt_of_lt_of_le, eq-zero-or-pos, mul-le-mul_right, zero-mul, one-mul, mul-one, mul-le-mul}
use lib.Dec.{T, lit<}
use lib.Pow.{pow-add, pow_pos, pow_mono, pow-lt, shl_lt}
use lib.Ieee.{Float, binary64, fits}
use lib.Ieee.Scale.{finite}
use Rattle.exact.specs.Fraction.{nat, parts, ◌≈◌}
use Rattle.exact.proofs.Fraction.Order.{≈-trans}
use Rattle.exact.proofs.Fraction.Parts.{parts-zero}
use Rattle.sheet.specs.Magnitude.{round_mag}
use Rattle.sheet.specs.Number.{bias, signed}
use Rattle.sheet.specs.Round.{away, round}
use Rattle.sheet.specs.Range.{Within}
use Rattle.sheet.proofs.Rounding.{round_fit, round_full, keep_low, keep_high}
use Rattle.sheet.proofs.Signed.{round_parts}
use Rattle.sheet.proofs.Laws.{round_nought}
use Rattle.doubles.specs.Double.{exact_of}
use Rattle.doubles.proofs.Pattern.{Units, in_units, value-exact}
use Rattle.doubles.proofs.Shift.{pow_lt_back}

-- a size from 2^lo to 2^hi, spelled with suc v digits, has its place between
place_above : (v m e lo : ℕ) → m < 2 ^ suc v → 2 ^ lo ≤ m * 2 ^ e → lo < suc v + e
place_above v m e lo h k = pow_lt_back lo (suc v + e) (lt_of_le_of_lt k (shl_lt (suc v) e h))

place_below : (v m e hi : ℕ) → 2 ^ v ≤ m → m * 2 ^ e ≤ 2 ^ hi → v + e ≤ hi
place_below v m e hi h k =
    let a = pow_lt_back (v + e) (suc hi) (lt_of_le_of_lt (le_trans (le_of_eq (pow-add 2 v e)) (le_trans (mul-le-mul_right (2 ^ e) h) k)) (pow-lt (omega arith))) in
    omega arith

-- any size from 2^lo to 2^hi, rounded
rounded-place : (d : Bool) (v n lo hi : ℕ) → v ≤ lo → 2 ^ lo ≤ n → n ≤ 2 ^ hi
    → (2 ^ v ≤ (round_mag d (suc v) n 1).m) × ((round_mag d (suc v) n 1).m < 2 ^ suc v) × (lo < suc v + (round_mag d (suc v) n 1).e) × (v + (round_mag d (suc v) n 1).e ≤ hi)
rounded-place d v n lo hi h k l =
    let r = round_mag d (suc v) n 1 in
    let fit = round_fit d v n 1 (lit< tt) in
    let full = round_full d v n 1 (lit< tt) (le_trans (le_of_eq (mul-one (2 ^ v))) (le_trans (pow_mono h) k)) in
    let one : 1 < 2 ^ suc v = lt_of_lt_of_le (lit< {m = 1} {n = 2 ^ 1} tt) (pow_mono {i = 1} {j = suc v} (omega arith)) in
    let least = keep_low d v n 1 (lit< tt) 1 lo one (le_trans (le_of_eq (mul-one (1 * 2 ^ lo) ∙ one-mul (2 ^ lo))) k) in
    let most = keep_high d v n 1 (lit< tt) 1 hi one (le_trans l (le_of_eq (sym (mul-one (1 * 2 ^ hi) ∙ one-mul (2 ^ hi))))) in (
      full,
      fit.small,
      place_above v r.m r.e lo fit.small (le_trans (le_of_eq (sym (one-mul (2 ^ lo)))) least),
      place_below v r.m r.e hi full (le_trans most (le_of_eq (one-mul (2 ^ hi)))),
    )

-- a size in units of 2^-j is the size, moved up, in smaller ones
same_size : (d p i j : ℕ) → d * 2 ^ (p + i) * 2 ^ j ≡ d * 2 ^ p * 2 ^ (j + i) * 1
same_size d p i j = rw (pow-add 2 p i, pow-add 2 j i) (omega arith)

at_least : (d p i : ℕ) → 0 < d → 2 ^ i ≤ d * 2 ^ (p + i)
at_least d p i h = le_trans (le_of_eq (sym (one-mul (2 ^ i)))) (mul-le-mul h (pow_mono {i = i} {j = p + i} (omega arith)))

at_most : (d p i : ℕ) → d < 2 ^ 53 → p ≤ 2045 → d * 2 ^ (p + i) ≤ 2 ^ (2098 + i)
at_most d p i h k = le_trans (le_of_lt (shl_lt 53 (p + i) h)) (pow_mono {i = 53 + (p + i)} {j = 2098 + i} (omega arith))

pub given_within : (up : Bool) (v : ℕ) (x : Float) → v ≤ 1000 → T (fits binary64 x) → T (finite x) → Within v 80000 80000 (round up (suc v) (exact_of x))
unfolding bias signed
given_within up v x few holds h = go (in_units x holds h)
  where
    go : Units x → Within v 80000 80000 (round up (suc v) (exact_of x))
    go u =
        let a = u.digits * 2 ^ u.place in
        let n = u.digits * 2 ^ (u.place + 261070) in
        let d = away up u.sign in
        let own : exact_of x ≈ parts u.sign a (2 ^ 1074) = value-exact x u.sign a (2 ^ 1074) (pow_pos 1074) u.value in
        elim (eq-zero-or-pos u.digits) [
          | inl z ↦
              let none : exact_of x ≈ nat 0 =
              ≈-trans own (subst (λ (k : ℕ). parts u.sign k (2 ^ 1074) ≈ nat 0) (sym (ap (λ (k : ℕ). k * 2 ^ u.place) z ∙ zero-mul (2 ^ u.place))) (parts-zero u.sign (2 ^ 1074))) in
              rw (round_nought up v none) (record { normal = inl refl; exponent = inl refl })
          | inr p ↦
              let f = rounded-place d v n 261070 263168 (omega arith) (at_least u.digits u.place 261070 p) (at_most u.digits u.place 261070 u.few u.near) in
              rw (round_parts up v (exact_of x) u.sign a (2 ^ 1074) n 1 (pow_pos 1074) (lit< tt) own (same_size u.digits u.place 261070 1074))
              (record { normal = inr (record { low = f.0; high = f.1 }); exponent = inr (above v (round_mag d (suc v) n 1).e few f.2, below v (round_mag d (suc v) n 1).e f.3) })
        ]
      where
        above : (v e : ℕ) → v ≤ 1000 → 261070 < suc v + e → 262144 ≤ e + 80000
        above v e h k = omega arith

        below : (v e : ℕ) → v + e ≤ 263168 → e ≤ 262144 + 80000
        below v e h = omega arith
