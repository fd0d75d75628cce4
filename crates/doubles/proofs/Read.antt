-- What the pattern of a finite f64 says of its exact value, in units of 2^-bias. Assumes nothing.
use Prim.Native.Nat.{ℕ, suc, ◌+◌, ◌-◌, ◌*◌, ◌^◌, ◌<◌}
use mathlib.Core.Path.{◌≡◌, sym, subst}
use mathlib.Core.Bool.{false}
use native.Mathlib.Omega.{arith}
use lib.Dec.{T}
use lib.Pow.{pow_pos}
use lib.Ieee.{Float, binary64, to_bits, fits}
use lib.Ieee.Bits.{of_bits-to_bits}
use lib.Ieee.Exact.{HasValue}
use lib.Ieee.Scale.{finite}
use Rattle.exact.specs.Fraction.{nat, parts, ◌≈◌}
use Rattle.exact.proofs.Fraction.Order.{≈-sym, ≈-trans}
use Rattle.exact.proofs.Fraction.Parts.{parts-zero}
use Rattle.sheet.specs.Number.{bias}
use Rattle.doubles.specs.Double.{exact_of}
use Rattle.doubles.proofs.Pattern.{sign_of, field_of, digits_of, value-exact, finer, low-pattern, normal-pattern, finite_field}

places : (f : ℕ) → (f ≡ 0 → ⊥) → f - 1 + 261070 ≡ f + 261069
places f h = omega arith

module _ (x : Float) (holds : T (fits binary64 x)) where
  low-exact : field_of (to_bits binary64 x) ≡ 0 → exact_of x ≈ parts (sign_of (to_bits binary64 x)) (digits_of (to_bits binary64 x) * 2 ^ 0) (2 ^ 1074)
  low-exact z =
      let b = to_bits binary64 x in
      value-exact x (sign_of b) (digits_of b * 2 ^ 0) (2 ^ 1074) (pow_pos 1074)
      (subst (λ (v : Float). HasValue v (sign_of b) (digits_of b * 2 ^ 0) (2 ^ 1074)) (of_bits-to_bits binary64 x holds) (low-pattern b z))

  pub read_zero : field_of (to_bits binary64 x) ≡ 0 → digits_of (to_bits binary64 x) ≡ 0 → parts false 0 (2 ^ bias) ≈ exact_of x
  unfolding bias
  read_zero z d =
      let b = to_bits binary64 x in
      ≈-sym (≈-trans (≈-trans (low-exact z) (subst (λ (n : ℕ). parts (sign_of b) (n * 2 ^ 0) (2 ^ 1074) ≈ nat 0) (sym d) (parts-zero (sign_of b) (2 ^ 1074))))
      (≈-sym (parts-zero false (2 ^ bias))))

  pub read_low : field_of (to_bits binary64 x) ≡ 0
      → parts (sign_of (to_bits binary64 x)) (digits_of (to_bits binary64 x) * 2 ^ 261070) (2 ^ bias) ≈ exact_of x
  unfolding bias
  read_low z =
      let b = to_bits binary64 x in
      ≈-trans (finer (sign_of b) (digits_of b) 0 261070 1074) (≈-sym (low-exact z))

  pub field_below : T (finite x) → field_of (to_bits binary64 x) < 2047
  field_below h = finite_field (to_bits binary64 x) (subst (λ (v : Float). T (finite v)) (sym (of_bits-to_bits binary64 x holds)) h)

  pub read_normal : T (finite x) → (field_of (to_bits binary64 x) ≡ 0 → ⊥)
      → parts (sign_of (to_bits binary64 x)) ((4503599627370496 + digits_of (to_bits binary64 x)) * 2 ^ (field_of (to_bits binary64 x) + 261069)) (2 ^ bias) ≈ exact_of x
  unfolding bias
  read_normal h nz =
      let b = to_bits binary64 x in
      let y = field_of b - 1 in
      let e : field_of b ≡ suc y = omega arith in
      let lt = field_below h in
      let m = 4503599627370496 + digits_of b in
      let value = subst (λ (v : Float). HasValue v (sign_of b) (m * 2 ^ y) (2 ^ 1074)) (of_bits-to_bits binary64 x holds) (normal-pattern b y e (omega arith)) in
      subst (λ (k : ℕ). parts (sign_of b) (m * 2 ^ k) (2 ^ bias) ≈ exact_of x) (places (field_of b) nz)
      (≈-trans (finer (sign_of b) m y 261070 1074) (≈-sym (value-exact x (sign_of b) (m * 2 ^ y) (2 ^ 1074) (pow_pos 1074) value)))
