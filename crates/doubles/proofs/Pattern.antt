-- The bit pattern of an f64 and its exact value: the sign, the exponent's field and the digits below the leading one. Assumes nothing.
use Prim.Native.Nat.{ℕ, zero, suc, ◌+◌, ◌-◌, ◌*◌, ◌/◌, ◌%◌, ◌^◌, ◌≤◌, ◌<◌}
use mathlib.Core.Path.{◌≡◌, refl, sym, subst}
use mathlib.Core.Logic.{inl, inr}
use mathlib.Core.Bool.{Bool, true, false, not, cond}
use native.Mathlib.Omega.{arith}
use native.Mathlib.Decide.{dec_le}
use native.Mathlib.Nat.{eq-or-lt_of_le}
use lib.Dec.{T, leb, eqb, eqb→eq, not_T}
use lib.Pow.{pow-add, pow_pos}
use lib.Ieee.{Float, nan, inf, fin, up, down, binary64, odd, of_fields, of_bits, to_bits, fits, is_nan, nan_bits}
use lib.Ieee.Bits.{of_bits-to_bits, cond_no, nan_bits_is}
use lib.Ieee.Exact.{HasValue, odd_sign}
use lib.Ieee.Fits.{down_pos}
use lib.Ieee.Scale.{finite}
use Rattle.exact.specs.Fraction.{parts, ◌≈◌}
use Rattle.exact.proofs.Fraction.Parts.{parts-≈}
use Rattle.doubles.specs.Double.{exact_of}

-- an f64 of known sign and size has that exact value
pub value-exact : (x : Float) (s : Bool) (a c : ℕ) → 0 < c → HasValue x s a c → exact_of x ≈ parts s a c
unfolding exact_of
value-exact nan s a c C v = absurd v
value-exact (inf t) s a c C v = absurd v
value-exact (fin t m e) s a c C v = subst (λ (b : Bool). parts b (m * up e) (down e) ≈ parts s a c) (sym v.0) (parts-≈ s (m * up e) (down e) a c (down_pos e) C v.1)

pub value-finite : (x : Float) (s : Bool) (a c : ℕ) → HasValue x s a c → T (finite x)
value-finite nan s a c v = v
value-finite (inf t) s a c v = v
value-finite (fin t m e) s a c v = tt

-- the same value in smaller units
pub finer : (s : Bool) (m k i j : ℕ) → parts s (m * 2 ^ (k + i)) (2 ^ (j + i)) ≈ parts s (m * 2 ^ k) (2 ^ j)
finer s m k i j =
    parts-≈ s (m * 2 ^ (k + i)) (2 ^ (j + i)) (m * 2 ^ k) (2 ^ j) (pow_pos (j + i)) (pow_pos j)
    (rw (pow-add 2 k i, pow-add 2 j i) (omega arith))

-- a field of 0 has no leading digit and counts as 1
pub below_normal : (s : Bool) (t : ℕ) → HasValue (of_fields binary64 s 0 t) s (t * 2 ^ 0) (2 ^ 1074)
unfolding of_fields
below_normal s t = odd_sign 53 s t 0 1074

differ : (x : ℕ) → suc x < 2047 → suc x ≡ 2047 → ⊥
differ x h e = omega arith

pub normal : (s : Bool) (x t : ℕ) → suc x < 2047 → HasValue (of_fields binary64 s (suc x) t) s ((4503599627370496 + t) * 2 ^ x) (2 ^ 1074)
unfolding of_fields
normal s x t h =
    subst (λ (v : Float). HasValue v s ((4503599627370496 + t) * 2 ^ x) (2 ^ 1074))
    (sym (cond_no (eqb (suc x) 2047) (cond (eqb t 0) (inf s) nan) (odd 53 s (4503599627370496 + t) x 1074) (not_T (eqb (suc x) 2047) (λ u. differ x h (eqb→eq (suc x) 2047 u)))))
    (odd_sign 53 s (4503599627370496 + t) x 1074)

not_ones : (s : Bool) (t : ℕ) → T (finite (of_fields binary64 s 2047 t)) → ⊥
unfolding of_fields
not_ones s t = go (eqb t 0)
  where
    go : (b : Bool) → T (finite (cond b (inf s) nan)) → ⊥
    go true h = h
    go false h = h

-- ---- an f64 by the three parts of its pattern
abbrev pub sign_of : ℕ → Bool
sign_of b = leb 9223372036854775808 b

abbrev pub field_of : ℕ → ℕ
field_of b = b % 9223372036854775808 / 4503599627370496

abbrev pub digits_of : ℕ → ℕ
digits_of b = b % 4503599627370496

by_fields : (b : ℕ) → of_bits binary64 b ≡ of_fields binary64 (sign_of b) (field_of b) (digits_of b)
unfolding of_bits
by_fields b = refl

field_in : (b : ℕ) → field_of b ≤ 2047
field_in b = omega arith

pub low-pattern : (b : ℕ) → field_of b ≡ 0 → HasValue (of_bits binary64 b) (sign_of b) (digits_of b * 2 ^ 0) (2 ^ 1074)
low-pattern b z =
    rw by_fields (subst (λ (f : ℕ). HasValue (of_fields binary64 (sign_of b) f (digits_of b)) (sign_of b) (digits_of b * 2 ^ 0) (2 ^ 1074)) (sym z)
    (below_normal (sign_of b) (digits_of b)))

pub normal-pattern : (b y : ℕ) → field_of b ≡ suc y → suc y < 2047 → HasValue (of_bits binary64 b) (sign_of b) ((4503599627370496 + digits_of b) * 2 ^ y) (2 ^ 1074)
normal-pattern b y e h =
    rw by_fields (subst (λ (f : ℕ). HasValue (of_fields binary64 (sign_of b) f (digits_of b)) (sign_of b) ((4503599627370496 + digits_of b) * 2 ^ y) (2 ^ 1074)) (sym e)
    (normal (sign_of b) y (digits_of b) h))

pub finite_field : (b : ℕ) → T (finite (of_bits binary64 b)) → field_of b < 2047
finite_field b h = elim (eq-or-lt_of_le (field_in b)) [
  | inl e ↦ absurd (not_ones (sign_of b) (digits_of b) (subst (λ (f : ℕ). T (finite (of_fields binary64 (sign_of b) f (digits_of b)))) e (rw by_fields at h)))
  | inr l ↦ l
]

pub no_nan : (x : Float) → T (finite x) → T (not (is_nan x))
unfolding is_nan
no_nan nan h = h
no_nan (inf s) h = absurd h
no_nan (fin s m e) h = tt

-- every finite f64 is at most 53 digits, at a place at or above 2^-1074
pub record Units (x : Float) : Type 0 where
  pub sign : Bool
  pub digits : ℕ
  pub place : ℕ
  pub few : digits < 2 ^ 53
  pub near : place ≤ 2045
  pub value : HasValue x sign (digits * 2 ^ place) (2 ^ 1074)

pub in_units : (x : Float) → T (fits binary64 x) → T (finite x) → Units x
in_units x holds h = subst Units (of_bits-to_bits binary64 x holds) (go (to_bits binary64 x) (subst (λ (v : Float). T (finite v)) (sym (of_bits-to_bits binary64 x holds)) h))
  where
    go : (b : ℕ) → T (finite (of_bits binary64 b)) → Units (of_bits binary64 b)
    go b f =
        let l = finite_field b f in
        elim (dec_le (field_of b) 0) [
          | yes z ↦ record { sign = sign_of b; digits = digits_of b; place = 0; few = omega arith; near = omega arith; value = low-pattern b (omega arith) }
          | no z ↦
              record {
                sign = sign_of b;
                digits = 4503599627370496 + digits_of b;
                place = field_of b - 1;
                few = omega arith;
                near = omega arith;
                value = normal-pattern b (field_of b - 1) (omega arith) (omega arith);
              }
        ]

-- a pattern whose exponent's field is not all ones is a finite f64's, so no NaN's
pub field_finite : (b f : ℕ) → field_of b ≡ f → f ≤ 2046 → T (finite (of_bits binary64 b))
field_finite b zero e l = value-finite (of_bits binary64 b) (sign_of b) (digits_of b * 2 ^ 0) (2 ^ 1074) (low-pattern b e)
field_finite b (suc y) e l =
    value-finite (of_bits binary64 b) (sign_of b) ((4503599627370496 + digits_of b) * 2 ^ y) (2 ^ 1074) (normal-pattern b y e (omega arith))

pub number-pattern : (b : ℕ) → field_of b ≤ 2046 → T (not (nan_bits binary64 b))
number-pattern b l = rw (nan_bits_is binary64 b) (no_nan (of_bits binary64 b) (field_finite b (field_of b) refl l))
