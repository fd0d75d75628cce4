-- The pattern that is written for a size, and that it is the f64 of exactly that value. Assumes nothing.
use Prim.Native.Nat.{ℕ, suc, ◌+◌, ◌-◌, ◌*◌, ◌/◌, ◌^◌, ◌≤◌, ◌<◌}
use mathlib.Core.Path.{◌≡◌, sym, ap, ◌∙◌, subst}
use mathlib.Core.Logic.{inl, inr}
use mathlib.Core.Bool.{Bool, true, false, not}
use native.Mathlib.Omega.{arith}
use native.Mathlib.Decide.{dec_le}
use native.Mathlib.Nat.{lt_of_lt_of_le, lt_of_le_of_lt, le_trans, le_of_eq, mul-le-mul_right, mul-le-mul_left, le_of_mul-le-mul_right, lt_of_mul-lt-mul_right, div-mul_cancel, le_of_lt, mul-one, mul-pos, zero-add}
use lib.Dec.{T, lit<, lit≤}
use lib.Pow.{pow-add, pow_pos, pow_mono}
use lib.Ieee.{binary64, of_bits, nan_bits}
use lib.Ieee.Bits.{of_bits-fits, nan_bits_is}
use lib.Ieee.Exact.{HasValue}
use borrow.Author.Tests.{le-leb, lt-leb}
use Rattle.exact.specs.Fraction.{parts, negative, ◌≈◌}
use Rattle.exact.proofs.Fraction.Order.{≈-refl}
use Rattle.sheet.specs.declared.place.Found.{Found}
use Rattle.sheet.specs.declared.Sheet.{Sheet}
use Rattle.sheet.specs.Number.{bias, value, Normal}
use Rattle.sheet.specs.Range.{Grain, Doubled}
use Rattle.doubles.specs.Handed.{double_of, DoubleValue}
use Rattle.doubles.specs.Encoded.{Encodable, Settled}
use Rattle.doubles.proofs.Pattern.{sign_of, field_of, digits_of, low-pattern, normal-pattern, finer, value-finite, no_nan}
use Rattle.doubles.proofs.Shift.{pow_lt_back}
use Rattle.doubles.proofs.Handed.{same_sign, settles}

-- the pattern of m * 2^k units of 2^-1074
abbrev pub pattern_of : Bool → ℕ → ℕ → ℕ
pattern_of true m k = 9223372036854775808 + (k * 4503599627370496 + m)
pattern_of false m k = k * 4503599627370496 + m

sign-of : (s : Bool) (m k : ℕ) → m < 2 ^ 53 → k ≤ 2045 → sign_of (pattern_of s m k) ≡ s
sign-of true m k h l = le-leb 9223372036854775808 (pattern_of true m k) (omega arith)
sign-of false m k h l = lt-leb 9223372036854775808 (pattern_of false m k) (omega arith)

low_field : (s : Bool) (m : ℕ) → m < 2 ^ 52 → (field_of (pattern_of s m 0) ≡ 0) × (digits_of (pattern_of s m 0) ≡ m)
low_field true m h = (omega arith, omega arith)
low_field false m h = (omega arith, omega arith)

field : (s : Bool) (m k : ℕ) → 2 ^ 52 ≤ m → m < 2 ^ 53 → k ≤ 2045 → (field_of (pattern_of s m k) ≡ suc k) × (4503599627370496 + digits_of (pattern_of s m k) ≡ m)
field true m k g h l = (omega arith, omega arith)
field false m k g h l = (omega arith, omega arith)

none : (k m : ℕ) → (0 < k → 2 ^ 52 ≤ m) → m < 2 ^ 52 → k ≡ 0
none k m full h = elim (dec_le k 0) [ yes z ↦ omega arith | no f ↦ let g = full (omega arith) in absurd (omega arith) ]

pub pattern-value : (s : Bool) (m k : ℕ) → m < 2 ^ 53 → k ≤ 2045 → (0 < k → 2 ^ 52 ≤ m) → HasValue (of_bits binary64 (pattern_of s m k)) s (m * 2 ^ k) (2 ^ 1074)
pattern-value s m k h l full = elim (dec_le (2 ^ 52) m) [
  | yes g ↦
      let f = field s m k g h l in
      subst (λ (n : ℕ). HasValue (of_bits binary64 (pattern_of s m k)) s (n * 2 ^ k) (2 ^ 1074)) f.1
      (subst (λ (b : Bool). HasValue (of_bits binary64 (pattern_of s m k)) b ((4503599627370496 + digits_of (pattern_of s m k)) * 2 ^ k) (2 ^ 1074)) (sign-of s m k h l)
      (normal-pattern (pattern_of s m k) k f.0 (omega arith)))
  | no g ↦
      let f = low_field s m (omega arith) in
      subst (λ (j : ℕ). HasValue (of_bits binary64 (pattern_of s m j)) s (m * 2 ^ j) (2 ^ 1074)) (sym (none k m full (omega arith)))
      (subst (λ (n : ℕ). HasValue (of_bits binary64 (pattern_of s m 0)) s (n * 2 ^ 0) (2 ^ 1074)) f.1
      (subst (λ (b : Bool). HasValue (of_bits binary64 (pattern_of s m 0)) b (digits_of (pattern_of s m 0) * 2 ^ 0) (2 ^ 1074)) (sign-of s m 0 h (omega arith))
      (low-pattern (pattern_of s m 0) f.0)))
]

pub pattern-no_nan : (s : Bool) (m k : ℕ) → m < 2 ^ 53 → k ≤ 2045 → (0 < k → 2 ^ 52 ≤ m) → T (not (nan_bits binary64 (pattern_of s m k)))
pattern-no_nan s m k h l full =
    rw (nan_bits_is binary64 (pattern_of s m k))
    (no_nan (of_bits binary64 (pattern_of s m k)) (value-finite (of_bits binary64 (pattern_of s m k)) s (m * 2 ^ k) (2 ^ 1074) (pattern-value s m k h l full)))

-- ---- sizes that are exactly an f64's
-- 53 digits below 2^n leave the place below n - 52
top_place : (m k n : ℕ) → 2 ^ 52 ≤ m → m * 2 ^ k < 2 ^ n → 52 + k < n
top_place m k n g h = pow_lt_back (52 + k) n (lt_of_le_of_lt (le_trans (le_of_eq (pow-add 2 52 k)) (mul-le-mul_right (2 ^ k) g)) h)

-- a size at or above the place l is below 2^n of it where it is below 2^(n + l)
drop_place : (m k l n : ℕ) → m * 2 ^ (k + l) < 2 ^ (n + l) → m * 2 ^ k < 2 ^ n
drop_place m k l n h = lt_of_mul-lt-mul_right (2 ^ l) (subst (λ (x : ℕ). x < 2 ^ n * 2 ^ l) (regroup m k l) (subst (λ (x : ℕ). m * 2 ^ (k + l) < x) (pow-add 2 n l) h))
  where
    regroup : (m k l : ℕ) → m * 2 ^ (k + l) ≡ m * 2 ^ k * 2 ^ l
    regroup m k l = rw (pow-add 2 k l) (omega arith)

-- a multiple of 2^l below that place has no more digits than before
fewer : (m e l q : ℕ) → e < l → q * 2 ^ l ≡ m * 2 ^ e → q ≤ m
fewer m e l q h p = le_of_mul-le-mul_right (le_trans (le_of_eq p) (mul-le-mul_left m (pow_mono (le_of_lt h)))) (pow_pos l)

double-at : (s : Bool) (m e l : ℕ) → m < 2 ^ 53 → Grain l (m * 2 ^ e) → m * 2 ^ e < 2 ^ (2098 + l) → DoubleValue (parts s (m * 2 ^ e) (2 ^ (1074 + l)))
double-at s m e l few fine small = elim (dec_le l e) [
  | yes h ↦
      let p : e - l + l ≡ e = omega arith in
      record {
        sign = s;
        digits = m;
        place = e - l;
        few = few;
        small = drop_place m (e - l) l 2098 (subst (λ (n : ℕ). m * 2 ^ n < 2 ^ (2098 + l)) (sym p) small);
        value = subst (λ (n : ℕ). parts s (m * 2 ^ n) (2 ^ (1074 + l)) ≈ parts s (m * 2 ^ (e - l)) (2 ^ 1074)) p (finer s m (e - l) l 1074);
      }
  | no h ↦
      let q = m * 2 ^ e / 2 ^ l in
      let p : q * 2 ^ l ≡ m * 2 ^ e = div-mul_cancel (2 ^ l) fine.divides in
      let less : q < 2 ^ 53 = lt_of_le_of_lt (fewer m e l q (omega arith) p) few in
      record {
        sign = s;
        digits = q;
        place = 0;
        few = less;
        small = lt_of_lt_of_le (subst (λ (n : ℕ). n < 2 ^ 53) (sym (mul-one q)) less) (pow_mono {i = 53} {j = 2098} (lit≤ tt));
        value = subst (λ (n : ℕ). parts s n (2 ^ (1074 + l)) ≈ parts s (q * 2 ^ 0) (2 ^ 1074)) (ap (λ (n : ℕ). q * 2 ^ n) (zero-add l) ∙ p) (finer s q 0 l 1074);
      }
]

pub double-value : (s : Bool) (m e : ℕ) → Encodable m e → DoubleValue (parts s (m * 2 ^ e) (2 ^ bias))
unfolding bias
double-value s m e given = double-at s m e 261070 given.few given.fine given.small

-- a sheet number that is exactly an f64, of at most 53 bits
pub sheet_double : (s : Sheet) → Doubled s → s.m < 2 ^ 53 → DoubleValue (value s)
unfolding value
sheet_double s given few = double-value s.neg s.m s.e (record { few = few; fine = given.fine; small = given.small })

pub normal-few : (v : ℕ) (s : Sheet) → Normal v s → suc v ≤ 53 → s.m < 2 ^ 53
normal-few v s n h = elim n [ inl z ↦ subst (λ (t : Sheet). t.m < 2 ^ 53) (sym z) (lit< tt) | inr d ↦ lt_of_lt_of_le d.high (pow_mono h) ]

-- ---- the pattern of a settled size
module _ (m e : ℕ) (r : Found) (given : Encodable m e) (settled : Settled m e r) where
  pub place_in : r.e - 261070 ≤ 2045
  unfolding bias
  place_in = elim (dec_le r.e 261070) [
    | yes h ↦ omega arith
    | no h ↦
        let far : 261070 < r.e = omega arith in
        let l = top_place r.m r.e 263168 (settled.full far) (subst (λ (n : ℕ). n < 2 ^ 263168) (sym settled.value) given.small) in
        below r.e l
  ]
    where
      below : (e : ℕ) → 52 + e < 263168 → e - 261070 ≤ 2045
      below e h = omega arith

  full_at : 0 < r.e - 261070 → 2 ^ 52 ≤ r.m
  full_at h = settled.full (above r.e h)
    where
      above : (e : ℕ) → 0 < e - 261070 → 261070 < e
      above e h = omega arith

  pub written-no_nan : (s : Bool) → T (not (nan_bits binary64 (pattern_of s r.m (r.e - 261070))))
  written-no_nan s = pattern-no_nan s r.m (r.e - 261070) settled.few place_in full_at

  in_units : (s : Bool) → parts s (m * 2 ^ e) (2 ^ bias) ≈ parts s (r.m * 2 ^ (r.e - 261070)) (2 ^ 1074)
  unfolding bias
  in_units s =
      subst (λ (n : ℕ). parts s n (2 ^ 262144) ≈ parts s (r.m * 2 ^ (r.e - 261070)) (2 ^ 1074))
      (ap (λ (n : ℕ). r.m * 2 ^ n) (back r.e settled.least) ∙ settled.value)
      (finer s r.m (r.e - 261070) 261070 1074)
    where
      back : (e : ℕ) → 261070 ≤ e → e - 261070 + 261070 ≡ e
      back e h = omega arith

  pub written : (s : Bool) → 0 < m → of_bits binary64 (pattern_of s r.m (r.e - 261070)) ≡ double_of (parts s (m * 2 ^ e) (2 ^ bias))
  written s h =
      let x = parts s (m * 2 ^ e) (2 ^ bias) in
      let a = r.m * 2 ^ (r.e - 261070) in
      let b = pattern_of s r.m (r.e - 261070) in
      let sign : negative x ≡ s = same_sign x s (m * 2 ^ e) (2 ^ bias) (mul-pos h (pow_pos e)) (≈-refl x) in
      settles x (double-value s m e given) (of_bits binary64 b) a (of_bits-fits binary64 b)
      (subst (λ (t : Bool). x ≈ parts t a (2 ^ 1074)) (sym sign) (in_units s))
      (subst (λ (t : Bool). HasValue (of_bits binary64 b) t a (2 ^ 1074)) (sym sign) (pattern-value s r.m (r.e - 261070) settled.few place_in full_at))
