-- The f64 of an exact value: two f64s of one value and sign are one, the nearest f64 of an f64's value is that f64, and zero is +0.0.
-- Assumes nothing.
use Prim.Native.Nat.{ℕ, ◌+◌, ◌-◌, ◌*◌, ◌/◌, ◌^◌, ◌<◌}
use mathlib.Core.Path.{◌≡◌, refl, sym, ap, ap₂, ◌∙◌, subst}
use mathlib.Core.Logic.{inl, inr}
use mathlib.Core.Bool.{Bool, true, false, cond}
use native.Mathlib.Omega.{arith}
use native.Mathlib.Nat.{mul-div_cancel, eq-zero-or-pos, eq_of_mul-eq-mul_right, lt_of_lt_of_le}
use lib.IntN.{pos}
use lib.Dec.{T}
use lib.Pow.{pow_pos, pow_mono, shl_lt}
use lib.Ieee.{Float, nan, inf, fin, up, down, binary64, size, round, of_bits, to_bits, fits}
use lib.Ieee.Bits.{of_bits-to_bits}
use lib.Ieee.Exact.{HasValue, round_exact}
use lib.Ieee.Fits.{down_pos, round-fits}
use lib.Ieee.Scale.{finite, round_same}
use Rattle.exact.specs.Fraction.{Fraction, nat, parts, negative, top, bottom, leq, ◌≈◌}
use Rattle.exact.proofs.Fraction.Order.{≈-refl, ≈-sym, ≈-trans, leq-resp, ≈-≺-trans, ≼-≈-trans}
use Rattle.exact.proofs.Fraction.Parts.{parts-zero, ≈-parts, as_parts, bottom-pos, ≺-negative, ≼-negative, negative-true, negative-false, parts-neg, parts-nonneg}
use Rattle.doubles.specs.Double.{exact_of}
use Rattle.doubles.specs.Handed.{double_of, DoubleValue}
use Rattle.doubles.proofs.Pattern.{in_units, value-exact, value-finite}

-- the pattern of a finite f64 is told by its sign and its size in units of 2^-1074
pattern : Bool → ℕ → ℕ
pattern s a = cond s 9223372036854775808 0 + (size a - 53) * 4503599627370496 + a / 2 ^ (size a - 53)

to-pattern : (x : Float) (s : Bool) (a : ℕ) → HasValue x s a (2 ^ 1074) → to_bits binary64 x ≡ pattern s a
unfolding to_bits pattern
to-pattern nan s a v = absurd v
to-pattern (inf t) s a v = absurd v
to-pattern (fin t m e) s a v =
    ap₂ (λ (b : Bool) (n : ℕ). cond b 9223372036854775808 0 + (size n - 53) * 4503599627370496 + n / 2 ^ (size n - 53)) v.0
    (ap (λ (n : ℕ). n / down e) v.1 ∙ mul-div_cancel a (down_pos e))

pub unique : (x y : Float) (s : Bool) (a : ℕ) → T (fits binary64 x) → T (fits binary64 y) → HasValue x s a (2 ^ 1074) → HasValue y s a (2 ^ 1074) → x ≡ y
unique x y s a h k v w =
    sym (of_bits-to_bits binary64 x h) ∙ ap (of_bits binary64) (to-pattern x s a v ∙ sym (to-pattern y s a w)) ∙ of_bits-to_bits binary64 y k

-- ---- the sign and the size of an exact value, from any way to write it
pub same_sign : (x : Fraction) (s : Bool) (a c : ℕ) → 0 < a → x ≈ parts s a c → negative x ≡ s
same_sign x true a c A h = ≺-negative (≈-≺-trans h (parts-neg a c A))
same_sign x false a c A h = ≼-negative (≼-≈-trans (parts-nonneg a c) (≈-sym h))

own_sign : (x : Fraction) (s : Bool) (a c : ℕ) → x ≈ parts s a c → x ≈ parts (negative x) a c
own_sign x s a c h = elim (eq-zero-or-pos a) [
  | inl z ↦
      subst (λ (n : ℕ). x ≈ parts (negative x) n c) (sym z)
      (≈-trans (≈-trans h (subst (λ (n : ℕ). parts s n c ≈ nat 0) (sym z) (parts-zero s c))) (≈-sym (parts-zero (negative x) c)))
  | inr A ↦ subst (λ (b : Bool). x ≈ parts b a c) (sym (same_sign x s a c A h)) h
]

cross : (x : Fraction) (s : Bool) (a c : ℕ) → 0 < c → x ≈ parts s a c → top x * c ≡ a * bottom x
cross x s a c C h = ≈-parts (negative x) (top x) (bottom x) a c (bottom-pos x) C (≈-trans (≈-sym (as_parts x)) (own_sign x s a c h))

-- the same size over another divisor
rescale : (x : Float) (s : Bool) (a c b d : ℕ) → 0 < c → a * d ≡ b * c → HasValue x s a c → HasValue x s b d
rescale nan s a c b d C h v = v
rescale (inf t) s a c b d C h v = v
rescale (fin t m e) s a c b d C h v =
    (v.0, eq_of_mul-eq-mul_right c C (m * up e * d) (b * down e) (omega (arith, ap (λ (n : ℕ). n * d) v.1, ap (λ (n : ℕ). n * down e) h)))

-- ---- the f64 of an f64's value
module _ (x : Fraction) (given : DoubleValue x) where
  own_value : HasValue (double_of x) (negative x) (top x) (bottom x)
  unfolding double_of
  own_value =
      round_exact binary64 (negative x) (top x) (bottom x) given.digits given.place (bottom-pos x) given.few given.small
      (cross x given.sign (given.digits * 2 ^ given.place) (2 ^ 1074) (pow_pos 1074) given.value)

  pub double_of-finite : T (finite (double_of x))
  double_of-finite = value-finite (double_of x) (negative x) (top x) (bottom x) own_value

  pub double_of-exact : exact_of (double_of x) ≈ x
  double_of-exact = ≈-trans (value-exact (double_of x) (negative x) (top x) (bottom x) (bottom-pos x) own_value) (≈-sym (as_parts x))

  -- an f64 with x's sign and size is the one handed out
  pub settles : (r : Float) (a : ℕ) → T (fits binary64 r) → x ≈ parts (negative x) a (2 ^ 1074) → HasValue r (negative x) a (2 ^ 1074) → r ≡ double_of x
  settles r a h k v =
      unique r (double_of x) (negative x) a h double-fits v
      (rescale (double_of x) (negative x) (top x) (bottom x) a (2 ^ 1074) (bottom-pos x) (cross x (negative x) a (2 ^ 1074) (pow_pos 1074) k) own_value)
    where
      double-fits : T (fits binary64 (double_of x))
      double-fits = unfold double_of in round-fits binary64 (negative x) (top x) (bottom x)

-- one value has one sign and one f64
negative-same : {x y : Fraction} → x ≈ y → negative x ≡ negative y
negative-same {x} {y} h = go (negative y) refl
  where
    go : (s : Bool) → negative y ≡ s → negative x ≡ s
    go true t = ≺-negative (≈-≺-trans h (negative-true y t))
    go false t = ≼-negative (≼-≈-trans (negative-false y t) (≈-sym h))

pub double_of-same : {x y : Fraction} → x ≈ y → double_of x ≡ double_of y
unfolding double_of
double_of-same {x} {y} h =
    round_same binary64 (negative x) (top x) (bottom x) (top y) (bottom y) (bottom-pos x) (bottom-pos y)
    (cross x (negative y) (top y) (bottom y) (bottom-pos y) (≈-trans h (as_parts y)))
    ∙ ap (λ (s : Bool). round binary64 s (top y) (bottom y)) (negative-same h)

-- zero is +0.0
pub double_of-zero : {x : Fraction} → x ≈ nat 0 → double_of x ≡ fin false 0 (pos 0)
unfolding double_of nat negative top bottom round
double_of-zero h = double_of-same h

-- every finite f64's value is exactly an f64's
pub exact_double : (x : Float) → T (fits binary64 x) → T (finite x) → DoubleValue (exact_of x)
exact_double x holds h =
    let u = in_units x holds h in
    record {
      sign = u.sign;
      digits = u.digits;
      place = u.place;
      few = u.few;
      small = lt_of_lt_of_le (shl_lt 53 u.place u.few) (pow_mono {i = 53 + u.place} {j = 2098} (omega (arith, u.near)));
      value = value-exact x u.sign (u.digits * 2 ^ u.place) (2 ^ 1074) (pow_pos 1074) u.value;
    }

-- limits on an end that is handed out are limits on its value
pub leq-double : (x y : Fraction) → DoubleValue x → leq (exact_of (double_of x)) y ≡ leq x y
leq-double x y given = leq-resp (double_of-exact x given) (≈-refl y)

pub double-leq : (x y : Fraction) → DoubleValue x → leq y (exact_of (double_of x)) ≡ leq y x
double-leq x y given = leq-resp (≈-refl y) (double_of-exact x given)
