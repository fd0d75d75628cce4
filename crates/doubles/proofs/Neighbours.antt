-- Between an f64 and the one next below it there is no third, so a limit between the two is met by just the f64s that are not below the
-- upper one. For an upper one above zero that has a leading digit and is no power of two. Assumes nothing.
use Prim.Native.Nat.{ℕ, suc, ◌+◌, ◌-◌, ◌*◌, ◌^◌, ◌≤◌, ◌<◌}
use mathlib.Core.Path.{◌≡◌, refl, sym, ap, subst, ◌∙◌}
use mathlib.Core.Logic.{inl, inr}
use mathlib.Core.Bool.{Bool, true, false, ◌&&◌}
use native.Mathlib.Omega.{arith}
use native.Mathlib.Decide.{dec_le}
use native.Mathlib.Nat.{mul-le-mul_right, lt_of_mul-lt-mul_right}
use lib.Dec.{T}
use lib.Pow.{pow-add, pow_pos, pow_mono, shl_lt}
use lib.Ieee.{Float, nan, inf, fin, binary64, of_bits, fits}
use lib.Ieee.Scale.{finite}
use borrow.Author.Tests.{lt-leb}
use Rattle.exact.specs.Fraction.{Fraction, parts, leq, ◌≼◌, ◌≺◌, ◌≈◌}
use Rattle.exact.proofs.Fraction.Order.{≼-or-≺, ≼-leq, ≺-leq, ≼-not-≺, ≺-≼-trans, ≺-≈-trans, ≼-≈-trans, ≼-resp, ≈-sym}
use Rattle.exact.proofs.Fraction.Parts.{parts-≼, parts-≺, ≺-parts, parts-≼_across}
use Rattle.doubles.specs.Double.{exact_of}
use Rattle.doubles.specs.Range.{within}
use Rattle.doubles.proofs.Pattern.{field_of, digits_of, normal-pattern, value-exact, in_units}

-- ---- sizes of at most 53 digits: none lies between m and m + 1 at one place, if m has all 53
next-size : (m k d p : ℕ) → 2 ^ 52 ≤ m → d < 2 ^ 53 → m * 2 ^ k < d * 2 ^ p → suc m * 2 ^ k ≤ d * 2 ^ p
next-size m k d p full few h = elim (dec_le k p) [
  | yes l ↦
      let split : 2 ^ p ≡ 2 ^ (p - k) * 2 ^ k = subst (λ (n : ℕ). 2 ^ n ≡ 2 ^ (p - k) * 2 ^ k) (omega arith) (pow-add 2 (p - k) k) in
      let same : d * 2 ^ p ≡ d * 2 ^ (p - k) * 2 ^ k = omega (arith, ap (λ (n : ℕ). d * n) split) in
      let less = lt_of_mul-lt-mul_right (2 ^ k) (subst (λ (n : ℕ). m * 2 ^ k < n) same h) in
      subst (λ (n : ℕ). suc m * 2 ^ k ≤ n) (sym same) (mul-le-mul_right (2 ^ k) less)
  | no f ↦
      absurd (omega (arith, h, shl_lt 53 p few, pow_mono {i = 53 + p} {j = 52 + k} (omega arith), pow-add 2 52 k, mul-le-mul_right (2 ^ k) full))
]

-- the same of values in units of 1 / c
next-value : (s : Bool) (m k d p c : ℕ) → 0 < c → 2 ^ 52 ≤ m → d < 2 ^ 53 → parts false (m * 2 ^ k) c ≺ parts s (d * 2 ^ p) c
    → parts false (suc m * 2 ^ k) c ≼ parts s (d * 2 ^ p) c
next-value true m k d p c C full few h = absurd (≼-not-≺ (parts-≼_across (d * 2 ^ p) c (m * 2 ^ k) c) h)
next-value false m k d p c C full few h =
    parts-≼ (suc m * 2 ^ k) c (d * 2 ^ p) c C C
    (mul-le-mul_right c (next-size m k d p full few (lt_of_mul-lt-mul_right c (≺-parts (m * 2 ^ k) c (d * 2 ^ p) c C C h))))

-- ---- the f64 of pattern b, and the next one below it
-- how many units of 2^-1074 an f64 with a leading digit has, by its pattern
abbrev pub units_of : ℕ → ℕ
units_of b = (4503599627370496 + digits_of b) * 2 ^ (field_of b - 1)

units-value : (b : ℕ) → b < 9223372036854775808 → 0 < field_of b → field_of b < 2047 → exact_of (of_bits binary64 b) ≈ parts false (units_of b) (2 ^ 1074)
units-value b plain leading number =
    value-exact (of_bits binary64 b) false (units_of b) (2 ^ 1074) (pow_pos 1074)
    (rw (lt-leb 9223372036854775808 b plain) at (normal-pattern b (field_of b - 1) (omega arith) (omega arith)))

-- b's f64 is above zero, has a leading digit and is no power of two; the fraction n / d is not above it, and above the one next below
pub record Between (b n d : ℕ) : Type 0 where
  pub plain : b < 9223372036854775808
  pub leading : 0 < field_of b
  pub number : field_of b < 2047
  pub inner : 0 < digits_of b
  pub divisor : 0 < d
  pub over : units_of (b - 1) * d < n * 2 ^ 1074
  pub under : n * 2 ^ 1074 ≤ units_of b * d

module _ (b n d : ℕ) (h : Between b n d) where
  -- the two f64s have their digits at one place, and these differ by one
  same_place : field_of (b - 1) ≡ field_of b
  same_place = omega (arith, h.inner)

  next-digits : units_of b ≡ suc (4503599627370496 + digits_of (b - 1)) * 2 ^ (field_of (b - 1) - 1)
  next-digits = rw same_place (ap (λ (m : ℕ). m * 2 ^ (field_of b - 1)) (omega (arith, h.inner)))

  lower : parts false (units_of (b - 1)) (2 ^ 1074) ≺ parts false n d
  lower = parts-≺ (units_of (b - 1)) (2 ^ 1074) n d (pow_pos 1074) h.divisor h.over

  upper : exact_of (of_bits binary64 b) ≈ parts false (units_of b) (2 ^ 1074)
  upper = units-value b h.plain h.leading h.number

  -- what is not below the fraction is not below the f64 of b
  reached : (x : Float) → T (fits binary64 x) → T (finite x) → parts false n d ≼ exact_of x → exact_of (of_bits binary64 b) ≼ exact_of x
  reached x fit f l =
      let u = in_units x fit f in
      let own = value-exact x u.sign (u.digits * 2 ^ u.place) (2 ^ 1074) (pow_pos 1074) u.value in
      let more =
      next-value u.sign (4503599627370496 + digits_of (b - 1)) (field_of (b - 1) - 1) u.digits u.place (2 ^ 1074) (pow_pos 1074) (omega arith) u.few
      (≺-≈-trans (≺-≼-trans lower l) own) in
      ≼-resp (≈-sym (subst (λ (m : ℕ). exact_of (of_bits binary64 b) ≈ parts false m (2 ^ 1074)) next-digits upper)) (≈-sym own) more

  decides : (x : Float) → T (fits binary64 x) → T (finite x) → leq (exact_of (of_bits binary64 b)) (exact_of x) ≡ leq (parts false n d) (exact_of x)
  decides x fit f = elim (≼-or-≺ (parts false n d) (exact_of x)) [
    | inl l ↦ ≼-leq (reached x fit f l) ∙ sym (≼-leq l)
    | inr g ↦ ≺-leq (≺-≼-trans g (≼-≈-trans (parts-≼ n d (units_of b) (2 ^ 1074) h.divisor (pow_pos 1074) h.under) (≈-sym upper))) ∙ sym (≺-leq g)
  ]

  -- a range that starts at the fraction is, for every f64, the range that starts at the f64 of b
  pub limit_decided : (high : Fraction) (x : Float) → T (fits binary64 x) → within (exact_of (of_bits binary64 b)) high x ≡ within (parts false n d) high x
  unfolding within
  limit_decided high nan fit = refl
  limit_decided high (inf s) fit = refl
  limit_decided high (fin s m e) fit = ap (λ (t : Bool). t && leq (exact_of (fin s m e)) high) (decides (fin s m e) fit tt)
