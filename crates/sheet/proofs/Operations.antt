-- The exact result of each operation on two sheet numbers, as a quotient of units with its sign, so that its rounding is that of a
-- magnitude. Assumes nothing.
use mathlib.Core.Path.{◌≡◌, refl, sym, ap, ap₂, ◌∙◌}
use mathlib.Core.Logic.{◌⊎◌, ⊎_elim}
use mathlib.Core.Bool.{Bool, true, false, not, xor}
use Prim.Native.Nat.{ℕ, suc, ◌+◌, ◌-◌, ◌*◌, ◌^◌, ◌≤◌, ◌<◌}
use native.Mathlib.Nat.{mul-pos, mul-le-mul_right, mul-sub, zero-mul, mul_comm}
use native.Mathlib.Omega.{arith}
use lib.Pow.{pow-add, pow_pos}
use Rattle.exact.specs.Fraction.{nat, parts, ◌⊕◌, ◌⊖◌, ◌⊗◌, ◌⊘◌, ◌≼◌, ◌≺◌, ◌≈◌}
use Rattle.exact.proofs.Fraction.Order.{≺-irrefl, ≼-not-≺, ≺-≈-trans, ≈-refl, ≈-sym, ≈-trans}
use Rattle.exact.proofs.Fraction.Sum.{⊕-comm, ⊕-cong, ⊖-is, ⊕-zero, zero_⊕}
use Rattle.exact.proofs.Fraction.Product.{⊗-cong, zero_⊗, ⊗-zero}
use Rattle.exact.proofs.Fraction.Quotient.{⊘-cong, zero_⊘}
use Rattle.exact.proofs.Fraction.Parts.{parts-⊗, parts-⊕, parts-⊕_less, parts-⊘, parts-pos, parts-nonpos, parts-neg, parts-nat, parts-zero}
use Rattle.exact.proofs.Fraction.Units.{≼-units}
use Rattle.sheet.specs.declared.Sheet.{Sheet}
use Rattle.sheet.specs.Magnitude.{round_mag}
use Rattle.sheet.specs.Number.{bias, value, plain_zero, signed, negate_sheet, Spelled}
use Rattle.sheet.specs.Round.{away, round}
use Rattle.sheet.specs.Range.{extent}
use Rattle.sheet.proofs.Gaps.{zero_or_pos}
use Rattle.sheet.proofs.Signed.{round_parts}
use Rattle.sheet.proofs.Spelling.{extent-zero}
use Rattle.sheet.proofs.Laws.{round_resp, round_value, round_nought, negate-value}

-- no digits, no value
pub zero_value : (s : Sheet) → s.m ≡ 0 → value s ≈ nat 0
unfolding value
zero_value s z = rw (z, zero-mul) (parts-zero s.neg (2 ^ bias))

-- what is above zero has no sign and some digits
pub above_zero : (s : Sheet) → nat 0 ≺ value s → (s.neg ≡ false) × (0 < s.m)
unfolding value
above_zero s h = (go s.neg refl, ⊎_elim (λ z. absurd (≺-irrefl (≺-≈-trans h (zero_value s z)))) (λ p. p) (zero_or_pos s.m))
  where
    go : (n : Bool) → s.neg ≡ n → n ≡ false
    go false e = refl
    go true e = absurd (≼-not-≺ (parts-nonpos (extent s) (2 ^ bias)) (rw e at h))

-- and what has no sign and some digits is above zero
pub digits-pos : (s : Sheet) → s.neg ≡ false → 0 < s.m → nat 0 ≺ value s
unfolding value
digits-pos s n p = rw n (parts-pos (extent s) (2 ^ bias) (mul-pos p (pow_pos s.e)))

-- what is spelled and not below zero has no sign
pub nonneg-plain : (v : ℕ) (s : Sheet) → Spelled v s → nat 0 ≼ value s → s.neg ≡ false
unfolding value
nonneg-plain v s p h = go s.neg refl
  where
    go : (n : Bool) → s.neg ≡ n → n ≡ false
    go false e = refl
    go true e =
        ⊎_elim (λ z. sym e ∙ p.plain (extent-zero s.m s.e z))
        (λ q. absurd (≼-not-≺ (rw e at h) (parts-neg (extent s) (2 ^ bias) q))) (zero_or_pos (extent s))

-- numbers without a sign are ordered as their sizes are
pub extent-order : (s t : Sheet) → s.neg ≡ false → t.neg ≡ false → value s ≼ value t → extent s ≤ extent t
unfolding value
extent-order s t a b h = ≼-units (extent s) (extent t) (2 ^ bias) (pow_pos bias) (rw (a, b) at h)

-- ---- given values

pub ratio_is : (up : Bool) (v : ℕ) (neg : Bool) (num den : ℕ) → 0 < den
    → round up (suc v) (parts neg num den) ≡ signed neg (round_mag (away up neg) (suc v) (num * 2 ^ bias) den)
ratio_is up v neg num den p = round_parts up v (parts neg num den) neg num den (num * 2 ^ bias) den p p (≈-refl _) refl

pub ratio_zero : (up : Bool) (v : ℕ) (neg : Bool) (num den : ℕ) → num ≡ 0 → round up (suc v) (parts neg num den) ≡ plain_zero
ratio_zero up v neg num den z = round_nought up v (rw z (parts-zero neg den))

pub whole_is : (up : Bool) (v n : ℕ) → round up (suc v) (nat n) ≡ signed false (round_mag (away up false) (suc v) (n * 2 ^ bias) 1)
whole_is up v n = round_parts up v (nat n) false n 1 (n * 2 ^ bias) 1 (omega arith) (omega arith) (≈-sym (parts-nat n)) refl

nat-pos : (n : ℕ) → 0 < n → nat 0 ≺ nat n
nat-pos n p = ≺-≈-trans (parts-pos n 1 p) (parts-nat n)

module _ (up : Bool) (v : ℕ) (a b : Sheet) where
  B : ℕ
  B = 2 ^ bias

  -- ---- product

  product_units : (p q r t : ℕ) (m n : ℕ) → p * t ≡ q * r → m * n * p * (t * t) ≡ m * q * (n * r) * t * 1
  product_units p q r t m n h = omega (arith, ap (λ (x : ℕ). x * (m * n * t)) h)

  pub product_is : (e : ℕ) → e + bias ≡ a.e + b.e
      → round up (suc v) (value a ⊗ value b) ≡ signed (xor a.neg b.neg) (round_mag (away up (xor a.neg b.neg)) (suc v) (a.m * b.m * 2 ^ e) 1)
  unfolding value B
  product_is e h =
      round_parts up v (value a ⊗ value b) (xor a.neg b.neg) (extent a * extent b) (B * B) (a.m * b.m * 2 ^ e) 1
      (mul-pos (pow_pos bias) (pow_pos bias)) (omega arith)
      (parts-⊗ a.neg b.neg (extent a) B (extent b) B (pow_pos bias) (pow_pos bias))
      (product_units (2 ^ e) (2 ^ a.e) (2 ^ b.e) (2 ^ bias) a.m b.m (sym (pow-add 2 e bias) ∙ ap (λ (k : ℕ). 2 ^ k) h ∙ pow-add 2 a.e b.e))

  pub product_zero : (a.m ≡ 0) ⊎ (b.m ≡ 0) → round up (suc v) (value a ⊗ value b) ≡ plain_zero
  product_zero h =
      round_nought up v
      (⊎_elim (λ z. ≈-trans (⊗-cong (zero_value a z) (≈-refl (value b))) (zero_⊗ (value b)))
      (λ z. ≈-trans (⊗-cong (≈-refl (value a)) (zero_value b z)) (⊗-zero (value a))) h)

  -- ---- quotient

  quotient-units : (p q r s t : ℕ) (m n : ℕ) → p * s * r ≡ q * t → m * s * p * (t * (n * r)) ≡ m * q * t * t * n
  quotient-units p q r s t m n h = omega (arith, ap (λ (x : ℕ). x * (m * n * t)) h)

  pub quotient_is : (e k : ℕ) → b.neg ≡ false → 0 < b.m → e + k + b.e ≡ a.e + bias
      → round up (suc v) (value a ⊘ value b) ≡ signed a.neg (round_mag (away up a.neg) (suc v) (a.m * 2 ^ k * 2 ^ e) b.m)
  unfolding value B
  quotient_is e k n p h =
      round_parts up v (value a ⊘ value b) a.neg (extent a * B) (B * extent b) (a.m * 2 ^ k * 2 ^ e) b.m
      (mul-pos (pow_pos bias) (mul-pos p (pow_pos b.e))) p
      (rw n (parts-⊘ a.neg (extent a) B (extent b) B (pow_pos bias) (mul-pos p (pow_pos b.e)) (pow_pos bias)))
      (quotient-units (2 ^ e) (2 ^ a.e) (2 ^ b.e) (2 ^ k) (2 ^ bias) a.m b.m (powers ∙ ap (λ (x : ℕ). 2 ^ x) h ∙ pow-add 2 a.e bias))
    where
      powers : 2 ^ e * 2 ^ k * 2 ^ b.e ≡ 2 ^ (e + k + b.e)
      powers = ap (λ (x : ℕ). x * 2 ^ b.e) (sym (pow-add 2 e k)) ∙ sym (pow-add 2 (e + k) b.e)

  pub quotient-zero : b.neg ≡ false → 0 < b.m → a.m ≡ 0 → round up (suc v) (value a ⊘ value b) ≡ plain_zero
  unfolding value
  quotient-zero n p z = round_nought up v (≈-trans (⊘-cong above (zero_value a z) (≈-refl (value b))) (zero_⊘ (value b)))
    where
      above : nat 0 ≺ value b
      above = rw n (parts-pos (extent b) (2 ^ bias) (mul-pos p (pow_pos b.e)))

  -- ---- quotient by a whole number

  pub share_is : (e k n : ℕ) → 0 < n → e + k ≡ a.e
      → round up (suc v) (value a ⊘ nat n) ≡ signed a.neg (round_mag (away up a.neg) (suc v) (a.m * 2 ^ k * 2 ^ e) n)
  unfolding value B
  share_is e k n p h =
      round_parts up v (value a ⊘ nat n) a.neg (extent a * 1) (B * n) (a.m * 2 ^ k * 2 ^ e) n
      (mul-pos (pow_pos bias) p) p
      (≈-trans (⊘-cong (nat-pos n p) (≈-refl (value a)) (≈-sym (parts-nat n))) (parts-⊘ a.neg (extent a) B n 1 (pow_pos bias) p (omega arith)))
      (omega (arith, ap (λ (x : ℕ). a.m * x * (B * n)) powers))
    where
      powers : 2 ^ e * 2 ^ k ≡ 2 ^ a.e
      powers = sym (pow-add 2 e k) ∙ ap (λ (x : ℕ). 2 ^ x) h

  pub share_zero : (n : ℕ) → 0 < n → a.m ≡ 0 → round up (suc v) (value a ⊘ nat n) ≡ plain_zero
  share_zero n p z = round_nought up v (≈-trans (⊘-cong (nat-pos n p) (zero_value a z) (≈-refl (nat n))) (zero_⊘ (nat n)))

  -- ---- sum

  sub_units : (x y t : ℕ) → (x - y) * (t * t) ≡ (x * t - y * t) * t * 1
  sub_units x y t =
      let k : x * t - y * t ≡ (x - y) * t = sym (mul_comm (x - y) t ∙ mul-sub t x y ∙ ap₂ ◌-◌ (mul_comm t x) (mul_comm t y)) in
      rw k (omega arith)

  pub sum_same : a.neg ≡ b.neg
      → round up (suc v) (value a ⊕ value b) ≡ signed a.neg (round_mag (away up a.neg) (suc v) (extent a + extent b) 1)
  unfolding value B
  sum_same h =
      round_parts up v (value a ⊕ value b) a.neg (extent a * B + extent b * B) (B * B) (extent a + extent b) 1
      (mul-pos (pow_pos bias) (pow_pos bias)) (omega arith)
      (rw (sym h) (parts-⊕ a.neg (extent a) B (extent b) B (pow_pos bias) (pow_pos bias)))
      (omega arith)

  pub sum_less : b.neg ≡ not a.neg → extent b ≤ extent a
      → round up (suc v) (value a ⊕ value b) ≡ signed a.neg (round_mag (away up a.neg) (suc v) (extent a - extent b) 1)
  unfolding value B
  sum_less h l =
      round_parts up v (value a ⊕ value b) a.neg (extent a * B - extent b * B) (B * B) (extent a - extent b) 1
      (mul-pos (pow_pos bias) (pow_pos bias)) (omega arith)
      (rw h (parts-⊕_less a.neg (extent a) B (extent b) B (pow_pos bias) (pow_pos bias) (mul-le-mul_right B l)))
      (sub_units (extent a) (extent b) B)

  pub sum_swap : round up (suc v) (value a ⊕ value b) ≡ round up (suc v) (value b ⊕ value a)
  sum_swap = round_resp up v (⊕-comm (value a) (value b))

  pub sum_zero_left : Spelled v b → a.m ≡ 0 → round up (suc v) (value a ⊕ value b) ≡ b
  sum_zero_left p z =
      round_resp up v (≈-trans (⊕-cong (zero_value a z) (≈-refl (value b))) (zero_⊕ (value b))) ∙ round_value up v b p

  pub sum_zero_right : Spelled v a → b.m ≡ 0 → round up (suc v) (value a ⊕ value b) ≡ a
  sum_zero_right p z =
      round_resp up v (≈-trans (⊕-cong (≈-refl (value a)) (zero_value b z)) (⊕-zero (value a))) ∙ round_value up v a p

  -- a difference is the sum with the other number's mirror
  pub difference-is : round up (suc v) (value a ⊖ value b) ≡ round up (suc v) (value a ⊕ value (negate_sheet b))
  difference-is =
      round_resp up v (≈-trans (⊖-is (value a) (value b)) (⊕-cong (≈-refl (value a)) (≈-sym (negate-value b))))
