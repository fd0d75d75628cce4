-- Roundings of numbers that are written out: the digits are found on small numbers and raised to their place, so that a case computes.
-- Assumes nothing.
use mathlib.Core.Path.{◌≡◌, refl, sym, ap, ◌∙◌}
use mathlib.Core.Bool.{Bool, false, not, xor}
use Prim.Native.Nat.{ℕ, suc, ◌+◌, ◌-◌, ◌*◌, ◌^◌, ◌≤◌, ◌<◌}
use native.Mathlib.Nat.{mul_comm, mul-sub, mul_assoc, mul-le-mul_right}
use native.Mathlib.Omega.{arith}
use lib.Pow.{pow-add}
use Rattle.exact.specs.Fraction.{nat, parts, ◌⊕◌, ◌⊖◌, ◌⊗◌, ◌⊘◌}
use Rattle.exact.proofs.Fraction.Order.{≈-sym}
use Rattle.exact.proofs.Fraction.Parts.{parts-nat}
use Rattle.sheet.specs.declared.Sheet.{Sheet}
use Rattle.sheet.specs.Magnitude.{round_mag, raise}
use Rattle.sheet.specs.Number.{bias, value, signed, negate_sheet}
use Rattle.sheet.specs.Round.{away, round}
use Rattle.sheet.specs.Range.{extent}
use Rattle.sheet.proofs.Rounding.{round_raise}
use Rattle.sheet.proofs.Signed.{signed-pos}
use Rattle.sheet.proofs.Laws.{round_resp}
use Rattle.sheet.proofs.Operations.{ratio_is, product_is, quotient_is, sum_same, sum_less, difference-is}

-- num / den, at least 2^v once raised by k places
pub ratio_closed : (up : Bool) (v : ℕ) (neg : Bool) (num den k t : ℕ) → 0 < den → 2 ^ v * den ≤ num * 2 ^ k → k + t ≡ bias
    → round up (suc v) (parts neg num den) ≡ signed neg (raise t (round_mag (away up neg) (suc v) (num * 2 ^ k) den))
ratio_closed up v neg num den k t p h e =
    ratio_is up v neg num den p
    ∙ ap (λ (n : ℕ). signed neg (round_mag (away up neg) (suc v) n den)) (ap (λ (i : ℕ). num * 2 ^ i) (sym e) ∙ ap (λ (i : ℕ). num * i) (pow-add 2 k t) ∙ sym (mul_assoc num (2 ^ k) (2 ^ t)))
    ∙ ap (signed neg) (round_raise (away up neg) v (num * 2 ^ k) den t p h)

pub whole_closed : (up : Bool) (v n k t : ℕ) → 2 ^ v ≤ n * 2 ^ k → k + t ≡ bias
    → round up (suc v) (nat n) ≡ signed false (raise t (round_mag (away up false) (suc v) (n * 2 ^ k) 1))
whole_closed up v n k t h e = round_resp up v (≈-sym (parts-nat n)) ∙ ratio_closed up v false n 1 k t (omega arith) (omega arith) e

module _ (up : Bool) (v : ℕ) (a b : Sheet) where
  pub product_closed : (e : ℕ) → 2 ^ v ≤ a.m * b.m → e + bias ≡ a.e + b.e
      → round up (suc v) (value a ⊗ value b) ≡ signed (xor a.neg b.neg) (raise e (round_mag (away up (xor a.neg b.neg)) (suc v) (a.m * b.m) 1))
  product_closed e h q =
      product_is up v a b e q
      ∙ ap (signed (xor a.neg b.neg)) (round_raise (away up (xor a.neg b.neg)) v (a.m * b.m) 1 e (omega arith) (omega arith))

  pub quotient-closed : (e k : ℕ) → b.neg ≡ false → 0 < b.m → 2 ^ v * b.m ≤ a.m * 2 ^ k → e + k + b.e ≡ a.e + bias
      → round up (suc v) (value a ⊘ value b) ≡ signed a.neg (raise e (round_mag (away up a.neg) (suc v) (a.m * 2 ^ k) b.m))
  quotient-closed e k n p h q =
      quotient_is up v a b e k n p q ∙ ap (signed a.neg) (round_raise (away up a.neg) v (a.m * 2 ^ k) b.m e p h)

  -- both sizes in units of 2^t
  pub sum_closed : (x y t : ℕ) → a.neg ≡ b.neg → extent a ≡ x * 2 ^ t → extent b ≡ y * 2 ^ t → 2 ^ v ≤ x + y
      → round up (suc v) (value a ⊕ value b) ≡ signed a.neg (raise t (round_mag (away up a.neg) (suc v) (x + y) 1))
  sum_closed x y t n p q h =
      sum_same up v a b n
      ∙ ap (λ (i : ℕ). signed a.neg (round_mag (away up a.neg) (suc v) i 1)) (let s : extent a + extent b ≡ (x + y) * 2 ^ t = omega arith in s)
      ∙ ap (signed a.neg) (round_raise (away up a.neg) v (x + y) 1 t (omega arith) (omega arith))

  pub less-closed : (x y t : ℕ) → b.neg ≡ not a.neg → extent a ≡ x * 2 ^ t → extent b ≡ y * 2 ^ t → 2 ^ v + y ≤ x
      → round up (suc v) (value a ⊕ value b) ≡ signed a.neg (raise t (round_mag (away up a.neg) (suc v) (x - y) 1))
  less-closed x y t n p q h =
      let l : y * 2 ^ t ≤ x * 2 ^ t = mul-le-mul_right (2 ^ t) (let k : y ≤ x = omega arith in k) in
      sum_less up v a b n (omega arith)
      ∙ ap (λ (i : ℕ). signed a.neg (round_mag (away up a.neg) (suc v) i 1)) (rw (p, q) (sym (mul_comm (x - y) (2 ^ t) ∙ mul-sub (2 ^ t) x y ∙ rw (mul_comm (2 ^ t) x, mul_comm (2 ^ t) y) refl)))
      ∙ ap (signed a.neg) (round_raise (away up a.neg) v (x - y) 1 t (omega arith) (omega arith))

pub difference-closed : (up : Bool) (v : ℕ) (a b : Sheet) (x y t : ℕ) → b.neg ≡ a.neg → (b.m ≡ 0 → ⊥) → extent a ≡ x * 2 ^ t → extent b ≡ y * 2 ^ t → 2 ^ v + y ≤ x
    → round up (suc v) (value a ⊖ value b) ≡ signed a.neg (raise t (round_mag (away up a.neg) (suc v) (x - y) 1))
unfolding negate_sheet
difference-closed up v a b x y t n z p q h =
    difference-is up v a b
    ∙ ap (λ (s : Sheet). round up (suc v) (value a ⊕ value s)) (signed-pos (not b.neg) b.m b.e z)
    ∙ less-closed up v a (record { neg = not b.neg; m = b.m; e = b.e }) x y t (rw n refl) p q h
