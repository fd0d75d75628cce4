-- Short numbers and powers of two in units of 2^-bias: their order, sums and multiples, and which whole numbers and fractions they are. Assumes nothing.
use mathlib.Core.Path.{◌≡◌, sym, ap, ◌∙◌}
use mathlib.Core.Bool.{false}
use Prim.Native.Nat.{ℕ, ◌+◌, ◌-◌, ◌*◌, ◌^◌, ◌≤◌}
use native.Mathlib.Nat.{mul-pos, mul-le-mul_left, mul-le-mul_right}
use native.Mathlib.Omega.{arith}
use lib.Dec.{lit≤}
use lib.Pow.{pow_pos, pow_mono, pow-add}
use Rattle.exact.specs.Fraction.{nat, parts, ◌⊕◌, ◌⊗◌, ◌≼◌, ◌≺◌, ◌≈◌}
use Rattle.exact.proofs.Fraction.Order.{≈-trans}
use Rattle.exact.proofs.Fraction.Parts.{parts-≼, parts-pos, parts-⊕, parts-nat, parts-≈}
use Rattle.exact.proofs.Fraction.Units.{parts-⊗_nat}
use Rattle.sheet.specs.Number.{bias}
use Rattle.series.proofs.Short.{short, unit}

-- ---- powers of two
pub short-le : (m l n k : ℕ) → m * 2 ^ l ≤ n * 2 ^ k → short m l ≼ short n k
unfolding short
short-le m l n k h = parts-≼ (m * 2 ^ l) (2 ^ bias) (n * 2 ^ k) (2 ^ bias) (pow_pos bias) (pow_pos bias) (mul-le-mul_right (2 ^ bias) h)

pub unit-le : {l k : ℕ} → l ≤ k → unit l ≼ unit k
unit-le {l} {k} h = short-le 1 l 1 k (mul-le-mul_left 1 (pow_mono h))

pub short-sum : (m n l : ℕ) → short m l ⊕ short n l ≈ short (m + n) l
unfolding short
short-sum m n l =
    ≈-trans (parts-⊕ false (m * 2 ^ l) (2 ^ bias) (n * 2 ^ l) (2 ^ bias) (pow_pos bias) (pow_pos bias))
    (parts-≈ false (m * 2 ^ l * 2 ^ bias + n * 2 ^ l * 2 ^ bias) (2 ^ bias * 2 ^ bias) ((m + n) * 2 ^ l) (2 ^ bias)
    (mul-pos (pow_pos bias) (pow_pos bias)) (pow_pos bias) (omega arith))

pub unit-times : (l n : ℕ) → unit l ⊗ nat n ≈ short n l
unfolding short
unit-times l n =
    ≈-trans (parts-⊗_nat false (1 * 2 ^ l) (2 ^ bias) n) (parts-≈ false (1 * 2 ^ l * n) (2 ^ bias) (n * 2 ^ l) (2 ^ bias) (pow_pos bias) (pow_pos bias) (omega arith))

pub unit-pos : (l : ℕ) → nat 0 ≺ unit l
unfolding short
unit-pos l = parts-pos (1 * 2 ^ l) (2 ^ bias) (let p = pow_pos l in omega arith)

-- 2^n as a whole number
pub unit-nat : (n : ℕ) → unit (bias + n) ≈ nat (2 ^ n)
unfolding short
unit-nat n =
    ≈-trans
    (parts-≈ false (1 * 2 ^ (bias + n)) (2 ^ bias) (2 ^ n) 1 (pow_pos bias) (lit≤ tt) (rw (pow-add 2 bias n) (omega arith)))
    (parts-nat (2 ^ n))

-- a short number as a fraction
pub short-part : (m n : ℕ) → n ≤ bias → short m (bias - n) ≈ parts false m (2 ^ n)
unfolding short
short-part m n h =
    let e : 2 ^ (bias - n) * 2 ^ n ≡ 2 ^ bias = sym (pow-add 2 (bias - n) n) ∙ ap (λ (i : ℕ). 2 ^ i) (omega arith) in
    parts-≈ false (m * 2 ^ (bias - n)) (2 ^ bias) m (2 ^ n) (pow_pos bias) (pow_pos n) (omega (arith, ap (λ (i : ℕ). m * i) e))

pub unit-part : (n : ℕ) → n ≤ bias → unit (bias - n) ≈ parts false 1 (2 ^ n)
unit-part n h = short-part 1 n h
