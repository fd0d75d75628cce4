-- The two roundings of a number are close: up is at most 14/13 of down, from five bits on. Assumes nothing.
use mathlib.Core.Path.{◌≡◌, sym, ap, ◌∙◌}
use mathlib.Core.Logic.{inl, inr, ⊎_elim}
use mathlib.Core.Bool.{false, xor}
use Prim.Native.Nat.{ℕ, suc, ◌+◌, ◌*◌, ◌^◌, ◌≤◌, ◌<◌}
use native.Mathlib.Nat.{le_trans, mul-le-mul_right, mul-pos, eq-or-lt_of_le}
use native.Mathlib.Omega.{arith}
use lib.Dec.{lit≤}
use lib.Pow.{pow_pos, pow_mono, pow-add}
use Rattle.exact.specs.Fraction.{Fraction, parts, ◌⊗◌, ◌≼◌}
use Rattle.exact.proofs.Fraction.Order.{≼_trans, ≺→≼, ≼-or-≺, ≈-sym, ≼-≈-trans}
use Rattle.exact.proofs.Fraction.Parts.{parts-≼, parts-⊗, ≼-parts}
use Rattle.sheet.specs.declared.Sheet.{Sheet}
use Rattle.sheet.specs.Number.{bias, value}
use Rattle.sheet.specs.Round.{down, up}
use Rattle.sheet.proofs.Laws.{round_spelled}
use Rattle.bracket.specs.Span.{point}
use Rattle.bracket.specs.Rules.{rounded}
use Rattle.series.proofs.Short.{short, unit, low-short, high_short, low-unit, high_unit}
use Rattle.sheet.proofs.Measures.{full}
use Rattle.series.proofs.Fits.{value-least}

unfoldable pub κ : Fraction
κ = parts false 14 13

value-short : (s : Sheet) → s.neg ≡ false → value s ≡ short s.m s.e
unfolding value short
value-short s e = rw e

-- one more in the last digit is at most 14/13
step : (m e : ℕ) → 13 ≤ m → short (m + 1) e ≼ κ ⊗ short m e
unfolding short κ xor
step m e h =
    let k = mul-le-mul_right (2 ^ e * 2 ^ bias) h in
    ≼-≈-trans
    (parts-≼ ((m + 1) * 2 ^ e) (2 ^ bias) (14 * (m * 2 ^ e)) (13 * 2 ^ bias) (pow_pos bias) (mul-pos (lit≤ tt) (pow_pos bias)) (omega arith))
    (≈-sym (parts-⊗ false false 14 13 (m * 2 ^ e) (2 ^ bias) (lit≤ tt) (pow_pos bias)))

-- so many digits and one more are those of the next place, at the most
module _ (v m e : ℕ) (h : m < 2 ^ suc v) where
  carried : m + 1 ≡ 2 ^ suc v → short (m + 1) e ≡ unit (suc v + e)
  unfolding short
  carried q = ap (λ (n : ℕ). parts false n (2 ^ bias)) (rw q (sym (pow-add 2 (suc v) e) ∙ omega arith))

  next_low : (x : Fraction) → short (m + 1) e ≼ x → short (m + 1) e ≼ value (down (suc v) x)
  unfolding rounded
  next_low x k =
      ⊎_elim (λ q. rw (carried q) (low-unit v (suc v + e) (point x) (rw (carried q) at k)))
      (λ q. low-short v (m + 1) e (point x) (omega arith) q k) (eq-or-lt_of_le (omega arith))

  next-high : (x : Fraction) → x ≼ short (m + 1) e → value (up (suc v) x) ≼ short (m + 1) e
  unfolding rounded
  next-high x k =
      ⊎_elim (λ q. rw (carried q) (high_unit v (suc v + e) (point x) (rw (carried q) at k)))
      (λ q. high_short v (m + 1) e (point x) (omega arith) q k) (eq-or-lt_of_le (omega arith))

-- between a number and the next there is no other
no_less : (m e : ℕ) → short (m + 1) e ≼ short m e → ⊥
unfolding short
no_less m e k =
    let g = ≼-parts ((m + 1) * 2 ^ e) (2 ^ bias) (m * 2 ^ e) (2 ^ bias) (pow_pos bias) (pow_pos bias) k in
    let p = mul-pos (pow_pos e) (pow_pos bias) in
    omega arith

below_next : (m e : ℕ) (x : Fraction) → (short (m + 1) e ≼ x → short (m + 1) e ≼ short m e) → x ≼ short (m + 1) e
below_next m e x g = elim (≼-or-≺ x (short (m + 1) e)) [ inl k ↦ k | inr k ↦ absurd (no_less m e (g (≺→≼ k))) ]

pub close : (v l : ℕ) (x : Fraction) → 4 ≤ v → v ≤ l → unit l ≼ x → value (up (suc v) x) ≼ κ ⊗ value (down (suc v) x)
unfolding rounded
close v l x four c h =
    let s = down (suc v) x in
    let p = round_spelled false v x in
    let a = value-least s l (low-unit v l (point x) h) in
    let m = s.m in
    let e = s.e in
    let i = value-short s a.0 in
    let sixteen : 2 ^ 4 ≤ m = le_trans (pow_mono four) (full v m e l p.fit a.1 c) in
    rw i
    (≼_trans (next-high v m e p.fit.small x (below_next m e x (λ k. rw i at (next_low v m e p.fit.small x k)))) (step m e (omega arith)))
