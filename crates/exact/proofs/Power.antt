-- Powers of an exact fraction: what they do to products, sums of exponents, signs and the order. Assumes nothing.
use Prim.Native.Nat.{ℕ, zero, suc, ◌+◌, ◌^◌}
use mathlib.Core.Path.{◌≡◌, refl, ap, sym, ◌∙◌}
use native.Mathlib.Omega.{arith}
use native.Mathlib.Numerals.{add-one}
use native.Mathlib.Nat.{add-zero, add-suc, pow-zero, pow-suc}
use Rattle.exact.specs.Fraction.{Fraction, nat, ◌⊗◌, ◌≼◌, ◌≺◌, ◌≈◌}
use Rattle.exact.proofs.Fraction.Order.{≼_refl, ≈-refl, ≈-sym, ≈-trans, ≈-of-≡}
use Rattle.exact.proofs.Fraction.Product.{⊗-assoc, ⊗-middle, ⊗-cong, ⊗-one, one-⊗, ⊗-nonneg, ⊗-pos, ⊗-mono}
use Rattle.exact.proofs.Fraction.Parts.{nat-⊗, nat-nonneg, nat-≺}
use Rattle.exact.specs.Series.{power}

pub power_zero : (x : Fraction) → power x 0 ≡ nat 1
unfolding power
power_zero x = refl

pub power-suc : (x : Fraction) (n : ℕ) → power x (suc n) ≡ power x n ⊗ x
unfolding power
power-suc x n = refl

pub power-next : (x : Fraction) (n : ℕ) → power x (n + 1) ≡ power x n ⊗ x
power-next x n = ap (power x) (add-one n) ∙ power-suc x n

pub power-one : (x : Fraction) → power x 1 ≈ x
unfolding power
power-one x = one-⊗ x

pub power-cong : {x y : Fraction} → x ≈ y → (n : ℕ) → power x n ≈ power y n
unfolding power
power-cong e zero = ≈-refl (nat 1)
power-cong e (suc n) = ⊗-cong (power-cong e n) e

pub power-nonneg : {x : Fraction} → nat 0 ≼ x → (n : ℕ) → nat 0 ≼ power x n
unfolding power
power-nonneg h zero = nat-nonneg 1
power-nonneg h (suc n) = ⊗-nonneg (power-nonneg h n) h

pub power_pos : {x : Fraction} → nat 0 ≺ x → (n : ℕ) → nat 0 ≺ power x n
unfolding power
power_pos h zero = nat-≺ (omega arith)
power_pos h (suc n) = ⊗-pos (power_pos h n) h

pub power-mono : {x y : Fraction} → nat 0 ≼ x → x ≼ y → (n : ℕ) → power x n ≼ power y n
unfolding power
power-mono s h zero = ≼_refl (nat 1)
power-mono s h (suc n) = ⊗-mono (power-nonneg s n) s (power-mono s h n) h

pub power-add : (x : Fraction) (m n : ℕ) → power x (m + n) ≈ power x m ⊗ power x n
unfolding power
power-add x m zero = ≈-trans (≈-of-≡ (ap (power x) (add-zero m))) (≈-sym (⊗-one (power x m)))
power-add x m (suc n) =
    ≈-trans (≈-of-≡ (ap (power x) (add-suc m n)))
    (≈-trans (⊗-cong (power-add x m n) (≈-refl x)) (⊗-assoc (power x m) (power x n) x))

pub power-⊗ : (x y : Fraction) (n : ℕ) → power (x ⊗ y) n ≈ power x n ⊗ power y n
unfolding power
power-⊗ x y zero = ≈-sym (⊗-one (nat 1))
power-⊗ x y (suc n) = ≈-trans (⊗-cong (power-⊗ x y n) (≈-refl (x ⊗ y))) (⊗-middle (power x n) (power y n) x y)

pub power-nat : (a n : ℕ) → power (nat a) n ≈ nat (a ^ n)
unfolding power
power-nat a zero = ≈-of-≡ (ap nat (sym (pow-zero a)))
power-nat a (suc n) =
    ≈-trans (⊗-cong (power-nat a n) (≈-refl (nat a))) (≈-trans (≈-sym (nat-⊗ (a ^ n) a)) (≈-of-≡ (ap nat (sym (pow-suc a n)))))
