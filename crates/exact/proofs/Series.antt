-- Partial sums and the terms of the two series: their steps, their signs, and that they respect equality. Assumes nothing.
use Prim.Native.Nat.{ℕ, zero, suc, ◌+◌, ◌*◌, ◌≤◌}
use mathlib.Core.Path.{◌≡◌, refl, ap}
use native.Mathlib.Omega.{arith}
use native.Mathlib.Numerals.{add-one}
use native.Mathlib.Nat.{zero-lt-suc}
use native.Mathlib.Decide.{le_ind}
use Rattle.exact.specs.Fraction.{Fraction, nat, ◌⊕◌, ◌⊗◌, ◌⊘◌, ◌≼◌, ◌≺◌, ◌≈◌}
use Rattle.exact.proofs.Fraction.Order.{≼_refl, ≼_trans, ≺-≼-trans, ≈-refl, ≈-trans, ≈-of-≡, ≈→≼}
use Rattle.exact.proofs.Fraction.Sum.{⊕-cong, ⊕-nonneg, ≼-⊕-right}
use Rattle.exact.proofs.Fraction.Product.{⊗-cong, ⊗-assoc, ⊗-nonneg}
use Rattle.exact.proofs.Fraction.Quotient.{⊘-cong, ⊘-nonneg, ⊘-pos, ⊘-anti-right, ⊘-one}
use Rattle.exact.proofs.Fraction.Parts.{nat-nonneg, nat-pos, nat-≺}
use Rattle.exact.specs.Series.{power, partial, exp_term, expneg_at, ln_term, ln_at}
use Rattle.exact.proofs.Power.{power-cong, power-nonneg}

-- ---- partial sums
pub partial-zero : (t : ℕ → Fraction) → partial t 0 ≡ t 0
unfolding partial
partial-zero t = refl

pub partial-suc : (t : ℕ → Fraction) (n : ℕ) → partial t (suc n) ≡ partial t n ⊕ t (suc n)
unfolding partial
partial-suc t n = refl

pub partial-next : (t : ℕ → Fraction) (n : ℕ) → partial t (n + 1) ≡ partial t n ⊕ t (n + 1)
partial-next t n = rw add-one (partial-suc t n)

pub partial-cong : {t u : ℕ → Fraction} → ((k : ℕ) → t k ≈ u k) → (n : ℕ) → partial t n ≈ partial u n
unfolding partial
partial-cong e zero = e 0
partial-cong e (suc n) = ⊕-cong (partial-cong e n) (e (suc n))

pub partial-nonneg : {t : ℕ → Fraction} → ((k : ℕ) → nat 0 ≼ t k) → (n : ℕ) → nat 0 ≼ partial t n
unfolding partial
partial-nonneg h zero = h 0
partial-nonneg h (suc n) = ⊕-nonneg (partial-nonneg h n) (h (suc n))

-- terms at or above zero only add
pub partial-rises : {t : ℕ → Fraction} → ((k : ℕ) → nat 0 ≼ t k) → (K N : ℕ) → K ≤ N → partial t K ≼ partial t N
unfolding partial
partial-rises {t} h K N k =
    le_ind (λ (n : ℕ). partial t K ≼ partial t n) (≼_refl (partial t K)) (λ m l r. ≼_trans r (≼-⊕-right (h (suc m)))) N k

-- ---- the exponential
pub exp_term-zero : (x : Fraction) → exp_term x 0 ≡ nat 1
unfolding exp_term
exp_term-zero x = refl

pub exp_term-suc : (x : Fraction) (k : ℕ) → exp_term x (suc k) ≡ exp_term x k ⊗ x ⊘ nat (suc k)
unfolding exp_term
exp_term-suc x k = refl

pub exp_term-next : (x : Fraction) (k : ℕ) → exp_term x (k + 1) ≡ exp_term x k ⊗ x ⊘ nat (k + 1)
exp_term-next x k = rw add-one (exp_term-suc x k)

pub exp_term-cong : {x y : Fraction} → x ≈ y → (k : ℕ) → exp_term x k ≈ exp_term y k
unfolding exp_term
exp_term-cong e zero = ≈-refl (nat 1)
exp_term-cong e (suc k) = ⊘-cong (nat-pos (zero-lt-suc k)) (⊗-cong (exp_term-cong e k) e) (≈-refl (nat (suc k)))

pub exp_term-nonneg : {x : Fraction} → nat 0 ≼ x → (k : ℕ) → nat 0 ≼ exp_term x k
unfolding exp_term
exp_term-nonneg h zero = nat-nonneg 1
exp_term-nonneg h (suc k) = ⊘-nonneg (nat (suc k)) (⊗-nonneg (exp_term-nonneg h k) h)

-- the sum starts at 1
pub exp_sum-above : {x : Fraction} → nat 0 ≼ x → (N : ℕ) → nat 1 ≼ partial (exp_term x) N
unfolding exp_term partial
exp_sum-above {x} h N = partial-rises {t = exp_term x} (exp_term-nonneg h) 0 N (omega arith)

pub exp_sum-pos : {x : Fraction} → nat 0 ≼ x → (N : ℕ) → nat 0 ≺ partial (exp_term x) N
exp_sum-pos h N = ≺-≼-trans (nat-≺ (zero-lt-suc 0)) (exp_sum-above h N)

pub expneg_at-is : (N : ℕ) (x : Fraction) → expneg_at N x ≡ nat 1 ⊘ partial (exp_term x) N
unfolding expneg_at
expneg_at-is N x = refl

pub expneg_at-cong : {x y : Fraction} (N : ℕ) → nat 0 ≼ x → x ≈ y → expneg_at N x ≈ expneg_at N y
unfolding expneg_at
expneg_at-cong N h e = ⊘-cong (exp_sum-pos h N) (≈-refl (nat 1)) (partial-cong (exp_term-cong e) N)

pub expneg_at-pos : (N : ℕ) (x : Fraction) → nat 0 ≺ expneg_at N x
unfolding expneg_at
expneg_at-pos N x = ⊘-pos (partial (exp_term x) N) (nat-≺ (zero-lt-suc 0))

pub expneg_at-under : {x : Fraction} (N : ℕ) → nat 0 ≼ x → expneg_at N x ≼ nat 1
unfolding expneg_at
expneg_at-under N h =
    ≼_trans (⊘-anti-right (nat-nonneg 1) (nat-≺ (zero-lt-suc 0)) (exp_sum-above h N)) (≈→≼ (⊘-one (nat 1)))

-- ---- the logarithm
pub ln_term-is : (z : Fraction) (j : ℕ) → ln_term z j ≡ power z (2 * j + 1) ⊘ nat (2 * j + 1)
unfolding ln_term
ln_term-is z j = refl

-- the next odd power is the one before times the square
pub power-odd : (z : Fraction) (j : ℕ) → power z (2 * suc j + 1) ≈ power z (2 * j + 1) ⊗ (z ⊗ z)
unfolding power
power-odd z j =
    let q : 2 * suc j + 1 ≡ suc (suc (2 * j + 1)) = omega arith in
    ≈-trans (≈-of-≡ (ap (power z) q)) (⊗-assoc (power z (2 * j + 1)) z z)

pub ln_term-cong : {y z : Fraction} → y ≈ z → (j : ℕ) → ln_term y j ≈ ln_term z j
unfolding ln_term
ln_term-cong e j = ⊘-cong (nat-pos (omega arith)) (power-cong e (2 * j + 1)) (≈-refl (nat (2 * j + 1)))

pub ln_term-nonneg : {z : Fraction} → nat 0 ≼ z → (j : ℕ) → nat 0 ≼ ln_term z j
unfolding ln_term
ln_term-nonneg h j = ⊘-nonneg (nat (2 * j + 1)) (power-nonneg h (2 * j + 1))

pub ln_at-is : (N : ℕ) (z : Fraction) → ln_at N z ≡ nat 2 ⊗ partial (ln_term z) N
unfolding ln_at
ln_at-is N z = refl

pub ln_at-cong : {y z : Fraction} (N : ℕ) → y ≈ z → ln_at N y ≈ ln_at N z
unfolding ln_at
ln_at-cong N e = ⊗-cong (≈-refl (nat 2)) (partial-cong (ln_term-cong e) N)

pub ln_at-nonneg : {z : Fraction} (N : ℕ) → nat 0 ≼ z → nat 0 ≼ ln_at N z
unfolding ln_at
ln_at-nonneg {z} N h = ⊗-nonneg (nat-nonneg 2) (partial-nonneg {t = ln_term z} (ln_term-nonneg h) N)
