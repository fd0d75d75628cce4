-- Powers, partial sums, and the two series of the equation itself at a level N, on exact fractions (document 01, "The equation itself"):
-- nothing here is rounded. Assumes nothing.
use Rattle.std.specs.Prelude.{ℕ, zero, suc, ◌+◌, ◌*◌}
use Rattle.exact.specs.Fraction.{Fraction, nat, ◌⊕◌, ◌⊗◌, ◌⊘◌}

-- x to the power n
unfoldable pub power : Fraction → ℕ → Fraction
power x zero = nat 1
power x (suc n) = power x n ⊗ x

-- the sum of the terms 0 to n, left to right
unfoldable pub partial : (ℕ → Fraction) → ℕ → Fraction
partial t zero = t 0
partial t (suc n) = partial t n ⊕ t (suc n)

-- the exponential's term x^k / k!, each made of the one before
unfoldable pub exp_term : Fraction → ℕ → Fraction
exp_term x zero = nat 1
exp_term x (suc k) = exp_term x k ⊗ x ⊘ nat (suc k)

-- the exponential of minus x at level N: one over the sum of the first N + 1 terms
unfoldable pub expneg_at : ℕ → Fraction → Fraction
expneg_at N x = nat 1 ⊘ partial (exp_term x) N

-- the logarithm's quotient z^(2j+1) / (2j+1)
unfoldable pub ln_term : Fraction → ℕ → Fraction
ln_term z j = power z (2 * j + 1) ⊘ nat (2 * j + 1)

-- the logarithm of (1 + z) / (1 - z) at level N: twice the sum of the quotients 0 to N
unfoldable pub ln_at : ℕ → Fraction → Fraction
ln_at N z = nat 2 ⊗ partial (ln_term z) N
