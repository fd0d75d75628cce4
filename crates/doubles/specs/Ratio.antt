-- How often the vapour's density can be doubled within the liquid's (document 01, "Logarithm of a density ratio": the largest whole k with
-- 2^k at most the ratio, decided on the exact inputs). Assumes nothing.
use Rattle.std.specs.Prelude.{ℕ, zero, suc, ◌^◌, ◌≤◌, Bool, true, false}
use Rattle.exact.specs.Fraction.{Fraction, nat, ◌⊗◌, ◌≼◌, leq}

abbrev pub pick : Bool → ℕ → ℕ → ℕ
pick true a b = a
pick false a b = b

-- the largest k up to n with vapour * 2^k at most the liquid, and 0 if there is none
unfoldable pub largest_up_to : Fraction → Fraction → ℕ → ℕ
largest_up_to liquid vapour zero = 0
largest_up_to liquid vapour (suc n) = pick (leq (vapour ⊗ nat (2 ^ suc n)) liquid) (suc n) (largest_up_to liquid vapour n)

-- accepted densities of either kind are less than 2^22 apart
unfoldable pub ratio_exponent : Fraction → Fraction → ℕ
ratio_exponent liquid vapour = largest_up_to liquid vapour 21

pub record IsLargest (liquid vapour : Fraction) (k : ℕ) : Type 0 where
  pub within : vapour ⊗ nat (2 ^ k) ≼ liquid
  pub largest : (j : ℕ) → vapour ⊗ nat (2 ^ j) ≼ liquid → j ≤ k
