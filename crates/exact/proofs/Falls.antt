-- The exponential of minus x at a level falls as x grows. Assumes nothing.
use Prim.Native.Nat.{ℕ, zero, suc}
use Rattle.exact.specs.Fraction.{Fraction, nat, ◌≼◌}
use Rattle.exact.proofs.Fraction.Order.{≼_refl}
use Rattle.exact.proofs.Fraction.Sum.{⊕-mono}
use Rattle.exact.proofs.Fraction.Product.{⊗-mono}
use Rattle.exact.proofs.Fraction.Quotient.{⊘-mono-left, ⊘-anti-right}
use Rattle.exact.proofs.Fraction.Parts.{nat-nonneg}
use Rattle.exact.specs.Series.{partial, expneg_at, exp_term}
use Rattle.exact.proofs.Series.{exp_term-nonneg, exp_sum-pos}

module _ {x y : Fraction} (s : nat 0 ≼ x) (h : x ≼ y) where
  exp_term-mono : (k : ℕ) → exp_term x k ≼ exp_term y k
  unfolding exp_term
  exp_term-mono zero = ≼_refl (nat 1)
  exp_term-mono (suc k) = ⊘-mono-left (nat (suc k)) (⊗-mono (exp_term-nonneg s k) s (exp_term-mono k) h)

  exp_sum-mono : (n : ℕ) → partial (exp_term x) n ≼ partial (exp_term y) n
  unfolding partial
  exp_sum-mono zero = exp_term-mono zero
  exp_sum-mono (suc n) = ⊕-mono (exp_sum-mono n) (exp_term-mono (suc n))

  pub expneg_at-anti : (N : ℕ) → expneg_at N y ≼ expneg_at N x
  unfolding expneg_at
  expneg_at-anti N = ⊘-anti-right (nat-nonneg 1) (exp_sum-pos s N) (exp_sum-mono N)
