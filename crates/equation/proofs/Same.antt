-- The sums look at the terms that a table is read as, and at nothing else of it: two tables of any kinds that read the same give the same.
-- Assumes nothing.
use Prim.Native.Nat.{ℕ, zero, suc, ◌<◌}
use mathlib.Core.Path.{◌≡◌, refl, ap, ap₂, ◌∙◌}
use mathlib.Core.List.{List}
use native.Mathlib.Omega.{arith}
use Rattle.exact.specs.Fraction.{Fraction}
use Rattle.term.specs.declared.Term.{Term}
use Rattle.term.specs.Packed.{term_at, count_terms}
use Rattle.bracket.specs.declared.Bracket.{Bracket}
use Rattle.equation.specs.Rules.{delta, tau, addends, plus_each, sums_first, sums}
use Rattle.equation.specs.Itself.{delta_at, tau_at, sums_first_at, sums_at}

module _ (a b : ℕ → Term) where
  same_first : (w : ℕ) (δ τ : Bracket) (n : ℕ) → ((k : ℕ) → k < n → a k ≡ b k) → sums_first w a δ τ n ≡ sums_first w b δ τ n
  unfolding sums_first
  same_first w δ τ zero h = refl
  same_first w δ τ (suc n) h =
      ap₂ (plus_each w) (same_first w δ τ n (λ k l. h k (omega arith))) (ap (λ (t : Term). addends w t δ τ) (h n (omega arith)))

  same-first_at : (N : ℕ) (δ τ : Fraction) (n : ℕ) → ((k : ℕ) → k < n → a k ≡ b k) → sums_first_at N a δ τ n ≡ sums_first_at N b δ τ n
  unfolding sums_first_at
  same-first_at N δ τ zero h = refl
  same-first_at N δ τ (suc n) h = rw (same-first_at N δ τ n (λ k l. h k (omega arith)), h n (omega arith))

module _ (w i j : ℕ) (x y : List ℕ) (T rho : Fraction) (count : count_terms i x ≡ count_terms j y) (same : (k : ℕ) → k < count_terms j y → term_at i x k ≡ term_at j y k) where
  pub same-sums : sums w i x T rho ≡ sums w j y T rho
  unfolding sums
  same-sums =
      ap (sums_first w (term_at i x) (delta w rho) (tau w T)) count ∙ same_first (term_at i x) (term_at j y) w (delta w rho) (tau w T) (count_terms j y) same

  pub same-sums_at : sums_at w i x T rho ≡ sums_at w j y T rho
  unfolding sums_at
  same-sums_at =
      ap (sums_first_at w (term_at i x) (delta_at rho) (tau_at T)) count ∙ same-first_at (term_at i x) (term_at j y) w (delta_at rho) (tau_at T) (count_terms j y) same
