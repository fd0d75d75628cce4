-- The exponential looks at the numbers of a span and not at how they are written. Assumes nothing.
use Prim.Native.Nat.{ℕ, zero, suc}
use mathlib.Core.Path.{◌≡◌, refl, ap, ap₂, ◌∙◌}
use Rattle.bracket.specs.declared.Bracket.{Bracket}
use Rattle.bracket.specs.Span.{Span, whole, ◌≃◌}
use Rattle.bracket.specs.Rules.{ends, divided, times, plus, addlast}
use Rattle.bracket.proofs.Same.{≃-refl, times-≃}
use Rattle.series.specs.Exponential.{exp_term, exp_sum, exp_total, expneg}

module _ (v : ℕ) {A B : Span} (e : A ≃ B) where
  exp_term-≃ : (k : ℕ) → exp_term (suc v) A k ≡ exp_term (suc v) B k
  unfolding exp_term
  exp_term-≃ zero = refl
  exp_term-≃ (suc k) =
      ap (λ (b : Bracket). divided (suc v) (ends b) (whole (suc k)))
      (ap (λ (b : Bracket). times (suc v) (ends b) A) (exp_term-≃ k) ∙ times-≃ v (≃-refl (ends (exp_term (suc v) B k))) e)

  exp_sum-≃ : (k : ℕ) → exp_sum (suc v) A k ≡ exp_sum (suc v) B k
  unfolding exp_sum
  exp_sum-≃ zero = exp_term-≃ zero
  exp_sum-≃ (suc k) = ap₂ (λ (s t : Bracket). plus (suc v) (ends s) (ends t)) (exp_sum-≃ k) (exp_term-≃ (suc k))

  pub expneg-≃ : expneg (suc v) A ≡ expneg (suc v) B
  unfolding expneg exp_total
  expneg-≃ = ap (λ (b : Bracket). divided (suc v) (whole 1) (ends b)) (ap₂ (addlast (suc v)) (exp_sum-≃ 256) (exp_term-≃ 256))
