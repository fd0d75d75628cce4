-- Inclusion: the exponential of minus x at every level from 256 on lies in the bracket of the step rules, for x from 0 to 128.
-- Assumes nothing.
use Prim.Native.Nat.{ℕ, zero, suc, ◌≤◌}
use mathlib.Core.Bool.{false}
use native.Mathlib.Omega.{arith}
use native.Mathlib.Nat.{zero-lt-suc}
use Rattle.exact.specs.Fraction.{Fraction, nat, ◌⊕◌, ◌⊗◌, ◌⊘◌, ◌≼◌}
use Rattle.exact.proofs.Fraction.Order.{≼_refl, ≼_trans, ≺-≼-trans}
use Rattle.exact.proofs.Fraction.Sum.{≼-⊕-right}
use Rattle.exact.proofs.Fraction.Product.{⊗-nonneg}
use Rattle.exact.proofs.Fraction.Quotient.{⊘-nonneg}
use Rattle.exact.proofs.Fraction.Parts.{nat-pos, nat-nonneg}
use Rattle.exact.specs.Series.{partial, expneg_at, exp_term as exact_term}
use Rattle.exact.proofs.Tail.{exp_tail_256}
use Rattle.bracket.specs.Span.{Span, Ordered, Each, Sign, over, whole, ◌∈◌}
use Rattle.bracket.proofs.Corners.{over-ordered}
use Rattle.bracket.proofs.Within.{in_ordered, in_point}
use Rattle.sheet.specs.Number.{value}
use Rattle.bracket.specs.Rules.{ends, addlast, times}
use Rattle.bracket.proofs.Inclusion.{plus-in, times-in, divided-in, given_in, combined-ordered, given_ordered}
use Rattle.bracket.proofs.Kept.{rounded-sign}
use Rattle.measure.proofs.Lift.{over-both}
use Rattle.series.proofs.Short.{low-one}
use Rattle.series.specs.Exponential.{exp_term, exp_sum, exp_total, expneg}
use Rattle.series.proofs.Between.{between}

module _ (v : ℕ) {X : Span} {x : Fraction} (h : x ∈ X) where
  pub exp_term-in : (k : ℕ) → exact_term x k ∈ ends (exp_term (suc v) X k)
  unfolding exp_term exact_term
  exp_term-in zero = given_in v (nat 1)
  exp_term-in (suc k) = divided-in v (nat-pos (zero-lt-suc k)) (times-in v (exp_term-in k) h) (in_point (nat (suc k)))

  pub exp_sum-in : (k : ℕ) → partial (exact_term x) k ∈ ends (exp_sum (suc v) X k)
  unfolding exp_sum partial
  exp_sum-in zero = exp_term-in zero
  exp_sum-in (suc k) = plus-in v (exp_sum-in k) (exp_term-in (suc k))

  pub exp_total-in : (N : ℕ) → 256 ≤ N → nat 0 ≼ X.low → X.high ≼ nat 128 → partial (exact_term x) N ∈ ends (exp_total (suc v) X)
  unfolding exp_total
  exp_total-in N n l u =
      let tail = exp_tail_256 N (≼_trans l h.above) (≼_trans h.under u) n in
      between v (exp_sum (suc v) X 256) (exp_term (suc v) X 256) (exp_sum-in 256) (exp_term-in 256) tail

-- a product of what is at or above zero is
pub times_above : (v : ℕ) {A B : Span} → Each (Sign false) A → Each (Sign false) B → Each (Sign false) (ends (times (suc v) A B))
times_above v {A} {B} a b =
    rounded-sign false v (over ◌⊗◌ A B) (over-ordered ◌⊗◌ A B) (over-both {R = Sign false} ◌⊗◌ (λ x y c d. ⊗-nonneg c d) a b)

-- where X is at or above zero, so is every term, and the sum is at least 1
module _ (v : ℕ) {X : Span} (o : Ordered X) (l : nat 0 ≼ X.low) where
  pub exp_term-above : (k : ℕ) → Each (Sign false) (ends (exp_term (suc v) X k))
  unfolding exp_term
  exp_term-above zero = rounded-sign false v (whole 1) (record { order = ≼_refl (nat 1) }) (record { low = nat-nonneg 1; high = nat-nonneg 1 })
  exp_term-above (suc k) =
      let T = ends (exp_term (suc v) X k) in
      let P = ends (times (suc v) T X) in
      let p : Each (Sign false) P = times_above v (exp_term-above k) (record { low = l; high = ≼_trans l o.order }) in
      rounded-sign false v (over ◌⊘◌ P (whole (suc k))) (over-ordered ◌⊘◌ P (whole (suc k)))
      (over-both {Q = λ (y : Fraction). Unit {0}} {R = Sign false} ◌⊘◌ (λ x y a b. ⊘-nonneg y a) p (record { low = tt; high = tt }))

  pub exp_term-ordered : (k : ℕ) → Ordered (ends (exp_term (suc v) X k))
  unfolding exp_term
  exp_term-ordered zero = given_ordered v (nat 1)
  exp_term-ordered (suc k) = combined-ordered v ◌⊘◌ (ends (times (suc v) (ends (exp_term (suc v) X k)) X)) (whole (suc k))

  pub exp_sum-ordered : (k : ℕ) → Ordered (ends (exp_sum (suc v) X k))
  unfolding exp_sum exp_term
  exp_sum-ordered zero = given_ordered v (nat 1)
  exp_sum-ordered (suc k) = combined-ordered v ◌⊕◌ (ends (exp_sum (suc v) X k)) (ends (exp_term (suc v) X (suc k)))

  pub exp_sum-least : (k : ℕ) → nat 1 ≼ value (exp_sum (suc v) X k).lo
  unfolding exp_sum exp_term
  exp_sum-least zero = low-one v (whole 1) (≼_refl (nat 1))
  exp_sum-least (suc k) =
      let S = ends (exp_sum (suc v) X k) in
      let T = ends (exp_term (suc v) X (suc k)) in
      let r = exp_sum-least k in
      low-one v (over ◌⊕◌ S T)
      (over-both {P = λ (x : Fraction). nat 1 ≼ x} {Q = Sign false} {R = λ (x : Fraction). nat 1 ≼ x} ◌⊕◌
      (λ x y a b. ≼_trans a (≼-⊕-right b)) (record { low = r; high = ≼_trans r (exp_sum-ordered k).order }) (exp_term-above (suc k))).low

  pub exp_total-least : nat 1 ≼ value (exp_total (suc v) X).lo
  unfolding exp_total addlast
  exp_total-least = exp_sum-least 256

-- the exponential at every level from 256 on
pub expneg-in : (v : ℕ) {X : Span} {x : Fraction} (N : ℕ) → 256 ≤ N → nat 0 ≼ X.low → X.high ≼ nat 128 → x ∈ X → expneg_at N x ∈ ends (expneg (suc v) X)
unfolding expneg expneg_at
expneg-in v N n l u h =
    divided-in v (≺-≼-trans (nat-pos (omega arith)) (exp_total-least v (in_ordered h) l)) (in_point (nat 1)) (exp_total-in v h N n l u)
