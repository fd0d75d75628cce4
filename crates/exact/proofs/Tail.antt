-- The tails of the two series: from a level on all later terms together come to no more than the last one, so the partial sum at every
-- later level lies between the sum there and that sum with its last term once more. Assumes nothing.
use Prim.Native.Nat.{ℕ, suc, ◌+◌, ◌*◌, ◌≤◌}
use mathlib.Core.Bool.{false}
use native.Mathlib.Omega.{arith}
use native.Mathlib.Nat.{zero-lt-suc}
use native.Mathlib.Decide.{le_ind}
use Rattle.exact.specs.Fraction.{Fraction, nat, parts, leq, ◌⊕◌, ◌⊗◌, ◌⊘◌, ◌≼◌}
use Rattle.exact.proofs.Fraction.Order.{≼_refl, ≼_trans, ≈→≼, ≈→≽, ≈-sym, ≼-≈-trans, ≈-≼-trans, ≼-by}
use Rattle.exact.proofs.Fraction.Sum.{⊕-assoc, ⊕-mono, ⊕-cong, ⊕-mono-right, ⊕-nonneg, ≼-⊕-right}
use Rattle.exact.proofs.Fraction.Product.{⊗-⊕, ⊗-mono, ⊗-mono-right, ⊗-one}
use Rattle.exact.proofs.Fraction.Quotient.{⊕-⊘, ⊘-≼, ⊘-mono-left, ⊘-anti-right}
use Rattle.exact.proofs.Fraction.Parts.{nat-≼, nat-⊕, nat-pos, nat-nonneg}
use Rattle.exact.specs.Ends.{Within}
use Rattle.exact.specs.Series.{power, partial, exp_term, expneg_at, ln_term, ln_at}
use Rattle.exact.proofs.Power.{power-nonneg}
use Rattle.exact.proofs.Series.{partial-rises, exp_term-nonneg, exp_sum-pos, ln_term-nonneg, power-odd}

-- ---- any term that halves from the level K on
module _ (t : ℕ → Fraction) (K : ℕ) (nonneg : (k : ℕ) → nat 0 ≼ t k) (half : (k : ℕ) → K ≤ k → t (suc k) ⊕ t (suc k) ≼ t k) where
  with_last : (N : ℕ) → K ≤ N → partial t N ⊕ t N ≼ partial t K ⊕ t K
  unfolding partial
  with_last =
      le_ind (λ (n : ℕ). partial t n ⊕ t n ≼ partial t K ⊕ t K) (≼_refl (partial t K ⊕ t K))
      (λ m l r. ≼_trans (≈→≼ (⊕-assoc (partial t m) (t (suc m)) (t (suc m)))) (≼_trans (⊕-mono-right (partial t m) (half m l)) r))

  pub tail_within : (N : ℕ) → K ≤ N → Within (partial t K) (partial t K ⊕ t K) (partial t N)
  tail_within N k =
      record { above = partial-rises {t = t} nonneg K N k; under = ≼_trans (≼-⊕-right (nonneg N)) (with_last N k) }

-- ---- the exponential
pub exp_term-half : {x : Fraction} (M k : ℕ) → nat 0 ≼ x → x ≼ nat M → M + M ≤ suc k → exp_term x (suc k) ⊕ exp_term x (suc k) ≼ exp_term x k
unfolding exp_term
exp_term-half {x} M k s h l =
    let T = exp_term x k in
    let u = T ⊗ x in
    ≈-≼-trans (≈-sym (⊕-⊘ u u (nat (suc k))))
    (⊘-≼ (nat-pos (zero-lt-suc k))
    (≈-≼-trans (≈-sym (⊗-⊕ T x x))
    (⊗-mono-right (exp_term-nonneg s k) (≼_trans (⊕-mono h h) (≼_trans (≈→≽ (nat-⊕ M M)) (nat-≼ l))))))

pub exp_tail : {x : Fraction} (M K N : ℕ) → nat 0 ≼ x → x ≼ nat M → M + M ≤ suc K → K ≤ N →
    Within (partial (exp_term x) K) (partial (exp_term x) K ⊕ exp_term x K) (partial (exp_term x) N)
exp_tail {x} M K N s h l k =
    tail_within (exp_term x) K (exp_term-nonneg s) (λ m r. exp_term-half M m s h (omega arith)) N k

-- ---- the logarithm
third-square : parts false 1 3 ⊗ parts false 1 3 ⊕ parts false 1 3 ⊗ parts false 1 3 ≼ nat 1
unfolding leq parts ◌⊕◌ ◌⊗◌ nat
third-square = ≼-by (parts false 1 3 ⊗ parts false 1 3 ⊕ parts false 1 3 ⊗ parts false 1 3) (nat 1) tt

pub ln_term-half : {z : Fraction} → nat 0 ≼ z → z ≼ parts false 1 3 → (j : ℕ) → ln_term z (suc j) ⊕ ln_term z (suc j) ≼ ln_term z j
unfolding ln_term
ln_term-half {z} s h j =
    let q = power z (2 * suc j + 1) in
    let r = power z (2 * j + 1) in
    let w : z ⊗ z ⊕ z ⊗ z ≼ nat 1 = ≼_trans (⊕-mono (⊗-mono s s h h) (⊗-mono s s h h)) third-square in
    let d : q ⊕ q ≼ r =
    ≈-≼-trans (⊕-cong (power-odd z j) (power-odd z j))
    (≈-≼-trans (≈-sym (⊗-⊕ r (z ⊗ z) (z ⊗ z))) (≼-≈-trans (⊗-mono-right (power-nonneg s (2 * j + 1)) w) (⊗-one r))) in
    let g : nat 0 ≼ q ⊕ q = ⊕-nonneg (power-nonneg s (2 * suc j + 1)) (power-nonneg s (2 * suc j + 1)) in
    ≈-≼-trans (≈-sym (⊕-⊘ q q (nat (2 * suc j + 1))))
    (≼_trans (⊘-anti-right g (nat-pos (omega arith)) (nat-≼ (omega arith))) (⊘-mono-left (nat (2 * j + 1)) d))

pub ln_tail : {z : Fraction} (K N : ℕ) → nat 0 ≼ z → z ≼ parts false 1 3 → K ≤ N →
    Within (partial (ln_term z) K) (partial (ln_term z) K ⊕ ln_term z K) (partial (ln_term z) N)
ln_tail {z} K N s h k = tail_within (ln_term z) K (ln_term-nonneg s) (λ m r. ln_term-half s h m) N k

-- ---- at the levels of document 01: 256 for the exponential of x to 128, 20 for the logarithm
pub exp_tail_256 : {x : Fraction} (N : ℕ) → nat 0 ≼ x → x ≼ nat 128 → 256 ≤ N →
    Within (partial (exp_term x) 256) (partial (exp_term x) 256 ⊕ exp_term x 256) (partial (exp_term x) N)
exp_tail_256 N s h k = exp_tail 128 256 N s h (omega arith) k

pub ln_tail_20 : {z : Fraction} (N : ℕ) → nat 0 ≼ z → z ≼ parts false 1 3 → 20 ≤ N →
    Within (partial (ln_term z) 20) (partial (ln_term z) 20 ⊕ ln_term z 20) (partial (ln_term z) N)
ln_tail_20 N s h k = ln_tail 20 N s h k

-- the readings at a level from them
pub expneg_at-within : {x : Fraction} (M K N : ℕ) → nat 0 ≼ x → x ≼ nat M → M + M ≤ suc K → K ≤ N →
    Within (nat 1 ⊘ (partial (exp_term x) K ⊕ exp_term x K)) (nat 1 ⊘ partial (exp_term x) K) (expneg_at N x)
unfolding expneg_at
expneg_at-within M K N s h l k =
    let w = exp_tail M K N s h l k in
    record { above = ⊘-anti-right (nat-nonneg 1) (exp_sum-pos s N) w.under; under = ⊘-anti-right (nat-nonneg 1) (exp_sum-pos s K) w.above }

pub ln_at-within : {z : Fraction} (K N : ℕ) → nat 0 ≼ z → z ≼ parts false 1 3 → K ≤ N →
    Within (nat 2 ⊗ partial (ln_term z) K) (nat 2 ⊗ (partial (ln_term z) K ⊕ ln_term z K)) (ln_at N z)
unfolding ln_at
ln_at-within K N s h k =
    let w = ln_tail K N s h k in
    record { above = ⊗-mono-right (nat-nonneg 2) w.above; under = ⊗-mono-right (nat-nonneg 2) w.under }
