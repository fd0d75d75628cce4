-- The rule for the whole power of two in a ratio gives the largest one, and there is only one largest. Assumes nothing.
use Prim.Native.Nat.{ℕ, zero, suc, ◌+◌, ◌*◌, ◌^◌, ◌≤◌}
use mathlib.Core.Path.{◌≡◌, refl, subst}
use mathlib.Core.Logic.{inl, inr}
use mathlib.Core.Bool.{Bool, true, false, xor}
use native.Mathlib.Omega.{arith}
use native.Mathlib.Decide.{dec_le}
use native.Mathlib.Nat.{le_antisymm, le_of_suc-le-suc, eq-or-lt_of_le}
use lib.Dec.{lit<}
use lib.Pow.{pow_mono}
use Rattle.exact.specs.Fraction.{Fraction, nat, parts, ◌⊗◌, ◌≼◌, ◌≺◌, ◌≈◌, leq}
use Rattle.exact.proofs.Fraction.Order.{≼_trans, ≼-not-≺, ≈→≼, ≈→≽, ≈-refl, ≈-sym, ≈-trans, leq-true, leq-false}
use Rattle.exact.proofs.Fraction.Parts.{nat-≼, nat-nonneg, parts-nat, parts-⊗, ≼-parts}
use Rattle.exact.proofs.Fraction.Product.{⊗-mono-left, ⊗-mono-right, ⊗-cong, ⊗-one}
use Rattle.doubles.proofs.Shift.{pow_lt_back}
use Rattle.doubles.specs.Ratio.{pick, largest_up_to, ratio_exponent, IsLargest}

more : {v : Fraction} {i j : ℕ} → nat 0 ≼ v → i ≤ j → v ⊗ nat (2 ^ i) ≼ v ⊗ nat (2 ^ j)
more p h = ⊗-mono-right p (nat-≼ (pow_mono h))

-- ---- one largest
pub largest_unique : {l v : Fraction} {k j : ℕ} → IsLargest l v k → IsLargest l v j → k ≡ j
largest_unique {k = k} {j = j} a b = le_antisymm (b.largest k a.within) (a.largest j b.within)

-- a power that is within the ratio, and the next one is not
pub largest_of_next : {l v : Fraction} {k : ℕ} → nat 0 ≼ v → v ⊗ nat (2 ^ k) ≼ l → l ≺ v ⊗ nat (2 ^ (k + 1)) → IsLargest l v k
largest_of_next {l} {v} {k} p a b = record { within = a; largest = go }
  where
    go : (j : ℕ) → v ⊗ nat (2 ^ j) ≼ l → j ≤ k
    go j h = elim (dec_le j k) [ yes y ↦ y | no n ↦ absurd (≼-not-≺ (≼_trans (more p (omega arith)) h) b) ]

-- ---- the rule
module _ (l v : Fraction) where
  up_to : (n : ℕ) → v ⊗ nat (2 ^ 0) ≼ l → (v ⊗ nat (2 ^ largest_up_to l v n) ≼ l) × ((j : ℕ) → j ≤ n → v ⊗ nat (2 ^ j) ≼ l → j ≤ largest_up_to l v n)
  unfolding largest_up_to
  up_to zero base = (base, λ j h k. h)
  up_to (suc n) base = go (leq (v ⊗ nat (2 ^ suc n)) l) refl (up_to n base)
    where
      go : (t : Bool) → leq (v ⊗ nat (2 ^ suc n)) l ≡ t → (v ⊗ nat (2 ^ largest_up_to l v n) ≼ l) × ((j : ℕ) → j ≤ n → v ⊗ nat (2 ^ j) ≼ l → j ≤ largest_up_to l v n)
          → (v ⊗ nat (2 ^ pick t (suc n) (largest_up_to l v n)) ≼ l) × ((j : ℕ) → j ≤ suc n → v ⊗ nat (2 ^ j) ≼ l → j ≤ pick t (suc n) (largest_up_to l v n))
      go true e ih = (leq-true (v ⊗ nat (2 ^ suc n)) l e, λ j h k. h)
      go false e ih = (
        ih.0,
        λ j h k. elim (eq-or-lt_of_le h) [
          | inl q ↦ absurd (≼-not-≺ (subst (λ (i : ℕ). v ⊗ nat (2 ^ i) ≼ l) q k) (leq-false (v ⊗ nat (2 ^ suc n)) l e))
          | inr q ↦ ih.1 j (omega arith) k
        ],
      )

-- accepted densities: from 1/1024 to 2576, the widest kind's
pub few-doublings : (l v : Fraction) (k : ℕ) → parts false 1 1024 ≼ v → l ≼ nat 2576 → v ⊗ nat (2 ^ k) ≼ l → k ≤ 21
unfolding xor
few-doublings l v k low high h =
    let a : parts false 1 1024 ⊗ nat (2 ^ k) ≼ nat 2576 = ≼_trans (⊗-mono-left (nat-nonneg (2 ^ k)) low) (≼_trans h high) in
    let b : parts false 1 1024 ⊗ nat (2 ^ k) ≈ parts false (1 * 2 ^ k) 1024 = ≈-trans (⊗-cong (≈-refl (parts false 1 1024)) (≈-sym (parts-nat (2 ^ k)))) (parts-⊗ false false 1 1024 (2 ^ k) 1 (lit< tt) (lit< tt)) in
    let c = ≼-parts (1 * 2 ^ k) 1024 2576 1 (lit< tt) (lit< tt) (≼_trans (≈→≽ b) (≼_trans a (≈→≽ (parts-nat 2576)))) in
    le_of_suc-le-suc (pow_lt_back k 22 (omega arith))

pub ratio_largest : (l v : Fraction) → parts false 1 1024 ≼ v → l ≼ nat 2576 → v ≼ l → IsLargest l v (ratio_exponent l v)
unfolding ratio_exponent
ratio_largest l v low high h =
    let r = up_to l v 21 (≼_trans (≈→≼ (⊗-one v)) h) in
    record { within = r.0; largest = λ j k. r.1 j (few-doublings l v j low high k) k }
