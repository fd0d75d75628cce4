-- Numbers of few digits among all numbers: no m · 2^c with at most suc v digits lies strictly between two neighbours M · 2^k and
-- (M + 1) · 2^k of suc v digits. Assumes nothing.
use mathlib.Core.Path.{◌≡◌, refl, sym, ap, ◌∙◌}
use mathlib.Core.Logic.{◌⊎◌, inl, inr, ⊎_elim}
use Prim.Native.Nat.{ℕ, zero, suc, ◌+◌, ◌*◌, ◌^◌, ◌≤◌, ◌<◌}
use native.Mathlib.Nat.{le_dest, lt_of_not-le, mul-le-mul_right, lt_of_mul-lt-mul_right, le_of_lt, pow-succ'}
use native.Mathlib.Decide.{dec_le}
use native.Mathlib.Omega.{arith}
use lib.Pow.{pow-add, pow_pos}

pub le_or_lt : (a b : ℕ) → (a ≤ b) ⊎ (b < a)
le_or_lt a b = go (dec_le a b)
  where
    go : Dec (a ≤ b) → (a ≤ b) ⊎ (b < a)
    go (yes h) = inl h
    go (no h) = inr (lt_of_not-le h)

pub zero_or_pos : (a : ℕ) → (a ≡ 0) ⊎ (0 < a)
zero_or_pos zero = inl refl
zero_or_pos (suc a) = inr (omega arith)

-- 2^b is 2^a times a power
pub pow_le_split : (a b : ℕ) → a ≤ b → (j : ℕ) × (2 ^ b ≡ 2 ^ a * 2 ^ j)
pow_le_split a b h = let d = le_dest h in (d.0, ap (λ (x : ℕ). 2 ^ x) (sym d.1) ∙ pow-add 2 a d.0)

gap-above : (M p m q r : ℕ) → 0 < p → r ≡ p * q → M * p < m * r → (M + 1) * p ≤ m * r
gap-above M p m q r hp e h =
    let f : M * p < m * q * p = omega (arith, ap (λ (x : ℕ). m * x) e) in
    let g : M < m * q = lt_of_mul-lt-mul_right p f in
    let l : suc M * p ≤ m * q * p = mul-le-mul_right p g in
    omega (arith, ap (λ (x : ℕ). m * x) e)

gap_below : (M p m q r W : ℕ) → W ≤ M → m < W + W → p ≡ 2 * r * q → 0 < q → M * p < m * r → ⊥
gap_below M p m q r W f s e hq h =
    let a : m * r ≤ (W + W) * r = mul-le-mul_right r (le_of_lt s) in
    let b : W * r ≤ M * r = mul-le-mul_right r f in
    let c : 1 * (M * r) ≤ q * (M * r) = mul-le-mul_right (M * r) hq in
    omega (arith, ap (λ (x : ℕ). M * x) e)

-- the numbers of suc v digits next above M · 2^k are not below (M + 1) · 2^k
pub gap : (v M k m c : ℕ) → 2 ^ v ≤ M → m < 2 ^ suc v → M * 2 ^ k < m * 2 ^ c → (M + 1) * 2 ^ k ≤ m * 2 ^ c
gap v M k m c f s h = ⊎_elim above below (le_or_lt k c)
  where
    above : k ≤ c → (M + 1) * 2 ^ k ≤ m * 2 ^ c
    above l = let d = pow_le_split k c l in gap-above M (2 ^ k) m (2 ^ d.0) (2 ^ c) (pow_pos k) d.1 h

    below : c < k → (M + 1) * 2 ^ k ≤ m * 2 ^ c
    below l =
        let d = pow_le_split (suc c) k l in
        absurd (gap_below M (2 ^ k) m (2 ^ d.0) (2 ^ c) (2 ^ v) f (omega arith) (d.1 ∙ ap (λ (x : ℕ). x * 2 ^ d.0) (pow-succ' 2 c)) (pow_pos d.0) h)
