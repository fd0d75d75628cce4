-- How far the exponential's terms can rise for x to 2^p: each step by 2^p less the divisor's own power of two, so no term passes 1 for x to
-- 1, nor 2^247 for x to 128. Assumes nothing.
use mathlib.Core.Path.{◌≡◌, subst}
use mathlib.Core.Logic.{⊎_elim}
use mathlib.Core.Bool.{Bool, true, false, ◌&&◌}
use Prim.Native.Nat.{ℕ, zero, suc, ◌+◌, ◌-◌, ◌^◌, ◌≤◌, ◌<◌}
use native.Mathlib.Nat.{eq-or-lt_of_le, le_refl}
use native.Mathlib.Omega.{arith}
use lib.Dec.{T, leb, leb→le}
use lib.Ieee.{size}
use lib.Ieee.Digits.{size-lt, size_reaches}
use Rattle.sheet.proofs.Gaps.{zero_or_pos}

unfoldable pub log : ℕ → ℕ
log n = size n - 1

pub log-least : (n : ℕ) → 0 < n → 2 ^ log n ≤ n
unfolding log
log-least n p = ⊎_elim none (λ q. size_reaches n (size n - 1) (omega arith)) (zero_or_pos (size n))
  where
    none : size n ≡ 0 → 2 ^ (size n - 1) ≤ n
    none z = absurd (let g : n < 2 ^ 0 = subst (λ (i : ℕ). n < 2 ^ i) z (size-lt n) in omega arith)

unfoldable pub rise : ℕ → ℕ → ℕ
rise p zero = 0
rise p (suc k) = rise p k + p - log (suc k)

-- one test over all terms to n
under : ℕ → ℕ → ℕ → Bool
under p t zero = leb (rise p zero) t
under p t (suc k) = under p t k && leb (rise p (suc k)) t

both : (a b : Bool) → T (a && b) → T a × T b
both true true t = (tt, tt)
both false b t = elim t [ ]
both true false t = elim t [ ]

under-each : (p t n : ℕ) → T (under p t n) → (k : ℕ) → k ≤ n → rise p k ≤ t
unfolding under
under-each p t zero h k l = let e : k ≡ 0 = omega arith in rw e (leb→le (rise p 0) t h)
under-each p t (suc n) h k l =
    let q = both (under p t n) (leb (rise p (suc n)) t) h in
    ⊎_elim (λ e. rw e (leb→le (rise p (suc n)) t q.1)) (λ m. under-each p t n q.0 k (omega arith)) (eq-or-lt_of_le l)

under-128 : T (under 7 247 256)
unfolding under rise log size
under-128 = tt

pub rise-1 : (k : ℕ) → k ≤ 256 → rise 0 k ≤ 0
unfolding rise
rise-1 zero h = le_refl 0
rise-1 (suc k) h = let r = rise-1 k (omega arith) in omega arith

pub rise-128 : (k : ℕ) → k ≤ 256 → rise 7 k ≤ 247
rise-128 = under-each 7 247 256 under-128
