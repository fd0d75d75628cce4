-- Powers of two. Assumes nothing.
use Prim.Native.Nat.{ℕ, ◌+◌, ◌*◌, ◌^◌, ◌≤◌, ◌<◌}
use mathlib.Core.Path.{◌≡◌}
use native.Mathlib.Omega.{arith}
use native.Mathlib.Nat.{lt_of_not-le, lt_irrefl, lt_of_lt_of_le}
use lib.Pow.{pow-add, pow_mono}

pub pow_lt_back : (i p : ℕ) → 2 ^ i < 2 ^ p → i < p
pow_lt_back i p h = lt_of_not-le (λ (g : p ≤ i). lt_irrefl (2 ^ i) (lt_of_lt_of_le h (pow_mono g)))

pub pow_one : (e : ℕ) → 2 ^ (e + 1) ≡ 2 * 2 ^ e
pow_one e = rw (pow-add 2 e 1) (omega arith)
