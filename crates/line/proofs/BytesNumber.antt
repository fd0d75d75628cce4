-- The number that bytes write, one byte more at a time, and the room that it takes. Assumes nothing.
use Prim.Native.Nat.{ℕ, ◌+◌, ◌*◌, ◌^◌, ◌<◌}
use native.Mathlib.Nat.{pow-suc, pow-le-pow_right}
use native.Mathlib.Numerals.{add-one}
use native.Mathlib.Omega.{arith}
use mathlib.Core.Path.{◌≡◌, refl}
use mathlib.Core.List.{List}
use lib.ListN.{get_or}
use Rattle.line.specs.Proposal.{bytes_number}

pub bytes_none : (bytes : List ℕ) (at : ℕ) → bytes_number bytes at 0 ≡ 0
unfolding bytes_number
bytes_none bytes at = refl

pub bytes_next : (bytes : List ℕ) (at k : ℕ) → bytes_number bytes at (k + 1) ≡ bytes_number bytes at k * 256 + get_or bytes (at + k) 0
unfolding bytes_number
bytes_next bytes at k = rw (add-one k)

-- one byte more than k bytes write
pub next-below : {n b : ℕ} (k : ℕ) → n < 256 ^ k → b < 256 → n * 256 + b < 256 ^ (k + 1)
next-below k h l = rw (add-one k, pow-suc) (omega arith)

-- eight bytes fit a u64
pub next_fits : {n b : ℕ} (k : ℕ) → n < 256 ^ k → b < 256 → k < 8 → n * 256 + b < 18446744073709551616
next_fits k h l less = omega (arith, next-below k h l, pow-le-pow_right {n = 256} (omega arith) {i = k + 1} {j = 8} (omega arith))
