-- How long a row is: some bytes, and at most 26. Assumes nothing.
use Prim.Native.Nat.{ℕ, ◌≤◌, ◌<◌}
use native.Mathlib.Omega.{arith}
use mathlib.Core.Path.{◌≡◌, refl, ap}
use mathlib.Core.Bool.{Bool, true, false}
use mathlib.Core.List.{List, [], ◌++◌}
use lib.ListN.{length, length-append}
use lib.Dec.{ltb}
use Rattle.row.specs.declared.Row.{Row}
use Rattle.row.specs.Row.{small, spaced, front, tail, row_text}
use Rattle.row.proofs.Back.{digits-length}

small-length : (n : ℕ) → length (spaced n) ≤ 3
unfolding spaced small
small-length n = by (ltb n 10) refl
  where
    by : (b : Bool) → ltb n 10 ≡ b → length (spaced n) ≤ 3
    by true e = rw e (omega arith)
    by false e = rw e (omega arith)

front_length : (b : Bool) → length (front b) ≤ 3
unfolding front
front_length true = omega arith
front_length false = omega arith

tail-length : (n : ℕ) → length (tail n) ≤ 4
unfolding tail
tail-length n = by (ltb n 6) refl
  where
    by : (b : Bool) → ltb n 6 ≡ b → length (tail n) ≤ 4
    by true e = rw e (omega arith)
    by false e = rw e (omega arith)

pub row_length : (row : Row) → length (row_text row) ≤ 26
unfolding row_text
row_length row =
    simp length-append
    (omega (arith, small-length row.c, small-length row.d, small-length row.t, front_length row.negative, digits-length 10 row.ten, tail-length row.power))

-- a row has bytes
pub row_some : (row : Row) (rest : List ℕ) → [] ≡ row_text row ++ rest → ⊥
unfolding row_text
row_some row rest e =
    let n : 0 ≡ length (row_text row ++ rest) = ap length e in
    omega (arith, simp length-append at n, digits-length 10 row.ten)

pub row_pos : (row : Row) → 0 < length (row_text row)
unfolding row_text
row_pos row = simp length-append (omega (arith, digits-length 10 row.ten))
