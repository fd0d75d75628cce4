-- `sheet::divide::parted` meets its contract. Assumes nothing.
use Prim.Native.Nat.{◌+◌, ◌*◌, ◌/◌, ◌≤◌, ◌<◌}
use native.Mathlib.Nat.{div-mul-le_self, div-le_self, lt-div-mul-add}
use native.Mathlib.Omega.{arith}
use Rattle.sheet.proofs.divide.parted.Goals as goal

pub overflow_mul-result : goal.overflow_mul-result
overflow_mul-result c = omega (arith, div-mul-le_self c.args.n c.args.den)

pub overflow_sub-result : goal.overflow_sub-result
overflow_sub-result c = div-mul-le_self c.args.n c.args.den

pub returns : goal.returns
returns c =
    let n = c.args.n in
    let den = c.args.den in
    let l : n / den * den ≤ n = div-mul-le_self n den in
    let h : n < n / den * den + den = lt-div-mul-add c.requires in
    record { quotes = record { whole = omega arith; left = omega arith }; few = div-le_self n den }
