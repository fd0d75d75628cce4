-- `sheet::divide::eleven_more` meets its contract. Assumes nothing.
use mathlib.Core.Path.{◌≡◌}
use Prim.Native.Nat.{◌+◌, ◌*◌, ◌/◌, ◌%◌, ◌<◌}
use native.Mathlib.Nat.{div-lt_iff_lt-mul, div-add-mod', mod-lt}
use native.Mathlib.Omega.{arith}
use Rattle.sheet.proofs.divide.eleven_more.Goals as goal

pub overflow_add-result : goal.overflow_add-result
overflow_add-result c =
    let k = c.args in
    let h = c.requires in
    let l : k.x.rest * 2048 < 2048 * k.den = let r = h.1 in omega arith in
    let d : 0 < k.den = omega (arith, h.1) in
    let q : k.x.rest * 2048 / k.den < 2048 = (div-lt_iff_lt-mul d).1 l in
    omega (arith, h.0)

pub returns : goal.returns
returns c =
    let k = c.args in
    let n = k.x.rest * 2048 in
    let q : n / k.den * k.den + n % k.den ≡ n = div-add-mod' n k.den in
    record { whole = omega arith; left = mod-lt n (omega (arith, c.requires.1)) }
