-- `sheet::multiply::word` meets its contract. Assumes nothing.
use mathlib.Core.Path.{sym}
use Prim.Native.Nat.{◌*◌, ◌/◌, ◌%◌, ◌^◌}
use native.Mathlib.Nat.{div-add-mod', mod-lt}
use native.Mathlib.Omega.{arith}
use lib.Pow.{pow_pos}
use Rattle.sheet.proofs.Products.{mul_lt_pow, cut-split}
use Rattle.sheet.proofs.multiply.word.Goals as goal

pub overflow_mul-m : goal.overflow_mul-m
overflow_mul-m c = omega (arith, mul_lt_pow 32 32 c.requires.0 c.requires.1)

pub returns : goal.returns
returns c =
    let m = c.args.am * c.args.bm in
    cut-split 31 (m / 2 ^ 31) (m % 2 ^ 31) m 0 (sym (div-add-mod' m (2 ^ 31))) (mod-lt m (pow_pos 31))
