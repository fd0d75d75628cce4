-- `sheet::multiply::halves` meets its contract. Assumes nothing.
use mathlib.Core.Path.{sym, ◌∙◌}
use Prim.Native.Nat.{◌+◌, ◌*◌, ◌/◌, ◌%◌, ◌^◌}
use native.Mathlib.Nat.{div-add-mod'}
use native.Mathlib.Omega.{arith}
use Rattle.sheet.proofs.Products.{columns, Columns, columns_of, cut-split}
use Rattle.sheet.proofs.multiply.halves.Goals as goal

at : (c : goal.Start) → Columns c.args.am c.args.bm
at c = columns_of c.args.am c.args.bm c.requires.0 c.requires.1

pub overflow_mul-low : goal.overflow_mul-low
overflow_mul-low c = omega (arith, at c)

pub overflow_mul-mid : goal.overflow_mul-mid
overflow_mul-mid c = omega (arith, at c)

pub overflow_mul-mid-2 : goal.overflow_mul-mid-2
overflow_mul-mid-2 c = omega (arith, at c)

pub overflow_add-mid : goal.overflow_add-mid
overflow_add-mid c = omega (arith, at c)

pub overflow_add-mid-2 : goal.overflow_add-mid-2
overflow_add-mid-2 c = omega (arith, at c)

pub overflow_mul-result : goal.overflow_mul-result
overflow_mul-result c = omega (arith, at c)

pub overflow_add-result : goal.overflow_add-result
overflow_add-result c = omega (arith, at c)

pub returns : goal.returns
returns c =
    let a = c.args.am in
    let b = c.args.bm in
    let P = 2 ^ 26 in
    let ah = a / P in
    let al = a % P in
    let bh = b / P in
    let bl = b % P in
    let mid = ah * bl + al * bh + al * bl / P in
    cut-split 52 (ah * bh + mid / P) (mid % P * P + al * bl % P) (a * b) 0
    (sym (λ i. div-add-mod' a P i * div-add-mod' b P i) ∙ columns P ah al bh bl)
    (omega arith)
