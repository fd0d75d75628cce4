-- `sheet::place::fitted` meets its contract. Assumes nothing.
use Prim.Native.Nat.{suc, ◌^◌, ◌≤◌}
use native.Mathlib.Omega.{arith}
use Rattle.sheet.proofs.Live.{full-shl}
use Rattle.sheet.proofs.place.fitted.Goals as goal

pub returns-then-x-full : goal.returns-then-x-full
returns-then-x-full c =
    (record { low = c.requires.1; high = omega (arith, c.if-x-full.true, full-shl c.requires.0) }, omega arith, λ _ _ p. p)

pub returns-else-x-full : goal.returns-else-x-full
returns-else-x-full c =
    let x = c.args.x in
    let l : 2 ^ suc c.args.v ≤ x.m = omega (arith, c.if-x-full.false, full-shl c.requires.0) in
    let d = c.cut.ensures.digits in
    (record { low = omega (arith, l); high = omega (arith, c.requires.2) }, omega (arith, c.cut.ensures.place), c.cut.ensures.keeps)
