-- `words::usable` meets its contract: a number that passes the tests is in range. Assumes nothing.
use mathlib.Core.Path.{◌≡◌}
use mathlib.Core.Logic.{inr}
use Prim.Native.Nat.{ℕ, ◌/◌, ◌^◌, ◌≤◌}
use native.Mathlib.Nat.{mod-lt, div-add-mod'}
use native.Mathlib.Omega.{arith}
use lib.Pow.{pow_pos}
use borrow.Author.Tests.{leb-true}
use Rattle.sheet.specs.declared.Sheet.{Sheet}
use Rattle.sheet.specs.Number.{Digits}
use Rattle.sheet.specs.Range.{Width, InRange}
use Rattle.sheet.proofs.Live.{bias-is}
use Rattle.words.proofs.usable.Goals as goal

-- one digit is left above v others
digits : (v m : ℕ) → m / 2 ^ v ≡ 1 → Digits v m
digits v m h =
    let whole = rw h at (div-add-mod' m (2 ^ v)) in
    let rest = mod-lt m (pow_pos v) in
    record { low = omega arith; high = omega arith }

some : {v : ℕ} → Width v → (s : Sheet) → s.m / 2 ^ v ≡ 1 → 182144 ≤ s.e → s.e ≤ 342144 → InRange v s
some {v} w s h c d =
    let z = bias-is in
    record { width = w; within = record { normal = inr (digits v s.m h); exponent = inr (omega arith, omega arith) } }

pub returns-then-s-ge182144 : goal.returns-then-s-ge182144
returns-then-s-ge182144 c h =
    let t = c.if-s-ge182144.true in
    some c.requires c.args.s t.0 t.1 (leb-true c.args.s.e 342144 h)
