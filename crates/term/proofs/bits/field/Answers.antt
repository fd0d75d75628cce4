-- `term::bits::field` meets its contract. The loop's invariant: the value is the field of the bits passed, and a byte starts behind them if more
-- are wanted. Assumes nothing.
use native.Mathlib.Omega.{arith}
use mathlib.Core.Path.{◌≡◌}
use Prim.Native.Nat.{◌+◌, ◌-◌}
use Rattle.term.proofs.Fields.{field_room, field_join}
use Rattle.term.proofs.bits.field.Goals as goal

pub more-value-requires-in-loop-i : goal.more-value-requires-in-loop-i
more-value-requires-in-loop-i c =
    let a = c.args in
    omega (arith, field_room a.bytes.now a.first c.loop-i.i 8 (omega arith))

pub loop-i-preserved : goal.loop-i-preserved
loop-i-preserved c =
    let a = c.args in
    omega (arith, field_join a.bytes.now a.first c.loop-i.i 8 (omega arith))

pub more-requires : goal.more-requires
more-requires c =
    let a = c.args in
    let i = c.loop-i.i in
    omega (arith, field_room a.bytes.now a.first i (a.count - i) (omega arith))

pub returns : goal.returns
returns c =
    let a = c.args in
    let l = c.loop-i in
    let whole : l.i + (a.count - l.i) ≡ a.count = omega arith in
    rw (c.more.ensures, l.invariant.2, ← field_join a.bytes.now a.first l.i (a.count - l.i) (omega arith), whole)
