-- `row::writer::put_tail` meets its contract. Assumes nothing.
use native.Mathlib.Omega.{arith}
use borrow.Author.Tests.{lt-ltb, le-ltb}
use Rattle.lent.proofs.Joined.{put_then}
use Rattle.row.specs.Row.{tail}
use Rattle.row.proofs.writer.put_tail.Goals as goal

pub returns-then-power-lt6 : goal.returns-then-power-lt6
unfolding tail
returns-then-power-lt6 c =
    let minus = lt-ltb _ _ c.if-power-lt6.true in
    rw minus (record { put = put_then (put_then (put_then c.put_byte-a.ensures c.put_byte-b.ensures) c.put_digit-c.ensures) c.put_byte.ensures; upper_bound = omega arith })

pub returns : goal.returns
unfolding tail
returns c =
    let plain = le-ltb _ _ c.if-power-lt6.false in
    rw plain (record { put = put_then (put_then c.put_byte-a.ensures c.put_digit-b.ensures) c.put_byte-2.ensures; upper_bound = omega arith })
