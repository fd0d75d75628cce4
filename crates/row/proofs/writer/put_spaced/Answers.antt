-- `row::writer::put_spaced` meets its contract. Assumes nothing.
use native.Mathlib.Omega.{arith}
use borrow.Author.Tests.{lt-ltb, le-ltb}
use Rattle.lent.proofs.Joined.{put_then}
use Rattle.row.specs.Row.{spaced, small}
use Rattle.row.proofs.writer.put_spaced.Goals as goal

pub returns-then-n-lt10 : goal.returns-then-n-lt10
unfolding spaced small
returns-then-n-lt10 c =
    let n = c.args.n in
    let one = lt-ltb n 10 (omega arith) in
    rw one (record { put = put_then c.put_digit-a.ensures c.put_byte.ensures; upper_bound = omega arith })

pub returns : goal.returns
unfolding spaced small
returns c =
    let n = c.args.n in
    let two = le-ltb n 10 (omega arith) in
    rw two (record { put = put_then (put_then c.put_digit-a-2.ensures c.put_digit-b.ensures) c.put_byte-2.ensures; upper_bound = omega arith })
