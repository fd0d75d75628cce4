-- `line::of_answer` meets its contract: the five fields, one put after the other. Assumes nothing.
use native.Mathlib.Omega.{arith}
use Rattle.line.specs.Line.{line_of}
use Rattle.lent.proofs.Joined.{put_then}
use Rattle.line.proofs.Held.{put_held, put_within}
use Rattle.line.proofs.of_answer.Goals as goal

pub returns : goal.returns
unfolding line_of
returns c =
    let put =
    put_then
    (put_then
    (put_then
    (put_then c.decimal-a.ensures.put c.decimal-b.ensures.put)
    c.decimal-c.ensures.put)
    c.hex-d.ensures.put)
    c.hex-len.ensures.put
    in
    record { value = put_held put (omega arith); within = put_within put (omega arith) }
