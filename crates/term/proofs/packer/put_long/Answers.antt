-- `term::packer::put_long` meets its contract. Assumes nothing.
use native.Mathlib.Omega.{arith}
use Rattle.lent.proofs.Joined.{put_same, put_then}
use Rattle.term.proofs.Bytes.{long_head-below, pack-long}
use Rattle.term.proofs.Packing.{bytes_of-length}
use Rattle.term.proofs.packer.put_long.Goals as goal

pub overflow_mul-head : goal.overflow_mul-head
overflow_mul-head c = omega (arith, c.long_head-head.ensures, long_head-below c.args.term c.requires.1)

pub overflow_add-head : goal.overflow_add-head
overflow_add-head c = omega (arith, c.long_head-head.ensures, long_head-below c.args.term c.requires.1, c.requires.1.magnitude_below)

pub put_number-requires : goal.put_number-requires
put_number-requires c =
    let first = c.put_number-word in
    (omega (arith, first.auto.out, simp bytes_of-length at first.ensures.reached), omega arith)

pub returns : goal.returns
returns c =
    put_same (pack-long c.args.term _ c.requires.1 c.long_head-head.ensures) (put_then c.put_number-word.ensures c.put_number.ensures)
