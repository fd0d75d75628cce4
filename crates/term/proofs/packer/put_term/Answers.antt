-- `term::packer::put_term` meets its contract. Assumes nothing.
use native.Mathlib.Omega.{arith}
use Rattle.lent.proofs.Joined.{put_same, put_then}
use Rattle.term.proofs.Bytes.{pack-head}
use Rattle.term.proofs.Packing.{bytes_of-length}
use Rattle.term.proofs.packer.put_term.Goals as goal

pub put_number-requires : goal.put_number-requires
put_number-requires c =
    let first = c.put_number-word in
    (omega (arith, first.auto.out, simp bytes_of-length at first.ensures.reached), omega arith)

pub returns : goal.returns
returns c =
    let a = c.args in
    put_same (pack-head a.term _ c.requires.1 c.head-head.ensures) (put_then c.put_number-word.ensures c.put_number.ensures)
