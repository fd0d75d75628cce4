-- `line::digits::hex` meets its contract. Assumes nothing.
use native.Mathlib.Omega.{arith}
use Rattle.line.specs.Digits.{hex_of}
use Rattle.lent.proofs.Joined.{put_then}
use Rattle.line.proofs.digits.hex.Goals as goal

pub digits-end-requires : goal.digits-end-requires
digits-end-requires c = omega arith

pub put_byte-requires : goal.put_byte-requires
put_byte-requires c = omega arith

pub returns : goal.returns
unfolding hex_of
returns c = record { put = put_then c.digits-end.ensures.put c.put_byte.ensures; upper_bound = omega arith }
