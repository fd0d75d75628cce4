-- `term::packer::put_number` meets its contract: the last n of the number's eight bytes are put. Assumes nothing.
use Prim.Native.Nat.{◌-◌}
use native.Mathlib.Omega.{arith}
use mathlib.Core.Path.{◌≡◌}
use Rattle.lent.proofs.Joined.{put_same}
use Rattle.term.proofs.Bytes.{last-bytes}
use Rattle.term.proofs.packer.put_number.Goals as goal

pub returns : goal.returns
returns c =
    let n = c.args.n in
    let whole : 8 - (8 - n) ≡ n = omega arith in
    put_same (rw (whole, c.to_be_bytes.ensures) (last-bytes n c.args.number c.requires.1)) c.put_bytes.ensures
