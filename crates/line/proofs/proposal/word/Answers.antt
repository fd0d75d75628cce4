-- `line::proposal::word` meets its contract. The loop's invariant: n is the number of the bytes passed. Assumes nothing.
use Prim.Native.Nat.{◌+◌, ◌*◌, ◌<◌}
use native.Mathlib.Omega.{arith}
use mathlib.Core.Path.{sym, ap₂, ◌∙◌}
use Rattle.line.proofs.BytesNumber.{bytes_none, bytes_next, next-below, next_fits}
use Rattle.line.proofs.proposal.word.Goals as goal

pub loop-i-init : goal.loop-i-init
loop-i-init c = (sym (bytes_none _ _), omega arith)

pub overflow_mul-n : goal.overflow_mul-n
overflow_mul-n c = omega (arith, next_fits {b = 0} _ c.loop-i.invariant.1 (omega arith) c.loop-i-test.true)

pub overflow_add-n : goal.overflow_add-n
overflow_add-n c =
    let b : c.from.result < 256 = rw c.from.ensures (c.fits-bytes (c.args.at + c.loop-i.i)) in
    omega (arith, next_fits _ c.loop-i.invariant.1 b c.loop-i-test.true)

pub loop-i-preserved : goal.loop-i-preserved
loop-i-preserved c =
    let b : c.from.result < 256 = rw c.from.ensures (c.fits-bytes (c.args.at + c.loop-i.i)) in (
      ap₂ (λ n b. n * 256 + b) c.loop-i.invariant.0 c.from.ensures ∙ sym (bytes_next _ _ _),
      next-below _ c.loop-i.invariant.1 b,
    )
