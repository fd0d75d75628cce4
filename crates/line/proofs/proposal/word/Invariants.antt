-- `line::proposal::word` meets its contract. The loop's invariant: n is the number of the bytes passed. Assumes nothing.
use Prim.Native.Nat.{◌^◌, ◌<◌}
use mathlib.Core.Path.{◌≡◌}
use Rattle.line.specs.Proposal.{bytes_number}
use Rattle.line.proofs.proposal.word.Given as goal

abbrev pub invariant-loop-i : goal.invariant-loop-i
invariant-loop-i l = (l.n ≡ bytes_number l.bytes l.at l.i) × (l.n < 256 ^ l.i)
