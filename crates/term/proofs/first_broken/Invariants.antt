-- `term::first_broken` meets its contract. The loop's invariant: the terms passed are sound. Assumes nothing.
use Rattle.term.specs.First.{SoundBelow}
use Rattle.term.proofs.first_broken.Given as goal

abbrev pub invariant-loop-k : goal.invariant-loop-k
invariant-loop-k l = SoundBelow l.kind l.table l.k
