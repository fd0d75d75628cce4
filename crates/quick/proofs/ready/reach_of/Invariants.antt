-- `quick::ready::reach_of` meets its contract. Assumes nothing.
use Rattle.quick.specs.Ready.{Reaches}
use Rattle.quick.proofs.ready.reach_of.Given as goal

abbrev pub invariant-loop-term : goal.invariant-loop-term
invariant-loop-term l = Reaches l.terms l.term-index l.reach
