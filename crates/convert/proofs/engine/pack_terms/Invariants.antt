-- `convert::engine::pack_terms` meets its contract. The loop's invariant: the terms passed have a form, and stand packed. Assumes nothing.
use Rattle.convert.proofs.Loop.{Done}
use Rattle.convert.proofs.engine.pack_terms.Given as goal

abbrev pub invariant-loop-i : goal.invariant-loop-i
invariant-loop-i l = Done l.table.kind l.to l.table.bytes.now l.initial.packed l.at l.i l.packed
