-- `text::writing::spell_terms` meets its contract. The loop's invariant: the terms passed have rows, and these are spelled. Assumes nothing.
use Rattle.text.proofs.Terms.{Done}
use Rattle.text.proofs.writing.spell_terms.Given as goal

abbrev pub invariant-loop-i : goal.invariant-loop-i
invariant-loop-i l = Done l.table l.initial.text l.at l.i l.text
