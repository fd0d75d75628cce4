-- `text::reading::read_rows` meets its contract. The loop's invariant: the rows passed are good and stand before the place, and their terms
-- are packed. The measure is what is left of the text. Assumes nothing.
use Prim.Native.Nat.{◌-◌}
use lib.ListN.{length}
use Rattle.text.proofs.Rows.{Passed}
use Rattle.text.proofs.reading.read_rows.Given as goal

abbrev pub invariant-loop-at : goal.invariant-loop-at
invariant-loop-at l = Passed l.text l.initial.table l.at l.count l.table

abbrev pub decreases-loop-at : goal.decreases-loop-at
decreases-loop-at l = length l.text - l.at
