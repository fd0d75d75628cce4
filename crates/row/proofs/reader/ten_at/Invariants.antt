-- `row::reader::ten_at` meets its contract. The loop's invariant: the value is that of the digits passed. Assumes nothing.
use mathlib.Core.Path.{◌≡◌}
use lib.ListN.{drop}
use Rattle.row.specs.Guess.{number_of}
use Rattle.row.proofs.reader.ten_at.Given as goal

abbrev pub invariant-loop-i : goal.invariant-loop-i
invariant-loop-i l = l.value ≡ number_of (drop l.at l.text) l.i
