-- `reading::of_sheet` meets its contract: +0.0, as which a refusal's ends read, has the bits 0. Assumes nothing.
use lib.Ieee.{to_bits}
use Rattle.reading.specs.Values.{sheet_values}
use Rattle.reading.proofs.of_sheet.Goals as goal

pub returns-in-Ok : goal.returns-in-Ok
unfolding sheet_values
returns-in-Ok c = rw c.in-Ok.is

pub returns-in-Err : goal.returns-in-Err
unfolding sheet_values to_bits
returns-in-Err c = rw (c.in-Err.is, c.number.ensures, c.place.ensures)
