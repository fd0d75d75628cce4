-- `reading::of_card` meets its contract: +0.0, as which a refusal's ends read, has the bits 0. Assumes nothing.
use lib.Ieee.{to_bits}
use Rattle.reading.specs.Values.{card_values}
use Rattle.reading.proofs.of_card.Goals as goal

pub returns-in-Ok : goal.returns-in-Ok
unfolding card_values
returns-in-Ok c = rw c.in-Ok.is

pub returns-in-Err : goal.returns-in-Err
unfolding card_values to_bits
returns-in-Err c = rw (c.in-Err.is, c.number.ensures, c.place.ensures)
