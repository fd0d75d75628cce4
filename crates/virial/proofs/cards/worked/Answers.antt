-- `virial::cards::worked` meets its contract. Assumes nothing.
use Rattle.verdict.proofs.HandedOut.{numbers}
use Rattle.virial.proofs.cards.worked.Goals as goal

pub returns : goal.returns
returns c =
    let b = c.handed_out.ensures in
    let k = c.handed_out-2.ensures in
    let p = c.handed_out-3.ensures in
    record { value = λ i. record { second = b.0 i; third = k.0 i; pressure = p.0 i }; card_numbers = (numbers _ b.1, numbers _ k.1, numbers _ p.1) }
