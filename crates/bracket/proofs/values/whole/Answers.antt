-- `bracket::whole` meets its contract: a whole number of at most 32 bits is exact. Assumes nothing.
use mathlib.Core.Path.{ap}
use mathlib.Core.Bool.{false}
use Rattle.exact.specs.Fraction.{nat}
use Rattle.exact.proofs.Fraction.Order.{≈-trans, ≈-of-≡}
use Rattle.sheet.specs.Number.{value}
use Rattle.sheet.proofs.Laws.{round_whole}
use Rattle.sheet.proofs.Live.{few-digits}
use Rattle.bracket.proofs.Ends.{given_exact, rounding_spelled}
use Rattle.bracket.proofs.values.whole.Goals as goal

pub returns : goal.returns
returns c =
    let n = c.args.n in
    let v = c.args.v in
    given_exact v c.whole-end.result (rounding_spelled false v (nat n) c.whole-end.ensures)
    (≈-trans (≈-of-≡ (ap value c.whole-end.ensures)) (round_whole false v n (few-digits c.requires.0 c.requires.1)))
