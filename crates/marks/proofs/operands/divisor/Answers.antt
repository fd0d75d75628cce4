-- `marks::operands::divisor` meets its contract. Assumes nothing.
use Rattle.exact.specs.Fraction.{nat, ◌≺◌}
use Rattle.sheet.specs.Number.{value}
use Rattle.sheet.specs.Range.{InRange}
use Rattle.marks.specs.Argument.{Placed}
use Rattle.marks.proofs.Arguments.{found_or, spaced, positive, in_range}
use Rattle.marks.proofs.operands.divisor.Goals as goal

pub returns : goal.returns
returns c =
    let v = c.args.v in
    let one = c.one.ensures in
    found_or {Q = λ s. InRange v s × (nat 0 ≺ value s)} _ _ c.unwrap_or.ensures c.placed.ensures
    (λ s (h : Placed v _ _ _ s). (spaced s c.requires h.digits h.low h.high, positive v s h.sign h.digits))
    (in_range v c.one.result one, positive v c.one.result one.plain one.digits)
