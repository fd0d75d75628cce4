-- `bracket::quotient` meets its contract: both ends of the divisor are above zero. Assumes nothing.
use mathlib.Core.Path.{ap, ◌∙◌}
use Prim.Native.Nat.{suc}
use Rattle.exact.specs.Fraction.{Fraction, ◌⊘◌}
use Rattle.exact.proofs.Fraction.Order.{≺-≼-trans}
use Rattle.sheet.specs.Number.{value}
use Rattle.sheet.specs.Round.{down, up}
use Rattle.bracket.proofs.Ends.{held-ordered, divided-by}
use Rattle.bracket.proofs.quotients.quotient.Goals as goal

pub quotient-lo-requires : goal.quotient-lo-requires
quotient-lo-requires c = ((c.requires.0.lo, c.end-below.ensures.0), ≺-≼-trans c.requires.2 c.end-below.ensures.2)

pub quotient-hi-requires : goal.quotient-hi-requires
quotient-hi-requires c = ((c.requires.0.hi, c.end-above.ensures.0), ≺-≼-trans c.requires.2 c.end-above.ensures.2)

pub returns : goal.returns
returns c =
    let k = c.args in
    let h = c.requires in
    let lo = c.quotient-lo.ensures ∙ ap (λ (y : Fraction). down (suc k.v) (value k.a.lo ⊘ y)) c.end-below.ensures.1 in
    let hi = c.quotient-hi.ensures ∙ ap (λ (y : Fraction). up (suc k.v) (value k.a.hi ⊘ y)) c.end-above.ensures.1 in
    (λ i. record { lo = lo i; hi = hi i }) ∙ divided-by k.v k.a k.b (held-ordered h.0) (held-ordered h.1) h.2
