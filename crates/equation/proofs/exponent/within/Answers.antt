-- `equation::exponent::within` meets its contract. Assumes nothing.
use mathlib.Core.Path.{◌∙◌}
use native.Mathlib.Omega.{arith}
use Rattle.sheet.proofs.Live.{range_spelled}
use Rattle.equation.proofs.Clip.{most-spelled, at-upper}
use Rattle.equation.proofs.Holds.{digits}
use Rattle.equation.proofs.exponent.within.Goals as goal

pub whole-requires : goal.whole-requires
whole-requires c = (c.requires.held.lo.width, omega arith)

pub at_most-requires : goal.at_most-requires
at_most-requires c =
    let a = c.args in
    let p = c.requires in
    record { v = a.v; first = range_spelled p.held.hi; second = most-spelled (digits a.g p) c.whole.ensures }

pub returns : goal.returns
returns c =
    let a = c.args in
    c.at_most.ensures ∙ at-upper (digits a.g c.requires) c.whole.ensures a.g
