-- `equation::addends::factor_w` meets its contract. Assumes nothing.
use mathlib.Core.Path.{refl, ◌∙◌}
use native.Mathlib.Omega.{arith}
use Rattle.sheet.proofs.Live.{few-digits}
use Rattle.bracket.specs.Rules.{ends}
use Rattle.bracket.proofs.Operands.{whole_held, minus-whole}
use Rattle.equation.specs.Rules.{factor_w}
use Rattle.equation.proofs.Steps.{held-is, times-of}
use Rattle.equation.proofs.Holds.{less-held}
use Rattle.equation.proofs.addends.factor_w.Goals as goal

pub whole-requires : goal.whole-requires
whole-requires c = (c.requires.held.lo.width, omega arith)

pub difference-less-requires : goal.difference-less-requires
difference-less-requires c = (c.requires.held, held-is c.whole.ensures (whole_held c.requires.held.lo.width _ (omega arith)))

pub product-requires : goal.product-requires
product-requires c =
    let a = c.args in
    let p = c.requires in
    (p.held, held-is (c.difference-less.ensures ∙ minus-whole a.v 1 (few-digits p.held.lo.width (omega arith)) c.whole.ensures (ends a.tw)) (less-held a.tw p))

pub returns : goal.returns
unfolding factor_w
returns c =
    let a = c.args in
    let w = c.requires.held.lo.width in
    times-of _ refl (c.difference-less.ensures ∙ minus-whole a.v 1 (few-digits w (omega arith)) c.whole.ensures (ends a.tw)) c.product.ensures
