-- `virial::sums::addend` meets its contract. Assumes nothing.
use Rattle.virial.specs.Sums.{addend}
use Rattle.equation.proofs.Steps.{held-is, times-of}
use Rattle.equation.proofs.Holds.{tau-powers, tau-power_held, coefficient_held}
use Rattle.virial.proofs.sums.addend.Goals as goal

pub coefficient-coefficient-requires : goal.coefficient-coefficient-requires
coefficient-coefficient-requires c = c.requires.1.held.lo.width

pub power-requires : goal.power-requires
power-requires c =
    let a = c.args in
    let h = c.requires in
    tau-powers a.tau h.1 a.term.t h.0.t_most

pub product-requires : goal.product-requires
product-requires c =
    let a = c.args in
    let h = c.requires in (
      held-is c.coefficient-coefficient.ensures (coefficient_held h.1.held.lo.width a.term h.0),
      held-is c.power.ensures (tau-power_held a.tau h.1 a.term.t h.0.t_most),
    )

pub returns : goal.returns
unfolding addend
returns c = times-of _ c.coefficient-coefficient.ensures c.power.ensures c.product.ensures
