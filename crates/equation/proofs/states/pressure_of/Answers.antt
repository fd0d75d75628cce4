-- `equation::states::pressure_of` meets its contract. Assumes nothing.
use Rattle.equation.specs.Rules.{pressure_of}
use Rattle.equation.proofs.Steps.{held-is, times-of}
use Rattle.equation.proofs.HoldsStates.{density_heat-held, pressure_factor-held}
use Rattle.equation.proofs.Taken.{temperature_of, density-of}
use Rattle.equation.proofs.states.pressure_of.Goals as goal

pub density_heat-heat-requires : goal.density_heat-heat-requires
density_heat-heat-requires c = (c.requires.1.held.s0.lo.width, c.requires.0.0, c.requires.0.1)

pub product-requires : goal.product-requires
product-requires c =
    let h = c.requires in (
      held-is c.density_heat-heat.ensures (density_heat-held h.1.held.s0.lo.width (temperature_of c.args.t h.0.0) (density-of c.args.rho h.0.1)),
      held-is c.pressure_factor.ensures (pressure_factor-held h.1),
    )

pub returns : goal.returns
unfolding pressure_of
returns c = times-of _ c.density_heat-heat.ensures c.pressure_factor.ensures c.product.ensures
