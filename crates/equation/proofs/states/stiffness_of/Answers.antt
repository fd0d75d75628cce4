-- `equation::states::stiffness_of` meets its contract. Assumes nothing.
use Rattle.equation.specs.Rules.{stiffness_of}
use Rattle.equation.proofs.Steps.{held-is, times-of}
use Rattle.equation.proofs.HoldsStates.{gas_heat-held, stiffness_factor-held}
use Rattle.equation.proofs.Taken.{temperature_of}
use Rattle.equation.proofs.states.stiffness_of.Goals as goal

pub gas_heat-heat-requires : goal.gas_heat-heat-requires
gas_heat-heat-requires c = (c.requires.1.held.s0.lo.width, c.requires.0)

pub product-requires : goal.product-requires
product-requires c = (
  held-is c.gas_heat-heat.ensures (gas_heat-held c.requires.1.held.s0.lo.width (temperature_of c.args.t c.requires.0)),
  held-is c.stiffness_factor.ensures (stiffness_factor-held c.requires.1),
)

pub returns : goal.returns
unfolding stiffness_of
returns c = times-of _ c.gas_heat-heat.ensures c.stiffness_factor.ensures c.product.ensures
