-- `virial::polynomial::pressure_of` meets its contract. Assumes nothing.
use Rattle.equation.proofs.Steps.{held-is, times-of}
use Rattle.equation.proofs.HoldsStates.{density_heat-held}
use Rattle.equation.proofs.Taken.{temperature_of, density-of}
use Rattle.virial.specs.Rules.{pressure_of}
use Rattle.virial.proofs.Holds.{polynomial-held}
use Rattle.virial.proofs.polynomial.pressure_of.Goals as goal

pub density_heat-heat-requires : goal.density_heat-heat-requires
density_heat-heat-requires c = (c.requires.1.second.held.lo.width, c.requires.0.0, c.requires.0.1)

pub polynomial-requires : goal.polynomial-requires
polynomial-requires c = (c.requires.0.1, c.requires.1)

pub product-requires : goal.product-requires
product-requires c =
    let p = c.requires.1 in
    let d = density-of c.args.rho c.requires.0.1 in (
      held-is c.density_heat-heat.ensures (density_heat-held p.second.held.lo.width (temperature_of c.args.t c.requires.0.0) d),
      held-is c.polynomial.ensures (polynomial-held c.args.x p d),
    )

pub returns : goal.returns
unfolding pressure_of
returns c = times-of _ c.density_heat-heat.ensures c.polynomial.ensures c.product.ensures
