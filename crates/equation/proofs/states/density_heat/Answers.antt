-- `equation::states::density_heat` meets its contract. Assumes nothing.
use Rattle.equation.specs.Rules.{density_heat}
use Rattle.equation.proofs.Steps.{held-is, times-of}
use Rattle.equation.proofs.Holds.{density_held, temperature_held, gas_held}
use Rattle.equation.proofs.HoldsStates.{rho_gas_held}
use Rattle.equation.proofs.Taken.{temperature_of, temperature_finite, density-of, density_finite}
use Rattle.equation.proofs.states.density_heat.Goals as goal

pub given-density-requires : goal.given-density-requires
given-density-requires c = (c.requires.0, density_finite c.args.rho c.requires.2)

pub given-temperature-requires : goal.given-temperature-requires
given-temperature-requires c = let p = c.requires in (p.0, temperature_finite c.args.t p.1)

pub product-requires : goal.product-requires
product-requires c =
    (held-is c.given-density.ensures (density_held c.requires.0 (density-of c.args.rho c.requires.2)), held-is c.gas.ensures (gas_held c.requires.0))

pub product-requires-2 : goal.product-requires-2
product-requires-2 c =
    let t = temperature_of c.args.t c.requires.1 in (
      held-is (times-of _ c.given-density.ensures c.gas.ensures c.product.ensures) (rho_gas_held c.requires.0 t (density-of c.args.rho c.requires.2)),
      held-is c.given-temperature.ensures (temperature_held c.requires.0 t),
    )

pub returns : goal.returns
unfolding density_heat
returns c =
    times-of _ (times-of _ c.given-density.ensures c.gas.ensures c.product.ensures)
    c.given-temperature.ensures c.product-2.ensures
