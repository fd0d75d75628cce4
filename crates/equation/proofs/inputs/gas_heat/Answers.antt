-- `equation::inputs::gas_heat` meets its contract. Assumes nothing.
use Rattle.equation.specs.Rules.{gas_heat}
use Rattle.equation.proofs.Steps.{held-is, times-of}
use Rattle.equation.proofs.Holds.{gas_held, temperature_held}
use Rattle.equation.proofs.Taken.{temperature_of, temperature_finite}
use Rattle.equation.proofs.inputs.gas_heat.Goals as goal

pub given-temperature-requires : goal.given-temperature-requires
given-temperature-requires c = (c.requires.0, temperature_finite c.args.t c.requires.1)

pub product-requires : goal.product-requires
product-requires c =
    let p = c.requires in
    (held-is c.gas.ensures (gas_held p.0), held-is c.given-temperature.ensures (temperature_held p.0 (temperature_of c.args.t p.1)))

pub returns : goal.returns
unfolding gas_heat
returns c = times-of _ c.gas.ensures c.given-temperature.ensures c.product.ensures
