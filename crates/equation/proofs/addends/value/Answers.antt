-- `equation::addends::value` meets its contract. Assumes nothing.
use mathlib.Core.Path.{refl}
use Rattle.equation.specs.Value.{value_by}
use Rattle.equation.proofs.Steps.{held-is, times-of}
use Rattle.equation.proofs.addends.value.Goals as goal

pub product-by_tau-requires : goal.product-by_tau-requires
product-by_tau-requires c = let p = c.requires in (held-is c.product-by_delta.ensures p.by-delta, p.tau_held)

pub product-requires : goal.product-requires
product-requires c =
    let p = c.requires in
    (held-is (times-of _ c.product-by_delta.ensures refl c.product-by_tau.ensures) p.by-tau, p.e_held)

pub returns : goal.returns
unfolding value_by
returns c = times-of _ (times-of _ c.product-by_delta.ensures refl c.product-by_tau.ensures) refl c.product.ensures
