-- `equation::states::gibbs_gap_of` meets its contract. Assumes nothing.
use Rattle.exact.proofs.Fraction.Order.{≼-by}
use Rattle.equation.specs.Rules.{gibbs_gap_of}
use Rattle.equation.proofs.Steps.{held-is, plus-of, times-of}
use Rattle.equation.proofs.HoldsStates.{gas_heat-held, ln_ratio-held, sums_apart-held, logarithm_apart_held}
use Rattle.equation.proofs.Taken.{temperature_of, density-of}
use Rattle.equation.proofs.states.gibbs_gap_of.Goals as goal

pub gas_heat-heat-requires : goal.gas_heat-heat-requires
gas_heat-heat-requires c = (c.requires.2.held.s0.lo.width, c.requires.0)

pub ln_ratio-logarithm-requires : goal.ln_ratio-logarithm-requires
ln_ratio-logarithm-requires c = (c.requires.2.held.s0.lo.width, c.requires.1)

pub sum-requires : goal.sum-requires
sum-requires c =
    let h = c.requires in
    let p = h.1 in (
      held-is c.ln_ratio-logarithm.ensures (ln_ratio-held h.2.held.s0.lo.width (density-of c.args.liquid p.dense) (density-of c.args.vapour p.thin) (≼-by _ _ p.order)),
      held-is c.sums_apart-apart.ensures (sums_apart-held h.2 h.3),
    )

pub product-requires : goal.product-requires
product-requires c =
    let h = c.requires in
    let p = h.1 in (
      held-is c.gas_heat-heat.ensures (gas_heat-held h.2.held.s0.lo.width (temperature_of c.args.t h.0)),
      held-is (plus-of _ c.ln_ratio-logarithm.ensures c.sums_apart-apart.ensures c.sum.ensures)
          (logarithm_apart_held h.2 h.3 (density-of c.args.liquid p.dense) (density-of c.args.vapour p.thin) (≼-by _ _ p.order)),
    )

pub returns : goal.returns
unfolding gibbs_gap_of
returns c =
    times-of _ c.gas_heat-heat.ensures
    (plus-of _ c.ln_ratio-logarithm.ensures c.sums_apart-apart.ensures c.sum.ensures)
    c.product.ensures
