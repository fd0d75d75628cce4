-- `State::pair_ends` is safe: every bracket has ends that are exactly f64s. Assumes nothing.
use Rattle.series.specs.Pair.{Pair}
use Rattle.equation.proofs.Taken.{density_finite}
use Rattle.equation.specs.Ranged.{SumsIn}
use Rattle.equation_lines.proofs.Given.{passed, sums-given, pressure-range, pressure-given, stiffness-given, gap-given, gibbs_given}
use Rattle.equation_lines.proofs.State.pair_ends.Goals.{After-sums_of-g}
use Rattle.equation_lines.proofs.State.pair_ends.Goals as goal

both : (c : After-sums_of-g) → Pair c.args.self.rho c.args.vapour
both c = record {
  dense = c.args.self.density;
  thin = passed c.accepts_density.ensures c.if-not-accepts_density.false;
  order = passed c.at_most.ensures c.if-not-at_most.false;
}

of-liquid : (c : After-sums_of-g) → SumsIn c.in_ok-v.v c.sums_of-l.result
of-liquid c = let s = c.args.self in sums-given c.in_ok-v.ensures s s.rho s.density c.sums_of-l.ensures

of-vapour : (c : After-sums_of-g) → SumsIn c.in_ok-v.v c.sums_of-g.result
of-vapour c = sums-given c.in_ok-v.ensures c.args.self c.args.vapour (both c).thin c.sums_of-g.ensures

pub at_most-requires-clause-x_finite : goal.at_most-requires-clause-x_finite
at_most-requires-clause-x_finite c = density_finite c.args.vapour (passed c.accepts_density.ensures c.if-not-accepts_density.false)

pub at_most-requires-clause-y_finite : goal.at_most-requires-clause-y_finite
at_most-requires-clause-y_finite c = density_finite c.args.self.rho c.args.self.density

pub pressure_of-of_liquid-requires : goal.pressure_of-of_liquid-requires
pressure_of-of_liquid-requires c = ((c.args.self.temperature, c.args.self.density), of-liquid c)

pub pressure_of-of_vapour-requires : goal.pressure_of-of_vapour-requires
pressure_of-of_vapour-requires c =
    let k = (goal.at.pressure_of-of_vapour-requires c).After-sums_of-g in
    ((c.args.self.temperature, (both k).thin), of-vapour k)

pub bits-requires : goal.bits-requires
bits-requires c =
    let s = c.args.self in
    pressure-given c.in_ok-v.ensures s s.rho s.density c.sums_of-l.ensures c.pressure_of-of_liquid.ensures

pub bits-requires-2 : goal.bits-requires-2
bits-requires-2 c =
    let k = (goal.at.bits-requires-2 c).After-sums_of-g in
    pressure-given c.in_ok-v.ensures c.args.self c.args.vapour (both k).thin c.sums_of-g.ensures c.pressure_of-of_vapour.ensures

pub pressure_gap_of-requires : goal.pressure_gap_of-requires
pressure_gap_of-requires c =
    let s = c.args.self in
    let k = (goal.at.pressure_gap_of-requires c).After-sums_of-g in (
      pressure-range c.in_ok-v.ensures s s.rho s.density c.sums_of-l.ensures c.pressure_of-of_liquid.ensures,
      pressure-range c.in_ok-v.ensures s c.args.vapour (both k).thin c.sums_of-g.ensures c.pressure_of-of_vapour.ensures,
    )

pub bits-requires-3 : goal.bits-requires-3
bits-requires-3 c =
    let s = c.args.self in
    let k = (goal.at.bits-requires-3 c).After-sums_of-g in
    gap-given c.in_ok-v.ensures s s.rho c.args.vapour (both k) c.sums_of-l.ensures c.sums_of-g.ensures c.pressure_of-of_liquid.ensures
    c.pressure_of-of_vapour.ensures c.pressure_gap_of.ensures

pub gibbs_gap_of-requires : goal.gibbs_gap_of-requires
gibbs_gap_of-requires c =
    let k = (goal.at.gibbs_gap_of-requires c).After-sums_of-g in
    (c.args.self.temperature, both k, of-liquid k, of-vapour k)

pub bits-requires-4 : goal.bits-requires-4
bits-requires-4 c =
    let s = c.args.self in
    let k = (goal.at.bits-requires-4 c).After-sums_of-g in
    gibbs_given c.in_ok-v.ensures s s.rho c.args.vapour (both k) c.sums_of-l.ensures c.sums_of-g.ensures c.gibbs_gap_of.ensures

pub stiffness_of-requires : goal.stiffness_of-requires
stiffness_of-requires c = (c.args.self.temperature, of-liquid (goal.at.stiffness_of-requires c).After-sums_of-g)

pub bits-requires-5 : goal.bits-requires-5
bits-requires-5 c =
    let s = c.args.self in
    stiffness-given c.in_ok-v.ensures s s.rho s.density c.sums_of-l.ensures c.stiffness_of.ensures

pub stiffness_of-requires-2 : goal.stiffness_of-requires-2
stiffness_of-requires-2 c = (c.args.self.temperature, of-vapour (goal.at.stiffness_of-requires-2 c).After-sums_of-g)

pub bits-requires-6 : goal.bits-requires-6
bits-requires-6 c =
    let k = (goal.at.bits-requires-6 c).After-sums_of-g in
    stiffness-given c.in_ok-v.ensures c.args.self c.args.vapour (both k).thin c.sums_of-g.ensures c.stiffness_of-2.ensures
