-- `State::ends` is safe: both brackets have ends that are exactly f64s. Assumes nothing.
use Rattle.equation_lines.proofs.Given.{sums-given, pressure-given, stiffness-given}
use Rattle.equation_lines.proofs.State.ends.Goals as goal

pub pressure_of-requires : goal.pressure_of-requires
pressure_of-requires c =
    let s = c.args.self in
    ((s.temperature, s.density), sums-given c.in_ok-v.ensures s s.rho s.density c.sums_of-s.ensures)

pub bits-requires : goal.bits-requires
bits-requires c =
    let s = c.args.self in
    pressure-given c.in_ok-v.ensures s s.rho s.density c.sums_of-s.ensures c.pressure_of.ensures

pub stiffness_of-requires : goal.stiffness_of-requires
stiffness_of-requires c =
    let s = c.args.self in
    (s.temperature, sums-given c.in_ok-v.ensures s s.rho s.density c.sums_of-s.ensures)

pub bits-requires-2 : goal.bits-requires-2
bits-requires-2 c =
    let s = c.args.self in
    stiffness-given c.in_ok-v.ensures s s.rho s.density c.sums_of-s.ensures c.stiffness_of.ensures
