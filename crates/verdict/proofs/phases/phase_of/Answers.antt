-- `verdict::phases::phase_of` meets its contract. Assumes nothing.
use Rattle.equation.specs.Rules.{pressure, stiffness}
use Rattle.verdict.specs.Worked.{phase_of}
use Rattle.doubles.proofs.Limits.{temperature_widest, density_widest}
use Rattle.verdict.proofs.Ready.{sums-ready}
use Rattle.verdict.proofs.phases.phase_of.Goals as goal

pub sums_of-sums-requires : goal.sums_of-sums-requires
sums_of-sums-requires c =
    let p = c.requires.1 in
    (c.requires.0, temperature_widest _ _ p.temperature, density_widest _ _ p.density)

pub of-requires : goal.of-requires
of-requires c =
    let p = c.requires.1 in
    ((temperature_widest _ _ p.temperature, density_widest _ _ p.density), rw c.sums_of-sums.ensures (sums-ready (c.requires.0) _ _ c.args.table.sound _ p.temperature _ p.density))

pub returns : goal.returns
unfolding phase_of pressure stiffness
returns c = rw c.sums_of-sums.ensures at c.of.ensures
