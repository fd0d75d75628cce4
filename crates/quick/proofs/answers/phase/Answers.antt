-- `quick::answers::phase` meets its contract. Assumes nothing.
use Rattle.doubles.proofs.Limits.{temperature_widest, density_widest}
use Rattle.equation.specs.Rules.{pressure, stiffness}
use Rattle.verdict.specs.Worked.{phase_of}
use Rattle.verdict.proofs.EitherWidth.{width_of}
use Rattle.verdict.proofs.Ready.{sums-ready}
use Rattle.quick.proofs.answers.phase.Goals as goal

pub sums_of-sums-requires : goal.sums_of-sums-requires
sums_of-sums-requires c =
    let p = c.requires in
    record { width = width_of _ c.args.setting.width_sound; ready_for = p.1.0; accepted = (rw p.1.1 (temperature_widest _ _ p.0.temperature), density_widest _ _ p.0.density) }

pub of-requires : goal.of-requires
of-requires c =
    let p = c.requires in
    let s = c.args.setting in
    let e = rw p.1.1 at c.sums_of-sums.ensures in
    ((temperature_widest _ _ p.0.temperature, density_widest _ _ p.0.density), rw e (sums-ready (width_of _ s.width_sound) _ _ s.table.sound _ p.0.temperature _ p.0.density))

pub returns : goal.returns
unfolding phase_of pressure stiffness
returns c =
    let e = rw c.requires.1.1 at c.sums_of-sums.ensures in
    rw e at c.of.ensures
