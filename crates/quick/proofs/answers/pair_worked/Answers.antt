-- `quick::answers::pair_worked` meets its contract. Assumes nothing.
use Rattle.exact.proofs.Fraction.Order.{≼-leq}
use Rattle.doubles.proofs.Limits.{temperature_widest, density_widest}
use Rattle.equation.specs.Rules.{pressure_gap, gibbs_gap}
use Rattle.verdict.specs.Worked.{phase_of}
use Rattle.verdict.proofs.Tests.{holds}
use Rattle.verdict.proofs.EitherWidth.{width_of}
use Rattle.verdict.proofs.Ready.{sums-ready, pressure-ready, pressure-handy, stiffness-handy, pressure_gap-handy, gibbs_gap-handy}
use Rattle.quick.proofs.answers.pair_worked.Goals as goal

pub made_ready-ready-requires : goal.made_ready-ready-requires
made_ready-ready-requires c =
    let u = c.args.unpacked.now in
    record { width = width_of _ u.setting.width_sound; holds = u.holds; t_accepted = temperature_widest _ _ c.requires.temperature }

pub phase-l-requires : goal.phase-l-requires
phase-l-requires c =
    let p = c.requires in
    (record { temperature = p.temperature; density = p.liquid_density }, c.made_ready-ready.ensures)

pub phase-g-requires : goal.phase-g-requires
phase-g-requires c =
    let p = c.requires in
    (record { temperature = p.temperature; density = p.vapour_density }, c.made_ready-ready.ensures)

pub pressure_gap_of-gap-requires : goal.pressure_gap_of-gap-requires
unfolding phase_of
pressure_gap_of-gap-requires c =
    let p = c.requires in
    let s = c.args.unpacked.now.setting in
    let v = width_of _ s.width_sound in
    rw (c.phase-g.ensures, c.phase-l.ensures)
    (pressure-ready v _ _ s.table.sound _ p.temperature _ p.liquid_density, pressure-ready v _ _ s.table.sound _ p.temperature _ p.vapour_density)

pub gibbs_gap_of-gibbs-requires : goal.gibbs_gap_of-gibbs-requires
unfolding phase_of
gibbs_gap_of-gibbs-requires c =
    let p = c.requires in
    let s = c.args.unpacked.now.setting in
    let v = width_of _ s.width_sound in (
      temperature_widest _ _ p.temperature,
      record { dense = density_widest _ _ p.liquid_density; thin = density_widest _ _ p.vapour_density; order = holds (≼-leq p.above) },
      rw c.phase-l.ensures (sums-ready v _ _ s.table.sound _ p.temperature _ p.liquid_density),
      rw c.phase-g.ensures (sums-ready v _ _ s.table.sound _ p.temperature _ p.vapour_density),
    )

pub judged-requires : goal.judged-requires
unfolding phase_of pressure_gap gibbs_gap
judged-requires c =
    let p = c.requires in
    let s = c.args.unpacked.now.setting in
    let v = width_of _ s.width_sound in (
      rw (c.gibbs_gap_of-gibbs.ensures, c.pressure_gap_of-gap.ensures, c.phase-g.ensures, c.phase-l.ensures) (
        (
          (pressure-handy v _ _ s.table.sound _ p.temperature _ p.liquid_density, pressure-handy v _ _ s.table.sound _ p.temperature _ p.vapour_density),
          (
            pressure_gap-handy v _ _ s.table.sound _ p.temperature _ _ p.liquid_density p.vapour_density,
            gibbs_gap-handy v _ _ s.table.sound _ p.temperature _ _ p.liquid_density p.vapour_density p.above,
          ),
        ),
        (stiffness-handy v _ _ s.table.sound _ p.temperature _ p.liquid_density, stiffness-handy v _ _ s.table.sound _ p.temperature _ p.vapour_density),
      ),
      (p.pressure-tolerance, p.gibbs-tolerance),
    )

pub returns : goal.returns
unfolding phase_of pressure_gap gibbs_gap
returns c = record { value = rw (c.gibbs_gap_of-gibbs.ensures, c.pressure_gap_of-gap.ensures, c.phase-g.ensures, c.phase-l.ensures) at c.judged.ensures.value; answer_numbers = c.judged.ensures.answer_numbers }
