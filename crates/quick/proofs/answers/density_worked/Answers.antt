-- `quick::answers::density_worked` meets its contract. Assumes nothing.
use mathlib.Core.Path.{sym, subst}
use lib.Dec.{T}
use Rattle.doubles.proofs.Limits.{target_widest}
use Rattle.equation.specs.Rules.{target_gap}
use Rattle.verdict.specs.Worked.{phase_of}
use Rattle.verdict.proofs.Tests.{tolerance_finite}
use Rattle.verdict.proofs.EitherWidth.{width_of}
use Rattle.verdict.proofs.Ready.{pressure-ready, pressure-handy, stiffness-handy, target_gap-handy}
use Rattle.quick.proofs.answers.density_worked.Goals as goal

pub phase_of-a-requires : goal.phase_of-a-requires
phase_of-a-requires c = c.requires.0

pub target_gap_of-gap-requires : goal.target_gap_of-gap-requires
unfolding phase_of
target_gap_of-gap-requires c =
    let p = c.requires in
    let w = p.0 in
    let s = c.args.unpacked.now.setting in
    let v = width_of _ s.width_sound in
    (rw c.phase_of-a.ensures (pressure-ready v _ _ s.table.sound _ w.temperature _ w.density), target_widest _ _ p.1.0)

pub worked-requires : goal.worked-requires
unfolding phase_of target_gap
worked-requires c =
    let p = c.requires in
    let w = p.0 in
    let s = c.args.unpacked.now.setting in
    let v = width_of _ s.width_sound in
    let fit = subst T (sym c.well_formed.1.1.0.1) tt in
    rw (c.target_gap_of-gap.ensures, c.phase_of-a.ensures) (
      (pressure-handy v _ _ s.table.sound _ w.temperature _ w.density, target_gap-handy v _ _ s.table.sound _ w.temperature _ w.density _ fit p.1.0),
      (stiffness-handy v _ _ s.table.sound _ w.temperature _ w.density, tolerance_finite _ p.1.1),
    )

pub returns : goal.returns
unfolding phase_of target_gap
returns c = record { value = rw (c.target_gap_of-gap.ensures, c.phase_of-a.ensures) at c.worked.ensures.value; answer_numbers = c.worked.ensures.answer_numbers }
