-- `quick::answers::phase_of` meets its contract. Assumes nothing.
use Rattle.doubles.proofs.Limits.{temperature_widest}
use Rattle.verdict.proofs.EitherWidth.{width_of}
use Rattle.quick.proofs.answers.phase_of.Goals as goal

pub made_ready-ready-requires : goal.made_ready-ready-requires
made_ready-ready-requires c =
    let u = c.args.unpacked.now in
    record { width = width_of _ u.setting.width_sound; holds = u.holds; t_accepted = temperature_widest _ _ c.requires.temperature }

pub phase-requires : goal.phase-requires
phase-requires c = (c.requires, c.made_ready-ready.ensures)

pub returns : goal.returns
returns c = c.phase.ensures
