-- `quick::answers::state_sheet` meets its contract. Assumes nothing.
use mathlib.Core.Path.{◌∙◌}
use Rattle.verdict.specs.Worked.{phase_of}
use Rattle.verdict.proofs.Tests.{passed, holds}
use Rattle.verdict.proofs.EitherWidth.{width_of}
use Rattle.verdict.proofs.Ready.{pressure-handy, stiffness-handy}
use Rattle.quick.proofs.Passing.{state_passed, state_parts}
use Rattle.quick.proofs.answers.state_sheet.Goals as goal

pub phase_of-a-requires : goal.phase_of-a-requires
phase_of-a-requires c =
    let d = state_parts _ _ _ (passed c.sheet_passes.ensures c.if-not-sheet_passes.false) in
    record { temperature = holds d.0; density = holds d.1 }

pub worked-requires : goal.worked-requires
unfolding phase_of
worked-requires c =
    let d = state_parts _ _ _ (passed c.sheet_passes.ensures c.if-not-sheet_passes.false) in
    let s = c.args.unpacked.now.setting in
    let v = width_of _ s.width_sound in
    rw c.phase_of-a.ensures (pressure-handy v _ _ s.table.sound _ (holds d.0) _ (holds d.1), stiffness-handy v _ _ s.table.sound _ (holds d.0) _ (holds d.1))

pub returns : goal.returns
unfolding phase_of
returns c =
    let d = state_parts _ _ _ (passed c.sheet_passes.ensures c.if-not-sheet_passes.false) in
    record { value = (rw c.phase_of-a.ensures at c.worked.ensures.value) ∙ state_passed _ _ _ _ _ d.0 d.1; sheet_numbers = c.worked.ensures.sheet_numbers }
