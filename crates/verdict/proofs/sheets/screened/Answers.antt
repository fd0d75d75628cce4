-- `verdict::sheets::screened` meets its contract. Assumes nothing.
use Rattle.std.proofs.lemmas.Result.{err_from_is_err_and}
use mathlib.Core.Path.{sym, ◌∙◌}
use Rattle.verdict.specs.Worked.{phase_of}
use Rattle.verdict.proofs.Order.{on_pass, fails-at}
use Rattle.verdict.proofs.Tests.{holds, passed, failed}
use Rattle.verdict.proofs.HandedOut.{zeros-numbers}
use Rattle.verdict.proofs.EitherWidth.{width_of}
use Rattle.verdict.proofs.Ready.{pressure-handy, stiffness-handy}
use Rattle.verdict.proofs.sheets.screened.Goals as goal

pub returns-in_err-unless : goal.returns-in_err-unless
returns-in_err-unless c =
    let p = err_from_is_err_and c.from_residual.result c.from_residual.ensures.1 in
    rw (p.1, p.2, c.in_err-unless.ensures.1) (record { value = sym (fails-at 0 _ _ (failed c.accepts_temperature.ensures c.in_err-unless.ensures.0)); sheet_numbers = (zeros-numbers, zeros-numbers) })

pub returns-in_err-unless-2 : goal.returns-in_err-unless-2
returns-in_err-unless-2 c =
    let p = err_from_is_err_and c.from_residual-in_err-unless-2.result c.from_residual-in_err-unless-2.ensures.1 in
    rw (p.1, p.2, c.in_err-unless-2.ensures.1) (record { value = sym (fails-at 1 _ _ (passed c.accepts_temperature.ensures c.in_ok-unless.ensures, failed c.accepts_density.ensures c.in_err-unless-2.ensures.0)); sheet_numbers = (zeros-numbers, zeros-numbers) })

pub phase_of-phase-requires : goal.phase_of-phase-requires
phase_of-phase-requires c =
    (width_of _ c.args.setting.width_sound, record { temperature = holds (passed c.accepts_temperature.ensures c.in_ok-unless.ensures); density = holds (passed c.accepts_density.ensures c.in_ok-unless-2.ensures) })

pub worked-requires : goal.worked-requires
unfolding phase_of
worked-requires c =
    let hot = holds (passed c.accepts_temperature.ensures c.in_ok-unless.ensures) in
    let dense = holds (passed c.accepts_density.ensures c.in_ok-unless-2.ensures) in
    let s = c.args.setting in
    let v = width_of _ s.width_sound in
    rw c.phase_of-phase.ensures (pressure-handy v _ _ s.table.sound _ hot _ dense, stiffness-handy v _ _ s.table.sound _ hot _ dense)

pub returns : goal.returns
unfolding phase_of
returns c = record {
  value = (rw c.phase_of-phase.ensures at c.worked.ensures.value)
      ∙ sym (on_pass _ _ _ (passed c.accepts_temperature.ensures c.in_ok-unless.ensures) ∙ on_pass _ _ _ (passed c.accepts_density.ensures c.in_ok-unless-2.ensures));
  sheet_numbers = c.worked.ensures.sheet_numbers;
}
