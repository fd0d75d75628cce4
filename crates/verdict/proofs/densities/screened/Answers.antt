-- `verdict::densities::screened` meets its contract. Assumes nothing.
use Rattle.std.proofs.lemmas.Result.{err_from_is_err_and}
use mathlib.Core.Path.{sym, subst, ◌∙◌}
use lib.Dec.{T}
use Rattle.equation.specs.Rules.{target_gap}
use Rattle.verdict.specs.Worked.{phase_of}
use Rattle.verdict.proofs.Order.{on_pass, fails-at}
use Rattle.verdict.proofs.Tests.{holds, passed, failed, tolerance_finite}
use Rattle.verdict.proofs.HandedOut.{zeros-numbers}
use Rattle.verdict.proofs.EitherWidth.{width_of}
use Rattle.doubles.proofs.Limits.{target_widest}
use Rattle.verdict.proofs.Ready.{pressure-ready, pressure-handy, stiffness-handy, target_gap-handy}
use Rattle.verdict.proofs.densities.screened.Goals as goal

pub returns-in_err-unless : goal.returns-in_err-unless
returns-in_err-unless c =
    let p = err_from_is_err_and c.from_residual.result c.from_residual.ensures.1 in
    rw (p.1, p.2, c.in_err-unless.ensures.1) (record { value = sym (fails-at 0 _ _ (failed c.accepts_temperature.ensures c.in_err-unless.ensures.0)); answer_numbers = zeros-numbers })

pub returns-in_err-unless-2 : goal.returns-in_err-unless-2
returns-in_err-unless-2 c =
    let p = err_from_is_err_and c.from_residual-in_err-unless-2.result c.from_residual-in_err-unless-2.ensures.1 in
    rw (p.1, p.2, c.in_err-unless-2.ensures.1) (record { value = sym (fails-at 1 _ _ (passed c.accepts_temperature.ensures c.in_ok-unless.ensures, failed c.accepts_density.ensures c.in_err-unless-2.ensures.0)); answer_numbers = zeros-numbers })

pub returns-in_err-unless-3 : goal.returns-in_err-unless-3
returns-in_err-unless-3 c =
    let p = err_from_is_err_and c.from_residual-in_err-unless-3.result c.from_residual-in_err-unless-3.ensures.1 in
    rw (p.1, p.2, c.in_err-unless-3.ensures.1) (record { value = sym (fails-at 2 _ _ (passed c.accepts_temperature.ensures c.in_ok-unless.ensures, (passed c.accepts_density.ensures c.in_ok-unless-2.ensures, failed c.accepts_target.ensures c.in_err-unless-3.ensures.0))); answer_numbers = zeros-numbers })

pub returns-in_err-unless-4 : goal.returns-in_err-unless-4
returns-in_err-unless-4 c =
    let p = err_from_is_err_and c.from_residual-in_err-unless-4.result c.from_residual-in_err-unless-4.ensures.1 in
    rw (p.1, p.2, c.in_err-unless-4.ensures.1) (record { value = sym (fails-at 3 _ _ (passed c.accepts_temperature.ensures c.in_ok-unless.ensures, (passed c.accepts_density.ensures c.in_ok-unless-2.ensures, (passed c.accepts_target.ensures c.in_ok-unless-3.ensures, failed c.accepts_tolerance.ensures c.in_err-unless-4.ensures.0)))); answer_numbers = zeros-numbers })

pub phase_of-phase-requires : goal.phase_of-phase-requires
phase_of-phase-requires c =
    (width_of _ c.args.setting.width_sound, record { temperature = holds (passed c.accepts_temperature.ensures c.in_ok-unless.ensures); density = holds (passed c.accepts_density.ensures c.in_ok-unless-2.ensures) })

pub target_gap_of-gap-requires : goal.target_gap_of-gap-requires
unfolding phase_of
target_gap_of-gap-requires c =
    let hot = holds (passed c.accepts_temperature.ensures c.in_ok-unless.ensures) in
    let dense = holds (passed c.accepts_density.ensures c.in_ok-unless-2.ensures) in
    let aim = holds (passed c.accepts_target.ensures c.in_ok-unless-3.ensures) in
    let s = c.args.setting in
    (rw c.phase_of-phase.ensures (pressure-ready (width_of _ s.width_sound) _ _ s.table.sound _ hot _ dense), target_widest _ _ aim)

pub worked-requires : goal.worked-requires
unfolding phase_of target_gap
worked-requires c =
    let hot = holds (passed c.accepts_temperature.ensures c.in_ok-unless.ensures) in
    let dense = holds (passed c.accepts_density.ensures c.in_ok-unless-2.ensures) in
    let aim = holds (passed c.accepts_target.ensures c.in_ok-unless-3.ensures) in
    let near = holds (passed c.accepts_tolerance.ensures c.in_ok-unless-4.ensures) in
    let fit = subst T (sym c.well_formed.1.1.0.1) tt in
    let s = c.args.setting in
    let v = width_of _ s.width_sound in
    rw (c.target_gap_of-gap.ensures, c.phase_of-phase.ensures) (
      (pressure-handy v _ _ s.table.sound _ hot _ dense, target_gap-handy v _ _ s.table.sound _ hot _ dense _ fit aim),
      (stiffness-handy v _ _ s.table.sound _ hot _ dense, tolerance_finite _ near),
    )

pub returns : goal.returns
unfolding phase_of target_gap
returns c = record {
  value = (rw (c.target_gap_of-gap.ensures, c.phase_of-phase.ensures) at c.worked.ensures.value)
      ∙ sym
      (on_pass _ _ _ (passed c.accepts_temperature.ensures c.in_ok-unless.ensures)
      ∙ on_pass _ _ _ (passed c.accepts_density.ensures c.in_ok-unless-2.ensures)
      ∙ on_pass _ _ _ (passed c.accepts_target.ensures c.in_ok-unless-3.ensures)
      ∙ on_pass _ _ _ (passed c.accepts_tolerance.ensures c.in_ok-unless-4.ensures));
  answer_numbers = c.worked.ensures.answer_numbers;
}
