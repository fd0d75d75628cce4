-- `verdict::densities::worked` meets its contract. Assumes nothing.
use Rattle.std.proofs.lemmas.Result.{err_from_is_err_and}
use Rattle.std.specs.Prelude.{Ok, Err}
use mathlib.Core.Path.{sym, ap, ◌∙◌}
use Rattle.verdict.specs.declared.Rejection.TheVariants.{PressureGap, Stiffness}
use Rattle.verdict.proofs.Order.{all_pass, fails-at}
use Rattle.verdict.proofs.Tests.{passed, failed}
use Rattle.verdict.proofs.HandedOut.{numbers, zeros-numbers}
use Rattle.verdict.proofs.densities.worked.Goals as goal

pub returns-in_err-unless : goal.returns-in_err-unless
returns-in_err-unless c =
    let p = err_from_is_err_and c.from_residual.result c.from_residual.ensures.1 in
    rw (p.1, p.2, c.in_err-unless.ensures.1) (record { value = sym (fails-at 0 _ _ (failed c.under_ceiling.ensures c.in_err-unless.ensures.0)); answer_numbers = zeros-numbers })

pub returns-then-not-gap_passes : goal.returns-then-not-gap_passes
returns-then-not-gap_passes c = record { value = ap (λ e. Err (PressureGap e)) c.handed_out.ensures.0 ∙ sym (fails-at 1 _ _ (passed c.under_ceiling.ensures c.in_ok-unless.ensures, failed c.gap_passes.ensures c.if-not-gap_passes.true)); answer_numbers = numbers _ c.handed_out.ensures.1 }

pub returns-then-not-pushes_back : goal.returns-then-not-pushes_back
returns-then-not-pushes_back c = record { value = ap (λ e. Err (Stiffness e)) c.handed_out-then-not-pushes_back.ensures.0 ∙ sym (fails-at 2 _ _ (passed c.under_ceiling.ensures c.in_ok-unless.ensures, (passed c.gap_passes.ensures c.if-not-gap_passes.false, failed c.pushes_back.ensures c.if-not-pushes_back.true))); answer_numbers = numbers _ c.handed_out-then-not-pushes_back.ensures.1 }

pub returns : goal.returns
returns c = record { value = ap Ok c.handed_out-2.ensures.0 ∙ sym (all_pass _ _ (passed c.under_ceiling.ensures c.in_ok-unless.ensures, (passed c.gap_passes.ensures c.if-not-gap_passes.false, (passed c.pushes_back.ensures c.if-not-pushes_back.false, tt)))); answer_numbers = numbers _ c.handed_out-2.ensures.1 }
