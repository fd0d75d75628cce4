-- `verdict::pairs::balanced` meets its contract. Assumes nothing.
use Rattle.std.specs.Prelude.{Ok, Err}
use mathlib.Core.Path.{sym, ap, ◌∙◌}
use Rattle.verdict.specs.declared.Rejection.TheVariants.{GibbsGap, Stiffness}
use Rattle.verdict.proofs.Order.{all_pass, fails-at}
use Rattle.verdict.proofs.Tests.{passed, failed}
use Rattle.verdict.proofs.HandedOut.{numbers}
use Rattle.verdict.proofs.pairs.balanced.Goals as goal

pub returns-then-not-gap_passes : goal.returns-then-not-gap_passes
returns-then-not-gap_passes c = record { value = ap (λ e. Err (GibbsGap e)) c.handed_out.ensures.0 ∙ sym (fails-at 0 _ _ (failed c.gap_passes.ensures c.if-not-gap_passes.true)); answer_numbers = numbers _ c.handed_out.ensures.1 }

pub returns-then-not-pushes_back : goal.returns-then-not-pushes_back
returns-then-not-pushes_back c = record { value = ap (λ e. Err (Stiffness e)) c.handed_out-then-not-pushes_back.ensures.0 ∙ sym (fails-at 1 _ _ (passed c.gap_passes.ensures c.if-not-gap_passes.false, failed c.pushes_back.ensures c.if-not-pushes_back.true)); answer_numbers = numbers _ c.handed_out-then-not-pushes_back.ensures.1 }

pub returns-then-not-pushes_back-2 : goal.returns-then-not-pushes_back-2
returns-then-not-pushes_back-2 c = record { value = ap (λ e. Err (Stiffness e)) c.handed_out-then-not-pushes_back-2.ensures.0 ∙ sym (fails-at 2 _ _ (passed c.gap_passes.ensures c.if-not-gap_passes.false, (passed c.pushes_back.ensures c.if-not-pushes_back.false, failed c.pushes_back-2.ensures c.if-not-pushes_back-2.true))); answer_numbers = numbers _ c.handed_out-then-not-pushes_back-2.ensures.1 }

pub returns : goal.returns
returns c = record { value = ap Ok c.handed_out-2.ensures.0 ∙ sym (all_pass _ _ (passed c.gap_passes.ensures c.if-not-gap_passes.false, (passed c.pushes_back.ensures c.if-not-pushes_back.false, (passed c.pushes_back-2.ensures c.if-not-pushes_back-2.false, tt)))); answer_numbers = numbers _ c.handed_out-2.ensures.1 }
