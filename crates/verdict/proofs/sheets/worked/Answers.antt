-- `verdict::sheets::worked` meets its contract. Assumes nothing.
use Rattle.std.specs.Prelude.{Ok}
use mathlib.Core.Path.{sym, ap₂, ◌∙◌}
use Rattle.verdict.specs.Rules.{state_worked}
use Rattle.verdict.proofs.Order.{all_pass, fails-at}
use Rattle.verdict.proofs.Tests.{passed, failed}
use Rattle.verdict.proofs.HandedOut.{numbers, zeros-numbers}
use Rattle.verdict.proofs.sheets.worked.Goals as goal

pub returns-then-not-under_ceiling : goal.returns-then-not-under_ceiling
returns-then-not-under_ceiling c = record { value = sym (fails-at 0 (state_worked c.args.kind c.args.pressure) _ (failed c.under_ceiling.ensures c.if-not-under_ceiling.true)); sheet_numbers = (zeros-numbers, zeros-numbers) }

pub returns : goal.returns
returns c = record {
  value = ap₂ (λ p s. Ok (record { pressure = p; stiffness = s })) c.handed_out.ensures.0 c.handed_out-2.ensures.0
      ∙ sym (all_pass (state_worked c.args.kind c.args.pressure) _ (passed c.under_ceiling.ensures c.if-not-under_ceiling.false, tt));
  sheet_numbers = (numbers _ c.handed_out.ensures.1, numbers _ c.handed_out-2.ensures.1);
}
