-- `verdict::sheets::state_sheet` meets its contract. Assumes nothing.
use Rattle.std.proofs.lemmas.Result.{err_from_is_err_and}
use Rattle.std.specs.Prelude.{Err}
use mathlib.Core.Path.{refl, sym, ◌∙◌}
use Rattle.verdict.specs.Rules.{state_answer}
use Rattle.verdict.proofs.HandedOut.{zeros-numbers}
use Rattle.verdict.proofs.Tables.{on_refusal, on_none}
use Rattle.verdict.proofs.sheets.state_sheet.Goals as goal

pub returns-in_err-setting : goal.returns-in_err-setting
unfolding state_answer
returns-in_err-setting c =
    let p = err_from_is_err_and c.from_residual.result c.from_residual.ensures.1 in
    rw (p.1, p.2) (record { state_stated = on_refusal Err _ _ _ _ _ _ c.in_err-setting.ensures; sheet_numbers = (zeros-numbers, zeros-numbers); table_stays = refl })

pub returns : goal.returns
unfolding state_answer
returns c =
    let s = c.in_ok-setting.ensures in
    record { state_stated = (rw (s.1, s.2, s.3) at c.screened.ensures.value) ∙ sym (on_none Err _ _ _ _ _ s.0); sheet_numbers = c.screened.ensures.sheet_numbers; table_stays = refl }
