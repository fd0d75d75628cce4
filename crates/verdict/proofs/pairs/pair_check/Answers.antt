-- `verdict::pairs::pair_check` meets its contract. Assumes nothing.
use Rattle.std.proofs.lemmas.Result.{err_from_is_err_and}
use mathlib.Core.Path.{refl, sym, ◌∙◌}
use Rattle.verdict.specs.Rules.{pair_answer, rejected}
use Rattle.verdict.proofs.HandedOut.{zeros-numbers}
use Rattle.verdict.proofs.Tables.{on_refusal, on_none}
use Rattle.verdict.proofs.pairs.pair_check.Goals as goal

pub returns-in_err-setting : goal.returns-in_err-setting
unfolding pair_answer
returns-in_err-setting c =
    let p = err_from_is_err_and c.from_residual.result c.from_residual.ensures.1 in
    rw (p.1, p.2) (record { pair_stated = on_refusal rejected _ _ _ _ _ _ c.in_err-setting.ensures; answer_numbers = zeros-numbers; table_stays = refl })

pub returns : goal.returns
unfolding pair_answer
returns c =
    let s = c.in_ok-setting.ensures in
    record { pair_stated = (rw (s.1, s.2, s.3) at c.screened.ensures.value) ∙ sym (on_none rejected _ _ _ _ _ s.0); answer_numbers = c.screened.ensures.answer_numbers; table_stays = refl }
