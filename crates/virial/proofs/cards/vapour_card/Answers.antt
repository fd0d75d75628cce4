-- `virial::cards::vapour_card` meets its contract. Assumes nothing.
use Rattle.std.specs.Prelude.{Err}
use Rattle.std.proofs.lemmas.Result.{err_from_is_err_and}
use Prim.Native.Nat.{ℕ}
use mathlib.Core.Path.{◌≡◌, refl, sym, ◌∙◌}
use mathlib.Core.List.{List}
use Rattle.kind.specs.Kind.{sound_kind}
use Rattle.verdict.specs.Steps.{Step, first_failing}
use Rattle.verdict.specs.Rules.{first_steps, width_step, table_steps}
use Rattle.virial.proofs.Numbers.{refused_numbers}
use Rattle.verdict.proofs.Tables.{on_refusal, on_none}
use Rattle.virial.specs.Reading.{CardAnswer}
use Rattle.virial.specs.Answers.{card_answer}
use Rattle.virial.proofs.cards.vapour_card.Goals as goal

-- 38 is a kind, so 29 is not answered
known : (w : ℕ) (table : List ℕ) (rest : List (Step CardAnswer)) (last : CardAnswer)
    → first_failing (first_steps Err w 38 table rest) last ≡ first_failing (width_step Err w (table_steps Err 38 table rest)) last
unfolding first_failing sound_kind
known w table rest last = refl

pub returns-in_err-setting : goal.returns-in_err-setting
unfolding card_answer
returns-in_err-setting c =
    let p = err_from_is_err_and c.from_residual.result c.from_residual.ensures.1 in
    rw (p.1, p.2)
    (record { card_stated = on_refusal Err _ _ _ _ _ _ c.in_err-setting.ensures ∙ known _ _ _ _; card_numbers = refused_numbers; table_stays = refl })

pub screened-requires : goal.screened-requires
screened-requires c = c.in_ok-setting.ensures.2

pub returns : goal.returns
unfolding card_answer
returns c =
    let s = c.in_ok-setting.ensures in record {
      card_stated = (rw (s.1, s.3) at c.screened.ensures.value) ∙ sym (on_none Err _ _ _ _ _ s.0) ∙ known _ _ _ _;
      card_numbers = c.screened.ensures.card_numbers;
      table_stays = refl;
    }
