-- `quick::replies::quick` meets its contract. Assumes nothing.
use Rattle.std.specs.Prelude.{Err}
use mathlib.Core.Path.{sym, ap, ◌∙◌}
use Rattle.verdict.specs.Rules.{rejected, state_answer, density_answer, pair_answer}
use Rattle.verdict.proofs.Tables.{none-refuses, on_none}
use Rattle.quick.specs.declared.Reply.TheVariants.{Sheet, Check}
use Rattle.quick.specs.Lent.{plain_reply}
use Rattle.quick.proofs.replies.quick.Goals as goal

pub returns-in-Sheet : goal.returns-in-Sheet
unfolding plain_reply state_answer
returns-in-Sheet c =
    let s = c.args.unpacked.now.setting in
    let none = none-refuses _ _ _ s.width_sound s.kind_sound s.table.sound in record {
      value = ap Sheet (c.state_sheet-answer.ensures.value ∙ sym (on_none Err _ _ _ _ _ none)) ∙ ap (plain_reply _ _ _) (sym c.in-Sheet.is);
      reply_numbers = c.state_sheet-answer.ensures.sheet_numbers;
    }

pub returns-in-Density : goal.returns-in-Density
unfolding plain_reply density_answer
returns-in-Density c =
    let s = c.args.unpacked.now.setting in
    let none = none-refuses _ _ _ s.width_sound s.kind_sound s.table.sound in record {
      value = ap Check (c.density_check-answer.ensures.value ∙ sym (on_none rejected _ _ _ _ _ none)) ∙ ap (plain_reply _ _ _) (sym c.in-Density.is);
      reply_numbers = c.density_check-answer.ensures.answer_numbers;
    }

pub returns-in-Pair : goal.returns-in-Pair
unfolding plain_reply pair_answer
returns-in-Pair c =
    let s = c.args.unpacked.now.setting in
    let none = none-refuses _ _ _ s.width_sound s.kind_sound s.table.sound in record {
      value = ap Check (c.pair_check-answer.ensures.value ∙ sym (on_none rejected _ _ _ _ _ none)) ∙ ap (plain_reply _ _ _) (sym c.in-Pair.is);
      reply_numbers = c.pair_check-answer.ensures.answer_numbers;
    }
