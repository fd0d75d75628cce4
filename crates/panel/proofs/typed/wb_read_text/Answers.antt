-- `panel::typed::wb_read_text` meets its contract: the values of the answer, and the one at the choice. Assumes nothing.
use mathlib.Core.Path.{refl, ap, ◌∙◌}
use lib.ListN.{get_or}
use Rattle.panel.proofs.typed.wb_read_text.Goals as goal

pub returns : goal.returns
returns c =
    let choice = c.args.choice in
    record { read_called = record { answer = c.read_text.result; says = c.read_text.ensures.read_says; value = c.at.ensures ∙ ap (λ l. get_or l choice 0) c.read_values-read.ensures }; text_stays = refl }
