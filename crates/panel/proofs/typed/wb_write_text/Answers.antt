-- `panel::typed::wb_write_text` meets its contract: the values of the answer, and the one at the choice. Assumes nothing.
use mathlib.Core.Path.{refl, ap, ◌∙◌}
use lib.ListN.{get_or}
use Rattle.panel.proofs.typed.wb_write_text.Goals as goal

pub returns : goal.returns
returns c =
    let choice = c.args.choice in
    record { write_called = record { answer = c.write_text.result; says = c.write_text.ensures.write_says; value = c.at.ensures ∙ ap (λ l. get_or l choice 0) c.write_values-written.ensures }; table_stays = refl }
