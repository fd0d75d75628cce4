-- `panel::wb_state` meets its contract: the values of the answer, and the one at the choice. Assumes nothing.
use mathlib.Core.Path.{refl, ap, ◌∙◌}
use lib.ListN.{get_or}
use Rattle.reading.specs.Values.{sheet_values}
use Rattle.panel.proofs.wb_state.Goals as goal

pub returns : goal.returns
returns c =
    record { value = c.at.ensures ∙ ap (λ l. get_or l c.args.choice 0) (c.of_sheet-values.ensures ∙ ap sheet_values c.state_sheet.ensures.state_stated); table_stays = refl }
