-- `panel::card::wb_virial` meets its contract: the values of the answer, and the one at the choice. Assumes nothing.
use mathlib.Core.Path.{refl, ap, ◌∙◌}
use lib.ListN.{get_or}
use Rattle.reading.specs.Values.{card_values}
use Rattle.panel.proofs.card.wb_virial.Goals as goal

pub returns : goal.returns
returns c =
    record { value = c.at.ensures ∙ ap (λ l. get_or l c.args.choice 0) (c.of_card-values.ensures ∙ ap card_values c.vapour_card.ensures.card_stated); table_stays = refl }
