-- `panel::wb_density` meets its contract: the values of the answer, and the one at the choice. Assumes nothing.
use mathlib.Core.Path.{refl, ap, ◌∙◌}
use lib.ListN.{get_or}
use Rattle.reading.specs.Values.{check_values}
use Rattle.panel.proofs.wb_density.Goals as goal

pub returns : goal.returns
returns c =
    record { value = c.at.ensures ∙ ap (λ l. get_or l c.args.choice 0) (c.of_check-values.ensures ∙ ap check_values c.density_check-answer.ensures.density_stated); table_stays = refl }
