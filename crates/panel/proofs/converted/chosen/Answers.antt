-- `panel::converted::chosen` meets its contract: the values of the answer, and the one at the choice. Assumes nothing.
use mathlib.Core.Path.{ap, ◌∙◌}
use lib.ListN.{get_or}
use Rattle.panel.proofs.converted.chosen.Goals as goal

pub returns : goal.returns
returns c = c.at.ensures ∙ ap (λ l. get_or l c.args.choice 0) c.converted_values-values.ensures
