-- `panel::converted::wb_shorten` meets its contract. Assumes nothing.
use mathlib.Core.Path.{refl}
use Rattle.panel.proofs.converted.wb_shorten.Goals as goal

pub returns : goal.returns
returns c =
    record { convert_called = record { answer = c.shorten.result; says = c.shorten.ensures.says; value = c.chosen.ensures }; table_stays = refl }
