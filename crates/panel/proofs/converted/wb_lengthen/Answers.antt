-- `panel::converted::wb_lengthen` meets its contract. Assumes nothing.
use mathlib.Core.Path.{refl}
use Rattle.panel.proofs.converted.wb_lengthen.Goals as goal

pub returns : goal.returns
returns c =
    record { convert_called = record { answer = c.lengthen.result; says = c.lengthen.ensures.says; value = c.chosen.ensures }; table_stays = refl }
