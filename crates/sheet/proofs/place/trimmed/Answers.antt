-- `sheet::place::trimmed` meets its contract. Assumes nothing.
use Rattle.sheet.proofs.Finishing.{rounds-kept}
use Rattle.sheet.proofs.place.trimmed.Goals as goal

pub returns : goal.returns
returns c =
    let a = c.args in
    let f = c.fitted-y.ensures in
    rounds-kept a.up a.neg a.v (record { m = a.m; sticky = a.sticky; e = a.e }) c.fitted-y.result c.ended.result f.2 (record { small = f.0.high; full = λ _. f.0.low }) c.ended.ensures
