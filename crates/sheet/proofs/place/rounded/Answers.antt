-- `sheet::place::rounded` meets its contract: the digits of the spelling at their place settle the rounding. Assumes nothing.
use Rattle.sheet.proofs.Finishing.{rounds-kept}
use Rattle.sheet.proofs.place.rounded.Goals as goal

pub returns : goal.returns
returns c =
    let a = c.args in
    let f = c.normalised-y.ensures in
    rounds-kept a.up a.neg a.v (record { m = a.m; sticky = a.sticky; e = a.e }) c.normalised-y.result c.finished.result f.keeps (record { small = f.small; full = f.full }) c.finished.ensures
