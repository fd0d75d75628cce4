-- `verdict::handed::under_ceiling` meets its contract. Assumes nothing.
use mathlib.Core.Path.{◌∙◌, ap}
use mathlib.Core.Bool.{not, not-not}
use Rattle.verdict.proofs.HandedOut.{under_of}
use Rattle.verdict.proofs.handed.under_ceiling.Goals as goal

pub returns : goal.returns
returns c =
    ap not c.above_pressure_limit.ensures
    ∙ not-not _
    ∙ under_of c.args.b c.requires c.handed_out-ends.result c.handed_out-ends.ensures.0 c.args.kind
