-- `verdict::handed::gap_passes` meets its contract. Assumes nothing.
use mathlib.Core.Path.{◌∙◌}
use Rattle.verdict.proofs.HandedOut.{passes_of}
use Rattle.verdict.proofs.handed.gap_passes.Goals as goal

pub returns : goal.returns
returns c =
    c.passes.ensures ∙ passes_of c.args.b c.requires.0 c.handed_out-ends.result c.handed_out-ends.ensures.0 c.args.tolerance
