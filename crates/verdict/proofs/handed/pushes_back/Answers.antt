-- `verdict::handed::pushes_back` meets its contract. Assumes nothing.
use mathlib.Core.Path.{◌∙◌}
use Rattle.verdict.proofs.HandedOut.{pushes-of}
use Rattle.verdict.proofs.handed.pushes_back.Goals as goal

pub returns : goal.returns
returns c =
    c.above_zero.ensures ∙ pushes-of c.args.b c.requires c.handed_out-ends.result c.handed_out-ends.ensures.0
