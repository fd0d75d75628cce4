-- `verdict::handed::handed_out` meets its contract. Assumes nothing.
use mathlib.Core.Path.{refl}
use Rattle.verdict.specs.Rules.{handed_out}
use Rattle.verdict.proofs.HandedOut.{handed-finite}
use Rattle.verdict.proofs.handed.handed_out.Goals as goal

pub returns : goal.returns
unfolding handed_out
returns c =
    rw (c.double_of-lower.ensures, c.double_of-upper.ensures) (refl, handed-finite c.args.b c.requires)
