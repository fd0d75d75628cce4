-- `term::count_terms` meets its contract. Assumes nothing.
use native.Mathlib.Omega.{arith}
use Rattle.term.proofs.Rules.{some_bytes}
use Rattle.term.proofs.count_terms.Goals as goal

pub nonzero_div-result : goal.nonzero_div-result
nonzero_div-result c = omega (arith, c.term_bytes.ensures, some_bytes c.args.kind)
