-- `row::said::row_of` meets its contract. Assumes nothing.
use native.Mathlib.Omega.{arith}
use Rattle.row.proofs.Saying.{ten_pos, row_of_term}
use Rattle.row.proofs.said.row_of.Goals as goal

pub exact-ten-requires : goal.exact-ten-requires
exact-ten-requires c = omega (arith, c.scaled.ensures, ten_pos c.power_of-power.result)

pub returns : goal.returns
returns c =
    row_of_term c.args.term _ _ _ c.requires c.power_of-power.ensures c.scaled.ensures c.exact-ten.ensures
