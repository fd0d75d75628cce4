-- `row::said::power_of` meets its contract. Assumes nothing.
use native.Mathlib.Omega.{arith}
use lib.Pow.{pow-add}
use borrow.Author.Count.{below_more}
use Rattle.row.proofs.said.power_of.Goals as goal

pub returns-then-magnitude-pow : goal.returns-then-magnitude-pow
returns-then-magnitude-pow c =
    let power = c.loop-power.power in
    rw c.from.ensures (record { most = omega arith; low = c.loop-power.invariant; high = λ _. omega (arith, c.pow.ensures, pow-add 10 10 power) })

pub loop-power-preserved : goal.loop-power-preserved
loop-power-preserved c =
    let power = c.loop-power.power in
    below_more _ _ c.loop-power.invariant (omega (arith, c.pow.ensures, pow-add 10 10 power))
