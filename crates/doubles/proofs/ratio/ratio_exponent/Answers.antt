-- `ratio::ratio_exponent` meets its contract. The loop holds the vapour's density doubled k times, at most 21 times. Assumes nothing.
use mathlib.Core.Path.{sym, subst}
use lib.Dec.{T}
use lib.Ieee.{of_bits}
use Rattle.doubles.proofs.Turn.{first, next, last}
use Rattle.doubles.proofs.ratio.ratio_exponent.Goals as goal

pub loop-v-init : goal.loop-v-init
loop-v-init c = first c.args.liquid c.args.vapour c.requires.liquid_accepted c.requires.vapour_accepted (subst T (sym c.well_formed.1.0.1) tt) c.requires.in_order

pub loop-v-preserved : goal.loop-v-preserved
unfolding of_bits
loop-v-preserved c =
    next c.args.liquid c.args.vapour c.requires.liquid_accepted c.requires.vapour_accepted c.loop-v.v c.loop-v.k c.loop-v.invariant c.loop-v-test.true

pub returns : goal.returns
unfolding of_bits
returns c =
    last c.args.liquid c.args.vapour c.requires.liquid_accepted c.requires.vapour_accepted c.loop-v.v c.loop-v.k c.loop-v.invariant c.requires.in_order c.loop-v-test.false
