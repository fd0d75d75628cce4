-- `series::logarithm::ln_series` meets its contract. The loop's invariant: the state is the rule's power and sum to j. Assumes nothing.
use mathlib.Core.Path.{sym, ap, ◌∙◌}
use Prim.Native.Nat.{suc, ◌+◌}
use native.Mathlib.Omega.{arith}
use native.Mathlib.Nat.{le_refl}
use lib.Dec.{lit≤}
use Rattle.bracket.proofs.Operands.{whole_held}
use Rattle.series.specs.Powers.{Powers}
use Rattle.series.proofs.ExponentialSteps.{held-as}
use Rattle.series.proofs.LogarithmSteps.{ln_power-first, ln_sum-first, power-next, quotient-next, sum_next, square-held, power_held, quotient-held, sum_held, total-held, last-power, last_sum, last-quotient, total-is, answer_is}
use Rattle.series.proofs.logarithm.ln_series.Goals as goal

pub loop-j-init : goal.loop-j-init
loop-j-init c =
    let z = c.args.z in
    let n = suc c.args.v in
    let e = sym (ln_power-first n z) in
    let f = c.share-sum.ensures ∙ sym (ln_sum-first n z) in
    (λ i. record { power = e i; sum = f i })

pub product-power-requires : goal.product-power-requires
product-power-requires c =
    let a = c.requires in
    let l = c.loop-j in
    (power_held a l.j l.auto.j-end (ap (λ (s : Powers). s.power) l.invariant), square-held a c.product-square.ensures)

pub share-requires : goal.share-requires
share-requires c =
    let l = c.loop-j in
    (power_held c.requires (l.j + 1) (omega arith) (power-next (suc c.args.v) c.args.z l.j l.invariant c.product-square.ensures c.product-power.ensures), omega arith)

pub sum-sum-requires : goal.sum-sum-requires
sum-sum-requires c =
    let l = c.loop-j in
    let n = suc c.args.v in
    let z = c.args.z in
    let e = power-next n z l.j l.invariant c.product-square.ensures c.product-power.ensures in (
      sum_held c.requires l.j l.auto.j-end (ap (λ (s : Powers). s.sum) l.invariant),
      quotient-held c.requires (l.j + 1) (omega arith) (quotient-next n z l.j l.invariant e c.share.ensures),
    )

pub loop-j-preserved : goal.loop-j-preserved
loop-j-preserved c =
    let l = c.loop-j in
    let n = suc c.args.v in
    let z = c.args.z in
    let e = power-next n z l.j l.invariant c.product-square.ensures c.product-power.ensures in
    let f = sum_next n z l.j l.invariant (quotient-next n z l.j l.invariant e c.share.ensures) c.sum-sum.ensures in
    (λ i. record { power = e i; sum = f i })

pub share-requires-2 : goal.share-requires-2
share-requires-2 c =
    let i = c.loop-j.invariant in
    let a = c.requires in
    (power_held a 20 (le_refl 20) (last-power (suc c.args.v) c.args.z c.loop-j.auto.j-end c.loop-j-test.false i), le_refl 20)

pub add_last-total-requires : goal.add_last-total-requires
add_last-total-requires c =
    let i = c.loop-j.invariant in
    let l = c.loop-j-test.false in
    let z = c.args.z in
    let n = suc c.args.v in
    let a = c.requires in (
      sum_held a 20 (le_refl 20) (last_sum n z c.loop-j.auto.j-end l i),
      quotient-held a 20 (le_refl 20) (last-quotient n z c.loop-j.auto.j-end l i c.share-2.ensures),
    )

pub product-requires : goal.product-requires
product-requires c =
    let i = c.loop-j.invariant in
    let l = c.loop-j-test.false in
    let z = c.args.z in
    let n = suc c.args.v in
    let a = c.requires in (
      held-as c.whole.ensures (whole_held a.held.lo.width 2 (lit≤ tt)),
      total-held a (total-is n z c.loop-j.auto.j-end l i c.share-2.ensures c.add_last-total.ensures),
    )

pub returns : goal.returns
returns c =
    let i = c.loop-j.invariant in
    let l = c.loop-j-test.false in
    let z = c.args.z in
    answer_is c.requires.held.lo.width z (total-is (suc c.args.v) z c.loop-j.auto.j-end l i c.share-2.ensures c.add_last-total.ensures)
    c.whole.ensures c.product.ensures
