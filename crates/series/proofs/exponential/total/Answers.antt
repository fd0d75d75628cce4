-- `series::exponential::total` meets its contract. The loop's invariant: the state is the rule's term and sum to k. Assumes nothing.
use mathlib.Core.Path.{sym, ap, ◌∙◌}
use Prim.Native.Nat.{suc, ◌+◌, ◌≤◌}
use native.Mathlib.Omega.{arith}
use borrow.Author.Rules.{rules}
use lib.Pow.{pow_mono}
use Rattle.bracket.specs.Rules.{ends}
use Rattle.series.specs.Terms.{Terms}
use Rattle.series.proofs.ExponentialHeld.{exp_term-held}
use Rattle.series.proofs.ExponentialSteps.{held-as, term-held, product_held, sum_held, term-next, sum_next, exp_term-first, exp_sum-first, total-last}
use Rattle.series.proofs.exponential.total.Goals as goal

pub loop-k-init : goal.loop-k-init
loop-k-init c =
    let X = ends c.args.x in
    let n = suc c.args.v in
    let e = c.whole-one.ensures ∙ sym (exp_term-first n X) in
    let f = c.whole-one.ensures ∙ sym (exp_sum-first n X) in
    (λ i. record { term = e i; sum = f i })

pub stretched-requires : goal.stretched-requires
stretched-requires c =
    let h : c.loop-k.k ≤ 256 = omega (arith, c.loop-k.auto.k-end) in
    let p = c.requires in
    let i = c.loop-k.invariant in
    let w = p.0.lo.width in
    (sum_held w p.1 h i, omega (arith, pow_mono {i = 31} w.low))

pub product-product-requires : goal.product-product-requires
product-product-requires c =
    let h : c.loop-k.k ≤ 256 = omega (arith, c.loop-k.auto.k-end) in
    let p = c.requires in
    let i = c.loop-k.invariant in
    (term-held p.0.lo.width p.1 h i, p.0)

pub share-term-requires : goal.share-term-requires
share-term-requires c =
    let h : c.loop-k.k ≤ 256 = omega (arith, c.loop-k.auto.k-end) in
    let p = c.requires in
    let i = c.loop-k.invariant in
    (product_held p.0.lo.width p.1 h (ap (λ (s : Terms). s.term) i) c.product-product.ensures, omega arith, omega arith)

pub sum-sum-requires : goal.sum-sum-requires
sum-sum-requires c =
    let h : c.loop-k.k ≤ 256 = omega (arith, c.loop-k.auto.k-end) in
    let w = c.requires.0.lo.width in
    let l = c.loop-k in
    let e = term-next (suc c.args.v) (ends c.args.x) l.k (ap (λ (s : Terms). s.term) l.invariant) c.product-product.ensures c.share-term.ensures in
    (sum_held w c.requires.1 h l.invariant, held-as e (exp_term-held w c.requires.1 (l.k + 1) (omega arith)))

pub loop-k-preserved : goal.loop-k-preserved
loop-k-preserved c =
    let a = c.args in
    let l = c.loop-k in
    let n = suc a.v in
    let X = ends a.x in
    let e = term-next n X l.k (ap (λ (s : Terms). s.term) l.invariant) c.product-product.ensures c.share-term.ensures in
    let f = sum_next n X l.k (ap (λ (s : Terms). s.sum) l.invariant) e c.sum-sum.ensures in
    (λ i. record { term = e i; sum = f i })

pub add_last-requires : goal.add_last-requires
add_last-requires c =
    let h : c.loop-k.k ≤ 256 = omega (arith, c.loop-k.auto.k-end) in
    let f = c.requires.1 in
    let w = c.requires.0.lo.width in
    let i = c.loop-k.invariant in
    let s = sum_held w f h i in
    let t = term-held w f h i in
    search rules

pub returns : goal.returns
returns c =
    let h : c.loop-k.k ≤ 256 = omega (arith, c.loop-k.auto.k-end) in
    let X = ends c.args.x in
    let i = c.loop-k.invariant in
    total-last (suc c.args.v) X c.loop-k.k h c.loop-k-test.false i c.add_last.ensures
