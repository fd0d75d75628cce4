-- `quick::powers::powers` meets its contract. Assumes nothing.
use mathlib.Core.Path.{refl, ◌∙◌}
use Prim.Native.Nat.{suc, ◌+◌}
use native.Mathlib.Omega.{arith}
use lib.ListN.{length-set}
use Rattle.equation.proofs.Steps.{held-is}
use Rattle.quick.proofs.PowersKept.{first_power, next_power}
use Rattle.quick.proofs.powers.powers.Goals as goal

pub loop-i-init : goal.loop-i-init
loop-i-init c = (refl, λ k l. first_power (suc c.args.v) c.args.base k c.whole-one.ensures l)

pub product-requires : goal.product-requires
product-requires c =
    let p = c.requires.0 in
    (held-is (c.loop-i.invariant.1 c.loop-i.i (omega arith)) (p.each c.loop-i.i (omega arith)), p.base)

pub loop-i-preserved : goal.loop-i-preserved
loop-i-preserved c =
    let most = c.requires.1 in
    let a = c.args in (
      length-set c.loop-i.list (c.loop-i.i + 1) _ ∙ c.loop-i.invariant.0,
      next_power (suc a.v) a.base c.loop-i.list c.loop-i.i (omega (arith, c.loop-i.invariant.0)) c.loop-i.invariant.1 c.product.ensures,
    )
