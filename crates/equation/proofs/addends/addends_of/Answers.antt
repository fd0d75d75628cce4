-- `equation::addends::addends_of` meets its contract. Assumes nothing.
use mathlib.Core.Path.{refl}
use Rattle.equation.specs.Rules.{addends_of}
use Rattle.equation.proofs.Steps.{held-is, times-of}
use Rattle.equation.proofs.Holds.{factor_s2-held}
use Rattle.equation.proofs.addends.addends_of.Goals as goal

pub product-s2-requires : goal.product-s2-requires
product-s2-requires c =
    let a = c.args in
    let p = c.requires in
    (p.1.0.held, held-is c.factor_s2.ensures (factor_s2-held a.tw p.1.1 a.g p.0.1 a.c p.0.0))

pub returns : goal.returns
unfolding addends_of
returns c =
    let e = times-of _ refl c.factor_s2.ensures c.product-s2.ensures in
    λ i. record { s0 = c.args.tv; s1 = c.product-s1.ensures i; s2 = e i }
