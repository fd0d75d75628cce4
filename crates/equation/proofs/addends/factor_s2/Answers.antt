-- `equation::addends::factor_s2` meets its contract. Assumes nothing.
use mathlib.Core.Path.{◌∙◌}
use Prim.Native.Nat.{ℕ, suc, ◌*◌, ◌≤◌, ◌<◌}
use native.Mathlib.Nat.{mul-le-mul, mul-pos}
use native.Mathlib.Omega.{arith}
use Rattle.sheet.proofs.Live.{few-digits}
use Rattle.bracket.specs.Rules.{ends}
use Rattle.bracket.proofs.Operands.{whole_held, times-whole}
use Rattle.equation.proofs.Steps.{held-is, minus-of}
use Rattle.equation.proofs.Cases.{factor_s2-none, factor_s2-some}
use Rattle.equation.proofs.Holds.{part_held, factor_w-held}
use Rattle.equation.proofs.addends.factor_s2.Goals as goal

square : (c : ℕ) → c ≤ 15 → c * c ≤ 225
square c few = mul-le-mul few few

pub overflow_mul-c : goal.overflow_mul-c
overflow_mul-c c = record { fits = let s = square c.args.c c.requires.0 in omega arith }

pub whole-requires : goal.whole-requires
whole-requires c = let s = square c.args.c c.requires.0 in (c.requires.1.0.held.lo.width, omega arith)

pub product-part-requires : goal.product-part-requires
product-part-requires c =
    let a = c.args in
    let p = c.requires in
    (held-is c.whole.ensures (whole_held p.1.0.held.lo.width (a.c * a.c) (let s = square a.c p.0 in omega arith)), p.1.0.held)

pub difference-requires : goal.difference-requires
difference-requires c =
    let a = c.args in
    let p = c.requires in
    let s = square a.c p.0 in
    let taken = c.if-c-ge1.true in
    let some : 0 < a.c = omega arith in (
      held-is c.factor_w.ensures (factor_w-held a.tw p.1.1),
      held-is (c.product-part.ensures ∙ times-whole a.v (a.c * a.c) (few-digits p.1.0.held.lo.width (omega arith)) c.whole.ensures (ends a.g))
          (part_held a.g p.1.0 (a.c * a.c) (mul-pos some some) (omega arith)),
    )

pub returns-then-c-ge1 : goal.returns-then-c-ge1
returns-then-c-ge1 c =
    let a = c.args in
    let p = c.requires in
    let s = square a.c p.0 in
    let taken = c.if-c-ge1.true in
    minus-of _ c.factor_w.ensures
    (c.product-part.ensures ∙ times-whole a.v (a.c * a.c) (few-digits p.1.0.held.lo.width (omega arith)) c.whole.ensures (ends a.g))
    c.difference.ensures
    ∙ factor_s2-some (suc a.v) a.c a.g a.tw (omega arith)

pub returns-else-c-ge1 : goal.returns-else-c-ge1
returns-else-c-ge1 c =
    let a = c.args in
    let l = c.if-c-ge1.false in
    c.factor_w-else-c-ge1.ensures ∙ factor_s2-none (suc a.v) a.c a.g a.tw (omega arith)
