-- `equation::addends::term_w` meets its contract. Assumes nothing.
use mathlib.Core.Path.{ap, ◌∙◌}
use Prim.Native.Nat.{suc}
use native.Mathlib.Nat.{pos_of_ne-zero}
use native.Mathlib.Omega.{arith}
use Rattle.bracket.specs.declared.Bracket.{Bracket}
use Rattle.bracket.specs.Span.{whole}
use Rattle.sheet.proofs.Live.{few-digits}
use Rattle.bracket.specs.Rules.{ends, minus}
use Rattle.bracket.proofs.Operands.{whole_held, times-whole, whole_minus}
use Rattle.equation.proofs.Steps.{held-is}
use Rattle.equation.proofs.Cases.{term_w-none, term_w-some}
use Rattle.equation.proofs.Holds.{part_held}
use Rattle.equation.proofs.addends.term_w.Goals as goal

pub whole-requires : goal.whole-requires
whole-requires c = let p = c.requires in (p.1.1.held.lo.width, let s = p.0.1 in omega arith)

pub whole-requires-else-c-eq0 : goal.whole-requires-else-c-eq0
whole-requires-else-c-eq0 c = let p = c.requires in (p.1.1.held.lo.width, let q = p.1.0 in omega arith)

pub product-part-requires : goal.product-part-requires
product-part-requires c =
    let p = c.requires in
    (held-is c.whole-else-c-eq0.ensures (whole_held p.1.1.held.lo.width c.args.c (let q = p.1.0 in omega arith)), p.1.1.held)

pub whole-requires-else-c-eq0-2 : goal.whole-requires-else-c-eq0-2
whole-requires-else-c-eq0-2 c = let p = c.requires in (p.1.1.held.lo.width, let s = p.0.1 in omega arith)

pub difference-requires : goal.difference-requires
difference-requires c =
    let a = c.args in
    let p = c.requires in
    let q = p.1.0 in
    let w = p.1.1.held.lo.width in
    let some = pos_of_ne-zero c.if-c-eq0.false in (
      held-is c.whole-else-c-eq0-2.ensures (whole_held w a.d (let s = p.0.1 in omega arith)),
      held-is (c.product-part.ensures ∙ times-whole a.v a.c (few-digits w (omega arith)) c.whole-else-c-eq0.ensures (ends a.g))
          (part_held a.g p.1.1 a.c some (omega arith)),
    )

pub returns-then-c-eq0 : goal.returns-then-c-eq0
returns-then-c-eq0 c = c.whole.ensures ∙ term_w-none (suc c.args.v) c.args.c c.args.g c.args.d c.if-c-eq0.true

pub returns-else-c-eq0 : goal.returns-else-c-eq0
returns-else-c-eq0 c =
    let a = c.args in
    let p = c.requires in
    let q = p.1.0 in
    let s = p.0.1 in
    let w = p.1.1.held.lo.width in
    let part = c.product-part.ensures ∙ times-whole a.v a.c (few-digits w (omega arith)) c.whole-else-c-eq0.ensures (ends a.g) in
    c.difference.ensures
    ∙ whole_minus a.v a.d (few-digits w (omega arith)) c.whole-else-c-eq0-2.ensures (ends c.product-part.result)
    ∙ ap (λ (x : Bracket). minus (suc a.v) (whole a.d) (ends x)) part
    ∙ term_w-some (suc a.v) a.d a.c a.g (pos_of_ne-zero c.if-c-eq0.false)
