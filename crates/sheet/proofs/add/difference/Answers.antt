-- `sheet::add::difference` meets its contract. Assumes nothing.
use mathlib.Core.Path.{sym, ap, ◌∙◌, subst}
use Prim.Native.Nat.{suc}
use Rattle.exact.specs.Fraction.{◌⊕◌}
use Rattle.sheet.specs.declared.Sheet.{Sheet}
use Rattle.sheet.specs.Number.{value}
use Rattle.sheet.specs.Round.{round}
use Rattle.sheet.specs.Range.{InRange}
use Rattle.sheet.proofs.Live.{negate-range}
use Rattle.sheet.proofs.Operations.{difference-is}
use Rattle.sheet.proofs.add.difference.Goals as goal

pub total-requires : goal.total-requires
total-requires c =
    let h = c.requires in
    (h.0, subst (InRange c.args.v) (sym c.negated-c.ensures) (negate-range h.1))

pub returns : goal.returns
returns c =
    let k = c.args in
    c.total.ensures
    ∙ ap (λ (s : Sheet). round k.up (suc k.v) (value k.a ⊕ value s)) c.negated-c.ensures
    ∙ sym (difference-is k.up k.v k.a k.b)
