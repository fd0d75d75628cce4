-- `sheet::order::at_most` meets its contract, by the four cases of the signs. Assumes nothing.
use mathlib.Core.Path.{◌≡◌, refl, sym, ◌∙◌}
use mathlib.Core.Bool.{Bool, true, false, not, beq, false≢true}
use Prim.Native.Nat.{ℕ}
use Rattle.exact.specs.Fraction.{leq}
use Rattle.sheet.specs.declared.Sheet.{Sheet}
use Rattle.sheet.specs.Number.{value, Spelled}
use Rattle.sheet.specs.Range.{extent}
use Rattle.sheet.proofs.Compare.{leq-above, leq-below, leq-across, leq-back, spelled-extent}
use Rattle.sheet.proofs.order.at_most.Goals as goal

-- of two signs the number below zero is the lesser
unlike : (v : ℕ) (a b : Sheet) (p q : Bool) → a.neg ≡ p → b.neg ≡ q → not (beq p q) ≡ true → Spelled v b → p ≡ leq (value a) (value b)
unfolding value
unlike v a b true true d e n s = absurd (false≢true n)
unlike v a b true false d e n s = sym (rw (d, e) (leq-across (extent a) (extent b)))
unlike v a b false true d e n s = sym (rw (d, e) (leq-back (extent a) (extent b) (spelled-extent v b s e)))
unlike v a b false false d e n s = absurd (false≢true n)

like : (p q : Bool) → not (beq p q) ≡ false → q ≡ p
like true true n = refl
like true false n = absurd (false≢true (sym n))
like false true n = absurd (false≢true (sym n))
like false false n = refl

pub returns-then-a-b : goal.returns-then-a-b
returns-then-a-b c =
    let a = c.args in
    unlike c.requires.v a.a a.b a.a.neg a.b.neg refl refl c.if-a-b.true c.requires.second

pub returns-then-a : goal.returns-then-a
unfolding value
returns-then-a c =
    let a = c.args in
    let e = like a.a.neg a.b.neg c.if-a-b.false ∙ c.if-a.true in
    c.not_above.ensures ∙ sym (rw (c.if-a.true, e) (leq-below (extent a.a) (extent a.b)))

pub returns-else-a : goal.returns-else-a
unfolding value
returns-else-a c =
    let a = c.args in
    let e = like a.a.neg a.b.neg c.if-a-b.false ∙ c.if-a.false in
    c.not_above-else-a.ensures ∙ sym (rw (c.if-a.false, e) (leq-above (extent a.a) (extent a.b)))
