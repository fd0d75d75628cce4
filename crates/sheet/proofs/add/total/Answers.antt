-- `sheet::add::total` meets its contract. Assumes nothing.
use mathlib.Core.Path.{◌≡◌, sym, ap₂, ◌∙◌, subst₂}
use mathlib.Core.Logic.{◌⊎◌, inl, inr, ⊎_elim}
use mathlib.Core.Bool.{Bool, true, false, true≢false}
use Prim.Native.Nat.{suc}
use native.Mathlib.Nat.{pos_of_ne-zero, le_of_lt}
use borrow.Author.Tests.{leb-true, leb-false}
use Rattle.exact.specs.Fraction.{◌⊕◌}
use Rattle.sheet.specs.declared.Sheet.{Sheet}
use Rattle.sheet.specs.Number.{value}
use Rattle.sheet.specs.Round.{round}
use Rattle.sheet.specs.Range.{extent}
use Rattle.sheet.specs.Steps.{Addends}
use Rattle.sheet.proofs.Live.{range_spelled}
use Rattle.sheet.proofs.Operations.{sum_zero_left, sum_zero_right, sum_swap}
use Rattle.sheet.proofs.add.total.Goals.{Joined-fits-2, Start, then-fits, else-fits, then-fits-2, else-fits-2}
use Rattle.sheet.proofs.add.total.Goals as goal

-- the two numbers that the parts are of
abbrev one : Start → Sheet
one c = record { neg = c.args.aneg; m = c.args.am; e = c.args.ae }

abbrev other : Start → Sheet
other c = record { neg = c.args.bneg; m = c.args.bm; e = c.args.be }

pub returns-then-am-eq0 : goal.returns-then-am-eq0
returns-then-am-eq0 c =
    sym (sum_zero_left c.args.up c.args.v (one c.before) (other c.before) (range_spelled c.requires.1) c.if-am-eq0.true)

pub returns-then-bm-eq0 : goal.returns-then-bm-eq0
returns-then-bm-eq0 c =
    sym (sum_zero_right c.args.up c.args.v (one c.before.before) (other c.before.before) (range_spelled c.requires.0) c.if-bm-eq0.true)

pub not_above-fits-requires : goal.not_above-fits-requires
not_above-fits-requires c =
    record { v = c.args.v; first = (range_spelled c.requires.1).fit; second = (range_spelled c.requires.0).fit }

-- both choices by one answer: as they came, or the other way round
abbrev Chosen : Bool → Sheet → Sheet → Sheet → Sheet → Type 0
Chosen fits a b x y = ((fits ≡ true) × (x ≡ a) × (y ≡ b)) ⊎ ((fits ≡ false) × (x ≡ b) × (y ≡ a))

chosen : (c : Joined-fits-2)
    → Chosen c.not_above-fits.result (one c.before.before.before.before.before) (other c.before.before.before.before.before) c.if-fits.first c.if-fits-2.second
chosen c =
    elim c.if-fits.branch [
      | then-fits p ↦ elim c.if-fits-2.branch [
        | then-fits-2 q ↦ inl (p.if-fits.true, p.first-is, q.second-is)
        | else-fits-2 q ↦ absurd (true≢false (sym p.if-fits.true ∙ q.if-fits-2.false))
      ]
      | else-fits p ↦ elim c.if-fits-2.branch [
        | then-fits-2 q ↦ absurd (true≢false (sym q.if-fits-2.true ∙ p.if-fits.false))
        | else-fits-2 q ↦ inr (p.if-fits.false, p.first-is, q.second-is)
      ]
    ]

pub ordered-requires : goal.ordered-requires
ordered-requires c =
    ⊎_elim
    (λ w. subst₂ (Addends c.args.v) (sym w.1) (sym w.2)
    (record {
      first = c.requires.0;
      second = c.requires.1;
      some = pos_of_ne-zero c.if-bm-eq0.false;
      order = leb-true (extent (other c.before.before.before.before.before)) (extent (one c.before.before.before.before.before)) (sym c.not_above-fits.ensures ∙ w.0);
    }))
    (λ w. subst₂ (Addends c.args.v) (sym w.1) (sym w.2)
    (record {
      first = c.requires.1;
      second = c.requires.0;
      some = pos_of_ne-zero c.if-am-eq0.false;
      order = le_of_lt (leb-false (extent (other c.before.before.before.before.before)) (extent (one c.before.before.before.before.before)) (sym c.not_above-fits.ensures ∙ w.0));
    }))
    (chosen c)

pub returns : goal.returns
returns c =
    let k = c.args in
    c.ordered.ensures
    ∙ ⊎_elim
    (λ w. ap₂ (λ (x y : Sheet). round k.up (suc k.v) (value x ⊕ value y)) w.1 w.2)
    (λ w. ap₂ (λ (x y : Sheet). round k.up (suc k.v) (value x ⊕ value y)) w.1 w.2 ∙ sum_swap k.up k.v (other c.before.before.before.before.before.before) (one c.before.before.before.before.before.before))
    (chosen c.before)
