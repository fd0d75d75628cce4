-- Ends handed out are exactly their values, so a test on the f64s is the test on the values. Assumes nothing.
use mathlib.Core.Path.{◌≡◌, ap, ap₂, ◌∙◌}
use mathlib.Core.Bool.{not, ◌&&◌}
use Prim.Native.Nat.{ℕ}
use native.Mathlib.Omega.{arith}
use lib.Ieee.{Float, is_nan}
use Rattle.exact.specs.Fraction.{Fraction, nat, negate, leq, ◌≈◌}
use Rattle.exact.proofs.Fraction.Order.{≈-sym, ≈-≼-trans, ≼-≈-trans}
use Rattle.kind.specs.Kind.{highest}
use Rattle.sheet.specs.Number.{value}
use Rattle.sheet.specs.Range.{Doubled}
use Rattle.doubles.specs.Double.{exact_of}
use Rattle.doubles.specs.Handed.{DoubleValue}
use Rattle.doubles.specs.Range.{within_tolerance}
use Rattle.doubles.proofs.Handed.{double_of-finite, double_of-exact, double_of-zero, leq-double, double-leq}
use Rattle.doubles.proofs.Write.{sheet_double, normal-few}
use Rattle.doubles.proofs.Pattern.{no_nan}
use Rattle.bracket.specs.declared.Bracket.{Bracket}
use Rattle.bracket.specs.Span.{◌∈◌}
use Rattle.bracket.specs.Rules.{ends}
use Rattle.bracket.specs.Held.{Held, Ends as Both}
use Rattle.verdict.specs.declared.Ends.{Ends}
use Rattle.verdict.specs.Reading.{Numbers, zeros, plain_zero}
use Rattle.verdict.specs.Rules.{handed_out, under_ceiling, gap_passes, pushes_back}
use Rattle.verdict.specs.Balance.{Covers}
use Rattle.verdict.specs.Handed.{Handy, EndsFinite}

-- an end that is zero is +0.0
pub zero_lower : (b : Bracket) → value b.lo ≈ nat 0 → (handed_out b).lower ≡ plain_zero
unfolding handed_out
zero_lower b z = double_of-zero z

pub zero_upper : (b : Bracket) → value b.hi ≈ nat 0 → (handed_out b).upper ≡ plain_zero
unfolding handed_out
zero_upper b z = double_of-zero z

-- a bracket in range whose ends are exactly f64s
pub handy : {v : ℕ} (b : Bracket) → Held v b → Both Doubled b → Handy b
handy {v} b h d =
    record {
      lower = d.lo;
      lower_few = normal-few v b.lo h.lo.within.normal (omega (arith, h.lo.width.high));
      upper = d.hi;
      upper_few = normal-few v b.hi h.hi.within.normal (omega (arith, h.hi.width.high));
    }

-- finite f64s are no NaN
pub numbers : (e : Ends) → EndsFinite e.lower e.upper → Numbers e
numbers e f = (no_nan e.lower f.lower_finite, no_nan e.upper f.upper_finite)

pub zeros-numbers : Numbers zeros
unfolding is_nan
zeros-numbers = (tt, tt)

module _ (b : Bracket) (h : Handy b) where
  lower_exact : DoubleValue (value b.lo)
  lower_exact = sheet_double b.lo h.lower h.lower_few

  upper_exact : DoubleValue (value b.hi)
  upper_exact = sheet_double b.hi h.upper h.upper_few

  pub handed-finite : EndsFinite (handed_out b).lower (handed_out b).upper
  unfolding handed_out
  handed-finite = record { lower_finite = double_of-finite (value b.lo) lower_exact; upper_finite = double_of-finite (value b.hi) upper_exact }

  -- the two f64s are exactly the ends, and a number in the bracket lies between them
  pub handed-covers : {x : Fraction} → x ∈ ends b → Covers (handed_out b) b x
  unfolding handed_out
  handed-covers i =
      let l = double_of-exact (value b.lo) lower_exact in
      let u = double_of-exact (value b.hi) upper_exact in
      record { lower_exact = l; upper_exact = u; lower_zero = zero_lower b; upper_zero = zero_upper b; above = ≈-≼-trans l i.above; under = ≼-≈-trans i.under (≈-sym u) }

  -- ---- the tests, on f64s that are the bracket's ends
  module _ (e : Ends) (is : e ≡ handed_out b) where
    pub under_of : (kind : ℕ) → leq (exact_of e.upper) (nat (highest kind)) ≡ under_ceiling kind b
    unfolding handed_out under_ceiling
    under_of kind = ap (λ (x : Ends). leq (exact_of x.upper) (nat (highest kind))) is ∙ leq-double (value b.hi) (nat (highest kind)) upper_exact

    pub passes_of : (tolerance : Float) → within_tolerance (exact_of e.lower) (exact_of e.upper) (exact_of tolerance) ≡ gap_passes b tolerance
    unfolding handed_out gap_passes within_tolerance
    passes_of tolerance =
        ap (λ (x : Ends). leq (negate (exact_of tolerance)) (exact_of x.lower) && leq (exact_of x.upper) (exact_of tolerance)) is
        ∙ ap₂ ◌&&◌ (double-leq (value b.lo) (negate (exact_of tolerance)) lower_exact) (leq-double (value b.hi) (exact_of tolerance) upper_exact)

    pub pushes-of : not (leq (exact_of e.lower) (nat 0)) ≡ pushes_back b
    unfolding handed_out pushes_back
    pushes-of = ap (λ (x : Ends). not (leq (exact_of x.lower) (nat 0))) is ∙ ap not (leq-double (value b.lo) (nat 0) lower_exact)
