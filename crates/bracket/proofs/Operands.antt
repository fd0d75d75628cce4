-- Whole numbers and f64s as operands: a whole number of at most suc v bits is exact, so that a rule with its bracket is the rule with the
-- number itself; and the brackets of both are held. Assumes nothing.
use mathlib.Core.Path.{◌≡◌, sym, ap, ◌∙◌, subst}
use mathlib.Core.Logic.{inl, inr, ⊎_elim}
use mathlib.Core.Bool.{Bool, true, false}
use Prim.Native.Nat.{ℕ, suc, ◌+◌, ◌*◌, ◌^◌, ◌<◌}
use native.Mathlib.Nat.{le_of_lt, mul-le-mul_right, mul-one, zero-mul}
use native.Mathlib.Omega.{arith}
use lib.Dec.{T}
use lib.Ieee.{Float, fits, binary64}
use lib.Ieee.Scale.{finite}
use lib.Pow.{pow_pos, pow-add}
use Rattle.exact.specs.Fraction.{nat, ◌≺◌, ◌≈◌}
use Rattle.exact.proofs.Fraction.Parts.{nat-pos}
use Rattle.exact.proofs.Fraction.Readers.{top_resp, top_parts, bottom-parts, top_nat, bottom-nat}
use Rattle.sheet.specs.declared.Sheet.{Sheet}
use Rattle.sheet.specs.Number.{bias, value}
use Rattle.sheet.specs.Round.{round}
use Rattle.sheet.specs.Range.{extent, Span, Width, InRange}
use Rattle.sheet.proofs.Gaps.{zero_or_pos}
use Rattle.sheet.proofs.Laws.{round_whole, round_spelled}
use Rattle.sheet.proofs.Live.{bias-is, few-digits}
use Rattle.sheet.proofs.Measures.{span_within}
use Rattle.doubles.specs.Double.{exact_of}
use Rattle.doubles.proofs.Given.{given_within}
use Rattle.bracket.specs.declared.Bracket.{Bracket}
use Rattle.bracket.specs.Span.{whole, Ordered, ◌≃◌, Span as Interval}
use Rattle.bracket.specs.Rules.{ends, rounded, given, plus, minus, times, divided}
use Rattle.bracket.specs.Held.{Held}
use Rattle.bracket.proofs.Within.{point-ordered}
use Rattle.bracket.proofs.Inclusion.{given_ordered}
use Rattle.bracket.proofs.Same.{≃-refl, ≃-sym, plus-≃, minus-≃, times-≃, divided-≃}

pub given_whole : (v n : ℕ) → n < 2 ^ suc v → ends (given (suc v) (nat n)) ≃ whole n
unfolding rounded
given_whole v n h = record { low = round_whole false v n h; high = round_whole true v n h }

-- a is the code's bracket of n
module _ (v n : ℕ) {a : Bracket} (few : n < 2 ^ suc v) (is : a ≡ given (suc v) (nat n)) (X : Interval) where
  same : ends a ≃ whole n
  same = subst (λ (b : Bracket). ends b ≃ whole n) (sym is) (given_whole v n few)

  pub plus-whole : plus (suc v) (ends a) X ≡ plus (suc v) (whole n) X
  plus-whole = plus-≃ v same (≃-refl X)

  pub minus-whole : minus (suc v) X (ends a) ≡ minus (suc v) X (whole n)
  minus-whole = minus-≃ v (≃-refl X) same

  pub whole_minus : minus (suc v) (ends a) X ≡ minus (suc v) (whole n) X
  whole_minus = minus-≃ v same (≃-refl X)

  pub times-whole : times (suc v) (ends a) X ≡ times (suc v) (whole n) X
  times-whole = times-≃ v same (≃-refl X)

  pub divided-whole : 0 < n → divided (suc v) X (ends a) ≡ divided (suc v) X (whole n)
  divided-whole p = sym (divided-≃ v (≃-refl X) (≃-sym same) (point-ordered (nat n)) (nat-pos p))

  pub whole_divided : Ordered X → nat 0 ≺ X.low → divided (suc v) (ends a) X ≡ divided (suc v) (whole n) X
  whole_divided o p = divided-≃ v same (≃-refl X) o p

-- ---- the range

whole_extent : (s : Sheet) (n : ℕ) → value s ≈ nat n → extent s ≡ n * 2 ^ bias
unfolding value
whole_extent s n e =
    let r = rw (top_parts s.neg (extent s) (2 ^ bias), bottom-parts s.neg (extent s) (2 ^ bias) (pow_pos bias), top_nat n, bottom-nat n) at (top_resp e) in
    sym (mul-one (extent s)) ∙ r

whole_span : (n : ℕ) → n < 2 ^ 32 → Span bias (bias + 32) (n * 2 ^ bias)
whole_span n h =
    record {
      least = ⊎_elim (λ z. inl (ap (λ (k : ℕ). k * 2 ^ bias) z ∙ zero-mul (2 ^ bias))) (λ p. inr (omega (arith, mul-le-mul_right (2 ^ bias) p))) (zero_or_pos n);
      most = rw (pow-add 2 bias 32) (omega (arith, mul-le-mul_right (2 ^ bias) (le_of_lt h)));
    }

whole_in_range : {v : ℕ} → Width v → (up : Bool) (n : ℕ) → n < 2 ^ 32 → InRange v (round up (suc v) (nat n))
whole_in_range {v} w up n h =
    let b = bias-is in
    record {
      width = w;
      within =
          span_within v 80000 80000 bias (bias + 32) (round up (suc v) (nat n)) (round_spelled up v (nat n))
          (subst (Span bias (bias + 32)) (sym (whole_extent (round up (suc v) (nat n)) n (round_whole up v n (few-digits w h)))) (whole_span n h))
          (omega (arith, w.high))
          (omega (arith, w.high))
          (omega (arith, w.high));
    }

pub whole_held : {v : ℕ} → Width v → (n : ℕ) → n < 2 ^ 32 → Held v (given (suc v) (nat n))
unfolding rounded
whole_held {v} w n h = record { lo = whole_in_range w false n h; hi = whole_in_range w true n h; order = (given_ordered v (nat n)).order }

pub double-held : {v : ℕ} → Width v → (x : Float) → T (fits binary64 x) → T (finite x) → Held v (given (suc v) (exact_of x))
unfolding rounded
double-held {v} w x f h =
    record {
      lo = record { width = w; within = given_within false v x (omega (arith, w.high)) f h };
      hi = record { width = w; within = given_within true v x (omega (arith, w.high)) f h };
      order = (given_ordered v (exact_of x)).order;
    }
