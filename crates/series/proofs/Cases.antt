-- 01's proved cases P9 and P10: the exponential at 0 is 1 and 1, the logarithm for densities 322 and 322 is 0 and 0. Over the count of bits
-- suc v. Assumes nothing.
use mathlib.Core.Path.{◌≡◌, refl, ap, ap₂, ◌∙◌}
use mathlib.Core.Bool.{Bool, true, false}
use Prim.Native.Nat.{ℕ, zero, suc, ◌+◌, ◌*◌, ◌^◌, ◌<◌}
use native.Mathlib.Omega.{arith}
use lib.Dec.{lit≤}
use lib.Pow.{pow_pos, pow-lt}
use Rattle.exact.specs.Fraction.{Fraction, nat, leq, ◌⊕◌, ◌⊖◌, ◌⊗◌, ◌⊘◌, ◌≺◌, ◌≈◌}
use Rattle.exact.proofs.Fraction.Order.{≼-antisym, ≈→≼, ≈→≽, ≈-refl, ≈-sym, ≈-trans, ≺-≈-trans}
use Rattle.exact.proofs.Fraction.Sum.{⊕-cong, ⊖-cong, ⊕-zero, ⊖-self}
use Rattle.exact.proofs.Fraction.Product.{⊗-cong, ⊗-zero, zero_⊗, ⊗-one}
use Rattle.exact.proofs.Fraction.Quotient.{⊘-cong, ⊘-mono-left, zero_⊘, ⊘-self}
use Rattle.exact.proofs.Fraction.Parts.{nat-pos}
use Rattle.sheet.specs.Number.{plain_zero}
use Rattle.sheet.specs.Round.{round, down}
use Rattle.sheet.proofs.Laws.{round_nought, round_resp}
use Rattle.sheet.proofs.Cases.{P1-down, P1-up}
use Rattle.doubles.specs.Ratio.{ratio_exponent, largest_up_to}
use Rattle.bracket.specs.declared.Bracket.{Bracket}
use Rattle.bracket.specs.Span.{Span, Each, whole, point, over, ◌≃◌}
use Rattle.bracket.specs.Rules.{ends, rounded, given, plus, times, divided, addlast}
use Rattle.bracket.proofs.Operands.{given_whole}
use Rattle.bracket.proofs.Same.{≃-refl, rounded-≃}
use Rattle.series.specs.Exponential.{exp_term, exp_sum, exp_total, expneg}
use Rattle.series.specs.Logarithm.{ln_power, ln_quotient, ln_sum, ln_total, ln_series, ln_two, ratio_r, ratio_z, ln_scaled, ln_ratio}
use Rattle.measure.proofs.Lift.{over-both}

-- an operation whose results over the ends are all c gives the bracket of c
result : (v : ℕ) {c : Fraction} {P Q : Fraction → Type 0} (f : Fraction → Fraction → Fraction) {A B : Span} → ((x y : Fraction) → P x → Q y → f x y ≈ c) → Each P A → Each Q B
    → rounded (suc v) (over f A B) ≡ given (suc v) c
result v {c} f h p q =
    let e = over-both {R = λ (z : Fraction). z ≈ c} f h p q in
    rounded-≃ v (record { low = e.low; high = e.high })

-- both ends are a
Is : Fraction → Fraction → Type 0
Is a x = x ≈ a

is_point : {a : Fraction} {A : Span} → A ≃ point a → Each (Is a) A
unfolding Is
is_point e = record { low = e.low; high = e.high }

Any : Fraction → Type 0
Any x = Unit {0}

any : (A : Span) → Each Any A
unfolding Any
any A = record { low = tt; high = tt }

module _ (v : ℕ) where
  one : 1 < 2 ^ suc v
  one = pow-lt {i = 0} (omega arith)

  0' : ends (given (suc v) (nat 0)) ≃ whole 0
  0' = given_whole v 0 (pow_pos (suc v))

  1' : ends (given (suc v) (nat 1)) ≃ whole 1
  1' = given_whole v 1 one

  -- ---- zero and one through the operations
  zero_times : (A B : Span) → A ≃ whole 0 → times (suc v) A B ≡ given (suc v) (nat 0)
  unfolding Is Any
  zero_times A B p = result v ◌⊗◌ (λ x y a b. ≈-trans (⊗-cong a (≈-refl y)) (zero_⊗ y)) (is_point p) (any B)

  times_zero : (A B : Span) → B ≃ whole 0 → times (suc v) A B ≡ given (suc v) (nat 0)
  unfolding Is Any
  times_zero A B p = result v ◌⊗◌ (λ x y a b. ≈-trans (⊗-cong (≈-refl x) b) (⊗-zero x)) (any A) (is_point p)

  zero_divided : (A B : Span) → A ≃ whole 0 → divided (suc v) A B ≡ given (suc v) (nat 0)
  unfolding Is Any
  zero_divided A B p =
      result v ◌⊘◌ (λ x y a b. ≈-trans (≼-antisym (⊘-mono-left y (≈→≼ a)) (⊘-mono-left y (≈→≽ a))) (zero_⊘ y)) (is_point p) (any B)

  plus-zero : {a : Fraction} (A B : Span) → A ≃ point a → B ≃ whole 0 → plus (suc v) A B ≡ given (suc v) a
  unfolding Is
  plus-zero {a} A B p q = result v ◌⊕◌ (λ x y e f. ≈-trans (⊕-cong e f) (⊕-zero a)) (is_point p) (is_point q)

  -- a number divided by itself
  self_divided : {a : Fraction} (A B : Span) → nat 0 ≺ a → A ≃ point a → B ≃ point a → divided (suc v) A B ≡ given (suc v) (nat 1)
  unfolding Is
  self_divided {a} A B pos p q =
      result v ◌⊘◌ (λ x y e f. ≈-trans (⊘-cong (≺-≈-trans pos (≈-sym f)) e f) (⊘-self pos)) (is_point p) (is_point q)

  -- with the last addend zero the sum stays
  last-zero : (n : ℕ) → n < 2 ^ suc v → addlast (suc v) (given (suc v) (nat n)) (given (suc v) (nat 0)) ≡ given (suc v) (nat n)
  unfolding addlast rounded
  last-zero n h =
      λ i. record {
        lo = down (suc v) (nat n);
        hi = round_resp true v (≈-trans (⊕-cong (given_whole v n h).high 0'.high) (⊕-zero (nat n))) i;
      }

  -- ---- P9
  term-zero : (k : ℕ) → exp_term (suc v) (whole 0) (suc k) ≡ given (suc v) (nat 0)
  unfolding exp_term
  term-zero k =
      let T = ends (exp_term (suc v) (whole 0) k) in
      ap (λ (b : Bracket). divided (suc v) (ends b) (whole (suc k))) (times_zero T (whole 0) (≃-refl (whole 0)))
      ∙ zero_divided (ends (given (suc v) (nat 0))) (whole (suc k)) 0'

  sum_one : (k : ℕ) → exp_sum (suc v) (whole 0) k ≡ given (suc v) (nat 1)
  unfolding exp_sum exp_term
  sum_one zero = refl
  sum_one (suc k) =
      ap₂ (λ (s t : Bracket). plus (suc v) (ends s) (ends t)) (sum_one k) (term-zero k)
      ∙ plus-zero (ends (given (suc v) (nat 1))) (ends (given (suc v) (nat 0))) 1' 0'

  pub exponential_at_zero : expneg (suc v) (whole 0) ≡ given (suc v) (nat 1)
  unfolding expneg exp_total
  exponential_at_zero =
      ap (λ (b : Bracket). divided (suc v) (whole 1) (ends b)) (ap₂ (addlast (suc v)) (sum_one 256) (term-zero 255) ∙ last-zero 1 one)
      ∙ self_divided (whole 1) (ends (given (suc v) (nat 1))) (nat-pos (lit≤ tt)) (≃-refl (whole 1)) 1'

  -- ---- P10
  Z : Bracket
  Z = given (suc v) (nat 0)

  power_zero : (j : ℕ) → ln_power (suc v) Z j ≡ Z
  unfolding ln_power Z
  power_zero zero = refl
  power_zero (suc j) =
      ap (λ (b : Bracket). times (suc v) (ends b) (ends (times (suc v) (ends Z) (ends Z)))) (power_zero j)
      ∙ zero_times (ends Z) (ends (times (suc v) (ends Z) (ends Z))) 0'

  quotient-zero : (j : ℕ) → ln_quotient (suc v) Z j ≡ Z
  unfolding ln_quotient Z
  quotient-zero j = ap (λ (b : Bracket). divided (suc v) (ends b) (whole (2 * j + 1))) (power_zero j) ∙ zero_divided (ends Z) (whole (2 * j + 1)) 0'

  sum_zero : (j : ℕ) → ln_sum (suc v) Z j ≡ Z
  unfolding ln_sum Z
  sum_zero zero = quotient-zero 0
  sum_zero (suc j) =
      ap₂ (λ (s t : Bracket). plus (suc v) (ends s) (ends t)) (sum_zero j) (quotient-zero (suc j)) ∙ plus-zero (ends Z) (ends Z) 0' 0'

  series_zero : ln_series (suc v) Z ≡ Z
  unfolding ln_series ln_total Z
  series_zero =
      ap (λ (b : Bracket). times (suc v) (whole 2) (ends b)) (ap₂ (addlast (suc v)) (sum_zero 20) (quotient-zero 20) ∙ last-zero 0 (pow_pos (suc v)))
      ∙ times_zero (whole 2) (ends Z) 0'

no_doubling : ratio_exponent (nat 322) (nat 322) ≡ 0
unfolding ratio_exponent largest_up_to leq nat ◌⊗◌
no_doubling = refl

module _ (v : ℕ) (h : 322 < 2 ^ suc v) where
  322' : ends (given (suc v) (nat 322)) ≃ whole 322
  322' = given_whole v 322 h

  times-one : times (suc v) (ends (given (suc v) (nat 322))) (whole 1) ≡ given (suc v) (nat 322)
  unfolding Is
  times-one = result v ◌⊗◌ (λ x y e f. ≈-trans (⊗-cong e f) (⊗-one (nat 322))) (is_point 322') (is_point (≃-refl (whole 1)))

  r_one : ratio_r (suc v) (nat 322) (nat 322) 0 ≡ given (suc v) (nat 1)
  unfolding ratio_r
  r_one =
      ap (λ (b : Bracket). divided (suc v) (ends (given (suc v) (nat 322))) (ends b)) times-one
      ∙ self_divided v (ends (given (suc v) (nat 322))) (ends (given (suc v) (nat 322))) (nat-pos (lit≤ tt)) 322' 322'

  z_zero : ratio_z (suc v) (given (suc v) (nat 1)) ≡ Z v
  unfolding ratio_z Is Z
  z_zero =
      let one = given (suc v) (nat 1) in
      ap (λ (b : Bracket). divided (suc v) (ends b) (ends (plus (suc v) (ends one) (whole 1))))
      (result v ◌⊖◌ (λ x y e f. ≈-trans (⊖-cong e f) (⊖-self (nat 1))) (is_point (1' v)) (is_point (≃-refl (whole 1))))
      ∙ zero_divided v (ends (given (suc v) (nat 0))) (ends (plus (suc v) (ends one) (whole 1))) (0' v)

  scaled-zero : ln_scaled (suc v) (nat 322) (nat 322) 0 ≡ given (suc v) (nat 0)
  unfolding ln_scaled Z
  scaled-zero =
      ap₂ (λ (s t : Bracket). plus (suc v) (ends s) (ends t)) (zero_times v (whole 0) (ends (ln_two (suc v))) (≃-refl (whole 0)))
      (ap (λ (b : Bracket). ln_series (suc v) (ratio_z (suc v) b)) r_one ∙ ap (ln_series (suc v)) z_zero ∙ series_zero v)
      ∙ plus-zero v (ends (given (suc v) (nat 0))) (ends (given (suc v) (nat 0))) (0' v) (0' v)

  pub logarithm_of_equals : ln_ratio (suc v) (nat 322) (nat 322) ≡ given (suc v) (nat 0)
  unfolding ln_ratio
  logarithm_of_equals = ap (ln_scaled (suc v) (nat 322) (nat 322)) no_doubling ∙ scaled-zero

-- ---- the two cases as 01 prints them, at 32 bits: both ends 1, and both zero; a place is counted from the bottom, so 2^-31 is 262113
pub P9 : expneg 32 (whole 0) ≡ record { lo = record { neg = false; m = 2 ^ 31; e = 262113 }; hi = record { neg = false; m = 2 ^ 31; e = 262113 } }
unfolding rounded
P9 = exponential_at_zero 31 ∙ (λ i. record { lo = P1-down i; hi = P1-up i })

no_sheet : (up : Bool) → round up 32 (nat 0) ≡ plain_zero
no_sheet up = round_nought up 31 (≈-refl (nat 0))

pub P10 : ln_ratio 32 (nat 322) (nat 322) ≡ record { lo = plain_zero; hi = plain_zero }
unfolding rounded
P10 = logarithm_of_equals 31 (lit≤ tt) ∙ (λ i. record { lo = no_sheet false i; hi = no_sheet true i })
