-- The range of the card's brackets, for every sound table and every input that a kind accepts, over the count of bits suc v. The numbers are
-- the exponents n of 2^n between which the ends lie, zero aside. Assumes nothing.
use Prim.Native.Nat.{ℕ, zero, suc, ◌+◌, ◌-◌, ◌*◌, ◌≤◌, ◌<◌}
use native.Mathlib.Nat.{le_refl, one-mul}
use native.Mathlib.Omega.{arith}
use lib.Pow.{pow-add, pow_mono}
use mathlib.Core.Bool.{Bool, true, false, cond}
use Rattle.exact.specs.Fraction.{Fraction, nat, ◌≺◌}
use Rattle.sheet.specs.Number.{bias}
use Rattle.term.specs.declared.Term.{Term}
use Rattle.term.specs.Bounds.{Bounds}
use Rattle.bracket.specs.declared.Bracket.{Bracket}
use Rattle.bracket.specs.Span.{whole, Each}
use Rattle.bracket.specs.Rules.{ends, given, plus, minus, times}
use Rattle.measure.specs.Measure.{Fine, Digited}
use Rattle.measure.proofs.Measure.{nat-fine}
use Rattle.measure.proofs.Sizes.{Summed, Positive, Plus, plus-positive, digits-sized, plus-sized, whole_positive, given_summed, times-plus, times-sized, divided-sized, whole_times_summed, plus-summed, minus-summed}
use Rattle.equation.specs.Accepted.{Temperature, Density}
use Rattle.equation.proofs.Room.{room}
use Rattle.equation.proofs.Weaker.{digits-fine, summed_fine, summed_digits, summed_in}
use Rattle.equation.proofs.Ranges.{density_plus, tau-powers_plus, coefficient-sized}
use Rattle.equation.proofs.StatesRange.{density_heat-plus}
use Rattle.virial.specs.declared.Pick.{Pick}
use Rattle.virial.specs.declared.Coefficients.{Coefficients}
use Rattle.virial.specs.Sums.{picks, addend, with_term, sum_first}
use Rattle.virial.specs.Rules.{second_of, critical_square, third_of, polynomial, pressure_of}

module _ (v : ℕ) where
  -- ---- 322, and its square

  critical : Each (Positive (bias + 8) (bias + 9)) (whole 322)
  critical = whole_positive (bias + 8) (bias + 9) 322 (omega arith) (rw (pow-add 2 bias 8) (omega arith)) (rw (pow-add 2 bias 9) (omega arith))

  pub square-plus : Each (Plus v (bias + 16) (bias + 18)) (ends (critical_square (suc v)))
  square-plus = times-plus v (omega arith) (omega arith) critical critical

  pub square_above : nat 0 ≺ (ends (critical_square (suc v))).low
  square_above = square-plus.low.above

  -- ---- one term, and the sums over terms

  module _ (b : Bracket) (q : Each (Plus v (bias - 2) (bias + 3)) (ends b)) where
    pub addend-sized : (term : Term) → Bounds term → Each (Digited v (bias - 180) (bias + 193)) (ends (addend (suc v) term b))
    unfolding addend
    addend-sized term s =
        let r = room in
        times-sized v (omega arith) (omega arith) (digits-sized (coefficient-sized v term s)) (plus-sized (tau-powers_plus v b q term.t s.t_most))

    -- the fineness stays, the size grows by at most a place a term
    pub plus-addend : v ≤ 62 → (n : ℕ) (s : Bracket) → Each (Summed v (bias - (180 + v)) (bias + 193 + n)) (ends s) → (term : Term) → Bounds term
        → Each (Summed v (bias - (180 + v)) (bias + 193 + suc n)) (ends (plus (suc v) (ends s) (ends (addend (suc v) term b))))
    plus-addend bits n s p term sound =
        let r = room in
        summed_in (omega arith) (plus-summed v (summed_fine (le_refl _) p) (digits-fine (omega arith) (omega arith) (addend-sized term sound)))

    pub sum_first-summed : v ≤ 62 → (pick : Pick) (terms : ℕ → Term) (n : ℕ) → ((k : ℕ) → k < n → Bounds (terms k))
        → Each (Summed v (bias - (180 + v)) (bias + 193 + n)) (ends (sum_first (suc v) pick terms b n))
    unfolding sum_first with_term
    sum_first-summed bits pick terms zero sound = given_summed v (nat-fine 0 (omega arith) (omega arith))
    sum_first-summed bits pick terms (suc n) sound = go (picks pick (terms n)) (sum_first-summed bits pick terms n (λ k l. sound k (omega arith)))
      where
        go : (p : Bool) → Each (Summed v (bias - (180 + v)) (bias + 193 + n)) (ends (sum_first (suc v) pick terms b n))
            → Each (Summed v (bias - (180 + v)) (bias + 193 + suc n))
            (ends (cond p (plus (suc v) (ends (sum_first (suc v) pick terms b n)) (ends (addend (suc v) (terms n) b))) (sum_first (suc v) pick terms b n)))
        go true s = plus-addend bits n _ s (terms n) (sound n (omega arith))
        go false s = summed_in (omega arith) s

  -- ---- B and C

  module _ (bits : v ≤ 62) where
    pub second_digits : (s : Bracket) → Each (Summed v (bias - (180 + v)) (bias + 257)) (ends s) → Each (Digited v (bias - (189 + v)) (bias + 249)) (ends (second_of (suc v) s))
    unfolding second_of
    second_digits s p = let r = room in divided-sized v (omega arith) (omega arith) (digits-sized (summed_digits p)) critical

    module _ (s d : Bracket) (p : Each (Summed v (bias - (180 + v)) (bias + 257)) (ends s)) (q : Each (Summed v (bias - (180 + v)) (bias + 257)) (ends d)) where
      pub apart-summed : Each (Summed v (bias - (180 + v)) (bias + 258)) (ends (minus (suc v) (ends s) (ends d)))
      apart-summed = summed_in (omega arith) (minus-summed v (summed_fine (le_refl _) p) (summed_fine (le_refl _) q))

      pub twice-summed : Each (Summed v (bias - (180 + v)) (bias + 259)) (ends (times (suc v) (whole 2) (ends (minus (suc v) (ends s) (ends d)))))
      twice-summed = summed_in (omega arith) (whole_times_summed v 1 2 (omega arith) (summed_fine (le_refl _) apart-summed))

      pub third-digits : Each (Digited v (bias - (198 + v)) (bias + 243)) (ends (third_of (suc v) s d))
      unfolding third_of
      third-digits = let r = room in divided-sized v (omega arith) (omega arith) (digits-sized (summed_digits twice-summed)) (plus-positive square-plus)

    -- ---- the polynomial and its pressure

    module _ (x : Coefficients) (p : Each (Digited v (bias - (189 + v)) (bias + 249)) (ends x.second)) (q : Each (Digited v (bias - (198 + v)) (bias + 243)) (ends x.third))
        {rho : Fraction} (d : Density rho) where
      -- B times rho; C times rho, and that times rho
      pub linear_digits : Each (Digited v (bias - (199 + v)) (bias + 261)) (ends (times (suc v) (ends x.second) (ends (given (suc v) rho))))
      linear_digits = let r = room in times-sized v (omega arith) (omega arith) (digits-sized p) (plus-sized (density_plus v d))

      pub bend_digits : Each (Digited v (bias - (208 + v)) (bias + 255)) (ends (times (suc v) (ends x.third) (ends (given (suc v) rho))))
      bend_digits = let r = room in times-sized v (omega arith) (omega arith) (digits-sized q) (plus-sized (density_plus v d))

      pub bent_digits : Each (Digited v (bias - (218 + v)) (bias + 267)) (ends (times (suc v) (ends (times (suc v) (ends x.third) (ends (given (suc v) rho)))) (ends (given (suc v) rho))))
      bent_digits = let r = room in times-sized v (omega arith) (omega arith) (digits-sized bend_digits) (plus-sized (density_plus v d))

      pub one-linear_summed : Each (Summed v (bias - (218 + 2 * v)) (bias + 262)) (ends (plus (suc v) (whole 1) (ends (times (suc v) (ends x.second) (ends (given (suc v) rho))))))
      one-linear_summed =
          let r = room in
          let one : Fine (bias - (218 + 2 * v)) (bias + 261) (nat 1) = nat-fine 1 (omega arith) (rw one-mul (pow_mono (omega arith))) in
          summed_in (omega arith) (plus-summed v (record { low = one; high = one }) (digits-fine (omega arith) (le_refl (bias + 261)) linear_digits))

      pub polynomial-summed : Each (Summed v (bias - (218 + 2 * v)) (bias + 268)) (ends (polynomial (suc v) rho x))
      unfolding polynomial
      polynomial-summed =
          let r = room in
          summed_in (omega arith) (plus-summed v {h = bias + 267} (summed_fine (omega arith) one-linear_summed) (digits-fine (omega arith) (le_refl (bias + 267)) bent_digits))

      pub pressure-digits : {T : Fraction} → Temperature T → Each (Digited v (bias - (213 + 2 * v)) (bias + 300)) (ends (pressure_of (suc v) T rho x))
      unfolding pressure_of
      pressure-digits t =
          let r = room in
          times-sized v (omega arith) (omega arith) (plus-sized (density_heat-plus v bits t d)) (digits-sized (summed_digits polynomial-summed))
