-- The range of what the sums are put into: pressure, stiffness, Gibbs gap and the gaps of pressure, over the count of bits suc v. Assumes nothing.
use Prim.Native.Nat.{ℕ, suc, ◌+◌, ◌-◌, ◌*◌, ◌≤◌}
use native.Mathlib.Nat.{le_refl, one-mul}
use native.Mathlib.Omega.{arith}
use lib.Pow.{pow_mono}
use Rattle.exact.specs.Fraction.{Fraction, nat, ◌≼◌}
use Rattle.sheet.specs.Number.{bias}
use Rattle.bracket.specs.Span.{Span, whole, Each}
use Rattle.bracket.specs.Rules.{ends, given, plus, minus, times}
use Rattle.series.proofs.LnRatioRange.{ln_ratio-summed}
use Rattle.series.specs.Logarithm.{ln_ratio}
use Rattle.measure.specs.Measure.{Fine, Digited}
use Rattle.measure.proofs.Lift.{each_map}
use Rattle.measure.proofs.Measure.{fine_in, nat-fine}
use Rattle.measure.proofs.Sizes.{Summed, Plus, plus-positive, digits-sized, plus-sized, times-plus, times-sized, whole_times_summed, plus-summed, minus-summed, whole_plus}
use Rattle.equation.specs.declared.Sums.{Sums}
use Rattle.equation.specs.Constants.{gas_constant}
use Rattle.equation.specs.Ranged.{Ranged}
use Rattle.equation.specs.Accepted.{Temperature, Density}
use Rattle.equation.specs.Rules.{gas_heat, density_heat, pressure_factor, stiffness_factor, sums_apart, pressure_of, stiffness_of, gibbs_gap_of}
use Rattle.equation.proofs.Room.{room}
use Rattle.equation.proofs.Weaker.{digits_in, digits-fine, summed_fine, summed_digits, summed_in}
use Rattle.equation.proofs.Ranges.{density_plus, temperature_plus, gas_plus}

-- ---- what the sums are put into

module _ (v : ℕ) (bits : v ≤ 62) where
  module _ {s : Sums} (p : Ranged v s) where
    pub pressure_factor-digits : Each (Digited v (bias - suc v) (bias + 522)) (ends (pressure_factor (suc v) s))
    unfolding pressure_factor
    pressure_factor-digits =
        let r = room in
        digits_in (omega arith) (omega arith)
        (whole_plus v {k = bias - suc v} {h = bias + 521} {l = bias - (779 + 4 * v)} 1 (omega arith) (omega arith) (rw one-mul (pow_mono (omega arith))) (summed_digits p.s1))

    pub twice : Each (Summed v (bias - (779 + 4 * v)) (1 + (bias + 521))) (ends (times (suc v) (whole 2) (ends s.s1)))
    twice = whole_times_summed v 1 2 (omega arith) (summed_fine (le_refl _) p.s1)

    pub one-twice : Each (Summed v (bias - (779 + 4 * v)) (bias + 523)) (ends (plus (suc v) (whole 1) (ends (times (suc v) (whole 2) (ends s.s1)))))
    one-twice =
        let one : Fine (bias - (779 + 4 * v)) (bias + 522) (nat 1) = nat-fine 1 (omega arith) (rw one-mul (pow_mono (omega arith))) in
        summed_in (omega arith) (plus-summed v (record { low = one; high = one }) (summed_fine (omega arith) twice))

    pub stiffness_factor-summed : Each (Summed v (bias - (779 + 4 * v)) (bias + 524)) (ends (stiffness_factor (suc v) s))
    unfolding stiffness_factor
    stiffness_factor-summed = summed_in (omega arith) (plus-summed v {h = bias + 523} (summed_fine (le_refl _) one-twice) (summed_fine (omega arith) p.s2))

    pub zeroth_first : Each (Summed v (bias - (779 + 4 * v)) (bias + 522)) (ends (plus (suc v) (ends s.s0) (ends s.s1)))
    zeroth_first = summed_in (omega arith) (plus-summed v (summed_fine (le_refl _) p.s0) (summed_fine (le_refl _) p.s1))

  module _ {x y : Sums} (p : Ranged v x) (q : Ranged v y) where
    pub sums_apart-summed : Each (Summed v (bias - (779 + 4 * v)) (bias + 523)) (ends (sums_apart (suc v) x y))
    unfolding sums_apart
    sums_apart-summed = summed_in (omega arith) (minus-summed v (summed_fine (le_refl _) (zeroth_first p)) (summed_fine (le_refl _) (zeroth_first q)))

    pub logarithm_apart : 8 ≤ v → {liquid vapour : Fraction} → Density liquid → Density vapour → vapour ≼ liquid
        → Each (Summed v (bias - (779 + 4 * v)) (bias + 524)) (ends (plus (suc v) (ends (ln_ratio (suc v) liquid vapour)) (ends (sums_apart (suc v) x y))))
    logarithm_apart digits l g above =
        let r = room in
        summed_in (omega arith)
        (plus-summed v {h = bias + 523}
        (each_map (λ _ z. fine_in (omega arith) (omega arith) z.fine) (ln_ratio-summed v (omega arith) (omega arith) g.thin l.dense above))
        (summed_fine (le_refl _) sums_apart-summed))

-- ---- pressure, stiffness and Gibbs gap, by sums in range

module _ (v : ℕ) (bits : v ≤ 62) {T : Fraction} (t : Temperature T) where
  pub gas_heat-plus : Each (Plus v (bias + 15) (bias + 20)) (ends (gas_heat (suc v) T))
  unfolding gas_heat
  gas_heat-plus = times-plus v (omega arith) (omega arith) (plus-positive (gas_plus v)) (plus-positive (temperature_plus v t))

  module _ {rho : Fraction} (d : Density rho) where
    pub rho_gas : Each (Plus v (bias - 2) (bias + 21)) (ends (times (suc v) (ends (given (suc v) rho)) (ends (given (suc v) gas_constant))))
    rho_gas = let r = room in times-plus v (omega arith) (omega arith) (plus-positive (density_plus v d)) (plus-positive (gas_plus v))

    pub density_heat-plus : Each (Plus v (bias + 5) (bias + 32)) (ends (density_heat (suc v) T rho))
    unfolding density_heat
    density_heat-plus = let r = room in times-plus v (omega arith) (omega arith) (plus-positive rho_gas) (plus-positive (temperature_plus v t))

    pub pressure_of-digits : {s : Sums} → Ranged v s → Each (Digited v (bias - suc v) (bias + 554)) (ends (pressure_of (suc v) T rho s))
    unfolding pressure_of
    pressure_of-digits p = let r = room in times-sized v (omega arith) (omega arith) (plus-sized density_heat-plus) (digits-sized (pressure_factor-digits v bits p))

  pub stiffness_of-digits : {s : Sums} → Ranged v s → Each (Digited v (bias - (764 + 4 * v)) (bias + 544)) (ends (stiffness_of (suc v) T s))
  unfolding stiffness_of
  stiffness_of-digits p = let r = room in times-sized v (omega arith) (omega arith) (plus-sized gas_heat-plus) (digits-sized (summed_digits (stiffness_factor-summed v bits p)))

  pub gibbs_gap_of-digits : 8 ≤ v → {x y : Sums} → Ranged v x → Ranged v y → {liquid vapour : Fraction} → Density liquid → Density vapour → vapour ≼ liquid
      → Each (Digited v (bias - (764 + 4 * v)) (bias + 544)) (ends (gibbs_gap_of (suc v) T liquid vapour x y))
  unfolding gibbs_gap_of
  gibbs_gap_of-digits digits p q l g above =
      let r = room in
      times-sized v (omega arith) (omega arith) (plus-sized gas_heat-plus) (digits-sized (summed_digits (logarithm_apart v bits p q digits l g above)))

-- ---- the gaps of pressure

module _ (v : ℕ) (bits : v ≤ 62) {A B : Span} (p : Each (Digited v (bias - suc v) (bias + 554)) A) where
  pub pressures_apart : Each (Digited v (bias - suc v) (bias + 554)) B → Each (Summed v (bias - (2 * v + 1)) (bias + 555)) (ends (minus (suc v) A B))
  pressures_apart q =
      let r = room in
      summed_in (omega arith) (minus-summed v (digits-fine (omega arith) (le_refl (bias + 554)) p) (digits-fine (omega arith) (le_refl (bias + 554)) q))

  -- a target is a multiple of an f64's last place
  pub target_apart : Each (Summed v (bias - 1074) (bias + 35)) B → Each (Summed v (bias - 1074) (bias + 555)) (ends (minus (suc v) A B))
  target_apart q =
      let r = room in
      summed_in (omega arith) (minus-summed v {h = bias + 554} (digits-fine (omega arith) (le_refl (bias + 554)) p) (summed_fine (omega arith) q))
