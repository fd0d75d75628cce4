-- What pressure, stiffness, Gibbs gap and the gaps are made of is held. Assumes nothing.
use Prim.Native.Nat.{ℕ, suc}
use native.Mathlib.Omega.{arith}
use Rattle.exact.specs.Fraction.{Fraction, ◌⊕◌, ◌⊖◌, ◌⊗◌, ◌≼◌}
use Rattle.sheet.specs.Range.{Width}
use Rattle.bracket.specs.Span.{whole}
use Rattle.bracket.specs.Rules.{ends, given, plus, times}
use Rattle.bracket.specs.Held.{Held}
use Rattle.series.specs.Logarithm.{ln_ratio, ln_scaled}
use Rattle.series.proofs.LnRatioRange.{ln_ratio-summed}
use Rattle.equation.specs.declared.Sums.{Sums}
use Rattle.equation.specs.Constants.{gas_constant}
use Rattle.equation.specs.Accepted.{Temperature, Density}
use Rattle.equation.specs.Ranged.{SumsIn, PressureIn}
use Rattle.equation.specs.Rules.{gas_heat, density_heat, pressure_factor, stiffness_factor, sums_apart, pressure_of}
use Rattle.equation.proofs.Weaker.{plus-digits, summed_digits}
use Rattle.equation.proofs.Room.{room}
use Rattle.equation.proofs.StatesRange.{gas_heat-plus, rho_gas, density_heat-plus, pressure_factor-digits, pressure_of-digits, twice, one-twice, stiffness_factor-summed, zeroth_first, sums_apart-summed, logarithm_apart}
use Rattle.equation.proofs.Holds.{combined-held}

pub ln_ratio-held : {v : ℕ} → Width v → {liquid vapour : Fraction} → Density liquid → Density vapour → vapour ≼ liquid → Held v (ln_ratio (suc v) liquid vapour)
unfolding ln_ratio ln_scaled
ln_ratio-held {v} w l g above =
    let r = room in
    combined-held w ◌⊕◌ _ _ (omega arith) (omega arith) (summed_digits (ln_ratio-summed v (omega arith) (omega arith) g.thin l.dense above))

module _ {v : ℕ} (w : Width v) {T : Fraction} (t : Temperature T) where
  pub gas_heat-held : Held v (gas_heat (suc v) T)
  unfolding gas_heat
  gas_heat-held = let r = room in combined-held w ◌⊗◌ _ _ (omega arith) (omega arith) (plus-digits (gas_heat-plus v (omega arith) t))

  module _ {rho : Fraction} (d : Density rho) where
    pub rho_gas_held : Held v (times (suc v) (ends (given (suc v) rho)) (ends (given (suc v) gas_constant)))
    rho_gas_held = let r = room in combined-held w ◌⊗◌ _ _ (omega arith) (omega arith) (plus-digits (rho_gas v (omega arith) t d))

    pub density_heat-held : Held v (density_heat (suc v) T rho)
    unfolding density_heat
    density_heat-held = let r = room in combined-held w ◌⊗◌ _ _ (omega arith) (omega arith) (plus-digits (density_heat-plus v (omega arith) t d))

    pub pressure-in : {s : Sums} → SumsIn v s → PressureIn v (pressure_of (suc v) T rho s)
    unfolding pressure_of
    pressure-in p =
        let r = room in
        let x = pressure_of-digits v (omega arith) t d p.ranged in
        record { held = combined-held w ◌⊗◌ _ _ (omega arith) (omega arith) x; each = x }

module _ {v : ℕ} {s : Sums} (p : SumsIn v s) where
  w : Width v
  w = p.held.s0.lo.width

  pub pressure_factor-held : Held v (pressure_factor (suc v) s)
  unfolding pressure_factor
  pressure_factor-held = let r = room in combined-held w ◌⊕◌ _ _ (omega arith) (omega arith) (pressure_factor-digits v (omega arith) p.ranged)

  pub twice-held : Held v (times (suc v) (whole 2) (ends s.s1))
  twice-held = let r = room in combined-held w ◌⊗◌ _ _ (omega arith) (omega arith) (summed_digits (twice v (omega arith) p.ranged))

  pub one-twice_held : Held v (plus (suc v) (whole 1) (ends (times (suc v) (whole 2) (ends s.s1))))
  one-twice_held = let r = room in combined-held w ◌⊕◌ _ _ (omega arith) (omega arith) (summed_digits (one-twice v (omega arith) p.ranged))

  pub stiffness_factor-held : Held v (stiffness_factor (suc v) s)
  unfolding stiffness_factor
  stiffness_factor-held = let r = room in combined-held w ◌⊕◌ _ _ (omega arith) (omega arith) (summed_digits (stiffness_factor-summed v (omega arith) p.ranged))

  pub zeroth_first_held : Held v (plus (suc v) (ends s.s0) (ends s.s1))
  zeroth_first_held = let r = room in combined-held w ◌⊕◌ _ _ (omega arith) (omega arith) (summed_digits (zeroth_first v (omega arith) p.ranged))

module _ {v : ℕ} {x y : Sums} (p : SumsIn v x) (q : SumsIn v y) where
  pub sums_apart-held : Held v (sums_apart (suc v) x y)
  unfolding sums_apart
  sums_apart-held = let r = room in combined-held p.held.s0.lo.width ◌⊖◌ _ _ (omega arith) (omega arith) (summed_digits (sums_apart-summed v (omega arith) p.ranged q.ranged))

  pub logarithm_apart_held : {liquid vapour : Fraction} → Density liquid → Density vapour → vapour ≼ liquid
      → Held v (plus (suc v) (ends (ln_ratio (suc v) liquid vapour)) (ends (sums_apart (suc v) x y)))
  logarithm_apart_held l g above =
      let r = room in
      combined-held p.held.s0.lo.width ◌⊕◌ _ _ (omega arith) (omega arith) (summed_digits (logarithm_apart v (omega arith) p.ranged q.ranged (omega arith) l g above))
