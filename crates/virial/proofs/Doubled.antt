-- The ends of B, C and the pressure are exactly f64s, for every sound table and every input of the profile, at either width. Assumes nothing.
use Prim.Native.Nat.{ℕ, suc, ◌+◌, ◌-◌, ◌*◌, ◌≤◌}
use native.Mathlib.Nat.{le_refl}
use native.Mathlib.Omega.{arith}
use mathlib.Core.Path.{◌≡◌}
use mathlib.Core.Bool.{true}
use mathlib.Core.List.{List}
use lib.Dec.{T}
use lib.Ieee.{Float}
use Rattle.sheet.specs.Number.{bias}
use Rattle.sheet.specs.Range.{Width, Doubled}
use Rattle.doubles.specs.Double.{exact_of}
use Rattle.term.specs.Sound.{sound_table}
use Rattle.bracket.specs.declared.Bracket.{Bracket}
use Rattle.bracket.specs.Span.{Each}
use Rattle.bracket.specs.Rules.{ends}
use Rattle.bracket.specs.Held.{Ends}
use Rattle.measure.specs.Measure.{Digited}
use Rattle.measure.proofs.Sizes.{doubled_both}
use Rattle.equation.proofs.Room.{room}
use Rattle.equation.proofs.Weaker.{digits-fine}
use Rattle.verdict.specs.Handed.{Handy}
use Rattle.verdict.proofs.HandedOut.{handy}
use Rattle.virial.specs.Profile.{profile_temperature, profile_density}
use Rattle.virial.specs.Rules.{coefficients, pressure_of}
use Rattle.virial.specs.Ranged.{CoefficientsIn}
use Rattle.virial.proofs.Wider.{temperature_in, density_in}
use Rattle.virial.proofs.Ranges.{pressure-digits}
use Rattle.virial.proofs.Holds.{coefficients-in, pressure-held}

-- digits down to 2^-(213 + 2 v) leave room for v more
small-doubled : {v l h : ℕ} → v ≤ 62 → (b : Bracket) → bias ≤ l + (213 + 2 * v) → h ≤ bias + 300 → Each (Digited v l h) (ends b) → Ends Doubled b
small-doubled {v} bits b low high e =
    let r = room in
    doubled_both {g = bias - 1074} b (digits-fine (omega arith) high e) (omega arith) (omega arith)

module _ {v : ℕ} (w : Width v) (table : List ℕ) (sound : sound_table 38 table ≡ true) (t : Float) (hot : T (profile_temperature t)) where
  pub coefficients-ready : CoefficientsIn v (coefficients (suc v) table (exact_of t))
  coefficients-ready = coefficients-in w table sound (temperature_in t hot)

  pub second_handy : Handy (coefficients (suc v) table (exact_of t)).second
  second_handy =
      let r = room in
      let x = coefficients-ready.second in
      handy _ x.held (small-doubled (omega (arith, w.high)) _ (omega arith) (omega arith) x.each)

  pub third-handy : Handy (coefficients (suc v) table (exact_of t)).third
  third-handy =
      let r = room in
      let x = coefficients-ready.third in
      handy _ x.held (small-doubled (omega (arith, w.high)) _ (omega (arith, w.low)) (omega arith) x.each)

  pub pressure-handy : (rho : Float) → T (profile_density rho) → Handy (pressure_of (suc v) (exact_of t) (exact_of rho) (coefficients (suc v) table (exact_of t)))
  pressure-handy rho thin =
      let r = room in
      let x = coefficients-ready in
      let d = density_in rho thin in
      handy _ (pressure-held _ x d (temperature_in t hot))
      (small-doubled (omega (arith, w.high)) _ (omega arith) (le_refl _)
      (pressure-digits v (omega (arith, w.high)) _ x.second.each x.third.each d (temperature_in t hot)))
