-- Inputs that passed their checks: the sums are in range, and every bracket that is handed out has ends that are exactly f64s. Assumes nothing.
use Prim.Native.Nat.{ℕ, suc}
use native.Mathlib.Omega.{arith}
use mathlib.Core.Path.{◌≡◌}
use mathlib.Core.Bool.{true}
use mathlib.Core.List.{List}
use lib.Dec.{T}
use lib.Ieee.{Float, fits, binary64}
use Rattle.exact.specs.Fraction.{◌≼◌}
use Rattle.sheet.specs.Range.{Width}
use Rattle.doubles.specs.Double.{exact_of}
use Rattle.doubles.specs.Range.{accepted_temperature, accepted_density, accepted_target}
use Rattle.doubles.proofs.Handed.{exact_double}
use Rattle.term.specs.Sound.{sound_table}
use Rattle.equation.specs.Rules.{sums, pressure, stiffness, gibbs_gap, target_gap, pressure_gap}
use Rattle.equation.specs.Ranged.{SumsIn, PressureIn}
use Rattle.equation.proofs.HoldsSums.{sums-in}
use Rattle.equation.proofs.Doubled.{pressure-doubled, stiffness-doubled, gibbs_gap-doubled, pressure_gap-doubled, target_gap-doubled, pressure-held, stiffness-held, gibbs_gap-held, pressure_gap-held, target_gap-held}
use Rattle.verdict.specs.Handed.{Handy}
use Rattle.verdict.proofs.Tests.{temperature_in, density_in, target_in, target_finite}
use Rattle.verdict.proofs.HandedOut.{handy}

module _ {v : ℕ} (w : Width v) (kind : ℕ) (table : List ℕ) (sound : sound_table kind table ≡ true) (t : Float) (hot : T (accepted_temperature kind t)) where
  module _ (rho : Float) (d : T (accepted_density kind rho)) where
    pub sums-ready : SumsIn v (sums (suc v) kind table (exact_of t) (exact_of rho))
    sums-ready = sums-in w kind table sound (temperature_in kind t hot) (density_in kind rho d)

    pub pressure-ready : PressureIn v (pressure (suc v) kind table (exact_of t) (exact_of rho))
    pressure-ready = pressure-held w kind table sound (temperature_in kind t hot) (density_in kind rho d)

    pub pressure-handy : Handy (pressure (suc v) kind table (exact_of t) (exact_of rho))
    pressure-handy = handy _ pressure-ready.held (pressure-doubled v (omega (arith, w.low)) (omega (arith, w.high)) kind table sound (temperature_in kind t hot) (density_in kind rho d))

    pub stiffness-handy : Handy (stiffness (suc v) kind table (exact_of t) (exact_of rho))
    stiffness-handy =
        handy _ (stiffness-held w kind table sound (temperature_in kind t hot) (density_in kind rho d))
        (stiffness-doubled v (omega (arith, w.low)) (omega (arith, w.high)) kind table sound (temperature_in kind t hot) (density_in kind rho d))

    -- the target is an f64 itself, so that its gap ends at an f64's last place at the latest
    pub target_gap-handy : (target : Float) → T (fits binary64 target) → T (accepted_target kind target)
        → Handy (target_gap (suc v) kind table (exact_of t) (exact_of rho) (exact_of target))
    target_gap-handy target f a =
        let x = exact_double target f (target_finite kind target a) in
        handy _ (target_gap-held w kind table sound (temperature_in kind t hot) (density_in kind rho d) x (target_in kind target a))
        (target_gap-doubled v (omega (arith, w.low)) (omega (arith, w.high)) kind table sound (temperature_in kind t hot) (density_in kind rho d) x (target_in kind target a))

  module _ (liquid vapour : Float) (l : T (accepted_density kind liquid)) (g : T (accepted_density kind vapour)) where
    pub pressure_gap-handy : Handy (pressure_gap (suc v) kind table (exact_of t) (exact_of liquid) (exact_of vapour))
    pressure_gap-handy =
        handy _ (pressure_gap-held w kind table sound (temperature_in kind t hot) (density_in kind liquid l) (density_in kind vapour g))
        (pressure_gap-doubled v (omega (arith, w.low)) (omega (arith, w.high)) kind table sound (temperature_in kind t hot) (density_in kind liquid l) (density_in kind vapour g))

    pub gibbs_gap-handy : exact_of vapour ≼ exact_of liquid → Handy (gibbs_gap (suc v) kind table (exact_of t) (exact_of liquid) (exact_of vapour))
    gibbs_gap-handy above =
        handy _ (gibbs_gap-held w kind table sound (temperature_in kind t hot) (density_in kind liquid l) (density_in kind vapour g) above)
        (gibbs_gap-doubled v (omega (arith, w.low)) (omega (arith, w.high)) kind table sound (temperature_in kind t hot) (density_in kind liquid l) (density_in kind vapour g) above)
