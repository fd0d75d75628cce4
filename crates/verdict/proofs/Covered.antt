-- The ends that are handed out for a bracket of either width are exactly its own, and the value of the equation itself lies between them at
-- every level from 256: pressure, stiffness and the three gaps. Assumes nothing.
use Prim.Native.Nat.{ℕ, ◌≤◌}
use mathlib.Core.Path.{◌≡◌}
use mathlib.Core.Bool.{true}
use mathlib.Core.List.{List}
use lib.Dec.{T}
use lib.Ieee.{Float, fits, binary64}
use Rattle.exact.specs.Fraction.{Fraction, ◌⊖◌, ◌≼◌}
use Rattle.doubles.specs.Double.{exact_of}
use Rattle.doubles.specs.Range.{accepted_temperature, accepted_density, accepted_target}
use Rattle.term.specs.Sound.{sound_table}
use Rattle.bracket.specs.declared.Bracket.{Bracket}
use Rattle.bracket.specs.Span.{◌∈◌}
use Rattle.bracket.specs.Rules.{ends}
use Rattle.equation.specs.Rules.{pressure, stiffness, gibbs_gap, target_gap, pressure_gap}
use Rattle.equation.specs.Itself.{pressure_at, stiffness_at, gibbs_gap_at}
use Rattle.equation.proofs.Covers.{covers_pressure, covers_stiffness, covers_gibbs_gap, covers_target_gap, covers_pressure_gap}
use Rattle.verdict.specs.declared.Ends.{Ends}
use Rattle.verdict.specs.Rules.{handed_out, sound_width}
use Rattle.verdict.specs.Balance.{Covers}
use Rattle.verdict.specs.Handed.{Handy}
use Rattle.verdict.proofs.Tests.{temperature_in, density_in}
use Rattle.verdict.proofs.EitherWidth.{at_width}
use Rattle.verdict.proofs.HandedOut.{handed-covers}
use Rattle.verdict.proofs.Ready.{pressure-handy, stiffness-handy, target_gap-handy, pressure_gap-handy, gibbs_gap-handy}

-- what lies in a bracket is covered by the ends that are handed out for it
between : (e : Ends) (b : Bracket) → Handy b → e ≡ handed_out b → {x : Fraction} → x ∈ ends b → Covers e b x
between e b h p i = rw p (handed-covers b h i)

module _ (w : ℕ) (wide : sound_width w ≡ true) (kind : ℕ) (table : List ℕ) (sound : sound_table kind table ≡ true) (t : Float) (hot : T (accepted_temperature kind t)) (e : Ends) (N : ℕ) (high : 256 ≤ N) where
  module _ (rho : Float) (dense : T (accepted_density kind rho)) where
    pub pressure-covered : e ≡ handed_out (pressure w kind table (exact_of t) (exact_of rho)) → Covers e (pressure w kind table (exact_of t) (exact_of rho)) (pressure_at N kind table (exact_of t) (exact_of rho))
    pressure-covered =
        at_width w
        (λ (n : ℕ). e ≡ handed_out (pressure n kind table (exact_of t) (exact_of rho)) → Covers e (pressure n kind table (exact_of t) (exact_of rho)) (pressure_at N kind table (exact_of t) (exact_of rho)))
        (λ v k p.
        between e _ (pressure-handy k kind table sound t hot rho dense) p
        (covers_pressure v N high kind table (temperature_in kind t hot) (density_in kind rho dense)))
        wide

    pub stiffness-covered : e ≡ handed_out (stiffness w kind table (exact_of t) (exact_of rho)) → Covers e (stiffness w kind table (exact_of t) (exact_of rho)) (stiffness_at N kind table (exact_of t) (exact_of rho))
    stiffness-covered =
        at_width w
        (λ (n : ℕ). e ≡ handed_out (stiffness n kind table (exact_of t) (exact_of rho)) → Covers e (stiffness n kind table (exact_of t) (exact_of rho)) (stiffness_at N kind table (exact_of t) (exact_of rho)))
        (λ v k p.
        between e _ (stiffness-handy k kind table sound t hot rho dense) p
        (covers_stiffness v N high kind table (temperature_in kind t hot) (density_in kind rho dense)))
        wide

    -- a target is an f64, and so a multiple of 2^-1074: that is what `fits` says, for the proofs' floats are wider than f64
    pub target_gap-covered : (target : Float) → T (fits binary64 target) → T (accepted_target kind target) → e ≡ handed_out (target_gap w kind table (exact_of t) (exact_of rho) (exact_of target))
        → Covers e (target_gap w kind table (exact_of t) (exact_of rho) (exact_of target)) (pressure_at N kind table (exact_of t) (exact_of rho) ⊖ exact_of target)
    target_gap-covered target fit aim =
        at_width w
        (λ (n : ℕ).
        e ≡ handed_out (target_gap n kind table (exact_of t) (exact_of rho) (exact_of target))
        → Covers e (target_gap n kind table (exact_of t) (exact_of rho) (exact_of target)) (pressure_at N kind table (exact_of t) (exact_of rho) ⊖ exact_of target))
        (λ v k p.
        between e _ (target_gap-handy k kind table sound t hot rho dense target fit aim) p
        (covers_target_gap v N high kind table (temperature_in kind t hot) (density_in kind rho dense) (exact_of target)))
        wide

  module _ (liquid vapour : Float) (dense : T (accepted_density kind liquid)) (thin : T (accepted_density kind vapour)) where
    pub pressure_gap-covered : e ≡ handed_out (pressure_gap w kind table (exact_of t) (exact_of liquid) (exact_of vapour))
        → Covers e (pressure_gap w kind table (exact_of t) (exact_of liquid) (exact_of vapour)) (pressure_at N kind table (exact_of t) (exact_of liquid) ⊖ pressure_at N kind table (exact_of t) (exact_of vapour))
    pressure_gap-covered =
        at_width w
        (λ (n : ℕ).
        e ≡ handed_out (pressure_gap n kind table (exact_of t) (exact_of liquid) (exact_of vapour))
        → Covers e (pressure_gap n kind table (exact_of t) (exact_of liquid) (exact_of vapour)) (pressure_at N kind table (exact_of t) (exact_of liquid) ⊖ pressure_at N kind table (exact_of t) (exact_of vapour)))
        (λ v k p.
        between e _ (pressure_gap-handy k kind table sound t hot liquid vapour dense thin) p
        (covers_pressure_gap v N high kind table (temperature_in kind t hot) (density_in kind liquid dense) (density_in kind vapour thin)))
        wide

    pub gibbs_gap-covered : exact_of vapour ≼ exact_of liquid → e ≡ handed_out (gibbs_gap w kind table (exact_of t) (exact_of liquid) (exact_of vapour))
        → Covers e (gibbs_gap w kind table (exact_of t) (exact_of liquid) (exact_of vapour)) (gibbs_gap_at N kind table (exact_of t) (exact_of liquid) (exact_of vapour))
    gibbs_gap-covered above =
        at_width w
        (λ (n : ℕ).
        e ≡ handed_out (gibbs_gap n kind table (exact_of t) (exact_of liquid) (exact_of vapour))
        → Covers e (gibbs_gap n kind table (exact_of t) (exact_of liquid) (exact_of vapour)) (gibbs_gap_at N kind table (exact_of t) (exact_of liquid) (exact_of vapour)))
        (λ v k p.
        between e _ (gibbs_gap-handy k kind table sound t hot liquid vapour dense thin above) p
        (covers_gibbs_gap v N high kind table (temperature_in kind t hot) (density_in kind liquid dense) (density_in kind vapour thin) above))
        wide
