-- The pair check's steps at a glance, in the order of document 01's numbers, with 19 of document 02, d, first of all, 29 of document 02,
-- h, behind it, and 21 of document 02, f, between 8 and 9. Assumes nothing.
use Rattle.std.specs.Prelude.{Err}
use Prim.Native.Nat.{ℕ}
use mathlib.Core.Path.{◌≡◌, refl}
use mathlib.Core.Bool.{◌&&◌}
use mathlib.Core.List.{List, [], ◌∷◌}
use lib.ListN.{length}
use lib.Dec.{eqb}
use lib.Ieee.{Float}
use Rattle.kind.specs.Kind.{sound_kind}
use Rattle.doubles.specs.Double.{exact_of}
use Rattle.doubles.specs.Range.{accepted_pair_temperature, accepted_density, accepted_tolerance}
use Rattle.term.specs.Sound.{sound_length, first_broken}
use Rattle.equation.specs.Rules.{pressure, stiffness, gibbs_gap, pressure_gap}
use Rattle.verdict.specs.declared.Refusal.TheVariants.{Width, Kind, TableLength, BrokenTerm, Temperature, Density, Tolerance, Sides, Ceiling}
use Rattle.verdict.specs.declared.Rejection.TheVariants.{Refused, VapourPressure, PressureGap, GibbsGap, Stiffness}
use Rattle.verdict.specs.Rules.{pair_steps, sound_width, on_sides, under_ceiling, gap_passes, pushes_back, handed_out}

pub pair-checks : (w kind : ℕ) (table : List ℕ) (t liquid vapour pressure_tolerance gibbs_tolerance : Float)
    → pair_steps w kind table t liquid vapour pressure_tolerance gibbs_tolerance
    ≡ record { passes = sound_width w; otherwise = Err (Refused Width) }
    ∷ record { passes = sound_kind kind; otherwise = Err (Refused Kind) }
    ∷ record { passes = sound_length kind (length table); otherwise = Err (Refused TableLength) }
    ∷ record { passes = eqb (first_broken kind table) 0; otherwise = Err (Refused (BrokenTerm (first_broken kind table))) }
    ∷ record { passes = accepted_pair_temperature t; otherwise = Err (Refused Temperature) }
    ∷ record { passes = accepted_density kind liquid && accepted_density kind vapour; otherwise = Err (Refused Density) }
    ∷ record { passes = accepted_tolerance pressure_tolerance && accepted_tolerance gibbs_tolerance; otherwise = Err (Refused Tolerance) }
    ∷ record { passes = on_sides liquid vapour; otherwise = Err (Refused Sides) }
    ∷ record { passes = under_ceiling kind (pressure w kind table (exact_of t) (exact_of liquid)) && under_ceiling kind (pressure w kind table (exact_of t) (exact_of vapour)); otherwise = Err (Refused Ceiling) }
    ∷ record { passes = pushes_back (pressure w kind table (exact_of t) (exact_of vapour)); otherwise = Err (VapourPressure (handed_out (pressure w kind table (exact_of t) (exact_of vapour)))) }
    ∷ record { passes = gap_passes (pressure_gap w kind table (exact_of t) (exact_of liquid) (exact_of vapour)) pressure_tolerance; otherwise = Err (PressureGap (handed_out (pressure_gap w kind table (exact_of t) (exact_of liquid) (exact_of vapour)))) }
    ∷ record { passes = gap_passes (gibbs_gap w kind table (exact_of t) (exact_of liquid) (exact_of vapour)) gibbs_tolerance; otherwise = Err (GibbsGap (handed_out (gibbs_gap w kind table (exact_of t) (exact_of liquid) (exact_of vapour)))) }
    ∷ record { passes = pushes_back (stiffness w kind table (exact_of t) (exact_of liquid)); otherwise = Err (Stiffness (handed_out (stiffness w kind table (exact_of t) (exact_of liquid)))) }
    ∷ record { passes = pushes_back (stiffness w kind table (exact_of t) (exact_of vapour)); otherwise = Err (Stiffness (handed_out (stiffness w kind table (exact_of t) (exact_of vapour)))) }
    ∷ []
pair-checks w kind table t liquid vapour pressure_tolerance gibbs_tolerance = refl
