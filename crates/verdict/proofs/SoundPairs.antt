-- A pair is sound exactly where the pair check's first nine checks pass, those before 21. Assumes nothing.
use Prim.Native.Nat.{ℕ}
use mathlib.Core.List.{List}
use mathlib.Core.Logic.{◌↔◌}
use lib.ListN.{take}
use lib.Ieee.{Float}
use Rattle.doubles.specs.Range.{accepted_density, accepted_tolerance}
use Rattle.verdict.specs.Steps.{AllPass}
use Rattle.verdict.specs.Rules.{pair_steps, under_ceiling}
use Rattle.verdict.specs.Balance.{SoundPair}
use Rattle.verdict.proofs.Tables.{table_parts, sound}
use Rattle.verdict.proofs.Tests.{both, together, sides, on_sides_lem, under-ceiling}

module _ (w kind : ℕ) (table : List ℕ) (t liquid vapour pressure_tolerance gibbs_tolerance : Float) where
  passes_sound : AllPass (take 9 (pair_steps w kind table t liquid vapour pressure_tolerance gibbs_tolerance))
      → SoundPair w kind table t liquid vapour pressure_tolerance gibbs_tolerance
  passes_sound steps =
      let inputs = steps.1.1.1.1 in
      let densities = both (accepted_density kind liquid) (accepted_density kind vapour) inputs.1.0 in
      let tolerances = both (accepted_tolerance pressure_tolerance) (accepted_tolerance gibbs_tolerance) inputs.1.1.0 in
      let apart = sides liquid vapour inputs.1.1.1.0 in
      let ceilings = both (under_ceiling kind _) (under_ceiling kind _) inputs.1.1.1.1.0 in
      record {
        width_sound = steps.0;
        kind_sound = steps.1.0;
        table_sound = sound kind table steps.1.1.0 steps.1.1.1.0;
        temperature = inputs.0;
        liquid_density = densities.0;
        vapour_density = densities.1;
        pressure-tolerance = tolerances.0;
        gibbs-tolerance = tolerances.1;
        liquid_side = apart.0;
        vapour_side = apart.1;
        liquid_ceiling = (under-ceiling kind _).0 ceilings.0;
        vapour_ceiling = (under-ceiling kind _).0 ceilings.1;
      }

  sound-passes : SoundPair w kind table t liquid vapour pressure_tolerance gibbs_tolerance
      → AllPass (take 9 (pair_steps w kind table t liquid vapour pressure_tolerance gibbs_tolerance))
  sound-passes pair =
      let rows = table_parts kind table pair.table_sound in (
        pair.width_sound,
        (
          pair.kind_sound,
          (
            rows.0,
            (
              rows.1,
              (
                pair.temperature,
                (
                  together _ _ pair.liquid_density pair.vapour_density,
                  (
                    together _ _ pair.pressure-tolerance pair.gibbs-tolerance,
                    (
                      on_sides_lem liquid vapour pair.liquid_side pair.vapour_side,
                      (together _ _ ((under-ceiling kind _).1 pair.liquid_ceiling) ((under-ceiling kind _).1 pair.vapour_ceiling), tt),
                    ),
                  ),
                ),
              ),
            ),
          ),
        ),
      )

  pub sound-pair : AllPass (take 9 (pair_steps w kind table t liquid vapour pressure_tolerance gibbs_tolerance))
      ↔ SoundPair w kind table t liquid vapour pressure_tolerance gibbs_tolerance
  sound-pair = (passes_sound, sound-passes)
