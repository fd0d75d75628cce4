-- Demand 3. First half: what is accepted holds by the equation itself, at every level from 256. Second half: what is good at some one such
-- level, by more than the width of its brackets, is accepted, whoever proposed it. Both at either width w. Assumes nothing.
use Prim.Native.Nat.{ℕ, suc, ◌≤◌}
use mathlib.Core.Path.{◌≡◌, refl}
use mathlib.Core.List.{List}
use lib.Ieee.{Float}
use Rattle.exact.proofs.Fraction.Order.{≺→≼, ≺-trans}
use Rattle.doubles.specs.Double.{exact_of}
use Rattle.equation.proofs.Covers.{covers_pressure, covers_stiffness, covers_gibbs_gap, covers_target_gap, covers_pressure_gap}
use Rattle.verdict.specs.Reading.{number}
use Rattle.verdict.specs.Rules.{pair_steps, pair_answer, density_steps, density_answer}
use Rattle.verdict.specs.Balance.{Balanced, BalancedBeyond, SoundPair, OnTarget, OnTargetBeyond, SoundDensity}
use Rattle.verdict.proofs.Order.{accepted, all_behind}
use Rattle.verdict.proofs.Tables.{table_parts}
use Rattle.verdict.proofs.Tests.{holds, temperature_in, above-triple_point, density_in, under-ceiling, gap_within, gap-beyond, pushes-above, pushes-beyond}
use Rattle.verdict.proofs.SoundPairs.{sound-pair}
use Rattle.verdict.proofs.EitherWidth.{at_width}
use Rattle.verdict.proofs.Demand1.{density_0, pair-0}

-- ---- the pair, at suc v bits
module _ (v kind : ℕ) (table : List ℕ) (t liquid vapour pressure_tolerance gibbs_tolerance : Float) where
  accepted-at : number (pair_answer (suc v) kind table t liquid vapour pressure_tolerance gibbs_tolerance) ≡ 0 → (N : ℕ) → 256 ≤ N
      → Balanced N kind table (exact_of t) (exact_of liquid) (exact_of vapour) (exact_of pressure_tolerance) (exact_of gibbs_tolerance)
  unfolding pair_answer
  accepted-at e N high =
      let steps = pair_steps (suc v) kind table t liquid vapour pressure_tolerance gibbs_tolerance in
      let parts = (all_behind 9 steps).0 ((accepted number 0 steps _ tt refl).0 e) in
      let pair = (sound-pair (suc v) kind table t liquid vapour pressure_tolerance gibbs_tolerance).0 parts.0 in
      let T = temperature_in kind t (above-triple_point kind t pair.temperature) in
      let l = density_in kind liquid (holds pair.liquid_density) in
      let g = density_in kind vapour (holds pair.vapour_density) in
      let apart = ≺→≼ (≺-trans pair.vapour_side pair.liquid_side) in
      let push = parts.1 in
      let gaps = push.1 in
      record {
        pressures = gap_within _ pressure_tolerance (covers_pressure_gap v N high kind table T l g) gaps.0;
        gibbs = gap_within _ gibbs_tolerance (covers_gibbs_gap v N high kind table T l g apart) gaps.1.0;
        liquid_pushes = pushes-above _ (covers_stiffness v N high kind table T l) gaps.1.1.0;
        vapour_pushes = pushes-above _ (covers_stiffness v N high kind table T g) gaps.1.1.1.0;
        vapour_pressure = pushes-above _ (covers_pressure v N high kind table T g) push.0;
      }

  good_at : SoundPair (suc v) kind table t liquid vapour pressure_tolerance gibbs_tolerance → (N : ℕ) → 256 ≤ N
      → BalancedBeyond (suc v) N kind table (exact_of t) (exact_of liquid) (exact_of vapour) (exact_of pressure_tolerance) (exact_of gibbs_tolerance)
      → number (pair_answer (suc v) kind table t liquid vapour pressure_tolerance gibbs_tolerance) ≡ 0
  unfolding pair_answer
  good_at sound N high good =
      let steps = pair_steps (suc v) kind table t liquid vapour pressure_tolerance gibbs_tolerance in
      let T = temperature_in kind t (above-triple_point kind t sound.temperature) in
      let l = density_in kind liquid (holds sound.liquid_density) in
      let g = density_in kind vapour (holds sound.vapour_density) in
      let apart = ≺→≼ (≺-trans sound.vapour_side sound.liquid_side) in
      let passed = (all_behind 9 steps).1 (
        (sound-pair (suc v) kind table t liquid vapour pressure_tolerance gibbs_tolerance).1 sound,
        (
          pushes-beyond _ (covers_pressure v N high kind table T g) good.vapour_pressure,
          (
            gap-beyond _ pressure_tolerance (covers_pressure_gap v N high kind table T l g) good.pressures,
            (
              gap-beyond _ gibbs_tolerance (covers_gibbs_gap v N high kind table T l g apart) good.gibbs,
              (
                pushes-beyond _ (covers_stiffness v N high kind table T l) good.liquid_pushes,
                (pushes-beyond _ (covers_stiffness v N high kind table T g) good.vapour_pushes, tt),
              ),
            ),
          ),
        ),
      ) in
      (accepted number 0 steps _ tt refl).1 passed

-- ---- the density for a given pressure, at suc v bits
module _ (v kind : ℕ) (table : List ℕ) (t rho target tolerance : Float) where
  density_accepted_at : number (density_answer (suc v) kind table t rho target tolerance) ≡ 0 → (N : ℕ) → 256 ≤ N
      → OnTarget N kind table (exact_of t) (exact_of rho) (exact_of target) (exact_of tolerance)
  unfolding density_answer
  density_accepted_at e N high =
      let steps = (accepted number 0 (density_steps (suc v) kind table t rho target tolerance) _ tt refl).0 e in
      let T = temperature_in kind t (holds steps.1.1.1.1.0) in
      let d = density_in kind rho (holds steps.1.1.1.1.1.0) in
      let gaps = steps.1.1.1.1.1.1.1.1.1 in
      record {
        near = gap_within _ tolerance (covers_target_gap v N high kind table T d (exact_of target)) gaps.0;
        pushes = pushes-above _ (covers_stiffness v N high kind table T d) gaps.1.0;
      }

  density_good_at : SoundDensity (suc v) kind table t rho target tolerance → (N : ℕ) → 256 ≤ N
      → OnTargetBeyond (suc v) N kind table (exact_of t) (exact_of rho) (exact_of target) (exact_of tolerance)
      → number (density_answer (suc v) kind table t rho target tolerance) ≡ 0
  unfolding density_answer
  density_good_at sound N high good =
      let rows = table_parts kind table sound.table_sound in
      let T = temperature_in kind t (holds sound.temperature) in
      let d = density_in kind rho (holds sound.density) in
      (accepted number 0 (density_steps (suc v) kind table t rho target tolerance) _ tt refl).1 (
        sound.width_sound,
        (
          sound.kind_sound,
          (
            rows.0,
            (
              rows.1,
              (
                sound.temperature,
                (
                  sound.density,
                  (
                    sound.target_range,
                    (
                      sound.tolerance_range,
                      (
                        (under-ceiling kind _).1 sound.ceiling,
                        (
                          gap-beyond _ tolerance (covers_target_gap v N high kind table T d (exact_of target)) good.near,
                          (
                            pushes-beyond _ (covers_stiffness v N high kind table T d) good.pushes,
                            tt,
                          ),
                        ),
                      ),
                    ),
                  ),
                ),
              ),
            ),
          ),
        ),
      )

-- ---- at the width
module _ (w kind : ℕ) (table : List ℕ) (t liquid vapour pressure_tolerance gibbs_tolerance : Float) where
  -- what every level says of an accepted pair
  pub accepted-pair : number (pair_answer w kind table t liquid vapour pressure_tolerance gibbs_tolerance) ≡ 0 → (N : ℕ) → 256 ≤ N
      → Balanced N kind table (exact_of t) (exact_of liquid) (exact_of vapour) (exact_of pressure_tolerance) (exact_of gibbs_tolerance)
  accepted-pair e =
      at_width w
      (λ (n : ℕ).
      number (pair_answer n kind table t liquid vapour pressure_tolerance gibbs_tolerance) ≡ 0 → (N : ℕ) → 256 ≤ N
      → Balanced N kind table (exact_of t) (exact_of liquid) (exact_of vapour) (exact_of pressure_tolerance) (exact_of gibbs_tolerance))
      (λ v k. accepted-at v kind table t liquid vapour pressure_tolerance gibbs_tolerance)
      ((pair-0 w kind table t liquid vapour pressure_tolerance gibbs_tolerance).0 e).0 e

  -- some level says enough of a pair for it to be accepted
  pub good_pair : SoundPair w kind table t liquid vapour pressure_tolerance gibbs_tolerance → (N : ℕ) → 256 ≤ N
      → BalancedBeyond w N kind table (exact_of t) (exact_of liquid) (exact_of vapour) (exact_of pressure_tolerance) (exact_of gibbs_tolerance)
      → number (pair_answer w kind table t liquid vapour pressure_tolerance gibbs_tolerance) ≡ 0
  good_pair sound =
      at_width w
      (λ (n : ℕ).
      SoundPair n kind table t liquid vapour pressure_tolerance gibbs_tolerance → (N : ℕ) → 256 ≤ N
      → BalancedBeyond n N kind table (exact_of t) (exact_of liquid) (exact_of vapour) (exact_of pressure_tolerance) (exact_of gibbs_tolerance)
      → number (pair_answer n kind table t liquid vapour pressure_tolerance gibbs_tolerance) ≡ 0)
      (λ v k. good_at v kind table t liquid vapour pressure_tolerance gibbs_tolerance)
      sound.width_sound sound

module _ (w kind : ℕ) (table : List ℕ) (t rho target tolerance : Float) where
  pub accepted-density : number (density_answer w kind table t rho target tolerance) ≡ 0 → (N : ℕ) → 256 ≤ N
      → OnTarget N kind table (exact_of t) (exact_of rho) (exact_of target) (exact_of tolerance)
  accepted-density e =
      at_width w
      (λ (n : ℕ).
      number (density_answer n kind table t rho target tolerance) ≡ 0 → (N : ℕ) → 256 ≤ N
      → OnTarget N kind table (exact_of t) (exact_of rho) (exact_of target) (exact_of tolerance))
      (λ v k. density_accepted_at v kind table t rho target tolerance)
      ((density_0 w kind table t rho target tolerance).0 e).0 e

  pub good_density : SoundDensity w kind table t rho target tolerance → (N : ℕ) → 256 ≤ N
      → OnTargetBeyond w N kind table (exact_of t) (exact_of rho) (exact_of target) (exact_of tolerance)
      → number (density_answer w kind table t rho target tolerance) ≡ 0
  good_density sound =
      at_width w
      (λ (n : ℕ).
      SoundDensity n kind table t rho target tolerance → (N : ℕ) → 256 ≤ N
      → OnTargetBeyond n N kind table (exact_of t) (exact_of rho) (exact_of target) (exact_of tolerance)
      → number (density_answer n kind table t rho target tolerance) ≡ 0)
      (λ v k. density_good_at v kind table t rho target tolerance)
      sound.width_sound sound
