-- Demand 2: the ends of an answer are the rule's own, to the last bit: the f64s of exactly the two values of the rule's bracket. The value of
-- the equation itself lies between them at every level from 256. w is the width, whichever it is; where a number has no ends they are zero
-- (`proofs/Demand1.antt`). Assumes nothing.
use Prim.Native.Nat.{ℕ, ◌≤◌}
use mathlib.Core.Path.{◌≡◌, refl, ap}
use mathlib.Core.List.{List}
use lib.Dec.{T}
use lib.Ieee.{Float, fits, binary64}
use Rattle.exact.specs.Fraction.{◌⊖◌}
use Rattle.exact.proofs.Fraction.Order.{≺→≼, ≺-trans}
use Rattle.doubles.specs.Double.{exact_of}
use Rattle.doubles.specs.Range.{accepted_density}
use Rattle.equation.specs.Rules.{pressure, stiffness, gibbs_gap, target_gap, pressure_gap}
use Rattle.equation.specs.Itself.{pressure_at, stiffness_at, gibbs_gap_at}
use Rattle.verdict.specs.declared.Ends.{Ends}
use Rattle.verdict.specs.Reading.{number, handed, sheet_number, sheet_pressure, sheet_stiffness}
use Rattle.verdict.specs.Steps.{FailsAt}
use Rattle.verdict.specs.Rules.{handed_out, state_steps, state_answer, density_steps, density_answer, pair_steps, pair_answer}
use Rattle.verdict.specs.Balance.{Covers, SoundPair}
use Rattle.verdict.proofs.Order.{accepted, all_pass, fails-at, all_behind}
use Rattle.verdict.proofs.Tables.{sound}
use Rattle.verdict.proofs.Tests.{both, holds, above-triple_point, sides}
use Rattle.verdict.proofs.SoundPairs.{sound-pair}
use Rattle.verdict.proofs.Covered.{pressure-covered, stiffness-covered, target_gap-covered, pressure_gap-covered, gibbs_gap-covered}
use Rattle.verdict.proofs.Demand1.{density_9, density_11, pair-9, pair-10, pair-21, pair-vapour_pressure}

-- ---- the state sheet
module _ (w kind : ℕ) (table : List ℕ) (t rho : Float) (zero : sheet_number (state_answer w kind table t rho) ≡ 0) where
  -- the ends are the rule's own
  pub state-ends :
      (sheet_pressure (state_answer w kind table t rho) ≡ handed_out (pressure w kind table (exact_of t) (exact_of rho)))
      × (sheet_stiffness (state_answer w kind table t rho) ≡ handed_out (stiffness w kind table (exact_of t) (exact_of rho)))
  unfolding state_answer
  state-ends =
      let answer = all_pass (state_steps w kind table t rho) _ ((accepted sheet_number 0 (state_steps w kind table t rho) _ tt refl).0 zero) in
      (ap sheet_pressure answer, ap sheet_stiffness answer)

  -- and cover the equation itself
  pub state_covers : (N : ℕ) → 256 ≤ N
      → Covers (sheet_pressure (state_answer w kind table t rho)) (pressure w kind table (exact_of t) (exact_of rho)) (pressure_at N kind table (exact_of t) (exact_of rho))
      × Covers (sheet_stiffness (state_answer w kind table t rho)) (stiffness w kind table (exact_of t) (exact_of rho)) (stiffness_at N kind table (exact_of t) (exact_of rho))
  unfolding state_answer
  state_covers N high =
      let steps = (accepted sheet_number 0 (state_steps w kind table t rho) _ tt refl).0 zero in
      let good = sound kind table steps.1.1.0 steps.1.1.1.0 in
      let hot = holds steps.1.1.1.1.0 in
      let dense = holds steps.1.1.1.1.1.0 in (
        pressure-covered w steps.0 kind table good t hot _ N high rho dense state-ends.0,
        stiffness-covered w steps.0 kind table good t hot _ N high rho dense state-ends.1,
      )

-- ---- the density check
module _ (w kind : ℕ) (table : List ℕ) (t rho target tolerance : Float) where
  -- accepted: the pressure
  module _ (zero : number (density_answer w kind table t rho target tolerance) ≡ 0) where
    pub density_ends : handed (density_answer w kind table t rho target tolerance) ≡ handed_out (pressure w kind table (exact_of t) (exact_of rho))
    unfolding density_answer
    density_ends =
        let steps = density_steps w kind table t rho target tolerance in
        ap handed (all_pass steps _ ((accepted number 0 steps _ tt refl).0 zero))

    pub density_covers : (N : ℕ) → 256 ≤ N → Covers (handed (density_answer w kind table t rho target tolerance)) (pressure w kind table (exact_of t) (exact_of rho))
        (pressure_at N kind table (exact_of t) (exact_of rho))
    unfolding density_answer
    density_covers N high =
        let steps = (accepted number 0 (density_steps w kind table t rho target tolerance) _ tt refl).0 zero in
        let good = sound kind table steps.1.1.0 steps.1.1.1.0 in
        let hot = holds steps.1.1.1.1.0 in
        pressure-covered w steps.0 kind table good t hot _ N high rho (holds steps.1.1.1.1.1.0) density_ends

  -- 9: the pressure less the target, which is an f64 (`proofs/Covered.antt`)
  module _ (nine : number (density_answer w kind table t rho target tolerance) ≡ 9) where
    pub density-gap-ends :
        handed (density_answer w kind table t rho target tolerance) ≡ handed_out (target_gap w kind table (exact_of t) (exact_of rho) (exact_of target))
    unfolding density_answer
    density-gap-ends =
        ap handed (fails-at 9 (density_steps w kind table t rho target tolerance) _ ((density_9 w kind table t rho target tolerance).0 nine))

    pub density_gap_covers : T (fits binary64 target) → (N : ℕ) → 256 ≤ N
        → Covers (handed (density_answer w kind table t rho target tolerance)) (target_gap w kind table (exact_of t) (exact_of rho) (exact_of target))
        (pressure_at N kind table (exact_of t) (exact_of rho) ⊖ exact_of target)
    density_gap_covers fit N high =
        let steps = (density_9 w kind table t rho target tolerance).0 nine in
        let good = sound kind table steps.1.1.0 steps.1.1.1.0 in
        let hot = holds steps.1.1.1.1.0 in
        let dense = holds steps.1.1.1.1.1.0 in
        target_gap-covered w steps.0 kind table good t hot _ N high rho dense target fit (holds steps.1.1.1.1.1.1.0) density-gap-ends

  -- 11: the stiffness
  module _ (eleven : number (density_answer w kind table t rho target tolerance) ≡ 11) where
    pub density_stiffness_ends : handed (density_answer w kind table t rho target tolerance) ≡ handed_out (stiffness w kind table (exact_of t) (exact_of rho))
    unfolding density_answer
    density_stiffness_ends =
        ap handed (fails-at 10 (density_steps w kind table t rho target tolerance) _ ((density_11 w kind table t rho target tolerance).0 eleven))

    pub density_stiffness_covers : (N : ℕ) → 256 ≤ N
        → Covers (handed (density_answer w kind table t rho target tolerance)) (stiffness w kind table (exact_of t) (exact_of rho))
        (stiffness_at N kind table (exact_of t) (exact_of rho))
    density_stiffness_covers N high =
        let steps = (density_11 w kind table t rho target tolerance).0 eleven in
        let good = sound kind table steps.1.1.0 steps.1.1.1.0 in
        let hot = holds steps.1.1.1.1.0 in
        stiffness-covered w steps.0 kind table good t hot _ N high rho (holds steps.1.1.1.1.1.0) density_stiffness_ends

-- ---- the pair check
module _ (w kind : ℕ) (table : List ℕ) (t liquid vapour pressure_tolerance gibbs_tolerance : Float) where
  -- the vapour's pressure, of a pair that is accepted or gets 21
  vapour_covers : SoundPair w kind table t liquid vapour pressure_tolerance gibbs_tolerance → (e : Ends) → e ≡ handed_out (pressure w kind table (exact_of t) (exact_of vapour))
      → (N : ℕ) → 256 ≤ N → Covers e (pressure w kind table (exact_of t) (exact_of vapour)) (pressure_at N kind table (exact_of t) (exact_of vapour))
  vapour_covers pair e is N high =
      let hot = above-triple_point kind t pair.temperature in
      pressure-covered w pair.width_sound kind table pair.table_sound t hot e N high vapour (holds pair.vapour_density) is

  -- accepted: the vapour's pressure
  module _ (zero : number (pair_answer w kind table t liquid vapour pressure_tolerance gibbs_tolerance) ≡ 0) where
    pub pair_ends :
        handed (pair_answer w kind table t liquid vapour pressure_tolerance gibbs_tolerance) ≡ handed_out (pressure w kind table (exact_of t) (exact_of vapour))
    unfolding pair_answer
    pair_ends =
        let steps = pair_steps w kind table t liquid vapour pressure_tolerance gibbs_tolerance in
        ap handed (all_pass steps _ ((accepted number 0 steps _ tt refl).0 zero))

    pub pair-covers : (N : ℕ) → 256 ≤ N
        → Covers (handed (pair_answer w kind table t liquid vapour pressure_tolerance gibbs_tolerance)) (pressure w kind table (exact_of t) (exact_of vapour))
        (pressure_at N kind table (exact_of t) (exact_of vapour))
    unfolding pair_answer
    pair-covers =
        let steps = pair_steps w kind table t liquid vapour pressure_tolerance gibbs_tolerance in
        let first = ((all_behind 9 steps).0 ((accepted number 0 steps _ tt refl).0 zero)).0 in
        vapour_covers ((sound-pair w kind table t liquid vapour pressure_tolerance gibbs_tolerance).0 first) _ pair_ends

  -- 21: the vapour's pressure (document 02, f)
  module _ (twentyone : number (pair_answer w kind table t liquid vapour pressure_tolerance gibbs_tolerance) ≡ 21) where
    pub pair-vapour-ends :
        handed (pair_answer w kind table t liquid vapour pressure_tolerance gibbs_tolerance) ≡ handed_out (pressure w kind table (exact_of t) (exact_of vapour))
    unfolding pair_answer
    pair-vapour-ends =
        ap handed
        (fails-at 9 (pair_steps w kind table t liquid vapour pressure_tolerance gibbs_tolerance) _
        ((pair-21 w kind table t liquid vapour pressure_tolerance gibbs_tolerance).0 twentyone))

    pub pair-vapour_covers : (N : ℕ) → 256 ≤ N
        → Covers (handed (pair_answer w kind table t liquid vapour pressure_tolerance gibbs_tolerance)) (pressure w kind table (exact_of t) (exact_of vapour))
        (pressure_at N kind table (exact_of t) (exact_of vapour))
    pair-vapour_covers = vapour_covers ((pair-vapour_pressure w kind table t liquid vapour pressure_tolerance gibbs_tolerance).0 twentyone).0 _ pair-vapour-ends

  -- 9: the pressure of the liquid less that of the vapour
  module _ (nine : number (pair_answer w kind table t liquid vapour pressure_tolerance gibbs_tolerance) ≡ 9) where
    pub pair-gap-ends :
        handed (pair_answer w kind table t liquid vapour pressure_tolerance gibbs_tolerance)
        ≡ handed_out (pressure_gap w kind table (exact_of t) (exact_of liquid) (exact_of vapour))
    unfolding pair_answer
    pair-gap-ends =
        ap handed
        (fails-at 10 (pair_steps w kind table t liquid vapour pressure_tolerance gibbs_tolerance) _
        ((pair-9 w kind table t liquid vapour pressure_tolerance gibbs_tolerance).0 nine))

    pub pair-gap_covers : (N : ℕ) → 256 ≤ N
        → Covers (handed (pair_answer w kind table t liquid vapour pressure_tolerance gibbs_tolerance)) (pressure_gap w kind table (exact_of t) (exact_of liquid) (exact_of vapour))
        (pressure_at N kind table (exact_of t) (exact_of liquid) ⊖ pressure_at N kind table (exact_of t) (exact_of vapour))
    pair-gap_covers N high =
        let steps = (pair-9 w kind table t liquid vapour pressure_tolerance gibbs_tolerance).0 nine in
        let good = sound kind table steps.1.1.0 steps.1.1.1.0 in
        let hot = above-triple_point kind t steps.1.1.1.1.0 in
        let d = both (accepted_density kind liquid) (accepted_density kind vapour) steps.1.1.1.1.1.0 in
        pressure_gap-covered w steps.0 kind table good t hot _ N high liquid vapour (holds d.0) (holds d.1) pair-gap-ends

  -- 10: the Gibbs gap
  module _ (ten : number (pair_answer w kind table t liquid vapour pressure_tolerance gibbs_tolerance) ≡ 10) where
    pub pair-gibbs-ends :
        handed (pair_answer w kind table t liquid vapour pressure_tolerance gibbs_tolerance)
        ≡ handed_out (gibbs_gap w kind table (exact_of t) (exact_of liquid) (exact_of vapour))
    unfolding pair_answer
    pair-gibbs-ends =
        ap handed
        (fails-at 11 (pair_steps w kind table t liquid vapour pressure_tolerance gibbs_tolerance) _
        ((pair-10 w kind table t liquid vapour pressure_tolerance gibbs_tolerance).0 ten))

    pub pair-gibbs_covers : (N : ℕ) → 256 ≤ N
        → Covers (handed (pair_answer w kind table t liquid vapour pressure_tolerance gibbs_tolerance)) (gibbs_gap w kind table (exact_of t) (exact_of liquid) (exact_of vapour))
        (gibbs_gap_at N kind table (exact_of t) (exact_of liquid) (exact_of vapour))
    pair-gibbs_covers N high =
        let steps = (pair-10 w kind table t liquid vapour pressure_tolerance gibbs_tolerance).0 ten in
        let good = sound kind table steps.1.1.0 steps.1.1.1.0 in
        let hot = above-triple_point kind t steps.1.1.1.1.0 in
        let d = both (accepted_density kind liquid) (accepted_density kind vapour) steps.1.1.1.1.1.0 in
        let apart = sides liquid vapour steps.1.1.1.1.1.1.1.0 in
        let above = ≺→≼ (≺-trans apart.1 apart.0) in
        gibbs_gap-covered w steps.0 kind table good t hot _ N high liquid vapour (holds d.0) (holds d.1) above pair-gibbs-ends

  -- 11: the stiffness that fails, the liquid's where it does, else the vapour's (`pair-11` of `proofs/Demand1.antt` says which)
  pub liquid_stiffness_ends : FailsAt 12 (pair_steps w kind table t liquid vapour pressure_tolerance gibbs_tolerance)
      → handed (pair_answer w kind table t liquid vapour pressure_tolerance gibbs_tolerance) ≡ handed_out (stiffness w kind table (exact_of t) (exact_of liquid))
  unfolding pair_answer
  liquid_stiffness_ends f = ap handed (fails-at 12 (pair_steps w kind table t liquid vapour pressure_tolerance gibbs_tolerance) _ f)

  pub vapour_stiffness_ends : FailsAt 13 (pair_steps w kind table t liquid vapour pressure_tolerance gibbs_tolerance)
      → handed (pair_answer w kind table t liquid vapour pressure_tolerance gibbs_tolerance) ≡ handed_out (stiffness w kind table (exact_of t) (exact_of vapour))
  unfolding pair_answer
  vapour_stiffness_ends f = ap handed (fails-at 13 (pair_steps w kind table t liquid vapour pressure_tolerance gibbs_tolerance) _ f)

  pub liquid_stiffness_covers : FailsAt 12 (pair_steps w kind table t liquid vapour pressure_tolerance gibbs_tolerance) → (N : ℕ) → 256 ≤ N
      → Covers (handed (pair_answer w kind table t liquid vapour pressure_tolerance gibbs_tolerance)) (stiffness w kind table (exact_of t) (exact_of liquid))
      (stiffness_at N kind table (exact_of t) (exact_of liquid))
  liquid_stiffness_covers steps N high =
      let good = sound kind table steps.1.1.0 steps.1.1.1.0 in
      let hot = above-triple_point kind t steps.1.1.1.1.0 in
      let dense = holds (both (accepted_density kind liquid) (accepted_density kind vapour) steps.1.1.1.1.1.0).0 in
      stiffness-covered w steps.0 kind table good t hot _ N high liquid dense (liquid_stiffness_ends steps)

  pub vapour_stiffness_covers : FailsAt 13 (pair_steps w kind table t liquid vapour pressure_tolerance gibbs_tolerance) → (N : ℕ) → 256 ≤ N
      → Covers (handed (pair_answer w kind table t liquid vapour pressure_tolerance gibbs_tolerance)) (stiffness w kind table (exact_of t) (exact_of vapour))
      (stiffness_at N kind table (exact_of t) (exact_of vapour))
  vapour_stiffness_covers steps N high =
      let good = sound kind table steps.1.1.0 steps.1.1.1.0 in
      let hot = above-triple_point kind t steps.1.1.1.1.0 in
      let thin = holds (both (accepted_density kind liquid) (accepted_density kind vapour) steps.1.1.1.1.1.0).1 in
      stiffness-covered w steps.0 kind table good t hot _ N high vapour thin (vapour_stiffness_ends steps)
