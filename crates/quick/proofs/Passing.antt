-- Where the checks before the work pass, an answer is what the checks on the brackets say. Assumes nothing.
use Rattle.std.specs.Prelude.{Ok}
use mathlib.Core.Path.{◌≡◌, sym, ◌∙◌}
use mathlib.Core.Bool.{true, ◌&&◌}
use mathlib.Core.List.{List}
use Prim.Native.Nat.{ℕ}
use lib.Ieee.{Float}
use Rattle.doubles.specs.Double.{exact_of}
use Rattle.doubles.specs.Range.{accepted_temperature, accepted_pair_temperature, accepted_density, accepted_target, accepted_tolerance}
use Rattle.equation.specs.Rules.{pressure, stiffness, target_gap}
use Rattle.verdict.specs.Steps.{first_failing}
use Rattle.verdict.specs.Rules.{handed_out, on_sides, state_inputs, state_worked, state_accepted, density_inputs, density_worked, pair_inputs, pair_rest}
use Rattle.verdict.proofs.Order.{on_pass}
use Rattle.verdict.proofs.Tests.{both, together}

module _ (w kind : ℕ) (table : List ℕ) where
  pub state_passed : (t rho : Float) → accepted_temperature kind t ≡ true → accepted_density kind rho ≡ true
      → first_failing (state_worked kind (pressure w kind table (exact_of t) (exact_of rho))) (state_accepted w kind table t rho)
      ≡ first_failing (state_inputs w kind table t rho) (state_accepted w kind table t rho)
  state_passed t rho hot dense = sym (on_pass _ _ _ hot ∙ on_pass _ _ _ dense)

  pub density_passed : (t rho target tolerance : Float) → accepted_temperature kind t ≡ true → accepted_density kind rho ≡ true → accepted_target kind target ≡ true → accepted_tolerance tolerance ≡ true
      → first_failing
      (density_worked kind (pressure w kind table (exact_of t) (exact_of rho)) (target_gap w kind table (exact_of t) (exact_of rho) (exact_of target)) (stiffness w kind table (exact_of t) (exact_of rho)) tolerance)
      (Ok (handed_out (pressure w kind table (exact_of t) (exact_of rho))))
      ≡ first_failing (density_inputs w kind table t rho target tolerance) (Ok (handed_out (pressure w kind table (exact_of t) (exact_of rho))))
  density_passed t rho target tolerance hot dense aim near =
      sym (on_pass _ _ _ hot ∙ on_pass _ _ _ dense ∙ on_pass _ _ _ aim ∙ on_pass _ _ _ near)

  pub pair-passed : (t liquid vapour pressure_tolerance gibbs_tolerance : Float) → accepted_pair_temperature t ≡ true → accepted_density kind liquid ≡ true → accepted_density kind vapour ≡ true
      → accepted_tolerance pressure_tolerance ≡ true → accepted_tolerance gibbs_tolerance ≡ true → on_sides liquid vapour ≡ true
      → first_failing (pair_rest w kind table t liquid vapour pressure_tolerance gibbs_tolerance) (Ok (handed_out (pressure w kind table (exact_of t) (exact_of vapour))))
      ≡ first_failing (pair_inputs w kind table t liquid vapour pressure_tolerance gibbs_tolerance) (Ok (handed_out (pressure w kind table (exact_of t) (exact_of vapour))))
  pair-passed t liquid vapour pressure_tolerance gibbs_tolerance hot dense thin near close apart =
      sym
      (on_pass _ _ _ hot
      ∙ on_pass _ _ _ (together _ _ dense thin)
      ∙ on_pass _ _ _ (together _ _ near close)
      ∙ on_pass _ _ _ apart)

-- ---- what passed, test by test

pub state_parts : (kind : ℕ) (t rho : Float) → (accepted_temperature kind t && accepted_density kind rho) ≡ true → (accepted_temperature kind t ≡ true) × (accepted_density kind rho ≡ true)
state_parts kind t rho h = both (accepted_temperature kind t) (accepted_density kind rho) h

pub density_parts : (kind : ℕ) (t rho target tolerance : Float) → ((accepted_temperature kind t && accepted_density kind rho) && (accepted_target kind target && accepted_tolerance tolerance)) ≡ true
    → (accepted_temperature kind t ≡ true) × (accepted_density kind rho ≡ true) × (accepted_target kind target ≡ true) × (accepted_tolerance tolerance ≡ true)
density_parts kind t rho target tolerance h =
    let p = both (accepted_temperature kind t && accepted_density kind rho) (accepted_target kind target && accepted_tolerance tolerance) h in
    let q = state_parts kind t rho p.0 in
    let r = both (accepted_target kind target) (accepted_tolerance tolerance) p.1 in
    (q.0, q.1, r.0, r.1)

pub record PairParts (kind : ℕ) (t liquid vapour pressure_tolerance gibbs_tolerance : Float) : Type 0 where
  pub hot : accepted_pair_temperature t ≡ true
  pub dense : accepted_density kind liquid ≡ true
  pub thin : accepted_density kind vapour ≡ true
  pub near : accepted_tolerance pressure_tolerance ≡ true
  pub close : accepted_tolerance gibbs_tolerance ≡ true
  pub apart : on_sides liquid vapour ≡ true

pub pair_parts : (kind : ℕ) (t liquid vapour pressure_tolerance gibbs_tolerance : Float)
    → ((accepted_pair_temperature t && (accepted_density kind liquid && accepted_density kind vapour)) && ((accepted_tolerance pressure_tolerance && accepted_tolerance gibbs_tolerance) && on_sides liquid vapour)) ≡ true
    → PairParts kind t liquid vapour pressure_tolerance gibbs_tolerance
pair_parts kind t liquid vapour pressure_tolerance gibbs_tolerance h =
    let p = both (accepted_pair_temperature t && (accepted_density kind liquid && accepted_density kind vapour)) ((accepted_tolerance pressure_tolerance && accepted_tolerance gibbs_tolerance) && on_sides liquid vapour) h in
    let q = both (accepted_pair_temperature t) (accepted_density kind liquid && accepted_density kind vapour) p.0 in
    let d = both (accepted_density kind liquid) (accepted_density kind vapour) q.1 in
    let r = both (accepted_tolerance pressure_tolerance && accepted_tolerance gibbs_tolerance) (on_sides liquid vapour) p.1 in
    let n = both (accepted_tolerance pressure_tolerance) (accepted_tolerance gibbs_tolerance) r.0 in
    record { hot = q.0; dense = d.0; thin = d.1; near = n.0; close = n.1; apart = r.1 }
