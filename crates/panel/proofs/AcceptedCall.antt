-- What a lab reads off a call: where `wb_pair` gives 0 for the number, the pair is near balance by the equation itself and its vapour has a
-- positive pressure, at every level from 256, whatever the width, for either kind of table. Assumes nothing.
use Prim.Native.Nat.{ℕ, ◌≤◌}
use mathlib.Core.Path.{◌≡◌, sym, ◌∙◌}
use mathlib.Core.List.{List}
use lib.Ieee.{Float}
use Rattle.doubles.specs.Double.{exact_of}
use Rattle.verdict.specs.Rules.{pair_answer}
use Rattle.verdict.specs.Balance.{Balanced}
use Rattle.verdict.proofs.Demand3.{accepted-pair}
use Rattle.panel.specs.Chosen.{chosen}
use Rattle.panel.proofs.Choices.{check_choices}

pub accepted-call : (w kind : ℕ) (table : List ℕ) (t liquid vapour pressure_tolerance gibbs_tolerance : Float)
    → chosen (pair_answer w kind table t liquid vapour pressure_tolerance gibbs_tolerance) 0 ≡ 0 → (N : ℕ) → 256 ≤ N
    → Balanced N kind table (exact_of t) (exact_of liquid) (exact_of vapour) (exact_of pressure_tolerance) (exact_of gibbs_tolerance)
accepted-call w kind table t liquid vapour pressure_tolerance gibbs_tolerance e N high =
    accepted-pair w kind table t liquid vapour pressure_tolerance gibbs_tolerance
    (sym (check_choices (pair_answer w kind table t liquid vapour pressure_tolerance gibbs_tolerance)).0 ∙ e) N high
