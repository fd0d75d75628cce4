-- What each public function states of its answer, as one relation on inputs and answer; w is the width, kind the kind of table. Assumes nothing.
use Rattle.std.specs.Prelude.{◌≡◌, List, ℕ, Float}
use Rattle.verdict.specs.Reading.{SheetAnswer, Answer}
use Rattle.verdict.specs.Rules.{state_answer, density_answer, pair_answer}

abbrev pub StateStated : (w kind : ℕ) → List ℕ → (t rho : Float) → SheetAnswer → Type 0
StateStated w kind table t rho answer = answer ≡ state_answer w kind table t rho

abbrev pub DensityStated : (w kind : ℕ) → List ℕ → (t rho target tolerance : Float) → Answer → Type 0
DensityStated w kind table t rho target tolerance answer = answer ≡ density_answer w kind table t rho target tolerance

abbrev pub PairStated : (w kind : ℕ) → List ℕ → (t liquid vapour pressure_tolerance gibbs_tolerance : Float) → Answer → Type 0
PairStated w kind table t liquid vapour pressure_tolerance gibbs_tolerance answer = answer ≡ pair_answer w kind table t liquid vapour pressure_tolerance gibbs_tolerance
