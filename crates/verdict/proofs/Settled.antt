-- Settled: two answers that meet a public function's statement are equal, so number, place and every end are settled for every input.
-- Assumes nothing.
use mathlib.Core.Path.{◌≡◌, sym, ◌∙◌, ap}
use mathlib.Core.List.{List}
use Prim.Native.Nat.{ℕ}
use lib.Ieee.{Float}
use Rattle.verdict.specs.Reading.{SheetAnswer, Answer, number, place, handed, sheet_number, sheet_place, sheet_pressure, sheet_stiffness}
use Rattle.verdict.specs.Statement.{StateStated, DensityStated, PairStated}

-- what a caller sees of two answers of a check is the same
pub record SameAnswer (a b : Answer) : Type 0 where
  pub numbers : number a ≡ number b
  pub places : place a ≡ place b
  pub ends : handed a ≡ handed b

pub record SameSheet (a b : SheetAnswer) : Type 0 where
  pub numbers : sheet_number a ≡ sheet_number b
  pub places : sheet_place a ≡ sheet_place b
  pub pressures : sheet_pressure a ≡ sheet_pressure b
  pub stiffnesses : sheet_stiffness a ≡ sheet_stiffness b

same_answer : {a b : Answer} → a ≡ b → SameAnswer a b
same_answer p = record { numbers = ap number p; places = ap place p; ends = ap handed p }

same-sheet : {a b : SheetAnswer} → a ≡ b → SameSheet a b
same-sheet p = record { numbers = ap sheet_number p; places = ap sheet_place p; pressures = ap sheet_pressure p; stiffnesses = ap sheet_stiffness p }

pub state_settled : (w kind : ℕ) (table : List ℕ) (t rho : Float) (a b : SheetAnswer) → StateStated w kind table t rho a → StateStated w kind table t rho b → SameSheet a b
state_settled w kind table t rho a b p q = same-sheet (p ∙ sym q)

pub density_settled : (w kind : ℕ) (table : List ℕ) (t rho target tolerance : Float) (a b : Answer)
    → DensityStated w kind table t rho target tolerance a → DensityStated w kind table t rho target tolerance b → SameAnswer a b
density_settled w kind table t rho target tolerance a b p q = same_answer (p ∙ sym q)

pub pair-settled : (w kind : ℕ) (table : List ℕ) (t liquid vapour pressure_tolerance gibbs_tolerance : Float) (a b : Answer)
    → PairStated w kind table t liquid vapour pressure_tolerance gibbs_tolerance a → PairStated w kind table t liquid vapour pressure_tolerance gibbs_tolerance b → SameAnswer a b
pair-settled w kind table t liquid vapour pressure_tolerance gibbs_tolerance a b p q = same_answer (p ∙ sym q)
