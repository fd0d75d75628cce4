-- Checks in an order: each step is a test and the answer where it fails; the first that fails is the answer. Assumes nothing.
use Rattle.std.specs.Prelude.{ℕ, zero, suc, ◌≡◌, Bool, true, false, cond, List, [], ◌∷◌}

pub record Step (A : Type 0) : Type 0 where
  pub passes : Bool
  pub otherwise : A

-- the answer of the first step that fails, or the last word where none does
unfoldable pub first_failing : {A : Type 0} → List (Step A) → A → A
first_failing [] last = last
first_failing (step ∷ rest) last = cond step.passes (first_failing rest last) step.otherwise

-- every step passes
abbrev pub AllPass : {A : Type 0} → List (Step A) → Type 0
AllPass [] = Unit {0}
AllPass (step ∷ rest) = (step.passes ≡ true) × AllPass rest

-- step k, counted from 0, fails, and every step before it passes
abbrev pub FailsAt : {A : Type 0} → ℕ → List (Step A) → Type 0
FailsAt k [] = ⊥
FailsAt zero (step ∷ rest) = step.passes ≡ false
FailsAt (suc k) (step ∷ rest) = (step.passes ≡ true) × FailsAt k rest
