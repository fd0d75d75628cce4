-- V by its parts: the coefficient, the powers of delta and tau, and E. Assumes nothing.
use Rattle.std.specs.Prelude.{ℕ, suc}
use Rattle.bracket.specs.declared.Bracket.{Bracket}
use Rattle.bracket.specs.Rules.{ends, times}
use Rattle.bracket.specs.Held.{Held}

unfoldable pub value_by : ℕ → (coefficient delta tau e : Bracket) → Bracket
value_by w coefficient delta tau e = times w (ends (times w (ends (times w (ends coefficient) (ends delta))) (ends tau))) (ends e)

-- what V is made of is held
pub record Valued (v : ℕ) (coefficient delta tau e : Bracket) : Type 0 where
  pub coefficient_held : Held v coefficient
  pub delta_held : Held v delta
  pub by-delta : Held v (times (suc v) (ends coefficient) (ends delta))
  pub tau_held : Held v tau
  pub by-tau : Held v (times (suc v) (ends (times (suc v) (ends coefficient) (ends delta))) (ends tau))
  pub e_held : Held v e
