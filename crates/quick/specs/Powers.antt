-- The powers of a bracket in a list. Assumes nothing.
use Rattle.std.specs.Prelude.{ℕ, suc, ◌≡◌, List}
use Rattle.sheet.specs.Number.{plain_zero}
use Rattle.bracket.specs.declared.Bracket.{Bracket}
use Rattle.bracket.specs.Rules.{power}
use Rattle.quick.specs.Filled.{Filled}

-- a bracket where a list has none
abbrev pub nothing : Bracket
nothing = record { lo = plain_zero; hi = plain_zero }

-- the powers from 0 to n
abbrev pub PowersTo : ℕ → Bracket → ℕ → List Bracket → Type 0
PowersTo w base n list = Filled nothing (λ k b. b ≡ power w base k) list (suc n)
