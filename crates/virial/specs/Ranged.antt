-- What the code asks of the brackets of suc v bits that it hands on: held, and between powers of two that every sound table and every
-- temperature that a kind accepts keep to. Assumes nothing.
use Rattle.std.specs.Prelude.{ℕ, ◌+◌, ◌-◌}
use Rattle.sheet.specs.Number.{bias}
use Rattle.bracket.specs.declared.Bracket.{Bracket}
use Rattle.measure.specs.Measure.{Digited}
use Rattle.measure.proofs.Sizes.{Summed}
use Rattle.equation.specs.Ranged.{HeldAs}
use Rattle.virial.specs.declared.Coefficients.{Coefficients}

-- a sum over terms: a multiple of 2^-(180 + v), at most 2^257
abbrev pub SumIn : ℕ → Bracket → Type 0
SumIn v s = HeldAs v (Summed v (bias - (180 + v)) (bias + 257)) s

-- B: zero or from 2^-(189 + v) to 2^249; C: zero or from 2^-(198 + v) to 2^243
pub record CoefficientsIn (v : ℕ) (x : Coefficients) : Type 0 where
  pub second : HeldAs v (Digited v (bias - (189 + v)) (bias + 249)) x.second
  pub third : HeldAs v (Digited v (bias - (198 + v)) (bias + 243)) x.third
