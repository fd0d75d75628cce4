-- What the code asks of the brackets of suc v bits that it hands on: held, and between powers of two that every sound table and every
-- accepted input keep to. Assumes nothing.
use Rattle.std.specs.Prelude.{◌⊎◌, ℕ, suc, ◌+◌, ◌-◌, ◌*◌}
use Rattle.exact.specs.Fraction.{Fraction, nat, ◌≼◌}
use Rattle.sheet.specs.Number.{bias}
use Rattle.bracket.specs.declared.Bracket.{Bracket}
use Rattle.bracket.specs.Span.{Each}
use Rattle.bracket.specs.Rules.{ends}
use Rattle.bracket.specs.Held.{Held}
use Rattle.measure.specs.Measure.{Sized, Digited}
use Rattle.measure.proofs.Sizes.{Summed, Plus}
use Rattle.equation.specs.declared.Reduced.{Reduced}
use Rattle.equation.specs.declared.Sums.{Sums}

-- from 0 to a whole number
pub record UpTo (n : ℕ) (x : Fraction) : Type 0 where
  pub low : nat 0 ≼ x
  pub high : x ≼ nat n

-- held, and what is known of both ends
pub record HeldAs (v : ℕ) (P : Fraction → Type 0) (b : Bracket) : Type 0 where
  pub held : Held v b
  pub each : Each P (ends b)

-- thin, below 4 kg/m3: from 2^-19 to 2^-6; or dense: from 2^-7 to 2^4. Where it is thin, w and the factor of S2 stay away from zero.
abbrev pub Thin : ℕ → Bracket → Type 0
Thin v delta = Each (Plus v (bias - 19) (bias - 6)) (ends delta)

abbrev pub Dense : ℕ → Bracket → Type 0
Dense v delta = Each (Plus v (bias - 7) (bias + 4)) (ends delta)

pub record DeltaIn (v : ℕ) (delta : Bracket) : Type 0 where
  pub held : Held v delta
  pub each : Thin v delta ⊎ Dense v delta

-- from 2^-2 to 2^3
abbrev pub TauIn : ℕ → Bracket → Type 0
TauIn v tau = HeldAs v (Plus v (bias - 2) (bias + 3)) tau

-- what the terms take of a state
pub record ReducedIn (v : ℕ) (x : Reduced) : Type 0 where
  pub delta : DeltaIn v x.delta
  pub tau : TauIn v x.tau

-- g: from 2^-292 to 2^64
abbrev pub GIn : ℕ → Bracket → Type 0
GIn v g = HeldAs v (Plus v (bias - 292) (bias + 64)) g

-- zero or from 2^-256 to 1
abbrev pub EIn : ℕ → Bracket → Type 0
EIn v e = HeldAs v (Sized (bias - 256) bias) e

-- zero or from 2^-1025 to 2^317
abbrev pub VIn : ℕ → Bracket → Type 0
VIn v tv = HeldAs v (Digited v (bias - 1025) (bias + 317)) tv

-- zero or from 2^-(v + 1) to 2^69
abbrev pub WIn : ℕ → Bracket → Type 0
WIn v tw = HeldAs v (Digited v (bias - suc v) (bias + 69)) tw

-- each of the three is held
pub record AllHeld (v : ℕ) (s : Sums) : Type 0 where
  pub s0 : Held v s.s0
  pub s1 : Held v s.s1
  pub s2 : Held v s.s2

-- both ends of each of the three
pub record EachSum (P : Fraction → Type 0) (s : Sums) : Type 0 where
  pub s0 : Each P (ends s.s0)
  pub s1 : Each P (ends s.s1)
  pub s2 : Each P (ends s.s2)

-- multiples of 2^-(779 + 4 v), at most 2^521, of suc v bits
abbrev pub Ranged : ℕ → Sums → Type 0
Ranged v s = EachSum (Summed v (bias - (779 + 4 * v)) (bias + 521)) s

-- the sums as the code takes them
pub record SumsIn (v : ℕ) (s : Sums) : Type 0 where
  pub held : AllHeld v s
  pub ranged : Ranged v s

-- a pressure: zero or from 2^-(v + 1) to 2^554
abbrev pub PressureIn : ℕ → Bracket → Type 0
PressureIn v p = HeldAs v (Digited v (bias - suc v) (bias + 554)) p
