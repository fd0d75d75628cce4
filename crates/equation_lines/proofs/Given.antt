-- What is written is given: results of calls that equal brackets of the rules have ends that are f64s. Assumes nothing.
use mathlib.Core.Path.{◌≡◌, sym, subst, ◌∙◌}
use mathlib.Core.Bool.{Bool, true}
use Prim.Native.Nat.{ℕ, suc, ◌^◌, ◌<◌}
use native.Mathlib.Omega.{arith}
use lib.Dec.{T}
use lib.Ieee.{Float}
use Rattle.exact.proofs.Fraction.Order.{≼-by}
use Rattle.sheet.specs.declared.Sheet.{Sheet}
use Rattle.sheet.specs.Range.{Width, InRange, Doubled}
use Rattle.kind.specs.Kind.{widest}
use Rattle.doubles.specs.Double.{exact_of}
use Rattle.doubles.specs.Range.{accepted_density}
use Rattle.doubles.proofs.Write.{normal-few}
use Rattle.bracket.specs.declared.Bracket.{Bracket}
use Rattle.bracket.specs.Rules.{ends, minus}
use Rattle.bracket.specs.Held.{Ends, Held}
use Rattle.series.specs.Pair.{Pair}
use Rattle.equation.specs.declared.Sums.{Sums}
use Rattle.equation_lines.specs.declared.State.{State}
use Rattle.equation.specs.Ranged.{SumsIn, PressureIn}
use Rattle.equation.specs.Rules.{sums, pressure_of, stiffness_of, gibbs_gap_of}
use Rattle.equation.proofs.Cases.{pressure-is, stiffness-is, gibbs_gap-is, pressure_gap-is}
use Rattle.equation.proofs.Doubled.{pressure-doubled, stiffness-doubled, gibbs_gap-doubled, pressure_gap-doubled, pressure-held, stiffness-held, gibbs_gap-held, pressure_gap-held}
use Rattle.equation.proofs.HoldsSums.{sums-in}
use Rattle.equation.proofs.Taken.{temperature_of, density-of}

-- a test that passed
pub passed : {r b : Bool} → r ≡ b → r ≡ true → T b
passed p q = subst T (sym (sym p ∙ q)) tt

-- what is written as an f64: it is one exactly, and has no more digits
abbrev pub Written : Sheet → Type 0
Written s = Doubled s × (s.m < 2 ^ 53)

end-given : {v : ℕ} {s : Sheet} → Doubled s → InRange v s → Written s
end-given {v} {s} d r = (d, normal-few v s r.within.normal (omega (arith, r.width.high)))

ends-given : {v : ℕ} {r b : Bracket} → r ≡ b → Ends Doubled b → Held v b → Ends Written r
ends-given e d h = subst (Ends Written) (sym e) (record { lo = end-given d.lo h.lo; hi = end-given d.hi h.hi })

-- the brackets of a state's table at its temperature, of one density and of two
module _ {v : ℕ} (w : Width v) (state : State) where
  pub sums-given : (rho : Float) → T (accepted_density widest rho) → {s : Sums} → s ≡ sums (suc v) state.table.kind state.table.bytes.now (exact_of state.t) (exact_of rho) → SumsIn v s
  sums-given rho d e = subst (SumsIn v) (sym e) (sums-in w state.table.kind state.table.bytes.now state.table.sound (temperature_of state.t state.temperature) (density-of rho d))

  module _ (rho : Float) (d : T (accepted_density widest rho)) {s : Sums} (e : s ≡ sums (suc v) state.table.kind state.table.bytes.now (exact_of state.t) (exact_of rho)) where
    pub pressure-range : {r : Bracket} → r ≡ pressure_of (suc v) (exact_of state.t) (exact_of rho) s → PressureIn v r
    pressure-range i =
        subst (PressureIn v) (sym (pressure-is (suc v) state.table.kind state.table.bytes.now (exact_of state.t) (exact_of rho) e i)) (pressure-held w state.table.kind state.table.bytes.now state.table.sound (temperature_of state.t state.temperature) (density-of rho d))

    pub pressure-given : {r : Bracket} → r ≡ pressure_of (suc v) (exact_of state.t) (exact_of rho) s → Ends Written r
    pressure-given i =
        ends-given (pressure-is (suc v) state.table.kind state.table.bytes.now (exact_of state.t) (exact_of rho) e i)
        (pressure-doubled v (omega (arith, w.low)) (omega (arith, w.high)) state.table.kind state.table.bytes.now state.table.sound (temperature_of state.t state.temperature) (density-of rho d))
        (pressure-held w state.table.kind state.table.bytes.now state.table.sound (temperature_of state.t state.temperature) (density-of rho d)).held

    pub stiffness-given : {r : Bracket} → r ≡ stiffness_of (suc v) (exact_of state.t) s → Ends Written r
    stiffness-given i =
        ends-given (stiffness-is (suc v) state.table.kind state.table.bytes.now (exact_of state.t) (exact_of rho) e i)
        (stiffness-doubled v (omega (arith, w.low)) (omega (arith, w.high)) state.table.kind state.table.bytes.now state.table.sound (temperature_of state.t state.temperature) (density-of rho d))
        (stiffness-held w state.table.kind state.table.bytes.now state.table.sound (temperature_of state.t state.temperature) (density-of rho d))

  module _ (liquid vapour : Float) (p : Pair liquid vapour) {x y : Sums} (i : x ≡ sums (suc v) state.table.kind state.table.bytes.now (exact_of state.t) (exact_of liquid))
      (j : y ≡ sums (suc v) state.table.kind state.table.bytes.now (exact_of state.t) (exact_of vapour)) where
    pub gap-given : {m n r : Bracket} → m ≡ pressure_of (suc v) (exact_of state.t) (exact_of liquid) x → n ≡ pressure_of (suc v) (exact_of state.t) (exact_of vapour) y
        → r ≡ minus (suc v) (ends m) (ends n) → Ends Written r
    gap-given k l e =
        ends-given
        (pressure_gap-is (suc v) state.table.kind state.table.bytes.now (exact_of state.t) (exact_of liquid) (exact_of vapour) (pressure-is (suc v) state.table.kind state.table.bytes.now (exact_of state.t) (exact_of liquid) i k)
        (pressure-is (suc v) state.table.kind state.table.bytes.now (exact_of state.t) (exact_of vapour) j l) e)
        (pressure_gap-doubled v (omega (arith, w.low)) (omega (arith, w.high)) state.table.kind state.table.bytes.now state.table.sound (temperature_of state.t state.temperature) (density-of liquid p.dense) (density-of vapour p.thin))
        (pressure_gap-held w state.table.kind state.table.bytes.now state.table.sound (temperature_of state.t state.temperature) (density-of liquid p.dense) (density-of vapour p.thin))

    pub gibbs_given : {r : Bracket} → r ≡ gibbs_gap_of (suc v) (exact_of state.t) (exact_of liquid) (exact_of vapour) x y → Ends Written r
    gibbs_given e =
        ends-given (gibbs_gap-is (suc v) state.table.kind state.table.bytes.now (exact_of state.t) (exact_of liquid) (exact_of vapour) i j e)
        (gibbs_gap-doubled v (omega (arith, w.low)) (omega (arith, w.high)) state.table.kind state.table.bytes.now state.table.sound (temperature_of state.t state.temperature) (density-of liquid p.dense) (density-of vapour p.thin)
        (≼-by (exact_of vapour) (exact_of liquid) p.order))
        (gibbs_gap-held w state.table.kind state.table.bytes.now state.table.sound (temperature_of state.t state.temperature) (density-of liquid p.dense) (density-of vapour p.thin)
        (≼-by (exact_of vapour) (exact_of liquid) p.order))
