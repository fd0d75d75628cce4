-- What the order says of a sheet number's digits and size, and what the measures say of a bracket. Assumes nothing.
use mathlib.Core.Path.{◌≡◌}
use mathlib.Core.Bool.{false}
use mathlib.Core.Logic.{inr}
use Prim.Native.Nat.{ℕ, suc, ◌+◌, ◌*◌, ◌^◌, ◌≤◌, ◌<◌}
use native.Mathlib.Nat.{mul-lt-mul_of_pos_right}
use native.Mathlib.Omega.{arith}
use lib.Pow.{pow_pos, pow-add}
use Rattle.exact.specs.Fraction.{◌≼◌}
use Rattle.exact.proofs.Fraction.Order.{≺-≼-trans}
use Rattle.exact.proofs.Fraction.Units.{≼-units, units-≼}
use Rattle.sheet.specs.declared.Sheet.{Sheet}
use Rattle.sheet.specs.Number.{bias, value, Spelled}
use Rattle.sheet.specs.Range.{extent, Width, Span as Size}
use Rattle.sheet.proofs.Operations.{above_zero}
use Rattle.bracket.specs.declared.Bracket.{Bracket}
use Rattle.bracket.specs.Span.{Ordered, Each}
use Rattle.measure.specs.Measure.{Sized}
use Rattle.measure.proofs.Sizes.{within_of}
use Rattle.bracket.specs.Rules.{ends}
use Rattle.bracket.specs.Held.{Ends, Held}
use Rattle.series.proofs.Short.{short, unit}
use Rattle.series.proofs.Units.{unit-pos}

-- ---- a number above zero between two powers
pub value-least : (s : Sheet) (l : ℕ) → unit l ≼ value s → (s.neg ≡ false) × (2 ^ l ≤ extent s)
unfolding value short
value-least s l a =
    let z = (above_zero s (≺-≼-trans (unit-pos l) a)).0 in
    let t = ≼-units (1 * 2 ^ l) (extent s) (2 ^ bias) (pow_pos bias) (rw z at a) in
    (z, omega arith)

pub value-most : (s : Sheet) (h : ℕ) → s.neg ≡ false → value s ≼ unit h → extent s ≤ 2 ^ h
unfolding value short
value-most s h z b = let t = ≼-units (extent s) (1 * 2 ^ h) (2 ^ bias) (pow_pos bias) (rw z at b) in omega arith

pub value-size : {l h : ℕ} (s : Sheet) → unit l ≼ value s → value s ≼ unit h → Size l h (extent s)
value-size {l} {h} s a b = let z = value-least s l a in record { least = inr z.1; most = value-most s h z.0 b }

-- suc v digits at a place stay below the next power of two
pub value-under : (v : ℕ) (s : Sheet) → Spelled v s → s.neg ≡ false → value s ≼ unit (s.e + suc v)
unfolding value short
value-under v s p z =
    let l : s.m * 2 ^ s.e < 2 ^ suc v * 2 ^ s.e = mul-lt-mul_of_pos_right p.fit.small (pow_pos s.e) in
    let e = pow-add 2 s.e (suc v) in
    rw z (units-≼ (extent s) (1 * 2 ^ (s.e + suc v)) (2 ^ bias) (omega arith))

-- ---- brackets
pub each_held : {v l h : ℕ} (w : Width v) (b : Bracket) → Ends (Spelled v) b → Ordered (ends b) → Each (Sized l h) (ends b) → bias + v ≤ l + 80000 → h ≤ v + bias + 80000 → v ≤ l → Held v b
each_held w b p o s low high k =
    record {
      lo = record { width = w; within = within_of b.lo s.low p.lo k low high };
      hi = record { width = w; within = within_of b.hi s.high p.hi k low high };
      order = o.order;
    }
