-- `sheet::add::taken` meets its contract. Assumes nothing.
use mathlib.Core.Path.{◌≡◌, refl, sym, ◌∙◌, subst}
use mathlib.Core.Bool.{Bool, true, false, false≢true}
use Prim.Native.Nat.{ℕ, ◌+◌, ◌-◌, ◌*◌, ◌^◌, ◌≤◌, ◌<◌}
use native.Mathlib.Nat.{sub-zero}
use native.Mathlib.Omega.{arith}
use lib.Pow.{pow_pos}
use Rattle.std.specs.Int.{from_bool}
use Rattle.sheet.specs.declared.Sheet.{Sheet}
use Rattle.sheet.specs.declared.place.Found.{Found}
use Rattle.sheet.specs.Magnitude.{Place}
use Rattle.sheet.specs.Range.{extent}
use Rattle.sheet.specs.Steps.{Addends, Aligned}
use Rattle.sheet.proofs.Addends.{pair, double, short}
use Rattle.sheet.proofs.Sums.{place_take, place_take_rest}
use Rattle.sheet.proofs.Operations.{sum_less}
use Rattle.sheet.proofs.add.taken.Goals as goal

-- the digits fit, and those left where something was cut are all there
record Ranges (v : ℕ) (a : Sheet) (x : Found) : Type 0 where
  twice : a.m * 2 < 2 ^ 54
  below : x.m + 1 ≤ a.m * 2
  full : x.sticky ≡ true → 2 ^ v ≤ a.m * 2 - x.m - 1
  low : 200 ≤ a.e
  high : a.e ≤ 400000

ranges : (v : ℕ) (a b : Sheet) (x : Found) → Addends v a b → b.e < a.e → Aligned b.m b.e (a.e - 1) x → Ranges v a x
ranges v a b x h l y =
    let p = pair v a b h in
    record {
      twice = omega (arith, p.small, p.room);
      below = omega (arith, p.full, p.small₂, y.small);
      full = λ t. left p.full (short v b.m b.e (a.e - 1) x.m (omega arith) p.small₂ y.digits (subst (λ (s : Bool). Place x.m s (a.e - 1) (extent b) 1) t y.found));
      low = p.low;
      high = p.high;
    }
  where
    left : 2 ^ v ≤ a.m → x.m < 2 ^ v → 2 ^ v ≤ a.m * 2 - x.m - 1
    left f s = omega arith

module _ (v : ℕ) (a b : Sheet) (x : Found) (h : Addends v a b) (l : b.e < a.e) (y : Aligned b.m b.e (a.e - 1) x) where
  twice : a.m * 2 * 2 ^ (a.e - 1) ≡ extent a
  twice = double a.m a.e (omega arith)

  order : extent b ≤ a.m * 2 * 2 ^ (a.e - 1)
  order = rw twice h.order

  -- one more is taken where something was cut
  left : (s : Bool) → x.sticky ≡ s → Place (a.m * 2 - x.m - from_bool s) s (a.e - 1) (extent a - extent b) 1
  left true t =
      subst (λ (n : ℕ). Place (a.m * 2 - x.m - 1) true (a.e - 1) (n - extent b) 1) twice
      (place_take_rest (a.m * 2) x.m (a.e - 1) (extent b) order (subst (λ (s : Bool). Place x.m s (a.e - 1) (extent b) 1) t y.found))
  left false t =
      rw sub-zero
      (subst (λ (n : ℕ). Place (a.m * 2 - x.m) false (a.e - 1) (n - extent b) 1) twice
      (place_take (a.m * 2) x.m (a.e - 1) (extent b) order (subst (λ (s : Bool). Place x.m s (a.e - 1) (extent b) 1) t y.found)))

-- no more than one
at_most_one : (s : Bool) → from_bool s ≤ 1
at_most_one true = omega arith
at_most_one false = omega arith

-- the digits that are left are all there where something was cut, and else there are some
some_left : (v : ℕ) (s : Bool) (d : ℕ) → 0 < d → (s ≡ true → 2 ^ v ≤ d - 1) → (s ≡ true → 2 ^ v ≤ d - from_bool s) × (0 < d - from_bool s)
some_left v true d p f = (f, omega (arith, f refl, pow_pos v))
some_left v false d p f = (λ t. absurd (false≢true t), omega arith)

pub aligned-x-requires : goal.aligned-x-requires
aligned-x-requires c = (c.requires.0.some, omega (arith, c.requires.2))

pub overflow_mul-a : goal.overflow_mul-a
overflow_mul-a c =
    let r = ranges c.args.v c.args.a c.args.b c.aligned-x.result c.requires.0 c.requires.2 c.aligned-x.ensures in
    omega (arith, r.twice)

pub overflow_sub-a-2 : goal.overflow_sub-a-2
overflow_sub-a-2 c =
    let r = ranges c.args.v c.args.a c.args.b c.aligned-x.result c.requires.0 c.requires.2 c.aligned-x.ensures in
    omega (arith, r.below)

pub overflow_sub-a-3 : goal.overflow_sub-a-3
overflow_sub-a-3 c =
    let r = ranges c.args.v c.args.a c.args.b c.aligned-x.result c.requires.0 c.requires.2 c.aligned-x.ensures in
    omega (arith, r.below, c.from-more.ensures, at_most_one c.aligned-x.result.sticky)

pub topped-requires : goal.topped-requires
topped-requires c =
    let r = ranges c.args.v c.args.a c.args.b c.aligned-x.result c.requires.0 c.requires.2 c.aligned-x.ensures in
    let l = rw (sym c.from-more.ensures) at (some_left c.args.v c.aligned-x.result.sticky (c.args.a.m * 2 - c.aligned-x.result.m) (omega (arith, r.below)) r.full) in
    (c.requires.0.first.width, record { full = λ t _. l.0 t; room = omega (arith, r.high) }, l.1, omega (arith, r.low))

pub returns : goal.returns
returns c =
    let k = c.args in
    let h = c.requires in
    let x = c.aligned-x in
    c.topped.ensures (extent k.a - extent k.b) 1 (rw c.from-more.ensures (left k.v k.a k.b x.result h.0 h.2 x.ensures x.result.sticky refl))
    ∙ sym (sum_less k.up k.v k.a k.b h.1 h.0.order)
