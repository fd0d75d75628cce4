-- `sheet::add::level` meets its contract. Assumes nothing.
use mathlib.Core.Path.{◌≡◌, sym, ◌∙◌, subst}
use mathlib.Core.Bool.{false}
use Prim.Native.Nat.{ℕ, ◌-◌, ◌*◌, ◌^◌, ◌≤◌}
use native.Mathlib.Nat.{le_of_mul-le-mul_right}
use native.Mathlib.Omega.{arith}
use lib.Pow.{pow_pos}
use Rattle.sheet.specs.declared.Sheet.{Sheet}
use Rattle.sheet.specs.Magnitude.{Place}
use Rattle.sheet.specs.Range.{extent}
use Rattle.sheet.specs.Steps.{Addends}
use Rattle.sheet.proofs.Addends.{pair}
use Rattle.sheet.proofs.Places.{place_whole}
use Rattle.sheet.proofs.Sums.{place_take}
use Rattle.sheet.proofs.Operations.{sum_less}
use Rattle.sheet.proofs.add.level.Goals as goal

digits : (v : ℕ) (a b : Sheet) → Addends v a b → a.e ≡ b.e → b.m ≤ a.m
digits v a b h e = le_of_mul-le-mul_right (let k : b.m * 2 ^ b.e ≤ a.m * 2 ^ b.e = rw e at h.order in k) (pow_pos b.e)

found : (v : ℕ) (a b : Sheet) → Addends v a b → a.e ≡ b.e → Place (a.m - b.m) false a.e (extent a - extent b) 1
found v a b h e =
    place_take a.m b.m a.e (extent b) h.order (subst (λ (i : ℕ). Place b.m false i (extent b) 1) (sym e) (place_whole b.m b.e))

pub overflow_sub-a : goal.overflow_sub-a
overflow_sub-a c = digits c.args.v c.args.a c.args.b c.requires.0 c.requires.2

pub rounded-requires : goal.rounded-requires
rounded-requires c =
    let p = pair c.args.v c.args.a c.args.b c.requires.0 in
    (c.requires.0.first.width, record { full = λ t _. absurd (mathlib.Core.Bool.false≢true t); room = omega (arith, p.high) })

pub returns : goal.returns
returns c =
    let k = c.args in
    let h = c.requires in
    c.rounded.ensures (extent k.a - extent k.b) 1 (found k.v k.a k.b h.0 h.2)
    ∙ sym (sum_less k.up k.v k.a k.b h.1 h.0.order)
