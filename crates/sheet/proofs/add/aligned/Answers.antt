-- `sheet::add::aligned` meets its contract. Assumes nothing.
use mathlib.Core.Path.{◌≡◌, sym, subst}
use Prim.Native.Nat.{ℕ, ◌-◌, ◌*◌, ◌^◌, ◌≤◌, ◌<◌}
use native.Mathlib.Nat.{div-le_self, div-eq_of_lt, lt_of_lt_of_le}
use native.Mathlib.Omega.{arith}
use lib.Pow.{pow_mono}
use Rattle.sheet.specs.declared.place.Found.{Found}
use Rattle.sheet.specs.Magnitude.{Place}
use Rattle.sheet.specs.Steps.{CutBy, Aligned}
use Rattle.sheet.proofs.Places.{place_whole}
use Rattle.sheet.proofs.Sums.{place_far}
use mathlib.Core.Bool.{false, true}
use Rattle.sheet.proofs.add.aligned.Goals as goal

near : (m e to : ℕ) (y : Found) → e ≤ to → CutBy (to - e) (record { m = m; sticky = false; e = e }) y → Aligned m e to y
near m e to y h c =
    let p : y.e ≡ to = let k = c.place in omega arith in
    record {
      place = p;
      small = let d = c.digits in rw d (div-le_self m (2 ^ (to - e)));
      digits = c.digits;
      found = subst (λ (i : ℕ). Place y.m y.sticky i (m * 2 ^ e) 1) p (c.keeps (m * 2 ^ e) 1 (place_whole m e));
    }

far : (m e to : ℕ) → 0 < m → m < 2 ^ 64 → 64 ≤ to - e → Aligned m e to (record { m = 0; sticky = true; e = to })
far m e to p s h =
    record {
      place = mathlib.Core.Path.refl;
      small = omega arith;
      digits = sym (div-eq_of_lt (lt_of_lt_of_le s (pow_mono h)));
      found = place_far m e to 64 p s (omega arith);
    }

pub returns-then-t-lt64 : goal.returns-then-t-lt64
returns-then-t-lt64 c =
    let a = c.args in
    near a.m a.e a.to c.cut.result c.requires.1 c.cut.ensures

pub returns-else-t-lt64 : goal.returns-else-t-lt64
returns-else-t-lt64 c =
    let a = c.args in
    far a.m a.e a.to c.requires.0 (omega arith) c.if-t-lt64.false
