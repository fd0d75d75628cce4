-- `sheet::place::carried` meets its contract: one place up takes the digit that is one too many. Assumes nothing.
use mathlib.Core.Path.{ap₂}
use Prim.Native.Nat.{ℕ}
use native.Mathlib.Omega.{arith}
use Rattle.sheet.proofs.Carries.{none_above, one-above, above-few, taken-below, digits-plain, digits-carry}
use Rattle.sheet.proofs.place.carried.Goals as goal

pub overflow_sub-result : goal.overflow_sub-result
overflow_sub-result c = taken-below c.requires.0 c.args.m c.requires.1

pub overflow_add-result : goal.overflow_add-result
overflow_add-result c = omega (arith, above-few c.requires.0 c.args.m c.requires.1)

pub returns : goal.returns
returns c =
    let k = c.args in
    let w = c.requires.0 in
    let l = c.requires.1 in
    record {
      plain = λ h. ap₂ (λ (m e : ℕ). record { neg = k.neg; m = m; e = e }) (digits-plain w k.m l h) (omega (arith, none_above w k.m l h));
      carry = λ h. ap₂ (λ (m e : ℕ). record { neg = k.neg; m = m; e = e }) (digits-carry w k.m l h) (omega (arith, one-above w k.m l h));
    }
