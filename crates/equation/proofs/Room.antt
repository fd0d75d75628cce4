-- The bias leaves room for every exponent met, and powers of two below and above 1 in units of 2^-bias. Assumes nothing.
use mathlib.Core.Path.{◌≡◌, sym, ap, ◌∙◌}
use Prim.Native.Nat.{ℕ, ◌-◌, ◌*◌, ◌^◌, ◌≤◌}
use native.Mathlib.Omega.{arith}
use lib.Dec.{lit≤}
use lib.Pow.{pow-add}
use Rattle.sheet.specs.Number.{bias}

pub room : 100000 ≤ bias
unfolding bias
room = lit≤ tt

pub fall : (n : ℕ) → n ≤ bias → 2 ^ (bias - n) * 2 ^ n ≡ 2 ^ bias
fall n h = sym (pow-add 2 (bias - n) n) ∙ ap (λ (k : ℕ). 2 ^ k) (omega arith)
