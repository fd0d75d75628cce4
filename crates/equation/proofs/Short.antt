-- A whole number of few digits, times a power of two, stays on its side of a rounding. Assumes nothing.
use mathlib.Core.Path.{◌≡◌, refl}
use mathlib.Core.Bool.{Bool, true, false}
use Prim.Native.Nat.{ℕ, suc, ◌+◌, ◌*◌, ◌^◌, ◌<◌}
use native.Mathlib.Omega.{arith}
use lib.Pow.{pow-add, pow_pos}
use Rattle.exact.specs.Fraction.{Fraction, nat, parts, ◌≼◌, ◌≈◌}
use Rattle.exact.proofs.Fraction.Order.{≼_trans, ≼-≈-trans, ≈-≼-trans, ≈-sym}
use Rattle.exact.proofs.Fraction.Parts.{parts-nat, parts-≼}
use Rattle.sheet.specs.Magnitude.{Magnitude, units, round_mag}
use Rattle.sheet.specs.Number.{bias, value}
use Rattle.sheet.specs.Round.{away, round, up, down}
use Rattle.sheet.proofs.Laws.{round_mono}
use Rattle.sheet.proofs.Rounding.{keep_low, keep_high}
use Rattle.sheet.proofs.Signed.{round_parts, signed-value}

module _ (v m k : ℕ) (few : m < 2 ^ suc v) where
  -- in units
  raised : m * 2 ^ k * 2 ^ bias ≡ m * 2 ^ (k + bias)
  raised = rw (pow-add 2 k bias) (omega arith)

  mag : Bool → Magnitude
  mag d = round_mag (away d false) (suc v) (m * 2 ^ (k + bias)) 1

  own : (d : Bool) → value (round d (suc v) (nat (m * 2 ^ k))) ≈ parts false (units (mag d)) (2 ^ bias)
  unfolding mag
  own d =
      rw (round_parts d v (nat (m * 2 ^ k)) false (m * 2 ^ k) 1 (m * 2 ^ (k + bias)) 1 (omega arith) (omega arith) (≈-sym (parts-nat (m * 2 ^ k))) (rw (← raised) refl))
      (signed-value false (mag d))

  pub short-up : {x : Fraction} → x ≼ nat (m * 2 ^ k) → value (up (suc v) x) ≼ nat (m * 2 ^ k)
  unfolding mag
  short-up h =
      let q = keep_high (away true false) v (m * 2 ^ (k + bias)) 1 (omega arith) m (k + bias) few (omega arith) in
      ≼_trans (round_mono true v h)
      (≈-≼-trans (own true)
      (≼-≈-trans (parts-≼ (units (mag true)) (2 ^ bias) (m * 2 ^ k) 1 (pow_pos bias) (omega arith) (rw raised (omega arith))) (parts-nat (m * 2 ^ k))))

  pub short-down : {x : Fraction} → nat (m * 2 ^ k) ≼ x → nat (m * 2 ^ k) ≼ value (down (suc v) x)
  unfolding mag
  short-down h =
      let q = keep_low (away false false) v (m * 2 ^ (k + bias)) 1 (omega arith) m (k + bias) few (omega arith) in
      ≼_trans
      (≈-≼-trans (≈-sym (parts-nat (m * 2 ^ k)))
      (≼-≈-trans (parts-≼ (m * 2 ^ k) 1 (units (mag false)) (2 ^ bias) (omega arith) (pow_pos bias) (rw raised (omega arith))) (≈-sym (own false))))
      (round_mono false v h)
