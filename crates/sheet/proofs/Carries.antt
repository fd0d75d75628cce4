-- Digits that may have gone past suc v, as the code counts and takes what stands above them. Assumes nothing.
use mathlib.Core.Path.{◌≡◌, ap, ◌∙◌}
use mathlib.Core.Logic.{⊎_elim}
use Prim.Native.Nat.{ℕ, suc, ◌+◌, ◌-◌, ◌*◌, ◌/◌, ◌%◌, ◌^◌, ◌≤◌, ◌<◌}
use native.Mathlib.Nat.{mod-eq_of_lt, div-eq_of_lt, le-div_iff_mul-le, div-lt_iff_lt-mul}
use native.Mathlib.Omega.{arith}
use lib.Pow.{pow_pos}
use Rattle.sheet.specs.Range.{Width}
use Rattle.sheet.proofs.Gaps.{le_or_lt}
use Rattle.sheet.proofs.Live.{width_room}

module _ {v : ℕ} (w : Width v) (m : ℕ) (h : m < 2 ^ suc (suc v)) where
  one_up : 2 ^ (v + 1) ≡ 2 ^ suc v
  one_up = ap (λ (x : ℕ). 2 ^ x) (omega arith)

  pub none_above : m < 2 ^ suc v → m / 2 ^ (v + 1) ≡ 0
  none_above l = div-eq_of_lt (omega (arith, one_up))

  pub one-above : 2 ^ suc v ≤ m → m / 2 ^ (v + 1) ≡ 1
  one-above l =
      let p = pow_pos (v + 1) in
      omega
      (arith, (le-div_iff_mul-le p).1 (let k : 1 * 2 ^ (v + 1) ≤ m = omega (arith, one_up) in k), (div-lt_iff_lt-mul p).1 (let k : m < 2 * 2 ^ (v + 1) = omega (arith, one_up) in k))

  -- what is taken away then
  shifted : (c : ℕ) → c ≤ 1 → c * 2 ^ v % 2 ^ 64 ≡ c * 2 ^ v
  shifted c l = mod-eq_of_lt (omega (arith, width_room w, native.Mathlib.Nat.mul-le-mul_right (2 ^ v) l))

  nothing : m < 2 ^ suc v → m / 2 ^ (v + 1) * 2 ^ v % 2 ^ 64 ≡ 0
  nothing l = let z = none_above l in shifted (m / 2 ^ (v + 1)) (omega arith) ∙ ap (λ (c : ℕ). c * 2 ^ v) z ∙ omega arith

  half : 2 ^ suc v ≤ m → m / 2 ^ (v + 1) * 2 ^ v % 2 ^ 64 ≡ 2 ^ v
  half l = let z = one-above l in shifted (m / 2 ^ (v + 1)) (omega arith) ∙ ap (λ (c : ℕ). c * 2 ^ v) z ∙ omega arith

  pub above-few : m / 2 ^ (v + 1) ≤ 1
  above-few = ⊎_elim (λ (l : 2 ^ suc v ≤ m). omega (arith, one-above l)) (λ l. omega (arith, none_above l)) (le_or_lt (2 ^ suc v) m)

  pub taken-below : m / 2 ^ (v + 1) * 2 ^ v % 2 ^ 64 ≤ m
  taken-below = ⊎_elim (λ (l : 2 ^ suc v ≤ m). omega (arith, half l)) (λ l. omega (arith, nothing l)) (le_or_lt (2 ^ suc v) m)

  pub digits-plain : m < 2 ^ suc v → m - m / 2 ^ (v + 1) * 2 ^ v % 2 ^ 64 ≡ m
  digits-plain l = omega (arith, nothing l)

  pub digits-carry : 2 ^ suc v ≤ m → m - m / 2 ^ (v + 1) * 2 ^ v % 2 ^ 64 ≡ m - 2 ^ v
  digits-carry l = omega (arith, half l)
