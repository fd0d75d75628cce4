-- `sheet::place::next` meets its contract. Assumes nothing.
use mathlib.Core.Path.{◌≡◌, sym, ap, ◌∙◌}
use mathlib.Core.Bool.{Bool, true}
use Prim.Native.Nat.{ℕ, suc, ◌+◌, ◌/◌, ◌^◌, ◌≤◌, ◌<◌}
use native.Mathlib.Omega.{arith}
use lib.Pow.{pow_pos}
use Rattle.sheet.specs.declared.Sheet.{Sheet}
use Rattle.sheet.specs.Magnitude.{next, finish}
use Rattle.sheet.specs.Number.{signed}
use Rattle.sheet.proofs.Live.{width_room, full-shl}
use Rattle.sheet.proofs.Rounding.{next-carry, next-plain}
use Rattle.sheet.proofs.Signed.{signed-pos}
use Rattle.sheet.proofs.place.next.Goals as goal

module _ (v : ℕ) (neg : Bool) (m e : ℕ) (h : m < 2 ^ suc v) where
  abbrev made : ℕ → ℕ → Sheet
  made n f = record { neg = neg; m = n; e = f }

  plain : m + 1 < 2 ^ suc v → made (m + 1) e ≡ signed neg (finish true true (suc v) (record { m = m; e = e }))
  unfolding finish
  plain l = sym (ap (signed neg) (next-plain (suc v) m e (λ z. omega arith)) ∙ signed-pos neg (m + 1) e (λ z. omega arith))

  carry : 2 ^ suc v ≤ m + 1 → made ((m + 1) / 2) (e + 1) ≡ signed neg (finish true true (suc v) (record { m = m; e = e }))
  unfolding finish
  carry l =
      let q : m + 1 ≡ 2 ^ suc v = omega arith in
      let n : next (suc v) (record { m = m; e = e }) ≡ record { m = (m + 1) / 2; e = e + 1 } = rw q (next-carry (suc v) m e q) in
      sym (ap (signed neg) n ∙ signed-pos neg ((m + 1) / 2) (e + 1) (λ z. omega (arith, pow_pos v)))

pub overflow_add-n : goal.overflow_add-n
overflow_add-n c = omega (arith, c.requires.1, width_room c.requires.0)

pub returns-then-n-full : goal.returns-then-n-full
returns-then-n-full c =
    let k = c.args in
    plain k.v k.neg k.m k.e c.requires.1 (omega (arith, c.if-n-full.true, full-shl c.requires.0))

pub returns-else-n-full : goal.returns-else-n-full
returns-else-n-full c =
    let k = c.args in
    carry k.v k.neg k.m k.e c.requires.1 (omega (arith, c.if-n-full.false, full-shl c.requires.0))
