-- The addends of a sum, the greater first: both have all their digits, and the first stands no lower. Assumes nothing.
use mathlib.Core.Path.{◌≡◌, sym, ap, ◌∙◌}
use mathlib.Core.Logic.{⊎_elim}
use mathlib.Core.Bool.{true}
use Prim.Native.Nat.{ℕ, suc, ◌-◌, ◌*◌, ◌/◌, ◌^◌, ◌≤◌, ◌<◌}
use native.Mathlib.Nat.{mul-pos, zero-mul, div-one, div-mul-le_self, mul-le-mul_left, pow-succ'}
use native.Mathlib.Omega.{arith}
use lib.Pow.{pow_pos, pow_mono}
use Rattle.sheet.specs.declared.Sheet.{Sheet}
use Rattle.sheet.specs.Magnitude.{Place, Cut}
use Rattle.sheet.specs.Range.{extent}
use Rattle.sheet.specs.Steps.{Addends}
use Rattle.sheet.proofs.Gaps.{zero_or_pos}
use Rattle.sheet.proofs.Live.{bias-is, live, width_room}
use Rattle.sheet.proofs.Compare.{place_order}

pub record Pair (v : ℕ) (a b : Sheet) : Type 0 where
  pub full : 2 ^ v ≤ a.m
  pub small : a.m < 2 ^ suc v
  pub low : 200 ≤ a.e
  pub high : a.e ≤ 400000
  pub full₂ : 2 ^ v ≤ b.m
  pub small₂ : b.m < 2 ^ suc v
  pub place : b.e ≤ a.e
  pub room : 2 ^ v ≤ 2 ^ 52

pub pair : (v : ℕ) (a b : Sheet) → Addends v a b → Pair v a b
pair v a b h =
    let p : 0 < extent b = mul-pos h.some (pow_pos b.e) in
    let x = live v 80000 80000 a h.first.within (λ z. none p z) in
    let y = live v 80000 80000 b h.second.within (λ z. let k = h.some in omega arith) in
    record {
      full = x.full;
      small = x.small;
      low = let z = bias-is in let k = x.low in omega arith;
      high = let z = bias-is in let k = x.high in omega arith;
      full₂ = y.full;
      small₂ = y.small;
      room = width_room h.first.width;
      place = place_order v a.m a.e b.m b.e x.small (record { small = y.small; full = λ _. y.full }) h.order;
    }
  where
    none : 0 < extent b → a.m ≡ 0 → ⊥
    none p z =
        let o : b.m * 2 ^ b.e ≤ 0 * 2 ^ a.e = rw z at h.order in
        let k : b.m * 2 ^ b.e ≤ 0 = rw zero-mul at o in
        omega arith

pub double : (m e : ℕ) → 0 < e → m * 2 * 2 ^ (e - 1) ≡ m * 2 ^ e
double m e p =
    let k : suc (e - 1) ≡ e = omega arith in
    let t : 2 ^ e ≡ 2 * 2 ^ (e - 1) = ap (λ (x : ℕ). 2 ^ x) (sym k) ∙ pow-succ' 2 (e - 1) in
    omega (arith, ap (λ (x : ℕ). m * x) t)

-- where digits of m were cut at a place, fewer than its own are left
pub short : (v m e to q : ℕ) → e ≤ to → m < 2 ^ suc v → q ≡ m / 2 ^ (to - e) → Place q true to (m * 2 ^ e) 1 → q < 2 ^ v
unfolding Cut
short v m e to q h s d p = ⊎_elim none some (zero_or_pos (to - e))
  where
    none : to - e ≡ 0 → q < 2 ^ v
    none z =
        let w : q ≡ m = d ∙ rw z (div-one m) in
        let t : to ≡ e = omega arith in
        let l : m * 2 ^ e * 1 < m * 2 ^ e = rw (w, t) at p.low in
        absurd (omega arith)

    some : 0 < to - e → q < 2 ^ v
    some k =
        let a : m / 2 ^ (to - e) * 2 ^ (to - e) ≤ m = div-mul-le_self m (2 ^ (to - e)) in
        let b : 2 ^ 1 ≤ 2 ^ (to - e) = pow_mono k in
        let c : m / 2 ^ (to - e) * 2 ^ 1 ≤ m / 2 ^ (to - e) * 2 ^ (to - e) = mul-le-mul_left (m / 2 ^ (to - e)) b in
        omega arith
