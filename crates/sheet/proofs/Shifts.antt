-- Digits within a word: how far their leading zeros let them go up, and what stays the same when they go up and are cut. Assumes nothing.
use mathlib.Core.Path.{◌≡◌, sym, ap, ◌∙◌, subst}
use mathlib.Core.Logic.{⊎_elim}
use mathlib.Core.Bool.{Bool, true, false}
use Prim.Native.Nat.{ℕ, ◌+◌, ◌-◌, ◌*◌, ◌/◌, ◌^◌, ◌≤◌, ◌<◌}
use native.Mathlib.Nat.{le_trans, le_of_eq, mul-le-mul_right, mul-pos, eq_of_mul-eq-mul_right}
use native.Mathlib.Omega.{arith}
use lib.Count.{count_leading_zeros, leading_top, leading_length}
use lib.Pow.{pow-add, pow_pos, pow_mono, shl-shr, shr-shr}
use Rattle.sheet.specs.Magnitude.{Place, Cut}
use Rattle.sheet.proofs.Gaps.{le_or_lt}
use Rattle.sheet.proofs.Places.{place_den, place_cut, place_cut_exact}

-- 2^b as two factors
pub pow_part : (a b : ℕ) → a ≤ b → 2 ^ b ≡ 2 ^ a * 2 ^ (b - a)
pow_part a b h = let k : b ≡ a + (b - a) = omega arith in ap (λ (x : ℕ). 2 ^ x) k ∙ pow-add 2 a (b - a)

-- ---- leading zeros

-- m and whatever stands below its last digit fit a word as far up as there are zeros
pub up_fits : (m t : ℕ) → m < 2 ^ 64 → t ≤ count_leading_zeros 64 m → (m + 1) * 2 ^ t ≤ 2 ^ 64
up_fits m t h l =
    let d = leading_length 64 m h in
    let a : (m + 1) * 2 ^ t ≤ 2 ^ d.0 * 2 ^ t = mul-le-mul_right (2 ^ t) (let k = d.2 in let g : m + 1 ≤ 2 ^ d.0 = omega arith in g) in
    let b : 2 ^ d.0 * 2 ^ t ≤ 2 ^ 64 = le_trans (le_of_eq (sym (pow-add 2 d.0 t))) (pow_mono (let k = d.1 in let g : d.0 + t ≤ 64 = omega arith in g)) in
    le_trans a b

pub up_full : (m : ℕ) → 0 < m → m < 2 ^ 64 → (count_leading_zeros 64 m < 64) × (2 ^ 63 ≤ m * 2 ^ count_leading_zeros 64 m)
up_full m p h =
    let z = count_leading_zeros 64 m in
    let t = leading_top 64 m p h in
    let k : 63 ≡ t.0 + z = omega (arith, t.1) in
    (omega (arith, t.1), le_trans (le_of_eq (ap (λ (x : ℕ). 2 ^ x) k ∙ pow-add 2 t.0 z)) (mul-le-mul_right (2 ^ z) t.2))

pub some_zeros : (m : ℕ) → m < 2 ^ 63 → 0 < count_leading_zeros 64 m
some_zeros m h =
    let d = leading_length 64 m (omega arith) in
    let k : d.0 < 64 = ⊎_elim (λ (g : 64 ≤ d.0). absurd (let p : 2 ^ 64 ≤ 2 ^ d.0 = pow_mono g in let q = d.3 in omega arith)) (λ g. g) (le_or_lt 64 d.0) in
    omega (arith, d.1)

-- ---- up and down

pub down_more : (m s u : ℕ) → s ≤ u → m * 2 ^ s / 2 ^ u ≡ m / 2 ^ (u - s)
down_more m s u h =
    let k : u ≡ s + (u - s) = omega arith in
    ap (λ (x : ℕ). m * 2 ^ s / 2 ^ x) k ∙ sym (shr-shr (m * 2 ^ s) s (u - s)) ∙ ap (λ (x : ℕ). x / 2 ^ (u - s)) (shl-shr m s)

up_more : (m s u : ℕ) → u ≤ s → m * 2 ^ s ≡ m * 2 ^ (s - u) * 2 ^ u
up_more m s u h = omega (arith, ap (λ (x : ℕ). m * x) (pow_part u s h))

pub up_only : (m s u : ℕ) → u ≤ s → m * 2 ^ s / 2 ^ u ≡ m * 2 ^ (s - u)
up_only m s u h = ap (λ (x : ℕ). x / 2 ^ u) (up_more m s u h) ∙ shl-shr (m * 2 ^ (s - u)) u

-- what comes back whole was whole before it went up
same-cut : (m q s u : ℕ) → s ≤ u → q * 2 ^ u ≡ m * 2 ^ s → q * 2 ^ (u - s) ≡ m
same-cut m q s u h e =
    eq_of_mul-eq-mul_right (2 ^ s) (pow_pos s) (q * 2 ^ (u - s)) m
    (omega (arith, e, ap (λ (x : ℕ). q * x) (pow_part s u h)))

-- nothing was cut, so t places may be opened below
pub place_open : {m e num den : ℕ} (t : ℕ) → t ≤ e → Place m false e num den → Place (m * 2 ^ t) false (e - t) num den
unfolding Cut
place_open {m} {e} {num} {den} t h p =
    let l : m * 2 ^ e * den ≡ num = p.low in
    let k : m * 2 ^ e * den ≡ m * (2 ^ t * 2 ^ (e - t)) * den = ap (λ (x : ℕ). m * x * den) (pow_part t e h) in
    let unit : 0 < 2 ^ (e - t) * den = mul-pos (pow_pos (e - t)) (place_den p) in
    record { low = omega arith; high = omega arith }

module _ (m s u e : ℕ) (b : Bool) (below : s ≤ e + u) (num den : ℕ) where
  down_place : s ≤ u → e + (u - s) ≡ e + u - s
  down_place h = omega arith

  up_place : u ≤ s → e - (s - u) ≡ e + u - s
  up_place h = omega arith

  pub place_moved : (b ≡ true → s ≤ u) → m * 2 ^ s / 2 ^ u * 2 ^ u ≡ m * 2 ^ s → Place m b e num den → Place (m * 2 ^ s / 2 ^ u) b (e + u - s) num den
  place_moved whole q p = ⊎_elim down (λ (h : u < s). up b refl_b h p) (le_or_lt s u)
    where
      refl_b : b ≡ b
      refl_b = mathlib.Core.Path.refl

      down : s ≤ u → Place (m * 2 ^ s / 2 ^ u) b (e + u - s) num den
      down h =
          let d = down_more m s u h in
          subst (λ (k : ℕ). Place (m * 2 ^ s / 2 ^ u) b k num den) (down_place h)
          (subst (λ (k : ℕ). Place k b (e + (u - s)) num den) (sym d)
          (place_cut_exact (u - s) (same-cut m (m / 2 ^ (u - s)) s u h (ap (λ (k : ℕ). k * 2 ^ u) (sym d) ∙ q)) p))

      up : (c : Bool) → b ≡ c → u < s → Place m c e num den → Place (m * 2 ^ s / 2 ^ u) c (e + u - s) num den
      up true t h p = absurd (let g = whole t in omega arith)
      up false t h p =
          let l : u ≤ s = omega arith in
          subst (λ (k : ℕ). Place (m * 2 ^ s / 2 ^ u) false k num den) (up_place l)
          (subst (λ (k : ℕ). Place k false (e - (s - u)) num den) (sym (up_only m s u l)) (place_open (s - u) (omega arith) p))

  pub place_moved_cut : (m * 2 ^ s / 2 ^ u * 2 ^ u ≡ m * 2 ^ s → ⊥) → Place m b e num den → Place (m * 2 ^ s / 2 ^ u) true (e + u - s) num den
  place_moved_cut q p = ⊎_elim down (λ (h : u < s). absurd (q (back (omega arith)))) (le_or_lt s u)
    where
      back : u ≤ s → m * 2 ^ s / 2 ^ u * 2 ^ u ≡ m * 2 ^ s
      back h = ap (λ (k : ℕ). k * 2 ^ u) (up_only m s u h) ∙ sym (up_more m s u h)

      down : s ≤ u → Place (m * 2 ^ s / 2 ^ u) true (e + u - s) num den
      down h =
          let d = down_more m s u h in
          subst (λ (k : ℕ). Place (m * 2 ^ s / 2 ^ u) true k num den) (down_place h)
          (subst (λ (k : ℕ). Place k true (e + (u - s)) num den) (sym d)
          (place_cut (u - s) (λ (g : m / 2 ^ (u - s) * 2 ^ (u - s) ≡ m). q (ap (λ (k : ℕ). k * 2 ^ u) d ∙ whole g)) p))
        where
          whole : m / 2 ^ (u - s) * 2 ^ (u - s) ≡ m → m / 2 ^ (u - s) * 2 ^ u ≡ m * 2 ^ s
          whole g = omega (arith, ap (λ (k : ℕ). k * 2 ^ s) g, ap (λ (k : ℕ). m / 2 ^ (u - s) * k) (pow_part s u h))
