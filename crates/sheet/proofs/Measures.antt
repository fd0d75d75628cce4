-- What its size in units says of one sheet number: the range of its exponent, and whether it is exactly an f64. How sizes go through the
-- operations is in the crate `measure`. Assumes nothing.
use mathlib.Core.Path.{◌≡◌, sym, subst}
use mathlib.Core.Logic.{inl, inr, ⊎_elim}
use Prim.Native.Nat.{ℕ, suc, ◌+◌, ◌-◌, ◌*◌, ◌^◌, ◌≤◌, ◌<◌, ◌∣◌}
use native.Mathlib.Nat.{le_trans, lt_of_le_of_lt, lt_of_not-le, not-le_of_lt, mul-le-mul_right, mul-lt-mul_of_pos_right, dvd_trans, dvd-mul_right, dvd-mul_left_of_dvd, dvd-zero}
use native.Mathlib.Omega.{arith}
use lib.Pow.{pow-add, pow-lt, pow_pos, pow_mono}
use Rattle.sheet.specs.declared.Sheet.{Sheet}
use Rattle.sheet.specs.Magnitude.{Fit}
use Rattle.sheet.specs.Number.{bias, Spelled}
use Rattle.sheet.specs.Range.{extent, Span, Grain, Within, Doubled}
use Rattle.sheet.proofs.Gaps.{pow_le_split, zero_or_pos}
use Rattle.sheet.proofs.Spelling.{spelled-zero, extent-zero}

-- ---- powers of two

-- 2^a < 2^b only for a < b
pow_back : (a b : ℕ) → 2 ^ a < 2 ^ b → a < b
pow_back a b h = lt_of_not-le (λ (g : b ≤ a). not-le_of_lt h (pow_mono g))

pow_dvd : (g e : ℕ) → g ≤ e → 2 ^ g ∣ 2 ^ e
pow_dvd g e h = let d = pow_le_split g e h in subst (λ (x : ℕ). 2 ^ g ∣ x) (sym d.1) (dvd-mul_right (2 ^ g) (2 ^ d.0))

-- ---- grain

pub grain-shift : (g m e : ℕ) → g ≤ e → Grain g (m * 2 ^ e)
grain-shift g m e h = record { divides = dvd-mul_left_of_dvd (2 ^ g) (pow_dvd g e h) m }

pub grain-coarser : (g g' n : ℕ) → g' ≤ g → Grain g n → Grain g' n
grain-coarser g g' n h d = record { divides = dvd_trans (2 ^ g') (pow_dvd g' g h) d.divides }

pub grain-zero : (g : ℕ) → Grain g 0
grain-zero g = record { divides = dvd-zero (2 ^ g) }

-- ---- a sheet number of suc v bits

-- from 2^l units on its place is at least l - v
pub place_low : (v l m e : ℕ) → m < 2 ^ suc v → 2 ^ l ≤ m * 2 ^ e → l ≤ v + e
place_low v l m e s h =
    let a : m * 2 ^ e < 2 ^ suc v * 2 ^ e = mul-lt-mul_of_pos_right s (pow_pos e) in
    let b : 2 ^ l < 2 ^ (suc v + e) = rw pow-add (lt_of_le_of_lt h a) in
    let c = pow_back l (suc v + e) b in
    omega arith

place_high : (v h m e : ℕ) → 2 ^ v ≤ m → m * 2 ^ e ≤ 2 ^ h → v + e ≤ h
place_high v h m e f k =
    let a : 2 ^ v * 2 ^ e ≤ m * 2 ^ e = mul-le-mul_right (2 ^ e) f in
    let b : 2 ^ (v + e) < 2 ^ suc h = rw pow-add (let p = pow_pos h in let t : 2 ^ v * 2 ^ e ≤ 2 ^ h = le_trans a k in omega arith) in
    let c = pow_back (v + e) (suc h) b in
    omega arith

-- and it has all its digits
pub full : (v m e l : ℕ) → Fit v m e → 2 ^ l ≤ m * 2 ^ e → v ≤ l → 2 ^ v ≤ m
full v m e l f a c = ⊎_elim bottom f.full (zero_or_pos e)
  where
    bottom : e ≡ 0 → 2 ^ v ≤ m
    bottom z =
        let g : 2 ^ l ≤ m * 2 ^ 0 = subst (λ (i : ℕ). 2 ^ l ≤ m * 2 ^ i) z a in
        le_trans (pow_mono c) (omega arith)

-- its span says whether it is normal and where its exponent lies
pub span_within : (v lo hi l h : ℕ) (s : Sheet) → Spelled v s → Span l h (extent s) → v ≤ l → bias + v ≤ l + lo → h ≤ bias + hi + v → Within v lo hi s
span_within v lo hi l h s p k a b c = ⊎_elim none some k.least
  where
    none : extent s ≡ 0 → Within v lo hi s
    none z =
        let q = spelled-zero v s p (extent-zero s.m s.e z) in
        record { normal = inl q; exponent = inl q }

    some : 2 ^ l ≤ extent s → Within v lo hi s
    some t =
        let x = place_low v l s.m s.e p.fit.small t in
        let f = full v s.m s.e l p.fit t a in
        let y = place_high v h s.m s.e f k.most in
        record { normal = inr (record { low = f; high = p.fit.small }); exponent = inr (omega arith, omega arith) }

-- and whether its value is exactly an f64
pub grain-doubled : (g h : ℕ) (s : Sheet) → Grain g (extent s) → extent s ≤ 2 ^ h → bias ≤ g + 1074 → h < 1024 + bias → Doubled s
grain-doubled g h s d m a b =
    record {
      fine = grain-coarser g (bias - 1074) (extent s) (omega arith) d;
      small = lt_of_le_of_lt m (pow-lt b);
    }
