-- Places of a sum and of a difference: digits of one number added to, or taken from, the digits of another at one place. Assumes nothing.
use mathlib.Core.Path.{◌≡◌, ap}
use mathlib.Core.Bool.{Bool, true, false}
use Prim.Native.Nat.{ℕ, suc, ◌+◌, ◌-◌, ◌*◌, ◌^◌, ◌≤◌, ◌<◌}
use native.Mathlib.Nat.{le_dest, mul-pos, mul-lt-mul_of_pos_right, lt_of_mul-lt-mul_right, le_of_mul-le-mul_right}
use native.Mathlib.Omega.{arith}
use lib.Pow.{pow-add, pow_pos, pow_mono}
use Rattle.sheet.specs.Magnitude.{Place, Cut}

pub place_add : (m q : ℕ) (s : Bool) (e n : ℕ) → Place q s e n 1 → Place (m + q) s e (m * 2 ^ e + n) 1
unfolding Cut
place_add m q true e n p = let l : q * 2 ^ e * 1 < n = p.low in let h = p.high in record { low = omega arith; high = omega arith }
place_add m q false e n p = let l : q * 2 ^ e * 1 ≡ n = p.low in let h = p.high in record { low = omega arith; high = omega arith }

-- nothing was cut from what is taken
pub place_take : (m q e n : ℕ) → n ≤ m * 2 ^ e → Place q false e n 1 → Place (m - q) false e (m * 2 ^ e - n) 1
unfolding Cut
place_take m q e n le p =
    let l : q * 2 ^ e * 1 ≡ n = p.low in
    let u = pow_pos e in
    let k : q ≤ m = le_of_mul-le-mul_right (let t : q * 2 ^ e ≤ m * 2 ^ e = omega arith in t) u in
    taken (le_dest k) l
  where
    taken : (j : ℕ) × (q + j ≡ m) → q * 2 ^ e * 1 ≡ n → Place (m - q) false e (m * 2 ^ e - n) 1
    taken d l =
        let u = pow_pos e in
        let r : m - q ≡ d.0 = omega (arith, d.1) in
        let s : m * 2 ^ e ≡ q * 2 ^ e + d.0 * 2 ^ e = omega (arith, ap (λ (x : ℕ). x * 2 ^ e) d.1) in
        let n' : m * 2 ^ e - n ≡ d.0 * 2 ^ e = omega arith in
        rw (r, n') (record { low = omega arith; high = omega arith })

-- something was cut: one more is taken, and the rest stays
pub place_take_rest : (m q e n : ℕ) → n ≤ m * 2 ^ e → Place q true e n 1 → Place (m - q - 1) true e (m * 2 ^ e - n) 1
unfolding Cut
place_take_rest m q e n le p =
    let l : q * 2 ^ e * 1 < n = p.low in
    let u = pow_pos e in
    let k : q < m = lt_of_mul-lt-mul_right (2 ^ e) (let t : q * 2 ^ e < m * 2 ^ e = omega arith in t) in
    taken (le_dest k) l p.high
  where
    taken : (j : ℕ) × (suc q + j ≡ m) → q * 2 ^ e * 1 < n → n < (q + 1) * 2 ^ e * 1 → Place (m - q - 1) true e (m * 2 ^ e - n) 1
    taken d l h =
        let u = pow_pos e in
        let r : m - q - 1 ≡ d.0 = omega (arith, d.1) in
        let s : m * 2 ^ e ≡ q * 2 ^ e + 2 ^ e + d.0 * 2 ^ e = omega (arith, ap (λ (x : ℕ). x * 2 ^ e) d.1) in
        rw r (record { low = omega arith; high = omega arith })

-- a number of k digits at most lies whole below a place k places up
pub place_far : (m e to k : ℕ) → 0 < m → m < 2 ^ k → e + k ≤ to → Place 0 true to (m * 2 ^ e) 1
unfolding Cut
place_far m e to k p s h =
    let a : 0 < m * 2 ^ e = mul-pos p (pow_pos e) in
    let b : m * 2 ^ e < 2 ^ k * 2 ^ e = mul-lt-mul_of_pos_right s (pow_pos e) in
    let c : 2 ^ (e + k) ≤ 2 ^ to = pow_mono h in
    let d : 2 ^ e * 2 ^ k ≤ 2 ^ to = rw pow-add at c in
    record { low = omega arith; high = omega arith }
