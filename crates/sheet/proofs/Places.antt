-- Places: every quotient has one, whichever is found gives the rounding, and a place may be moved up and down. Assumes nothing.
use mathlib.Core.Path.{◌≡◌, refl, sym, ap, subst}
use mathlib.Core.Logic.{⊎_elim}
use mathlib.Core.Bool.{Bool, true, false}
use Prim.Native.Nat.{ℕ, suc, ◌+◌, ◌-◌, ◌*◌, ◌/◌, ◌^◌, ◌≤◌, ◌<◌}
use native.Mathlib.Nat.{le_trans, le_antisymm, le_of_eq, le_of_lt, lt_of_lt_of_le, mul-le-mul_right, mul-lt-mul_of_pos_right, lt_of_mul-lt-mul_right, eq_of_mul-eq-mul_right, div-lt_iff_lt-mul, le-div_iff_mul-le, div-mul-le_self, lt-div-mul-add, mul-pos, mul-zero, zero-mul}
use native.Mathlib.Omega.{arith}
use borrow.Author.Tests.{eq-eqb, ne_eqb, eqb-true, eqb-false}
use lib.Dec.{eqb}
use lib.Pow.{pow-add, pow_pos, pow_mono, shr_lt}
use lib.Ieee.{size}
use lib.Ieee.Digits.{size-lt, size_reaches}
use Rattle.sheet.specs.Magnitude.{floor_mag, ceil_mag, round_mag, Cut, Place, Fit, finish}
use Rattle.sheet.proofs.Gaps.{le_or_lt, zero_or_pos}
use Rattle.sheet.proofs.Digits.{lead_is}

pub cut-le : (s : Bool) (a n : ℕ) → Cut s a n → a ≤ n
unfolding Cut
cut-le true a n h = le_of_lt h
cut-le false a n h = le_of_eq h

-- not both
cut-one : (a n : ℕ) → Cut true a n → Cut false a n → ⊥
unfolding Cut
cut-one a n h k = let l : a < n = h in let e : a ≡ n = k in omega arith

pub place_le : {m : ℕ} {s : Bool} {e num den : ℕ} → Place m s e num den → m * 2 ^ e * den ≤ num
place_le {m} {s} {e} {num} {den} p = cut-le s (m * 2 ^ e * den) num p.low

pub place_den : {m : ℕ} {s : Bool} {e num den : ℕ} → Place m s e num den → 0 < den
place_den {m} {s} {e} {num} {den} p = ⊎_elim (λ z. absurd (no_den z)) (λ h. h) (zero_or_pos den)
  where
    no_den : den ≡ 0 → ⊥
    no_den z = let h : num < (m + 1) * 2 ^ e * 0 = rw z at p.high in omega (arith, rw mul-zero at h)

-- at one place a quotient has one row of digits, and one word of what was cut
pub place_digits : {a b : ℕ} {s t : Bool} {e num den : ℕ} → Place a s e num den → Place b t e num den → a ≡ b
place_digits {a} {b} {s} {t} {e} {num} {den} p q = le_antisymm (below a b (place_le p) q.high) (below b a (place_le q) p.high)
  where
    below : (a b : ℕ) → a * 2 ^ e * den ≤ num → num < (b + 1) * 2 ^ e * den → a ≤ b
    below a b l h =
        let k : a * (2 ^ e * den) < suc b * (2 ^ e * den) = omega arith in
        let m : a < suc b = lt_of_mul-lt-mul_right (2 ^ e * den) k in
        omega arith

pub place_sticky : {m : ℕ} {s t : Bool} {e num den : ℕ} → Place m s e num den → Place m t e num den → s ≡ t
place_sticky {m} {s} {t} {e} {num} {den} p q = one s t p.low q.low
  where
    one : (a b : Bool) → Cut a (m * 2 ^ e * den) num → Cut b (m * 2 ^ e * den) num → a ≡ b
    one true true x y = refl
    one true false x y = absurd (cut-one (m * 2 ^ e * den) num x y)
    one false true x y = absurd (cut-one (m * 2 ^ e * den) num y x)
    one false false x y = refl

-- ---- a found place gives the rounding

pub floor_place : (v : ℕ) {m : ℕ} {s : Bool} {e num den : ℕ} → Fit v m e → Place m s e num den → floor_mag (suc v) num den ≡ record { m = m; e = e }
unfolding floor_mag
floor_place v {m} {s} {e} {num} {den} f p =
    lead_is v (num / den) m e f ((le-div_iff_mul-le (place_den p)).1 (place_le p)) ((div-lt_iff_lt-mul (place_den p)).1 p.high)

pub round_place : (away : Bool) (v : ℕ) {m : ℕ} (s : Bool) {e num den : ℕ} → Fit v m e → Place m s e num den
    → round_mag away (suc v) num den ≡ finish away s (suc v) (record { m = m; e = e })
unfolding round_mag finish ceil_mag Cut
round_place true v {m} true {e} {num} {den} f p =
    rw (floor_place v f p, ne_eqb (m * 2 ^ e * den) num (λ h. let l : m * 2 ^ e * den < num = p.low in omega arith))
round_place true v {m} false {e} {num} {den} f p = rw (floor_place v f p, eq-eqb (m * 2 ^ e * den) num p.low)
round_place false v s f p = floor_place v f p

-- ---- every quotient has a place

pub record Located (v num den : ℕ) : Type 0 where
  pub m : ℕ
  pub sticky : Bool
  pub e : ℕ
  pub fit : Fit v m e
  pub place : Place m sticky e num den

lead-fit : (v n : ℕ) → Fit v (n / 2 ^ (size n - suc v)) (size n - suc v)
lead-fit v n =
    let k = size n - suc v in
    record {
      small = shr_lt (suc v) k (lt_of_lt_of_le (size-lt n) (pow_mono (let h : size n ≤ suc v + (size n - suc v) = omega arith in h)));
      full = λ p. (le-div_iff_mul-le (pow_pos k)).1 (le_trans (le_of_eq (sym (pow-add 2 v k))) (size_reaches n (v + k) (omega arith)));
    }

lead-place : (n p num den : ℕ) → 0 < p → num / den ≡ n → 0 < den → (n / p * p * den ≤ num) × (num < (n / p + 1) * p * den)
lead-place n p num den hp e hd =
    let a : n / p * p * den ≤ n * den = mul-le-mul_right den (div-mul-le_self n p) in
    let b : num / den * den ≤ num = div-mul-le_self num den in
    let c : num < num / den * den + den = lt-div-mul-add hd in
    let d : n < n / p * p + p = lt-div-mul-add hp in
    let f : suc n * den ≤ (n / p * p + p) * den = mul-le-mul_right den d in
    (omega (arith, ap (λ (x : ℕ). x * den) e), omega (arith, ap (λ (x : ℕ). x * den) e))

pub locate : (v num den : ℕ) → 0 < den → Located v num den
unfolding Cut
locate v num den h = go (eqb (m * 2 ^ k * den) num) refl
  where
    k : ℕ
    k = size (num / den) - suc v

    m : ℕ
    m = num / den / 2 ^ k

    both : (m * 2 ^ k * den ≤ num) × (num < (m + 1) * 2 ^ k * den)
    both = lead-place (num / den) (2 ^ k) num den (pow_pos k) refl h

    go : (b : Bool) → eqb (m * 2 ^ k * den) num ≡ b → Located v num den
    go true t =
        record { m = m; sticky = false; e = k; fit = lead-fit v (num / den); place = record { low = eqb-true _ _ t; high = both.1 } }
    go false t =
        let ne = eqb-false (m * 2 ^ k * den) num t in
        let lt : m * 2 ^ k * den < num = ⊎_elim (λ (g : num ≤ m * 2 ^ k * den). absurd (ne (le_antisymm both.0 g))) (λ g. g) (le_or_lt num (m * 2 ^ k * den)) in
        record { m = m; sticky = true; e = k; fit = lead-fit v (num / den); place = record { low = lt; high = both.1 } }

-- ---- a place is moved

-- the same quotient, written otherwise
pub place_ratio : {m : ℕ} {s : Bool} {e num den : ℕ} (num' den' : ℕ) → 0 < den' → num * den' ≡ num' * den → Place m s e num den → Place m s e num' den'
unfolding Cut
place_ratio {m} {s} {e} {num} {den} num' den' h r p = record { low = moved s p.low; high = above }
  where
    u : ℕ
    u = m * 2 ^ e

    above : num' < (m + 1) * 2 ^ e * den'
    above =
        let a : num * den' < (m + 1) * 2 ^ e * den * den' = mul-lt-mul_of_pos_right p.high h in
        lt_of_mul-lt-mul_right den (omega arith)

    moved : (t : Bool) → Cut t (m * 2 ^ e * den) num → Cut t (m * 2 ^ e * den') num'
    moved true l =
        let a : m * 2 ^ e * den * den' < num * den' = mul-lt-mul_of_pos_right l h in
        lt_of_mul-lt-mul_right den (omega arith)
    moved false l =
        eq_of_mul-eq-mul_right den (place_den p) (m * 2 ^ e * den') num' (omega (arith, ap (λ (x : ℕ). x * den') l))

-- the whole quotient times 2^t
pub place_scale : {m : ℕ} {s : Bool} {e num den : ℕ} (t : ℕ) → Place m s e num den → Place m s (e + t) (num * 2 ^ t) den
unfolding Cut
place_scale {m} {s} {e} {num} {den} t p =
    record { low = rw pow-add (moved s p.low); high = rw pow-add (omega (arith, mul-lt-mul_of_pos_right p.high (pow_pos t))) }
  where
    moved : (b : Bool) → Cut b (m * 2 ^ e * den) num → Cut b (m * (2 ^ e * 2 ^ t) * den) (num * 2 ^ t)
    moved true l = omega (arith, mul-lt-mul_of_pos_right l (pow_pos t))
    moved false l = omega (arith, ap (λ (x : ℕ). x * 2 ^ t) l)

-- t places are cut and were zero
pub place_cut_exact : {m : ℕ} {s : Bool} {e num den : ℕ} (t : ℕ) → m / 2 ^ t * 2 ^ t ≡ m → Place m s e num den → Place (m / 2 ^ t) s (e + t) num den
place_cut_exact {m} {s} {e} {num} {den} t q p =
    let same : m / 2 ^ t * 2 ^ (e + t) * den ≡ m * 2 ^ e * den = rw pow-add (omega (arith, ap (λ (x : ℕ). x * (2 ^ e * den)) q)) in
    let a : 1 * (2 ^ e * den) ≤ 2 ^ t * (2 ^ e * den) = mul-le-mul_right (2 ^ e * den) (pow_pos t) in
    record {
      low = subst (λ (x : ℕ). Cut s x num) (sym same) p.low;
      high = rw pow-add (omega (arith, p.high, ap (λ (x : ℕ). x * (2 ^ e * den)) q));
    }

-- t places are cut and were not all zero
pub place_cut : {m : ℕ} {s : Bool} {e num den : ℕ} (t : ℕ) → (m / 2 ^ t * 2 ^ t ≡ m → ⊥) → Place m s e num den → Place (m / 2 ^ t) true (e + t) num den
unfolding Cut
place_cut {m} {s} {e} {num} {den} t n p =
    let le : m / 2 ^ t * 2 ^ t ≤ m = div-mul-le_self m (2 ^ t) in
    let lt : m / 2 ^ t * 2 ^ t < m = ⊎_elim (λ (g : m ≤ m / 2 ^ t * 2 ^ t). absurd (n (omega arith))) (λ g. g) (le_or_lt m (m / 2 ^ t * 2 ^ t)) in
    let above : m < m / 2 ^ t * 2 ^ t + 2 ^ t = lt-div-mul-add (pow_pos t) in
    let unit : 0 < 2 ^ e * den = mul-pos (pow_pos e) (place_den p) in
    let a : m / 2 ^ t * 2 ^ t * (2 ^ e * den) < m * (2 ^ e * den) = mul-lt-mul_of_pos_right lt unit in
    let b : suc m * (2 ^ e * den) ≤ (m / 2 ^ t * 2 ^ t + 2 ^ t) * (2 ^ e * den) = mul-le-mul_right (2 ^ e * den) above in
    let l : m * 2 ^ e * den ≤ num = place_le p in
    record { low = rw pow-add (omega arith); high = rw pow-add (omega (arith, p.high)) }

-- a whole number of units is its own place
pub place_whole : (m e : ℕ) → Place m false e (m * 2 ^ e) 1
unfolding Cut
place_whole m e = let h = pow_pos e in record { low = omega arith; high = omega arith }

-- no digits and nothing cut: zero at any place
pub place_zero : {e num den : ℕ} (k : ℕ) → Place 0 false e num den → Place 0 false k num den
unfolding Cut
place_zero {e} {num} {den} k p =
    let l : 0 * 2 ^ e * den ≡ num = p.low in
    let z : 0 ≡ num = rw (zero-mul, zero-mul) at l in
    let unit : 0 < 2 ^ k * den = mul-pos (pow_pos k) (place_den p) in
    record { low = rw (zero-mul, zero-mul) z; high = omega arith }

-- no digits and something cut: the same at a place not below
pub place_less : {e num den : ℕ} (k : ℕ) → e ≤ k → Place 0 true e num den → Place 0 true k num den
unfolding Cut
place_less {e} {num} {den} k h p =
    let l : 0 * 2 ^ e * den < num = p.low in
    let z : 0 < num = rw (zero-mul, zero-mul) at l in
    let a : 2 ^ e * den ≤ 2 ^ k * den = mul-le-mul_right den (pow_mono h) in
    record { low = rw (zero-mul, zero-mul) z; high = omega (arith, p.high) }
