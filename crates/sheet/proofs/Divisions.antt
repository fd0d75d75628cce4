-- Long division: digits are brought down, many at once, and what is found has its place. Assumes nothing.
use mathlib.Core.Path.{◌≡◌, refl, sym, ap, ◌∙◌}
use mathlib.Core.Logic.{⊎_elim}
use mathlib.Core.Bool.{Bool, true, false, not}
use Prim.Native.Nat.{ℕ, min, suc, ◌+◌, ◌-◌, ◌*◌, ◌/◌, ◌%◌, ◌^◌, ◌≤◌, ◌<◌}
use native.Mathlib.Nat.{mul-pos, mul_assoc, zero-mul, add-zero, mul-lt-mul_of_pos_right, pos_of_ne-zero, div-add-mod', mod-lt, div-le_self, div-eq_of_lt, div-lt_iff_lt-mul, le-div_iff_mul-le, lt_of_mul-lt-mul_right, mul-le-mul_left, mul-le-mul_right}
use native.Mathlib.Omega.{arith}
use borrow.Author.Tests.{eqb-true, eqb-false}
use lib.Count.{count_leading_zeros}
use lib.Dec.{eqb}
use lib.Pow.{pow-add, pow_pos}
use Rattle.sheet.specs.declared.divide.Outcome.{Outcome}
use Rattle.sheet.specs.declared.given.Division.{Division}
use Rattle.sheet.specs.Magnitude.{Place, Cut}
use Rattle.sheet.specs.Number.{Digits}
use Rattle.sheet.specs.Steps.{Dividing, Divisible, BroughtDown, Quotes}
use Rattle.sheet.proofs.Gaps.{le_or_lt, zero_or_pos}
use Rattle.sheet.proofs.Shifts.{pow_part, up_fits, up_full, some_zeros}

-- ---- how many digits at once

module _ (den : ℕ) (x : Division) (d : Divisible den x) where
  -- both numbers leave room for a digit
  pub room-left : x.rest < den → 0 < min (min (count_leading_zeros 64 x.digits) (count_leading_zeros 64 x.rest)) x.place
  room-left h = omega (arith, some_zeros x.digits d.few, some_zeros x.rest (omega (arith, d.divisor.1)), d.place)

  module _ (word : x.rest < 2 ^ 64) (t : ℕ) (f : t ≤ count_leading_zeros 64 x.digits) (g : t ≤ count_leading_zeros 64 x.rest) where
    -- one of the two is not zero
    pub within_word : t < 64
    within_word =
        ⊎_elim
        (λ z. omega (arith, g, (up_full x.rest (omega (arith, z, d.some)) word).0))
        (λ p. omega (arith, f, (up_full x.digits p (omega (arith, d.few))).0))
        (zero_or_pos x.digits)

    pub rest_fits : x.rest * 2 ^ t < 2 ^ 64
    rest_fits = omega (arith, up_fits x.rest t word g, pow_pos t)

    above : (x.digits + 1) * 2 ^ t ≤ 2 ^ 64
    above = up_fits x.digits t (omega (arith, d.few)) f

    pub digits-fit : x.digits * 2 ^ t < 2 ^ 64
    digits-fit = omega (arith, above, pow_pos t)

    pub sum_fits : x.digits * 2 ^ t + x.rest * 2 ^ t / den < 2 ^ 64
    sum_fits = ⊎_elim none some (zero_or_pos x.digits)
      where
        none : x.digits ≡ 0 → x.digits * 2 ^ t + x.rest * 2 ^ t / den < 2 ^ 64
        none z = rw (z, zero-mul) (omega (arith, div-le_self (x.rest * 2 ^ t) den, rest_fits))

        some : 0 < x.digits → x.digits * 2 ^ t + x.rest * 2 ^ t / den < 2 ^ 64
        some p =
            let k : x.rest * 2 ^ t < den * 2 ^ t = mul-lt-mul_of_pos_right (d.left p) (pow_pos t) in
            let q : x.rest * 2 ^ t / den < 2 ^ t = (div-lt_iff_lt-mul d.divisor.0).1 (let m : x.rest * 2 ^ t < 2 ^ t * den = omega arith in m) in
            omega (arith, above)

-- ---- t digits are brought down

pub bring : (den t : ℕ) (x : Division) → 0 < den → (x.rest < den → 0 < t) → t ≤ x.place
    → BroughtDown den x (record { digits = x.digits * 2 ^ t + x.rest * 2 ^ t / den; rest = x.rest * 2 ^ t % den; place = x.place - t })
bring den t x p some h =
    record {
      same =
          ap (λ (k : ℕ). k * 2 ^ (x.place - t)) once ∙ mul_assoc (x.digits * den + x.rest) (2 ^ t) (2 ^ (x.place - t))
          ∙ ap (λ (k : ℕ). (x.digits * den + x.rest) * k) (sym (pow_part t x.place h));
      left = mod-lt (x.rest * 2 ^ t) p;
      place = omega arith;
      more = λ l. let s = some l in omega arith;
    }
  where
    n : ℕ
    n = x.rest * 2 ^ t

    once : (x.digits * 2 ^ t + n / den) * den + n % den ≡ (x.digits * den + x.rest) * 2 ^ t
    once = let q : n / den * den + n % den ≡ n = div-add-mod' n den in omega arith

-- ---- the way of a division

pub begins : (num den from : ℕ) → (0 * den + num) * 2 ^ from ≡ num * 2 ^ from
begins num den from = ap (λ (k : ℕ). k * 2 ^ from) (omega arith)

-- a number above zero leaves something to divide on the way
pub left_over : (num den from : ℕ) (x : Division) → 0 < num → (x.digits * den + x.rest) * 2 ^ x.place ≡ num * 2 ^ from → 0 < x.digits + x.rest
left_over num den from x p w = ⊎_elim (λ z. absurd (none z)) (λ h. h) (zero_or_pos (x.digits + x.rest))
  where
    none : x.digits + x.rest ≡ 0 → ⊥
    none z =
        let a : x.digits ≡ 0 = omega arith in
        let b : x.rest ≡ 0 = omega arith in
        let k : (0 * den + 0) * 2 ^ x.place ≡ num * 2 ^ from = rw (a, b) at w in
        let q : 0 < num * 2 ^ from = mul-pos p (pow_pos from) in
        omega (arith, rw (zero-mul, add-zero, zero-mul) at k)

-- each turn takes a place, and the first one the rest that is not yet below the divisor
pub falls : (den : ℕ) (x y : Division) → 0 < den → BroughtDown den x y → y.place + y.rest / den < x.place + x.rest / den
falls den x y p b = ⊎_elim first later (le_or_lt den x.rest)
  where
    none : y.rest / den ≡ 0
    none = div-eq_of_lt b.left

    first : den ≤ x.rest → y.place + y.rest / den < x.place + x.rest / den
    first h =
        let q : 1 ≤ x.rest / den = (le-div_iff_mul-le p).1 (omega arith) in
        let l = b.place in
        rw none (omega arith)

    later : x.rest < den → y.place + y.rest / den < x.place + x.rest / den
    later h = let l = b.more h in rw none (omega arith)

pub division_place : (num den from : ℕ) (x : Division) → Dividing num den from x → Place x.digits (not (eqb x.rest 0)) x.place (num * 2 ^ from) den
unfolding Cut
division_place num den from x d = record { low = rest (eqb x.rest 0) refl; high = above }
  where
    n : ℕ
    n = num * 2 ^ from

    above : num * 2 ^ from < (x.digits + 1) * 2 ^ x.place * den
    above = omega (arith, d.whole, mul-lt-mul_of_pos_right d.left (pow_pos x.place))

    rest : (b : Bool) → eqb x.rest 0 ≡ b → Cut (not b) (x.digits * 2 ^ x.place * den) (num * 2 ^ from)
    rest true t =
        let z : x.rest ≡ 0 = eqb-true x.rest 0 t in
        omega (arith, d.whole, ap (λ (k : ℕ). k * 2 ^ x.place) z)
    rest false t =
        let p : 0 < x.rest = pos_of_ne-zero (eqb-false x.rest 0 t) in
        omega (arith, d.whole, mul-pos p (pow_pos x.place))

-- ---- a division in one word

pub quotes_place : (n den e : ℕ) (r : Outcome) → Quotes n den r → Place r.digits (not (eqb r.rest 0)) e (n * 2 ^ e) den
quotes_place n den e r q =
    division_place n den e (record { digits = r.digits; rest = r.rest; place = e }) (record { whole = ap (λ (k : ℕ). k * 2 ^ e) q.whole; left = q.left })

-- what is divided lies below one more of the digits
quotes_below : (n den : ℕ) (r : Outcome) → Quotes n den r → n < (r.digits + 1) * den
quotes_below n den r q = let w = q.whole in let l = q.left in omega arith

-- enough to divide leaves enough digits
pub quotes_least : (n den k : ℕ) (r : Outcome) → Quotes n den r → k * den ≤ n → k ≤ r.digits
quotes_least n den k r q h =
    let l : k * den < (r.digits + 1) * den = let b = quotes_below n den r q in omega arith in
    let m : k < r.digits + 1 = lt_of_mul-lt-mul_right den l in
    omega arith

pub quotes_most : (n den k : ℕ) (r : Outcome) → Quotes n den r → n < k * den → r.digits < k
quotes_most n den k r q h = lt_of_mul-lt-mul_right den (let w = q.whole in let l : r.digits * den < k * den = omega arith in l)

-- suc v digits over suc v digits, suc v places up, are suc v or one more
pub shared_digits : (v am bm : ℕ) (r : Outcome) → Quotes (am * 2 ^ suc v) bm r → Digits v am → Digits v bm → (2 ^ v ≤ r.digits) × (r.digits < 2 ^ suc (suc v))
shared_digits v am bm r q h k =
    let p = pow_pos v in
    let a : 2 ^ v * bm ≤ 2 ^ v * 2 ^ suc v = mul-le-mul_left (2 ^ v) (let l = k.high in let g : bm ≤ 2 ^ suc v = omega arith in g) in
    let b : 2 ^ v * 2 ^ suc v ≤ am * 2 ^ suc v = mul-le-mul_right (2 ^ suc v) h.low in
    let c : am * 2 ^ suc v < 2 ^ suc v * 2 ^ suc v = mul-lt-mul_of_pos_right h.high (pow_pos (suc v)) in
    let d : 2 ^ suc (suc v) * 2 ^ v ≤ 2 ^ suc (suc v) * bm = mul-le-mul_left (2 ^ suc (suc v)) k.low in
    let e : 2 ^ suc (suc v) * 2 ^ v ≡ 2 ^ suc v * 2 ^ suc v = sym (pow-add 2 (suc (suc v)) v) ∙ ap (λ (k : ℕ). 2 ^ k) (let g : suc (suc v) + v ≡ suc v + suc v = omega arith in g) ∙ pow-add 2 (suc v) (suc v) in
    (quotes_least (am * 2 ^ suc v) bm (2 ^ v) r q (omega arith), quotes_most (am * 2 ^ suc v) bm (2 ^ suc (suc v)) r q (omega arith))
