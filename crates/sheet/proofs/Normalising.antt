-- Each way to the digits of a spelling: no digits, a place far below the last, and the top of a word or as far as the last place allows.
-- Assumes nothing.
use mathlib.Core.Path.{◌≡◌, refl, sym, ap, ◌∙◌, subst}
use mathlib.Core.Logic.{⊎_elim}
use mathlib.Core.Bool.{Bool, true, false}
use Prim.Native.Nat.{ℕ, suc, ◌+◌, ◌-◌, ◌*◌, ◌/◌, ◌^◌, ◌≤◌, ◌<◌}
use native.Mathlib.Nat.{le_trans, le_of_eq, le_antisymm, lt_of_lt_of_le, mul-le-mul_left, mul-le-mul_right, le-div_iff_mul-le, pow-succ'}
use native.Mathlib.Omega.{arith}
use lib.Count.{count_leading_zeros}
use lib.Pow.{pow-add, pow_pos, pow_mono, shr_lt}
use Rattle.sheet.specs.Magnitude.{Place, Cut}
use Rattle.sheet.specs.declared.place.Found.{Found}
use Rattle.sheet.specs.Steps.{Movable, Moved, CutBy, Loose, Normalised}
use Rattle.sheet.proofs.Gaps.{le_or_lt}
use Rattle.sheet.proofs.Places.{place_le, place_whole, place_zero, place_less, place_digits, place_sticky}
use Rattle.sheet.proofs.Shifts.{up_fits, up_full}

module _ (v last : ℕ) (x : Found) (loose : Loose v last x) where
  -- no digits: zero, or less than one unit of the last place
  pub none : x.m ≡ 0 → Normalised v last x (record { m = x.m; sticky = x.sticky; e = last })
  none z =
      record {
        small = let p = pow_pos (suc v) in omega arith;
        full = λ p. absurd (omega arith);
        least = omega arith;
        keeps = λ num den p. subst (λ (k : ℕ). Place k x.sticky last num den) (sym z) (kept x.sticky refl num den (subst (λ (k : ℕ). Place k x.sticky x.e num den) z p));
        room = omega arith;
      }
    where
      low : x.sticky ≡ true → x.e ≤ last
      low t = ⊎_elim (λ h. h) (λ h. absurd (let l = loose.full t h in let p = pow_pos v in omega arith)) (le_or_lt x.e last)

      kept : (b : Bool) → x.sticky ≡ b → (num den : ℕ) → Place 0 b x.e num den → Place 0 b last num den
      kept true t num den p = place_less last (low t) p
      kept false t num den p = place_zero last p

  module _ (u : ℕ) (lower : v + u ≡ 63) (word : x.m < 2 ^ 64) where
    -- so far below the last place that all further digits stand below it
    pub far : (y : Found) → x.e + u < last → CutBy (last - x.e) x y → Normalised v last x y
    far y h c =
        let p : y.e ≡ last = let k = c.place in omega arith in
        record {
          small = rw c.digits (shr_lt (suc v) (last - x.e) (lt_of_lt_of_le word (pow_mono (let k : 64 ≤ suc v + (last - x.e) = omega arith in k))));
          full = λ q. absurd (omega arith);
          least = omega arith;
          keeps = c.keeps;
          room = omega arith;
        }

    -- s places up: as many as there are leading zeros, or down to the last place
    module _ (s : ℕ) (some : 0 < x.m) (zeros : s ≤ count_leading_zeros 64 x.m) (below : last + s ≤ x.e + u) where
      fits : x.m * 2 ^ s < 2 ^ 64
      fits = let a = up_fits x.m s word zeros in let p = pow_pos s in omega arith

      -- full digits have no more zeros above them than a word has places below
      few-zeros : 2 ^ v ≤ x.m → s ≤ u
      few-zeros h = ⊎_elim (λ g. g) (λ (g : u < s). absurd (none_left g)) (le_or_lt s u)
        where
          none_left : u < s → ⊥
          none_left g =
              let a : 2 ^ v * 2 ^ s ≤ x.m * 2 ^ s = mul-le-mul_right (2 ^ s) h in
              let b : 2 ^ 64 ≤ 2 ^ (v + s) = pow_mono (let k : 64 ≤ v + s = omega arith in k) in
              let c : 2 ^ (v + s) ≡ 2 ^ v * 2 ^ s = pow-add 2 v s in
              omega (arith, fits)

      whole : x.sticky ≡ true → s ≤ u
      whole t = ⊎_elim (λ (h : x.e ≤ last). omega arith) (λ h. few-zeros (loose.full t h)) (le_or_lt x.e last)

      pub movable : Movable s u x
      movable =
          record {
            up = let z = (up_full x.m some word).0 in omega arith;
            down = omega arith;
            fits = fits;
            below = omega arith;
            whole = whole;
            room = let k = loose.room in omega arith;
          }

      pub at_top : (y : Found) → (last + s < x.e + u → s ≡ count_leading_zeros 64 x.m) → Moved s u x y → Normalised v last x y
      at_top y top d =
          record {
            small = rw d.digits (shr_lt (suc v) u (subst (λ (k : ℕ). x.m * 2 ^ s < 2 ^ k) (let k : 64 ≡ suc v + u = omega arith in k) fits));
            full = λ q. rw d.digits (full q);
            least = let k = d.place in omega arith;
            keeps = d.keeps;
            room = let k = d.place in omega arith;
          }
        where
          full : last < y.e → 2 ^ v ≤ x.m * 2 ^ s / 2 ^ u
          full q =
              let e : s ≡ count_leading_zeros 64 x.m = top (let k = d.place in omega arith) in
              let a : 2 ^ 63 ≤ x.m * 2 ^ s = subst (λ (k : ℕ). 2 ^ 63 ≤ x.m * 2 ^ k) (sym e) (up_full x.m some word).1 in
              (le-div_iff_mul-le (pow_pos u)).1 (le_trans (le_of_eq (sym (pow-add 2 v u) ∙ ap (λ (k : ℕ). 2 ^ k) lower)) a)

-- ---- two answers that meet the statement are equal

-- digits at a place are those of some quotient
record Quotient (m : ℕ) (sticky : Bool) (e : ℕ) : Type 0 where
  num : ℕ
  den : ℕ
  place : Place m sticky e num den

some_quotient : (m : ℕ) (sticky : Bool) (e : ℕ) → Quotient m sticky e
unfolding Cut
some_quotient m true e =
    let p = pow_pos e in
    record { num = (m * 2 + 1) * 2 ^ e; den = 2; place = record { low = omega arith; high = omega arith } }
some_quotient m false e = record { num = m * 2 ^ e; den = 1; place = place_whole m e }

not-above : (v last : ℕ) (x y z : Found) (num den : ℕ) → Normalised v last x y → Normalised v last x z → Place x.m x.sticky x.e num den → z.e ≤ y.e
not-above v last x y z num den f g p = ⊎_elim (λ h. h) (λ h. absurd (none h)) (le_or_lt z.e y.e)
  where
    none : y.e < z.e → ⊥
    none h =
        let low : z.m * 2 ^ z.e * den ≤ num = place_le (g.keeps num den p) in
        let high : num < (y.m + 1) * 2 ^ y.e * den = (f.keeps num den p).high in
        let full : 2 ^ v ≤ z.m = g.full (let l = f.least in omega arith) in
        let a : 2 ^ v * (2 ^ z.e * den) ≤ z.m * (2 ^ z.e * den) = mul-le-mul_right (2 ^ z.e * den) full in
        let b : (y.m + 1) * (2 ^ y.e * den) ≤ 2 * 2 ^ v * (2 ^ y.e * den) = mul-le-mul_right (2 ^ y.e * den) (let s = f.small in let k : y.m + 1 ≤ 2 * 2 ^ v = omega arith in k) in
        let c : 2 * 2 ^ y.e ≤ 2 ^ z.e = le_trans (le_of_eq (sym (pow-succ' 2 y.e))) (pow_mono h) in
        let d : 2 ^ v * (2 * 2 ^ y.e * den) ≤ 2 ^ v * (2 ^ z.e * den) = mul-le-mul_left (2 ^ v) (mul-le-mul_right den c) in
        omega arith

pub normalised_settled : (v last : ℕ) (x y z : Found) → Normalised v last x y → Normalised v last x z → y ≡ z
normalised_settled v last x y z f g = go (some_quotient x.m x.sticky x.e)
  where
    go : Quotient x.m x.sticky x.e → y ≡ z
    go q =
        let p = q.place in
        let e : y.e ≡ z.e = le_antisymm (not-above v last x z y q.num q.den g f p) (not-above v last x y z q.num q.den f g p) in
        let a = f.keeps q.num q.den p in
        let b = subst (λ (k : ℕ). Place z.m z.sticky k q.num q.den) (sym e) (g.keeps q.num q.den p) in
        let m : y.m ≡ z.m = place_digits a b in
        let s : y.sticky ≡ z.sticky = place_sticky a (subst (λ (k : ℕ). Place k z.sticky y.e q.num q.den) (sym m) b) in
        λ i. record { m = m i; sticky = s i; e = e i }
