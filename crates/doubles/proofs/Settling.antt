-- A size with suc v digits, or with fewer at a last place whose multiple it is: nothing was cut. Assumes nothing.
use Prim.Native.Nat.{ℕ, suc, ◌+◌, ◌*◌, ◌/◌, ◌^◌, ◌≤◌, ◌<◌}
use mathlib.Core.Path.{◌≡◌, sym, ap, ◌∙◌}
use mathlib.Core.Logic.{⊎_elim}
use mathlib.Core.Bool.{Bool, false, false≢true}
use native.Mathlib.Omega.{arith}
use native.Mathlib.Nat.{le_trans, le_of_eq, lt_of_le_of_lt, le_antisymm, mul-le-mul_right, le_of_mul-le-mul_right, lt_of_mul-lt-mul_right, div-mul_cancel, mul-pos}
use lib.Pow.{pow-add, pow_pos, shl_lt}
use Rattle.sheet.specs.declared.place.Found.{Found}
use Rattle.sheet.specs.Magnitude.{Place}
use Rattle.sheet.specs.Range.{Grain}
use Rattle.sheet.specs.Steps.{Loose, Normalised}
use Rattle.sheet.proofs.Gaps.{le_or_lt}
use Rattle.sheet.proofs.Places.{place_le, place_whole}
use Rattle.sheet.proofs.Measures.{grain-shift, place_low}
use Rattle.doubles.proofs.Shift.{pow_lt_back}

-- a multiple of its digits' place has no other digits
exact_at : (a : ℕ) (b : Bool) (p n : ℕ) → Place a b p n 1 → Grain p n → a * 2 ^ p ≡ n
exact_at a b p n found g =
    let k = n / 2 ^ p in
    let q : k * 2 ^ p ≡ n = div-mul_cancel (2 ^ p) g.divides in
    let low : a * 2 ^ p ≤ k * 2 ^ p = let l = place_le found in omega arith in
    let high : k * 2 ^ p < suc a * 2 ^ p = let h = found.high in omega arith in
    let less : k < suc a = lt_of_mul-lt-mul_right (2 ^ p) high in
    let same : a ≡ k = le_antisymm (le_of_mul-le-mul_right low (pow_pos p)) (omega arith) in
    ap (λ (x : ℕ). x * 2 ^ p) same ∙ q

module _ (v m e l : ℕ) (some : 0 < m) (few : m < 2 ^ suc v) (fine : Grain l (m * 2 ^ e)) where
  -- a multiple of 2^l is at least 2^l
  least : 2 ^ l ≤ m * 2 ^ e
  least = ⊎_elim (λ h. h) (λ h. absurd (none h)) (le_or_lt (2 ^ l) (m * 2 ^ e))
    where
      none : m * 2 ^ e < 2 ^ l → ⊥
      none h =
          let k = m * 2 ^ e / 2 ^ l in
          let q : k * 2 ^ l ≡ m * 2 ^ e = div-mul_cancel (2 ^ l) fine.divides in
          let z : k < 1 = lt_of_mul-lt-mul_right (2 ^ l) (omega arith) in
          let n : k ≡ 0 = omega arith in
          let r : 0 * 2 ^ l ≡ m * 2 ^ e = ap (λ (x : ℕ). x * 2 ^ l) (sym n) ∙ q in
          let p : 0 < m * 2 ^ e = mul-pos some (pow_pos e) in
          omega arith

  pub loose : v < 63 → e ≤ 2 ^ 62 → Loose v l (record { m = m; sticky = false; e = e })
  loose k h =
      record {
        few = k;
        near = let p = place_low v l m e few least in omega arith;
        full = λ t. absurd (false≢true t);
        room = h;
      }

  module _ (y : Found) (n : Normalised v l (record { m = m; sticky = false; e = e }) y) where
    found : Place y.m y.sticky y.e (m * 2 ^ e) 1
    found = n.keeps (m * 2 ^ e) 1 (place_whole m e)

    -- above the last place the digits are all there, and no place was cut
    grain : Grain y.e (m * 2 ^ e)
    grain = ⊎_elim (λ h. grain-shift y.e m e h) above (le_or_lt y.e e)
      where
        above : e < y.e → Grain y.e (m * 2 ^ e)
        above h = ⊎_elim (λ (k : y.e ≤ l). rw (let g = n.least in let r : y.e ≡ l = omega arith in r) fine) (λ k. absurd (none k)) (le_or_lt y.e l)
          where
            none : l < y.e → ⊥
            none k =
                let a : 2 ^ v * 2 ^ y.e ≤ y.m * 2 ^ y.e = mul-le-mul_right (2 ^ y.e) (n.full k) in
                let b : y.m * 2 ^ y.e ≤ m * 2 ^ e = let p = place_le found in omega arith in
                let c : 2 ^ (v + y.e) < 2 ^ (suc v + e) = lt_of_le_of_lt (le_trans (le_of_eq (pow-add 2 v y.e)) (le_trans a b)) (shl_lt (suc v) e few) in
                let d = pow_lt_back (v + y.e) (suc v + e) c in
                omega arith

    pub same_size : y.m * 2 ^ y.e ≡ m * 2 ^ e
    same_size = exact_at y.m y.sticky y.e (m * 2 ^ e) found grain
