-- From the digits and the place of a number in range to what the exponential asks of an end. Assumes nothing.
use mathlib.Core.Path.{◌≡◌}
use mathlib.Core.Logic.{inl, inr}
use mathlib.Core.Bool.{false}
use Prim.Native.Nat.{ℕ, suc, ◌+◌, ◌-◌, ◌*◌, ◌^◌, ◌≤◌, ◌<◌}
use native.Mathlib.Nat.{le_of_lt, le_of_eq, le_trans, mul-le-mul_right}
use native.Mathlib.Omega.{arith}
use lib.Pow.{pow_pos, pow_mono, pow-add}
use Rattle.exact.specs.Fraction.{nat, ◌≼◌}
use Rattle.exact.proofs.Fraction.Order.{≈-refl}
use Rattle.exact.proofs.Fraction.Parts.{parts-nonneg}
use Rattle.sheet.specs.declared.Sheet.{Sheet}
use Rattle.sheet.specs.Number.{bias, value}
use Rattle.sheet.specs.Range.{InRange}
use Rattle.sheet.proofs.Live.{Live, bias-is, live}
use Rattle.series_lines.specs.End.{End}

nonneg : (s : Sheet) → s.neg ≡ false → nat 0 ≼ value s
unfolding value
nonneg s n = rw n (parts-nonneg (s.m * 2 ^ s.e) (2 ^ bias))

pub nothing : {v : ℕ} {s : Sheet} → InRange v s → s.neg ≡ false → s.m ≡ 0 → End v s
unfolding value
nothing {v} {s} r n z =
    record {
      range = r;
      above = nonneg s n;
      sized = record {
        neg = s.neg;
        num = s.m * 2 ^ s.e;
        den = 2 ^ bias;
        is = ≈-refl (value s);
        some = pow_pos bias;
        least = inl (rw z (omega arith));
        most = rw z (omega arith);
      };
    }

-- the size of m · 2^e units
low : (v m e : ℕ) → v ≤ 52 → 2 ^ v ≤ m → 261852 - v ≤ e → 2 ^ (bias - 292) ≤ m * 2 ^ e
low v m e w h k =
    let b = bias-is in
    let p = pow_mono {i = bias - 292} {j = v + e} (omega arith) in
    let q = pow-add 2 v e in
    le_trans p (le_trans (omega arith) (mul-le-mul_right (2 ^ e) h))

some : {v : ℕ} {s : Sheet} → InRange v s → s.neg ≡ false → 2 ^ v ≤ s.m → 261852 - v ≤ s.e → s.m * 2 ^ s.e ≤ 2 ^ (bias + 7) → End v s
unfolding value
some {v} {s} r n l a t =
    record {
      range = r;
      above = nonneg s n;
      sized = record {
        neg = s.neg;
        num = s.m * 2 ^ s.e;
        den = 2 ^ bias;
        is = ≈-refl (value s);
        some = pow_pos bias;
        least = inr (mul-le-mul_right (2 ^ bias) (low v s.m s.e r.width.high l a));
        most = mul-le-mul_right (2 ^ bias) t;
      };
    }

-- 2^w at a place, or less
most : (w m e : ℕ) → m ≤ 2 ^ w → w + e ≤ 262151 → m * 2 ^ e ≤ 2 ^ (bias + 7)
most w m e h k =
    let b = bias-is in
    let p = pow_mono {i = w + e} {j = bias + 7} (omega arith) in
    let q = pow-add 2 w e in
    let r : m * 2 ^ e ≤ 2 ^ w * 2 ^ e = mul-le-mul_right (2 ^ e) h in
    le_trans r (le_trans (omega arith) p)

-- below 128, and 128 itself
module _ {v : ℕ} {s : Sheet} (r : InRange v s) (n : s.neg ≡ false) (z : s.m ≡ 0 → ⊥) (a : 261852 - v ≤ s.e) where
  digits : Live v 80000 80000 s
  digits = live v 80000 80000 s r.within z

  pub under : s.e < 262151 - v → End v s
  under b =
      let w = r.width.high in
      some r n digits.full a (most (suc v) s.m s.e (le_of_lt digits.small) (omega arith))

  pub exactly : s.e ≡ 262151 - v → s.m ≡ 2 ^ v → End v s
  exactly b i =
      let w = r.width.high in
      some r n digits.full a (most v s.m s.e (le_of_eq i) (omega arith))
