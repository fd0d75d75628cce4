-- Comparing sheet numbers by place and digits. Assumes nothing.
use mathlib.Core.Path.{◌≡◌, refl, sym, ap, ◌∙◌}
use mathlib.Core.Logic.{⊎_elim}
use mathlib.Core.Bool.{Bool, true, false, true≢false}
use Prim.Native.Nat.{ℕ, suc, ◌*◌, ◌^◌, ◌≤◌, ◌<◌}
use native.Mathlib.Nat.{le_of_lt, mul-le-mul_right, mul-le-mul_left, mul-lt-mul_of_pos_right, mul-pos, pos_of_ne-zero, pow-succ'}
use native.Mathlib.Omega.{arith}
use borrow.Author.Tests.{le-leb, lt-leb, leb-true, leb-false, ltb-true, ltb-false}
use lib.Dec.{leb, ltb}
use lib.Pow.{pow_pos}
use Rattle.exact.specs.Fraction.{parts, leq}
use Rattle.exact.proofs.Fraction.Order.{≼-leq, ≺-leq}
use Rattle.exact.proofs.Fraction.Parts.{parts-≼, parts-≼_below, parts-≼_across, parts-≺, parts-≺_below, parts-≺_across}
use Rattle.sheet.specs.declared.Sheet.{Sheet}
use Rattle.sheet.specs.Magnitude.{Fit}
use Rattle.sheet.specs.Number.{bias, Spelled}
use Rattle.sheet.specs.Range.{extent}
use Rattle.sheet.proofs.Gaps.{pow_le_split, le_or_lt}

-- a lower place is a smaller magnitude
pub lower-place : (v am ae bm be : ℕ) → am < 2 ^ suc v → Fit v bm be → ae < be → am * 2 ^ ae < bm * 2 ^ be
lower-place v am ae bm be s f h =
    let d = pow_le_split (suc ae) be h in
    let e : 2 ^ be ≡ 2 * 2 ^ ae * 2 ^ d.0 = d.1 ∙ ap (λ (x : ℕ). x * 2 ^ d.0) (pow-succ' 2 ae) in
    let l : 2 ^ v ≤ bm = f.full (omega arith) in
    let a : am * 2 ^ ae < 2 * 2 ^ v * 2 ^ ae = mul-lt-mul_of_pos_right (let t : am < 2 * 2 ^ v = omega arith in t) (pow_pos ae) in
    let b : 2 ^ v * 2 ^ ae ≤ bm * 2 ^ ae = mul-le-mul_right (2 ^ ae) l in
    let c : bm * 2 ^ ae * 1 ≤ bm * 2 ^ ae * 2 ^ d.0 = mul-le-mul_left (bm * 2 ^ ae) (pow_pos d.0) in
    omega (arith, ap (λ (x : ℕ). bm * x) e)

pub place_order : (v am ae bm be : ℕ) → am < 2 ^ suc v → Fit v bm be → bm * 2 ^ be ≤ am * 2 ^ ae → be ≤ ae
place_order v am ae bm be s f h = ⊎_elim (λ l. l) (λ l. absurd (let t = lower-place v am ae bm be s f l in omega arith)) (le_or_lt be ae)

-- different places decide
pub by_place : (v am ae bm be : ℕ) → Fit v am ae → Fit v bm be → (ae ≡ be → ⊥) → ltb ae be ≡ leb (am * 2 ^ ae) (bm * 2 ^ be)
by_place v am ae bm be f g n = go (ltb ae be) refl
  where
    go : (b : Bool) → ltb ae be ≡ b → b ≡ leb (am * 2 ^ ae) (bm * 2 ^ be)
    go true t = sym (le-leb (am * 2 ^ ae) (bm * 2 ^ be) (le_of_lt (lower-place v am ae bm be f.small g (ltb-true ae be t))))
    go false t = sym (lt-leb (am * 2 ^ ae) (bm * 2 ^ be) (lower-place v bm be am ae g.small f (let l = ltb-false ae be t in omega arith)))

pub same_place : (am bm e : ℕ) → leb am bm ≡ leb (am * 2 ^ e) (bm * 2 ^ e)
same_place am bm e = go (leb am bm) refl
  where
    go : (b : Bool) → leb am bm ≡ b → b ≡ leb (am * 2 ^ e) (bm * 2 ^ e)
    go true t = sym (le-leb (am * 2 ^ e) (bm * 2 ^ e) (mul-le-mul_right (2 ^ e) (leb-true am bm t)))
    go false t = sym (lt-leb (am * 2 ^ e) (bm * 2 ^ e) (mul-lt-mul_of_pos_right (leb-false am bm t) (pow_pos e)))

-- ---- the order of values by sign and magnitude

module _ (x y : ℕ) where
  B : ℕ
  B = 2 ^ bias

  pub leq-above : leq (parts false x (2 ^ bias)) (parts false y (2 ^ bias)) ≡ leb x y
  unfolding B
  leq-above = go (leb x y) refl
    where
      go : (b : Bool) → leb x y ≡ b → leq (parts false x B) (parts false y B) ≡ b
      go true t = ≼-leq (parts-≼ x B y B (pow_pos bias) (pow_pos bias) (mul-le-mul_right B (leb-true x y t)))
      go false t = ≺-leq (parts-≺ y B x B (pow_pos bias) (pow_pos bias) (mul-lt-mul_of_pos_right (leb-false x y t) (pow_pos bias)))

  pub leq-below : leq (parts true x (2 ^ bias)) (parts true y (2 ^ bias)) ≡ leb y x
  unfolding B
  leq-below = go (leb y x) refl
    where
      go : (b : Bool) → leb y x ≡ b → leq (parts true x B) (parts true y B) ≡ b
      go true t = ≼-leq (parts-≼_below x B y B (pow_pos bias) (pow_pos bias) (mul-le-mul_right B (leb-true y x t)))
      go false t = ≺-leq (parts-≺_below y B x B (pow_pos bias) (pow_pos bias) (mul-lt-mul_of_pos_right (leb-false y x t) (pow_pos bias)))

  pub leq-across : leq (parts true x (2 ^ bias)) (parts false y (2 ^ bias)) ≡ true
  leq-across = ≼-leq (parts-≼_across x (2 ^ bias) y (2 ^ bias))

  pub leq-back : 0 < y → leq (parts false x (2 ^ bias)) (parts true y (2 ^ bias)) ≡ false
  leq-back p = ≺-leq (parts-≺_across y (2 ^ bias) x (2 ^ bias) (pow_pos bias) (pow_pos bias) (omega arith))

-- a spelled number below zero is not zero
pub spelled-extent : (v : ℕ) (s : Sheet) → Spelled v s → s.neg ≡ true → 0 < extent s
spelled-extent v s p n =
    mul-pos (pos_of_ne-zero (λ z. true≢false (sym n ∙ p.plain z))) (pow_pos s.e)
