-- Fractions that differ by at most e, through sums and products. Assumes nothing.
use Prim.Native.Nat.{ℕ}
use mathlib.Core.Path.{refl}
use mathlib.Core.Bool.{Bool, true, false}
use mathlib.Core.List.{[], ◌∷◌}
use Rattle.exact.specs.Fraction.{Fraction, nat, parts, negate, ◌⊕◌, ◌⊖◌, ◌⊗◌, ◌≼◌, ◌≈◌}
use Rattle.exact.proofs.Fraction.Order.{≼_refl, ≼_trans, ≈-refl, ≈-sym, ≈-trans, ≈-≼-trans, ≼-≈-trans, ≼-resp}
use Rattle.exact.proofs.Fraction.Sum.{⊕-mono, ⊕-mono-left, ⊕-mono-right, ⊕-cong, ⊕-middle, ⊖-mono, ⊖-≼, ≼-⊖, negate-anti, ≼-⊕-right}
use Rattle.exact.proofs.Fraction.Product.{⊗-⊕, ⊗-mono-left, ⊗-mono-right, ⊗-cong, negate-⊗}
use Rattle.exact.proofs.Fraction.Parts.{parts-nonneg, parts-negate}
use Rattle.exact.specs.Ends.{absolute}
use Rattle.exact.proofs.Ring.{ring, var, minus, ◌:+◌, ◌:-◌, ◌:*◌}
use Rattle.exact.proofs.Width.{≼-absolute, absolute-≼, ≼-of-absolute}

pub record Near (e x y : Fraction) : Type 0 where
  pub low : y ≼ x ⊕ e
  pub high : x ≼ y ⊕ e

pub near_same : {e x y : Fraction} → nat 0 ≼ e → x ≈ y → Near e x y
near_same h p = record { low = ≈-≼-trans (≈-sym p) (≼-⊕-right h); high = ≈-≼-trans p (≼-⊕-right h) }

pub near_resp : {e f x u y v : Fraction} → e ≈ f → x ≈ u → y ≈ v → Near e x y → Near f u v
near_resp p q r n = record { low = ≼-resp r (⊕-cong q p) n.low; high = ≼-resp q (⊕-cong r p) n.high }

pub near_plus : {e f x u y v : Fraction} → Near e x y → Near f u v → Near (e ⊕ f) (x ⊕ u) (y ⊕ v)
near_plus {e} {f} {x} {u} {y} {v} n m =
    record {
      low = ≼-≈-trans (⊕-mono n.low m.low) (⊕-middle x e u f);
      high = ≼-≈-trans (⊕-mono n.high m.high) (⊕-middle y e v f);
    }

pub near_times : {e x y : Fraction} (a : Fraction) → nat 0 ≼ a → Near e x y → Near (a ⊗ e) (a ⊗ x) (a ⊗ y)
near_times {e} {x} {y} a h n =
    record { low = ≼-≈-trans (⊗-mono-right h n.low) (⊗-⊕ a x e); high = ≼-≈-trans (⊗-mono-right h n.high) (⊗-⊕ a y e) }

near_negate : {e x y : Fraction} → Near e x y → Near e (negate x) (negate y)
near_negate {e} {x} {y} n = record { low = turned y n.high; high = turned x n.low }
  where
    turned : {a : Fraction} (b : Fraction) → a ≼ b ⊕ e → negate b ≼ negate a ⊕ e
    turned b h = ≈-≼-trans (ring (minus (var 0)) (minus (var 0 :+ var 1) :+ var 1) (b ∷ e ∷ []) refl) (⊕-mono-left e (negate-anti h))

-- a signed factor counts by its size
pub near_parts : {e x y : Fraction} (s : Bool) (m k : ℕ) → Near e x y → Near (parts false m k ⊗ e) (parts s m k ⊗ x) (parts s m k ⊗ y)
near_parts false m k n = near_times (parts false m k) (parts-nonneg m k) n
near_parts {e} {x} {y} true m k n =
    let a = parts false m k in
    near_resp (ring (var 0) (var 0) (a ⊗ e ∷ []) refl) (signed x) (signed y) (near_negate (near_times a (parts-nonneg m k) n))
  where
    signed : (z : Fraction) → negate (parts false m k ⊗ z) ≈ parts true m k ⊗ z
    signed z = ≈-trans (≈-sym (negate-⊗ (parts false m k) z)) (⊗-cong (parts-negate false m k) (≈-refl z))

-- z less on both sides
pub near_less : {e x y : Fraction} (z : Fraction) → Near e x y → Near e (x ⊖ z) (y ⊖ z)
near_less {e} {x} {y} z n =
    record {
      low = ≼-≈-trans (⊖-mono n.low (≼_refl z)) (ring (var 0 :+ var 1 :- var 2) (var 0 :- var 2 :+ var 1) (x ∷ e ∷ z ∷ []) refl);
      high = ≼-≈-trans (⊖-mono n.high (≼_refl z)) (ring (var 0 :+ var 1 :- var 2) (var 0 :- var 2 :+ var 1) (y ∷ e ∷ z ∷ []) refl);
    }

-- what is near c times r is at most |c| times r and e
pub near_size : {e x r : Fraction} → nat 0 ≼ r → (c : Fraction) → Near e x (c ⊗ r) → absolute x ≼ absolute c ⊗ r ⊕ e
near_size {e} {x} {r} h c n =
    absolute-≼ (record {
      above =
          ≼_trans
          (≈-≼-trans (ring (minus (var 0 :* var 1 :+ var 2)) (minus (var 0) :* var 1 :- var 2) (absolute c ∷ r ∷ e ∷ []) refl)
          (⊖-mono (⊗-mono-left h (≼-of-absolute c (≼_refl (absolute c))).above) (≼_refl e)))
          (⊖-≼ e n.low);
      under = ≼_trans n.high (⊕-mono (⊗-mono-left h (≼-absolute c)) (≼_refl e));
    })

pub near_absolute : {e x y : Fraction} → Near e x y → absolute (x ⊖ y) ≼ e
near_absolute {e} {x} {y} n =
    absolute-≼ (record {
      above = ≼-⊖ y (≼-≈-trans (⊕-mono-right (negate e) n.low) (ring (minus (var 0) :+ (var 1 :+ var 0)) (var 1) (e ∷ x ∷ []) refl));
      under = ⊖-≼ y (≼-≈-trans n.high (ring (var 0 :+ var 1) (var 1 :+ var 0) (y ∷ e ∷ []) refl));
    })
