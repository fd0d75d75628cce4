-- Inclusion, before rounding: a result of two numbers that lie between ends lies between the least and the greatest result over the
-- ends, for sum, difference, product and quotient by what is above zero; and which of the four results these are. Assumes nothing.
use mathlib.Core.Logic.{inl, inr}
use Rattle.exact.specs.Fraction.{Fraction, nat, negate, least, greatest, ◌⊕◌, ◌⊖◌, ◌⊗◌, ◌⊘◌, ◌≼◌, ◌≺◌, ◌≈◌}
use Rattle.exact.proofs.Fraction.Order.{≼_refl, ≼_trans, ≺→≼, ≺-≼-trans, ≼-or-≺, ≼-antisym, ≼-resp, ≈→≼, ≈→≽, ≈-sym}
use Rattle.exact.proofs.Fraction.Sum.{⊕-mono, ⊖-mono, negate-anti}
use Rattle.exact.proofs.Fraction.Product.{⊗-mono, ⊗-mono-left, ⊗-mono-right, ⊗-anti-left, ⊗-anti-right}
use Rattle.exact.proofs.Fraction.Quotient.{inv-anti, ⊘-is, ⊘-mono-left, ⊘-anti-right}
use Rattle.exact.proofs.Fraction.Least.{least-elim, greatest-elim, least-left, least-right, greatest-left, greatest-right, ≼-least, greatest-≼}
use Rattle.exact.specs.Ends.{Within, least_over, greatest_over}

-- the least is at or below each of the four, the greatest at or above
module _ (f : Fraction → Fraction → Fraction) (a b c e : Fraction) where
  pub least_over-ac : least_over f a b c e ≼ f a c
  unfolding least_over
  least_over-ac = ≼_trans (least-left _ _) (least-left _ _)

  pub least_over-ae : least_over f a b c e ≼ f a e
  unfolding least_over
  least_over-ae = ≼_trans (least-left _ _) (least-right _ _)

  pub least_over-bc : least_over f a b c e ≼ f b c
  unfolding least_over
  least_over-bc = ≼_trans (least-right _ _) (least-left _ _)

  pub least_over-be : least_over f a b c e ≼ f b e
  unfolding least_over
  least_over-be = ≼_trans (least-right _ _) (least-right _ _)

  pub greatest_over-ac : f a c ≼ greatest_over f a b c e
  unfolding greatest_over
  greatest_over-ac = ≼_trans (greatest-left _ _) (greatest-left _ _)

  pub greatest_over-ae : f a e ≼ greatest_over f a b c e
  unfolding greatest_over
  greatest_over-ae = ≼_trans (greatest-right _ _) (greatest-left _ _)

  pub greatest_over-bc : f b c ≼ greatest_over f a b c e
  unfolding greatest_over
  greatest_over-bc = ≼_trans (greatest-left _ _) (greatest-right _ _)

  pub greatest_over-be : f b e ≼ greatest_over f a b c e
  unfolding greatest_over
  greatest_over-be = ≼_trans (greatest-right _ _) (greatest-right _ _)

-- what holds of the four results holds of the least and of the greatest
pub least_over-elim {ℓ} : (P : Fraction → Type ℓ) (f : Fraction → Fraction → Fraction) (a b c e : Fraction) →
    P (f a c) → P (f a e) → P (f b c) → P (f b e) → P (least_over f a b c e)
unfolding least_over
least_over-elim P f a b c e h i j k = least-elim P (least-elim P h i) (least-elim P j k)

pub greatest_over-elim {ℓ} : (P : Fraction → Type ℓ) (f : Fraction → Fraction → Fraction) (a b c e : Fraction) →
    P (f a c) → P (f a e) → P (f b c) → P (f b e) → P (greatest_over f a b c e)
unfolding greatest_over
greatest_over-elim P f a b c e h i j k = greatest-elim P (greatest-elim P h i) (greatest-elim P j k)

-- ---- one operand at a time: the result lies between the results at the two ends
Between : (u v w : Fraction) → Type 0
Between u v w = Within (least u v) (greatest u v) w

rising : {u v w : Fraction} → u ≼ w → w ≼ v → Between u v w
unfolding Between
rising {u} {v} h k = record { above = ≼_trans (least-left u v) h; under = ≼_trans k (greatest-right u v) }

falling : {u v w : Fraction} → v ≼ w → w ≼ u → Between u v w
unfolding Between
falling {u} {v} h k = record { above = ≼_trans (least-right u v) h; under = ≼_trans k (greatest-left u v) }

-- the second operand at its ends, then the first
over : (f : Fraction → Fraction → Fraction) (a b c e x y : Fraction) →
    Between (f a y) (f b y) (f x y) → Between (f a c) (f a e) (f a y) → Between (f b c) (f b e) (f b y) →
    Within (least_over f a b c e) (greatest_over f a b c e) (f x y)
unfolding Between least_over greatest_over
over f a b c e x y h i j =
    record {
      above = ≼_trans (≼-least (≼_trans (least-left _ _) i.above) (≼_trans (least-right _ _) j.above)) h.above;
      under = ≼_trans h.under (greatest-≼ (≼_trans i.under (greatest-left _ _)) (≼_trans j.under (greatest-right _ _)));
    }

pub ⊕-within : {a b c e x y : Fraction} → Within a b x → Within c e y → Within (least_over ◌⊕◌ a b c e) (greatest_over ◌⊕◌ a b c e) (x ⊕ y)
⊕-within {a} {b} {c} {e} {x} {y} h k =
    over ◌⊕◌ a b c e x y (rising (⊕-mono h.above (≼_refl y)) (⊕-mono h.under (≼_refl y)))
    (rising (⊕-mono (≼_refl a) k.above) (⊕-mono (≼_refl a) k.under))
    (rising (⊕-mono (≼_refl b) k.above) (⊕-mono (≼_refl b) k.under))

pub ⊖-within : {a b c e x y : Fraction} → Within a b x → Within c e y → Within (least_over ◌⊖◌ a b c e) (greatest_over ◌⊖◌ a b c e) (x ⊖ y)
⊖-within {a} {b} {c} {e} {x} {y} h k =
    over ◌⊖◌ a b c e x y (rising (⊖-mono h.above (≼_refl y)) (⊖-mono h.under (≼_refl y)))
    (falling (⊖-mono (≼_refl a) k.under) (⊖-mono (≼_refl a) k.above))
    (falling (⊖-mono (≼_refl b) k.under) (⊖-mono (≼_refl b) k.above))

-- by the sign of the operand that stays
⊗-left : {a b x : Fraction} (y : Fraction) → Within a b x → Between (a ⊗ y) (b ⊗ y) (x ⊗ y)
⊗-left y h =
    elim (≼-or-≺ (nat 0) y) [
      | inl s ↦ rising (⊗-mono-left s h.above) (⊗-mono-left s h.under)
      | inr s ↦ falling (⊗-anti-left (≺→≼ s) h.under) (⊗-anti-left (≺→≼ s) h.above)
    ]

⊗-right : {c e y : Fraction} (x : Fraction) → Within c e y → Between (x ⊗ c) (x ⊗ e) (x ⊗ y)
⊗-right x h =
    elim (≼-or-≺ (nat 0) x) [
      | inl s ↦ rising (⊗-mono-right s h.above) (⊗-mono-right s h.under)
      | inr s ↦ falling (⊗-anti-right (≺→≼ s) h.under) (⊗-anti-right (≺→≼ s) h.above)
    ]

pub ⊗-within : {a b c e x y : Fraction} → Within a b x → Within c e y → Within (least_over ◌⊗◌ a b c e) (greatest_over ◌⊗◌ a b c e) (x ⊗ y)
⊗-within {a} {b} {c} {e} {x} {y} h k = over ◌⊗◌ a b c e x y (⊗-left y h) (⊗-right a k) (⊗-right b k)

⊘-right : {c e y : Fraction} (x : Fraction) → nat 0 ≺ c → Within c e y → Between (x ⊘ c) (x ⊘ e) (x ⊘ y)
⊘-right {c} {e} {y} x s h =
    elim (≼-or-≺ (nat 0) x) [
      | inl t ↦ falling (⊘-anti-right t (≺-≼-trans s h.above) h.under) (⊘-anti-right t s h.above)
      | inr t ↦ rising
          (≼-resp (≈-sym (⊘-is x c)) (≈-sym (⊘-is x y)) (⊗-anti-right (≺→≼ t) (inv-anti s h.above)))
          (≼-resp (≈-sym (⊘-is x y)) (≈-sym (⊘-is x e)) (⊗-anti-right (≺→≼ t) (inv-anti (≺-≼-trans s h.above) h.under)))
    ]

pub ⊘-within : {a b c e x y : Fraction} → nat 0 ≺ c → Within a b x → Within c e y → Within (least_over ◌⊘◌ a b c e) (greatest_over ◌⊘◌ a b c e) (x ⊘ y)
⊘-within {a} {b} {c} {e} {x} {y} s h k =
    over ◌⊘◌ a b c e x y (rising (⊘-mono-left y h.above) (⊘-mono-left y h.under)) (⊘-right a s k) (⊘-right b s k)

pub negate-within : {a b x : Fraction} → Within a b x → Within (negate b) (negate a) (negate x)
negate-within h = record { above = negate-anti h.under; under = negate-anti h.above }

-- ---- which of the four results the ends are
-- the least is one result where that is at or below the other three, and so the greatest
pub least_over-is : (f : Fraction → Fraction → Fraction) (a b c e : Fraction) {u : Fraction} →
    least_over f a b c e ≼ u → u ≼ f a c → u ≼ f a e → u ≼ f b c → u ≼ f b e → least_over f a b c e ≈ u
least_over-is f a b c e {u} g h i j k = ≼-antisym g (least_over-elim (λ (v : Fraction). u ≼ v) f a b c e h i j k)

pub greatest_over-is : (f : Fraction → Fraction → Fraction) (a b c e : Fraction) {u : Fraction} →
    u ≼ greatest_over f a b c e → f a c ≼ u → f a e ≼ u → f b c ≼ u → f b e ≼ u → greatest_over f a b c e ≈ u
greatest_over-is f a b c e {u} g h i j k = ≼-antisym (greatest_over-elim (λ (v : Fraction). v ≼ u) f a b c e h i j k) g

-- the sum and the difference need only two of the four
pub ⊕-leastOver : {a b c e : Fraction} → a ≼ b → c ≼ e → least_over ◌⊕◌ a b c e ≈ a ⊕ c
⊕-leastOver {a} {b} {c} {e} h k =
    least_over-is ◌⊕◌ a b c e (least_over-ac ◌⊕◌ a b c e) (≼_refl (a ⊕ c)) (⊕-mono (≼_refl a) k) (⊕-mono h (≼_refl c)) (⊕-mono h k)

pub ⊕-greatestOver : {a b c e : Fraction} → a ≼ b → c ≼ e → greatest_over ◌⊕◌ a b c e ≈ b ⊕ e
⊕-greatestOver {a} {b} {c} {e} h k =
    greatest_over-is ◌⊕◌ a b c e (greatest_over-be ◌⊕◌ a b c e) (⊕-mono h k) (⊕-mono h (≼_refl e)) (⊕-mono (≼_refl b) k) (≼_refl (b ⊕ e))

pub ⊖-leastOver : {a b c e : Fraction} → a ≼ b → c ≼ e → least_over ◌⊖◌ a b c e ≈ a ⊖ e
⊖-leastOver {a} {b} {c} {e} h k =
    least_over-is ◌⊖◌ a b c e (least_over-ae ◌⊖◌ a b c e) (⊖-mono (≼_refl a) k) (≼_refl (a ⊖ e)) (⊖-mono h k) (⊖-mono h (≼_refl e))

pub ⊖-greatestOver : {a b c e : Fraction} → a ≼ b → c ≼ e → greatest_over ◌⊖◌ a b c e ≈ b ⊖ c
⊖-greatestOver {a} {b} {c} {e} h k =
    greatest_over-is ◌⊖◌ a b c e (greatest_over-bc ◌⊖◌ a b c e) (⊖-mono h (≼_refl c)) (⊖-mono h k) (≼_refl (b ⊖ c)) (⊖-mono (≼_refl b) k)

-- so do the product and the quotient of what is at or above zero
pub ⊗-leastOver : {a b c e : Fraction} → nat 0 ≼ a → nat 0 ≼ c → a ≼ b → c ≼ e → least_over ◌⊗◌ a b c e ≈ a ⊗ c
⊗-leastOver {a} {b} {c} {e} s t h k =
    least_over-is ◌⊗◌ a b c e (least_over-ac ◌⊗◌ a b c e) (≼_refl (a ⊗ c)) (⊗-mono-right s k) (⊗-mono-left t h) (⊗-mono s t h k)

pub ⊗-greatestOver : {a b c e : Fraction} → nat 0 ≼ a → nat 0 ≼ c → a ≼ b → c ≼ e → greatest_over ◌⊗◌ a b c e ≈ b ⊗ e
⊗-greatestOver {a} {b} {c} {e} s t h k =
    greatest_over-is ◌⊗◌ a b c e (greatest_over-be ◌⊗◌ a b c e) (⊗-mono s t h k) (⊗-mono-left (≼_trans t k) h) (⊗-mono-right (≼_trans s h) k) (≼_refl (b ⊗ e))

pub ⊘-leastOver : {a b c e : Fraction} → nat 0 ≼ a → nat 0 ≺ c → a ≼ b → c ≼ e → least_over ◌⊘◌ a b c e ≈ a ⊘ e
⊘-leastOver {a} {b} {c} {e} s t h k =
    least_over-is ◌⊘◌ a b c e (least_over-ae ◌⊘◌ a b c e) (⊘-anti-right s t k) (≼_refl (a ⊘ e))
    (≼_trans (⊘-mono-left e h) (⊘-anti-right (≼_trans s h) t k)) (⊘-mono-left e h)

pub ⊘-greatestOver : {a b c e : Fraction} → nat 0 ≼ a → nat 0 ≺ c → a ≼ b → c ≼ e → greatest_over ◌⊘◌ a b c e ≈ b ⊘ c
⊘-greatestOver {a} {b} {c} {e} s t h k =
    greatest_over-is ◌⊘◌ a b c e (greatest_over-bc ◌⊘◌ a b c e) (⊘-mono-left c h) (≼_trans (⊘-mono-left e h) (⊘-anti-right (≼_trans s h) t k))
    (≼_refl (b ⊘ c)) (⊘-anti-right (≼_trans s h) t k)

-- and the quotient by a divisor whose ends are one number
pub ⊘-leastOver-one : {a b : Fraction} (c : Fraction) → a ≼ b → least_over ◌⊘◌ a b c c ≈ a ⊘ c
⊘-leastOver-one {a} {b} c h =
    least_over-is ◌⊘◌ a b c c (least_over-ac ◌⊘◌ a b c c) (≼_refl (a ⊘ c)) (≼_refl (a ⊘ c)) (⊘-mono-left c h) (⊘-mono-left c h)

pub ⊘-greatestOver-one : {a b : Fraction} (c : Fraction) → a ≼ b → greatest_over ◌⊘◌ a b c c ≈ b ⊘ c
⊘-greatestOver-one {a} {b} c h =
    greatest_over-is ◌⊘◌ a b c c (greatest_over-bc ◌⊘◌ a b c c) (⊘-mono-left c h) (⊘-mono-left c h) (≼_refl (b ⊘ c)) (≼_refl (b ⊘ c))

-- a point lies within itself
pub within-point : (x : Fraction) → Within x x x
within-point x = record { above = ≼_refl x; under = ≼_refl x }

pub within-resp : {a b x y : Fraction} → x ≈ y → Within a b x → Within a b y
within-resp e h = record { above = ≼_trans h.above (≈→≼ e); under = ≼_trans (≈→≽ e) h.under }

pub within_wider : {a b c e x : Fraction} → c ≼ a → b ≼ e → Within a b x → Within c e x
within_wider k l h = record { above = ≼_trans k h.above; under = ≼_trans h.under l }

pub within-ends : {a b x : Fraction} → Within a b x → a ≼ b
within-ends h = ≼_trans h.above h.under
