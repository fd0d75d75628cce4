-- A magnitude with its sign: the value of `signed`, the order of signed quotients in one direction, and the rounding of whatever equals a
-- signed quotient. Assumes nothing.
use mathlib.Core.Path.{◌≡◌, refl, ap, ◌∙◌, subst₂}
use mathlib.Core.Logic.{⊎_elim}
use mathlib.Core.Bool.{Bool, true, false, not, ◌&&◌, beq}
use Prim.Native.Nat.{ℕ, suc, ◌*◌, ◌^◌, ◌<◌}
use native.Mathlib.Nat.{mul-le-mul_right, le_of_mul-le-mul_right, eq_of_mul-eq-mul_right, zero-mul}
use native.Mathlib.Omega.{arith}
use borrow.Author.Tests.{eq-eqb, ne_eqb, eqb-true}
use lib.Dec.{eqb}
use Rattle.exact.specs.Fraction.{Fraction, nat, parts, negative, top, bottom, ◌≼◌, ◌≈◌}
use Rattle.exact.proofs.Fraction.Order.{≼-not-≺, ≈-refl, ≈-sym, ≈-trans, ≈-≼-trans, ≼-≈-trans, ≈-≺-trans, ≺-≈-trans}
use Rattle.exact.proofs.Fraction.Parts.{≈-parts, parts-≼, ≼-parts, parts-≼_below, ≼-parts-below, parts-zero, parts-nonneg, parts-nonpos, parts-pos, parts-neg, bottom-pos, as_parts, negative-true, negative-false}
use Rattle.sheet.specs.Magnitude.{Magnitude, units, round_mag, Side}
use Rattle.sheet.specs.Number.{bias, value, signed}
use Rattle.sheet.specs.Round.{away, round}
use Rattle.sheet.proofs.Gaps.{zero_or_pos}
use Rattle.sheet.proofs.Rounding.{round_ratio, round_zero}

-- s lies on the side of x to which the direction goes
unfoldable pub Sided : Bool → Fraction → Fraction → Type 0
Sided true s x = x ≼ s
Sided false s x = s ≼ x

pub sided_resp : (up : Bool) {s t x y : Fraction} → s ≈ t → x ≈ y → Sided up s x → Sided up t y
unfolding Sided
sided_resp true e f h = ≈-≼-trans (≈-sym f) (≼-≈-trans h e)
sided_resp false e f h = ≈-≼-trans (≈-sym e) (≼-≈-trans h f)

-- away from zero: the direction and the sign differ
pub away-ne : (up neg : Bool) → not (beq up neg) ≡ away up neg
unfolding away
away-ne true true = refl
away-ne true false = refl
away-ne false true = refl
away-ne false false = refl

-- of one sign the direction is that of the magnitudes
pub sided_parts : (up s : Bool) (a b c e : ℕ) → 0 < b → 0 < e → Side (away up s) (a * e) (c * b) → Sided up (parts s a b) (parts s c e)
unfolding Side Sided away
sided_parts true false a b c e p q h = parts-≼ c e a b q p h
sided_parts true true a b c e p q h = parts-≼_below c e a b q p h
sided_parts false false a b c e p q h = parts-≼ a b c e p q h
sided_parts false true a b c e p q h = parts-≼_below a b c e p q h

pub parts-sided : (up s : Bool) (a b c e : ℕ) → 0 < b → 0 < e → Sided up (parts s a b) (parts s c e) → Side (away up s) (a * e) (c * b)
unfolding Side Sided away
parts-sided true false a b c e p q h = ≼-parts c e a b q p h
parts-sided true true a b c e p q h = ≼-parts-below c e a b q p h
parts-sided false false a b c e p q h = ≼-parts a b c e p q h
parts-sided false true a b c e p q h = ≼-parts-below a b c e p q h

pub side-mul : (d : Bool) (k a b : ℕ) → Side d a b → Side d (a * k) (b * k)
unfolding Side
side-mul true k a b h = mul-le-mul_right k h
side-mul false k a b h = mul-le-mul_right k h

pub side-cancel : (d : Bool) (k a b : ℕ) → 0 < k → Side d (a * k) (b * k) → Side d a b
unfolding Side
side-cancel true k a b p h = le_of_mul-le-mul_right h p
side-cancel false k a b p h = le_of_mul-le-mul_right h p

pub side-eq : (d : Bool) {a b a' b' : ℕ} → a ≡ a' → b ≡ b' → Side d a b → Side d a' b'
side-eq d e f h = subst₂ (Side d) e f h

-- ---- the value of a magnitude with its sign

pub signed-value : (s : Bool) (x : Magnitude) → value (signed s x) ≈ parts s (units x) (2 ^ bias)
unfolding value signed
signed-value false x = ≈-refl _
signed-value true x = go (eqb x.m 0) refl
  where
    go : (b : Bool) → eqb x.m 0 ≡ b → parts (true && not b) (units x) (2 ^ bias) ≈ parts true (units x) (2 ^ bias)
    go true t =
        rw (eqb-true x.m 0 t, zero-mul) (≈-trans (parts-zero false (2 ^ bias)) (≈-sym (parts-zero true (2 ^ bias))))
    go false t = ≈-refl _

pub signed-zero : (s t : Bool) → signed s (record { m = 0; e = 0 }) ≡ signed t (record { m = 0; e = 0 })
unfolding signed
signed-zero true true = refl
signed-zero true false = refl
signed-zero false true = refl
signed-zero false false = refl

-- a magnitude that is not zero has the sign, and zero has none
pub signed-pos : (s : Bool) (m e : ℕ) → (m ≡ 0 → ⊥) → signed s (record { m = m; e = e }) ≡ record { neg = s; m = m; e = e }
unfolding signed
signed-pos s m e h = λ i. record { neg = go s i; m = m; e = e }
  where
    go : (b : Bool) → (b && not (eqb m 0)) ≡ b
    go true = rw (ne_eqb m 0 h)
    go false = refl

pub signed-none : (s : Bool) (m e : ℕ) → m ≡ 0 → signed s (record { m = m; e = e }) ≡ record { neg = false; m = m; e = e }
unfolding signed
signed-none s m e h = λ i. record { neg = go s i; m = m; e = e }
  where
    go : (b : Bool) → (b && not (eqb m 0)) ≡ false
    go true = rw (eq-eqb m 0 h)
    go false = refl

-- ---- the rounding of whatever equals a signed quotient

ratio_of : (t d a b B num den : ℕ) → 0 < b → t * b ≡ a * d → num * b ≡ a * B * den → t * B * den ≡ num * d
ratio_of t d a b B num den p h k =
    eq_of_mul-eq-mul_right b p (t * B * den) (num * d)
    (omega (arith, ap (λ (x : ℕ). x * (B * den)) h, ap (λ (x : ℕ). x * d) k))

top_zero : (x : Fraction) → negative x ≡ false → x ≼ nat 0 → top x ≡ 0
top_zero x n h = ⊎_elim (λ z. z) some (zero_or_pos (top x))
  where
    some : 0 < top x → top x ≡ 0
    some p = absurd (≼-not-≺ h (≺-≈-trans (parts-pos (top x) (bottom x) p) (≈-sym (rw n at (as_parts x)))))

-- numerator zero on both sides: the sign does not count
zero_parts : (x : Fraction) (a b : ℕ) → 0 < b → negative x ≡ false → x ≈ parts true a b → (top x ≡ 0) × (a ≡ 0)
zero_parts x a b p n e = (top_zero x n (≈-≼-trans e (parts-nonpos a b)), ⊎_elim (λ z. z) some (zero_or_pos a))
  where
    some : 0 < a → a ≡ 0
    some q = absurd (≼-not-≺ (negative-false x n) (≈-≺-trans e (parts-neg a b q)))

pub round_parts : (up : Bool) (v : ℕ) (x : Fraction) (s : Bool) (a b num den : ℕ) → 0 < b → 0 < den → x ≈ parts s a b → num * b ≡ a * 2 ^ bias * den
    → round up (suc v) x ≡ signed s (round_mag (away up s) (suc v) num den)
unfolding round
round_parts up v x s a b num den p q e k = go (negative x) s refl e
  where
    same : (n : Bool) → negative x ≡ n → x ≈ parts n a b
        → signed n (round_mag (away up n) (suc v) (top x * 2 ^ bias) (bottom x)) ≡ signed n (round_mag (away up n) (suc v) num den)
    same n m f =
        let h : top x * b ≡ a * bottom x = ≈-parts n (top x) (bottom x) a b (bottom-pos x) p (≈-trans (≈-sym (rw m at (as_parts x))) f) in
        ap (signed n) (round_ratio (away up n) v (top x * 2 ^ bias) (bottom x) num den (bottom-pos x) q (ratio_of (top x) (bottom x) a b (2 ^ bias) num den p h k))

    go : (n t : Bool) → negative x ≡ n → x ≈ parts t a b
        → signed n (round_mag (away up n) (suc v) (top x * 2 ^ bias) (bottom x)) ≡ signed t (round_mag (away up t) (suc v) num den)
    go true true m f = same true m f
    go false false m f = same false m f
    go true false m f = absurd (≼-not-≺ (≼-≈-trans (parts-nonneg a b) (≈-sym f)) (negative-true x m))
    go false true m f =
        let z = zero_parts x a b p m f in
        let n0 : num ≡ 0 = eq_of_mul-eq-mul_right b p num 0 (k ∙ rw (z.1, zero-mul, zero-mul, zero-mul)) in
        rw (z.0, n0, zero-mul, round_zero (away up false) v (bottom x) (bottom-pos x), round_zero (away up true) v den q) (signed-zero false true)
