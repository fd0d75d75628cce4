-- One value has one spelling: two sheet numbers of suc v bits with equal values are the same. Assumes nothing.
use mathlib.Core.Path.{◌≡◌, refl, sym, ◌∙◌, subst}
use mathlib.Core.Logic.{inl, inr, ⊎_elim}
use mathlib.Core.Bool.{Bool, true, false, not, ◌&&◌, true≢false}
use Prim.Native.Nat.{ℕ, suc, ◌*◌, ◌^◌, ◌<◌}
use native.Mathlib.Nat.{zero-mul, eq_of_mul-eq-mul_right}
use native.Mathlib.Omega.{arith}
use borrow.Author.Tests.{eqb-true, eq-eqb}
use lib.Dec.{eqb}
use lib.Pow.{pow_pos}
use Rattle.exact.specs.Fraction.{◌≈◌}
use Rattle.exact.proofs.Fraction.Order.{≼-not-≺, ≈-sym, ≼-≈-trans}
use Rattle.exact.proofs.Fraction.Parts.{≈-parts, parts-neg, parts-nonneg}
use Rattle.sheet.specs.declared.Sheet.{Sheet}
use Rattle.sheet.specs.Magnitude.{Magnitude, Fit}
use Rattle.sheet.specs.Number.{bias, value, plain_zero, signed, Normal, Spelled}
use Rattle.sheet.proofs.Gaps.{zero_or_pos}
use Rattle.sheet.proofs.Rounding.{fit_unique}

pub zero_spelled : (v : ℕ) → Spelled v plain_zero
zero_spelled v = record { fit = record { small = pow_pos (suc v); full = λ p. absurd (omega arith) }; plain = λ _. refl }

pub normal-spelled : (v : ℕ) (s : Sheet) → Normal v s → Spelled v s
normal-spelled v s (inl z) = subst (Spelled v) (sym z) (zero_spelled v)
normal-spelled v s (inr d) =
    record { fit = record { small = d.high; full = λ _. d.low }; plain = λ z. absurd (let l = d.low in let p = pow_pos v in omega arith) }

pub signed-spelled : (v : ℕ) (neg : Bool) (x : Magnitude) → Fit v x.m x.e → Spelled v (signed neg x)
unfolding signed
signed-spelled v neg x f = record { fit = f; plain = λ z. rw (eq-eqb x.m 0 z) (no_sign neg) }
  where
    no_sign : (b : Bool) → (b && not true) ≡ false
    no_sign true = refl
    no_sign false = refl

-- digits missing: the place is the last
pub spelled-zero : (v : ℕ) (s : Sheet) → Spelled v s → s.m ≡ 0 → s ≡ plain_zero
spelled-zero v s h z = λ i. record { neg = h.plain z i; m = z i; e = place i }
  where
    place : s.e ≡ 0
    place = ⊎_elim (λ q. q) (λ p. absurd (let l = h.fit.full p in let g = pow_pos v in omega arith)) (zero_or_pos s.e)

-- a spelled number is the sign put to its magnitude
pub signed-self : (v : ℕ) (s : Sheet) → Spelled v s → signed s.neg (record { m = s.m; e = s.e }) ≡ s
unfolding signed
signed-self v s h = λ i. record { neg = go s.neg (eqb s.m 0) refl refl i; m = s.m; e = s.e }
  where
    go : (n b : Bool) → s.neg ≡ n → eqb s.m 0 ≡ b → (n && not b) ≡ n
    go false b p q = refl
    go true false p q = refl
    go true true p q = sym (h.plain (eqb-true s.m 0 q)) ∙ p

pub extent-zero : (m e : ℕ) → m * 2 ^ e ≡ 0 → m ≡ 0
extent-zero m e h = eq_of_mul-eq-mul_right (2 ^ e) (pow_pos e) m 0 (h ∙ sym (zero-mul (2 ^ e)))

-- a number below zero has not the value of one that is not
apart : (v : ℕ) (s t : Sheet) → Spelled v s → value s ≈ value t → s.neg ≡ true → t.neg ≡ false → ⊥
unfolding value
apart v s t h e p q = ⊎_elim none some (zero_or_pos (s.m * 2 ^ s.e))
  where
    none : s.m * 2 ^ s.e ≡ 0 → ⊥
    none z = true≢false (sym p ∙ h.plain (extent-zero s.m s.e z))

    some : 0 < s.m * 2 ^ s.e → ⊥
    some l =
        ≼-not-≺ (≼-≈-trans (parts-nonneg (t.m * 2 ^ t.e) (2 ^ bias)) (≈-sym (rw (p, q) at e))) (parts-neg (s.m * 2 ^ s.e) (2 ^ bias) l)

pub one-spelling : (v : ℕ) (s t : Sheet) → Spelled v s → Spelled v t → value s ≈ value t → s ≡ t
unfolding value
one-spelling v s t h k e = go s.neg t.neg refl refl
  where
    B : ℕ
    B = 2 ^ bias

    same : (n : Bool) → s.neg ≡ n → t.neg ≡ n → s ≡ t
    same n p q =
        let a : s.m * 2 ^ s.e * B ≡ t.m * 2 ^ t.e * B = ≈-parts n (s.m * 2 ^ s.e) B (t.m * 2 ^ t.e) B (pow_pos bias) (pow_pos bias) (rw (p, q) at e) in
        let x = fit_unique v s.m s.e t.m t.e h.fit k.fit (eq_of_mul-eq-mul_right B (pow_pos bias) (s.m * 2 ^ s.e) (t.m * 2 ^ t.e) a) in
        λ i. record { neg = (p ∙ sym q) i; m = (x i).m; e = (x i).e }

    go : (n o : Bool) → s.neg ≡ n → t.neg ≡ o → s ≡ t
    go true true p q = same true p q
    go false false p q = same false p q
    go true false p q = absurd (apart v s t h e p q)
    go false true p q = absurd (apart v t s k (≈-sym e) q p)
