-- From the order to the measures: a number between powers of two has their size, and one that is farther from zero than another, on its
-- side, has at least its size. Assumes nothing.
use mathlib.Core.Path.{◌≡◌}
use mathlib.Core.Logic.{◌⊎◌, inl, inr, ⊎_elim}
use mathlib.Core.Bool.{Bool, true, false}
use Prim.Native.Nat.{ℕ, ◌+◌, ◌*◌, ◌^◌, ◌≤◌, ◌<◌}
use native.Mathlib.Omega.{arith}
use native.Mathlib.Nat.{mul-le-mul_right}
use lib.Pow.{pow_pos, pow-add}
use Rattle.exact.specs.Fraction.{Fraction, nat, parts, negate, ◌≼◌, ◌≈◌}
use Rattle.exact.proofs.Fraction.Order.{≼_trans, ≼-antisym, ≼-not-≺, ≺→≼, ≈→≼, ≈→≽, ≈-refl, ≈-sym, ≈-trans, ≈-≼-trans, ≼-≈-trans, ≈-≺-trans}
use Rattle.exact.proofs.Fraction.Sum.{negate-nonpos}
use Rattle.exact.proofs.Fraction.Parts.{parts-≼, parts-≼_below, parts-neg, ≼-parts, ≼-parts-below, parts-negate, parts-nonneg, parts-nonpos, parts-pos, parts-zero}
use Rattle.sheet.specs.declared.Sheet.{Sheet}
use Rattle.sheet.specs.Number.{bias, value, Spelled}
use Rattle.sheet.proofs.Gaps.{zero_or_pos}
use Rattle.measure.specs.Measure.{Sized, Digited}
use Rattle.bracket.specs.Span.{Each, whole}
use Rattle.measure.proofs.Sizes.{Positive, whole_positive}
use Rattle.measure.proofs.Measure.{between-sized}
use Rattle.series.proofs.Short.{short, unit}
use Rattle.series.proofs.Units.{unit-pos}
use Rattle.series.proofs.Fits.{value-size, value-least}
use Rattle.series.proofs.Sign.{Grown}

some_power : (l : ℕ) → 0 < 1 * 2 ^ l
some_power l = let p = pow_pos l in omega arith

-- a whole number from 2^q to 2^p
pub powers-between : (n q p : ℕ) → 0 < n → 2 ^ q ≤ n → n ≤ 2 ^ p → Each (Positive (bias + q) (bias + p)) (whole n)
powers-between n q p some l h =
    whole_positive (bias + q) (bias + p) n some (let e = pow-add 2 bias q in omega (arith, mul-le-mul_right (2 ^ bias) l))
    (let e = pow-add 2 bias p in omega (arith, mul-le-mul_right (2 ^ bias) h))

-- above zero
pub units-sized : {l h : ℕ} {x : Fraction} → unit l ≼ x → x ≼ unit h → Sized l h x
unfolding short
units-sized {l} {h} {x} p q =
    between-sized (1 * 2 ^ l) (2 ^ bias) (1 * 2 ^ h) (2 ^ bias) (some_power l) (pow_pos bias) (pow_pos bias) p q (omega arith) (omega arith)

pub units-digited : (v : ℕ) {l h : ℕ} (s : Sheet) → Spelled v s → unit l ≼ value s → value s ≼ unit h → Digited v l h (value s)
unfolding value
units-digited v {l} s p a b =
    let k = value-size s a b in
    record { neg = s.neg; m = s.m; e = s.e; is = ≈-refl (value s); few = p.fit.small; least = inr (value-least s l a).1; most = k.most }

unit-over : (h a b : ℕ) → 0 < b → a * 2 ^ bias ≤ 2 ^ h * b → parts false a b ≼ unit h
unfolding short
unit-over h a b p k = parts-≼ a b (1 * 2 ^ h) (2 ^ bias) p (pow_pos bias) (omega arith)

-- a size from above
pub sized_under : {l h : ℕ} {x : Fraction} → Sized l h x → x ≼ unit h
sized_under {l} {h} {x} s = go s.neg s.is
  where
    go : (n : Bool) → x ≈ parts n s.num s.den → x ≼ unit h
    go true e = ≼_trans (≈-≼-trans e (parts-nonpos s.num s.den)) (≺→≼ (unit-pos h))
    go false e = ≈-≼-trans e (unit-over h s.num s.den s.some s.most)

-- ---- on either side of zero
below : (l : ℕ) → negate (unit l) ≈ parts true (1 * 2 ^ l) (2 ^ bias)
unfolding short
below l = parts-negate false (1 * 2 ^ l) (2 ^ bias)

-- at most 2^h
size_most : (h : ℕ) {x : Fraction} (n : Bool) (a b : ℕ) → 0 < b → x ≈ parts n a b → negate (unit h) ≼ x → x ≼ unit h → a * 2 ^ bias ≤ 2 ^ h * b
unfolding short
size_most h {x} false a b p e low high =
    let k = ≼-parts a b (1 * 2 ^ h) (2 ^ bias) p (pow_pos bias) (≈-≼-trans (≈-sym e) high) in omega arith
size_most h {x} true a b p e low high =
    let k = ≼-parts-below (1 * 2 ^ h) (2 ^ bias) a b (pow_pos bias) p (≈-≼-trans (≈-sym (below h)) (≼-≈-trans low e)) in omega arith

pub sized_tight : {l h : ℕ} (k : ℕ) {x : Fraction} → negate (unit k) ≼ x → x ≼ unit k → Sized l h x → Sized l k x
sized_tight k low high s =
    record { neg = s.neg; num = s.num; den = s.den; is = s.is; some = s.some; least = s.least; most = size_most k s.neg s.num s.den s.some s.is low high }

-- at least 2^l: from one side or the other
above-least : (l : ℕ) {x : Fraction} (n : Bool) (a b : ℕ) → 0 < b → x ≈ parts n a b → unit l ≼ x → 2 ^ l * b ≤ a * 2 ^ bias
unfolding short
above-least l {x} false a b p e h =
    let k = ≼-parts (1 * 2 ^ l) (2 ^ bias) a b (pow_pos bias) p (≼-≈-trans h e) in omega arith
above-least l {x} true a b p e h = absurd (≼-not-≺ (≼_trans h (≈-≼-trans e (parts-nonpos a b))) (unit-pos l))

below_least : (l : ℕ) {x : Fraction} (n : Bool) (a b : ℕ) → 0 < b → x ≈ parts n a b → x ≼ negate (unit l) → 2 ^ l * b ≤ a * 2 ^ bias
unfolding short
below_least l {x} true a b p e h =
    let k = ≼-parts-below a b (1 * 2 ^ l) (2 ^ bias) p (pow_pos bias) (≈-≼-trans (≈-sym e) (≼-≈-trans h (below l))) in omega arith
below_least l {x} false a b p e h =
    absurd (≼-not-≺ (≼_trans (parts-nonneg a b) (≈-≼-trans (≈-sym e) h)) (≈-≺-trans (below l) (parts-neg (1 * 2 ^ l) (2 ^ bias) (some_power l))))

no_size : {x : Fraction} (n : Bool) (a b : ℕ) → 0 < b → x ≈ parts n a b → x ≈ nat 0 → a ≡ 0
no_size n a b p e z = ⊎_elim (λ k. k) (λ k. absurd (go n k (≈-trans (≈-sym e) z))) (zero_or_pos a)
  where
    go : (n : Bool) → 0 < a → parts n a b ≈ nat 0 → ⊥
    go true k f = ≼-not-≺ (≈→≽ f) (parts-neg a b k)
    go false k f = ≼-not-≺ (≈→≼ f) (parts-pos a b k)

unit-under : (l a b : ℕ) → 0 < b → 2 ^ l * b ≤ a * 2 ^ bias → unit l ≼ parts false a b
unfolding short
unit-under l a b p k = parts-≼ (1 * 2 ^ l) (2 ^ bias) a b (pow_pos bias) p (omega arith)

over-unit : (l a b : ℕ) → 0 < b → 2 ^ l * b ≤ a * 2 ^ bias → parts true a b ≼ negate (unit l)
over-unit l a b p k = ≼-≈-trans (parts-≼_below a b (1 * 2 ^ l) (2 ^ bias) p (pow_pos bias) (omega arith)) (≈-sym (below l))

-- farther from zero on the same side
pub grown_sized : {l h l' h' : ℕ} {x y : Fraction} → Grown x y → Sized l h x → Sized l' h' y → Sized l h' y
grown_sized {l} {h} {l'} {h'} {x} {y} g s t =
    record { neg = t.neg; num = t.num; den = t.den; is = t.is; some = t.some; least = ⊎_elim none (some s.neg s.is) s.least; most = t.most }
  where
    none : s.num ≡ 0 → (t.num ≡ 0) ⊎ (2 ^ l * t.den ≤ t.num * 2 ^ bias)
    none z =
        let e : x ≈ nat 0 = ≈-trans s.is (rw z (parts-zero s.neg s.den)) in
        inl (no_size t.neg t.num t.den t.some t.is (≈-trans (≼-antisym (g.fall (≈→≼ e)) (g.rise (≈→≽ e))) e))

    some : (n : Bool) → x ≈ parts n s.num s.den → 2 ^ l * s.den ≤ s.num * 2 ^ bias → (t.num ≡ 0) ⊎ (2 ^ l * t.den ≤ t.num * 2 ^ bias)
    some false e k =
        let u : unit l ≼ x = ≼-≈-trans (unit-under l s.num s.den s.some k) (≈-sym e) in
        inr (above-least l t.neg t.num t.den t.some t.is (≼_trans u (g.rise (≼_trans (≺→≼ (unit-pos l)) u))))
    some true e k =
        let u : x ≼ negate (unit l) = ≈-≼-trans e (over-unit l s.num s.den s.some k) in
        inr (below_least l t.neg t.num t.den t.some t.is (≼_trans (g.fall (≼_trans u (negate-nonpos (≺→≼ (unit-pos l))))) u))
