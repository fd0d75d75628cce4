-- The measures through the rules of brackets, over the count of bits suc v, and what they say of the sheet numbers themselves: the exponents'
-- range and that an end is exactly an f64. Assumes nothing.
use mathlib.Core.Path.{◌≡◌, refl, sym, ◌∙◌, subst}
use mathlib.Core.Logic.{◌⊎◌, inl, inr}
use mathlib.Core.Bool.{Bool, true, false}
use Prim.Native.Nat.{ℕ, zero, suc, ◌+◌, ◌*◌, ◌^◌, ◌≤◌, ◌<◌}
use native.Mathlib.Nat.{le_refl, le_of_mul-le-mul_right, eq_of_mul-eq-mul_right, zero-mul, one-mul}
use native.Mathlib.Omega.{arith}
use lib.Pow.{pow_mono, pow_pos}
use Rattle.exact.specs.Fraction.{Fraction, nat, parts, ◌⊕◌, ◌⊖◌, ◌⊗◌, ◌⊘◌, ◌≺◌, ◌≈◌}
use Rattle.exact.proofs.Fraction.Parts.{nat-pos, ≈-parts, ≼-parts-zero}
use Rattle.exact.proofs.Fraction.Product.{⊗-pos}
use Rattle.exact.proofs.Fraction.Quotient.{⊘-pos}
use Rattle.exact.proofs.Fraction.Order.{≈→≼, ≈-sym}
use Rattle.sheet.specs.declared.Sheet.{Sheet}
use Rattle.sheet.specs.Number.{bias, value, Spelled}
use Rattle.sheet.specs.Round.{round}
use Rattle.sheet.specs.Range.{extent, Within, Width, Doubled}
use Rattle.sheet.proofs.Laws.{round_spelled}
use Rattle.sheet.proofs.Measures.{span_within, grain-shift, grain-doubled}
use Rattle.bracket.specs.declared.Bracket.{Bracket}
use Rattle.bracket.specs.Span.{Span, whole, Each, Ordered}
use Rattle.bracket.specs.Rules.{ends, rounded, given, plus, minus, times, divided, power}
use Rattle.bracket.specs.Held.{Ends, Held}
use Rattle.bracket.proofs.Inclusion.{rounded-ordered}
use Rattle.measure.specs.Measure.{Sized, Fine, Digited}
use Rattle.measure.proofs.Lift.{each_map, over-both, rounded-both}
use Rattle.measure.proofs.Measure.{⊗-sized, ⊘-sized, ⊕-fine, ⊖-fine, round_sized, round_fine, digited_sized, fine_sized, nat-sized, near_plus, near_minus, near_less, round_pos, whole_fine}

-- a rounded sum: as fine as its addends, and of few digits
pub record Summed (v g h : ℕ) (x : Fraction) : Type 0 where
  pub fine : Fine g h x
  pub digits : Digited v g h x

-- above zero, before and after rounding
pub record Positive (l h : ℕ) (x : Fraction) : Type 0 where
  pub above : nat 0 ≺ x
  pub sized : Sized l h x

pub record Plus (v l h : ℕ) (x : Fraction) : Type 0 where
  pub above : nat 0 ≺ x
  pub digits : Digited v l h x

pub plus-positive : {v l h : ℕ} {A : Span} → Each (Plus v l h) A → Each (Positive l h) A
plus-positive = each_map (λ x p. record { above = p.above; sized = digited_sized p.digits })

pub positive_sized : {l h : ℕ} {A : Span} → Each (Positive l h) A → Each (Sized l h) A
positive_sized = each_map (λ x p. p.sized)

pub digits-sized : {v l h : ℕ} {A : Span} → Each (Digited v l h) A → Each (Sized l h) A
digits-sized = each_map (λ x p. digited_sized p)

pub plus-sized : {v l h : ℕ} {A : Span} → Each (Plus v l h) A → Each (Sized l h) A
plus-sized p = positive_sized (plus-positive p)

pub whole_positive : (l h n : ℕ) → 0 < n → 2 ^ l ≤ n * 2 ^ bias → n * 2 ^ bias ≤ 2 ^ h → Each (Positive l h) (whole n)
whole_positive l h n some p q = let k : Positive l h (nat n) = record { above = nat-pos some; sized = nat-sized l h n p q } in record { low = k; high = k }

module _ (v : ℕ) where
  round_plus : (up : Bool) {l h : ℕ} {x : Fraction} → Positive l h x → Plus v l h (value (round up (suc v) x))
  round_plus up s = record { above = round_pos up v s.above s.sized; digits = round_sized up v s.sized }

  pub given_plus : {l h : ℕ} {x : Fraction} → Positive l h x → Each (Plus v l h) (ends (given (suc v) x))
  given_plus s = rounded-both (suc v) (λ up x p. round_plus up p) (record { low = s; high = s })

  pub times-plus : {la ha lb hb l h : ℕ} {A B : Span} → l + bias ≤ la + lb → ha + hb ≤ h + bias → Each (Positive la ha) A
      → Each (Positive lb hb) B → Each (Plus v l h) (ends (times (suc v) A B))
  times-plus p q a b =
      rounded-both (suc v) (λ up x k. round_plus up k)
      (over-both ◌⊗◌ (λ x y s t. record { above = ⊗-pos s.above t.above; sized = ⊗-sized p q s.sized t.sized }) a b)

  pub divided-plus : {la ha lb hb l h : ℕ} {A B : Span} → l + hb ≤ la + bias → ha + bias ≤ h + lb → Each (Positive la ha) A
      → Each (Positive lb hb) B → Each (Plus v l h) (ends (divided (suc v) A B))
  divided-plus p q a b =
      rounded-both (suc v) (λ up x k. round_plus up k)
      (over-both ◌⊘◌ (λ x y s t. record { above = ⊘-pos y s.above; sized = ⊘-sized p q t.above s.sized t.sized }) a b)

  -- a power falls at most by p places a factor and rises at most by q
  pub power-plus : {dl dh : ℕ} (p q : ℕ) (b : Bracket) → bias ≤ dl + p → dh ≤ bias + q → Each (Positive dl dh) (ends b) → (n l h : ℕ)
      → l + p * n ≤ bias → bias + q * n ≤ h → Each (Plus v l h) (ends (power (suc v) b n))
  unfolding power
  power-plus p q b low high d zero l h i j =
      given_plus (record { above = nat-pos (omega arith); sized = nat-sized l h 1 (rw one-mul (pow_mono (omega arith))) (rw one-mul (pow_mono (omega arith))) })
  power-plus p q b low high d (suc n) l h i j =
      times-plus (omega arith) (omega arith) (plus-positive (power-plus p q b low high d n (l + p) (bias + q * n) (omega arith) (omega arith))) d

  pub round_summed : (up : Bool) {g h : ℕ} {x : Fraction} → Fine g h x → Summed v g h (value (round up (suc v) x))
  round_summed up s = record { fine = round_fine up v s; digits = round_sized up v (fine_sized s) }

  pub given_sized : {l h : ℕ} {x : Fraction} → Sized l h x → Each (Digited v l h) (ends (given (suc v) x))
  given_sized s = rounded-both (suc v) (λ up x p. round_sized up v p) (record { low = s; high = s })

  pub given_summed : {g h : ℕ} {x : Fraction} → Fine g h x → Each (Summed v g h) (ends (given (suc v) x))
  given_summed s = rounded-both (suc v) (λ up x p. round_summed up p) (record { low = s; high = s })

  pub times-sized : {la ha lb hb l h : ℕ} {A B : Span} → l + bias ≤ la + lb → ha + hb ≤ h + bias → Each (Sized la ha) A → Each (Sized lb hb) B
      → Each (Digited v l h) (ends (times (suc v) A B))
  times-sized p q a b = rounded-both (suc v) (λ up x k. round_sized up v k) (over-both ◌⊗◌ (λ x y s t. ⊗-sized p q s t) a b)

  pub divided-sized : {la ha lb hb l h : ℕ} {A B : Span} → l + hb ≤ la + bias → ha + bias ≤ h + lb → Each (Sized la ha) A → Each (Positive lb hb) B
      → Each (Digited v l h) (ends (divided (suc v) A B))
  divided-sized p q a b =
      rounded-both (suc v) (λ up x k. round_sized up v k) (over-both ◌⊘◌ (λ x y s t. ⊘-sized p q t.above s t.sized) a b)

  pub whole_times_summed : {g h : ℕ} (k n : ℕ) {B : Span} → n ≤ 2 ^ k → Each (Fine g h) B → Each (Summed v g (k + h)) (ends (times (suc v) (whole n) B))
  whole_times_summed {g} {h} k n p b =
      rounded-both (suc v) (λ up x s. round_summed up s)
      (over-both ◌⊗◌ (λ x y e s. subst (λ (z : Fraction). Fine g (k + h) (z ⊗ y)) (sym e) (whole_fine k n p s)) (record { low = refl; high = refl }) b)

  pub plus-summed : {g h : ℕ} {A B : Span} → Each (Fine g h) A → Each (Fine g h) B → Each (Summed v g (suc h)) (ends (plus (suc v) A B))
  plus-summed a b = rounded-both (suc v) (λ up x k. round_summed up k) (over-both ◌⊕◌ (λ x y s t. ⊕-fine s t) a b)

  pub minus-summed : {g h : ℕ} {A B : Span} → Each (Fine g h) A → Each (Fine g h) B → Each (Summed v g (suc h)) (ends (minus (suc v) A B))
  minus-summed a b = rounded-both (suc v) (λ up x k. round_summed up k) (over-both ◌⊖◌ (λ x y s t. ⊖-fine s t) a b)

  -- a whole number and a bracket of few digits
  module _ {k h l : ℕ} (a : ℕ) {B : Span} (room : k + suc v ≤ bias) (some : 0 < a) (most : a * 2 ^ bias ≤ 2 ^ h) (b : Each (Digited v l h) B) where
    pub whole_plus : Each (Digited v k (suc h)) (ends (plus (suc v) (whole a) B))
    whole_plus =
        rounded-both (suc v) (λ up x s. round_sized up v s)
        (over-both ◌⊕◌ (λ x y e s. subst (λ (z : Fraction). Sized k (suc h) (z ⊕ y)) (sym e) (near_plus a room some most s)) (record { low = refl; high = refl }) b)

    pub whole_minus : Each (Digited v k (suc h)) (ends (minus (suc v) (whole a) B))
    whole_minus =
        rounded-both (suc v) (λ up x s. round_sized up v s)
        (over-both ◌⊖◌ (λ x y e s. subst (λ (z : Fraction). Sized k (suc h) (z ⊖ y)) (sym e) (near_minus a room some most s)) (record { low = refl; high = refl }) b)

    pub minus-whole : Each (Digited v k (suc h)) (ends (minus (suc v) B (whole a)))
    minus-whole =
        rounded-both (suc v) (λ up x s. round_sized up v s)
        (over-both ◌⊖◌ (λ x y s e. subst (λ (z : Fraction). Sized k (suc h) (x ⊖ z)) (sym e) (near_less a room some most s)) b (record { low = refl; high = refl }))

-- ---- what the measures say of the sheet numbers

extent-of : (s : Sheet) (n : Bool) (a b : ℕ) → 0 < b → value s ≈ parts n a b → extent s * b ≡ a * 2 ^ bias
unfolding value
extent-of s n a b pos e = go s.neg n e
  where
    none : {c d : ℕ} → (c ≡ 0) × (d ≡ 0) → c * b ≡ d * 2 ^ bias
    none z = rw (z.0, z.1, zero-mul, zero-mul)

    go : (m n : Bool) → parts m (extent s) (2 ^ bias) ≈ parts n a b → extent s * b ≡ a * 2 ^ bias
    go true true e = ≈-parts true (extent s) (2 ^ bias) a b (pow_pos bias) pos e
    go false false e = ≈-parts false (extent s) (2 ^ bias) a b (pow_pos bias) pos e
    go false true e = none (≼-parts-zero (extent s) (2 ^ bias) a b (pow_pos bias) pos (≈→≼ e))
    go true false e =
        let z = ≼-parts-zero a b (extent s) (2 ^ bias) pos (pow_pos bias) (≈→≼ (≈-sym e)) in
        none (z.1, z.0)

module _ {l h : ℕ} (s : Sheet) (d : Sized l h (value s)) where
  cross : extent s * d.den ≡ d.num * 2 ^ bias
  cross = extent-of s d.neg d.num d.den d.some d.is

  extent-least : (extent s ≡ 0) ⊎ (2 ^ l ≤ extent s)
  extent-least = go d.least
    where
      go : (d.num ≡ 0) ⊎ (2 ^ l * d.den ≤ d.num * 2 ^ bias) → (extent s ≡ 0) ⊎ (2 ^ l ≤ extent s)
      go (inl z) = inl (eq_of_mul-eq-mul_right d.den d.some (extent s) 0 (cross ∙ rw (z, zero-mul, zero-mul)))
      go (inr k) = inr (le_of_mul-le-mul_right {k = d.den} (rw cross k) d.some)

  extent-most : extent s ≤ 2 ^ h
  extent-most = le_of_mul-le-mul_right {k = d.den} (rw cross d.most) d.some

  -- the one spelling, and its exponent
  pub within_of : {v lo hi : ℕ} → Spelled v s → v ≤ l → bias + v ≤ l + lo → h ≤ v + bias + hi → Within v lo hi s
  within_of {v} {lo} {hi} spelt full low high =
      span_within v lo hi l h s spelt (record { least = extent-least; most = extent-most }) full low (omega arith)

-- the f64 of exactly that value
pub doubled_of : {g h : ℕ} (s : Sheet) → Fine g h (value s) → bias ≤ g + 1074 → h < 1024 + bias → Doubled s
doubled_of {g} {h} s d p q = grain-doubled g h s (rw same (grain-shift g d.times g (le_refl g))) (rw same d.most) p q
  where
    same : extent s ≡ d.times * 2 ^ g
    same = eq_of_mul-eq-mul_right (2 ^ bias) (pow_pos bias) (extent s) (d.times * 2 ^ g) (extent-of s d.neg (d.times * 2 ^ g) (2 ^ bias) (pow_pos bias) d.is)

-- ---- brackets

module _ {v l h : ℕ} (w : Width v) {A : Span} (low : bias + v ≤ l + 80000) (high : h ≤ v + bias + 80000) (full : v ≤ l) where
  pub held_of : Ordered A → Each (Sized l h) (ends (rounded (suc v) A)) → Held v (rounded (suc v) A)
  unfolding rounded
  held_of o e =
      record {
        lo = record { width = w; within = within_of (round false (suc v) A.low) e.low (round_spelled false v A.low) full low high };
        hi = record { width = w; within = within_of (round true (suc v) A.high) e.high (round_spelled true v A.high) full low high };
        order = (rounded-ordered v o).order;
      }

pub doubled_both : {g h : ℕ} (b : Bracket) → Each (Fine g h) (ends b) → bias ≤ g + 1074 → h < 1024 + bias → Ends Doubled b
doubled_both b e p q = record { lo = doubled_of b.lo e.low p q; hi = doubled_of b.hi e.high p q }
