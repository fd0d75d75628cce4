-- Lower bounds that are no powers of two, in quarters, and how rounding keeps them; and a size from such a bound. Assumes nothing.
use mathlib.Core.Logic.{inr}
use mathlib.Core.Bool.{Bool, true, false}
use Prim.Native.Nat.{ℕ, suc, ◌-◌, ◌*◌, ◌^◌, ◌≤◌, ◌<◌}
use native.Mathlib.Nat.{le_of_mul-le-mul_right, le_refl}
use native.Mathlib.Omega.{arith}
use lib.Pow.{pow_pos, pow_mono}
use Rattle.exact.specs.Fraction.{Fraction, nat, parts, leq, negate, ◌⊕◌, ◌⊖◌, ◌⊗◌, ◌≼◌, ◌≈◌}
use Rattle.exact.proofs.Fraction.Order.{≼_trans, ≼-not-≺, ≈-sym, ≈-≼-trans, ≼-≈-trans, ≼-by}
use Rattle.exact.proofs.Fraction.Sum.{⊖-mono}
use Rattle.exact.proofs.Fraction.Product.{⊗-mono}
use Rattle.exact.proofs.Fraction.Parts.{≼-parts, parts-≼, parts-nonneg, parts-nonpos, nat-≼}
use Rattle.sheet.specs.Number.{bias}
use Rattle.sheet.proofs.Laws.{short-le_round}
use Rattle.bracket.specs.Span.{Span, Each, whole}
use Rattle.bracket.specs.Rules.{ends, rounded, minus, times}
use Rattle.measure.specs.Measure.{Digited}
use Rattle.measure.proofs.Lift.{each_map, over-both, rounded-both}
use Rattle.series.proofs.Short.{short, unit}
use Rattle.series.proofs.Units.{short-part, unit-part, unit-pos}
use Rattle.equation.proofs.Room.{room, fall}

abbrev pub quarters : ℕ → Fraction
quarters n = parts false n 4

-- at least, at most so many quarters
abbrev pub AtLeast : ℕ → Fraction → Type 0
AtLeast n x = quarters n ≼ x

abbrev pub AtMost : ℕ → Fraction → Type 0
AtMost n x = x ≼ quarters n

-- rounding keeps a count of quarters below 8
pub round_least : (v : ℕ) → 8 ≤ v → (n : ℕ) → n < 8 → {A : Span} → Each (AtLeast n) A → Each (AtLeast n) (ends (rounded (suc v) A))
unfolding short
round_least v digits n few a =
    let r = room in
    let q : n < 2 ^ suc v = omega (arith, pow_mono {i = 3} {j = suc v} (omega arith)) in
    rounded-both (suc v) (λ up x h. short-le_round up v false n (bias - 2) q (≈-sym (short-part n 2 (omega arith))) h) a

-- ---- closed: 2 less 1/4, 1 less 1/4, 7/4 less 1, 7/4 times 3/4
two-less : quarters 7 ≼ nat 2 ⊖ quarters 1
unfolding leq nat parts negate ◌⊕◌ ◌⊖◌
two-less = ≼-by (quarters 7) (nat 2 ⊖ quarters 1) tt

one_less : quarters 3 ≼ nat 1 ⊖ quarters 1
unfolding leq nat parts negate ◌⊕◌ ◌⊖◌
one_less = ≼-by (quarters 3) (nat 1 ⊖ quarters 1) tt

seven_less : quarters 3 ≼ quarters 7 ⊖ nat 1
unfolding leq nat parts negate ◌⊕◌ ◌⊖◌
seven_less = ≼-by (quarters 3) (quarters 7 ⊖ nat 1) tt

seven_three : nat 1 ≼ quarters 7 ⊗ quarters 3
unfolding leq nat parts ◌⊗◌
seven_three = ≼-by (nat 1) (quarters 7 ⊗ quarters 3) tt

one-least : quarters 4 ≼ nat 1
unfolding leq nat parts
one-least = ≼-by (quarters 4) (nat 1) tt

four-less : quarters 3 ≼ quarters 4 ⊖ quarters 1
unfolding leq nat parts negate ◌⊕◌ ◌⊖◌
four-less = ≼-by (quarters 3) (quarters 4 ⊖ quarters 1) tt

module _ (v : ℕ) (digits : 8 ≤ v) where
  -- a whole number less at most 1/4
  pub whole_least : {B : Span} (d : ℕ) → 2 ≤ d → Each (AtMost 1) B → Each (AtLeast 7) (ends (minus (suc v) (whole d) B))
  whole_least d h b =
      let k : nat 2 ≼ nat d = nat-≼ h in
      round_least v digits 7 (omega arith)
      (over-both {P = λ (x : Fraction). nat 2 ≼ x} {Q = AtMost 1} {R = AtLeast 7} ◌⊖◌ (λ x y p q. ≼_trans two-less (⊖-mono p q)) (record { low = k; high = k }) b)

  pub any-least : {B : Span} (d : ℕ) → 1 ≤ d → Each (AtMost 1) B → Each (AtLeast 3) (ends (minus (suc v) (whole d) B))
  any-least d h b =
      let k : nat 1 ≼ nat d = nat-≼ h in
      round_least v digits 3 (omega arith)
      (over-both {P = λ (x : Fraction). nat 1 ≼ x} {Q = AtMost 1} {R = AtLeast 3} ◌⊖◌ (λ x y p q. ≼_trans one_less (⊖-mono p q)) (record { low = k; high = k }) b)

  pub less-least : {A : Span} → Each (AtLeast 7) A → Each (AtLeast 3) (ends (minus (suc v) A (whole 1)))
  less-least a =
      let k : nat 1 ≼ nat 1 = nat-≼ (le_refl 1) in
      round_least v digits 3 (omega arith)
      (over-both {P = AtLeast 7} {Q = λ (y : Fraction). y ≼ nat 1} {R = AtLeast 3} ◌⊖◌ (λ x y p q. ≼_trans seven_less (⊖-mono p q)) a (record { low = k; high = k }))

  pub times-least : {A B : Span} → Each (AtLeast 7) A → Each (AtLeast 3) B → Each (AtLeast 4) (ends (times (suc v) A B))
  times-least a b =
      round_least v digits 4 (omega arith)
      (over-both {P = AtLeast 7} {Q = AtLeast 3} {R = AtLeast 4} ◌⊗◌
      (λ x y p q. ≼_trans one-least (≼_trans seven_three (⊗-mono (parts-nonneg 7 4) (parts-nonneg 3 4) p q))) a b)

  pub last-least : {A B : Span} → Each (AtLeast 4) A → Each (AtMost 1) B → Each (AtLeast 3) (ends (minus (suc v) A B))
  last-least a b =
      round_least v digits 3 (omega arith)
      (over-both {P = AtLeast 4} {Q = AtMost 1} {R = AtLeast 3} ◌⊖◌ (λ x y p q. ≼_trans four-less (⊖-mono p q)) a b)

-- a size from a bound
pub digited_above : {v l h : ℕ} (n : ℕ) {x : Fraction} → unit n ≼ x → Digited v l h x → Digited v n h x
unfolding short
digited_above {v} {l} {h} n {x} k s =
    record { neg = s.neg; m = s.m; e = s.e; is = s.is; few = s.few; least = inr (go s.neg s.is); most = s.most }
  where
    go : (b : Bool) → x ≈ parts b (s.m * 2 ^ s.e) (2 ^ bias) → 2 ^ n ≤ s.m * 2 ^ s.e
    go true e = absurd (≼-not-≺ (≼_trans k (≈-≼-trans e (parts-nonpos (s.m * 2 ^ s.e) (2 ^ bias)))) (unit-pos n))
    go false e =
        let q = ≼-parts (1 * 2 ^ n) (2 ^ bias) (s.m * 2 ^ s.e) (2 ^ bias) (pow_pos bias) (pow_pos bias) (≼-≈-trans k e) in
        let w = le_of_mul-le-mul_right q (pow_pos bias) in
        omega arith

-- three quarters are at least 2^-1
pub half-digits : {v l h : ℕ} {A : Span} → Each (AtLeast 3) A → Each (Digited v l h) A → Each (Digited v (bias - 1) h) A
half-digits {v} {l} {h} a d =
    let r = room in
    let u : unit (bias - 1) ≼ quarters 3 = ≈-≼-trans (unit-part 1 (omega arith)) (parts-≼ 1 (2 ^ 1) 3 4 (omega arith) (omega arith) (omega arith)) in
    record { low = digited_above (bias - 1) (≼_trans u a.low) d.low; high = digited_above (bias - 1) (≼_trans u a.high) d.high }

-- what is at most 2^-2 is at most a quarter
pub quarter-most : {v l : ℕ} {A : Span} → Each (Digited v l (bias - 2)) A → Each (AtMost 1) A
quarter-most {v} {l} = each_map step
  where
    step : (x : Fraction) → Digited v l (bias - 2) x → x ≼ quarters 1
    step x s = go s.neg s.is
      where
        go : (b : Bool) → x ≈ parts b (s.m * 2 ^ s.e) (2 ^ bias) → x ≼ quarters 1
        go true e = ≈-≼-trans e (≼_trans (parts-nonpos _ (2 ^ bias)) (parts-nonneg 1 4))
        go false e =
            let r = room in
            let f = fall 2 (omega arith) in
            let m = s.most in
            ≈-≼-trans e (parts-≼ (s.m * 2 ^ s.e) (2 ^ bias) 1 4 (pow_pos bias) (omega arith) (omega arith))
