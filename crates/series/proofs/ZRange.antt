-- The range of z for r from 1/2 to 5/2: z lies from -1 to 1, and is zero or at least 2^-(v + 3) in size, since r - 1 is zero or at least one
-- part in 2^(suc v). Over the count of bits suc v. Assumes nothing.
use mathlib.Core.Path.{◌≡◌, ap, ◌∙◌}
use mathlib.Core.Bool.{false}
use Prim.Native.Nat.{ℕ, suc, ◌+◌, ◌-◌, ◌*◌, ◌^◌, ◌≤◌, ◌<◌}
use native.Mathlib.Nat.{le_trans}
use native.Mathlib.Omega.{arith}
use lib.Dec.{lit≤}
use lib.Pow.{pow_mono, pow-add}
use Rattle.exact.specs.Fraction.{Fraction, nat, parts, negate, leq, ◌⊕◌, ◌⊖◌, ◌⊘◌, ◌≼◌, ◌≺◌}
use Rattle.exact.proofs.Fraction.Order.{≼_refl, ≼_trans, ≺-≼-trans, ≼-by, ≈→≼, ≈-refl, ≈-sym, ≈-trans, ≈-≼-trans, ≼-≈-trans}
use Rattle.exact.proofs.Fraction.Sum.{⊕-mono, ⊖-mono, negate-anti, negate-cong}
use Rattle.exact.proofs.Fraction.Product.{⊗-cong, one-⊗, negate-⊗}
use Rattle.exact.proofs.Fraction.Quotient.{≼-⊘, ⊘-≼}
use Rattle.exact.proofs.Fraction.Parts.{parts-pos, nat-pos}
use Rattle.sheet.specs.Number.{bias, value, Spelled}
use Rattle.bracket.specs.declared.Bracket.{Bracket}
use Rattle.bracket.specs.Span.{Ordered, Each, whole, over}
use Rattle.bracket.specs.Held.{Ends}
use Rattle.bracket.specs.Rules.{ends, plus, minus, divided}
use Rattle.bracket.proofs.Inclusion.{combined-ordered}
use Rattle.bracket.proofs.Signs.{over-plus, over-minus}
use Rattle.bracket.proofs.Within.{point-ordered}
use Rattle.measure.specs.Measure.{Sized, Digited}
use Rattle.measure.proofs.Lift.{each_map, rounded-both, over-both}
use Rattle.measure.proofs.Measure.{⊘-sized, round_sized, digited_sized, sized_in}
use Rattle.measure.proofs.Sizes.{Positive, minus-whole}
use Rattle.series.proofs.Tight.{units-sized, units-digited, sized_tight}
use Rattle.series.specs.Logarithm.{ratio_z}
use Rattle.series.proofs.Short.{short, unit, unit-one, bias-room, high_unit, low-short, high_short, low_below}
use Rattle.series.proofs.Units.{short-le, unit-part, short-part, unit-nat}

-- ---- the fractions met
half-more : parts false 3 2 ≼ parts false 1 2 ⊕ nat 1
unfolding leq parts nat ◌⊕◌
half-more = ≼-by (parts false 3 2) (parts false 1 2 ⊕ nat 1) tt

five-more : parts false 5 2 ⊕ nat 1 ≼ nat 4
unfolding leq parts nat ◌⊕◌
five-more = ≼-by (parts false 5 2 ⊕ nat 1) (nat 4) tt

five-less : parts false 5 2 ⊖ nat 1 ≼ parts false 3 2
unfolding leq parts nat ◌⊕◌ ◌⊖◌ negate
five-less = ≼-by (parts false 5 2 ⊖ nat 1) (parts false 3 2) tt

half-less : negate (nat 1) ≼ parts false 1 2 ⊖ nat 1
unfolding leq parts nat ◌⊕◌ ◌⊖◌ negate
half-less = ≼-by (negate (nat 1)) (parts false 1 2 ⊖ nat 1) tt

one-half : nat 1 ≼ parts false 3 2
unfolding leq parts nat
one-half = ≼-by (nat 1) (parts false 3 2) tt

wide : short 5 (bias - 1) ≼ unit (bias + 2)
wide =
    let e : 2 ^ (bias + 2) ≡ 2 ^ (bias - 1) * 8 = ap (λ (i : ℕ). 2 ^ i) (omega (arith, bias-room)) ∙ pow-add 2 (bias - 1) 3 in
    short-le 5 (bias - 1) 1 (bias + 2) (omega arith)

few : (v m : ℕ) → 2 ≤ v → m < 8 → m < 2 ^ suc v
few v m h k = le_trans k (pow_mono {i = 3} (omega arith))

module _ (v : ℕ) (two : 2 ≤ v) (R : Bracket) (least : unit (bias - 1) ≼ value R.lo) (order : value R.lo ≼ value R.hi)
    (most : value R.hi ≼ short 5 (bias - 1)) where
  R-ordered : Ordered (ends R)
  R-ordered = record { order = order }

  half : parts false 1 2 ≼ value R.lo
  half = ≈-≼-trans (≈-sym (unit-part 1 (omega (arith, bias-room)))) least

  five : value R.hi ≼ parts false 5 2
  five = ≼-≈-trans most (short-part 5 1 (omega (arith, bias-room)))

  -- ---- r + 1
  P : Bracket
  P = plus (suc v) (ends R) (whole 1)

  P-low : parts false 3 2 ≼ value P.lo
  unfolding P
  P-low =
      ≈-≼-trans (≈-sym (short-part 3 1 (omega (arith, bias-room))))
      (low-short v 3 (bias - 1) (over ◌⊕◌ (ends R) (whole 1)) (lit≤ tt) (few v 3 two (lit≤ tt))
      (≈-≼-trans (short-part 3 1 (omega (arith, bias-room)))
      (≼-≈-trans (≼_trans half-more (⊕-mono half (≼_refl (nat 1)))) (≈-sym (over-plus R-ordered (point-ordered (nat 1))).low))))

  P-high : value P.hi ≼ unit (bias + 2)
  unfolding P
  P-high =
      high_unit v (bias + 2) (over ◌⊕◌ (ends R) (whole 1))
      (≈-≼-trans (over-plus R-ordered (point-ordered (nat 1))).high
      (≼-≈-trans (≼_trans (⊕-mono five (≼_refl (nat 1))) five-more) (≈-sym (unit-nat 2))))

  P-order : value P.lo ≼ value P.hi
  unfolding P
  P-order = (combined-ordered v ◌⊕◌ (ends R) (whole 1)).order

  -- ---- r - 1
  M : Bracket
  M = minus (suc v) (ends R) (whole 1)

  M-order : value M.lo ≼ value M.hi
  unfolding M
  M-order = (combined-ordered v ◌⊖◌ (ends R) (whole 1)).order

  M-low : negate (unit bias) ≼ value M.lo
  unfolding M
  M-low =
      low_below v 1 bias (over ◌⊖◌ (ends R) (whole 1)) (lit≤ tt) (few v 1 two (lit≤ tt))
      (≈-≼-trans (negate-cong unit-one)
      (≼-≈-trans (≼_trans half-less (⊖-mono half (≼_refl (nat 1)))) (≈-sym (over-minus R-ordered (point-ordered (nat 1))).low)))

  M-high : value M.hi ≼ parts false 3 2
  unfolding M
  M-high =
      ≼-≈-trans
      (high_short v 3 (bias - 1) (over ◌⊖◌ (ends R) (whole 1)) (lit≤ tt) (few v 3 two (lit≤ tt))
      (≈-≼-trans (over-minus R-ordered (point-ordered (nat 1))).high
      (≼-≈-trans (≼_trans (⊖-mono five (≼_refl (nat 1))) five-less) (≈-sym (short-part 3 1 (omega (arith, bias-room)))))))
      (short-part 3 1 (omega (arith, bias-room)))

  -- ---- z from -1 to 1
  pub z_high : value (ratio_z (suc v) R).hi ≼ unit bias
  unfolding ratio_z M P
  z_high =
      high_unit v bias (over ◌⊘◌ (ends M) (ends P))
      (≼-≈-trans
      (over-both {P = λ (x : Fraction). x ≼ parts false 3 2} {Q = λ (y : Fraction). parts false 3 2 ≼ y} {R = λ (x : Fraction). x ≼ nat 1} ◌⊘◌
      (λ x y a b. ⊘-≼ (pos b) (≼-≈-trans (≼_trans a b) (≈-sym (one-⊗ y))))
      (record { low = ≼_trans M-order M-high; high = M-high }) (record { low = P-low; high = ≼_trans P-low P-order })).high
      (≈-sym unit-one))
    where
      pos : {y : Fraction} → parts false 3 2 ≼ y → nat 0 ≺ y
      pos h = ≺-≼-trans (parts-pos 3 2 (lit≤ tt)) h

  pub z_low : negate (unit bias) ≼ value (ratio_z (suc v) R).lo
  unfolding ratio_z M P
  z_low =
      low_below v 1 bias (over ◌⊘◌ (ends M) (ends P)) (lit≤ tt) (few v 1 two (lit≤ tt))
      (over-both {P = λ (x : Fraction). negate (unit bias) ≼ x} {Q = λ (y : Fraction). nat 1 ≼ y} {R = λ (x : Fraction). negate (unit bias) ≼ x} ◌⊘◌
      (λ x y a b.
      ≼-⊘ (≺-≼-trans (nat-pos (lit≤ tt)) b)
      (≼_trans (≈→≼ (negate-⊗ (unit bias) y)) (≼_trans (negate-anti (≈-≼-trans unit-one (≼-≈-trans b (≈-trans (≈-sym (one-⊗ y)) (⊗-cong (≈-sym unit-one) (≈-refl y)))))) a)))
      (record { low = M-low; high = ≼_trans M-low M-order }) (record { low = one; high = ≼_trans one P-order })).low
    where
      one : nat 1 ≼ value P.lo
      one = ≼_trans one-half P-low

  -- ---- z is zero or at least 2^-(v + 3)
  module _ (spelled : Ends (Spelled v) R) (room : v + 3 ≤ bias) where
    pub r_digited : Each (Digited v (bias - 1) (bias + 2)) (ends R)
    r_digited =
        let top = ≼_trans most wide in
        record {
          low = units-digited v R.lo spelled.lo least (≼_trans order top);
          high = units-digited v R.hi spelled.hi (≼_trans least order) top;
        }

    M-sized : Each (Sized (bias - suc v) (bias + 3)) (ends M)
    unfolding M
    M-sized =
        each_map (λ x d. sized_in (omega arith) (omega arith) (digited_sized d))
        (minus-whole v {k = bias - suc v} {h = bias + 2} {l = bias - 1} 1 (omega arith) (lit≤ tt) (let p = pow_mono {i = bias} {j = bias + 2} (omega arith) in omega arith)
        r_digited)

    P-positive : Each (Positive bias (bias + 2)) (ends P)
    P-positive =
        let one = ≼_trans one-half P-low in
        let u = ≈-≼-trans unit-one one in
        record {
          low = record { above = ≺-≼-trans (nat-pos (lit≤ tt)) one; sized = units-sized u (≼_trans P-order P-high) };
          high = record { above = ≺-≼-trans (nat-pos (lit≤ tt)) (≼_trans one P-order); sized = units-sized (≼_trans u P-order) P-high };
        }

    pub less-sized : Each (Sized (bias - suc v) (bias + 3)) (ends (minus (suc v) (ends R) (whole 1)))
    unfolding M
    less-sized = M-sized

    pub more-positive : Each (Positive bias (bias + 2)) (ends (plus (suc v) (ends R) (whole 1)))
    unfolding P
    more-positive = P-positive

    pub z_sized : Each (Sized (bias - (v + 3)) bias) (ends (ratio_z (suc v) R))
    unfolding ratio_z M P
    z_sized =
        let d : Each (Sized (bias - (v + 3)) (bias + 3)) (ends (divided (suc v) (ends M) (ends P))) =
        rounded-both (suc v) (λ up x k. digited_sized (round_sized up v k))
        (over-both {P = Sized (bias - suc v) (bias + 3)} {Q = Positive bias (bias + 2)} {R = Sized (bias - (v + 3)) (bias + 3)} ◌⊘◌
        (λ x y s t. ⊘-sized (omega arith) (omega arith) t.above s t.sized) M-sized P-positive) in
        let o = (combined-ordered v ◌⊘◌ (ends M) (ends P)).order in
        record {
          low = sized_tight bias z_low (≼_trans o z_high) d.low;
          high = sized_tight bias (≼_trans z_low o) z_high d.high;
        }
