-- Doubling an f64 of the size of a density is exact. Assumes nothing.
use Prim.Native.Nat.{ℕ, ◌+◌, ◌*◌, ◌^◌, ◌≤◌, ◌<◌}
use mathlib.Core.Path.{◌≡◌, refl, sym, subst}
use mathlib.Core.Bool.{Bool, true, false, xor}
use native.Mathlib.Omega.{arith}
use native.Mathlib.Nat.{lt_of_le_of_lt, mul-pos}
use lib.IntN.{pos}
use lib.Dec.{T, lit<}
use lib.Pow.{pow_pos}
use lib.Ieee.{Float, nan, inf, fin, binary64, round, mul, fits}
use lib.Ieee.Exact.{HasValue, round_exact}
use lib.Ieee.Positive.{positive, positive-finite, mul_at, positive_of_value, value_pos}
use Rattle.exact.specs.Fraction.{nat, parts, ◌⊗◌, ◌≼◌, ◌≈◌}
use Rattle.exact.proofs.Fraction.Order.{≈-sym, ≈-trans, ≼_trans, ≈→≽}
use Rattle.exact.proofs.Fraction.Parts.{parts-nat, parts-⊗, ≼-parts}
use Rattle.exact.proofs.Fraction.Product.{⊗-cong}
use Rattle.doubles.specs.Double.{exact_of}
use Rattle.doubles.proofs.Pattern.{in_units, value-exact}
use Rattle.doubles.proofs.Shift.{pow_one}

abbrev pub two : Float
two = fin false 1 (pos 1)

plus : (x : Float) (s : Bool) (a c : ℕ) → T (positive x) → HasValue x s a c → HasValue x false a c
plus nan s a c p v = v
plus (inf t) s a c p v = v
plus (fin true m e) s a c p v = absurd p
plus (fin false m e) s a c p v = (refl, v.1)

-- twice d * 2^p, in any unit 1 / c
twice : (d p c : ℕ) → d * 2 ^ p * 2 * c ≡ d * 2 ^ (p + 1) * (c * 1)
twice d p c = rw (pow_one p) (omega arith)

small : (d p c : ℕ) → d * 2 ^ p * 1 ≤ 2576 * c → d * 2 ^ (p + 1) ≤ 8192 * c
small d p c h = rw (pow_one p) (omega arith)

pub doubling : (v : Float) → T (fits binary64 v) → T (positive v) → exact_of v ≼ nat 2576
    → T (positive (mul binary64 v two)) × (exact_of (mul binary64 v two) ≈ exact_of v ⊗ nat 2)
unfolding xor
doubling v holds above low =
    let u = in_units v holds (positive-finite v above) in
    let a = u.digits * 2 ^ u.place in
    let w = mul binary64 v two in
    let val : HasValue v false a (2 ^ 1074) = plus v u.sign a (2 ^ 1074) above u.value in
    let own : exact_of v ≈ parts false a (2 ^ 1074) = value-exact v false a (2 ^ 1074) (pow_pos 1074) val in
    let most = ≼-parts a (2 ^ 1074) 2576 1 (pow_pos 1074) (lit< tt) (≼_trans (≈→≽ own) (≼_trans low (≈→≽ (parts-nat 2576)))) in
    let fine : u.digits * 2 ^ (u.place + 1) < 2 ^ 2098 = lt_of_le_of_lt (small u.digits u.place (2 ^ 1074) most) (lit< tt) in
    let is : HasValue (round binary64 false (a * 2) (2 ^ 1074 * 1)) false (a * 2) (2 ^ 1074 * 1) =
    round_exact binary64 false (a * 2) (2 ^ 1074 * 1) u.digits (u.place + 1) (lit< tt) u.few fine (twice u.digits u.place (2 ^ 1074)) in
    let got : HasValue w false (a * 2) (2 ^ 1074 * 1) = subst (λ (x : Float). HasValue x false (a * 2) (2 ^ 1074 * 1)) (sym (mul_at binary64 v two a (2 ^ 1074) 2 1 above tt (pow_pos 1074) (lit< tt) val (refl, refl))) is in (
      positive_of_value w (a * 2) (2 ^ 1074 * 1) got (mul-pos (value_pos v a (2 ^ 1074) above (pow_pos 1074) val) (lit< tt)),
      ≈-trans (value-exact w false (a * 2) (2 ^ 1074 * 1) (lit< tt) got)
          (≈-trans (≈-sym (parts-⊗ false false a (2 ^ 1074) 2 1 (pow_pos 1074) (lit< tt))) (⊗-cong (≈-sym own) (parts-nat 2))),
    )
