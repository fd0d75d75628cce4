-- Numbers of at most suc v digits, whatever their place, survive the rounding of a span to a bracket of suc v bits; powers of two are
-- such, in units of the sheet numbers. Assumes nothing.
use mathlib.Core.Logic.{⊎_elim}
use mathlib.Core.Path.{subst}
use native.Mathlib.Nat.{mul-le-mul_right}
use Prim.Native.Nat.{◌+◌, ◌<◌}
use Rattle.sheet.proofs.Gaps.{zero_or_pos}
use Rattle.bracket.proofs.Kept.{low_keeps, high_keeps}
use mathlib.Core.Path.{◌≡◌, refl, sym, ap, ◌∙◌}
use mathlib.Core.Bool.{false}
use Prim.Native.Nat.{ℕ, suc, ◌*◌, ◌-◌, ◌^◌, ◌≤◌, min}
use native.Mathlib.Omega.{arith}
use lib.Dec.{lit≤}
use lib.Ieee.{size}
use lib.Ieee.Digits.{size-lt, size-le, size_reaches}
use native.Mathlib.Nat.{mul_assoc, lt_of_lt_of_le}
use lib.Pow.{shl_lt, pow_pos, pow-lt, pow_mono, pow-add}
use Rattle.exact.proofs.Fraction.Sum.{negate-cong}
use Rattle.sheet.specs.Number.{negate_sheet}
use Rattle.sheet.proofs.Laws.{negate-value, negate-spelled}
use Rattle.exact.specs.Fraction.{negate, Fraction, nat, parts, ◌≼◌, ◌≈◌}
use Rattle.exact.proofs.Fraction.Order.{≈-of-≡, ≈-trans, ≈-sym, ≈-≼-trans, ≼-≈-trans}
use Rattle.exact.proofs.Fraction.Parts.{parts-≈, parts-nat}
use Rattle.sheet.specs.declared.Sheet.{Sheet}
use Rattle.sheet.specs.Number.{bias, value, Spelled}
use Rattle.bracket.specs.Span.{Span}
use Rattle.bracket.specs.Rules.{rounded}

-- m · 2^l units
unfoldable pub short : ℕ → ℕ → Fraction
short m l = parts false (m * 2 ^ l) (2 ^ bias)

-- a power of two
abbrev pub unit : ℕ → Fraction
unit l = short 1 l

-- its digits moved up as far as there is room
shift : ℕ → ℕ → ℕ → ℕ
shift v m l = min (suc v - size m) l

spell : ℕ → ℕ → ℕ → Sheet
spell v m l = record { neg = false; m = m * 2 ^ shift v m l; e = l - shift v m l }

spell-spelled : (v m l : ℕ) → 0 < m → m < 2 ^ suc v → Spelled v (spell v m l)
unfolding spell shift
spell-spelled v m l p h =
    let t = min (suc v - size m) l in
    let n = size-le m (suc v) h in
    let fits : m * 2 ^ t < 2 ^ suc v = lt_of_lt_of_le (shl_lt (size m) t (size-lt m)) (pow_mono (omega arith)) in
    record { fit = record { small = fits; full = λ q. enough q }; plain = λ e. refl }
  where
    enough : 0 < l - min (suc v - size m) l → 2 ^ v ≤ m * 2 ^ min (suc v - size m) l
    enough q =
        let t = min (suc v - size m) l in
        let n = size-le m (suc v) h in
        let some : 0 < size m = ⊎_elim (λ z. absurd (let g : m < 2 ^ 0 = subst (λ (i : ℕ). m < 2 ^ i) z (size-lt m) in omega arith)) (λ z. z) (zero_or_pos (size m)) in
        let e : v ≡ size m - 1 + t = omega arith in
        subst (λ (i : ℕ). i ≤ m * 2 ^ t) (sym (ap (λ (i : ℕ). 2 ^ i) e ∙ pow-add 2 (size m - 1) t))
        (mul-le-mul_right (2 ^ t) (size_reaches m (size m - 1) (omega arith)))

spell-value : (v m l : ℕ) → value (spell v m l) ≈ short m l
unfolding spell shift value short
spell-value v m l =
    let t = min (suc v - size m) l in
    let e : 2 ^ t * 2 ^ (l - t) ≡ 2 ^ l = sym (pow-add 2 t (l - t)) ∙ ap (λ (n : ℕ). 2 ^ n) (omega arith) in
    ≈-of-≡ (ap (λ (n : ℕ). parts false n (2 ^ bias)) (mul_assoc m (2 ^ t) (2 ^ (l - t)) ∙ ap (λ (n : ℕ). m * n) e))

module _ (v m l : ℕ) (A : Span) (p : 0 < m) (h : m < 2 ^ suc v) where
  pub low-short : short m l ≼ A.low → short m l ≼ value (rounded (suc v) A).lo
  low-short k =
      ≈-≼-trans (≈-sym (spell-value v m l)) (low_keeps v A (spell v m l) (spell-spelled v m l p h) (≈-≼-trans (spell-value v m l) k))

  pub high_short : A.high ≼ short m l → value (rounded (suc v) A).hi ≼ short m l
  high_short k =
      ≼-≈-trans (high_keeps v A (spell v m l) (spell-spelled v m l p h) (≼-≈-trans k (≈-sym (spell-value v m l)))) (spell-value v m l)

  -- and below zero
  pub low_below : negate (short m l) ≼ A.low → negate (short m l) ≼ value (rounded (suc v) A).lo
  low_below k =
      ≈-≼-trans (≈-sym below)
      (low_keeps v A (negate_sheet (spell v m l)) (negate-spelled v (spell v m l) (spell-spelled v m l p h)) (≈-≼-trans below k))
    where
      below : value (negate_sheet (spell v m l)) ≈ negate (short m l)
      below = ≈-trans (negate-value (spell v m l)) (negate-cong (spell-value v m l))

module _ (v l : ℕ) (A : Span) where
  pub low-unit : unit l ≼ A.low → unit l ≼ value (rounded (suc v) A).lo
  low-unit k = low-short v 1 l A (lit≤ tt) (pow-lt {i = 0} (omega arith)) k

  pub high_unit : A.high ≼ unit l → value (rounded (suc v) A).hi ≼ unit l
  high_unit k = high_short v 1 l A (lit≤ tt) (pow-lt {i = 0} (omega arith)) k

-- the bias is far above every exponent met
pub bias-room : 100000 ≤ bias
unfolding bias
bias-room = lit≤ tt

pub unit-one : unit bias ≈ nat 1
unfolding short
unit-one = ≈-trans (parts-≈ false (1 * 2 ^ bias) (2 ^ bias) 1 1 (pow_pos bias) (lit≤ tt) (omega arith)) (parts-nat 1)

pub low-one : (v : ℕ) (A : Span) → nat 1 ≼ A.low → nat 1 ≼ value (rounded (suc v) A).lo
low-one v A h = ≈-≼-trans (≈-sym unit-one) (low-unit v bias A (≈-≼-trans unit-one h))
