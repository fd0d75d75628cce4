-- A product of two words by columns of 26 digits, and what is cut of it. Assumes nothing.
use mathlib.Core.Path.{◌≡◌, refl, sym, ap, ◌∙◌, subst}
use mathlib.Core.Logic.{◌⊎◌, ⊎_elim}
use mathlib.Core.Bool.{Bool, true, false, not}
use Prim.Native.Nat.{ℕ, suc, ◌+◌, ◌*◌, ◌/◌, ◌%◌, ◌^◌, ◌≤◌, ◌<◌}
use native.Mathlib.Nat.{lt_of_le_of_lt, le_of_lt, mul-le-mul, mul-le-mul_left, le-div_iff_mul-le, div-add-mod', mod-lt, zero-mul, mul-zero, zero-div}
use native.Mathlib.Omega.{arith}
use borrow.Author.Tests.{eqb-true, eqb-false}
use lib.Dec.{eqb}
use lib.Pow.{pow_pos, shl_lt, shr_lt, high}
use Rattle.sheet.specs.Magnitude.{Place}
use Rattle.sheet.specs.Number.{Digits}
use Rattle.sheet.specs.Range.{Width}
use Rattle.sheet.specs.Steps.{CutBy}
use Rattle.sheet.proofs.Places.{place_cut, place_cut_exact}

pub mul_lt_pow : {a b : ℕ} (s t : ℕ) → a < 2 ^ s → b < 2 ^ t → a * b < 2 ^ (s + t)
mul_lt_pow {a} s t ha hb = lt_of_le_of_lt (mul-le-mul_left a (le_of_lt hb)) (shl_lt s t ha)

-- digits known as an upper part and t lower ones: the lower ones are cut
pub cut-split : (t q r m e : ℕ) → m ≡ q * 2 ^ t + r → r < 2 ^ t → CutBy t (record { m = m; sticky = false; e = e }) (record { m = q; sticky = not (eqb r 0); e = e + t })
cut-split t q r m e h l = record { digits = whole; place = refl; keeps = λ num den p. kept num den p (eqb r 0) refl }
  where
    whole : q ≡ m / 2 ^ t
    whole = sym (ap (λ (x : ℕ). x / 2 ^ t) h ∙ high q t l)

    kept : (num den : ℕ) → Place m false e num den → (b : Bool) → eqb r 0 ≡ b → Place q (not b) (e + t) num den
    kept num den p true z = rw whole (place_cut_exact t (let k : r ≡ 0 = eqb-true r 0 z in let g : q * 2 ^ t ≡ m = omega arith in rw whole at g) p)
    kept num den p false z = rw whole (place_cut t (λ g. let f : q * 2 ^ t ≡ m = rw (← whole) at g in eqb-false r 0 z (omega arith)) p)

-- two numbers of two parts each, multiplied by columns
pub columns : (P ah al bh bl : ℕ)
    → (ah * P + al) * (bh * P + bl)
    ≡ (ah * bh + (ah * bl + al * bh + al * bl / P) / P) * (P * P) + ((ah * bl + al * bh + al * bl / P) % P * P + al * bl % P)
columns P ah al bh bl =
    let low = al * bl in
    let mid = ah * bl + al * bh + low / P in
    let e : low / P * P + low % P ≡ low = div-add-mod' low P in
    let f : mid / P * P + mid % P ≡ mid = div-add-mod' mid P in
    let g : (mid / P * P + mid % P) * P ≡ mid * P = ap (λ (x : ℕ). x * P) f in
    omega arith

-- the four products fit a word
pub record Columns (a b : ℕ) : Type 0 where
  pub low : a % 2 ^ 26 * (b % 2 ^ 26) < 2 ^ 52
  pub one : a / 2 ^ 26 * (b % 2 ^ 26) < 2 ^ 53
  pub two : a % 2 ^ 26 * (b / 2 ^ 26) < 2 ^ 53
  pub top : a / 2 ^ 26 * (b / 2 ^ 26) < 2 ^ 54

pub columns_of : (a b : ℕ) → a < 2 ^ 53 → b < 2 ^ 53 → Columns a b
columns_of a b h k =
    let ah : a / 2 ^ 26 < 2 ^ 27 = shr_lt 27 26 h in
    let bh : b / 2 ^ 26 < 2 ^ 27 = shr_lt 27 26 k in
    let al : a % 2 ^ 26 < 2 ^ 26 = mod-lt a (pow_pos 26) in
    let bl : b % 2 ^ 26 < 2 ^ 26 = mod-lt b (pow_pos 26) in
    record { low = mul_lt_pow 26 26 al bl; one = mul_lt_pow 27 26 ah bl; two = mul_lt_pow 26 27 al bh; top = mul_lt_pow 27 27 ah bh }

-- ---- which width it is

pub wider : {v : ℕ} → Width v → (v ≡ 31 → ⊥) → v ≡ 52
wider w n = ⊎_elim (λ e. absurd (n e)) (λ e. e) w.either

pub below_at : {v m : ℕ} (k : ℕ) → v ≡ k → m < 2 ^ suc v → m < 2 ^ suc k
below_at k e h = rw e at h

pub digits-at : {v m : ℕ} (k : ℕ) → v ≡ k → Digits v m → Digits k m
digits-at k e h = rw e at h

-- ---- the digits of a product without the last v

-- two numbers of suc v digits have suc v of them or one more
pub product_digits : (v am bm m : ℕ) → m ≡ am * bm / 2 ^ v → Digits v am → Digits v bm → (2 ^ v ≤ m) × (m < 2 ^ suc (suc v))
product_digits v am bm m e h k = (
  rw e ((le-div_iff_mul-le (pow_pos v)).1 (mul-le-mul h.low k.low)),
  rw e (shr_lt (suc (suc v)) v (subst (λ (n : ℕ). am * bm < 2 ^ n) (let g : suc v + suc v ≡ suc (suc v) + v = omega arith in g) (mul_lt_pow (suc v) (suc v) h.high k.high))),
)

-- a factor zero leaves none
pub product_none : (v am bm m : ℕ) → m ≡ am * bm / 2 ^ v → (am ≡ 0) ⊎ (bm ≡ 0) → m ≡ 0
product_none v am bm m e z = e ∙ ap (λ (n : ℕ). n / 2 ^ v) (⊎_elim (λ a. ap (λ (n : ℕ). n * bm) a ∙ zero-mul bm) (λ b. ap (λ (n : ℕ). am * n) b ∙ mul-zero am) z) ∙ zero-div (2 ^ v)
